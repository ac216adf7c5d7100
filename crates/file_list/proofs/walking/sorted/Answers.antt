use Rattle.std.proofs.Common.{rules, subst, sym}
use Rattle.file_list.proofs.Taken.{sorted_names}
use Rattle.file_list.proofs.walking.sorted.Goals as goal

pub returns : goal.returns
returns c = sorted_names c.args.names c.sort_unstable.new.self.items (search rules) c.sort_unstable.ensures.sorted
