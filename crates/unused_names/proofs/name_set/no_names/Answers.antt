use Rattle.unused_names.proofs.Sets.{no_names_yet}
use Rattle.unused_names.proofs.name_set.no_names.Goals as goal

pub returns : goal.returns
returns c = no_names_yet c.new.result c.new.ensures.empty
