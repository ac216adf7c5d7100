use Rattle.std.proofs.Common.{rules}
use Rattle.option_words.proofs.BlankLaws.{boundary_behind_blanks}
use Rattle.option_words.proofs.lists.without_first_blanks.Goals as goal

pub range_from-requires : goal.range_from-requires
range_from-requires c some = boundary_behind_blanks c.args.text.now c.first_blanks.result c.utf8.text (search rules) some
