use Rattle.std.proofs.Common.{rules}
use Rattle.pragma_scope.proofs.CommentLaws.{boundary_behind_blanks}
use Rattle.pragma_scope.proofs.comment.without_blanks.Goals as goal

pub range_from-requires : goal.range_from-requires
range_from-requires c some = boundary_behind_blanks c.args.text.now c.first_blanks.result c.utf8.text (search rules) some
