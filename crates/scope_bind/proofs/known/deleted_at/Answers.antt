use Rattle.std.proofs.Common.{◌≡◌, ◌∙◌, sym, arith, length}
use Rattle.scope_bind.proofs.ListLaws.{list_length, list_get}
use Rattle.scope_rules.specs.Answers.{is_deleted}
use Rattle.std.proofs.Common.{false}
use Rattle.scope_bind.proofs.known.deleted_at.Goals as goal

pub bounds-deleted-n : goal.bounds-deleted-n
bounds-deleted-n c = omega (arith, list_length (is_deleted c.args.tree.now) _ c.args.deleted.now c.requires.deleted, c.requires.made)

pub returns : goal.returns
returns c = list_get (is_deleted c.args.tree.now) _ c.args.deleted.now c.args.n.0 false c.requires.deleted c.requires.made
