use Rattle.std.proofs.Common.{◌≡◌, ◌∙◌, sym, arith, length}
use Rattle.scope_bind.proofs.ListLaws.{list_length, list_get}
use Rattle.scope_rules.specs.Binding.{makes_local}
use Rattle.scope_bind.proofs.known.bound_at.Goals as goal

pub bounds-bound-n : goal.bounds-bound-n
bounds-bound-n c = omega (arith, list_length (makes_local c.args.tree.now) _ c.args.bound.now c.requires.bound, c.requires.made)

pub returns : goal.returns
returns c = c.index-bound-n.is ∙ list_get (makes_local c.args.tree.now) _ c.args.bound.now c.args.n.0 c.index-bound-n.result c.requires.bound c.requires.made
