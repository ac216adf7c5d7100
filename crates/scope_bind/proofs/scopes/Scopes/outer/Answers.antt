use Rattle.std.proofs.Common.{◌≡◌, ◌∙◌, arith}
use Rattle.tree_nodes.specs.Trees.{count_of}
use Rattle.scope_rules.specs.Places.{around}
use Rattle.scope_bind.proofs.ListLaws.{list_get}
use Rattle.scope_bind.proofs.AskLaws.{outer_inside}
use Rattle.scope_bind.proofs.scopes.Scopes.outer.Goals as goal

pub returns-else-s-eq0 : goal.returns-else-s-eq0
returns-else-s-eq0 c = λ t h made.
    outer_inside t c.args.s.0 c.index.result.now (λ e. absurd (omega (arith, c.if-s-eq0.false, e))) (c.index.ensures ∙ list_get (around t) (count_of t) c.args.self.now.places.items c.args.s.0 c.index.result.now h.places made)
