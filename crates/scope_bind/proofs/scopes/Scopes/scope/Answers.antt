use Rattle.std.proofs.Common.{◌≡◌, ◌∙◌, sym}
use Rattle.tree_nodes.specs.Trees.{count_of}
use Rattle.scope_rules.specs.Kinds.{opens}
use Rattle.scope_rules.specs.Nodes.{kind_of}
use Rattle.scope_bind.proofs.ListLaws.{list_get}
use Rattle.scope_bind.proofs.AskLaws.{opened_then, opened_else}
use Rattle.scope_bind.proofs.scopes.Scopes.scope.Goals as goal

pub returns-then-index : goal.returns-then-index
returns-then-index c = λ t h made.
    opened_then t c.args.n.0 (sym (list_get (λ m. opens (kind_of t m)) (count_of t) c.args.self.now.openers.items c.args.n.0 c.index.result.now h.openers made) ∙ sym c.index.ensures ∙ c.if-index.true)

pub returns-else-index : goal.returns-else-index
returns-else-index c = λ t h made.
    opened_else t c.args.n.0 (sym (list_get (λ m. opens (kind_of t m)) (count_of t) c.args.self.now.openers.items c.args.n.0 c.index.result.now h.openers made) ∙ sym c.index.ensures ∙ c.if-index.false)
