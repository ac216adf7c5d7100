use Rattle.std.proofs.Common.{◌≡◌, ◌∙◌, sym, ap, Some}
use Rattle.tree_nodes.specs.Trees.{count_of}
use Rattle.scope_rules.specs.Nodes.{Name}
use Rattle.scope_rules.specs.Mangling.{spelled}
use Rattle.scope_bind.proofs.ListLaws.{list_get}
use Rattle.scope_bind.proofs.scopes.Scopes.spelled.Goals as goal

pub returns-in-Some : goal.returns-in-Some
returns-in-Some c = λ t h made.
    ap (λ (x : Name). Some x) c.as_str.ensures ∙ sym c.in-Some.is ∙ c.index.ensures ∙ list_get (spelled t) (count_of t) c.args.self.now.names.items c.args.n.0 c.index.result.now h.names made

pub returns-in-None : goal.returns-in-None
returns-in-None c = λ t h made. sym c.in-None.is ∙ c.index.ensures ∙ list_get (spelled t) (count_of t) c.args.self.now.names.items c.args.n.0 c.index.result.now h.names made
