use Rattle.std.proofs.Common.{◌≡◌, ◌∙◌}
use Rattle.tree_nodes.specs.Trees.{count_of}
use Rattle.scope_rules.specs.Places.{around}
use Rattle.scope_bind.proofs.ListLaws.{list_get}
use Rattle.scope_bind.proofs.scopes.Scopes.around.Goals as goal

pub returns : goal.returns
returns c = λ t h made. c.index.ensures ∙ list_get (around t) (count_of t) c.args.self.now.places.items c.args.n.0 c.index.result.now h.places made
