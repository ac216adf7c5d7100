use Rattle.std.proofs.Common.{◌≡◌, ◌∙◌}
use Rattle.tree_nodes.specs.Trees.{count_of}
use Rattle.scope_rules.specs.Reading.{answer_of}
use Rattle.scope_bind.proofs.ListLaws.{list_get}
use Rattle.scope_bind.proofs.AskLaws.{answer_named}
use Rattle.scope_bind.proofs.scopes.Scopes.resolve.Goals as goal

pub returns : goal.returns
returns c = λ t h made named.
    c.index.ensures ∙ list_get (answer_of t) (count_of t) c.args.self.now.answers.items c.args.load.0 c.index.result.now h.answers made ∙ answer_named t c.args.load.0 named
