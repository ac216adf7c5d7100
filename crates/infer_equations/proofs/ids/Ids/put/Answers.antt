use Rattle.std.proofs.Common.{◌∙◌, ap}
use Rattle.std.specs.FinMap.{insert}
use Rattle.infer_equations.proofs.Entries.{insert-entries_map}
use Rattle.infer_equations.proofs.ids.Ids.put.Goals as goal

pub returns-clause-ok : goal.returns-clause-ok
returns-clause-ok c = insert-entries_map c.self.inside.entries.entries _ c.args.var c.args.id c.in_ok-insert.ensures.updates.0 ∙ ap (λ m. insert m c.args.var c.args.id) c.self.view_is
