use Rattle.std.proofs.Common.{◌∙◌, ap}
use Rattle.std.specs.FinMap.{get, remove}
use Rattle.infer_equations.proofs.Entries.{get-entries_map, remove-entries_map}
use Rattle.infer_equations.proofs.ids.Ids.take.Goals as goal

pub returns-clause-value : goal.returns-clause-value
returns-clause-value c = c.remove.ensures.value ∙ get-entries_map c.self.inside.entries.entries c.args.var ∙ ap (λ m. get m c.args.var) c.self.view_is

pub returns-clause-rest : goal.returns-clause-rest
returns-clause-rest c = remove-entries_map c.self.inside.entries.entries _ c.args.var c.remove.ensures.updates.0 ∙ ap (λ m. remove m c.args.var) c.self.view_is
