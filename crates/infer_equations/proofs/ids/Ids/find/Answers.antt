use Rattle.std.proofs.Common.{◌∙◌, ap}
use Rattle.std.specs.FinMap.{get}
use Rattle.infer_equations.proofs.Entries.{get-entries_map}
use Rattle.infer_equations.proofs.ids.Ids.find.Goals as goal

pub returns : goal.returns
returns c = c.copied.ensures ∙ c.get.ensures.value ∙ get-entries_map c.self.inside.entries.entries c.args.var ∙ ap (λ m. get m c.args.var) c.self.view_is
