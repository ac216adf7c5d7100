use Rattle.std.proofs.Common.{◌≡◌, sym, ◌∙◌, ap}
use Rattle.std.proofs.lemmas.Result.{IfOk-weaker}
use Rattle.std.specs.FinMap as map
use Rattle.infer_equations.proofs.Valued.{keys-valued}
use Rattle.infer_equations.proofs.table.Table.variables.Goals as goal

pub returns : goal.returns
returns c = IfOk-weaker c.variables.result _ _ (λ v h. h ∙ sym (keys-valued c.self.inside.sets c.self.inside.ids) ∙ ap (λ m. map.keys m) c.self.view_is) c.variables.ensures
