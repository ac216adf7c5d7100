use Rattle.std.proofs.Common.{sym, ◌∙◌, ap}
use Rattle.std.specs.FinMap as map
use Rattle.infer_equations.proofs.Valued.{len-valued}
use Rattle.infer_equations.proofs.table.Table.count.Goals as goal

pub returns : goal.returns
returns c = c.count.ensures ∙ sym (len-valued c.self.inside.sets c.self.inside.ids) ∙ ap (λ m. map.len m) c.self.view_is
