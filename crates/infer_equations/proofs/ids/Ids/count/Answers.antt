use Rattle.std.proofs.Common.{◌∙◌, ap}
use Rattle.std.specs.FinMap as map
use Rattle.infer_equations.proofs.Entries.{len-ascending}
use Rattle.infer_equations.proofs.ids.Ids.count.Goals as goal

pub returns : goal.returns
returns c = c.len.ensures.len ∙ len-ascending c.self.inside.entries.entries c.len.ensures.ordered ∙ ap (λ m. map.len m) c.self.view_is
