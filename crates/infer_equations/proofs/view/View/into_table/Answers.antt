use Rattle.std.proofs.Common.{◌∙◌, ap}
use Rattle.infer_equations.specs.Seen.{Seen}
use Rattle.infer_equations.proofs.Valued.{given-empty, valued-empty}
use Rattle.infer_equations.proofs.Copied.{taken_over-all, listed-keys}
use Rattle.infer_equations.proofs.view.View.into_table.Goals as goal

pub copy_all-requires-clause-new : goal.copy_all-requires-clause-new
copy_all-requires-clause-new c = given-empty _ _ c.new-ids.ensures

pub returns : goal.returns
returns c =
    c.in_ok-copy_all.ensures.ok
    ∙ taken_over-all _ _ _ (valued-empty _ _ c.new-ids.ensures) (listed-keys _ _ _ _ c.deref.ensures.value c.in_ok-variables.ensures)
    ∙ ap (λ (w : Seen). w.own) c.self.view_is
