use Rattle.std.proofs.Common.{◌≡◌, sym, ◌∙◌, ap}
use Rattle.std.specs.Prelude.{Some}
use Rattle.std.proofs.lemmas.Result.{IfOk-weaker}
use Rattle.infer_equations.specs.Seen.{solved}
use Rattle.infer_plain.proofs.Sweeps.{found_work, no_work}
use Rattle.infer_plain.proofs.plain.copy_of.Goals as goal

pub unreachable-requires : goal.unreachable-requires
unreachable-requires c = no_work (solved c.args.view.now) c.args.view.now.work c.args.var c.requires.none c.requires.known (sym (c.in-None.ensures.value))

pub returns : goal.returns
returns c =
    IfOk-weaker c.copy.result _ _ (λ s h. found_work (solved c.args.view.now) c.args.view.now.work c.args.var c.requires.none ∙ sym c.in-Some.ensures.value ∙ ap Some (sym (h ∙ c.set.ensures))) c.copy.ensures
