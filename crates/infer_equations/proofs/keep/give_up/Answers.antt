use Rattle.std.proofs.Common.{cond, drop, get_or, sym, ◌∙◌, ap, ◌+◌}
use Rattle.std.specs.Prelude.{None, nat_eq}
use Rattle.std.specs.List.{list_any}
use Rattle.std.specs.FinMap.{get}
use Rattle.infer_equations.proofs.Keeping.{drop-next, taken-more}
use Rattle.infer_equations.proofs.keep.give_up.Goals as goal

pub loop-var-preserved : goal.loop-var-preserved
loop-var-preserved c = λ v.
    let run = c.args.run.now in
    let i = c.loop-var.var-index in
    ap (λ m. cond (list_any (nat_eq v) (drop (i + 1) run)) None (get m v)) c.take.ensures.rest
    ∙ taken-more c.loop-var.own (get_or run i 0) v (drop (i + 1) run)
    ∙ ap (λ vs. cond (list_any (nat_eq v) vs) None (get c.loop-var.own v)) (sym (drop-next run i c.loop-var-test.true))
    ∙ c.loop-var.invariant v
