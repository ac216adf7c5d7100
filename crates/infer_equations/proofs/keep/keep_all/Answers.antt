use Rattle.std.proofs.Common.{◌≡◌, ℕ, ◌≤◌, cond, length, get_or, refl, sym, ◌∙◌, ap, subst, arith}
use Rattle.std.specs.Prelude.{None, nat_eq}
use Rattle.std.specs.List.{list_any}
use Rattle.std.specs.FinMap.{get}
use Rattle.infer_equations.proofs.Keeping.{Moved, listed_at, moved-none, moved-more, moved-all, moved-back, err_of, ok_of}
use Rattle.infer_equations.proofs.keep.keep_all.Goals as goal

pub loop-var-init : goal.loop-var-init
loop-var-init c = moved-none _ _ _

pub loop-var-preserved : goal.loop-var-preserved
loop-var-preserved c =
    let ok = sym c.is_err.ensures.value ∙ c.if-is_err.false in
    moved-more c.args.work.now c.args.own.now c.args.run.now c.loop-var.var-index (get_or c.args.run.now c.loop-var.var-index 0) c.loop-var.work c.loop-var.own _ _
    c.loop-var.invariant (c.requires.apart _ (listed_at c.args.run.now c.loop-var.var-index c.loop-var-test.true)) refl (ok_of c.keep_one.result _ ok c.keep_one.ensures.kept) c.keep_one.ensures.rest

pub returns-then-is_err-clause-err : goal.returns-then-is_err-clause-err
returns-then-is_err-clause-err c =
    let err = sym c.is_err.ensures.value ∙ c.if-is_err.true in
    let same : c.keep_one.new.own ≡ c.loop-var.own = err_of c.keep_one.result _ err c.keep_one.ensures.err in
    moved-back c.args.work.now c.args.own.now c.args.run.now c.loop-var.var-index c.loop-var.work c.loop-var.own c.give_up.new.own c.requires.apart c.requires.stored c.loop-var.invariant
    (λ v. c.give_up.ensures v ∙ ap (λ m. cond (list_any (nat_eq v) c.args.run.now) None (get m v)) same)

same_end : (i n : ℕ) → i ≤ n → n ≤ i → i ≡ n
same_end i n h k = omega arith

pub returns-clause-ok : goal.returns-clause-ok
returns-clause-ok c =
    moved-all c.args.work.now c.args.own.now c.args.run.now c.loop-var.work c.loop-var.own c.requires.stored
    (subst (λ n. Moved c.args.work.now c.args.own.now c.args.run.now n c.loop-var.work c.loop-var.own) (same_end c.loop-var.var-index (length c.args.run.now) (omega arith) (omega arith)) c.loop-var.invariant)
