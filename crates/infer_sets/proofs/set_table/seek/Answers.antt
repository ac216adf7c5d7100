use Rattle.std.proofs.Common.{◌≡◌, true, false, length, refl, sym, ◌∙◌, subst, arith}
use Rattle.infer_sets.specs.Numbers.{is_same}
use Rattle.infer_sets.specs.Slots.{slot_at}
use Rattle.infer_sets.proofs.Growth.{get_or_any}
use Rattle.infer_sets.proofs.Slots.{live-there, finds-some, finds-none, passed-next}
use Rattle.infer_sets.proofs.set_table.seek.Goals as goal

pub returns-then-same : goal.returns-then-same
returns-then-same c =
    let e = sym c.live.ensures ∙ c.in-Some.is in
    let t = live-there (length c.args.sets.now) c.in-Some.id (slot_at c.args.slots.now.entries c.args.digest c.loop-id.probe) e in
    finds-some c.args.sets.now (slot_at c.args.slots.now.entries) c.args.set.now c.args.digest c.loop-id.probe c.in-Some.id e
    (subst (λ z. is_same z c.args.set.now ≡ true) (get_or_any _ _ c.in-Some.id _ refl t.1 c.index-sets-id.is) (sym c.same.ensures ∙ c.if-same.true))

pub loop-id-preserved : goal.loop-id-preserved
loop-id-preserved c =
    let e = sym c.live.ensures ∙ c.in-Some.is in
    let t = live-there (length c.args.sets.now) c.in-Some.id (slot_at c.args.slots.now.entries c.args.digest c.loop-id.probe) e in
    let le = c.requires.reached.least c.args.digest c.loop-id.probe c.in-Some.id t.0 in
    let lt = t.1 in (
      omega (arith, le, lt),
      passed-next c.args.sets.now (slot_at c.args.slots.now.entries) c.args.set.now c.args.digest c.loop-id.probe c.in-Some.id t.0
          (subst (λ z. is_same z c.args.set.now ≡ false) (get_or_any _ _ c.in-Some.id _ refl t.1 c.index-sets-id.is) (sym c.same.ensures ∙ c.if-same.false)) c.loop-id.invariant.1,
    )

pub returns : goal.returns
returns c =
    finds-none c.args.sets.now (slot_at c.args.slots.now.entries) c.args.set.now c.args.digest c.loop-id.probe c.requires.reached c.requires.digest c.loop-id.invariant.1 (sym c.live.ensures ∙ c.in_default.is)
