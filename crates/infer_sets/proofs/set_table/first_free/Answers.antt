use Rattle.std.proofs.Common.{sym, ◌∙◌, arith}
use Rattle.infer_sets.specs.Slots.{slot_at}
use Rattle.infer_sets.proofs.Slots.{live-there, held-next}
use Rattle.infer_sets.proofs.set_table.first_free.Goals as goal

pub loop-probe-preserved : goal.loop-probe-preserved
loop-probe-preserved c =
    let e = sym c.live.ensures ∙ c.in-Some.is in
    let t = live-there c.args.len c.in-Some.field-0 (slot_at c.args.slots.now.entries c.args.digest c.loop-probe.probe) e in
    let le = c.requires c.args.digest c.loop-probe.probe c.in-Some.field-0 t.0 in
    let lt = t.1 in (
      omega (arith, le, lt),
      held-next (slot_at c.args.slots.now.entries) c.args.len c.args.digest c.loop-probe.probe c.in-Some.field-0 e c.loop-probe.invariant.1,
    )
