use Rattle.std.proofs.Common.{◌-◌, ◌+◌, sym, ◌∙◌, ap}
use Rattle.infer_lazy.specs.Waiting.{with_places, places}
use Rattle.infer_lazy.proofs.Places.{places-next, places-none}
use Rattle.infer_lazy.proofs.waiting.Waiting.add_from.Goals as goal

pub loop-place-preserved : goal.loop-place-preserved
loop-place-preserved c =
    let k = c.loop-place.place in
    let end = c.args.end in
    ap (λ ps. with_places ps (places (k + 1) (end - (k + 1)))) c.in_ok-add.ensures
    ∙ ap (λ qs. with_places c.loop-place.self qs) (sym (places-next k end c.loop-place-test.true))
    ∙ c.loop-place.invariant

pub returns : goal.returns
returns c = ap (λ qs. with_places c.loop-place.self qs) (sym (places-none c.loop-place.place c.args.end c.loop-place-test.false)) ∙ c.loop-place.invariant
