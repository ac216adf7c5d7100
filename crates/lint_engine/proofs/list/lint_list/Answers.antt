use Rattle.std.proofs.Common.{◌+◌, length, get_or, ap, ◌∙◌, arith}
use Rattle.lint_engine.proofs.ShownLaws.{one_more, all_told, all_rest}
use Rattle.lint_engine.proofs.list.lint_list.Goals as goal

pub loop-i-preserved : goal.loop-i-preserved
loop-i-preserved g c =
    let same = ap length c.entries-listed-items.ensures.entries in
    let at = c.listed-item.is ∙ ap (λ l. get_or l c.loop-i.i c.listed-item.result) c.entries-listed-items.ensures.entries in record {
      goes_on = one_more c.args.options.now c.args.reading.now c.loop-i.i c.listed-item.result (record { messages = c.loop-i.messages; statements = c.loop-i.statements }) c.in_ok-found.found _
          (omega (arith, same)) at (λ i. record { messages = c.in_ok-append.ensures.ok i; statements = c.loop-i.statements + c.in_ok-found.found.statements }) c.in_ok-found.ensures.shown c.loop-i.invariant.goes_on;
      few = omega (arith, c.loop-i.invariant.few, c.in_ok-found.ensures.few);
      short = all_rest _ c.args.reading.now c.loop-i.i c.listed-item.result (omega (arith, same)) c.loop-i.invariant.short;
    }

pub returns : goal.returns
returns g c =
    let same = ap length c.entries-listed-items.ensures.entries in
    all_told c.args.options.now c.args.reading.now c.loop-i.i (record { messages = c.loop-i.messages; statements = c.loop-i.statements }) (omega (arith, same)) c.loop-i.invariant.goes_on
