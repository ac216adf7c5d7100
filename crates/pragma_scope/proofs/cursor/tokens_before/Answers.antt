use Rattle.std.proofs.Common.{◌∙◌, ◌≤◌, length, arith}
use Rattle.pragma_scope.proofs.CursorLaws.{counted_end, counted_on, counted_start, counted_stop}
use Rattle.pragma_scope.proofs.cursor.tokens_before.Goals as goal

pub loop-i-init : goal.loop-i-init
loop-i-init c = counted_start c.args.tokens.now c.args.place c.args.from c.requires

pub returns-then-place-token : goal.returns-then-place-token
returns-then-place-token c = counted_stop c.args.tokens.now c.args.place c.loop-i.i c.token-token.result c.loop-i.invariant c.token-token.ensures.value c.if-place-token.true

pub loop-i-preserved : goal.loop-i-preserved
loop-i-preserved c = counted_on c.args.tokens.now c.args.place c.loop-i.i c.token-token.result c.loop-i.invariant c.token-token.ensures.value c.if-place-token.false

pub returns : goal.returns
returns c =
    let many : length c.args.tokens.now.tokens ≤ c.loop-i.i = omega arith in
    c.count-count.ensures ∙ counted_end c.args.tokens.now c.args.place c.loop-i.i c.loop-i.invariant many
