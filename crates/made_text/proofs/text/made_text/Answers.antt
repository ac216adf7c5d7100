use Rattle.std.proofs.Common.{◌∙◌, arith}
use Rattle.made_text.proofs.TextLaws.{none_yet, one_more, first_is_short}
use Rattle.made_text.proofs.text.made_text.Goals as goal

pub loop-i-init : goal.loop-i-init
loop-i-init c =
    let none = none_yet _ c.in_ok-text.ensures.ok in
    record { text = none; short = first_is_short _ none }

pub loop-i-preserved : goal.loop-i-preserved
loop-i-preserved c = record {
  text = c.in_ok-push_class.ensures.text ∙ one_more _ c.loop-i.i c.loop-i.invariant.text;
  short = omega (arith, c.in_ok-push_class.ensures.short, c.loop-i.invariant.short);
}
