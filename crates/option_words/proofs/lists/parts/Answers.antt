use Rattle.std.proofs.Common.{◌∙◌, rules, lit<, filter, map, ap}
use Rattle.std.proofs.lemmas.Iterator.Consumers.{YieldsList-end}
use Rattle.std.proofs.lemmas.Iterator.Splits.{YieldsList-from_str_split}
use Rattle.option_words.specs.Values.{is_filled, trimmed}
use Rattle.option_words.proofs.lists.parts.Goals as goal

pub returns : goal.returns
returns c =
    let t = YieldsList-end (YieldsList-from_str_split 44 c.args.value.now (lit< tt) (search rules) (search rules) (search rules)) c.loop-part.yielded _ c.loop-part.yielded_by _ _ c.in-None.is c.next.ensures.steps in
    c.loop-part.invariant ∙ ap (λ xs. filter is_filled (map trimmed xs)) t.0
