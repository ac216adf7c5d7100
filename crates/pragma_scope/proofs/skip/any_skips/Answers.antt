use Rattle.std.proofs.Common.{rules, tests, lit<}
use Rattle.std.proofs.lemmas.Iterator.Search.{any_from_yields_List}
use Rattle.std.proofs.lemmas.Iterator.Splits.{YieldsList-from_str_split}
use Rattle.pragma_scope.specs.Actions.{skips_in}
use Rattle.pragma_scope.proofs.skip.any_skips.Goals as goal

pub returns : goal.returns
returns c =
    any_from_yields_List skips_in _ _ c.any.result c.any.ensures.ran
    (YieldsList-from_str_split 35 c.args.text.now (lit< tt) c.split.ensures.text c.split.ensures.has_more c.split.ensures.pattern)
    (λ x b q k. search (rules, tests))
