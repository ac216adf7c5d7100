use Rattle.std.proofs.Common.{rules, tests, lit<, ◌==◌, ◌||◌, length, ◌∙◌}
use Rattle.std.proofs.lemmas.Iterator.Search.{all_from_yields_List}
use Rattle.std.proofs.lemmas.Iterator.Splits.{YieldsList-from_str_split}
use Rattle.std.specs.List.{slice_split}
use Rattle.option_words.specs.Values.{is_comma, is_message_name, trimmed}
use Rattle.option_words.proofs.PartLaws.{all_kept}
use Rattle.option_words.proofs.lists.are_message_names.Goals as goal

pub returns : goal.returns
returns c =
    all_from_yields_List (λ part. length (trimmed part) == 0 || is_message_name (trimmed part)) _ _ c.all.result c.all.ensures.ran
    (YieldsList-from_str_split 44 c.args.value.now (lit< tt) c.split.ensures.text c.split.ensures.has_more c.split.ensures.pattern)
    (λ x b q k. search (rules, tests))
    ∙ all_kept is_message_name (slice_split is_comma c.args.value.now)
