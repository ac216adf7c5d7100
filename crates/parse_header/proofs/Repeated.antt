-- No parameter and no item of a `with` statement leaves more than was there.
use Rattle.std.proofs.Common.{ℕ, List}
use Rattle.tree_nodes.specs.declared.kind.Kind.TheVariants as kinds
use Rattle.py_language.specs.Languages.{whole}
use Rattle.py_language.specs.Readers.{both}
use Rattle.py_grammar.specs.declared.entry.Entry.{Entry}
use Rattle.py_grammar.specs.declared.entry.Entry.TheVariants as e
use Rattle.py_grammar.specs.Words as w
use Rattle.py_grammar.specs.Nodes.{spanning, called, first_text, second_text, plain_leaf}
use Rattle.py_grammar.specs.Expressions.{star_parameter, bound, is_one_target}
use Rattle.py_grammar.specs.Reading.{LineReader, token}
use Rattle.py_grammar.specs.ReadingHeaders.{parameter_annotation_at, star_annotation_at, parameter_at, with_item_at}
use Rattle.py_grammar.specs.ReadingLines.{phrase_at}
use Rattle.parse_steps.proofs.Shrinking.{Keeps, Shrinks, keeps, shrinks_skipped, shrinks_shown, keeps_both, shrinks_both, keeps_choose, keeps_optional, keeps_made, keeps_where}
use Rattle.parse_steps.proofs.Keeping.{AllKeep, keeps_phrase, keeps_target_item}
use Rattle.parse_header.specs.declared.part.Part.{Part}
use Rattle.parse_header.specs.declared.part.Part.TheVariants as parts
use Rattle.parse_header.specs.Parts.{part_at}

keeps_behind : {p : LineReader} (set : List ℕ) → Keeps p → Keeps (both (token set) p)
keeps_behind set A = keeps_both (keeps (shrinks_skipped set)) A

module _ (self : Entry → LineReader) (k : AllKeep self) where
  keeps_parameter_annotation : Keeps (parameter_annotation_at self)
  unfolding parameter_annotation_at
  keeps_parameter_annotation = keeps_behind w.colon (keeps_made (whole (spanning kinds.Annotation)) (k e.Test))

  keeps_star_annotation : Keeps (star_annotation_at self)
  unfolding star_annotation_at
  keeps_star_annotation =
      keeps_behind w.colon (keeps_choose w.star (keeps_made (whole (spanning kinds.StarAnnotation)) (keeps_behind w.star (k e.BitOr))) (keeps_made (whole (spanning kinds.Annotation)) (k e.Test)))

  keeps_parameter : Keeps (parameter_at self)
  unfolding parameter_at
  keeps_parameter =
      keeps_choose w.name (keeps_made (whole (called kinds.Parameter first_text)) (keeps_behind w.name (keeps_both (keeps_optional w.colon keeps_parameter_annotation) (keeps_optional w.assign (keeps_behind w.assign (k e.Test))))))
      (keeps_choose w.slash (keeps (shrinks_shown (plain_leaf kinds.PositionalOnlyMark) w.slash))
      (keeps_choose w.star (keeps_made star_parameter (keeps_behind w.star (keeps_optional w.name (keeps_behind w.name (keeps_optional w.colon keeps_star_annotation)))))
      (keeps_made (whole (called kinds.DoubleStarParameter second_text)) (keeps_behind w.double_star (keeps_behind w.name (keeps_optional w.colon keeps_parameter_annotation))))))

  keeps_with_item : Keeps (with_item_at self)
  unfolding with_item_at
  keeps_with_item =
      keeps_made (whole (spanning kinds.WithItem)) (keeps_both (k e.Test) (keeps_optional w.as_word (keeps_behind w.as_word (keeps_made bound (keeps_where is_one_target (keeps_target_item self k))))))

pub keeps_part : (n : ℕ) (p : Part) → Keeps (part_at (phrase_at n) p)
keeps_part n parts.Parameter = keeps_parameter (phrase_at n) (keeps_phrase n)
keeps_part n parts.WithItem = keeps_with_item (phrase_at n) (keeps_phrase n)

-- a comma and an item
pub shrinks_item : (n : ℕ) → Shrinks (both (token w.comma) (with_item_at (phrase_at n)))
shrinks_item n = shrinks_both (shrinks_skipped w.comma) (keeps_with_item (phrase_at n) (keeps_phrase n))
