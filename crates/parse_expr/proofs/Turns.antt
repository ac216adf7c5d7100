-- What is left behind an operator and an operand is shorter.
use Rattle.std.proofs.Common.{ℕ}
use Rattle.py_language.specs.Readers.{both}
use Rattle.py_grammar.specs.Words.{or_word, and_word, bar, caret, ampersand, shift_operator, sum_operator, product_operator}
use Rattle.py_grammar.specs.Nodes.{operator_leaf}
use Rattle.py_grammar.specs.ReadingLines.{phrase_at}
use Rattle.parse_steps.proofs.Shrinking.{Keeps, Shrinks, shrinks_skipped, shrinks_shown, shrinks_both}
use Rattle.parse_steps.proofs.Keeping.{keeps_phrase, keeps_and, keeps_not, keeps_bit_or, keeps_bit_xor, keeps_bit_and, keeps_shift, keeps_arith, keeps_term, keeps_factor, shrinks_comparison_sign}
use Rattle.parse_expr.specs.declared.level.Level.{Level}
use Rattle.parse_expr.specs.declared.level.Level.TheVariants as levels
use Rattle.parse_expr.specs.Levels.{operator_at, within_at}

shrinks_operator : (n : ℕ) (l : Level) → Shrinks (operator_at (phrase_at n) l)
shrinks_operator n levels.Or = shrinks_skipped or_word
shrinks_operator n levels.And = shrinks_skipped and_word
shrinks_operator n levels.Comparison = shrinks_comparison_sign (phrase_at n)
shrinks_operator n levels.BitOr = shrinks_skipped bar
shrinks_operator n levels.BitXor = shrinks_skipped caret
shrinks_operator n levels.BitAnd = shrinks_skipped ampersand
shrinks_operator n levels.Shift = shrinks_shown operator_leaf shift_operator
shrinks_operator n levels.Sum = shrinks_shown operator_leaf sum_operator
shrinks_operator n levels.Product = shrinks_shown operator_leaf product_operator

keeps_within : (n : ℕ) (l : Level) → Keeps (within_at (phrase_at n) l)
keeps_within n levels.Or = keeps_and (phrase_at n) (keeps_phrase n)
keeps_within n levels.And = keeps_not (phrase_at n) (keeps_phrase n)
keeps_within n levels.Comparison = keeps_bit_or (phrase_at n) (keeps_phrase n)
keeps_within n levels.BitOr = keeps_bit_xor (phrase_at n) (keeps_phrase n)
keeps_within n levels.BitXor = keeps_bit_and (phrase_at n) (keeps_phrase n)
keeps_within n levels.BitAnd = keeps_shift (phrase_at n) (keeps_phrase n)
keeps_within n levels.Shift = keeps_arith (phrase_at n) (keeps_phrase n)
keeps_within n levels.Sum = keeps_term (phrase_at n) (keeps_phrase n)
keeps_within n levels.Product = keeps_factor (phrase_at n) (keeps_phrase n)

pub shrinks_turn : (n : ℕ) (l : Level) → Shrinks (both (operator_at (phrase_at n) l) (within_at (phrase_at n) l))
shrinks_turn n l = shrinks_both (shrinks_operator n l) (keeps_within n l)
