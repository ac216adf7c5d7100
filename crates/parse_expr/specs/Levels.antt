-- The rows of operators between operands, by their level.
use Rattle.std.specs.Prelude.{ℕ, List}
use Rattle.tree_nodes.specs.declared.kind.Kind.{Kind}
use Rattle.tree_nodes.specs.declared.kind.Kind.TheVariants as kinds
use Rattle.py_grammar.specs.declared.entry.Entry.{Entry}
use Rattle.py_grammar.specs.Words.{or_word, and_word, bar, caret, ampersand, shift_operator, sum_operator, product_operator}
use Rattle.py_grammar.specs.Firsts.{comparison_first}
use Rattle.py_grammar.specs.Nodes.{operator_leaf}
use Rattle.py_grammar.specs.Reading.{LineReader, token, leaf, row_, and_at, not_at, comparison_sign_at, bit_or_at, bit_xor_at, bit_and_at, shift_at, arith_at, term_at, factor_at}
use Rattle.parse_expr.specs.declared.level.Level.{Level}
use Rattle.parse_expr.specs.declared.level.Level.TheVariants as levels

-- with what an operator begins
abbrev pub level_first : Level → List ℕ
level_first levels.Or = or_word
level_first levels.And = and_word
level_first levels.Comparison = comparison_first
level_first levels.BitOr = bar
level_first levels.BitXor = caret
level_first levels.BitAnd = ampersand
level_first levels.Shift = shift_operator
level_first levels.Sum = sum_operator
level_first levels.Product = product_operator

-- the node over the operands
abbrev pub level_kind : Level → Kind
level_kind levels.Or = kinds.BoolOr
level_kind levels.And = kinds.BoolAnd
level_kind levels.Comparison = kinds.Comparison
level_kind levels.BitOr = kinds.BitwiseOr
level_kind levels.BitXor = kinds.BitwiseXor
level_kind levels.BitAnd = kinds.BitwiseAnd
level_kind levels.Shift = kinds.Shift
level_kind levels.Sum = kinds.Sum
level_kind levels.Product = kinds.Product

module _ (self : Entry → LineReader) where
  -- an operator
  abbrev pub operator_at : Level → LineReader
  operator_at levels.Or = token or_word
  operator_at levels.And = token and_word
  operator_at levels.Comparison = comparison_sign_at self
  operator_at levels.BitOr = token bar
  operator_at levels.BitXor = token caret
  operator_at levels.BitAnd = token ampersand
  operator_at levels.Shift = leaf operator_leaf shift_operator
  operator_at levels.Sum = leaf operator_leaf sum_operator
  operator_at levels.Product = leaf operator_leaf product_operator

  -- an operand
  abbrev pub within_at : Level → LineReader
  within_at levels.Or = and_at self
  within_at levels.And = not_at self
  within_at levels.Comparison = bit_or_at self
  within_at levels.BitOr = bit_xor_at self
  within_at levels.BitXor = bit_and_at self
  within_at levels.BitAnd = shift_at self
  within_at levels.Shift = arith_at self
  within_at levels.Sum = term_at self
  within_at levels.Product = factor_at self

  -- operands with operators between them
  abbrev pub level_at : Level → LineReader
  level_at level = row_ (level_kind level) (level_first level) (operator_at level) (within_at level)
