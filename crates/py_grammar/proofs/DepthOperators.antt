-- How deep the rows of operators lead back: each looser row stands below a node that weighs, or within brackets, so that
-- where the rows in which they lead back carry at k, they carry at k + 1.
use Rattle.std.proofs.Common.{◌≡◌, ℕ, suc, Bool, true, false, cond, List, [], ◌∷◌, refl}
use Rattle.tree_nodes.specs.declared.kind.Kind.TheVariants as kinds
use Rattle.py_language.proofs.Carrying.{carried_heavy}
use Rattle.py_grammar.specs.declared.entry.Entry.{Entry}
use Rattle.py_grammar.specs.declared.entry.Entry.TheVariants as e
use Rattle.py_grammar.specs.declared.symbol.Symbol.TheVariants as s
use Rattle.py_grammar.specs.Terminals.{Terminal, Form, code, is_one_of, first_of}
use Rattle.py_grammar.specs.Words.{name, plain_string, byte_string, format_string, format_string_end, simple_atom, opens, closes, and_word, await_word, else_word, if_word, in_word, is_word, lambda_word, not_word, or_word, colon, dot, assign, star, double_star, slash, bar, caret, ampersand, sign, shift_operator, sum_operator, product_operator, comparison_operator}
use Rattle.py_grammar.specs.Nodes.{first_text, second_text, last_text, strings_text, atom_leaf, operator_leaf, plain_leaf}
use Rattle.py_grammar.specs.Tests.{parameters_in_order}
use Rattle.py_grammar.specs.Weights.{weight}
use Rattle.py_grammar.specs.Expressions.{string_node, sign_node, star_parameter, keyword_only_behind_star, Trailed, FieldExpression, InnerField, Field, StringPart, Strings, Atom, Primary, Awaited, Power, Factor, Term, Arith, Shift, BitAnd, BitXor, BitOr, ComparisonSign, Comparison, Not, And, Or, LambdaParameter, LambdaParameters, Lambda, Test}
use Rattle.py_grammar.proofs.DepthBuilding.{Carries, Leads, one_less, carry_token, carry_leaf, carry_then, carry_behind, carry_either, carry_maybe, carry_many, carry_some, carry_where, carry_steps, carry_over, carry_over_same, carry_whole, carry_node, carry_named_node, carry_heavy, carry_row, carry_commas, carry_brackets, carry_field}
use Rattle.py_grammar.proofs.Weighing.{keywords_keep}
use Rattle.py_grammar.proofs.DepthExpressions.{carries_sx, carries_yield, carries_parenthesized, carries_list_display, carries_brace_display, carries_call_arguments, carries_slices}

-- each sign makes a node that weighs
sign_weighs : (ts : List Terminal) → weight (sign_node ts).kind ≡ 1
sign_weighs ts = go (is_one_of (s.Plus ∷ []) (first_of ts)) (is_one_of (s.Minus ∷ []) (first_of ts))
  where
    go : (plus minus : Bool) → weight (cond plus kinds.UnaryPlus (cond minus kinds.UnaryMinus kinds.UnaryInvert)) ≡ 1
    go true minus = refl
    go false true = refl
    go false false = refl

module _ (L M : Entry → Form) (k : ℕ) (known : Leads k L M) where
  -- ---- strings with their fields

  carries_field_expression : Carries k (FieldExpression L) (FieldExpression M)
  unfolding FieldExpression
  carries_field_expression = carry_either (carries_yield L M k known) (carries_sx L M k known)

  carries_inner_field : Carries (suc k) (InnerField L) (InnerField M)
  unfolding InnerField
  carries_inner_field = carry_node kinds.Field (carry_field carries_field_expression)

  carries_field : Carries (suc k) (Field L) (Field M)
  unfolding Field
  carries_field = carry_node kinds.Field (carry_field (carry_then carries_field_expression (carry_many (one_less carries_inner_field))))

  carries_string_part : Carries (suc k) (StringPart L) (StringPart M)
  unfolding StringPart
  carries_string_part = carry_either (carry_token plain_string refl refl) (carry_behind format_string refl refl (carry_then (carry_many carries_field) (carry_token format_string_end refl refl)))

  pub carries_strings : Carries (suc k) (Strings L) (Strings M)
  unfolding Strings
  carries_strings = carry_either (carry_named_node kinds.BytesLiteral strings_text (carry_some (carry_token byte_string refl refl))) (carry_whole string_node (carry_some carries_string_part))

  -- ---- atoms and what trails them

  carries_atom : Carries (suc k) (Atom L) (Atom M)
  unfolding Atom
  carries_atom =
      carry_either (carry_leaf atom_leaf simple_atom refl refl)
      (carry_either carries_strings (carry_either (carries_parenthesized L M k known) (carry_either (carries_list_display L M k known) (carries_brace_display L M k known))))

  carries_trailed : (a b : Form) → Carries (suc k) a b → Carries (suc k) (Trailed L a) (Trailed M b)
  unfolding Trailed
  carries_trailed a b C =
      carry_either (carry_named_node kinds.Attribute last_text (carry_then C (carry_behind dot refl refl (carry_token name refl refl))))
      (carry_either (carry_node kinds.Call (carry_then C (carries_call_arguments L M k known))) (carry_node kinds.Subscript (carry_then C (carry_brackets (carries_slices L M k known)))))

  carries_primary : Carries (suc k) (Primary L) (Primary M)
  unfolding Primary
  carries_primary = carry_steps (Trailed L) (Trailed M) carries_trailed carries_atom

  -- ---- the rows of operators

  carries_awaited : Carries (suc k) (Awaited L) (Awaited M)
  unfolding Awaited
  carries_awaited = carry_either (carry_node kinds.Await (carry_behind await_word refl refl carries_primary)) carries_primary

  carries_power : Carries (suc k) (Power L) (Power M)
  unfolding Power
  carries_power = carry_either carries_awaited (carry_heavy kinds.Power refl (carry_then (one_less carries_awaited) (carry_behind double_star refl refl (known e.Factor))))

  pub carries_factor : Carries (suc k) (Factor L) (Factor M)
  unfolding Factor
  carries_factor = carry_either (carried_heavy code opens closes weight sign_node sign_weighs (carry_behind sign refl refl (known e.Factor))) carries_power

  carries_term : Carries (suc k) (Term L) (Term M)
  unfolding Term
  carries_term = carry_row kinds.Product (carry_leaf operator_leaf product_operator refl refl) carries_factor

  carries_arith : Carries (suc k) (Arith L) (Arith M)
  unfolding Arith
  carries_arith = carry_row kinds.Sum (carry_leaf operator_leaf sum_operator refl refl) carries_term

  carries_shift : Carries (suc k) (Shift L) (Shift M)
  unfolding Shift
  carries_shift = carry_row kinds.Shift (carry_leaf operator_leaf shift_operator refl refl) carries_arith

  carries_bit_and : Carries (suc k) (BitAnd L) (BitAnd M)
  unfolding BitAnd
  carries_bit_and = carry_row kinds.BitwiseAnd (carry_token ampersand refl refl) carries_shift

  carries_bit_xor : Carries (suc k) (BitXor L) (BitXor M)
  unfolding BitXor
  carries_bit_xor = carry_row kinds.BitwiseXor (carry_token caret refl refl) carries_bit_and

  pub carries_bit_or : Carries (suc k) (BitOr L) (BitOr M)
  unfolding BitOr
  carries_bit_or = carry_row kinds.BitwiseOr (carry_token bar refl refl) carries_bit_xor

  carries_comparison_sign : Carries (suc k) (ComparisonSign L) (ComparisonSign M)
  unfolding ComparisonSign
  carries_comparison_sign =
      carry_either (carry_leaf operator_leaf comparison_operator refl refl)
      (carry_either (carry_node kinds.NotIn (carry_behind not_word refl refl (carry_token in_word refl refl)))
      (carry_either (carry_node kinds.IsNot (carry_behind is_word refl refl (carry_token not_word refl refl))) (carry_node kinds.Is (carry_token is_word refl refl))))

  carries_comparison : Carries (suc k) (Comparison L) (Comparison M)
  unfolding Comparison
  carries_comparison = carry_row kinds.Comparison carries_comparison_sign carries_bit_or

  pub carries_not : Carries (suc k) (Not L) (Not M)
  unfolding Not
  carries_not = carry_either (carry_heavy kinds.Not refl (carry_behind not_word refl refl (known e.Not))) carries_comparison

  carries_and : Carries (suc k) (And L) (And M)
  unfolding And
  carries_and = carry_row kinds.BoolAnd (carry_token and_word refl refl) carries_not

  pub carries_or : Carries (suc k) (Or L) (Or M)
  unfolding Or
  carries_or = carry_row kinds.BoolOr (carry_token or_word refl refl) carries_and

  -- ---- lambdas and tests

  carries_lambda_parameter : Carries k (LambdaParameter L) (LambdaParameter M)
  unfolding LambdaParameter
  carries_lambda_parameter =
      carry_either (carry_named_node kinds.Parameter first_text (carry_behind name refl refl (carry_maybe (carry_behind assign refl refl (known e.Test)))))
      (carry_either (carry_leaf (plain_leaf kinds.PositionalOnlyMark) slash refl refl)
      (carry_either (carry_over_same star_parameter (carry_behind star refl refl (carry_maybe (carry_token name refl refl))))
      (carry_named_node kinds.DoubleStarParameter second_text (carry_behind double_star refl refl (carry_token name refl refl)))))

  carries_lambda_parameters : Carries k (LambdaParameters L) (LambdaParameters M)
  unfolding LambdaParameters
  carries_lambda_parameters = carry_over keyword_only_behind_star keywords_keep (carry_where parameters_in_order (carry_commas carries_lambda_parameter))

  carries_lambda : Carries (suc k) (Lambda L) (Lambda M)
  unfolding Lambda
  carries_lambda = carry_heavy kinds.Lambda refl (carry_behind lambda_word refl refl (carry_then (carry_maybe carries_lambda_parameters) (carry_behind colon refl refl (known e.Test))))

  pub carries_test : Carries (suc k) (Test L) (Test M)
  unfolding Test
  carries_test =
      carry_either carries_lambda (carry_either carries_or
      (carry_heavy kinds.Conditional refl (carry_then (one_less carries_or) (carry_behind if_word refl refl (carry_then (one_less carries_or) (carry_behind else_word refl refl (known e.Test)))))))
