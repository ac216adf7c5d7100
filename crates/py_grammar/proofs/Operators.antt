-- Each reader of an expression agrees with its form: trailers, literals, atoms, and the rows of operators up to a test.
use Rattle.std.proofs.Common.{false, [], ◌∷◌, ◌++◌, refl}
use Rattle.tree_nodes.specs.declared.kind.Kind.TheVariants as kinds
use Rattle.py_language.specs.Languages.{Then, Either, whole}
use Rattle.py_language.specs.Readers.{both, choose_by_two}
use Rattle.py_language.proofs.Looking.{ReadsAlone, Looks, alone_by}
use Rattle.py_grammar.specs.declared.entry.Entry.{Entry}
use Rattle.py_grammar.specs.declared.entry.Entry.TheVariants as e
use Rattle.py_grammar.specs.Terminals.{Form, code}
use Rattle.py_grammar.specs.Words.{opens, closes, name, plain_string, byte_string, format_string, format_string_end, field_open, simple_atom, and_word, await_word, else_word, if_word, in_word, is_word, lambda_word, not_word, or_word, colon, dot, assign, star, double_star, slash, bar, caret, ampersand, sign, shift_operator, sum_operator, product_operator, comparison_operator}
use Rattle.py_grammar.specs.Firsts.{string_first, strings_first, atom_first, power_first, factor_first, not_first, test_first, value_first, trailer_first, comparison_first, parameter_first, entry_first}
use Rattle.py_grammar.specs.Nodes.{spanning, first_text, second_text, last_text, strings_text, atom_leaf, operator_leaf, plain_leaf, Token, As}
use Rattle.py_grammar.specs.Tests.{parameters_in_order}
use Rattle.py_grammar.specs.Expressions.{string_node, sign_node, star_parameter, keyword_only_behind_star, Trailed, FieldExpression, InnerField, Field, StringPart, Strings, Atom, Primary, Awaited, Power, Factor, Term, Arith, Shift, BitAnd, BitXor, BitOr, ComparisonSign, Comparison, Not, And, Or, LambdaParameter, LambdaParameters, Lambda, Test}
use Rattle.py_grammar.specs.Reading.{LineReader, token, as_, trailer_at, field_expression_at, inner_field_at, field_at, string_part_at, strings_at, atom_at, primary_at, awaited_at, power_at, factor_at, term_at, arith_at, shift_at, bit_and_at, bit_xor_at, bit_or_at, comparison_sign_at, comparison_at, not_at, and_at, or_at, lambda_parameter_at, lambda_parameters_at, lambda_at, test_at}
use Rattle.py_grammar.proofs.FollowSets.{primary_more, factor_more, term_more, arith_more, shift_more, bit_and_more, bit_xor_more, bit_or_more, not_more, and_more, or_more, test_more, value_more, lambda_parameter_more, lambda_parameters_more, entry_more}
use Rattle.py_grammar.proofs.Building.{Reads, GoesOn, as_sets, a_token, a_leaf, in_a_row, behind_token, one_of, perhaps, any_number, one_or_more, by_two, over_it, under, a_node, a_named_node, a_node_behind, operands, with_commas, between_brackets, between_marks, a_node_from, a_named_node_from, from_one_of, maybe_one, steps_on}
use Rattle.py_grammar.proofs.Expressions.{reads_sx, reads_yield, reads_parenthesized, reads_list_display, reads_brace_display, reads_call_arguments, reads_slices}

module _ (P : Entry → LineReader) (L : Entry → Form) (known : (x : Entry) → Reads false (entry_first x) (entry_more x) (P x) (L x)) (alone : ReadsAlone code name test_more (P e.Test)) where
  -- ---- strings with their fields

  pub reads_field_expression : Reads false value_first value_more (field_expression_at P) (FieldExpression L)
  unfolding field_expression_at FieldExpression
  reads_field_expression = as_sets value_first value_more (one_of (reads_yield P L known alone) (reads_sx P L known alone) refl) refl refl

  pub reads_inner_field : Reads false field_open [] (inner_field_at P) (InnerField L)
  unfolding inner_field_at InnerField
  reads_inner_field = a_node kinds.Field (between_marks reads_field_expression refl)

  pub reads_field : Reads false field_open [] (field_at P) (Field L)
  unfolding field_at Field
  reads_field = a_node kinds.Field (between_marks (as_sets value_first (field_open ++ value_more) (in_a_row reads_field_expression (any_number reads_inner_field refl) refl) refl refl) refl)

  pub reads_string_part : Reads false string_first [] (string_part_at P) (StringPart L)
  unfolding string_part_at StringPart
  reads_string_part = as_sets string_first []
      (one_of (a_token plain_string refl refl) (as_sets format_string [] (behind_token format_string refl refl (in_a_row (any_number reads_field refl) (a_token format_string_end refl refl) refl)) refl refl) refl) refl refl

  pub reads_strings : Reads false strings_first strings_first (strings_at P) (Strings L)
  unfolding strings_at Strings
  reads_strings = as_sets strings_first strings_first
      (one_of (as_sets byte_string strings_first (a_named_node kinds.BytesLiteral strings_text (one_or_more (a_token byte_string refl refl) refl)) refl refl)
      (as_sets string_first strings_first (over_it (whole string_node) (one_or_more reads_string_part refl)) refl refl) refl) refl refl

  -- ---- atoms and what trails them

  pub reads_atom : Reads false atom_first strings_first (atom_at P) (Atom L)
  unfolding atom_at Atom
  reads_atom = as_sets atom_first strings_first
      (one_of (a_leaf atom_leaf simple_atom refl refl)
      (one_of reads_strings (one_of (reads_parenthesized P L known alone) (one_of (reads_list_display P L known alone) (reads_brace_display P L known alone) refl) refl) refl) refl) refl refl

  pub goes_on_trailer : GoesOn trailer_first [] (trailer_at P) (Trailed L)
  unfolding trailer_at Trailed
  goes_on_trailer =
      from_one_of (a_named_node_from kinds.Attribute last_text (as_sets dot [] (behind_token dot refl refl (a_token name refl refl)) refl refl))
      (from_one_of (a_node_from kinds.Call (reads_call_arguments P L known alone)) (a_node_from kinds.Subscript (between_brackets (reads_slices P L known alone) refl)) refl) refl

  pub reads_primary : Reads false atom_first primary_more (primary_at P) (Primary L)
  unfolding primary_at Primary
  reads_primary = as_sets atom_first primary_more (steps_on reads_atom goes_on_trailer refl refl) refl refl

  pub reads_awaited : Reads false power_first primary_more (awaited_at P) (Awaited L)
  unfolding awaited_at Awaited
  reads_awaited = as_sets power_first primary_more (one_of (as_sets await_word primary_more (a_node_behind kinds.Await await_word refl refl reads_primary) refl refl) reads_primary refl) refl refl

  pub reads_power : Reads false power_first factor_more (power_at P) (Power L)
  unfolding power_at Power
  reads_power = as_sets power_first factor_more
      (maybe_one reads_awaited (a_node_from kinds.Power (as_sets double_star factor_more (behind_token double_star refl refl (known e.Factor)) refl refl)) refl) refl refl

  -- ---- rows of operators

  pub reads_factor : Reads false factor_first factor_more (factor_at P) (Factor L)
  unfolding factor_at Factor
  reads_factor = as_sets factor_first factor_more (one_of (as_sets sign factor_more (over_it (whole sign_node) (behind_token sign refl refl (known e.Factor))) refl refl) reads_power refl) refl refl

  pub reads_term : Reads false factor_first term_more (term_at P) (Term L)
  unfolding term_at Term
  reads_term = operands kinds.Product term_more (a_leaf operator_leaf product_operator refl refl) reads_factor refl refl refl refl refl refl

  pub reads_arith : Reads false factor_first arith_more (arith_at P) (Arith L)
  unfolding arith_at Arith
  reads_arith = operands kinds.Sum arith_more (a_leaf operator_leaf sum_operator refl refl) reads_term refl refl refl refl refl refl

  pub reads_shift : Reads false factor_first shift_more (shift_at P) (Shift L)
  unfolding shift_at Shift
  reads_shift = operands kinds.Shift shift_more (a_leaf operator_leaf shift_operator refl refl) reads_arith refl refl refl refl refl refl

  pub reads_bit_and : Reads false factor_first bit_and_more (bit_and_at P) (BitAnd L)
  unfolding bit_and_at BitAnd
  reads_bit_and = operands kinds.BitwiseAnd bit_and_more (a_token ampersand refl refl) reads_shift refl refl refl refl refl refl

  pub reads_bit_xor : Reads false factor_first bit_xor_more (bit_xor_at P) (BitXor L)
  unfolding bit_xor_at BitXor
  reads_bit_xor = operands kinds.BitwiseXor bit_xor_more (a_token caret refl refl) reads_bit_and refl refl refl refl refl refl

  pub reads_bit_or : Reads false factor_first bit_or_more (bit_or_at P) (BitOr L)
  unfolding bit_or_at BitOr
  reads_bit_or = operands kinds.BitwiseOr bit_or_more (a_token bar refl refl) reads_bit_xor refl refl refl refl refl refl

  -- ---- comparisons

  plain_is : Reads false is_word [] (as_ kinds.Is (token is_word)) (As kinds.Is (Token is_word))
  plain_is = a_node kinds.Is (a_token is_word refl refl)

  alone_is : ReadsAlone code is_word [] (as_ kinds.Is (token is_word))
  alone_is = alone_by code opens closes plain_is is_word (λ t h. (whole (spanning kinds.Is) (t ∷ []) [], record { parts = []; spelled = record { token = t; is_in = h; tokens = refl; trees = refl }; trees = refl }))

  looks_is_not : Looks code is_word not_word (As kinds.IsNot (Then (Token is_word) (Token not_word)))
  looks_is_not front rest out h =
      let s = h.spelled in
      let e1 = s.first.is_in in
      let e2 = s.second.is_in in
      rw (s.tokens, s.first.tokens, s.second.tokens, e1, e2) refl

  reads_is : Reads false is_word not_word
      (choose_by_two code is_word not_word (as_ kinds.IsNot (both (token is_word) (token not_word))) (as_ kinds.Is (token is_word))) (Either (As kinds.IsNot (Then (Token is_word) (Token not_word))) (As kinds.Is (Token is_word)))
  reads_is = as_sets is_word not_word
      (by_two is_word not_word (as_sets is_word [] (a_node_behind kinds.IsNot is_word refl refl (a_token not_word refl refl)) refl refl) looks_is_not plain_is alone_is refl) refl refl

  pub reads_comparison_sign : Reads false comparison_first not_word (comparison_sign_at P) (ComparisonSign L)
  unfolding comparison_sign_at ComparisonSign
  reads_comparison_sign = as_sets comparison_first not_word
      (one_of (a_leaf operator_leaf comparison_operator refl refl)
      (one_of (as_sets not_word [] (a_node_behind kinds.NotIn not_word refl refl (a_token in_word refl refl)) refl refl) reads_is refl) refl) refl refl

  pub reads_comparison : Reads false factor_first not_more (comparison_at P) (Comparison L)
  unfolding comparison_at Comparison
  reads_comparison = operands kinds.Comparison not_more reads_comparison_sign reads_bit_or refl refl refl refl refl refl

  pub reads_not : Reads false not_first not_more (not_at P) (Not L)
  unfolding not_at Not
  reads_not = as_sets not_first not_more (one_of (as_sets not_word not_more (a_node_behind kinds.Not not_word refl refl (known e.Not)) refl refl) reads_comparison refl) refl refl

  pub reads_and : Reads false not_first and_more (and_at P) (And L)
  unfolding and_at And
  reads_and = operands kinds.BoolAnd and_more (a_token and_word refl refl) reads_not refl refl refl refl refl refl

  pub reads_or : Reads false not_first or_more (or_at P) (Or L)
  unfolding or_at Or
  reads_or = operands kinds.BoolOr or_more (a_token or_word refl refl) reads_and refl refl refl refl refl refl

  -- ---- lambdas and tests

  pub reads_lambda_parameter : Reads false parameter_first lambda_parameter_more (lambda_parameter_at P) (LambdaParameter L)
  unfolding lambda_parameter_at LambdaParameter
  reads_lambda_parameter = as_sets parameter_first lambda_parameter_more
      (one_of (as_sets name (assign ++ test_more) (a_named_node kinds.Parameter first_text (behind_token name refl refl (perhaps (as_sets assign test_more (behind_token assign refl refl (known e.Test)) refl refl)))) refl refl)
      (one_of (a_leaf (plain_leaf kinds.PositionalOnlyMark) slash refl refl)
      (one_of (as_sets star name (over_it star_parameter (behind_token star refl refl (perhaps (a_token name refl refl)))) refl refl)
      (a_named_node kinds.DoubleStarParameter second_text (behind_token double_star refl refl (a_token name refl refl))) refl) refl) refl) refl refl

  pub reads_lambda_parameters : Reads false parameter_first lambda_parameters_more (lambda_parameters_at P) (LambdaParameters L)
  unfolding lambda_parameters_at LambdaParameters
  reads_lambda_parameters = over_it keyword_only_behind_star (under parameters_in_order (with_commas lambda_parameters_more reads_lambda_parameter refl refl refl))

  pub reads_lambda : Reads false lambda_word test_more (lambda_at P) (Lambda L)
  unfolding lambda_at Lambda
  reads_lambda = as_sets lambda_word test_more
      (a_node_behind kinds.Lambda lambda_word refl refl (in_a_row (as_sets parameter_first lambda_parameters_more (perhaps reads_lambda_parameters) refl refl) (behind_token colon refl refl (known e.Test)) refl)) refl refl

  reads_condition : Reads false if_word test_more (both (token if_word) (both (or_at P) (both (token else_word) (P e.Test)))) (Then (Token if_word) (Then (Or L) (Then (Token else_word) (L e.Test))))
  reads_condition = as_sets if_word test_more (behind_token if_word refl refl (in_a_row reads_or (behind_token else_word refl refl (known e.Test)) refl)) refl refl

  pub reads_test : Reads false test_first test_more (test_at P) (Test L)
  unfolding test_at Test
  reads_test = as_sets test_first test_more (one_of reads_lambda (maybe_one reads_or (a_node_from kinds.Conditional reads_condition) refl) refl) refl refl
