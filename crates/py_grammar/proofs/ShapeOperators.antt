-- Each form of an expression spells trees in shape: arguments, slices, trailers, literals, atoms, and the rows of
-- operators up to a test.
use Rattle.std.proofs.Common.{◌≡◌, Bool, true, false, if◌then◌else◌, List, [], ◌∷◌, ◌++◌, inl, inr, refl}
use Rattle.tree_nodes.specs.declared.kind.Kind.{Kind}
use Rattle.tree_nodes.specs.declared.kind.Kind.TheVariants as kinds
use Rattle.tree_nodes.specs.Sorts.{Sort, constant, slice, slice_colon, field, comparison_operator, shift_operator, sum_operator, product_operator, annotation, star_annotation, other_expression, sort_of, is_named, IsOf, only, expression, value}
use Rattle.tree_nodes.specs.Shapes.{Part, Fits, FitsOneOf, one, maybe, many, shape, arguments, subscripts, behind_parameters}
use Rattle.py_language.specs.Languages.{Either, Where}
use Rattle.py_language.specs.Forms.{Forms, FormsOneOf, AreOfSorts}
use Rattle.py_language.proofs.KindLaws.{single_possible}
use Rattle.py_language.proofs.SortLaws.{sorts_single, sorts_then, sorts_maybe, sorts_separated}
use Rattle.py_language.proofs.FormLaws.{form_as, form_wider, form_skipped, form_then, form_either, form_maybe, form_many, form_bracketed, form_tested, form_steps, form_node, forms_sole, forms_then, forms_behind, forms_maybe}
use Rattle.py_grammar.specs.declared.entry.Entry.{Entry}
use Rattle.py_grammar.specs.declared.entry.Entry.TheVariants as e
use Rattle.py_grammar.specs.Terminals.{Terminal, Form, code, is_one_of, first_of}
use Rattle.py_grammar.specs.declared.symbol.Symbol.TheVariants as s
use Rattle.py_grammar.specs.Words as words
use Rattle.py_grammar.specs.Nodes.{first_text, second_text, last_text, plain_leaf, Leaf, Commas, CommaRest}
use Rattle.py_grammar.specs.Tests.{in_order}
use Rattle.py_grammar.specs.Expressions.{sign_node, StarredArgument, PlainArgument, Argument, Arguments, CallArguments, SliceRest, Slice, StarredSlice, Slices, Trailed, FieldExpression, InnerField, Field, StringPart, Strings, Atom, Primary, Awaited, Power, Factor, Term, Arith, Shift, BitAnd, BitXor, BitOr, ComparisonSign, Comparison, Not, And, Or, LambdaParameter, LambdaParameters, Lambda, Test}
use Rattle.py_grammar.specs.Patterns.{is_unformatted}
use Rattle.py_grammar.specs.HeaderParts.{sorts_of}
use Rattle.py_grammar.proofs.ShapeBasics.{IsA, expression_is_value, other, behind, a_node, a_node_of, a_named_node, operands, operands_with, behind_comma, first_and_some, forms_same, and_none, none_and}
use Rattle.py_grammar.proofs.ShapeLeaves.{a_plain_leaf, is_simple_atom, is_comparison_operator, is_shift_operator, is_sum_operator, is_product_operator}
use Rattle.py_grammar.proofs.ShapeBrackets.{held_row, held_in, held_maybe, first_and_more, argument, plain_argument, order_fits, are_call_arguments}
use Rattle.py_grammar.proofs.ShapeParameters.{parameters, are_parameters, perhaps_parameters, a_star}
use Rattle.py_grammar.proofs.ShapeStrings.{are_literals, are_unformatted}
use Rattle.py_grammar.proofs.ShapeExpressions as forms

module _ (L : Entry → Form) (known : (entry : Entry) → IsA (sorts_of entry) (L entry)) where
  -- ---- arguments

  is_starred_argument : IsA argument (StarredArgument L)
  unfolding StarredArgument shape sort_of is_named
  is_starred_argument =
      form_either (a_node kinds.StarArgument argument (behind words.star (known e.Test)) (λ ks h. inl h) refl (inl refl))
      (a_node kinds.DoubleStarArgument argument (behind words.double_star (known e.Test)) (λ ks h. inl h) refl (inr (inr (inl refl))))

  is_plain_argument : IsA plain_argument (PlainArgument L)
  unfolding PlainArgument shape sort_of is_named
  is_plain_argument =
      form_either (a_named_node kinds.KeywordArgument first_text plain_argument (behind words.name (behind words.assign (known e.Test))) (λ ks h. inl h) refl (inl refl))
      (form_wider (λ k h. inr h) (forms.is_named_expression L known))

  plain_is_argument : (kind : Kind) → IsOf plain_argument kind → IsOf argument kind
  plain_is_argument kind h = elim h [ inl g ↦ inr (inl g) | inr g ↦ inr (inr (inr g)) ]

  pub is_argument : IsA argument (Argument L)
  unfolding Argument
  is_argument = form_either is_starred_argument (form_wider plain_is_argument is_plain_argument)

  pub are_arguments : Forms arguments (Arguments L)
  unfolding Arguments
  are_arguments = form_tested in_order in_any_order (λ ts out h test. order_fits out (in_any_order.each ts out h) test)
    where
      in_any_order : AreOfSorts argument (Commas (Argument L))
      in_any_order = sorts_separated argument code words.comma (sorts_single is_argument)

  pub are_in_call : Forms arguments (CallArguments L)
  unfolding CallArguments
  are_in_call =
      are_call_arguments
      (held_in argument plain_argument words.left_paren words.right_paren
      (held_maybe argument plain_argument
      (forms_same (held_row argument plain_argument (sorts_then argument (sorts_single is_starred_argument) (sorts_maybe argument more)))
      (first_and_more argument plain_argument is_plain_argument plain_is_argument (forms.are_clauses L known) more))))
    where
      more : AreOfSorts argument (CommaRest (Argument L))
      more = behind_comma argument (sorts_single is_argument)

  -- ---- slices

  is_colon : IsA (only slice_colon) (Leaf (plain_leaf kinds.SliceColon) words.colon)
  unfolding shape sort_of is_named
  is_colon = a_plain_leaf kinds.SliceColon (only slice_colon) words.colon (inl refl) refl (inl refl)

  -- the forms behind what stands before the first colon
  abbrev slice_rest : List (List Part)
  slice_rest = (one (only slice_colon) ++ maybe expression ++ one (only slice_colon) ++ maybe expression) ∷ (one (only slice_colon) ++ maybe expression) ∷ []

  are_slice_rest : FormsOneOf slice_rest (SliceRest L)
  unfolding SliceRest
  are_slice_rest = forms_then is_colon (forms_then (form_maybe (known e.Test)) (forms_maybe (forms_sole (form_then is_colon (form_maybe (known e.Test))))))

  slice_first : (ks : List Kind) → FitsOneOf slice_rest ks → FitsOneOf (shape kinds.Slice) ks
  unfolding shape
  slice_first ks h =
      elim h [
        | inl g ↦ inr (inl (none_and (maybe expression) (one (only slice_colon) ++ maybe expression ++ one (only slice_colon) ++ maybe expression) refl ks g))
        | inr g ↦ elim g [ inl k ↦ inl (none_and (maybe expression) (one (only slice_colon) ++ maybe expression) refl ks k) | inr k ↦ absurd k ]
      ]

  turned : (ks : List Kind) → FitsOneOf ((maybe expression ++ one (only slice_colon) ++ maybe expression ++ one (only slice_colon) ++ maybe expression) ∷ (maybe expression ++ one (only slice_colon) ++ maybe expression) ∷ []) ks → FitsOneOf (shape kinds.Slice) ks
  unfolding shape
  turned ks h = elim h [ inl g ↦ inr (inl g) | inr g ↦ elim g [ inl k ↦ inl k | inr k ↦ absurd k ] ]

  -- what stands between the commas of a subscription
  abbrev index : List Sort
  index = slice ∷ value

  is_slice : IsA index (Slice L)
  unfolding Slice shape sort_of is_named
  is_slice =
      form_either (a_node_of kinds.Slice index are_slice_rest slice_first refl (inl refl))
      (form_either (form_wider (λ k h. inr (inr h)) (forms.is_walrus L known))
      (form_either (form_wider (λ k h. inr (inr h)) (known e.Test)) (a_node_of kinds.Slice index (forms_then {parts = maybe expression} (form_as (single_possible expression) (known e.Test)) are_slice_rest) turned refl (inl refl))))

  is_index : IsA index (Either (StarredSlice L) (Slice L))
  unfolding StarredSlice shape sort_of is_named
  is_index = form_either (a_node kinds.Starred index (behind words.star (known e.Test)) (λ ks h. inl h) refl (inr (inl refl))) is_slice

  pub is_subscript : IsA subscripts (Slices L)
  unfolding Slices shape sort_of is_named
  is_subscript =
      form_either (form_wider (λ k h. elim h [ inl g ↦ inl g | inr g ↦ inr (inr g) ]) is_index)
      (a_node kinds.Slices subscripts (first_and_some index is_index (sorts_single is_index)) (λ ks h. inl h) refl (inr (inl refl)))

  -- ---- trailers

  is_trailed : (a : Form) → IsA expression a → IsA expression (Trailed L a)
  unfolding Trailed shape sort_of is_named
  is_trailed a A =
      form_either (a_named_node kinds.Attribute last_text expression (form_then A (behind words.dot (form_skipped code words.name))) (λ ks h. inl h) refl (inr (inr (inl refl))))
      (form_either (a_node kinds.Call expression (form_then A are_in_call) (λ ks h. inl h) refl (other kinds.Call refl))
      (a_node kinds.Subscript expression (form_then A (form_bracketed code words.left_bracket words.right_bracket is_subscript)) (λ ks h. inl h) refl (other kinds.Subscript refl)))

  -- ---- strings

  is_field_expression : IsA value (FieldExpression L)
  unfolding FieldExpression
  is_field_expression = form_either (form_wider expression_is_value (forms.is_yield L known)) (forms.is_sx L known)

  is_inner_field : IsA (only field) (InnerField L)
  unfolding InnerField shape sort_of is_named
  is_inner_field =
      a_node kinds.Field (only field) (form_bracketed code words.field_open words.field_close is_field_expression) (λ ks h. inl (and_none (one value) (many (only field)) ([], [], refl, tt, refl) ks h)) refl (inl refl)

  is_field : IsA (only field) (Field L)
  unfolding Field shape sort_of is_named
  is_field =
      a_node kinds.Field (only field) (form_bracketed code words.field_open words.field_close (form_then is_field_expression (form_many (sorts_single is_inner_field)))) (λ ks h. inl h) refl (inl refl)

  pub are_strings : IsA (constant ∷ other_expression ∷ []) (Strings L)
  unfolding Strings StringPart
  are_strings = are_literals (Field L) (sorts_single is_field)

  -- without an f a literal is a constant
  pub are_plain_strings : IsA (only constant) (Where is_unformatted (Strings L))
  unfolding Strings StringPart
  are_plain_strings = are_unformatted (Field L) (sorts_single is_field)

  -- ---- atoms and rows of operators

  pub is_atom : IsA expression (Atom L)
  unfolding Atom
  is_atom =
      form_either is_simple_atom
      (form_either (form_wider (λ k h. elim h [ inl g ↦ inl g | inr g ↦ elim g [ inl q ↦ other k q | inr q ↦ absurd q ] ]) are_strings)
      (form_either (forms.is_parenthesized L known) (form_either (forms.is_list_display L known) (forms.is_brace_display L known))))

  pub is_primary : IsA expression (Primary L)
  unfolding Primary
  is_primary = form_steps (Trailed L) is_trailed is_atom

  is_awaited : IsA expression (Awaited L)
  unfolding Awaited shape sort_of is_named
  is_awaited = form_either (a_node kinds.Await expression (behind words.await_word is_primary) (λ ks h. inl h) refl (other kinds.Await refl)) is_primary

  is_power : IsA expression (Power L)
  unfolding Power shape sort_of is_named
  is_power = form_either is_awaited (a_node kinds.Power expression (form_then is_awaited (behind words.double_star (known e.Factor))) (λ ks h. inl h) refl (other kinds.Power refl))

  -- the kind of a sign
  abbrev sign_kind : Bool → Bool → Kind
  sign_kind plus minus = if plus then kinds.UnaryPlus else (if minus then kinds.UnaryMinus else kinds.UnaryInvert)

  sign_fits : (plus minus : Bool) (ks : List Kind) → Fits (one expression) ks → FitsOneOf (shape (sign_kind plus minus)) ks
  unfolding shape
  sign_fits true minus ks h = inl h
  sign_fits false true ks h = inl h
  sign_fits false false ks h = inl h

  sign_named : (plus minus : Bool) → false ≡ is_named (sign_kind plus minus)
  unfolding is_named
  sign_named true minus = refl
  sign_named false true = refl
  sign_named false false = refl

  sign_sort : (plus minus : Bool) → IsOf expression (sign_kind plus minus)
  unfolding sort_of
  sign_sort true minus = other kinds.UnaryPlus refl
  sign_sort false true = inr (inr (inr (inl refl)))
  sign_sort false false = other kinds.UnaryInvert refl

  -- the first token is a sign
  abbrev is_plus : List Terminal → Bool
  is_plus ts = is_one_of (s.Plus ∷ []) (first_of ts)

  abbrev is_minus : List Terminal → Bool
  is_minus ts = is_one_of (s.Minus ∷ []) (first_of ts)

  pub is_factor : IsA expression (Factor L)
  unfolding Factor
  is_factor =
      form_either
      (form_node expression sign_node (behind words.sign (known e.Factor)) (λ ts ks h. sign_fits (is_plus ts) (is_minus ts) ks h) (λ ts u h. sign_named (is_plus ts) (is_minus ts)) (λ ts. sign_sort (is_plus ts) (is_minus ts)))
      is_power

  is_term : IsA expression (Term L)
  unfolding Term shape sort_of is_named
  is_term = operands_with kinds.Product (only product_operator) expression is_product_operator is_factor (λ ks h. inl h) refl (other kinds.Product refl)

  is_arith : IsA expression (Arith L)
  unfolding Arith shape sort_of is_named
  is_arith = operands_with kinds.Sum (only sum_operator) expression is_sum_operator is_term (λ ks h. inl h) refl (inr (inr (inr (inr (inl refl)))))

  is_shift : IsA expression (Shift L)
  unfolding Shift shape sort_of is_named
  is_shift = operands_with kinds.Shift (only shift_operator) expression is_shift_operator is_arith (λ ks h. inl h) refl (other kinds.Shift refl)

  is_bit_and : IsA expression (BitAnd L)
  unfolding BitAnd shape sort_of is_named
  is_bit_and = operands kinds.BitwiseAnd words.ampersand expression is_shift (λ ks h. inl h) refl (other kinds.BitwiseAnd refl)

  is_bit_xor : IsA expression (BitXor L)
  unfolding BitXor shape sort_of is_named
  is_bit_xor = operands kinds.BitwiseXor words.caret expression is_bit_and (λ ks h. inl h) refl (other kinds.BitwiseXor refl)

  pub is_bit_or : IsA expression (BitOr L)
  unfolding BitOr shape sort_of is_named
  is_bit_or = operands kinds.BitwiseOr words.bar expression is_bit_xor (λ ks h. inl h) refl (other kinds.BitwiseOr refl)

  is_comparison_sign : IsA (only comparison_operator) (ComparisonSign L)
  unfolding ComparisonSign shape sort_of is_named
  is_comparison_sign =
      form_either is_comparison_operator
      (form_either (a_node kinds.NotIn (only comparison_operator) (behind words.not_word (form_skipped code words.in_word)) (λ ks h. inl h) refl (inl refl))
      (form_either (a_node kinds.IsNot (only comparison_operator) (behind words.is_word (form_skipped code words.not_word)) (λ ks h. inl h) refl (inl refl))
      (a_node kinds.Is (only comparison_operator) (form_skipped code words.is_word) (λ ks h. inl h) refl (inl refl))))

  is_comparison : IsA expression (Comparison L)
  unfolding Comparison shape sort_of is_named
  is_comparison = operands_with kinds.Comparison (only comparison_operator) expression is_comparison_sign is_bit_or (λ ks h. inl h) refl (other kinds.Comparison refl)

  pub is_not : IsA expression (Not L)
  unfolding Not shape sort_of is_named
  is_not = form_either (a_node kinds.Not expression (behind words.not_word (known e.Not)) (λ ks h. inl h) refl (other kinds.Not refl)) is_comparison

  is_and : IsA expression (And L)
  unfolding And shape sort_of is_named
  is_and = operands kinds.BoolAnd words.and_word expression is_not (λ ks h. inl h) refl (other kinds.BoolAnd refl)

  pub is_or : IsA expression (Or L)
  unfolding Or shape sort_of is_named
  is_or = operands kinds.BoolOr words.or_word expression is_and (λ ks h. inl h) refl (other kinds.BoolOr refl)

  -- ---- lambdas and tests

  is_lambda_parameter : IsA parameters (LambdaParameter L)
  unfolding LambdaParameter shape sort_of is_named
  is_lambda_parameter =
      form_either
      (a_named_node kinds.Parameter first_text parameters (behind words.name (form_maybe (behind words.assign (known e.Test)))) (λ ks h. inl (none_and (maybe (only annotation)) (maybe expression) refl ks h)) refl (inl refl))
      (form_either (a_plain_leaf kinds.PositionalOnlyMark parameters words.slash (inl refl) refl (inr (inl refl)))
      (form_either (a_star (form_as no_annotation (form_skipped code words.name)) (λ out h. no_token h.token h.tokens))
      (a_named_node kinds.DoubleStarParameter second_text parameters (behind words.double_star (form_skipped code words.name)) (λ ks h. inl (none_and (maybe (only annotation)) [] refl ks h)) refl (inr (inr (inr (inr (inl refl))))))))
    where
      no_annotation : (ks : List Kind) → Fits [] ks → Fits (maybe (annotation ∷ star_annotation ∷ [])) ks
      no_annotation ks h = none_and (maybe (annotation ∷ star_annotation ∷ [])) [] refl ks h

      no_token : (t : Terminal) → [] ≡ t ∷ [] → ⊥
      no_token t h = absurd cc

  pub are_lambda_parameters : FormsOneOf (behind_parameters []) (LambdaParameters L)
  unfolding LambdaParameters
  are_lambda_parameters = are_parameters (sorts_separated parameters code words.comma (sorts_single is_lambda_parameter))

  is_lambda : IsA expression (Lambda L)
  unfolding Lambda shape sort_of is_named
  is_lambda = a_node_of kinds.Lambda expression (forms_then (form_skipped code words.lambda_word) (forms_behind (perhaps_parameters are_lambda_parameters) (behind words.colon (known e.Test)))) (λ ks h. h) refl (other kinds.Lambda refl)

  pub is_test : IsA expression (Test L)
  unfolding Test shape sort_of is_named
  is_test =
      form_either is_lambda
      (form_either is_or (a_node kinds.Conditional expression (form_then is_or (behind words.if_word (form_then is_or (behind words.else_word (known e.Test))))) (λ ks h. inl h) refl (other kinds.Conditional refl)))
