-- Each header, up to its `:`, spells the parts that stand before the block, in shape.
use Rattle.std.proofs.Common.{◌≡◌, List, [], ◌∷◌, ◌++◌, inl, inr, refl}
use Rattle.tree_nodes.specs.declared.kind.Kind.{Kind}
use Rattle.tree_nodes.specs.declared.kind.Kind.TheVariants as kinds
use Rattle.tree_nodes.specs.Sorts.{decorator, with_item, annotation, star_annotation, as_name, pattern, sort_of, is_named, only, expression, value, any_target}
use Rattle.tree_nodes.specs.Shapes.{Fits, FitsOneOf, one, maybe, some, shape, arguments, behind_parameters}
use Rattle.py_language.specs.Forms.{Forms, FormsOneOf, AreOfSorts}
use Rattle.py_language.proofs.SortLaws.{sorts_single, sorts_separated}
use Rattle.py_language.proofs.FormLaws.{form_wider, form_skipped, form_then, form_either, form_maybe, form_bracketed, forms_sole, forms_maybe, forms_then, forms_behind}
use Rattle.py_grammar.specs.declared.entry.Entry.{Entry}
use Rattle.py_grammar.specs.declared.entry.Entry.TheVariants as e
use Rattle.py_grammar.specs.Terminals.{Terminal, Form, code}
use Rattle.py_grammar.specs.Words as words
use Rattle.py_grammar.specs.Nodes.{first_text, second_text}
use Rattle.py_grammar.specs.Expressions.{Element}
use Rattle.py_grammar.specs.Headers.{ParameterAnnotation, StarAnnotation, Parameter, Parameters, ForHeader, ExceptHeader, ExceptStarHeader, WithItem, PlainWith, ParenthesizedWith, FunctionHeader, ClassHeader, Subject, MatchHeader, CaseHeader, DecoratorLine}
use Rattle.py_grammar.specs.HeaderParts.{sorts_of}
use Rattle.py_grammar.proofs.ShapeBasics.{IsA, other, behind, a_node, a_named_node, with_commas, joined_by_commas, first_and_rest, form_perhaps, forms_as, expression_is_value}
use Rattle.py_grammar.proofs.ShapeTargets.{a_target}
use Rattle.py_grammar.proofs.ShapeLeaves.{a_plain_leaf}
use Rattle.py_grammar.proofs.ShapeParameters.{parameters, are_parameters, perhaps_parameters, a_star}
use Rattle.py_grammar.proofs.ShapeExpressions as forms
use Rattle.py_grammar.proofs.ShapeOperators as operators
use Rattle.py_grammar.proofs.ShapePatterns as patterns
use Rattle.py_grammar.proofs.ShapeStatements as statements

module _ (L : Entry → Form) (known : (entry : Entry) → IsA (sorts_of entry) (L entry)) where
  -- ---- parameters of a `def`

  is_parameter_annotation : IsA (only annotation) (ParameterAnnotation L)
  unfolding ParameterAnnotation
  is_parameter_annotation = behind words.colon (statements.is_annotation L known)

  is_star_annotation : IsA (annotation ∷ star_annotation ∷ []) (StarAnnotation L)
  unfolding StarAnnotation shape sort_of is_named
  is_star_annotation =
      behind words.colon
      (form_either (a_node kinds.StarAnnotation (annotation ∷ star_annotation ∷ []) (behind words.star (known e.BitOr)) (λ ks h. inl h) refl (inr (inl refl)))
      (form_wider (λ k h. elim h [ inl g ↦ inl g | inr g ↦ absurd g ]) (statements.is_annotation L known)))

  is_parameter : IsA parameters (Parameter L)
  unfolding Parameter shape sort_of is_named
  is_parameter =
      form_either
      (a_named_node kinds.Parameter first_text parameters (behind words.name (form_then (form_maybe is_parameter_annotation) (form_maybe (behind words.assign (known e.Test))))) (λ ks h. inl h) refl (inl refl))
      (form_either (a_plain_leaf kinds.PositionalOnlyMark parameters words.slash (inl refl) refl (inr (inl refl)))
      (form_either (a_star (behind words.name (form_maybe is_star_annotation)) (λ out h. no_name h.first.token h.front h.back h.tokens h.first.tokens))
      (a_named_node kinds.DoubleStarParameter second_text parameters (behind words.double_star (behind words.name (form_maybe is_parameter_annotation))) (λ ks h. inl h) refl (inr (inr (inr (inr (inl refl))))))))
    where
      no_name : (t : Terminal) (front back : List Terminal) → [] ≡ front ++ back → front ≡ t ∷ [] → ⊥
      no_name t [] back none one_token = absurd cc
      no_name t (x ∷ front) back none one_token = absurd cc

  are_in_order : FormsOneOf (behind_parameters []) (Parameters L)
  unfolding Parameters
  are_in_order = are_parameters (sorts_separated parameters code words.comma (sorts_single is_parameter))

  -- ---- headers

  pub are_for_parts : Forms (one any_target ++ one value) (ForHeader L)
  unfolding ForHeader
  are_for_parts = behind words.for_word (form_then (forms.is_targets L known) (behind words.in_word (forms.is_sx L known)))

  pub are_except_parts : FormsOneOf ([] ∷ (one expression ++ maybe (only as_name)) ∷ []) (ExceptHeader L)
  unfolding ExceptHeader
  are_except_parts = forms_as turned (forms_then (form_skipped code words.except_word) (forms_maybe (forms_sole (form_then (known e.Test) (form_maybe (statements.is_as_name L known))))))
    where
      turned : (ks : List Kind) → FitsOneOf ((one expression ++ maybe (only as_name)) ∷ [] ∷ []) ks → FitsOneOf ([] ∷ (one expression ++ maybe (only as_name)) ∷ []) ks
      turned ks h = elim h [ inl g ↦ inr (inl g) | inr g ↦ elim g [ inl k ↦ inl k | inr k ↦ absurd k ] ]

  pub are_except_star_parts : Forms (one expression ++ maybe (only as_name)) (ExceptStarHeader L)
  unfolding ExceptStarHeader
  are_except_star_parts = behind words.except_word (behind words.star (form_then (known e.Test) (form_maybe (statements.is_as_name L known))))

  is_with_item : IsA (only with_item) (WithItem L)
  unfolding WithItem shape sort_of is_named
  is_with_item = a_node kinds.WithItem (only with_item) (form_then (known e.Test) (form_maybe (behind words.as_word (a_target value (forms.is_target_item L known))))) (λ ks h. inl h) refl (inl refl)

  pub are_plain_items : Forms (some (only with_item)) (PlainWith L)
  unfolding PlainWith
  are_plain_items = behind words.with_word (joined_by_commas (only with_item) is_with_item)

  pub are_items_in_parentheses : Forms (some (only with_item)) (ParenthesizedWith L)
  unfolding ParenthesizedWith
  are_items_in_parentheses = behind words.with_word (form_bracketed code words.left_paren words.right_paren (with_commas (only with_item) is_with_item))

  pub are_function_parts : FormsOneOf (behind_parameters (maybe (only annotation))) (FunctionHeader L)
  unfolding FunctionHeader
  are_function_parts =
      forms_then (form_skipped code words.def_word)
      (forms_then (form_skipped code words.name)
      (forms_behind (forms_then (form_skipped code words.left_paren) (forms_behind (perhaps_parameters are_in_order) (form_skipped code words.right_paren))) (form_maybe (behind words.arrow (statements.is_annotation L known)))))

  pub are_class_parts : Forms arguments (ClassHeader L)
  unfolding ClassHeader
  are_class_parts = behind words.class_word (behind words.name (form_perhaps (form_bracketed code words.left_paren words.right_paren (form_perhaps (operators.are_arguments L known) no_arguments)) no_arguments))
    where
      no_arguments : Fits arguments []
      no_arguments = ([], [], refl, tt, ([], [], refl, tt, ([], [], refl, tt, refl)))

  is_subject : IsA expression (Subject L)
  unfolding Subject shape sort_of is_named
  is_subject =
      form_either (a_node kinds.Tuple expression (first_and_rest value (sorts_single (forms.is_starred_value L known)) elements) (λ ks h. inl h) refl (other kinds.Tuple refl))
      (form_either (forms.is_named_expression L known)
      (a_node kinds.Tuple expression (first_and_rest value (sorts_single (form_wider {more = value} expression_is_value (forms.is_named_expression L known))) elements) (λ ks h. inl h) refl (other kinds.Tuple refl)))
    where
      elements : AreOfSorts value (Element L)
      elements = sorts_single (forms.is_element L known)

  pub is_match_part : IsA expression (MatchHeader L)
  unfolding MatchHeader
  is_match_part = behind words.match_word is_subject

  pub are_case_parts : Forms (one (only pattern) ++ maybe expression) (CaseHeader L)
  unfolding CaseHeader
  are_case_parts = behind words.case_word (form_then (patterns.are_open_patterns L known) (form_maybe (behind words.if_word (forms.is_named_expression L known))))

  pub is_decorator : IsA (only decorator) (DecoratorLine L)
  unfolding DecoratorLine shape sort_of is_named
  is_decorator = a_node kinds.Decorator (only decorator) (behind words.at_sign (forms.is_named_expression L known)) (λ ks h. inl h) refl (inl refl)
