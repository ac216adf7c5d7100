-- How deep headers and decorators lead back: no deeper than their expressions and patterns do.
use Rattle.std.proofs.Common.{◌≤◌, ℕ, List, refl}
use Rattle.tree_nodes.specs.Trees.{Tree}
use Rattle.tree_nodes.specs.declared.kind.Kind.TheVariants as kinds
use Rattle.py_language.specs.Languages.{Then, Maybe}
use Rattle.py_language.specs.Nesting.{nesting_of}
use Rattle.py_language.proofs.Carrying.{carried_made}
use Rattle.py_grammar.specs.declared.entry.Entry.{Entry}
use Rattle.py_grammar.specs.declared.entry.Entry.TheVariants as e
use Rattle.py_grammar.specs.Terminals.{Terminal, Form, code}
use Rattle.py_grammar.specs.Words.{name, opens, closes, arrow, as_word, assign, at_sign, case_word, class_word, colon, def_word, double_star, except_word, for_word, if_word, in_word, match_word, slash, star, with_word}
use Rattle.py_grammar.specs.Nodes.{first_text, second_text, plain_leaf, Token}
use Rattle.py_grammar.specs.Tests.{parameters_in_order}
use Rattle.py_grammar.specs.Weights.{weight}
use Rattle.py_grammar.specs.Expressions.{star_parameter, keyword_only_behind_star}
use Rattle.py_grammar.specs.Headers.{ParameterAnnotation, StarAnnotation, Parameter, Parameters, ForHeader, ExceptHeader, ExceptStarHeader, WithItem, PlainWith, ParenthesizedWith, FunctionHeader, ClassHeader, Subject, MatchHeader, CaseHeader, DecoratorLine}
use Rattle.py_grammar.proofs.DepthBuilding.{Carries, Leads, one_less, carry_leaf, carry_then, carry_behind, carry_either, carry_maybe, carry_where, carry_over, carry_node, carry_named_node, carry_joined, carry_commas, carry_comma_rest, carry_tupled, carry_parentheses}
use Rattle.py_grammar.proofs.Weighing.{star_keeps, keywords_keep}
use Rattle.py_grammar.proofs.DepthExpressions.{carries_target, carries_star, carries_named, carries_element, carries_sx, carries_target_item, carries_targets, carries_arguments}
use Rattle.py_grammar.proofs.DepthPatterns.{carries_open_patterns}
use Rattle.py_grammar.proofs.DepthStatements.{carries_as_name}

-- a star with what stands behind it keeps the nesting of that
star_first_keeps : (a : Form) (ts : List Terminal) (parts : List Tree) → Then (Token star) a ts parts → nesting_of weight parts ≤ nesting_of weight (star_parameter ts parts)
star_first_keeps a ts parts h = let e1 = h.tokens in let e2 = h.first.tokens in rw (e1, e2) (star_keeps h.first.token h.back parts)

module _ (L M : Entry → Form) (k : ℕ) (known : Leads k L M) where
  -- ---- parameters of a `def`

  carries_annotation : Carries k (ParameterAnnotation L) (ParameterAnnotation M)
  unfolding ParameterAnnotation
  carries_annotation = carry_behind colon refl refl (carry_node kinds.Annotation (known e.Test))

  carries_star_annotation : Carries k (StarAnnotation L) (StarAnnotation M)
  unfolding StarAnnotation
  carries_star_annotation =
      carry_behind colon refl refl (carry_either (carry_node kinds.StarAnnotation (carry_behind star refl refl (known e.BitOr))) (carry_node kinds.Annotation (known e.Test)))

  carries_parameter : Carries k (Parameter L) (Parameter M)
  unfolding Parameter
  carries_parameter =
      carry_either (carry_named_node kinds.Parameter first_text (carry_behind name refl refl (carry_then (carry_maybe carries_annotation) (carry_maybe (carry_behind assign refl refl (known e.Test))))))
      (carry_either (carry_leaf (plain_leaf kinds.PositionalOnlyMark) slash refl refl)
      (carry_either (carried_made code opens closes weight star_parameter (λ ts parts h. star_first_keeps (Maybe (Then (Token name) (Maybe (StarAnnotation L)))) ts parts h)
      (carry_behind star refl refl (carry_maybe (carry_behind name refl refl (carry_maybe carries_star_annotation)))))
      (carry_named_node kinds.DoubleStarParameter second_text (carry_behind double_star refl refl (carry_behind name refl refl (carry_maybe carries_annotation))))))

  carries_parameters : Carries k (Parameters L) (Parameters M)
  unfolding Parameters
  carries_parameters = carry_over keyword_only_behind_star keywords_keep (carry_where parameters_in_order (carry_commas carries_parameter))

  -- ---- headers

  pub carries_for : Carries k (ForHeader L) (ForHeader M)
  unfolding ForHeader
  carries_for = carry_behind for_word refl refl (carry_then (carries_targets L M k known) (carry_behind in_word refl refl (carries_sx L M k known)))

  pub carries_except : Carries k (ExceptHeader L) (ExceptHeader M)
  unfolding ExceptHeader
  carries_except = carry_behind except_word refl refl (carry_maybe (carry_then (known e.Test) (carry_maybe (carries_as_name L M k known))))

  pub carries_except_star : Carries k (ExceptStarHeader L) (ExceptStarHeader M)
  unfolding ExceptStarHeader
  carries_except_star = carry_behind except_word refl refl (carry_behind star refl refl (carry_then (known e.Test) (carry_maybe (carries_as_name L M k known))))

  carries_with_item : Carries k (WithItem L) (WithItem M)
  unfolding WithItem
  carries_with_item = carry_node kinds.WithItem (carry_then (known e.Test) (carry_maybe (carry_behind as_word refl refl (carries_target (carries_target_item L M k known)))))

  pub carries_plain_with : Carries k (PlainWith L) (PlainWith M)
  unfolding PlainWith
  carries_plain_with = carry_behind with_word refl refl (carry_joined carries_with_item)

  pub carries_parenthesized_with : Carries k (ParenthesizedWith L) (ParenthesizedWith M)
  unfolding ParenthesizedWith
  carries_parenthesized_with = carry_behind with_word refl refl (one_less (carry_parentheses (carry_commas carries_with_item)))

  pub carries_function : Carries k (FunctionHeader L) (FunctionHeader M)
  unfolding FunctionHeader
  carries_function =
      carry_behind def_word refl refl (carry_behind name refl refl (carry_then (one_less (carry_parentheses (carry_maybe carries_parameters))) (carry_maybe (carry_behind arrow refl refl (carry_node kinds.Annotation (known e.Test))))))

  pub carries_class : Carries k (ClassHeader L) (ClassHeader M)
  unfolding ClassHeader
  carries_class = carry_behind class_word refl refl (carry_behind name refl refl (carry_maybe (one_less (carry_parentheses (carry_maybe (carries_arguments L M k known))))))

  carries_subject : Carries k (Subject L) (Subject M)
  unfolding Subject
  carries_subject =
      carry_either (carry_node kinds.Tuple (carry_then (carries_star L M k known) (carry_comma_rest (carries_element L M k known)))) (carry_tupled kinds.Tuple (carries_named L M k known) (carries_element L M k known))

  pub carries_match : Carries k (MatchHeader L) (MatchHeader M)
  unfolding MatchHeader
  carries_match = carry_behind match_word refl refl carries_subject

  pub carries_case : Carries k (CaseHeader L) (CaseHeader M)
  unfolding CaseHeader
  carries_case = carry_behind case_word refl refl (carry_then (carries_open_patterns L M k known) (carry_maybe (carry_behind if_word refl refl (carries_named L M k known))))

  pub carries_decorator : Carries k (DecoratorLine L) (DecoratorLine M)
  unfolding DecoratorLine
  carries_decorator = carry_node kinds.Decorator (carry_behind at_sign refl refl (carries_named L M k known))
