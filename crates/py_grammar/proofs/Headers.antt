-- Each reader of a header agrees with its form: what may go on behind it is no `:`.
use Rattle.std.proofs.Common.{false, [], ◌++◌, refl}
use Rattle.tree_nodes.specs.declared.kind.Kind.TheVariants as kinds
use Rattle.py_language.specs.Languages.{Then, Maybe}
use Rattle.py_language.specs.Readers.{both, optional}
use Rattle.py_language.proofs.Looking.{ReadsAlone}
use Rattle.py_grammar.specs.declared.entry.Entry.{Entry}
use Rattle.py_grammar.specs.declared.entry.Entry.TheVariants as e
use Rattle.py_grammar.specs.Terminals.{Form, code}
use Rattle.py_grammar.specs.Words.{name, arrow, as_word, assign, at_sign, case_word, class_word, colon, def_word, double_star, except_word, for_word, if_word, in_word, match_word, slash, star, with_word, left_paren}
use Rattle.py_grammar.specs.Firsts.{test_first, element_first, parameter_first, entry_first}
use Rattle.py_grammar.specs.Nodes.{first_text, second_text, plain_leaf, Token, As}
use Rattle.py_grammar.specs.Tests.{parameters_in_order}
use Rattle.py_grammar.specs.Expressions.{star_parameter, keyword_only_behind_star, Named}
use Rattle.py_grammar.specs.Statements.{AsName}
use Rattle.py_grammar.specs.Headers.{ParameterAnnotation, StarAnnotation, Parameter, Parameters, ForHeader, ExceptHeader, ExceptStarHeader, WithItem, PlainWith, ParenthesizedWith, FunctionHeader, ClassHeader, Subject, MatchHeader, CaseHeader, DecoratorLine}
use Rattle.py_grammar.specs.Reading.{LineReader, token, as_, named_at}
use Rattle.py_grammar.specs.ReadingStatements.{as_name_at}
use Rattle.py_grammar.specs.ReadingHeaders.{parameter_annotation_at, star_annotation_at, parameter_at, parameters_at, for_header_at, except_header_at, except_star_header_at, with_item_at, plain_with_at, parenthesized_with_at, function_header_at, class_header_at, subject_at, match_header_at, case_header_at, decorator_line_at}
use Rattle.py_grammar.proofs.FollowSets.{bit_or_more, test_more, named_more, sx_more, elements_more, pattern_more, parameter_more, parameters_more, as_more, with_more, case_more, entry_more}
use Rattle.py_grammar.proofs.Building.{Reads, as_sets, a_leaf, in_a_row, behind_token, one_of, perhaps, over_it, under, a_node, a_named_node, a_node_behind, with_commas, joined_by_commas, behind_comma, a_tuple, between_parentheses, a_target}
use Rattle.py_grammar.proofs.Expressions.{reads_star, reads_named, reads_element, reads_sx, reads_target_item, reads_targets, reads_arguments}
use Rattle.py_grammar.proofs.Patterns.{reads_open_patterns}
use Rattle.py_grammar.proofs.Statements.{reads_as_name}

module _ (P : Entry → LineReader) (L : Entry → Form) (known : (x : Entry) → Reads false (entry_first x) (entry_more x) (P x) (L x)) (alone : ReadsAlone code name test_more (P e.Test)) (alone_pattern : ReadsAlone code name pattern_more (P e.Pattern)) where
  -- ---- parameters of a `def`

  pub reads_parameter_annotation : Reads false colon test_more (parameter_annotation_at P) (ParameterAnnotation L)
  unfolding parameter_annotation_at ParameterAnnotation
  reads_parameter_annotation = as_sets colon test_more (behind_token colon refl refl (a_node kinds.Annotation (known e.Test))) refl refl

  pub reads_star_annotation : Reads false colon test_more (star_annotation_at P) (StarAnnotation L)
  unfolding star_annotation_at StarAnnotation
  reads_star_annotation = as_sets colon test_more
      (behind_token colon refl refl (one_of (as_sets star bit_or_more (a_node_behind kinds.StarAnnotation star refl refl (known e.BitOr)) refl refl) (a_node kinds.Annotation (known e.Test)) refl)) refl refl

  pub reads_parameter : Reads false parameter_first parameter_more (parameter_at P) (Parameter L)
  unfolding parameter_at Parameter
  reads_parameter = as_sets parameter_first parameter_more
      (one_of (as_sets name parameter_more (a_named_node kinds.Parameter first_text (behind_token name refl refl
      (in_a_row (perhaps reads_parameter_annotation) (perhaps (as_sets assign test_more (behind_token assign refl refl (known e.Test)) refl refl)) refl))) refl refl)
      (one_of (a_leaf (plain_leaf kinds.PositionalOnlyMark) slash refl refl)
      (one_of (as_sets star parameter_more (over_it star_parameter (behind_token star refl refl (perhaps (as_sets name parameter_more (behind_token name refl refl (perhaps reads_star_annotation)) refl refl)))) refl refl)
      (a_named_node kinds.DoubleStarParameter second_text (behind_token double_star refl refl (behind_token name refl refl (perhaps reads_parameter_annotation)))) refl) refl) refl) refl refl

  pub reads_parameters : Reads false parameter_first parameters_more (parameters_at P) (Parameters L)
  unfolding parameters_at Parameters
  reads_parameters = over_it keyword_only_behind_star (under parameters_in_order (with_commas parameters_more reads_parameter refl refl refl))

  -- ---- headers

  pub reads_for_header : Reads false for_word sx_more (for_header_at P) (ForHeader L)
  unfolding for_header_at ForHeader
  reads_for_header = as_sets for_word sx_more (behind_token for_word refl refl (in_a_row (reads_targets P L known alone) (behind_token in_word refl refl (reads_sx P L known alone)) refl)) refl refl

  reads_caught : Reads false test_first as_more (both (P e.Test) (optional code as_word (as_name_at P))) (Then (L e.Test) (Maybe (AsName L)))
  reads_caught = as_sets test_first as_more (in_a_row (known e.Test) (perhaps (reads_as_name P L known alone)) refl) refl refl

  pub reads_except_header : Reads false except_word (test_first ++ as_more) (except_header_at P) (ExceptHeader L)
  unfolding except_header_at ExceptHeader
  reads_except_header = as_sets except_word (test_first ++ as_more) (behind_token except_word refl refl (perhaps reads_caught)) refl refl

  pub reads_except_star_header : Reads false except_word as_more (except_star_header_at P) (ExceptStarHeader L)
  unfolding except_star_header_at ExceptStarHeader
  reads_except_star_header = as_sets except_word as_more (behind_token except_word refl refl (behind_token star refl refl reads_caught)) refl refl

  pub reads_with_item : Reads false test_first as_more (with_item_at P) (WithItem L)
  unfolding with_item_at WithItem
  reads_with_item = as_sets test_first as_more
      (a_node kinds.WithItem (in_a_row (known e.Test) (perhaps (as_sets as_word bit_or_more (behind_token as_word refl refl (a_target (reads_target_item P L known alone))) refl refl)) refl)) refl refl

  pub reads_plain_with : Reads false with_word with_more (plain_with_at P) (PlainWith L)
  unfolding plain_with_at PlainWith
  reads_plain_with = as_sets with_word with_more (behind_token with_word refl refl (joined_by_commas with_more reads_with_item refl refl refl refl)) refl refl

  pub reads_parenthesized_with : Reads false with_word [] (parenthesized_with_at P) (ParenthesizedWith L)
  unfolding parenthesized_with_at ParenthesizedWith
  reads_parenthesized_with = as_sets with_word [] (behind_token with_word refl refl (between_parentheses (with_commas (test_first ++ with_more) reads_with_item refl refl refl) refl)) refl refl

  reads_result : Reads false arrow test_more (both (token arrow) (as_ kinds.Annotation (P e.Test))) (Then (Token arrow) (As kinds.Annotation (L e.Test)))
  reads_result = as_sets arrow test_more (behind_token arrow refl refl (a_node kinds.Annotation (known e.Test))) refl refl

  pub reads_function_header : Reads false def_word (arrow ++ test_more) (function_header_at P) (FunctionHeader L)
  unfolding function_header_at FunctionHeader
  reads_function_header = as_sets def_word (arrow ++ test_more)
      (behind_token def_word refl refl (behind_token name refl refl (in_a_row (between_parentheses (perhaps reads_parameters) refl) (perhaps reads_result) refl))) refl refl

  pub reads_class_header : Reads false class_word left_paren (class_header_at P) (ClassHeader L)
  unfolding class_header_at ClassHeader
  reads_class_header = as_sets class_word left_paren
      (behind_token class_word refl refl (behind_token name refl refl (perhaps (between_parentheses (perhaps (reads_arguments P L known alone)) refl)))) refl refl

  pub reads_subject : Reads false element_first elements_more (subject_at P) (Subject L)
  unfolding subject_at Subject
  reads_subject = as_sets element_first elements_more
      (one_of (as_sets star elements_more (a_node kinds.Tuple (in_a_row (reads_star P L known alone) (behind_comma elements_more (reads_element P L known alone) refl refl) refl)) refl refl)
      (a_tuple kinds.Tuple elements_more elements_more (reads_named P L known alone) (reads_element P L known alone) refl refl refl refl refl) refl) refl refl

  pub reads_match_header : Reads false match_word elements_more (match_header_at P) (MatchHeader L)
  unfolding match_header_at MatchHeader
  reads_match_header = as_sets match_word elements_more (behind_token match_word refl refl reads_subject) refl refl

  reads_guard : Reads false if_word named_more (both (token if_word) (named_at P)) (Then (Token if_word) (Named L))
  reads_guard = as_sets if_word named_more (behind_token if_word refl refl (reads_named P L known alone)) refl refl

  pub reads_case_header : Reads false case_word case_more (case_header_at P) (CaseHeader L)
  unfolding case_header_at CaseHeader
  reads_case_header = as_sets case_word case_more (behind_token case_word refl refl (in_a_row (reads_open_patterns P L known alone alone_pattern) (perhaps reads_guard) refl)) refl refl

  pub reads_decorator_line : Reads false at_sign named_more (decorator_line_at P) (DecoratorLine L)
  unfolding decorator_line_at DecoratorLine
  reads_decorator_line = as_sets at_sign named_more (a_node_behind kinds.Decorator at_sign refl refl (reads_named P L known alone)) refl refl
