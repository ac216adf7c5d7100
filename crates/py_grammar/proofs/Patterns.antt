-- Each reader of a pattern agrees with its form.
use Rattle.std.proofs.Common.{false, [], ◌++◌, refl}
use Rattle.tree_nodes.specs.declared.kind.Kind.TheVariants as kinds
use Rattle.py_language.specs.Languages.{Then, Either, Where, whole, row}
use Rattle.py_language.specs.Readers.{both, choose, where_}
use Rattle.py_language.proofs.Finishing.{agree_finished}
use Rattle.py_language.proofs.Looking.{ReadsAlone, looks_two}
use Rattle.py_grammar.specs.declared.entry.Entry.{Entry}
use Rattle.py_grammar.specs.declared.entry.Entry.TheVariants as e
use Rattle.py_grammar.specs.Terminals.{Form, code}
use Rattle.py_grammar.specs.Words.{opens, closes, name, capture, number, constant_word, as_word, left_paren, left_bracket, left_brace, comma, colon, dot, assign, star, double_star, bar, minus, sum_operator}
use Rattle.py_grammar.specs.Firsts.{signed_first, literal_first, pattern_first, sequence_first, mapping_first, entry_first}
use Rattle.py_grammar.specs.Nodes.{spanning, called, first_text, second_text, last_text, atom_leaf, operator_leaf, CommaRest}
use Rattle.py_grammar.specs.Patterns.{is_complex, name_pattern, star_pattern, has_one_star, sequence_has_one_star, pattern_in_parentheses, rest_is_last, keywords_behind_patterns, is_unformatted, is_dotted, SignedNumber, NumberPattern, Literal, DottedName, ClassArgument, ClassArguments, NamePattern, StarPattern, SequenceItem, ParenthesizedPattern, BracketedPattern, MappingItem, MappingPattern, ClosedPattern, OrPattern, Pattern, OpenPatterns}
use Rattle.py_grammar.specs.Reading.{LineReader, comma_rest}
use Rattle.py_grammar.specs.ReadingPatterns.{signed_number_at, number_pattern_at, literal_at, dotted_name_at, class_argument_at, class_arguments_at, name_pattern_at, star_pattern_at, sequence_item_at, parenthesized_pattern_at, bracketed_pattern_at, mapping_item_at, mapping_pattern_at, closed_pattern_at, or_pattern_at, pattern_at, open_patterns_at}
use Rattle.py_grammar.proofs.FollowSets.{test_more, literal_more, class_argument_more, closed_pattern_more, or_pattern_more, pattern_more, sequence_more, entry_more}
use Rattle.py_grammar.proofs.Building.{Reads, as_sets, a_token, a_leaf, in_a_row, behind_token, one_of, perhaps, by_two, over_it, under, a_node, a_named_node, a_node_behind, operands, with_commas, behind_comma, a_tuple, between_parentheses, between_brackets, between_braces, a_node_from, a_named_node_from, maybe_one, steps_on, a_pair}
use Rattle.py_grammar.proofs.Operators.{reads_strings}

module _ (P : Entry → LineReader) (L : Entry → Form) (known : (x : Entry) → Reads false (entry_first x) (entry_more x) (P x) (L x)) (alone : ReadsAlone code name test_more (P e.Test)) (alone_pattern : ReadsAlone code name pattern_more (P e.Pattern)) where
  -- ---- literals and names

  pub reads_signed_number : Reads false signed_first [] (signed_number_at P) (SignedNumber L)
  unfolding signed_number_at SignedNumber
  reads_signed_number = as_sets signed_first [] (one_of (a_leaf atom_leaf number refl refl) (a_node_behind kinds.UnaryMinus minus refl refl (a_leaf atom_leaf number refl refl)) refl) refl refl

  pub reads_number_pattern : Reads false signed_first sum_operator (number_pattern_at P) (NumberPattern L)
  unfolding number_pattern_at NumberPattern
  reads_number_pattern = as_sets signed_first sum_operator
      (over_it (row (spanning kinds.Sum)) (under is_complex (in_a_row reads_signed_number
      (perhaps (as_sets sum_operator [] (in_a_row (a_leaf operator_leaf sum_operator refl refl) (a_leaf atom_leaf number refl refl) refl) refl refl)) refl))) refl refl

  pub reads_literal : Reads false literal_first literal_more (literal_at P) (Literal L)
  unfolding literal_at Literal
  reads_literal = as_sets literal_first literal_more
      (one_of reads_number_pattern (one_of (under is_unformatted (reads_strings P L known alone)) (a_leaf atom_leaf constant_word refl refl) refl) refl) refl refl

  pub reads_dotted_name : Reads false name dot (dotted_name_at P) (DottedName L)
  unfolding dotted_name_at DottedName
  reads_dotted_name = as_sets name dot
      (steps_on (a_leaf atom_leaf name refl refl) (a_named_node_from kinds.Attribute last_text (as_sets dot [] (behind_token dot refl refl (a_token name refl refl)) refl refl)) refl refl) refl refl

  -- ---- classes and names

  pub reads_class_argument : Reads false pattern_first class_argument_more (class_argument_at P) (ClassArgument L)
  unfolding class_argument_at ClassArgument
  reads_class_argument = as_sets pattern_first class_argument_more
      (by_two name assign (a_pair kinds.MatchKeyword assign refl refl refl (known e.Pattern)) (looks_two code name assign (whole (called kinds.MatchKeyword first_text)) (L e.Pattern)) (known e.Pattern) alone_pattern refl) refl refl

  pub reads_class_arguments : Reads false left_paren [] (class_arguments_at P) (ClassArguments L)
  unfolding class_arguments_at ClassArguments
  reads_class_arguments =
      under keywords_behind_patterns (between_parentheses (perhaps (with_commas (pattern_first ++ comma ++ class_argument_more) reads_class_argument refl refl refl)) refl)

  pub reads_name_pattern : Reads false name (left_paren ++ dot) (name_pattern_at P) (NamePattern L)
  unfolding name_pattern_at NamePattern
  reads_name_pattern = as_sets name (left_paren ++ dot) (agree_finished code opens closes name_pattern reads_dotted_name (a_node_from kinds.MatchClass reads_class_arguments) refl) refl refl

  -- ---- sequences

  pub reads_star_pattern : Reads false star [] (star_pattern_at P) (StarPattern L)
  unfolding star_pattern_at StarPattern
  reads_star_pattern = as_sets star [] (over_it star_pattern (behind_token star refl refl (a_token name refl refl))) refl refl

  pub reads_sequence_item : Reads false sequence_first pattern_more (sequence_item_at P) (SequenceItem L)
  unfolding sequence_item_at SequenceItem
  reads_sequence_item = as_sets sequence_first pattern_more (one_of reads_star_pattern (known e.Pattern) refl) refl refl

  reads_more_items : Reads false comma sequence_more (comma_rest sequence_first (sequence_item_at P)) (CommaRest (SequenceItem L))
  reads_more_items = behind_comma sequence_more reads_sequence_item refl refl

  reads_star_first : Reads false star sequence_more (both (star_pattern_at P) (comma_rest sequence_first (sequence_item_at P))) (Then (StarPattern L) (CommaRest (SequenceItem L)))
  reads_star_first = as_sets star sequence_more (in_a_row reads_star_pattern reads_more_items refl) refl refl

  pub reads_parenthesized_pattern : Reads false left_paren [] (parenthesized_pattern_at P) (ParenthesizedPattern L)
  unfolding parenthesized_pattern_at ParenthesizedPattern
  reads_parenthesized_pattern =
      over_it pattern_in_parentheses (under has_one_star (between_parentheses (perhaps (as_sets sequence_first sequence_more
      (one_of reads_star_first (as_sets pattern_first sequence_more (in_a_row (known e.Pattern) (perhaps reads_more_items) refl) refl refl) refl) refl refl)) refl))

  pub reads_bracketed_pattern : Reads false left_bracket [] (bracketed_pattern_at P) (BracketedPattern L)
  unfolding bracketed_pattern_at BracketedPattern
  reads_bracketed_pattern = a_node kinds.MatchSequence (under has_one_star (between_brackets (perhaps (with_commas sequence_more reads_sequence_item refl refl refl)) refl))

  -- ---- mappings

  reads_key : Reads false (literal_first ++ name) (literal_more ++ dot) (choose code literal_first (literal_at P) (where_ is_dotted (dotted_name_at P))) (Either (Literal L) (Where is_dotted (DottedName L)))
  reads_key = as_sets (literal_first ++ name) (literal_more ++ dot) (one_of reads_literal (under is_dotted reads_dotted_name) refl) refl refl

  pub reads_mapping_item : Reads false mapping_first pattern_more (mapping_item_at P) (MappingItem L)
  unfolding mapping_item_at MappingItem
  reads_mapping_item = as_sets mapping_first pattern_more
      (one_of (as_sets double_star [] (a_named_node kinds.MatchRest second_text (behind_token double_star refl refl (a_token capture refl refl))) refl refl)
      (a_node kinds.MatchItem (in_a_row reads_key (behind_token colon refl refl (known e.Pattern)) refl)) refl) refl refl

  pub reads_mapping_pattern : Reads false left_brace [] (mapping_pattern_at P) (MappingPattern L)
  unfolding mapping_pattern_at MappingPattern
  reads_mapping_pattern = a_node kinds.MatchMapping (under rest_is_last (between_braces (perhaps (with_commas (mapping_first ++ comma ++ pattern_more) reads_mapping_item refl refl refl)) refl))

  -- ---- patterns

  pub reads_closed_pattern : Reads false pattern_first closed_pattern_more (closed_pattern_at P) (ClosedPattern L)
  unfolding closed_pattern_at ClosedPattern
  reads_closed_pattern = as_sets pattern_first closed_pattern_more
      (one_of (a_node kinds.MatchValue reads_literal) (one_of reads_name_pattern (one_of reads_parenthesized_pattern (one_of reads_bracketed_pattern reads_mapping_pattern refl) refl) refl) refl) refl refl

  pub reads_or_pattern : Reads false pattern_first or_pattern_more (or_pattern_at P) (OrPattern L)
  unfolding or_pattern_at OrPattern
  reads_or_pattern = operands kinds.MatchOr or_pattern_more (a_token bar refl refl) reads_closed_pattern refl refl refl refl refl refl

  pub reads_pattern : Reads false pattern_first pattern_more (pattern_at P) (Pattern L)
  unfolding pattern_at Pattern
  reads_pattern = as_sets pattern_first pattern_more
      (maybe_one reads_or_pattern (a_named_node_from kinds.MatchAs last_text (as_sets as_word [] (behind_token as_word refl refl (a_token capture refl refl)) refl refl)) refl) refl refl

  pub reads_open_patterns : Reads false sequence_first sequence_more (open_patterns_at P) (OpenPatterns L)
  unfolding open_patterns_at OpenPatterns
  reads_open_patterns =
      under sequence_has_one_star (as_sets sequence_first sequence_more
      (one_of (a_node kinds.MatchSequence reads_star_first) (a_tuple kinds.MatchSequence sequence_more sequence_more (known e.Pattern) reads_sequence_item refl refl refl refl refl) refl) refl refl)
