-- How deep a pattern leads back: within brackets alone, so that where the forms in which it leads back carry at k, a
-- pattern carries at k + 1.
use Rattle.std.proofs.Common.{ℕ, suc, refl}
use Rattle.tree_nodes.specs.declared.kind.Kind.TheVariants as kinds
use Rattle.py_grammar.specs.declared.entry.Entry.{Entry}
use Rattle.py_grammar.specs.declared.entry.Entry.TheVariants as e
use Rattle.py_grammar.specs.Terminals.{Form}
use Rattle.py_grammar.specs.Words.{name, capture, number, constant_word, as_word, colon, dot, assign, star, double_star, bar, minus, sum_operator}
use Rattle.py_grammar.specs.Nodes.{first_text, second_text, last_text, atom_leaf, operator_leaf}
use Rattle.py_grammar.specs.Patterns.{is_complex, name_pattern, star_pattern, has_one_star, sequence_has_one_star, pattern_in_parentheses, rest_is_last, keywords_behind_patterns, is_unformatted, is_dotted, SignedNumber, NumberPattern, Literal, Dotted, DottedName, ClassArgument, ClassArguments, NamePattern, StarPattern, SequenceItem, ParenthesizedPattern, BracketedPattern, MappingItem, MappingPattern, ClosedPattern, OrPattern, Pattern, OpenPatterns}
use Rattle.py_grammar.proofs.DepthBuilding.{Carries, Leads, one_less, carry_token, carry_leaf, carry_then, carry_behind, carry_either, carry_maybe, carry_where, carry_steps, carry_over, carry_over_same, carry_node, carry_named_node, carry_row_node, carry_row, carry_commas, carry_comma_rest, carry_tupled, carry_parentheses, carry_brackets, carry_braces}
use Rattle.py_grammar.proofs.Weighing.{pattern_parentheses_keep}
use Rattle.py_grammar.proofs.DepthOperators.{carries_strings}

module _ (L M : Entry → Form) (k : ℕ) (known : Leads k L M) where
  -- ---- literals and names, which lead back in the fields of strings alone

  carries_signed_number : Carries (suc k) (SignedNumber L) (SignedNumber M)
  unfolding SignedNumber
  carries_signed_number = carry_either (carry_leaf atom_leaf number refl refl) (carry_node kinds.UnaryMinus (carry_behind minus refl refl (carry_leaf atom_leaf number refl refl)))

  carries_number_pattern : Carries (suc k) (NumberPattern L) (NumberPattern M)
  unfolding NumberPattern
  carries_number_pattern = carry_row_node kinds.Sum (carry_where is_complex (carry_then carries_signed_number (carry_maybe (carry_then (carry_leaf operator_leaf sum_operator refl refl) (carry_leaf atom_leaf number refl refl)))))

  carries_literal : Carries (suc k) (Literal L) (Literal M)
  unfolding Literal
  carries_literal = carry_either carries_number_pattern (carry_either (carry_where is_unformatted (carries_strings L M k known)) (carry_leaf atom_leaf constant_word refl refl))

  carries_dotted_name : Carries (suc k) (DottedName L) (DottedName M)
  unfolding DottedName
  carries_dotted_name =
      carry_steps (Dotted L) (Dotted M) (λ a b C. carry_named_node kinds.Attribute last_text (carry_then C (carry_behind dot refl refl (carry_token name refl refl)))) (carry_leaf atom_leaf name refl refl)

  -- ---- classes and names

  carries_class_argument : Carries k (ClassArgument L) (ClassArgument M)
  unfolding ClassArgument
  carries_class_argument = carry_either (carry_named_node kinds.MatchKeyword first_text (carry_behind name refl refl (carry_behind assign refl refl (known e.Pattern)))) (known e.Pattern)

  carries_class_arguments : Carries (suc k) (ClassArguments L) (ClassArguments M)
  unfolding ClassArguments
  carries_class_arguments = carry_where keywords_behind_patterns (carry_parentheses (carry_maybe (carry_commas carries_class_argument)))

  carries_name_pattern : Carries (suc k) (NamePattern L) (NamePattern M)
  unfolding NamePattern DottedName
  carries_name_pattern = carry_either (carry_over_same name_pattern carries_dotted_name) (carry_node kinds.MatchClass (carry_then carries_dotted_name carries_class_arguments))

  -- ---- sequences

  carries_star_pattern : {j : ℕ} → Carries j (StarPattern L) (StarPattern M)
  unfolding StarPattern
  carries_star_pattern = carry_over_same star_pattern (carry_behind star refl refl (carry_token name refl refl))

  carries_sequence_item : Carries k (SequenceItem L) (SequenceItem M)
  unfolding SequenceItem
  carries_sequence_item = carry_either carries_star_pattern (known e.Pattern)

  carries_parenthesized_pattern : Carries (suc k) (ParenthesizedPattern L) (ParenthesizedPattern M)
  unfolding ParenthesizedPattern
  carries_parenthesized_pattern =
      carry_over pattern_in_parentheses pattern_parentheses_keep (carry_where has_one_star (carry_parentheses (carry_maybe
      (carry_either (carry_then carries_star_pattern (carry_comma_rest carries_sequence_item)) (carry_then (known e.Pattern) (carry_maybe (carry_comma_rest carries_sequence_item)))))))

  carries_bracketed_pattern : Carries (suc k) (BracketedPattern L) (BracketedPattern M)
  unfolding BracketedPattern
  carries_bracketed_pattern = carry_node kinds.MatchSequence (carry_where has_one_star (carry_brackets (carry_maybe (carry_commas carries_sequence_item))))

  -- ---- mappings

  carries_mapping_item : Carries k (MappingItem L) (MappingItem M)
  unfolding MappingItem
  carries_mapping_item =
      carry_either (carry_named_node kinds.MatchRest second_text (carry_behind double_star refl refl (carry_token capture refl refl)))
      (carry_node kinds.MatchItem (carry_then (one_less (carry_either carries_literal (carry_where is_dotted carries_dotted_name))) (carry_behind colon refl refl (known e.Pattern))))

  carries_mapping_pattern : Carries (suc k) (MappingPattern L) (MappingPattern M)
  unfolding MappingPattern
  carries_mapping_pattern = carry_node kinds.MatchMapping (carry_where rest_is_last (carry_braces (carry_maybe (carry_commas carries_mapping_item))))

  -- ---- patterns

  carries_closed_pattern : Carries (suc k) (ClosedPattern L) (ClosedPattern M)
  unfolding ClosedPattern
  carries_closed_pattern =
      carry_either (carry_node kinds.MatchValue carries_literal)
      (carry_either carries_name_pattern (carry_either carries_parenthesized_pattern (carry_either carries_bracketed_pattern carries_mapping_pattern)))

  carries_or_pattern : Carries (suc k) (OrPattern L) (OrPattern M)
  unfolding OrPattern
  carries_or_pattern = carry_row kinds.MatchOr (carry_token bar refl refl) carries_closed_pattern

  pub carries_pattern : Carries (suc k) (Pattern L) (Pattern M)
  unfolding Pattern
  carries_pattern = carry_either carries_or_pattern (carry_named_node kinds.MatchAs last_text (carry_then carries_or_pattern (carry_behind as_word refl refl (carry_token capture refl refl))))

  -- patterns beside others
  pub carries_open_patterns : Carries k (OpenPatterns L) (OpenPatterns M)
  unfolding OpenPatterns
  carries_open_patterns =
      carry_where sequence_has_one_star
      (carry_either (carry_node kinds.MatchSequence (carry_then carries_star_pattern (carry_comma_rest carries_sequence_item))) (carry_tupled kinds.MatchSequence (known e.Pattern) carries_sequence_item))
