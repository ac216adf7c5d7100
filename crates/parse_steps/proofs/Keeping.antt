-- No form of the grammar leaves more than was there.
use Rattle.std.proofs.Common.{◌≡◌, ℕ, zero, suc, List, [], ◌∷◌, ◌++◌}
use Rattle.tree_nodes.specs.Trees.{Node, Tree}
use Rattle.tree_nodes.specs.declared.kind.Kind.{Kind}
use Rattle.py_language.specs.Readers.{Read, got, fails, both, extended}
use Rattle.py_grammar.specs.declared.entry.Entry.{Entry}
use Rattle.py_grammar.specs.declared.entry.Entry.TheVariants as e
use Rattle.py_grammar.specs.Terminals.{Terminal, code}
use Rattle.tree_nodes.specs.declared.kind.Kind.TheVariants as kinds
use Rattle.py_language.specs.Languages.{whole, row}
use Rattle.py_grammar.specs.Words as w
use Rattle.py_grammar.specs.Nodes.{spanning, called, first_text, second_text, last_text, strings_text, atom_leaf, operator_leaf, plain_leaf}
use Rattle.py_grammar.specs.Tests.{in_order, parameters_in_order}
use Rattle.py_grammar.specs.Expressions.{in_parentheses, in_brackets, in_braces, are_alike, call_arguments, are_arguments, string_node, sign_node, star_parameter, keyword_only_behind_star, bound, is_one_target}
use Rattle.py_grammar.specs.Patterns.{is_complex, name_pattern, star_pattern, has_one_star, pattern_in_parentheses, rest_is_last, keywords_behind_patterns, is_unformatted, is_dotted}
use Rattle.py_grammar.specs.Firsts as f
use Rattle.py_grammar.specs.Reading.{LineReader, token, leaf, as_, called_, row_, joined_, commas, comma_rest, tupled, parenthesized, bracketed_, braced, target, pair, star_at, named_at, element_at, sx_item_at, sx_at, yield_at, target_item_at, targets_at, for_clause_at, clause_at, clauses_at, more_elements_at, parenthesized_at, list_display_at, item_or_named_at, unpacked_at, brace_entry_at, more_entries_at, brace_display_at, starred_argument_at, plain_argument_at, argument_at, arguments_at, more_arguments_at, call_arguments_at, slice_rest_at, slice_at, slices_item_at, slices_at, trailer_at, field_expression_at, inner_field_at, field_at, string_part_at, strings_at, atom_at, primary_at, awaited_at, power_at, factor_at, term_at, arith_at, shift_at, bit_and_at, bit_xor_at, bit_or_at, comparison_sign_at, comparison_at, not_at, and_at, or_at, lambda_parameter_at, lambda_parameters_at, lambda_at, test_at}
use Rattle.py_grammar.specs.ReadingPatterns.{signed_number_at, number_pattern_at, literal_at, dotted_name_at, class_argument_at, class_arguments_at, name_pattern_at, star_pattern_at, sequence_item_at, parenthesized_pattern_at, bracketed_pattern_at, mapping_item_at, mapping_pattern_at, closed_pattern_at, or_pattern_at, pattern_at}
use Rattle.py_grammar.specs.ReadingLines.{reader_of, phrase_at}
use Rattle.parse_steps.proofs.Shrinking.{Keeps, Shrinks, KeepsOn, ShrinksOn, keeps, shrinks_skipped, shrinks_shown, keeps_nothing, keeps_both, shrinks_both, keeps_choose, shrinks_choose, keeps_by_two, shrinks_by_two, keeps_optional, keeps_made, shrinks_made, keeps_where, shrinks_where, keeps_many, keeps_some, shrinks_some, keeps_separated, shrinks_bracketed, keeps_followed, keeps_extended, shrinks_extended, keeps_extended_where, keeps_nothing_more, keeps_finished, keeps_pick, shrinks_pick, keeps_maybe, keeps_on, keeps_in_turns}

-- the nested readers keep
abbrev pub AllKeep : (Entry → LineReader) → Type 0
AllKeep self = (entry : Entry) → Keeps (self entry)

-- ---- what forms are built of

shrinks_token : (set : List ℕ) → Shrinks (token set)
shrinks_token set = shrinks_skipped set

keeps_token : (set : List ℕ) → Keeps (token set)
keeps_token set = keeps (shrinks_skipped set)

keeps_leaf : (node_of : Terminal → Node) (set : List ℕ) → Keeps (leaf node_of set)
keeps_leaf node_of set = keeps (shrinks_shown node_of set)

-- a token, and then
shrinks_behind : {p : LineReader} (set : List ℕ) → Keeps p → Shrinks (both (token set) p)
shrinks_behind set A = shrinks_both (shrinks_token set) A

keeps_behind : {p : LineReader} (set : List ℕ) → Keeps p → Keeps (both (token set) p)
keeps_behind set A = keeps (shrinks_behind set A)

keeps_row : {op p : LineReader} (kind : Kind) (first : List ℕ) → Keeps op → Keeps p → Keeps (row_ kind first op p)
keeps_row kind first O A = keeps_made (row (spanning kind)) (keeps_both A (keeps_many first (keeps_both O A)))

keeps_joined : {p : LineReader} → Keeps p → Keeps (joined_ p)
keeps_joined A = keeps_both A (keeps_many w.comma (keeps_behind w.comma A))

keeps_commas : {p : LineReader} (first : List ℕ) → Keeps p → Keeps (commas first p)
keeps_commas first A = keeps_separated w.comma first A

pub keeps_comma_rest : {p : LineReader} (first : List ℕ) → Keeps p → Keeps (comma_rest first p)
keeps_comma_rest first A = keeps_behind w.comma (keeps_optional first (keeps_commas first A))

keeps_tupled : {p q : LineReader} (kind : Kind) (first : List ℕ) → Keeps p → Keeps q → Keeps (tupled kind first p q)
keeps_tupled kind first A B = keeps_followed A (keeps_maybe w.comma (keeps_extended (whole (spanning kind)) (keeps_comma_rest first B)))

keeps_pair : {p : LineReader} (kind : Kind) (mark : List ℕ) → Keeps p → Keeps (pair kind mark p)
keeps_pair kind mark A = keeps_made (whole (called kind first_text)) (keeps_behind w.name (keeps_behind mark A))

keeps_target : {p : LineReader} → Keeps p → Keeps (target p)
keeps_target A = keeps_made bound (keeps_where is_one_target A)

keeps_in_parentheses : {p : LineReader} → Keeps p → Keeps (parenthesized p)
keeps_in_parentheses A = keeps (shrinks_bracketed w.left_paren w.right_paren A)

keeps_in_brackets : {p : LineReader} → Keeps p → Keeps (bracketed_ p)
keeps_in_brackets A = keeps (shrinks_bracketed w.left_bracket w.right_bracket A)

keeps_in_braces : {p : LineReader} → Keeps p → Keeps (braced p)
keeps_in_braces A = keeps (shrinks_bracketed w.left_brace w.right_brace A)

-- ---- expressions

pub keeps_star : (self : Entry → LineReader) → AllKeep self → Keeps (star_at self)
unfolding star_at
keeps_star self k = keeps_made (whole (spanning kinds.Starred)) (keeps_behind w.star (k e.BitOr))

pub keeps_named : (self : Entry → LineReader) → AllKeep self → Keeps (named_at self)
unfolding named_at
keeps_named self k = keeps_by_two w.name w.walrus (keeps_pair kinds.NamedExpression w.walrus (k e.Test)) (k e.Test)

pub keeps_element : (self : Entry → LineReader) → AllKeep self → Keeps (element_at self)
unfolding element_at
keeps_element self k = keeps_choose w.star (keeps_star self k) (keeps_named self k)

pub keeps_sx_item : (self : Entry → LineReader) → AllKeep self → Keeps (sx_item_at self)
unfolding sx_item_at
keeps_sx_item self k = keeps_choose w.star (keeps_star self k) (k e.Test)

pub keeps_sx : (self : Entry → LineReader) → AllKeep self → Keeps (sx_at self)
unfolding sx_at
keeps_sx self k = keeps_tupled kinds.Tuple f.element_first (keeps_sx_item self k) (keeps_sx_item self k)

pub keeps_yield : (self : Entry → LineReader) → AllKeep self → Keeps (yield_at self)
unfolding yield_at
keeps_yield self k =
    keeps_by_two w.yield_word w.from_word (keeps_made (whole (spanning kinds.YieldFrom)) (keeps_behind w.yield_word (keeps_behind w.from_word (k e.Test))))
    (keeps_made (whole (spanning kinds.Yield)) (keeps_behind w.yield_word (keeps_optional f.element_first (keeps_sx self k))))

pub keeps_target_item : (self : Entry → LineReader) → AllKeep self → Keeps (target_item_at self)
unfolding target_item_at
keeps_target_item self k = keeps_choose w.star (keeps_star self k) (k e.BitOr)

pub keeps_targets : (self : Entry → LineReader) → AllKeep self → Keeps (targets_at self)
unfolding targets_at
keeps_targets self k = keeps_target (keeps_tupled kinds.Tuple f.target_first (keeps_target_item self k) (keeps_target_item self k))

shrinks_for_clause : (self : Entry → LineReader) → AllKeep self → Shrinks (for_clause_at self)
unfolding for_clause_at
shrinks_for_clause self k =
    shrinks_behind w.for_word (keeps_both (keeps_targets self k) (keeps_behind w.in_word (keeps_both (k e.Or) (keeps_many w.if_word (keeps_behind w.if_word (k e.Or))))))

pub shrinks_if : (self : Entry → LineReader) → AllKeep self → Shrinks (both (token w.if_word) (self e.Or))
shrinks_if self k = shrinks_behind w.if_word (k e.Or)

pub shrinks_clause : (self : Entry → LineReader) → AllKeep self → Shrinks (clause_at self)
unfolding clause_at
shrinks_clause self k = shrinks_choose w.async_word (shrinks_made (whole (spanning kinds.AsyncComprehensionFor)) (shrinks_behind w.async_word (keeps (shrinks_for_clause self k)))) (shrinks_made (whole (spanning kinds.ComprehensionFor)) (shrinks_for_clause self k))

keeps_clauses : (self : Entry → LineReader) → AllKeep self → Keeps (clauses_at self)
unfolding clauses_at
keeps_clauses self k = keeps_some f.clause_first (keeps (shrinks_clause self k))

keeps_more_elements : (self : Entry → LineReader) → AllKeep self → Keeps (more_elements_at self)
unfolding more_elements_at
keeps_more_elements self k = keeps_choose f.clause_first (keeps_clauses self k) (keeps_comma_rest f.element_first (keeps_element self k))

keeps_parenthesized : (self : Entry → LineReader) → AllKeep self → Keeps (parenthesized_at self)
unfolding parenthesized_at
keeps_parenthesized self k =
    keeps_made in_parentheses (keeps_in_parentheses (keeps_optional f.value_first
    (keeps_choose w.yield_word (keeps_yield self k)
    (keeps_choose w.star (keeps_both (keeps_star self k) (keeps_comma_rest f.element_first (keeps_element self k))) (keeps_both (keeps_named self k) (keeps_optional f.clause_or_comma (keeps_more_elements self k)))))))

keeps_list_display : (self : Entry → LineReader) → AllKeep self → Keeps (list_display_at self)
unfolding list_display_at
keeps_list_display self k =
    keeps_made in_brackets (keeps_in_brackets (keeps_optional f.element_first
    (keeps_choose w.star (keeps_both (keeps_star self k) (keeps_optional w.comma (keeps_comma_rest f.element_first (keeps_element self k)))) (keeps_both (keeps_named self k) (keeps_optional f.clause_or_comma (keeps_more_elements self k))))))

keeps_item_or_named : (self : Entry → LineReader) → AllKeep self → Keeps (item_or_named_at self)
unfolding item_or_named_at
keeps_item_or_named self k =
    keeps_by_two w.name w.walrus (keeps_pair kinds.NamedExpression w.walrus (k e.Test)) (keeps_followed (k e.Test) (keeps_maybe w.colon (keeps_extended (whole (spanning kinds.DictItem)) (keeps_behind w.colon (k e.Test)))))

keeps_unpacked : (self : Entry → LineReader) → AllKeep self → Keeps (unpacked_at self)
unfolding unpacked_at
keeps_unpacked self k = keeps_choose w.double_star (keeps_made (whole (spanning kinds.DictUnpack)) (keeps_behind w.double_star (k e.BitOr))) (keeps_star self k)

pub keeps_brace_entry : (self : Entry → LineReader) → AllKeep self → Keeps (brace_entry_at self)
unfolding brace_entry_at
keeps_brace_entry self k = keeps_choose f.unpacked_first (keeps_unpacked self k) (keeps_item_or_named self k)

keeps_more_entries : (self : Entry → LineReader) → AllKeep self → Keeps (more_entries_at self)
unfolding more_entries_at
keeps_more_entries self k = keeps_choose f.clause_first (keeps_clauses self k) (keeps_comma_rest f.brace_first (keeps_brace_entry self k))

keeps_brace_display : (self : Entry → LineReader) → AllKeep self → Keeps (brace_display_at self)
unfolding brace_display_at
keeps_brace_display self k =
    keeps_made in_braces (keeps_where are_alike (keeps_in_braces (keeps_optional f.brace_first
    (keeps_choose f.unpacked_first (keeps_both (keeps_unpacked self k) (keeps_optional w.comma (keeps_comma_rest f.brace_first (keeps_brace_entry self k))))
    (keeps_both (keeps_item_or_named self k) (keeps_optional f.clause_or_comma (keeps_more_entries self k)))))))

keeps_starred_argument : (self : Entry → LineReader) → AllKeep self → Keeps (starred_argument_at self)
unfolding starred_argument_at
keeps_starred_argument self k =
    keeps_choose w.star (keeps_made (whole (spanning kinds.StarArgument)) (keeps_behind w.star (k e.Test))) (keeps_made (whole (spanning kinds.DoubleStarArgument)) (keeps_behind w.double_star (k e.Test)))

keeps_plain_argument : (self : Entry → LineReader) → AllKeep self → Keeps (plain_argument_at self)
unfolding plain_argument_at
keeps_plain_argument self k = keeps_by_two w.name w.assign (keeps_pair kinds.KeywordArgument w.assign (k e.Test)) (keeps_named self k)

pub keeps_argument : (self : Entry → LineReader) → AllKeep self → Keeps (argument_at self)
unfolding argument_at
keeps_argument self k = keeps_choose f.starred_first (keeps_starred_argument self k) (keeps_plain_argument self k)

pub keeps_arguments : (self : Entry → LineReader) → AllKeep self → Keeps (arguments_at self)
unfolding arguments_at
keeps_arguments self k = keeps_where in_order (keeps_commas f.argument_first (keeps_argument self k))

keeps_more_arguments : (self : Entry → LineReader) → AllKeep self → Keeps (more_arguments_at self)
unfolding more_arguments_at
keeps_more_arguments self k = keeps_choose f.clause_first (keeps_clauses self k) (keeps_comma_rest f.argument_first (keeps_argument self k))

shrinks_call_arguments : (self : Entry → LineReader) → AllKeep self → Shrinks (call_arguments_at self)
unfolding call_arguments_at
shrinks_call_arguments self k =
    shrinks_made call_arguments (shrinks_where are_arguments (shrinks_bracketed w.left_paren w.right_paren (keeps_optional f.argument_first
    (keeps_choose f.starred_first (keeps_both (keeps_starred_argument self k) (keeps_optional w.comma (keeps_comma_rest f.argument_first (keeps_argument self k))))
    (keeps_both (keeps_plain_argument self k) (keeps_optional f.clause_or_comma (keeps_more_arguments self k)))))))

keeps_slice_rest : (self : Entry → LineReader) → AllKeep self → Keeps (slice_rest_at self)
unfolding slice_rest_at
keeps_slice_rest self k =
    keeps_both (keeps_leaf (plain_leaf kinds.SliceColon) w.colon) (keeps_both (keeps_optional f.test_first (k e.Test)) (keeps_optional w.colon (keeps_both (keeps_leaf (plain_leaf kinds.SliceColon) w.colon) (keeps_optional f.test_first (k e.Test)))))

keeps_slice : (self : Entry → LineReader) → AllKeep self → Keeps (slice_at self)
unfolding slice_at
keeps_slice self k =
    keeps_choose w.colon (keeps_made (whole (spanning kinds.Slice)) (keeps_slice_rest self k))
    (keeps_by_two w.name w.walrus (keeps_pair kinds.NamedExpression w.walrus (k e.Test)) (keeps_followed (k e.Test) (keeps_maybe w.colon (keeps_extended (whole (spanning kinds.Slice)) (keeps_slice_rest self k)))))

pub keeps_slices_item : (self : Entry → LineReader) → AllKeep self → Keeps (slices_item_at self)
unfolding slices_item_at
keeps_slices_item self k = keeps_choose w.star (keeps_made (whole (spanning kinds.Starred)) (keeps_behind w.star (k e.Test))) (keeps_slice self k)

keeps_slices : (self : Entry → LineReader) → AllKeep self → Keeps (slices_at self)
unfolding slices_at
keeps_slices self k = keeps_tupled kinds.Slices f.slices_first (keeps_slices_item self k) (keeps_slices_item self k)

pub shrinks_trailer : (self : Entry → LineReader) → AllKeep self → ShrinksOn (trailer_at self)
unfolding trailer_at
shrinks_trailer self k =
    shrinks_pick w.dot (shrinks_extended (whole (called kinds.Attribute last_text)) (shrinks_behind w.dot (keeps_token w.name)))
    (shrinks_pick w.left_paren (shrinks_extended (whole (spanning kinds.Call)) (shrinks_call_arguments self k)) (shrinks_extended (whole (spanning kinds.Subscript)) (shrinks_bracketed w.left_bracket w.right_bracket (keeps_slices self k))))

keeps_field_expression : (self : Entry → LineReader) → AllKeep self → Keeps (field_expression_at self)
unfolding field_expression_at
keeps_field_expression self k = keeps_choose w.yield_word (keeps_yield self k) (keeps_sx self k)

pub shrinks_inner_field : (self : Entry → LineReader) → AllKeep self → Shrinks (inner_field_at self)
unfolding inner_field_at
shrinks_inner_field self k = shrinks_made (whole (spanning kinds.Field)) (shrinks_bracketed w.field_open w.field_close (keeps_field_expression self k))

pub shrinks_field : (self : Entry → LineReader) → AllKeep self → Shrinks (field_at self)
unfolding field_at
shrinks_field self k = shrinks_made (whole (spanning kinds.Field)) (shrinks_bracketed w.field_open w.field_close (keeps_both (keeps_field_expression self k) (keeps_many w.field_open (keeps (shrinks_inner_field self k)))))

pub shrinks_string_part : (self : Entry → LineReader) → AllKeep self → Shrinks (string_part_at self)
unfolding string_part_at
shrinks_string_part self k =
    shrinks_choose w.plain_string (shrinks_token w.plain_string) (shrinks_behind w.format_string (keeps_both (keeps_many w.field_open (keeps (shrinks_field self k))) (keeps_token w.format_string_end)))

keeps_strings : (self : Entry → LineReader) → AllKeep self → Keeps (strings_at self)
unfolding strings_at
keeps_strings self k =
    keeps_choose w.byte_string (keeps_made (whole (called kinds.BytesLiteral strings_text)) (keeps_some w.byte_string (keeps_token w.byte_string))) (keeps_made (whole string_node) (keeps_some f.string_first (keeps (shrinks_string_part self k))))

pub keeps_atom : (self : Entry → LineReader) → AllKeep self → Keeps (atom_at self)
unfolding atom_at
keeps_atom self k =
    keeps_choose w.simple_atom (keeps_leaf atom_leaf w.simple_atom)
    (keeps_choose f.strings_first (keeps_strings self k) (keeps_choose w.left_paren (keeps_parenthesized self k) (keeps_choose w.left_bracket (keeps_list_display self k) (keeps_brace_display self k))))

keeps_primary : (self : Entry → LineReader) → AllKeep self → Keeps (primary_at self)
unfolding primary_at
keeps_primary self k = keeps_in_turns f.trailer_first (keeps_atom self k) (keeps_on (shrinks_trailer self k))

keeps_awaited : (self : Entry → LineReader) → AllKeep self → Keeps (awaited_at self)
unfolding awaited_at
keeps_awaited self k = keeps_choose w.await_word (keeps_made (whole (spanning kinds.Await)) (keeps_behind w.await_word (keeps_primary self k))) (keeps_primary self k)

keeps_power : (self : Entry → LineReader) → AllKeep self → Keeps (power_at self)
unfolding power_at
keeps_power self k = keeps_followed (keeps_awaited self k) (keeps_maybe w.double_star (keeps_extended (whole (spanning kinds.Power)) (keeps_behind w.double_star (k e.Factor))))

pub keeps_factor : (self : Entry → LineReader) → AllKeep self → Keeps (factor_at self)
unfolding factor_at
keeps_factor self k = keeps_choose w.sign (keeps_made (whole sign_node) (keeps_behind w.sign (k e.Factor))) (keeps_power self k)

pub keeps_term : (self : Entry → LineReader) → AllKeep self → Keeps (term_at self)
unfolding term_at
keeps_term self k = keeps_row kinds.Product w.product_operator (keeps_leaf operator_leaf w.product_operator) (keeps_factor self k)

pub keeps_arith : (self : Entry → LineReader) → AllKeep self → Keeps (arith_at self)
unfolding arith_at
keeps_arith self k = keeps_row kinds.Sum w.sum_operator (keeps_leaf operator_leaf w.sum_operator) (keeps_term self k)

pub keeps_shift : (self : Entry → LineReader) → AllKeep self → Keeps (shift_at self)
unfolding shift_at
keeps_shift self k = keeps_row kinds.Shift w.shift_operator (keeps_leaf operator_leaf w.shift_operator) (keeps_arith self k)

pub keeps_bit_and : (self : Entry → LineReader) → AllKeep self → Keeps (bit_and_at self)
unfolding bit_and_at
keeps_bit_and self k = keeps_row kinds.BitwiseAnd w.ampersand (keeps_token w.ampersand) (keeps_shift self k)

pub keeps_bit_xor : (self : Entry → LineReader) → AllKeep self → Keeps (bit_xor_at self)
unfolding bit_xor_at
keeps_bit_xor self k = keeps_row kinds.BitwiseXor w.caret (keeps_token w.caret) (keeps_bit_and self k)

pub keeps_bit_or : (self : Entry → LineReader) → AllKeep self → Keeps (bit_or_at self)
unfolding bit_or_at
keeps_bit_or self k = keeps_row kinds.BitwiseOr w.bar (keeps_token w.bar) (keeps_bit_xor self k)

pub shrinks_comparison_sign : (self : Entry → LineReader) → Shrinks (comparison_sign_at self)
unfolding comparison_sign_at
shrinks_comparison_sign self =
    shrinks_choose w.comparison_operator (shrinks_shown operator_leaf w.comparison_operator)
    (shrinks_choose w.not_word (shrinks_made (whole (spanning kinds.NotIn)) (shrinks_behind w.not_word (keeps_token w.in_word)))
    (shrinks_by_two w.is_word w.not_word (shrinks_made (whole (spanning kinds.IsNot)) (shrinks_behind w.is_word (keeps_token w.not_word))) (shrinks_made (whole (spanning kinds.Is)) (shrinks_token w.is_word))))

keeps_comparison : (self : Entry → LineReader) → AllKeep self → Keeps (comparison_at self)
unfolding comparison_at
keeps_comparison self k = keeps_row kinds.Comparison f.comparison_first (keeps (shrinks_comparison_sign self)) (keeps_bit_or self k)

pub keeps_not : (self : Entry → LineReader) → AllKeep self → Keeps (not_at self)
unfolding not_at
keeps_not self k = keeps_choose w.not_word (keeps_made (whole (spanning kinds.Not)) (keeps_behind w.not_word (k e.Not))) (keeps_comparison self k)

pub keeps_and : (self : Entry → LineReader) → AllKeep self → Keeps (and_at self)
unfolding and_at
keeps_and self k = keeps_row kinds.BoolAnd w.and_word (keeps_token w.and_word) (keeps_not self k)

pub keeps_or : (self : Entry → LineReader) → AllKeep self → Keeps (or_at self)
unfolding or_at
keeps_or self k = keeps_row kinds.BoolOr w.or_word (keeps_token w.or_word) (keeps_and self k)

pub keeps_lambda_parameter : (self : Entry → LineReader) → AllKeep self → Keeps (lambda_parameter_at self)
unfolding lambda_parameter_at
keeps_lambda_parameter self k =
    keeps_choose w.name (keeps_made (whole (called kinds.Parameter first_text)) (keeps_behind w.name (keeps_optional w.assign (keeps_behind w.assign (k e.Test)))))
    (keeps_choose w.slash (keeps_leaf (plain_leaf kinds.PositionalOnlyMark) w.slash)
    (keeps_choose w.star (keeps_made star_parameter (keeps_behind w.star (keeps_optional w.name (keeps_token w.name)))) (keeps_made (whole (called kinds.DoubleStarParameter second_text)) (keeps_behind w.double_star (keeps_token w.name)))))

keeps_lambda : (self : Entry → LineReader) → AllKeep self → Keeps (lambda_at self)
unfolding lambda_at lambda_parameters_at
keeps_lambda self k =
    keeps_made (whole (spanning kinds.Lambda)) (keeps_behind w.lambda_word (keeps_both (keeps_optional f.parameter_first (keeps_made keyword_only_behind_star (keeps_where parameters_in_order (keeps_commas f.parameter_first (keeps_lambda_parameter self k))))) (keeps_behind w.colon (k e.Test))))

keeps_test : (self : Entry → LineReader) → AllKeep self → Keeps (test_at self)
unfolding test_at
keeps_test self k =
    keeps_choose w.lambda_word (keeps_lambda self k)
    (keeps_followed (keeps_or self k) (keeps_maybe w.if_word (keeps_extended (whole (spanning kinds.Conditional)) (keeps_behind w.if_word (keeps_both (keeps_or self k) (keeps_behind w.else_word (k e.Test)))))))

-- ---- patterns

keeps_signed_number : (self : Entry → LineReader) → AllKeep self → Keeps (signed_number_at self)
unfolding signed_number_at
keeps_signed_number self k = keeps_choose w.number (keeps_leaf atom_leaf w.number) (keeps_made (whole (spanning kinds.UnaryMinus)) (keeps_behind w.minus (keeps_leaf atom_leaf w.number)))

keeps_number_pattern : (self : Entry → LineReader) → AllKeep self → Keeps (number_pattern_at self)
unfolding number_pattern_at
keeps_number_pattern self k = keeps_made (row (spanning kinds.Sum)) (keeps_where is_complex (keeps_both (keeps_signed_number self k) (keeps_optional w.sum_operator (keeps_both (keeps_leaf operator_leaf w.sum_operator) (keeps_leaf atom_leaf w.number)))))

keeps_literal : (self : Entry → LineReader) → AllKeep self → Keeps (literal_at self)
unfolding literal_at
keeps_literal self k = keeps_choose f.signed_first (keeps_number_pattern self k) (keeps_choose f.strings_first (keeps_where is_unformatted (keeps_strings self k)) (keeps_leaf atom_leaf w.constant_word))

pub shrinks_dotted : ShrinksOn (extended (whole (called kinds.Attribute last_text)) (both (token w.dot) (token w.name)))
shrinks_dotted = shrinks_extended (whole (called kinds.Attribute last_text)) (shrinks_behind w.dot (keeps_token w.name))

pub keeps_name : Keeps (leaf atom_leaf w.name)
keeps_name = keeps_leaf atom_leaf w.name

keeps_dotted_name : (self : Entry → LineReader) → Keeps (dotted_name_at self)
unfolding dotted_name_at
keeps_dotted_name self = keeps_in_turns w.dot (keeps_leaf atom_leaf w.name) (keeps_on shrinks_dotted)

pub keeps_class_argument : (self : Entry → LineReader) → AllKeep self → Keeps (class_argument_at self)
unfolding class_argument_at
keeps_class_argument self k = keeps_by_two w.name w.assign (keeps_pair kinds.MatchKeyword w.assign (k e.Pattern)) (k e.Pattern)

keeps_class_arguments : (self : Entry → LineReader) → AllKeep self → Keeps (class_arguments_at self)
unfolding class_arguments_at
keeps_class_arguments self k = keeps_where keywords_behind_patterns (keeps_in_parentheses (keeps_optional f.pattern_first (keeps_commas f.pattern_first (keeps_class_argument self k))))

keeps_name_pattern : (self : Entry → LineReader) → AllKeep self → Keeps (name_pattern_at self)
unfolding name_pattern_at
keeps_name_pattern self k = keeps_followed (keeps_dotted_name self) (keeps_pick w.left_paren (keeps_extended (whole (spanning kinds.MatchClass)) (keeps_class_arguments self k)) (keeps_finished name_pattern))

keeps_star_pattern : (self : Entry → LineReader) → Keeps (star_pattern_at self)
unfolding star_pattern_at
keeps_star_pattern self = keeps_made star_pattern (keeps_behind w.star (keeps_token w.name))

pub keeps_sequence_item : (self : Entry → LineReader) → AllKeep self → Keeps (sequence_item_at self)
unfolding sequence_item_at
keeps_sequence_item self k = keeps_choose w.star (keeps_star_pattern self) (k e.Pattern)

keeps_parenthesized_pattern : (self : Entry → LineReader) → AllKeep self → Keeps (parenthesized_pattern_at self)
unfolding parenthesized_pattern_at
keeps_parenthesized_pattern self k =
    keeps_made pattern_in_parentheses (keeps_where has_one_star (keeps_in_parentheses (keeps_optional f.sequence_first
    (keeps_choose w.star (keeps_both (keeps_star_pattern self) (keeps_comma_rest f.sequence_first (keeps_sequence_item self k)))
    (keeps_both (k e.Pattern) (keeps_optional w.comma (keeps_comma_rest f.sequence_first (keeps_sequence_item self k))))))))

keeps_bracketed_pattern : (self : Entry → LineReader) → AllKeep self → Keeps (bracketed_pattern_at self)
unfolding bracketed_pattern_at
keeps_bracketed_pattern self k = keeps_made (whole (spanning kinds.MatchSequence)) (keeps_where has_one_star (keeps_in_brackets (keeps_optional f.sequence_first (keeps_commas f.sequence_first (keeps_sequence_item self k)))))

pub keeps_mapping_item : (self : Entry → LineReader) → AllKeep self → Keeps (mapping_item_at self)
unfolding mapping_item_at
keeps_mapping_item self k =
    keeps_choose w.double_star (keeps_made (whole (called kinds.MatchRest second_text)) (keeps_behind w.double_star (keeps_token w.capture)))
    (keeps_made (whole (spanning kinds.MatchItem)) (keeps_both (keeps_choose f.literal_first (keeps_literal self k) (keeps_where is_dotted (keeps_dotted_name self))) (keeps_behind w.colon (k e.Pattern))))

keeps_mapping_pattern : (self : Entry → LineReader) → AllKeep self → Keeps (mapping_pattern_at self)
unfolding mapping_pattern_at
keeps_mapping_pattern self k = keeps_made (whole (spanning kinds.MatchMapping)) (keeps_where rest_is_last (keeps_in_braces (keeps_optional f.mapping_first (keeps_commas f.mapping_first (keeps_mapping_item self k)))))

pub keeps_closed_pattern : (self : Entry → LineReader) → AllKeep self → Keeps (closed_pattern_at self)
unfolding closed_pattern_at
keeps_closed_pattern self k =
    keeps_choose f.literal_first (keeps_made (whole (spanning kinds.MatchValue)) (keeps_literal self k))
    (keeps_choose w.name (keeps_name_pattern self k)
    (keeps_choose w.left_paren (keeps_parenthesized_pattern self k) (keeps_choose w.left_bracket (keeps_bracketed_pattern self k) (keeps_mapping_pattern self k))))

keeps_or_pattern : (self : Entry → LineReader) → AllKeep self → Keeps (or_pattern_at self)
unfolding or_pattern_at
keeps_or_pattern self k = keeps_row kinds.MatchOr w.bar (keeps_token w.bar) (keeps_closed_pattern self k)

keeps_pattern : (self : Entry → LineReader) → AllKeep self → Keeps (pattern_at self)
unfolding pattern_at
keeps_pattern self k = keeps_followed (keeps_or_pattern self k) (keeps_maybe w.as_word (keeps_extended (whole (called kinds.MatchAs last_text)) (keeps_behind w.as_word (keeps_token w.capture))))

-- ---- phrases

keeps_reader : (self : Entry → LineReader) → AllKeep self → (entry : Entry) → Keeps (reader_of self entry)
unfolding reader_of
keeps_reader self k e.Test = keeps_test self k
keeps_reader self k e.Or = keeps_or self k
keeps_reader self k e.Not = keeps_not self k
keeps_reader self k e.BitOr = keeps_bit_or self k
keeps_reader self k e.Factor = keeps_factor self k
keeps_reader self k e.Pattern = keeps_pattern self k

pub keeps_phrase : (depth : ℕ) → AllKeep (phrase_at depth)
unfolding phrase_at
keeps_phrase zero entry = record { left = λ ts u rest e. absurd cc }
keeps_phrase (suc depth) entry = keeps_reader (phrase_at depth) (keeps_phrase depth) entry
