-- Lines with the nodes that Python's own parser gives them, in preorder, computed from the readers of the definition: rows
-- that tools/grammar_trees.py writes.
use Rattle.std.specs.Prelude.{List, [], ◌∷◌, Some, None, map}
use Rattle.std.proofs.Common.{◌≡◌, refl}
use Rattle.tree_nodes.specs.declared.kind.Kind.TheVariants as kinds
use Rattle.py_grammar.specs.declared.symbol.Symbol.TheVariants as s
use Rattle.py_grammar.proofs.TryingTrees.{Row, at, n, nodes_of_line, said}
use Rattle.py_grammar.specs.Reading.{star_at, named_at, element_at, sx_item_at, sx_at, yield_at, target_item_at, targets_at, for_clause_at, clause_at, clauses_at, more_elements_at, parenthesized_at, list_display_at, item_or_named_at, unpacked_at, brace_entry_at, more_entries_at, brace_display_at, starred_argument_at, plain_argument_at, argument_at, arguments_at, more_arguments_at, call_arguments_at, slice_rest_at, slice_at, slices_item_at, slices_at, trailer_at, field_expression_at, inner_field_at, field_at, string_part_at, strings_at, atom_at, primary_at, awaited_at, power_at, factor_at, term_at, arith_at, shift_at, bit_and_at, bit_xor_at, bit_or_at, comparison_sign_at, comparison_at, not_at, and_at, or_at, lambda_parameter_at, lambda_parameters_at, lambda_at, test_at}
use Rattle.py_grammar.specs.ReadingPatterns.{signed_number_at, number_pattern_at, literal_at, dotted_name_at, class_argument_at, class_arguments_at, name_pattern_at, star_pattern_at, sequence_item_at, parenthesized_pattern_at, bracketed_pattern_at, mapping_item_at, mapping_pattern_at, closed_pattern_at, or_pattern_at, pattern_at, open_patterns_at}
use Rattle.py_grammar.specs.ReadingStatements.{value_at, assigned_value_at, return_at, raise_at, declaration_at, delete_at, assert_at, as_name_at, module_name_at, import_at, imported_name_at, imported_names_at, source_at, import_from_at, keyword_statement_at, value_statement_at, statement_at, statements_at}
use Rattle.py_grammar.specs.ReadingHeaders.{parameter_annotation_at, star_annotation_at, parameter_at, parameters_at, for_header_at, except_header_at, except_star_header_at, with_item_at, plain_with_at, parenthesized_with_at, function_header_at, class_header_at, subject_at, match_header_at, case_header_at, decorator_line_at}
use Rattle.py_grammar.specs.ReadingLines.{reader_of, phrase_at, headed_at, bare_at, simple_at, with_at, async_line_at, except_line_at, line_by, line_at}

abbrev rows : List Row
rows =
    -- case 1 as x:
    record { line = at s.CaseWord 0 (99 ∷ 97 ∷ 115 ∷ 101 ∷ []) ∷ at s.Number 5 (49 ∷ []) ∷ at s.AsWord 7 (97 ∷ 115 ∷ []) ∷ at s.Name 10 (120 ∷ []) ∷ at s.Colon 11 (58 ∷ []) ∷ []; nodes = n kinds.MatchAs 1 (Some 5) (Some (120 ∷ [])) ∷ n kinds.MatchValue 1 (Some 5) None ∷ n kinds.NumberLiteral 0 (Some 5) (Some (49 ∷ [])) ∷ [] } ∷
    -- case (x | y, z):
    record { line = at s.CaseWord 0 (99 ∷ 97 ∷ 115 ∷ 101 ∷ []) ∷ at s.LeftParen 5 (40 ∷ []) ∷ at s.Name 6 (120 ∷ []) ∷ at s.Bar 8 (124 ∷ []) ∷ at s.Name 10 (121 ∷ []) ∷ at s.Comma 11 (44 ∷ []) ∷ at s.Name 13 (122 ∷ []) ∷ at s.RightParen 14 (41 ∷ []) ∷ at s.Colon 15 (58 ∷ []) ∷ []; nodes = n kinds.MatchSequence 2 (Some 5) None ∷ n kinds.MatchOr 2 (Some 6) None ∷ n kinds.MatchCapture 0 (Some 6) (Some (120 ∷ [])) ∷ n kinds.MatchCapture 0 (Some 10) (Some (121 ∷ [])) ∷ n kinds.MatchCapture 0 (Some 13) (Some (122 ∷ [])) ∷ [] } ∷
    -- case
    record { line = at s.CaseWord 0 (99 ∷ 97 ∷ 115 ∷ 101 ∷ []) ∷ []; nodes = n kinds.ExpressionStatement 1 (Some 0) None ∷ n kinds.Name 0 (Some 0) (Some (99 ∷ 97 ∷ 115 ∷ 101 ∷ [])) ∷ [] } ∷
    -- case match:
    record { line = at s.CaseWord 0 (99 ∷ 97 ∷ 115 ∷ 101 ∷ []) ∷ at s.MatchWord 5 (109 ∷ 97 ∷ 116 ∷ 99 ∷ 104 ∷ []) ∷ at s.Colon 10 (58 ∷ []) ∷ []; nodes = n kinds.MatchCapture 0 (Some 5) (Some (109 ∷ 97 ∷ 116 ∷ 99 ∷ 104 ∷ [])) ∷ [] } ∷
    -- case case:
    record { line = at s.CaseWord 0 (99 ∷ 97 ∷ 115 ∷ 101 ∷ []) ∷ at s.CaseWord 5 (99 ∷ 97 ∷ 115 ∷ 101 ∷ []) ∷ at s.Colon 9 (58 ∷ []) ∷ []; nodes = n kinds.MatchCapture 0 (Some 5) (Some (99 ∷ 97 ∷ 115 ∷ 101 ∷ [])) ∷ [] } ∷
    -- case _ as x:
    record { line = at s.CaseWord 0 (99 ∷ 97 ∷ 115 ∷ 101 ∷ []) ∷ at s.Underscore 5 (95 ∷ []) ∷ at s.AsWord 7 (97 ∷ 115 ∷ []) ∷ at s.Name 10 (120 ∷ []) ∷ at s.Colon 11 (58 ∷ []) ∷ []; nodes = n kinds.MatchAs 1 (Some 5) (Some (120 ∷ [])) ∷ n kinds.MatchWildcard 0 (Some 5) None ∷ [] } ∷
    -- case match():
    record { line = at s.CaseWord 0 (99 ∷ 97 ∷ 115 ∷ 101 ∷ []) ∷ at s.MatchWord 5 (109 ∷ 97 ∷ 116 ∷ 99 ∷ 104 ∷ []) ∷ at s.LeftParen 10 (40 ∷ []) ∷ at s.RightParen 11 (41 ∷ []) ∷ at s.Colon 12 (58 ∷ []) ∷ []; nodes = n kinds.MatchClass 1 (Some 5) None ∷ n kinds.Name 0 (Some 5) (Some (109 ∷ 97 ∷ 116 ∷ 99 ∷ 104 ∷ [])) ∷ [] } ∷
    -- case {match.x: case}:
    record { line = at s.CaseWord 0 (99 ∷ 97 ∷ 115 ∷ 101 ∷ []) ∷ at s.LeftBrace 5 (123 ∷ []) ∷ at s.MatchWord 6 (109 ∷ 97 ∷ 116 ∷ 99 ∷ 104 ∷ []) ∷ at s.Dot 11 (46 ∷ []) ∷ at s.Name 12 (120 ∷ []) ∷ at s.Colon 13 (58 ∷ []) ∷ at s.CaseWord 15 (99 ∷ 97 ∷ 115 ∷ 101 ∷ []) ∷ at s.RightBrace 19 (125 ∷ []) ∷ at s.Colon 20 (58 ∷ []) ∷ []; nodes = n kinds.MatchMapping 1 (Some 5) None ∷ n kinds.MatchItem 2 None None ∷ n kinds.Attribute 1 (Some 6) (Some (120 ∷ [])) ∷ n kinds.Name 0 (Some 6) (Some (109 ∷ 97 ∷ 116 ∷ 99 ∷ 104 ∷ [])) ∷ n kinds.MatchCapture 0 (Some 15) (Some (99 ∷ 97 ∷ 115 ∷ 101 ∷ [])) ∷ [] } ∷
    []

-- each line has the nodes that are said
rows_hold : map nodes_of_line rows ≡ map said rows
unfolding star_at named_at element_at sx_item_at sx_at yield_at target_item_at targets_at for_clause_at clause_at clauses_at more_elements_at parenthesized_at list_display_at item_or_named_at unpacked_at brace_entry_at more_entries_at brace_display_at starred_argument_at plain_argument_at argument_at arguments_at more_arguments_at call_arguments_at slice_rest_at slice_at slices_item_at slices_at trailer_at field_expression_at inner_field_at field_at string_part_at strings_at atom_at primary_at awaited_at power_at factor_at term_at arith_at shift_at bit_and_at bit_xor_at bit_or_at comparison_sign_at comparison_at not_at and_at or_at lambda_parameter_at lambda_parameters_at lambda_at test_at signed_number_at number_pattern_at literal_at dotted_name_at class_argument_at class_arguments_at name_pattern_at star_pattern_at sequence_item_at parenthesized_pattern_at bracketed_pattern_at mapping_item_at mapping_pattern_at closed_pattern_at or_pattern_at pattern_at open_patterns_at value_at assigned_value_at return_at raise_at declaration_at delete_at assert_at as_name_at module_name_at import_at imported_name_at imported_names_at source_at import_from_at keyword_statement_at value_statement_at statement_at statements_at parameter_annotation_at star_annotation_at parameter_at parameters_at for_header_at except_header_at except_star_header_at with_item_at plain_with_at parenthesized_with_at function_header_at class_header_at subject_at match_header_at case_header_at decorator_line_at reader_of phrase_at headed_at bare_at simple_at with_at async_line_at except_line_at line_by line_at
rows_hold = refl
