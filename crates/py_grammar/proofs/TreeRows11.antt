-- Lines with the nodes that Python's own parser gives them, in preorder, computed from the readers of the definition: rows
-- that tools/grammar_trees.py writes.
use Rattle.std.specs.Prelude.{List, [], ◌∷◌, Some, None, map}
use Rattle.std.proofs.Common.{◌≡◌, refl}
use Rattle.tree_nodes.specs.declared.kind.Kind.TheVariants as kinds
use Rattle.py_grammar.specs.declared.symbol.Symbol.TheVariants as s
use Rattle.py_grammar.proofs.TryingTrees.{Row, at, n, nodes_of_line, said}
use Rattle.py_grammar.specs.Reading.{star_at, named_at, element_at, sx_item_at, sx_at, yield_at, target_item_at, targets_at, for_clause_at, clause_at, clauses_at, more_elements_at, parenthesized_at, list_display_at, item_or_named_at, unpacked_at, brace_entry_at, more_entries_at, brace_display_at, starred_argument_at, plain_argument_at, argument_at, arguments_at, more_arguments_at, call_arguments_at, slice_rest_at, slice_at, slices_item_at, slices_at, trailer_at, field_expression_at, inner_field_at, field_at, string_part_at, strings_at, atom_at, primary_at, awaited_at, power_at, factor_at, term_at, arith_at, shift_at, bit_and_at, bit_xor_at, bit_or_at, comparison_sign_at, comparison_at, not_at, and_at, or_at, lambda_parameter_at, lambda_parameters_at, lambda_at, test_at}
use Rattle.py_grammar.specs.ReadingPatterns.{signed_number_at, number_pattern_at, literal_at, dotted_name_at, class_argument_at, class_arguments_at, name_pattern_at, star_pattern_at, sequence_item_at, parenthesized_pattern_at, bracketed_pattern_at, mapping_item_at, mapping_pattern_at, closed_pattern_at, or_pattern_at, pattern_at, open_patterns_at}
use Rattle.py_grammar.specs.ReadingStatements.{value_at, assigned_value_at, return_at, raise_at, declaration_at, delete_at, assert_at, as_name_at, module_name_at, import_at, imported_name_at, imported_names_at, source_at, import_from_at, keyword_statement_at, value_statement_at, statement_at, statements_at}
use Rattle.py_grammar.specs.ReadingHeaders.{parameter_annotation_at, star_annotation_at, parameter_at, parameters_at, for_header_at, except_header_at, except_star_header_at, with_item_at, plain_with_at, parenthesized_with_at, function_header_at, class_header_at, subject_at, match_header_at, case_header_at, decorator_line_at}
use Rattle.py_grammar.specs.ReadingLines.{reader_of, phrase_at, headed_at, bare_at, simple_at, with_at, async_line_at, except_line_at, line_by, line_at}

abbrev rows : List Row
rows =
    -- case x: y
    record { line = at s.CaseWord 0 (99 ∷ 97 ∷ 115 ∷ 101 ∷ []) ∷ at s.Name 5 (120 ∷ []) ∷ at s.Colon 6 (58 ∷ []) ∷ at s.Name 8 (121 ∷ []) ∷ []; nodes = n kinds.MatchCapture 0 (Some 5) (Some (120 ∷ [])) ∷ n kinds.ExpressionStatement 1 (Some 8) None ∷ n kinds.Name 0 (Some 8) (Some (121 ∷ [])) ∷ [] } ∷
    -- case x if y:
    record { line = at s.CaseWord 0 (99 ∷ 97 ∷ 115 ∷ 101 ∷ []) ∷ at s.Name 5 (120 ∷ []) ∷ at s.IfWord 7 (105 ∷ 102 ∷ []) ∷ at s.Name 10 (121 ∷ []) ∷ at s.Colon 11 (58 ∷ []) ∷ []; nodes = n kinds.MatchCapture 0 (Some 5) (Some (120 ∷ [])) ∷ n kinds.Name 0 (Some 10) (Some (121 ∷ [])) ∷ [] } ∷
    -- case x if y: z
    record { line = at s.CaseWord 0 (99 ∷ 97 ∷ 115 ∷ 101 ∷ []) ∷ at s.Name 5 (120 ∷ []) ∷ at s.IfWord 7 (105 ∷ 102 ∷ []) ∷ at s.Name 10 (121 ∷ []) ∷ at s.Colon 11 (58 ∷ []) ∷ at s.Name 13 (122 ∷ []) ∷ []; nodes = n kinds.MatchCapture 0 (Some 5) (Some (120 ∷ [])) ∷ n kinds.Name 0 (Some 10) (Some (121 ∷ [])) ∷ n kinds.ExpressionStatement 1 (Some 13) None ∷ n kinds.Name 0 (Some 13) (Some (122 ∷ [])) ∷ [] } ∷
    -- case x if y := 1: z
    record { line = at s.CaseWord 0 (99 ∷ 97 ∷ 115 ∷ 101 ∷ []) ∷ at s.Name 5 (120 ∷ []) ∷ at s.IfWord 7 (105 ∷ 102 ∷ []) ∷ at s.Name 10 (121 ∷ []) ∷ at s.Walrus 12 (58 ∷ 61 ∷ []) ∷ at s.Number 15 (49 ∷ []) ∷ at s.Colon 16 (58 ∷ []) ∷ at s.Name 18 (122 ∷ []) ∷ []; nodes = n kinds.MatchCapture 0 (Some 5) (Some (120 ∷ [])) ∷ n kinds.NamedExpression 1 (Some 10) (Some (121 ∷ [])) ∷ n kinds.NumberLiteral 0 (Some 15) (Some (49 ∷ [])) ∷ n kinds.ExpressionStatement 1 (Some 18) None ∷ n kinds.Name 0 (Some 18) (Some (122 ∷ [])) ∷ [] } ∷
    -- case _:
    record { line = at s.CaseWord 0 (99 ∷ 97 ∷ 115 ∷ 101 ∷ []) ∷ at s.Underscore 5 (95 ∷ []) ∷ at s.Colon 6 (58 ∷ []) ∷ []; nodes = n kinds.MatchWildcard 0 (Some 5) None ∷ [] } ∷
    -- case _ | x:
    record { line = at s.CaseWord 0 (99 ∷ 97 ∷ 115 ∷ 101 ∷ []) ∷ at s.Underscore 5 (95 ∷ []) ∷ at s.Bar 7 (124 ∷ []) ∷ at s.Name 9 (120 ∷ []) ∷ at s.Colon 10 (58 ∷ []) ∷ []; nodes = n kinds.MatchOr 2 (Some 5) None ∷ n kinds.MatchWildcard 0 (Some 5) None ∷ n kinds.MatchCapture 0 (Some 9) (Some (120 ∷ [])) ∷ [] } ∷
    -- case 1:
    record { line = at s.CaseWord 0 (99 ∷ 97 ∷ 115 ∷ 101 ∷ []) ∷ at s.Number 5 (49 ∷ []) ∷ at s.Colon 6 (58 ∷ []) ∷ []; nodes = n kinds.MatchValue 1 (Some 5) None ∷ n kinds.NumberLiteral 0 (Some 5) (Some (49 ∷ [])) ∷ [] } ∷
    -- case -1:
    record { line = at s.CaseWord 0 (99 ∷ 97 ∷ 115 ∷ 101 ∷ []) ∷ at s.Minus 5 (45 ∷ []) ∷ at s.Number 6 (49 ∷ []) ∷ at s.Colon 7 (58 ∷ []) ∷ []; nodes = n kinds.MatchValue 1 (Some 5) None ∷ n kinds.UnaryMinus 1 (Some 5) None ∷ n kinds.NumberLiteral 0 (Some 6) (Some (49 ∷ [])) ∷ [] } ∷
    -- case 1 + 2j:
    record { line = at s.CaseWord 0 (99 ∷ 97 ∷ 115 ∷ 101 ∷ []) ∷ at s.Number 5 (49 ∷ []) ∷ at s.Plus 7 (43 ∷ []) ∷ at s.Number 9 (50 ∷ 106 ∷ []) ∷ at s.Colon 11 (58 ∷ []) ∷ []; nodes = n kinds.MatchValue 1 (Some 5) None ∷ n kinds.Sum 3 (Some 5) None ∷ n kinds.NumberLiteral 0 (Some 5) (Some (49 ∷ [])) ∷ n kinds.Add 0 None None ∷ n kinds.NumberLiteral 0 (Some 9) (Some (50 ∷ 106 ∷ [])) ∷ [] } ∷
    -- case -1 - 2j:
    record { line = at s.CaseWord 0 (99 ∷ 97 ∷ 115 ∷ 101 ∷ []) ∷ at s.Minus 5 (45 ∷ []) ∷ at s.Number 6 (49 ∷ []) ∷ at s.Minus 8 (45 ∷ []) ∷ at s.Number 10 (50 ∷ 106 ∷ []) ∷ at s.Colon 12 (58 ∷ []) ∷ []; nodes = n kinds.MatchValue 1 (Some 5) None ∷ n kinds.Sum 3 (Some 5) None ∷ n kinds.UnaryMinus 1 (Some 5) None ∷ n kinds.NumberLiteral 0 (Some 6) (Some (49 ∷ [])) ∷ n kinds.Subtract 0 None None ∷ n kinds.NumberLiteral 0 (Some 10) (Some (50 ∷ 106 ∷ [])) ∷ [] } ∷
    -- case 1j:
    record { line = at s.CaseWord 0 (99 ∷ 97 ∷ 115 ∷ 101 ∷ []) ∷ at s.Number 5 (49 ∷ 106 ∷ []) ∷ at s.Colon 7 (58 ∷ []) ∷ []; nodes = n kinds.MatchValue 1 (Some 5) None ∷ n kinds.NumberLiteral 0 (Some 5) (Some (49 ∷ 106 ∷ [])) ∷ [] } ∷
    -- case None:
    record { line = at s.CaseWord 0 (99 ∷ 97 ∷ 115 ∷ 101 ∷ []) ∷ at s.NoneWord 5 (78 ∷ 111 ∷ 110 ∷ 101 ∷ []) ∷ at s.Colon 9 (58 ∷ []) ∷ []; nodes = n kinds.MatchValue 1 (Some 5) None ∷ n kinds.NoneLiteral 0 (Some 5) None ∷ [] } ∷
    -- case True | False:
    record { line = at s.CaseWord 0 (99 ∷ 97 ∷ 115 ∷ 101 ∷ []) ∷ at s.TrueWord 5 (84 ∷ 114 ∷ 117 ∷ 101 ∷ []) ∷ at s.Bar 10 (124 ∷ []) ∷ at s.FalseWord 12 (70 ∷ 97 ∷ 108 ∷ 115 ∷ 101 ∷ []) ∷ at s.Colon 17 (58 ∷ []) ∷ []; nodes = n kinds.MatchOr 2 (Some 5) None ∷ n kinds.MatchValue 1 (Some 5) None ∷ n kinds.TrueLiteral 0 (Some 5) None ∷ n kinds.MatchValue 1 (Some 12) None ∷ n kinds.FalseLiteral 0 (Some 12) None ∷ [] } ∷
    -- case x.y.z:
    record { line = at s.CaseWord 0 (99 ∷ 97 ∷ 115 ∷ 101 ∷ []) ∷ at s.Name 5 (120 ∷ []) ∷ at s.Dot 6 (46 ∷ []) ∷ at s.Name 7 (121 ∷ []) ∷ at s.Dot 8 (46 ∷ []) ∷ at s.Name 9 (122 ∷ []) ∷ at s.Colon 10 (58 ∷ []) ∷ []; nodes = n kinds.MatchValue 1 (Some 5) None ∷ n kinds.Attribute 1 (Some 5) (Some (122 ∷ [])) ∷ n kinds.Attribute 1 (Some 5) (Some (121 ∷ [])) ∷ n kinds.Name 0 (Some 5) (Some (120 ∷ [])) ∷ [] } ∷
    -- case x.y():
    record { line = at s.CaseWord 0 (99 ∷ 97 ∷ 115 ∷ 101 ∷ []) ∷ at s.Name 5 (120 ∷ []) ∷ at s.Dot 6 (46 ∷ []) ∷ at s.Name 7 (121 ∷ []) ∷ at s.LeftParen 8 (40 ∷ []) ∷ at s.RightParen 9 (41 ∷ []) ∷ at s.Colon 10 (58 ∷ []) ∷ []; nodes = n kinds.MatchClass 1 (Some 5) None ∷ n kinds.Attribute 1 (Some 5) (Some (121 ∷ [])) ∷ n kinds.Name 0 (Some 5) (Some (120 ∷ [])) ∷ [] } ∷
    -- case x():
    record { line = at s.CaseWord 0 (99 ∷ 97 ∷ 115 ∷ 101 ∷ []) ∷ at s.Name 5 (120 ∷ []) ∷ at s.LeftParen 6 (40 ∷ []) ∷ at s.RightParen 7 (41 ∷ []) ∷ at s.Colon 8 (58 ∷ []) ∷ []; nodes = n kinds.MatchClass 1 (Some 5) None ∷ n kinds.Name 0 (Some 5) (Some (120 ∷ [])) ∷ [] } ∷
    -- case x(1, y, z=2):
    record { line = at s.CaseWord 0 (99 ∷ 97 ∷ 115 ∷ 101 ∷ []) ∷ at s.Name 5 (120 ∷ []) ∷ at s.LeftParen 6 (40 ∷ []) ∷ at s.Number 7 (49 ∷ []) ∷ at s.Comma 8 (44 ∷ []) ∷ at s.Name 10 (121 ∷ []) ∷ at s.Comma 11 (44 ∷ []) ∷ at s.Name 13 (122 ∷ []) ∷ at s.Assign 14 (61 ∷ []) ∷ at s.Number 15 (50 ∷ []) ∷ at s.RightParen 16 (41 ∷ []) ∷ at s.Colon 17 (58 ∷ []) ∷ []; nodes = n kinds.MatchClass 4 (Some 5) None ∷ n kinds.Name 0 (Some 5) (Some (120 ∷ [])) ∷ n kinds.MatchValue 1 (Some 7) None ∷ n kinds.NumberLiteral 0 (Some 7) (Some (49 ∷ [])) ∷ n kinds.MatchCapture 0 (Some 10) (Some (121 ∷ [])) ∷ n kinds.MatchKeyword 1 None (Some (122 ∷ [])) ∷ n kinds.MatchValue 1 (Some 15) None ∷ n kinds.NumberLiteral 0 (Some 15) (Some (50 ∷ [])) ∷ [] } ∷
    -- case x(z=2,):
    record { line = at s.CaseWord 0 (99 ∷ 97 ∷ 115 ∷ 101 ∷ []) ∷ at s.Name 5 (120 ∷ []) ∷ at s.LeftParen 6 (40 ∷ []) ∷ at s.Name 7 (122 ∷ []) ∷ at s.Assign 8 (61 ∷ []) ∷ at s.Number 9 (50 ∷ []) ∷ at s.Comma 10 (44 ∷ []) ∷ at s.RightParen 11 (41 ∷ []) ∷ at s.Colon 12 (58 ∷ []) ∷ []; nodes = n kinds.MatchClass 2 (Some 5) None ∷ n kinds.Name 0 (Some 5) (Some (120 ∷ [])) ∷ n kinds.MatchKeyword 1 None (Some (122 ∷ [])) ∷ n kinds.MatchValue 1 (Some 9) None ∷ n kinds.NumberLiteral 0 (Some 9) (Some (50 ∷ [])) ∷ [] } ∷
    -- case (x):
    record { line = at s.CaseWord 0 (99 ∷ 97 ∷ 115 ∷ 101 ∷ []) ∷ at s.LeftParen 5 (40 ∷ []) ∷ at s.Name 6 (120 ∷ []) ∷ at s.RightParen 7 (41 ∷ []) ∷ at s.Colon 8 (58 ∷ []) ∷ []; nodes = n kinds.MatchCapture 0 (Some 6) (Some (120 ∷ [])) ∷ [] } ∷
    -- case (x,):
    record { line = at s.CaseWord 0 (99 ∷ 97 ∷ 115 ∷ 101 ∷ []) ∷ at s.LeftParen 5 (40 ∷ []) ∷ at s.Name 6 (120 ∷ []) ∷ at s.Comma 7 (44 ∷ []) ∷ at s.RightParen 8 (41 ∷ []) ∷ at s.Colon 9 (58 ∷ []) ∷ []; nodes = n kinds.MatchSequence 1 (Some 5) None ∷ n kinds.MatchCapture 0 (Some 6) (Some (120 ∷ [])) ∷ [] } ∷
    -- case (x, y):
    record { line = at s.CaseWord 0 (99 ∷ 97 ∷ 115 ∷ 101 ∷ []) ∷ at s.LeftParen 5 (40 ∷ []) ∷ at s.Name 6 (120 ∷ []) ∷ at s.Comma 7 (44 ∷ []) ∷ at s.Name 9 (121 ∷ []) ∷ at s.RightParen 10 (41 ∷ []) ∷ at s.Colon 11 (58 ∷ []) ∷ []; nodes = n kinds.MatchSequence 2 (Some 5) None ∷ n kinds.MatchCapture 0 (Some 6) (Some (120 ∷ [])) ∷ n kinds.MatchCapture 0 (Some 9) (Some (121 ∷ [])) ∷ [] } ∷
    -- case (*x,):
    record { line = at s.CaseWord 0 (99 ∷ 97 ∷ 115 ∷ 101 ∷ []) ∷ at s.LeftParen 5 (40 ∷ []) ∷ at s.Star 6 (42 ∷ []) ∷ at s.Name 7 (120 ∷ []) ∷ at s.Comma 8 (44 ∷ []) ∷ at s.RightParen 9 (41 ∷ []) ∷ at s.Colon 10 (58 ∷ []) ∷ []; nodes = n kinds.MatchSequence 1 (Some 5) None ∷ n kinds.MatchStar 0 (Some 6) (Some (120 ∷ [])) ∷ [] } ∷
    -- case ():
    record { line = at s.CaseWord 0 (99 ∷ 97 ∷ 115 ∷ 101 ∷ []) ∷ at s.LeftParen 5 (40 ∷ []) ∷ at s.RightParen 6 (41 ∷ []) ∷ at s.Colon 7 (58 ∷ []) ∷ []; nodes = n kinds.MatchSequence 0 (Some 5) None ∷ [] } ∷
    -- case [x, *y]:
    record { line = at s.CaseWord 0 (99 ∷ 97 ∷ 115 ∷ 101 ∷ []) ∷ at s.LeftBracket 5 (91 ∷ []) ∷ at s.Name 6 (120 ∷ []) ∷ at s.Comma 7 (44 ∷ []) ∷ at s.Star 9 (42 ∷ []) ∷ at s.Name 10 (121 ∷ []) ∷ at s.RightBracket 11 (93 ∷ []) ∷ at s.Colon 12 (58 ∷ []) ∷ []; nodes = n kinds.MatchSequence 2 (Some 5) None ∷ n kinds.MatchCapture 0 (Some 6) (Some (120 ∷ [])) ∷ n kinds.MatchStar 0 (Some 9) (Some (121 ∷ [])) ∷ [] } ∷
    -- case [x, [y, z]]:
    record { line = at s.CaseWord 0 (99 ∷ 97 ∷ 115 ∷ 101 ∷ []) ∷ at s.LeftBracket 5 (91 ∷ []) ∷ at s.Name 6 (120 ∷ []) ∷ at s.Comma 7 (44 ∷ []) ∷ at s.LeftBracket 9 (91 ∷ []) ∷ at s.Name 10 (121 ∷ []) ∷ at s.Comma 11 (44 ∷ []) ∷ at s.Name 13 (122 ∷ []) ∷ at s.RightBracket 14 (93 ∷ []) ∷ at s.RightBracket 15 (93 ∷ []) ∷ at s.Colon 16 (58 ∷ []) ∷ []; nodes = n kinds.MatchSequence 2 (Some 5) None ∷ n kinds.MatchCapture 0 (Some 6) (Some (120 ∷ [])) ∷ n kinds.MatchSequence 2 (Some 9) None ∷ n kinds.MatchCapture 0 (Some 10) (Some (121 ∷ [])) ∷ n kinds.MatchCapture 0 (Some 13) (Some (122 ∷ [])) ∷ [] } ∷
    -- case *x, y:
    record { line = at s.CaseWord 0 (99 ∷ 97 ∷ 115 ∷ 101 ∷ []) ∷ at s.Star 5 (42 ∷ []) ∷ at s.Name 6 (120 ∷ []) ∷ at s.Comma 7 (44 ∷ []) ∷ at s.Name 9 (121 ∷ []) ∷ at s.Colon 10 (58 ∷ []) ∷ []; nodes = n kinds.MatchSequence 2 (Some 5) None ∷ n kinds.MatchStar 0 (Some 5) (Some (120 ∷ [])) ∷ n kinds.MatchCapture 0 (Some 9) (Some (121 ∷ [])) ∷ [] } ∷
    -- case *x,:
    record { line = at s.CaseWord 0 (99 ∷ 97 ∷ 115 ∷ 101 ∷ []) ∷ at s.Star 5 (42 ∷ []) ∷ at s.Name 6 (120 ∷ []) ∷ at s.Comma 7 (44 ∷ []) ∷ at s.Colon 8 (58 ∷ []) ∷ []; nodes = n kinds.MatchSequence 1 (Some 5) None ∷ n kinds.MatchStar 0 (Some 5) (Some (120 ∷ [])) ∷ [] } ∷
    -- case x, y:
    record { line = at s.CaseWord 0 (99 ∷ 97 ∷ 115 ∷ 101 ∷ []) ∷ at s.Name 5 (120 ∷ []) ∷ at s.Comma 6 (44 ∷ []) ∷ at s.Name 8 (121 ∷ []) ∷ at s.Colon 9 (58 ∷ []) ∷ []; nodes = n kinds.MatchSequence 2 (Some 5) None ∷ n kinds.MatchCapture 0 (Some 5) (Some (120 ∷ [])) ∷ n kinds.MatchCapture 0 (Some 8) (Some (121 ∷ [])) ∷ [] } ∷
    -- case x,:
    record { line = at s.CaseWord 0 (99 ∷ 97 ∷ 115 ∷ 101 ∷ []) ∷ at s.Name 5 (120 ∷ []) ∷ at s.Comma 6 (44 ∷ []) ∷ at s.Colon 7 (58 ∷ []) ∷ []; nodes = n kinds.MatchSequence 1 (Some 5) None ∷ n kinds.MatchCapture 0 (Some 5) (Some (120 ∷ [])) ∷ [] } ∷
    -- case {}:
    record { line = at s.CaseWord 0 (99 ∷ 97 ∷ 115 ∷ 101 ∷ []) ∷ at s.LeftBrace 5 (123 ∷ []) ∷ at s.RightBrace 6 (125 ∷ []) ∷ at s.Colon 7 (58 ∷ []) ∷ []; nodes = n kinds.MatchMapping 0 (Some 5) None ∷ [] } ∷
    -- case {1: x}:
    record { line = at s.CaseWord 0 (99 ∷ 97 ∷ 115 ∷ 101 ∷ []) ∷ at s.LeftBrace 5 (123 ∷ []) ∷ at s.Number 6 (49 ∷ []) ∷ at s.Colon 7 (58 ∷ []) ∷ at s.Name 9 (120 ∷ []) ∷ at s.RightBrace 10 (125 ∷ []) ∷ at s.Colon 11 (58 ∷ []) ∷ []; nodes = n kinds.MatchMapping 1 (Some 5) None ∷ n kinds.MatchItem 2 None None ∷ n kinds.NumberLiteral 0 (Some 6) (Some (49 ∷ [])) ∷ n kinds.MatchCapture 0 (Some 9) (Some (120 ∷ [])) ∷ [] } ∷
    -- case {1: x, **y}:
    record { line = at s.CaseWord 0 (99 ∷ 97 ∷ 115 ∷ 101 ∷ []) ∷ at s.LeftBrace 5 (123 ∷ []) ∷ at s.Number 6 (49 ∷ []) ∷ at s.Colon 7 (58 ∷ []) ∷ at s.Name 9 (120 ∷ []) ∷ at s.Comma 10 (44 ∷ []) ∷ at s.DoubleStar 12 (42 ∷ 42 ∷ []) ∷ at s.Name 14 (121 ∷ []) ∷ at s.RightBrace 15 (125 ∷ []) ∷ at s.Colon 16 (58 ∷ []) ∷ []; nodes = n kinds.MatchMapping 2 (Some 5) None ∷ n kinds.MatchItem 2 None None ∷ n kinds.NumberLiteral 0 (Some 6) (Some (49 ∷ [])) ∷ n kinds.MatchCapture 0 (Some 9) (Some (120 ∷ [])) ∷ n kinds.MatchRest 0 None (Some (121 ∷ [])) ∷ [] } ∷
    -- case {**y}:
    record { line = at s.CaseWord 0 (99 ∷ 97 ∷ 115 ∷ 101 ∷ []) ∷ at s.LeftBrace 5 (123 ∷ []) ∷ at s.DoubleStar 6 (42 ∷ 42 ∷ []) ∷ at s.Name 8 (121 ∷ []) ∷ at s.RightBrace 9 (125 ∷ []) ∷ at s.Colon 10 (58 ∷ []) ∷ []; nodes = n kinds.MatchMapping 1 (Some 5) None ∷ n kinds.MatchRest 0 None (Some (121 ∷ [])) ∷ [] } ∷
    -- case {x.y: z}:
    record { line = at s.CaseWord 0 (99 ∷ 97 ∷ 115 ∷ 101 ∷ []) ∷ at s.LeftBrace 5 (123 ∷ []) ∷ at s.Name 6 (120 ∷ []) ∷ at s.Dot 7 (46 ∷ []) ∷ at s.Name 8 (121 ∷ []) ∷ at s.Colon 9 (58 ∷ []) ∷ at s.Name 11 (122 ∷ []) ∷ at s.RightBrace 12 (125 ∷ []) ∷ at s.Colon 13 (58 ∷ []) ∷ []; nodes = n kinds.MatchMapping 1 (Some 5) None ∷ n kinds.MatchItem 2 None None ∷ n kinds.Attribute 1 (Some 6) (Some (121 ∷ [])) ∷ n kinds.Name 0 (Some 6) (Some (120 ∷ [])) ∷ n kinds.MatchCapture 0 (Some 11) (Some (122 ∷ [])) ∷ [] } ∷
    -- case {"a": 1, -1: 2, None: 3,}:
    record { line = at s.CaseWord 0 (99 ∷ 97 ∷ 115 ∷ 101 ∷ []) ∷ at s.LeftBrace 5 (123 ∷ []) ∷ at s.Str 6 (34 ∷ 97 ∷ 34 ∷ []) ∷ at s.Colon 9 (58 ∷ []) ∷ at s.Number 11 (49 ∷ []) ∷ at s.Comma 12 (44 ∷ []) ∷ at s.Minus 14 (45 ∷ []) ∷ at s.Number 15 (49 ∷ []) ∷ at s.Colon 16 (58 ∷ []) ∷ at s.Number 18 (50 ∷ []) ∷ at s.Comma 19 (44 ∷ []) ∷ at s.NoneWord 21 (78 ∷ 111 ∷ 110 ∷ 101 ∷ []) ∷ at s.Colon 25 (58 ∷ []) ∷ at s.Number 27 (51 ∷ []) ∷ at s.Comma 28 (44 ∷ []) ∷ at s.RightBrace 29 (125 ∷ []) ∷ at s.Colon 30 (58 ∷ []) ∷ []; nodes = n kinds.MatchMapping 3 (Some 5) None ∷ n kinds.MatchItem 2 None None ∷ n kinds.StringLiteral 0 (Some 6) (Some (34 ∷ 97 ∷ 34 ∷ [])) ∷ n kinds.MatchValue 1 (Some 11) None ∷ n kinds.NumberLiteral 0 (Some 11) (Some (49 ∷ [])) ∷ n kinds.MatchItem 2 None None ∷ n kinds.UnaryMinus 1 (Some 14) None ∷ n kinds.NumberLiteral 0 (Some 15) (Some (49 ∷ [])) ∷ n kinds.MatchValue 1 (Some 18) None ∷ n kinds.NumberLiteral 0 (Some 18) (Some (50 ∷ [])) ∷ n kinds.MatchItem 2 None None ∷ n kinds.NoneLiteral 0 (Some 21) None ∷ n kinds.MatchValue 1 (Some 27) None ∷ n kinds.NumberLiteral 0 (Some 27) (Some (51 ∷ [])) ∷ [] } ∷
    -- case {1 + 2j: x}:
    record { line = at s.CaseWord 0 (99 ∷ 97 ∷ 115 ∷ 101 ∷ []) ∷ at s.LeftBrace 5 (123 ∷ []) ∷ at s.Number 6 (49 ∷ []) ∷ at s.Plus 8 (43 ∷ []) ∷ at s.Number 10 (50 ∷ 106 ∷ []) ∷ at s.Colon 12 (58 ∷ []) ∷ at s.Name 14 (120 ∷ []) ∷ at s.RightBrace 15 (125 ∷ []) ∷ at s.Colon 16 (58 ∷ []) ∷ []; nodes = n kinds.MatchMapping 1 (Some 5) None ∷ n kinds.MatchItem 2 None None ∷ n kinds.Sum 3 (Some 6) None ∷ n kinds.NumberLiteral 0 (Some 6) (Some (49 ∷ [])) ∷ n kinds.Add 0 None None ∷ n kinds.NumberLiteral 0 (Some 10) (Some (50 ∷ 106 ∷ [])) ∷ n kinds.MatchCapture 0 (Some 14) (Some (120 ∷ [])) ∷ [] } ∷
    -- case {1: x, **y,}:
    record { line = at s.CaseWord 0 (99 ∷ 97 ∷ 115 ∷ 101 ∷ []) ∷ at s.LeftBrace 5 (123 ∷ []) ∷ at s.Number 6 (49 ∷ []) ∷ at s.Colon 7 (58 ∷ []) ∷ at s.Name 9 (120 ∷ []) ∷ at s.Comma 10 (44 ∷ []) ∷ at s.DoubleStar 12 (42 ∷ 42 ∷ []) ∷ at s.Name 14 (121 ∷ []) ∷ at s.Comma 15 (44 ∷ []) ∷ at s.RightBrace 16 (125 ∷ []) ∷ at s.Colon 17 (58 ∷ []) ∷ []; nodes = n kinds.MatchMapping 2 (Some 5) None ∷ n kinds.MatchItem 2 None None ∷ n kinds.NumberLiteral 0 (Some 6) (Some (49 ∷ [])) ∷ n kinds.MatchCapture 0 (Some 9) (Some (120 ∷ [])) ∷ n kinds.MatchRest 0 None (Some (121 ∷ [])) ∷ [] } ∷
    -- case x as y:
    record { line = at s.CaseWord 0 (99 ∷ 97 ∷ 115 ∷ 101 ∷ []) ∷ at s.Name 5 (120 ∷ []) ∷ at s.AsWord 7 (97 ∷ 115 ∷ []) ∷ at s.Name 10 (121 ∷ []) ∷ at s.Colon 11 (58 ∷ []) ∷ []; nodes = n kinds.MatchAs 1 (Some 5) (Some (121 ∷ [])) ∷ n kinds.MatchCapture 0 (Some 5) (Some (120 ∷ [])) ∷ [] } ∷
    -- case x | y as z:
    record { line = at s.CaseWord 0 (99 ∷ 97 ∷ 115 ∷ 101 ∷ []) ∷ at s.Name 5 (120 ∷ []) ∷ at s.Bar 7 (124 ∷ []) ∷ at s.Name 9 (121 ∷ []) ∷ at s.AsWord 11 (97 ∷ 115 ∷ []) ∷ at s.Name 14 (122 ∷ []) ∷ at s.Colon 15 (58 ∷ []) ∷ []; nodes = n kinds.MatchAs 1 (Some 5) (Some (122 ∷ [])) ∷ n kinds.MatchOr 2 (Some 5) None ∷ n kinds.MatchCapture 0 (Some 5) (Some (120 ∷ [])) ∷ n kinds.MatchCapture 0 (Some 9) (Some (121 ∷ [])) ∷ [] } ∷
    -- case (x as y) | z:
    record { line = at s.CaseWord 0 (99 ∷ 97 ∷ 115 ∷ 101 ∷ []) ∷ at s.LeftParen 5 (40 ∷ []) ∷ at s.Name 6 (120 ∷ []) ∷ at s.AsWord 8 (97 ∷ 115 ∷ []) ∷ at s.Name 11 (121 ∷ []) ∷ at s.RightParen 12 (41 ∷ []) ∷ at s.Bar 14 (124 ∷ []) ∷ at s.Name 16 (122 ∷ []) ∷ at s.Colon 17 (58 ∷ []) ∷ []; nodes = n kinds.MatchOr 2 (Some 5) None ∷ n kinds.MatchAs 1 (Some 6) (Some (121 ∷ [])) ∷ n kinds.MatchCapture 0 (Some 6) (Some (120 ∷ [])) ∷ n kinds.MatchCapture 0 (Some 16) (Some (122 ∷ [])) ∷ [] } ∷
    []

-- each line has the nodes that are said
rows_hold : map nodes_of_line rows ≡ map said rows
unfolding star_at named_at element_at sx_item_at sx_at yield_at target_item_at targets_at for_clause_at clause_at clauses_at more_elements_at parenthesized_at list_display_at item_or_named_at unpacked_at brace_entry_at more_entries_at brace_display_at starred_argument_at plain_argument_at argument_at arguments_at more_arguments_at call_arguments_at slice_rest_at slice_at slices_item_at slices_at trailer_at field_expression_at inner_field_at field_at string_part_at strings_at atom_at primary_at awaited_at power_at factor_at term_at arith_at shift_at bit_and_at bit_xor_at bit_or_at comparison_sign_at comparison_at not_at and_at or_at lambda_parameter_at lambda_parameters_at lambda_at test_at signed_number_at number_pattern_at literal_at dotted_name_at class_argument_at class_arguments_at name_pattern_at star_pattern_at sequence_item_at parenthesized_pattern_at bracketed_pattern_at mapping_item_at mapping_pattern_at closed_pattern_at or_pattern_at pattern_at open_patterns_at value_at assigned_value_at return_at raise_at declaration_at delete_at assert_at as_name_at module_name_at import_at imported_name_at imported_names_at source_at import_from_at keyword_statement_at value_statement_at statement_at statements_at parameter_annotation_at star_annotation_at parameter_at parameters_at for_header_at except_header_at except_star_header_at with_item_at plain_with_at parenthesized_with_at function_header_at class_header_at subject_at match_header_at case_header_at decorator_line_at reader_of phrase_at headed_at bare_at simple_at with_at async_line_at except_line_at line_by line_at
rows_hold = refl
