-- Lines with the nodes that Python's own parser gives them, in preorder, computed from the readers of the definition: rows
-- that tools/grammar_trees.py writes.
use Rattle.std.specs.Prelude.{List, [], ◌∷◌, Some, None, map}
use Rattle.std.proofs.Common.{◌≡◌, refl}
use Rattle.tree_nodes.specs.declared.kind.Kind.TheVariants as kinds
use Rattle.py_grammar.specs.declared.symbol.Symbol.TheVariants as s
use Rattle.py_grammar.proofs.TryingTrees.{Row, at, n, nodes_of_line, said}
use Rattle.py_grammar.specs.Reading.{star_at, named_at, element_at, sx_item_at, sx_at, yield_at, target_item_at, targets_at, for_clause_at, clause_at, clauses_at, more_elements_at, parenthesized_at, list_display_at, item_or_named_at, unpacked_at, brace_entry_at, more_entries_at, brace_display_at, starred_argument_at, plain_argument_at, argument_at, arguments_at, more_arguments_at, call_arguments_at, slice_rest_at, slice_at, slices_item_at, slices_at, trailer_at, field_expression_at, inner_field_at, field_at, string_part_at, strings_at, atom_at, primary_at, awaited_at, power_at, factor_at, term_at, arith_at, shift_at, bit_and_at, bit_xor_at, bit_or_at, comparison_sign_at, comparison_at, not_at, and_at, or_at, lambda_parameter_at, lambda_parameters_at, lambda_at, test_at}
use Rattle.py_grammar.specs.ReadingPatterns.{signed_number_at, number_pattern_at, literal_at, dotted_name_at, class_argument_at, class_arguments_at, name_pattern_at, star_pattern_at, sequence_item_at, parenthesized_pattern_at, bracketed_pattern_at, mapping_item_at, mapping_pattern_at, closed_pattern_at, or_pattern_at, pattern_at, open_patterns_at}
use Rattle.py_grammar.specs.ReadingStatements.{value_at, assigned_value_at, return_at, raise_at, declaration_at, delete_at, assert_at, as_name_at, module_name_at, import_at, imported_name_at, imported_names_at, source_at, import_from_at, keyword_statement_at, value_statement_at, statement_at, statements_at}
use Rattle.py_grammar.specs.ReadingHeaders.{parameter_annotation_at, star_annotation_at, parameter_at, parameters_at, for_header_at, except_header_at, except_star_header_at, with_item_at, plain_with_at, parenthesized_with_at, function_header_at, class_header_at, subject_at, match_header_at, case_header_at, decorator_line_at}
use Rattle.py_grammar.specs.ReadingLines.{reader_of, phrase_at, headed_at, bare_at, simple_at, with_at, async_line_at, except_line_at, line_by, line_at}

abbrev rows : List Row
rows =
    -- f()
    record { line = at s.Name 0 (102 ∷ []) ∷ at s.LeftParen 1 (40 ∷ []) ∷ at s.RightParen 2 (41 ∷ []) ∷ []; nodes = n kinds.ExpressionStatement 1 (Some 0) None ∷ n kinds.Call 1 (Some 0) None ∷ n kinds.Name 0 (Some 0) (Some (102 ∷ [])) ∷ [] } ∷
    -- f(a)
    record { line = at s.Name 0 (102 ∷ []) ∷ at s.LeftParen 1 (40 ∷ []) ∷ at s.Name 2 (97 ∷ []) ∷ at s.RightParen 3 (41 ∷ []) ∷ []; nodes = n kinds.ExpressionStatement 1 (Some 0) None ∷ n kinds.Call 2 (Some 0) None ∷ n kinds.Name 0 (Some 0) (Some (102 ∷ [])) ∷ n kinds.Name 0 (Some 2) (Some (97 ∷ [])) ∷ [] } ∷
    -- f(a, b,)
    record { line = at s.Name 0 (102 ∷ []) ∷ at s.LeftParen 1 (40 ∷ []) ∷ at s.Name 2 (97 ∷ []) ∷ at s.Comma 3 (44 ∷ []) ∷ at s.Name 5 (98 ∷ []) ∷ at s.Comma 6 (44 ∷ []) ∷ at s.RightParen 7 (41 ∷ []) ∷ []; nodes = n kinds.ExpressionStatement 1 (Some 0) None ∷ n kinds.Call 3 (Some 0) None ∷ n kinds.Name 0 (Some 0) (Some (102 ∷ [])) ∷ n kinds.Name 0 (Some 2) (Some (97 ∷ [])) ∷ n kinds.Name 0 (Some 5) (Some (98 ∷ [])) ∷ [] } ∷
    -- f(a=1)
    record { line = at s.Name 0 (102 ∷ []) ∷ at s.LeftParen 1 (40 ∷ []) ∷ at s.Name 2 (97 ∷ []) ∷ at s.Assign 3 (61 ∷ []) ∷ at s.Number 4 (49 ∷ []) ∷ at s.RightParen 5 (41 ∷ []) ∷ []; nodes = n kinds.ExpressionStatement 1 (Some 0) None ∷ n kinds.Call 2 (Some 0) None ∷ n kinds.Name 0 (Some 0) (Some (102 ∷ [])) ∷ n kinds.KeywordArgument 1 (Some 2) (Some (97 ∷ [])) ∷ n kinds.NumberLiteral 0 (Some 4) (Some (49 ∷ [])) ∷ [] } ∷
    -- f(a, b=1, *c, d=2, **e)
    record { line = at s.Name 0 (102 ∷ []) ∷ at s.LeftParen 1 (40 ∷ []) ∷ at s.Name 2 (97 ∷ []) ∷ at s.Comma 3 (44 ∷ []) ∷ at s.Name 5 (98 ∷ []) ∷ at s.Assign 6 (61 ∷ []) ∷ at s.Number 7 (49 ∷ []) ∷ at s.Comma 8 (44 ∷ []) ∷ at s.Star 10 (42 ∷ []) ∷ at s.Name 11 (99 ∷ []) ∷ at s.Comma 12 (44 ∷ []) ∷ at s.Name 14 (100 ∷ []) ∷ at s.Assign 15 (61 ∷ []) ∷ at s.Number 16 (50 ∷ []) ∷ at s.Comma 17 (44 ∷ []) ∷ at s.DoubleStar 19 (42 ∷ 42 ∷ []) ∷ at s.Name 21 (101 ∷ []) ∷ at s.RightParen 22 (41 ∷ []) ∷ []; nodes = n kinds.ExpressionStatement 1 (Some 0) None ∷ n kinds.Call 6 (Some 0) None ∷ n kinds.Name 0 (Some 0) (Some (102 ∷ [])) ∷ n kinds.Name 0 (Some 2) (Some (97 ∷ [])) ∷ n kinds.KeywordArgument 1 (Some 5) (Some (98 ∷ [])) ∷ n kinds.NumberLiteral 0 (Some 7) (Some (49 ∷ [])) ∷ n kinds.StarArgument 1 (Some 10) None ∷ n kinds.Name 0 (Some 11) (Some (99 ∷ [])) ∷ n kinds.KeywordArgument 1 (Some 14) (Some (100 ∷ [])) ∷ n kinds.NumberLiteral 0 (Some 16) (Some (50 ∷ [])) ∷ n kinds.DoubleStarArgument 1 (Some 19) None ∷ n kinds.Name 0 (Some 21) (Some (101 ∷ [])) ∷ [] } ∷
    -- f(**a, b=1)
    record { line = at s.Name 0 (102 ∷ []) ∷ at s.LeftParen 1 (40 ∷ []) ∷ at s.DoubleStar 2 (42 ∷ 42 ∷ []) ∷ at s.Name 4 (97 ∷ []) ∷ at s.Comma 5 (44 ∷ []) ∷ at s.Name 7 (98 ∷ []) ∷ at s.Assign 8 (61 ∷ []) ∷ at s.Number 9 (49 ∷ []) ∷ at s.RightParen 10 (41 ∷ []) ∷ []; nodes = n kinds.ExpressionStatement 1 (Some 0) None ∷ n kinds.Call 3 (Some 0) None ∷ n kinds.Name 0 (Some 0) (Some (102 ∷ [])) ∷ n kinds.DoubleStarArgument 1 (Some 2) None ∷ n kinds.Name 0 (Some 4) (Some (97 ∷ [])) ∷ n kinds.KeywordArgument 1 (Some 7) (Some (98 ∷ [])) ∷ n kinds.NumberLiteral 0 (Some 9) (Some (49 ∷ [])) ∷ [] } ∷
    -- f(*a, b)
    record { line = at s.Name 0 (102 ∷ []) ∷ at s.LeftParen 1 (40 ∷ []) ∷ at s.Star 2 (42 ∷ []) ∷ at s.Name 3 (97 ∷ []) ∷ at s.Comma 4 (44 ∷ []) ∷ at s.Name 6 (98 ∷ []) ∷ at s.RightParen 7 (41 ∷ []) ∷ []; nodes = n kinds.ExpressionStatement 1 (Some 0) None ∷ n kinds.Call 3 (Some 0) None ∷ n kinds.Name 0 (Some 0) (Some (102 ∷ [])) ∷ n kinds.StarArgument 1 (Some 2) None ∷ n kinds.Name 0 (Some 3) (Some (97 ∷ [])) ∷ n kinds.Name 0 (Some 6) (Some (98 ∷ [])) ∷ [] } ∷
    -- f(a := 1)
    record { line = at s.Name 0 (102 ∷ []) ∷ at s.LeftParen 1 (40 ∷ []) ∷ at s.Name 2 (97 ∷ []) ∷ at s.Walrus 4 (58 ∷ 61 ∷ []) ∷ at s.Number 7 (49 ∷ []) ∷ at s.RightParen 8 (41 ∷ []) ∷ []; nodes = n kinds.ExpressionStatement 1 (Some 0) None ∷ n kinds.Call 2 (Some 0) None ∷ n kinds.Name 0 (Some 0) (Some (102 ∷ [])) ∷ n kinds.NamedExpression 1 (Some 2) (Some (97 ∷ [])) ∷ n kinds.NumberLiteral 0 (Some 7) (Some (49 ∷ [])) ∷ [] } ∷
    -- f(a := 1, b)
    record { line = at s.Name 0 (102 ∷ []) ∷ at s.LeftParen 1 (40 ∷ []) ∷ at s.Name 2 (97 ∷ []) ∷ at s.Walrus 4 (58 ∷ 61 ∷ []) ∷ at s.Number 7 (49 ∷ []) ∷ at s.Comma 8 (44 ∷ []) ∷ at s.Name 10 (98 ∷ []) ∷ at s.RightParen 11 (41 ∷ []) ∷ []; nodes = n kinds.ExpressionStatement 1 (Some 0) None ∷ n kinds.Call 3 (Some 0) None ∷ n kinds.Name 0 (Some 0) (Some (102 ∷ [])) ∷ n kinds.NamedExpression 1 (Some 2) (Some (97 ∷ [])) ∷ n kinds.NumberLiteral 0 (Some 7) (Some (49 ∷ [])) ∷ n kinds.Name 0 (Some 10) (Some (98 ∷ [])) ∷ [] } ∷
    -- f((a))
    record { line = at s.Name 0 (102 ∷ []) ∷ at s.LeftParen 1 (40 ∷ []) ∷ at s.LeftParen 2 (40 ∷ []) ∷ at s.Name 3 (97 ∷ []) ∷ at s.RightParen 4 (41 ∷ []) ∷ at s.RightParen 5 (41 ∷ []) ∷ []; nodes = n kinds.ExpressionStatement 1 (Some 0) None ∷ n kinds.Call 2 (Some 0) None ∷ n kinds.Name 0 (Some 0) (Some (102 ∷ [])) ∷ n kinds.Name 0 (Some 3) (Some (97 ∷ [])) ∷ [] } ∷
    -- a + b - c * d / e // f % g @ h
    record { line = at s.Name 0 (97 ∷ []) ∷ at s.Plus 2 (43 ∷ []) ∷ at s.Name 4 (98 ∷ []) ∷ at s.Minus 6 (45 ∷ []) ∷ at s.Name 8 (99 ∷ []) ∷ at s.Star 10 (42 ∷ []) ∷ at s.Name 12 (100 ∷ []) ∷ at s.Slash 14 (47 ∷ []) ∷ at s.Name 16 (101 ∷ []) ∷ at s.DoubleSlash 18 (47 ∷ 47 ∷ []) ∷ at s.Name 21 (102 ∷ []) ∷ at s.Percent 23 (37 ∷ []) ∷ at s.Name 25 (103 ∷ []) ∷ at s.AtSign 27 (64 ∷ []) ∷ at s.Name 29 (104 ∷ []) ∷ []; nodes = n kinds.ExpressionStatement 1 (Some 0) None ∷ n kinds.Sum 5 (Some 0) None ∷ n kinds.Name 0 (Some 0) (Some (97 ∷ [])) ∷ n kinds.Add 0 None None ∷ n kinds.Name 0 (Some 4) (Some (98 ∷ [])) ∷ n kinds.Subtract 0 None None ∷ n kinds.Product 11 (Some 8) None ∷ n kinds.Name 0 (Some 8) (Some (99 ∷ [])) ∷ n kinds.Multiply 0 None None ∷ n kinds.Name 0 (Some 12) (Some (100 ∷ [])) ∷ n kinds.Divide 0 None None ∷ n kinds.Name 0 (Some 16) (Some (101 ∷ [])) ∷ n kinds.FloorDivide 0 None None ∷ n kinds.Name 0 (Some 21) (Some (102 ∷ [])) ∷ n kinds.Modulo 0 None None ∷ n kinds.Name 0 (Some 25) (Some (103 ∷ [])) ∷ n kinds.MatrixMultiply 0 None None ∷ n kinds.Name 0 (Some 29) (Some (104 ∷ [])) ∷ [] } ∷
    -- a ** -b ** c
    record { line = at s.Name 0 (97 ∷ []) ∷ at s.DoubleStar 2 (42 ∷ 42 ∷ []) ∷ at s.Minus 5 (45 ∷ []) ∷ at s.Name 6 (98 ∷ []) ∷ at s.DoubleStar 8 (42 ∷ 42 ∷ []) ∷ at s.Name 11 (99 ∷ []) ∷ []; nodes = n kinds.ExpressionStatement 1 (Some 0) None ∷ n kinds.Power 2 (Some 0) None ∷ n kinds.Name 0 (Some 0) (Some (97 ∷ [])) ∷ n kinds.UnaryMinus 1 (Some 5) None ∷ n kinds.Power 2 (Some 6) None ∷ n kinds.Name 0 (Some 6) (Some (98 ∷ [])) ∷ n kinds.Name 0 (Some 11) (Some (99 ∷ [])) ∷ [] } ∷
    -- -a ** b
    record { line = at s.Minus 0 (45 ∷ []) ∷ at s.Name 1 (97 ∷ []) ∷ at s.DoubleStar 3 (42 ∷ 42 ∷ []) ∷ at s.Name 6 (98 ∷ []) ∷ []; nodes = n kinds.ExpressionStatement 1 (Some 0) None ∷ n kinds.UnaryMinus 1 (Some 0) None ∷ n kinds.Power 2 (Some 1) None ∷ n kinds.Name 0 (Some 1) (Some (97 ∷ [])) ∷ n kinds.Name 0 (Some 6) (Some (98 ∷ [])) ∷ [] } ∷
    -- - - ~ + a
    record { line = at s.Minus 0 (45 ∷ []) ∷ at s.Minus 2 (45 ∷ []) ∷ at s.Tilde 4 (126 ∷ []) ∷ at s.Plus 6 (43 ∷ []) ∷ at s.Name 8 (97 ∷ []) ∷ []; nodes = n kinds.ExpressionStatement 1 (Some 0) None ∷ n kinds.UnaryMinus 1 (Some 0) None ∷ n kinds.UnaryMinus 1 (Some 2) None ∷ n kinds.UnaryInvert 1 (Some 4) None ∷ n kinds.UnaryPlus 1 (Some 6) None ∷ n kinds.Name 0 (Some 8) (Some (97 ∷ [])) ∷ [] } ∷
    -- not not a
    record { line = at s.NotWord 0 (110 ∷ 111 ∷ 116 ∷ []) ∷ at s.NotWord 4 (110 ∷ 111 ∷ 116 ∷ []) ∷ at s.Name 8 (97 ∷ []) ∷ []; nodes = n kinds.ExpressionStatement 1 (Some 0) None ∷ n kinds.Not 1 (Some 0) None ∷ n kinds.Not 1 (Some 4) None ∷ n kinds.Name 0 (Some 8) (Some (97 ∷ [])) ∷ [] } ∷
    -- not a == b
    record { line = at s.NotWord 0 (110 ∷ 111 ∷ 116 ∷ []) ∷ at s.Name 4 (97 ∷ []) ∷ at s.Equal 6 (61 ∷ 61 ∷ []) ∷ at s.Name 9 (98 ∷ []) ∷ []; nodes = n kinds.ExpressionStatement 1 (Some 0) None ∷ n kinds.Not 1 (Some 0) None ∷ n kinds.Comparison 3 (Some 4) None ∷ n kinds.Name 0 (Some 4) (Some (97 ∷ [])) ∷ n kinds.Equal 0 None None ∷ n kinds.Name 0 (Some 9) (Some (98 ∷ [])) ∷ [] } ∷
    -- a < b <= c != d == e > f >= g
    record { line = at s.Name 0 (97 ∷ []) ∷ at s.Less 2 (60 ∷ []) ∷ at s.Name 4 (98 ∷ []) ∷ at s.LessEqual 6 (60 ∷ 61 ∷ []) ∷ at s.Name 9 (99 ∷ []) ∷ at s.NotEqual 11 (33 ∷ 61 ∷ []) ∷ at s.Name 14 (100 ∷ []) ∷ at s.Equal 16 (61 ∷ 61 ∷ []) ∷ at s.Name 19 (101 ∷ []) ∷ at s.Greater 21 (62 ∷ []) ∷ at s.Name 23 (102 ∷ []) ∷ at s.GreaterEqual 25 (62 ∷ 61 ∷ []) ∷ at s.Name 28 (103 ∷ []) ∷ []; nodes = n kinds.ExpressionStatement 1 (Some 0) None ∷ n kinds.Comparison 13 (Some 0) None ∷ n kinds.Name 0 (Some 0) (Some (97 ∷ [])) ∷ n kinds.Less 0 None None ∷ n kinds.Name 0 (Some 4) (Some (98 ∷ [])) ∷ n kinds.LessEqual 0 None None ∷ n kinds.Name 0 (Some 9) (Some (99 ∷ [])) ∷ n kinds.NotEqual 0 None None ∷ n kinds.Name 0 (Some 14) (Some (100 ∷ [])) ∷ n kinds.Equal 0 None None ∷ n kinds.Name 0 (Some 19) (Some (101 ∷ [])) ∷ n kinds.Greater 0 None None ∷ n kinds.Name 0 (Some 23) (Some (102 ∷ [])) ∷ n kinds.GreaterEqual 0 None None ∷ n kinds.Name 0 (Some 28) (Some (103 ∷ [])) ∷ [] } ∷
    -- a in b
    record { line = at s.Name 0 (97 ∷ []) ∷ at s.InWord 2 (105 ∷ 110 ∷ []) ∷ at s.Name 5 (98 ∷ []) ∷ []; nodes = n kinds.ExpressionStatement 1 (Some 0) None ∷ n kinds.Comparison 3 (Some 0) None ∷ n kinds.Name 0 (Some 0) (Some (97 ∷ [])) ∷ n kinds.In 0 None None ∷ n kinds.Name 0 (Some 5) (Some (98 ∷ [])) ∷ [] } ∷
    -- a not in b
    record { line = at s.Name 0 (97 ∷ []) ∷ at s.NotWord 2 (110 ∷ 111 ∷ 116 ∷ []) ∷ at s.InWord 6 (105 ∷ 110 ∷ []) ∷ at s.Name 9 (98 ∷ []) ∷ []; nodes = n kinds.ExpressionStatement 1 (Some 0) None ∷ n kinds.Comparison 3 (Some 0) None ∷ n kinds.Name 0 (Some 0) (Some (97 ∷ [])) ∷ n kinds.NotIn 0 None None ∷ n kinds.Name 0 (Some 9) (Some (98 ∷ [])) ∷ [] } ∷
    -- a is b
    record { line = at s.Name 0 (97 ∷ []) ∷ at s.IsWord 2 (105 ∷ 115 ∷ []) ∷ at s.Name 5 (98 ∷ []) ∷ []; nodes = n kinds.ExpressionStatement 1 (Some 0) None ∷ n kinds.Comparison 3 (Some 0) None ∷ n kinds.Name 0 (Some 0) (Some (97 ∷ [])) ∷ n kinds.Is 0 None None ∷ n kinds.Name 0 (Some 5) (Some (98 ∷ [])) ∷ [] } ∷
    -- a is not b
    record { line = at s.Name 0 (97 ∷ []) ∷ at s.IsWord 2 (105 ∷ 115 ∷ []) ∷ at s.NotWord 5 (110 ∷ 111 ∷ 116 ∷ []) ∷ at s.Name 9 (98 ∷ []) ∷ []; nodes = n kinds.ExpressionStatement 1 (Some 0) None ∷ n kinds.Comparison 3 (Some 0) None ∷ n kinds.Name 0 (Some 0) (Some (97 ∷ [])) ∷ n kinds.IsNot 0 None None ∷ n kinds.Name 0 (Some 9) (Some (98 ∷ [])) ∷ [] } ∷
    -- a and b or c and not d
    record { line = at s.Name 0 (97 ∷ []) ∷ at s.AndWord 2 (97 ∷ 110 ∷ 100 ∷ []) ∷ at s.Name 6 (98 ∷ []) ∷ at s.OrWord 8 (111 ∷ 114 ∷ []) ∷ at s.Name 11 (99 ∷ []) ∷ at s.AndWord 13 (97 ∷ 110 ∷ 100 ∷ []) ∷ at s.NotWord 17 (110 ∷ 111 ∷ 116 ∷ []) ∷ at s.Name 21 (100 ∷ []) ∷ []; nodes = n kinds.ExpressionStatement 1 (Some 0) None ∷ n kinds.BoolOr 2 (Some 0) None ∷ n kinds.BoolAnd 2 (Some 0) None ∷ n kinds.Name 0 (Some 0) (Some (97 ∷ [])) ∷ n kinds.Name 0 (Some 6) (Some (98 ∷ [])) ∷ n kinds.BoolAnd 2 (Some 11) None ∷ n kinds.Name 0 (Some 11) (Some (99 ∷ [])) ∷ n kinds.Not 1 (Some 17) None ∷ n kinds.Name 0 (Some 21) (Some (100 ∷ [])) ∷ [] } ∷
    -- a | b ^ c & d << e >> f
    record { line = at s.Name 0 (97 ∷ []) ∷ at s.Bar 2 (124 ∷ []) ∷ at s.Name 4 (98 ∷ []) ∷ at s.Caret 6 (94 ∷ []) ∷ at s.Name 8 (99 ∷ []) ∷ at s.Ampersand 10 (38 ∷ []) ∷ at s.Name 12 (100 ∷ []) ∷ at s.LeftShift 14 (60 ∷ 60 ∷ []) ∷ at s.Name 17 (101 ∷ []) ∷ at s.RightShift 19 (62 ∷ 62 ∷ []) ∷ at s.Name 22 (102 ∷ []) ∷ []; nodes = n kinds.ExpressionStatement 1 (Some 0) None ∷ n kinds.BitwiseOr 2 (Some 0) None ∷ n kinds.Name 0 (Some 0) (Some (97 ∷ [])) ∷ n kinds.BitwiseXor 2 (Some 4) None ∷ n kinds.Name 0 (Some 4) (Some (98 ∷ [])) ∷ n kinds.BitwiseAnd 2 (Some 8) None ∷ n kinds.Name 0 (Some 8) (Some (99 ∷ [])) ∷ n kinds.Shift 5 (Some 12) None ∷ n kinds.Name 0 (Some 12) (Some (100 ∷ [])) ∷ n kinds.LeftShift 0 None None ∷ n kinds.Name 0 (Some 17) (Some (101 ∷ [])) ∷ n kinds.RightShift 0 None None ∷ n kinds.Name 0 (Some 22) (Some (102 ∷ [])) ∷ [] } ∷
    -- a if b else c
    record { line = at s.Name 0 (97 ∷ []) ∷ at s.IfWord 2 (105 ∷ 102 ∷ []) ∷ at s.Name 5 (98 ∷ []) ∷ at s.ElseWord 7 (101 ∷ 108 ∷ 115 ∷ 101 ∷ []) ∷ at s.Name 12 (99 ∷ []) ∷ []; nodes = n kinds.ExpressionStatement 1 (Some 0) None ∷ n kinds.Conditional 3 (Some 0) None ∷ n kinds.Name 0 (Some 0) (Some (97 ∷ [])) ∷ n kinds.Name 0 (Some 5) (Some (98 ∷ [])) ∷ n kinds.Name 0 (Some 12) (Some (99 ∷ [])) ∷ [] } ∷
    -- (a if b else c) if d else e
    record { line = at s.LeftParen 0 (40 ∷ []) ∷ at s.Name 1 (97 ∷ []) ∷ at s.IfWord 3 (105 ∷ 102 ∷ []) ∷ at s.Name 6 (98 ∷ []) ∷ at s.ElseWord 8 (101 ∷ 108 ∷ 115 ∷ 101 ∷ []) ∷ at s.Name 13 (99 ∷ []) ∷ at s.RightParen 14 (41 ∷ []) ∷ at s.IfWord 16 (105 ∷ 102 ∷ []) ∷ at s.Name 19 (100 ∷ []) ∷ at s.ElseWord 21 (101 ∷ 108 ∷ 115 ∷ 101 ∷ []) ∷ at s.Name 26 (101 ∷ []) ∷ []; nodes = n kinds.ExpressionStatement 1 (Some 0) None ∷ n kinds.Conditional 3 (Some 0) None ∷ n kinds.Conditional 3 (Some 1) None ∷ n kinds.Name 0 (Some 1) (Some (97 ∷ [])) ∷ n kinds.Name 0 (Some 6) (Some (98 ∷ [])) ∷ n kinds.Name 0 (Some 13) (Some (99 ∷ [])) ∷ n kinds.Name 0 (Some 19) (Some (100 ∷ [])) ∷ n kinds.Name 0 (Some 26) (Some (101 ∷ [])) ∷ [] } ∷
    -- lambda: 1
    record { line = at s.LambdaWord 0 (108 ∷ 97 ∷ 109 ∷ 98 ∷ 100 ∷ 97 ∷ []) ∷ at s.Colon 6 (58 ∷ []) ∷ at s.Number 8 (49 ∷ []) ∷ []; nodes = n kinds.ExpressionStatement 1 (Some 0) None ∷ n kinds.Lambda 1 (Some 0) None ∷ n kinds.NumberLiteral 0 (Some 8) (Some (49 ∷ [])) ∷ [] } ∷
    -- lambda x: x
    record { line = at s.LambdaWord 0 (108 ∷ 97 ∷ 109 ∷ 98 ∷ 100 ∷ 97 ∷ []) ∷ at s.Name 7 (120 ∷ []) ∷ at s.Colon 8 (58 ∷ []) ∷ at s.Name 10 (120 ∷ []) ∷ []; nodes = n kinds.ExpressionStatement 1 (Some 0) None ∷ n kinds.Lambda 2 (Some 0) None ∷ n kinds.Parameter 0 (Some 7) (Some (120 ∷ [])) ∷ n kinds.Name 0 (Some 10) (Some (120 ∷ [])) ∷ [] } ∷
    -- lambda x, y=1, *z, k, **w: x
    record { line = at s.LambdaWord 0 (108 ∷ 97 ∷ 109 ∷ 98 ∷ 100 ∷ 97 ∷ []) ∷ at s.Name 7 (120 ∷ []) ∷ at s.Comma 8 (44 ∷ []) ∷ at s.Name 10 (121 ∷ []) ∷ at s.Assign 11 (61 ∷ []) ∷ at s.Number 12 (49 ∷ []) ∷ at s.Comma 13 (44 ∷ []) ∷ at s.Star 15 (42 ∷ []) ∷ at s.Name 16 (122 ∷ []) ∷ at s.Comma 17 (44 ∷ []) ∷ at s.Name 19 (107 ∷ []) ∷ at s.Comma 20 (44 ∷ []) ∷ at s.DoubleStar 22 (42 ∷ 42 ∷ []) ∷ at s.Name 24 (119 ∷ []) ∷ at s.Colon 25 (58 ∷ []) ∷ at s.Name 27 (120 ∷ []) ∷ []; nodes = n kinds.ExpressionStatement 1 (Some 0) None ∷ n kinds.Lambda 6 (Some 0) None ∷ n kinds.Parameter 0 (Some 7) (Some (120 ∷ [])) ∷ n kinds.Parameter 1 (Some 10) (Some (121 ∷ [])) ∷ n kinds.NumberLiteral 0 (Some 12) (Some (49 ∷ [])) ∷ n kinds.StarParameter 0 None (Some (122 ∷ [])) ∷ n kinds.KeywordOnlyParameter 0 (Some 19) (Some (107 ∷ [])) ∷ n kinds.DoubleStarParameter 0 None (Some (119 ∷ [])) ∷ n kinds.Name 0 (Some 27) (Some (120 ∷ [])) ∷ [] } ∷
    -- lambda x, /, y: x
    record { line = at s.LambdaWord 0 (108 ∷ 97 ∷ 109 ∷ 98 ∷ 100 ∷ 97 ∷ []) ∷ at s.Name 7 (120 ∷ []) ∷ at s.Comma 8 (44 ∷ []) ∷ at s.Slash 10 (47 ∷ []) ∷ at s.Comma 11 (44 ∷ []) ∷ at s.Name 13 (121 ∷ []) ∷ at s.Colon 14 (58 ∷ []) ∷ at s.Name 16 (120 ∷ []) ∷ []; nodes = n kinds.ExpressionStatement 1 (Some 0) None ∷ n kinds.Lambda 4 (Some 0) None ∷ n kinds.Parameter 0 (Some 7) (Some (120 ∷ [])) ∷ n kinds.PositionalOnlyMark 0 None None ∷ n kinds.Parameter 0 (Some 13) (Some (121 ∷ [])) ∷ n kinds.Name 0 (Some 16) (Some (120 ∷ [])) ∷ [] } ∷
    -- lambda x: (yield)
    record { line = at s.LambdaWord 0 (108 ∷ 97 ∷ 109 ∷ 98 ∷ 100 ∷ 97 ∷ []) ∷ at s.Name 7 (120 ∷ []) ∷ at s.Colon 8 (58 ∷ []) ∷ at s.LeftParen 10 (40 ∷ []) ∷ at s.YieldWord 11 (121 ∷ 105 ∷ 101 ∷ 108 ∷ 100 ∷ []) ∷ at s.RightParen 16 (41 ∷ []) ∷ []; nodes = n kinds.ExpressionStatement 1 (Some 0) None ∷ n kinds.Lambda 2 (Some 0) None ∷ n kinds.Parameter 0 (Some 7) (Some (120 ∷ [])) ∷ n kinds.Yield 0 (Some 11) None ∷ [] } ∷
    -- lambda **k,: k
    record { line = at s.LambdaWord 0 (108 ∷ 97 ∷ 109 ∷ 98 ∷ 100 ∷ 97 ∷ []) ∷ at s.DoubleStar 7 (42 ∷ 42 ∷ []) ∷ at s.Name 9 (107 ∷ []) ∷ at s.Comma 10 (44 ∷ []) ∷ at s.Colon 11 (58 ∷ []) ∷ at s.Name 13 (107 ∷ []) ∷ []; nodes = n kinds.ExpressionStatement 1 (Some 0) None ∷ n kinds.Lambda 2 (Some 0) None ∷ n kinds.DoubleStarParameter 0 None (Some (107 ∷ [])) ∷ n kinds.Name 0 (Some 13) (Some (107 ∷ [])) ∷ [] } ∷
    -- await x
    record { line = at s.AwaitWord 0 (97 ∷ 119 ∷ 97 ∷ 105 ∷ 116 ∷ []) ∷ at s.Name 6 (120 ∷ []) ∷ []; nodes = n kinds.ExpressionStatement 1 (Some 0) None ∷ n kinds.Await 1 (Some 0) None ∷ n kinds.Name 0 (Some 6) (Some (120 ∷ [])) ∷ [] } ∷
    -- await x ** 2
    record { line = at s.AwaitWord 0 (97 ∷ 119 ∷ 97 ∷ 105 ∷ 116 ∷ []) ∷ at s.Name 6 (120 ∷ []) ∷ at s.DoubleStar 8 (42 ∷ 42 ∷ []) ∷ at s.Number 11 (50 ∷ []) ∷ []; nodes = n kinds.ExpressionStatement 1 (Some 0) None ∷ n kinds.Power 2 (Some 0) None ∷ n kinds.Await 1 (Some 0) None ∷ n kinds.Name 0 (Some 6) (Some (120 ∷ [])) ∷ n kinds.NumberLiteral 0 (Some 11) (Some (50 ∷ [])) ∷ [] } ∷
    -- -await x
    record { line = at s.Minus 0 (45 ∷ []) ∷ at s.AwaitWord 1 (97 ∷ 119 ∷ 97 ∷ 105 ∷ 116 ∷ []) ∷ at s.Name 7 (120 ∷ []) ∷ []; nodes = n kinds.ExpressionStatement 1 (Some 0) None ∷ n kinds.UnaryMinus 1 (Some 0) None ∷ n kinds.Await 1 (Some 1) None ∷ n kinds.Name 0 (Some 7) (Some (120 ∷ [])) ∷ [] } ∷
    -- (a, b)
    record { line = at s.LeftParen 0 (40 ∷ []) ∷ at s.Name 1 (97 ∷ []) ∷ at s.Comma 2 (44 ∷ []) ∷ at s.Name 4 (98 ∷ []) ∷ at s.RightParen 5 (41 ∷ []) ∷ []; nodes = n kinds.ExpressionStatement 1 (Some 0) None ∷ n kinds.Tuple 2 (Some 0) None ∷ n kinds.Name 0 (Some 1) (Some (97 ∷ [])) ∷ n kinds.Name 0 (Some 4) (Some (98 ∷ [])) ∷ [] } ∷
    -- (*a,)
    record { line = at s.LeftParen 0 (40 ∷ []) ∷ at s.Star 1 (42 ∷ []) ∷ at s.Name 2 (97 ∷ []) ∷ at s.Comma 3 (44 ∷ []) ∷ at s.RightParen 4 (41 ∷ []) ∷ []; nodes = n kinds.ExpressionStatement 1 (Some 0) None ∷ n kinds.Tuple 1 (Some 0) None ∷ n kinds.Starred 1 (Some 1) None ∷ n kinds.Name 0 (Some 2) (Some (97 ∷ [])) ∷ [] } ∷
    -- (a := 1)
    record { line = at s.LeftParen 0 (40 ∷ []) ∷ at s.Name 1 (97 ∷ []) ∷ at s.Walrus 3 (58 ∷ 61 ∷ []) ∷ at s.Number 6 (49 ∷ []) ∷ at s.RightParen 7 (41 ∷ []) ∷ []; nodes = n kinds.ExpressionStatement 1 (Some 0) None ∷ n kinds.NamedExpression 1 (Some 1) (Some (97 ∷ [])) ∷ n kinds.NumberLiteral 0 (Some 6) (Some (49 ∷ [])) ∷ [] } ∷
    -- (a, b := 1)
    record { line = at s.LeftParen 0 (40 ∷ []) ∷ at s.Name 1 (97 ∷ []) ∷ at s.Comma 2 (44 ∷ []) ∷ at s.Name 4 (98 ∷ []) ∷ at s.Walrus 6 (58 ∷ 61 ∷ []) ∷ at s.Number 9 (49 ∷ []) ∷ at s.RightParen 10 (41 ∷ []) ∷ []; nodes = n kinds.ExpressionStatement 1 (Some 0) None ∷ n kinds.Tuple 2 (Some 0) None ∷ n kinds.Name 0 (Some 1) (Some (97 ∷ [])) ∷ n kinds.NamedExpression 1 (Some 4) (Some (98 ∷ [])) ∷ n kinds.NumberLiteral 0 (Some 9) (Some (49 ∷ [])) ∷ [] } ∷
    -- (yield a)
    record { line = at s.LeftParen 0 (40 ∷ []) ∷ at s.YieldWord 1 (121 ∷ 105 ∷ 101 ∷ 108 ∷ 100 ∷ []) ∷ at s.Name 7 (97 ∷ []) ∷ at s.RightParen 8 (41 ∷ []) ∷ []; nodes = n kinds.ExpressionStatement 1 (Some 0) None ∷ n kinds.Yield 1 (Some 1) None ∷ n kinds.Name 0 (Some 7) (Some (97 ∷ [])) ∷ [] } ∷
    -- (yield from a)
    record { line = at s.LeftParen 0 (40 ∷ []) ∷ at s.YieldWord 1 (121 ∷ 105 ∷ 101 ∷ 108 ∷ 100 ∷ []) ∷ at s.FromWord 7 (102 ∷ 114 ∷ 111 ∷ 109 ∷ []) ∷ at s.Name 12 (97 ∷ []) ∷ at s.RightParen 13 (41 ∷ []) ∷ []; nodes = n kinds.ExpressionStatement 1 (Some 0) None ∷ n kinds.YieldFrom 1 (Some 1) None ∷ n kinds.Name 0 (Some 12) (Some (97 ∷ [])) ∷ [] } ∷
    []

-- each line has the nodes that are said
rows_hold : map nodes_of_line rows ≡ map said rows
unfolding star_at named_at element_at sx_item_at sx_at yield_at target_item_at targets_at for_clause_at clause_at clauses_at more_elements_at parenthesized_at list_display_at item_or_named_at unpacked_at brace_entry_at more_entries_at brace_display_at starred_argument_at plain_argument_at argument_at arguments_at more_arguments_at call_arguments_at slice_rest_at slice_at slices_item_at slices_at trailer_at field_expression_at inner_field_at field_at string_part_at strings_at atom_at primary_at awaited_at power_at factor_at term_at arith_at shift_at bit_and_at bit_xor_at bit_or_at comparison_sign_at comparison_at not_at and_at or_at lambda_parameter_at lambda_parameters_at lambda_at test_at signed_number_at number_pattern_at literal_at dotted_name_at class_argument_at class_arguments_at name_pattern_at star_pattern_at sequence_item_at parenthesized_pattern_at bracketed_pattern_at mapping_item_at mapping_pattern_at closed_pattern_at or_pattern_at pattern_at open_patterns_at value_at assigned_value_at return_at raise_at declaration_at delete_at assert_at as_name_at module_name_at import_at imported_name_at imported_names_at source_at import_from_at keyword_statement_at value_statement_at statement_at statements_at parameter_annotation_at star_annotation_at parameter_at parameters_at for_header_at except_header_at except_star_header_at with_item_at plain_with_at parenthesized_with_at function_header_at class_header_at subject_at match_header_at case_header_at decorator_line_at reader_of phrase_at headed_at bare_at simple_at with_at async_line_at except_line_at line_by line_at
rows_hold = refl
