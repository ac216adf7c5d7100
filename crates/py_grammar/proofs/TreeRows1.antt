-- Lines with the nodes that Python's own parser gives them, in preorder, computed from the readers of the definition: rows
-- that tools/grammar_trees.py writes.
use Rattle.std.specs.Prelude.{List, [], ◌∷◌, Some, None, map}
use Rattle.std.proofs.Common.{◌≡◌, refl}
use Rattle.tree_nodes.specs.declared.kind.Kind.TheVariants as kinds
use Rattle.py_grammar.specs.declared.symbol.Symbol.TheVariants as s
use Rattle.py_grammar.proofs.TryingTrees.{Row, at, n, nodes_of_line, said}
use Rattle.py_grammar.specs.Reading.{star_at, named_at, element_at, sx_item_at, sx_at, yield_at, target_item_at, targets_at, for_clause_at, clause_at, clauses_at, more_elements_at, parenthesized_at, list_display_at, item_or_named_at, unpacked_at, brace_entry_at, more_entries_at, brace_display_at, starred_argument_at, plain_argument_at, argument_at, arguments_at, more_arguments_at, call_arguments_at, slice_rest_at, slice_at, slices_item_at, slices_at, trailer_at, field_expression_at, inner_field_at, field_at, string_part_at, strings_at, atom_at, primary_at, awaited_at, power_at, factor_at, term_at, arith_at, shift_at, bit_and_at, bit_xor_at, bit_or_at, comparison_sign_at, comparison_at, not_at, and_at, or_at, lambda_parameter_at, lambda_parameters_at, lambda_at, test_at}
use Rattle.py_grammar.specs.ReadingPatterns.{signed_number_at, number_pattern_at, literal_at, dotted_name_at, class_argument_at, class_arguments_at, name_pattern_at, star_pattern_at, sequence_item_at, parenthesized_pattern_at, bracketed_pattern_at, mapping_item_at, mapping_pattern_at, closed_pattern_at, or_pattern_at, pattern_at, open_patterns_at}
use Rattle.py_grammar.specs.ReadingStatements.{value_at, assigned_value_at, return_at, raise_at, declaration_at, delete_at, assert_at, as_name_at, module_name_at, import_at, imported_name_at, imported_names_at, source_at, import_from_at, keyword_statement_at, value_statement_at, statement_at, statements_at}
use Rattle.py_grammar.specs.ReadingHeaders.{parameter_annotation_at, star_annotation_at, parameter_at, parameters_at, for_header_at, except_header_at, except_star_header_at, with_item_at, plain_with_at, parenthesized_with_at, function_header_at, class_header_at, subject_at, match_header_at, case_header_at, decorator_line_at}
use Rattle.py_grammar.specs.ReadingLines.{reader_of, phrase_at, headed_at, bare_at, simple_at, with_at, async_line_at, except_line_at, line_by, line_at}

abbrev rows : List Row
rows =
    -- a - (b - c) - d
    record { line = at s.Name 0 (97 ∷ []) ∷ at s.Minus 2 (45 ∷ []) ∷ at s.LeftParen 4 (40 ∷ []) ∷ at s.Name 5 (98 ∷ []) ∷ at s.Minus 7 (45 ∷ []) ∷ at s.Name 9 (99 ∷ []) ∷ at s.RightParen 10 (41 ∷ []) ∷ at s.Minus 12 (45 ∷ []) ∷ at s.Name 14 (100 ∷ []) ∷ []; nodes = n kinds.ExpressionStatement 1 (Some 0) None ∷ n kinds.Sum 5 (Some 0) None ∷ n kinds.Name 0 (Some 0) (Some (97 ∷ [])) ∷ n kinds.Subtract 0 None None ∷ n kinds.Sum 3 (Some 5) None ∷ n kinds.Name 0 (Some 5) (Some (98 ∷ [])) ∷ n kinds.Subtract 0 None None ∷ n kinds.Name 0 (Some 9) (Some (99 ∷ [])) ∷ n kinds.Subtract 0 None None ∷ n kinds.Name 0 (Some 14) (Some (100 ∷ [])) ∷ [] } ∷
    -- (a - b) - c
    record { line = at s.LeftParen 0 (40 ∷ []) ∷ at s.Name 1 (97 ∷ []) ∷ at s.Minus 3 (45 ∷ []) ∷ at s.Name 5 (98 ∷ []) ∷ at s.RightParen 6 (41 ∷ []) ∷ at s.Minus 8 (45 ∷ []) ∷ at s.Name 10 (99 ∷ []) ∷ []; nodes = n kinds.ExpressionStatement 1 (Some 0) None ∷ n kinds.Sum 3 (Some 0) None ∷ n kinds.Sum 3 (Some 1) None ∷ n kinds.Name 0 (Some 1) (Some (97 ∷ [])) ∷ n kinds.Subtract 0 None None ∷ n kinds.Name 0 (Some 5) (Some (98 ∷ [])) ∷ n kinds.Subtract 0 None None ∷ n kinds.Name 0 (Some 10) (Some (99 ∷ [])) ∷ [] } ∷
    -- (a + b) * c // d % e @ f / g
    record { line = at s.LeftParen 0 (40 ∷ []) ∷ at s.Name 1 (97 ∷ []) ∷ at s.Plus 3 (43 ∷ []) ∷ at s.Name 5 (98 ∷ []) ∷ at s.RightParen 6 (41 ∷ []) ∷ at s.Star 8 (42 ∷ []) ∷ at s.Name 10 (99 ∷ []) ∷ at s.DoubleSlash 12 (47 ∷ 47 ∷ []) ∷ at s.Name 15 (100 ∷ []) ∷ at s.Percent 17 (37 ∷ []) ∷ at s.Name 19 (101 ∷ []) ∷ at s.AtSign 21 (64 ∷ []) ∷ at s.Name 23 (102 ∷ []) ∷ at s.Slash 25 (47 ∷ []) ∷ at s.Name 27 (103 ∷ []) ∷ []; nodes = n kinds.ExpressionStatement 1 (Some 0) None ∷ n kinds.Product 11 (Some 0) None ∷ n kinds.Sum 3 (Some 1) None ∷ n kinds.Name 0 (Some 1) (Some (97 ∷ [])) ∷ n kinds.Add 0 None None ∷ n kinds.Name 0 (Some 5) (Some (98 ∷ [])) ∷ n kinds.Multiply 0 None None ∷ n kinds.Name 0 (Some 10) (Some (99 ∷ [])) ∷ n kinds.FloorDivide 0 None None ∷ n kinds.Name 0 (Some 15) (Some (100 ∷ [])) ∷ n kinds.Modulo 0 None None ∷ n kinds.Name 0 (Some 19) (Some (101 ∷ [])) ∷ n kinds.MatrixMultiply 0 None None ∷ n kinds.Name 0 (Some 23) (Some (102 ∷ [])) ∷ n kinds.Divide 0 None None ∷ n kinds.Name 0 (Some 27) (Some (103 ∷ [])) ∷ [] } ∷
    -- a << b >> c | d ^ e & f
    record { line = at s.Name 0 (97 ∷ []) ∷ at s.LeftShift 2 (60 ∷ 60 ∷ []) ∷ at s.Name 5 (98 ∷ []) ∷ at s.RightShift 7 (62 ∷ 62 ∷ []) ∷ at s.Name 10 (99 ∷ []) ∷ at s.Bar 12 (124 ∷ []) ∷ at s.Name 14 (100 ∷ []) ∷ at s.Caret 16 (94 ∷ []) ∷ at s.Name 18 (101 ∷ []) ∷ at s.Ampersand 20 (38 ∷ []) ∷ at s.Name 22 (102 ∷ []) ∷ []; nodes = n kinds.ExpressionStatement 1 (Some 0) None ∷ n kinds.BitwiseOr 2 (Some 0) None ∷ n kinds.Shift 5 (Some 0) None ∷ n kinds.Name 0 (Some 0) (Some (97 ∷ [])) ∷ n kinds.LeftShift 0 None None ∷ n kinds.Name 0 (Some 5) (Some (98 ∷ [])) ∷ n kinds.RightShift 0 None None ∷ n kinds.Name 0 (Some 10) (Some (99 ∷ [])) ∷ n kinds.BitwiseXor 2 (Some 14) None ∷ n kinds.Name 0 (Some 14) (Some (100 ∷ [])) ∷ n kinds.BitwiseAnd 2 (Some 18) None ∷ n kinds.Name 0 (Some 18) (Some (101 ∷ [])) ∷ n kinds.Name 0 (Some 22) (Some (102 ∷ [])) ∷ [] } ∷
    -- (a and b) and c or not d
    record { line = at s.LeftParen 0 (40 ∷ []) ∷ at s.Name 1 (97 ∷ []) ∷ at s.AndWord 3 (97 ∷ 110 ∷ 100 ∷ []) ∷ at s.Name 7 (98 ∷ []) ∷ at s.RightParen 8 (41 ∷ []) ∷ at s.AndWord 10 (97 ∷ 110 ∷ 100 ∷ []) ∷ at s.Name 14 (99 ∷ []) ∷ at s.OrWord 16 (111 ∷ 114 ∷ []) ∷ at s.NotWord 19 (110 ∷ 111 ∷ 116 ∷ []) ∷ at s.Name 23 (100 ∷ []) ∷ []; nodes = n kinds.ExpressionStatement 1 (Some 0) None ∷ n kinds.BoolOr 2 (Some 0) None ∷ n kinds.BoolAnd 2 (Some 0) None ∷ n kinds.BoolAnd 2 (Some 1) None ∷ n kinds.Name 0 (Some 1) (Some (97 ∷ [])) ∷ n kinds.Name 0 (Some 7) (Some (98 ∷ [])) ∷ n kinds.Name 0 (Some 14) (Some (99 ∷ [])) ∷ n kinds.Not 1 (Some 19) None ∷ n kinds.Name 0 (Some 23) (Some (100 ∷ [])) ∷ [] } ∷
    -- (a < b) < c
    record { line = at s.LeftParen 0 (40 ∷ []) ∷ at s.Name 1 (97 ∷ []) ∷ at s.Less 3 (60 ∷ []) ∷ at s.Name 5 (98 ∷ []) ∷ at s.RightParen 6 (41 ∷ []) ∷ at s.Less 8 (60 ∷ []) ∷ at s.Name 10 (99 ∷ []) ∷ []; nodes = n kinds.ExpressionStatement 1 (Some 0) None ∷ n kinds.Comparison 3 (Some 0) None ∷ n kinds.Comparison 3 (Some 1) None ∷ n kinds.Name 0 (Some 1) (Some (97 ∷ [])) ∷ n kinds.Less 0 None None ∷ n kinds.Name 0 (Some 5) (Some (98 ∷ [])) ∷ n kinds.Less 0 None None ∷ n kinds.Name 0 (Some 10) (Some (99 ∷ [])) ∷ [] } ∷
    -- a is not b not in c <= d >= e != f == g is h in i
    record { line = at s.Name 0 (97 ∷ []) ∷ at s.IsWord 2 (105 ∷ 115 ∷ []) ∷ at s.NotWord 5 (110 ∷ 111 ∷ 116 ∷ []) ∷ at s.Name 9 (98 ∷ []) ∷ at s.NotWord 11 (110 ∷ 111 ∷ 116 ∷ []) ∷ at s.InWord 15 (105 ∷ 110 ∷ []) ∷ at s.Name 18 (99 ∷ []) ∷ at s.LessEqual 20 (60 ∷ 61 ∷ []) ∷ at s.Name 23 (100 ∷ []) ∷ at s.GreaterEqual 25 (62 ∷ 61 ∷ []) ∷ at s.Name 28 (101 ∷ []) ∷ at s.NotEqual 30 (33 ∷ 61 ∷ []) ∷ at s.Name 33 (102 ∷ []) ∷ at s.Equal 35 (61 ∷ 61 ∷ []) ∷ at s.Name 38 (103 ∷ []) ∷ at s.IsWord 40 (105 ∷ 115 ∷ []) ∷ at s.Name 43 (104 ∷ []) ∷ at s.InWord 45 (105 ∷ 110 ∷ []) ∷ at s.Name 48 (105 ∷ []) ∷ []; nodes = n kinds.ExpressionStatement 1 (Some 0) None ∷ n kinds.Comparison 17 (Some 0) None ∷ n kinds.Name 0 (Some 0) (Some (97 ∷ [])) ∷ n kinds.IsNot 0 None None ∷ n kinds.Name 0 (Some 9) (Some (98 ∷ [])) ∷ n kinds.NotIn 0 None None ∷ n kinds.Name 0 (Some 18) (Some (99 ∷ [])) ∷ n kinds.LessEqual 0 None None ∷ n kinds.Name 0 (Some 23) (Some (100 ∷ [])) ∷ n kinds.GreaterEqual 0 None None ∷ n kinds.Name 0 (Some 28) (Some (101 ∷ [])) ∷ n kinds.NotEqual 0 None None ∷ n kinds.Name 0 (Some 33) (Some (102 ∷ [])) ∷ n kinds.Equal 0 None None ∷ n kinds.Name 0 (Some 38) (Some (103 ∷ [])) ∷ n kinds.Is 0 None None ∷ n kinds.Name 0 (Some 43) (Some (104 ∷ [])) ∷ n kinds.In 0 None None ∷ n kinds.Name 0 (Some 48) (Some (105 ∷ [])) ∷ [] } ∷
    -- -a ** -b
    record { line = at s.Minus 0 (45 ∷ []) ∷ at s.Name 1 (97 ∷ []) ∷ at s.DoubleStar 3 (42 ∷ 42 ∷ []) ∷ at s.Minus 6 (45 ∷ []) ∷ at s.Name 7 (98 ∷ []) ∷ []; nodes = n kinds.ExpressionStatement 1 (Some 0) None ∷ n kinds.UnaryMinus 1 (Some 0) None ∷ n kinds.Power 2 (Some 1) None ∷ n kinds.Name 0 (Some 1) (Some (97 ∷ [])) ∷ n kinds.UnaryMinus 1 (Some 6) None ∷ n kinds.Name 0 (Some 7) (Some (98 ∷ [])) ∷ [] } ∷
    -- +a, ~b
    record { line = at s.Plus 0 (43 ∷ []) ∷ at s.Name 1 (97 ∷ []) ∷ at s.Comma 2 (44 ∷ []) ∷ at s.Tilde 4 (126 ∷ []) ∷ at s.Name 5 (98 ∷ []) ∷ []; nodes = n kinds.ExpressionStatement 1 (Some 0) None ∷ n kinds.Tuple 2 (Some 0) None ∷ n kinds.UnaryPlus 1 (Some 0) None ∷ n kinds.Name 0 (Some 1) (Some (97 ∷ [])) ∷ n kinds.UnaryInvert 1 (Some 4) None ∷ n kinds.Name 0 (Some 5) (Some (98 ∷ [])) ∷ [] } ∷
    -- await a ** b
    record { line = at s.AwaitWord 0 (97 ∷ 119 ∷ 97 ∷ 105 ∷ 116 ∷ []) ∷ at s.Name 6 (97 ∷ []) ∷ at s.DoubleStar 8 (42 ∷ 42 ∷ []) ∷ at s.Name 11 (98 ∷ []) ∷ []; nodes = n kinds.ExpressionStatement 1 (Some 0) None ∷ n kinds.Power 2 (Some 0) None ∷ n kinds.Await 1 (Some 0) None ∷ n kinds.Name 0 (Some 6) (Some (97 ∷ [])) ∷ n kinds.Name 0 (Some 11) (Some (98 ∷ [])) ∷ [] } ∷
    -- a if b else c if d else e
    record { line = at s.Name 0 (97 ∷ []) ∷ at s.IfWord 2 (105 ∷ 102 ∷ []) ∷ at s.Name 5 (98 ∷ []) ∷ at s.ElseWord 7 (101 ∷ 108 ∷ 115 ∷ 101 ∷ []) ∷ at s.Name 12 (99 ∷ []) ∷ at s.IfWord 14 (105 ∷ 102 ∷ []) ∷ at s.Name 17 (100 ∷ []) ∷ at s.ElseWord 19 (101 ∷ 108 ∷ 115 ∷ 101 ∷ []) ∷ at s.Name 24 (101 ∷ []) ∷ []; nodes = n kinds.ExpressionStatement 1 (Some 0) None ∷ n kinds.Conditional 3 (Some 0) None ∷ n kinds.Name 0 (Some 0) (Some (97 ∷ [])) ∷ n kinds.Name 0 (Some 5) (Some (98 ∷ [])) ∷ n kinds.Conditional 3 (Some 12) None ∷ n kinds.Name 0 (Some 12) (Some (99 ∷ [])) ∷ n kinds.Name 0 (Some 17) (Some (100 ∷ [])) ∷ n kinds.Name 0 (Some 24) (Some (101 ∷ [])) ∷ [] } ∷
    -- (a).b(c)[d].e
    record { line = at s.LeftParen 0 (40 ∷ []) ∷ at s.Name 1 (97 ∷ []) ∷ at s.RightParen 2 (41 ∷ []) ∷ at s.Dot 3 (46 ∷ []) ∷ at s.Name 4 (98 ∷ []) ∷ at s.LeftParen 5 (40 ∷ []) ∷ at s.Name 6 (99 ∷ []) ∷ at s.RightParen 7 (41 ∷ []) ∷ at s.LeftBracket 8 (91 ∷ []) ∷ at s.Name 9 (100 ∷ []) ∷ at s.RightBracket 10 (93 ∷ []) ∷ at s.Dot 11 (46 ∷ []) ∷ at s.Name 12 (101 ∷ []) ∷ []; nodes = n kinds.ExpressionStatement 1 (Some 0) None ∷ n kinds.Attribute 1 (Some 0) (Some (101 ∷ [])) ∷ n kinds.Subscript 2 (Some 0) None ∷ n kinds.Call 2 (Some 0) None ∷ n kinds.Attribute 1 (Some 0) (Some (98 ∷ [])) ∷ n kinds.Name 0 (Some 1) (Some (97 ∷ [])) ∷ n kinds.Name 0 (Some 6) (Some (99 ∷ [])) ∷ n kinds.Name 0 (Some 9) (Some (100 ∷ [])) ∷ [] } ∷
    -- f(*a, b, c=1, *d, **e, g=2)
    record { line = at s.Name 0 (102 ∷ []) ∷ at s.LeftParen 1 (40 ∷ []) ∷ at s.Star 2 (42 ∷ []) ∷ at s.Name 3 (97 ∷ []) ∷ at s.Comma 4 (44 ∷ []) ∷ at s.Name 6 (98 ∷ []) ∷ at s.Comma 7 (44 ∷ []) ∷ at s.Name 9 (99 ∷ []) ∷ at s.Assign 10 (61 ∷ []) ∷ at s.Number 11 (49 ∷ []) ∷ at s.Comma 12 (44 ∷ []) ∷ at s.Star 14 (42 ∷ []) ∷ at s.Name 15 (100 ∷ []) ∷ at s.Comma 16 (44 ∷ []) ∷ at s.DoubleStar 18 (42 ∷ 42 ∷ []) ∷ at s.Name 20 (101 ∷ []) ∷ at s.Comma 21 (44 ∷ []) ∷ at s.Name 23 (103 ∷ []) ∷ at s.Assign 24 (61 ∷ []) ∷ at s.Number 25 (50 ∷ []) ∷ at s.RightParen 26 (41 ∷ []) ∷ []; nodes = n kinds.ExpressionStatement 1 (Some 0) None ∷ n kinds.Call 7 (Some 0) None ∷ n kinds.Name 0 (Some 0) (Some (102 ∷ [])) ∷ n kinds.StarArgument 1 (Some 2) None ∷ n kinds.Name 0 (Some 3) (Some (97 ∷ [])) ∷ n kinds.Name 0 (Some 6) (Some (98 ∷ [])) ∷ n kinds.KeywordArgument 1 (Some 9) (Some (99 ∷ [])) ∷ n kinds.NumberLiteral 0 (Some 11) (Some (49 ∷ [])) ∷ n kinds.StarArgument 1 (Some 14) None ∷ n kinds.Name 0 (Some 15) (Some (100 ∷ [])) ∷ n kinds.DoubleStarArgument 1 (Some 18) None ∷ n kinds.Name 0 (Some 20) (Some (101 ∷ [])) ∷ n kinds.KeywordArgument 1 (Some 23) (Some (103 ∷ [])) ∷ n kinds.NumberLiteral 0 (Some 25) (Some (50 ∷ [])) ∷ [] } ∷
    -- f(x for x in y)
    record { line = at s.Name 0 (102 ∷ []) ∷ at s.LeftParen 1 (40 ∷ []) ∷ at s.Name 2 (120 ∷ []) ∷ at s.ForWord 4 (102 ∷ 111 ∷ 114 ∷ []) ∷ at s.Name 8 (120 ∷ []) ∷ at s.InWord 10 (105 ∷ 110 ∷ []) ∷ at s.Name 13 (121 ∷ []) ∷ at s.RightParen 14 (41 ∷ []) ∷ []; nodes = n kinds.ExpressionStatement 1 (Some 0) None ∷ n kinds.Call 2 (Some 0) None ∷ n kinds.Name 0 (Some 0) (Some (102 ∷ [])) ∷ n kinds.GeneratorExpression 2 (Some 1) None ∷ n kinds.Name 0 (Some 2) (Some (120 ∷ [])) ∷ n kinds.ComprehensionFor 2 None None ∷ n kinds.NameTarget 0 (Some 8) (Some (120 ∷ [])) ∷ n kinds.Name 0 (Some 13) (Some (121 ∷ [])) ∷ [] } ∷
    -- f((x for x in y), 1)
    record { line = at s.Name 0 (102 ∷ []) ∷ at s.LeftParen 1 (40 ∷ []) ∷ at s.LeftParen 2 (40 ∷ []) ∷ at s.Name 3 (120 ∷ []) ∷ at s.ForWord 5 (102 ∷ 111 ∷ 114 ∷ []) ∷ at s.Name 9 (120 ∷ []) ∷ at s.InWord 11 (105 ∷ 110 ∷ []) ∷ at s.Name 14 (121 ∷ []) ∷ at s.RightParen 15 (41 ∷ []) ∷ at s.Comma 16 (44 ∷ []) ∷ at s.Number 18 (49 ∷ []) ∷ at s.RightParen 19 (41 ∷ []) ∷ []; nodes = n kinds.ExpressionStatement 1 (Some 0) None ∷ n kinds.Call 3 (Some 0) None ∷ n kinds.Name 0 (Some 0) (Some (102 ∷ [])) ∷ n kinds.GeneratorExpression 2 (Some 2) None ∷ n kinds.Name 0 (Some 3) (Some (120 ∷ [])) ∷ n kinds.ComprehensionFor 2 None None ∷ n kinds.NameTarget 0 (Some 9) (Some (120 ∷ [])) ∷ n kinds.Name 0 (Some 14) (Some (121 ∷ [])) ∷ n kinds.NumberLiteral 0 (Some 18) (Some (49 ∷ [])) ∷ [] } ∷
    -- f(a := 1 for a in b)
    record { line = at s.Name 0 (102 ∷ []) ∷ at s.LeftParen 1 (40 ∷ []) ∷ at s.Name 2 (97 ∷ []) ∷ at s.Walrus 4 (58 ∷ 61 ∷ []) ∷ at s.Number 7 (49 ∷ []) ∷ at s.ForWord 9 (102 ∷ 111 ∷ 114 ∷ []) ∷ at s.Name 13 (97 ∷ []) ∷ at s.InWord 15 (105 ∷ 110 ∷ []) ∷ at s.Name 18 (98 ∷ []) ∷ at s.RightParen 19 (41 ∷ []) ∷ []; nodes = n kinds.ExpressionStatement 1 (Some 0) None ∷ n kinds.Call 2 (Some 0) None ∷ n kinds.Name 0 (Some 0) (Some (102 ∷ [])) ∷ n kinds.GeneratorExpression 2 (Some 1) None ∷ n kinds.NamedExpression 1 (Some 2) (Some (97 ∷ [])) ∷ n kinds.NumberLiteral 0 (Some 7) (Some (49 ∷ [])) ∷ n kinds.ComprehensionFor 2 None None ∷ n kinds.NameTarget 0 (Some 13) (Some (97 ∷ [])) ∷ n kinds.Name 0 (Some 18) (Some (98 ∷ [])) ∷ [] } ∷
    -- f(a := 1,)
    record { line = at s.Name 0 (102 ∷ []) ∷ at s.LeftParen 1 (40 ∷ []) ∷ at s.Name 2 (97 ∷ []) ∷ at s.Walrus 4 (58 ∷ 61 ∷ []) ∷ at s.Number 7 (49 ∷ []) ∷ at s.Comma 8 (44 ∷ []) ∷ at s.RightParen 9 (41 ∷ []) ∷ []; nodes = n kinds.ExpressionStatement 1 (Some 0) None ∷ n kinds.Call 2 (Some 0) None ∷ n kinds.Name 0 (Some 0) (Some (102 ∷ [])) ∷ n kinds.NamedExpression 1 (Some 2) (Some (97 ∷ [])) ∷ n kinds.NumberLiteral 0 (Some 7) (Some (49 ∷ [])) ∷ [] } ∷
    -- x[(a, b)]
    record { line = at s.Name 0 (120 ∷ []) ∷ at s.LeftBracket 1 (91 ∷ []) ∷ at s.LeftParen 2 (40 ∷ []) ∷ at s.Name 3 (97 ∷ []) ∷ at s.Comma 4 (44 ∷ []) ∷ at s.Name 6 (98 ∷ []) ∷ at s.RightParen 7 (41 ∷ []) ∷ at s.RightBracket 8 (93 ∷ []) ∷ []; nodes = n kinds.ExpressionStatement 1 (Some 0) None ∷ n kinds.Subscript 2 (Some 0) None ∷ n kinds.Name 0 (Some 0) (Some (120 ∷ [])) ∷ n kinds.Tuple 2 (Some 2) None ∷ n kinds.Name 0 (Some 3) (Some (97 ∷ [])) ∷ n kinds.Name 0 (Some 6) (Some (98 ∷ [])) ∷ [] } ∷
    -- x[(a), b]
    record { line = at s.Name 0 (120 ∷ []) ∷ at s.LeftBracket 1 (91 ∷ []) ∷ at s.LeftParen 2 (40 ∷ []) ∷ at s.Name 3 (97 ∷ []) ∷ at s.RightParen 4 (41 ∷ []) ∷ at s.Comma 5 (44 ∷ []) ∷ at s.Name 7 (98 ∷ []) ∷ at s.RightBracket 8 (93 ∷ []) ∷ []; nodes = n kinds.ExpressionStatement 1 (Some 0) None ∷ n kinds.Subscript 2 (Some 0) None ∷ n kinds.Name 0 (Some 0) (Some (120 ∷ [])) ∷ n kinds.Slices 2 (Some 2) None ∷ n kinds.Name 0 (Some 3) (Some (97 ∷ [])) ∷ n kinds.Name 0 (Some 7) (Some (98 ∷ [])) ∷ [] } ∷
    -- x[a,]
    record { line = at s.Name 0 (120 ∷ []) ∷ at s.LeftBracket 1 (91 ∷ []) ∷ at s.Name 2 (97 ∷ []) ∷ at s.Comma 3 (44 ∷ []) ∷ at s.RightBracket 4 (93 ∷ []) ∷ []; nodes = n kinds.ExpressionStatement 1 (Some 0) None ∷ n kinds.Subscript 2 (Some 0) None ∷ n kinds.Name 0 (Some 0) (Some (120 ∷ [])) ∷ n kinds.Slices 1 (Some 2) None ∷ n kinds.Name 0 (Some 2) (Some (97 ∷ [])) ∷ [] } ∷
    -- x[*a]
    record { line = at s.Name 0 (120 ∷ []) ∷ at s.LeftBracket 1 (91 ∷ []) ∷ at s.Star 2 (42 ∷ []) ∷ at s.Name 3 (97 ∷ []) ∷ at s.RightBracket 4 (93 ∷ []) ∷ []; nodes = n kinds.ExpressionStatement 1 (Some 0) None ∷ n kinds.Subscript 2 (Some 0) None ∷ n kinds.Name 0 (Some 0) (Some (120 ∷ [])) ∷ n kinds.Starred 1 (Some 2) None ∷ n kinds.Name 0 (Some 3) (Some (97 ∷ [])) ∷ [] } ∷
    -- x[*a,]
    record { line = at s.Name 0 (120 ∷ []) ∷ at s.LeftBracket 1 (91 ∷ []) ∷ at s.Star 2 (42 ∷ []) ∷ at s.Name 3 (97 ∷ []) ∷ at s.Comma 4 (44 ∷ []) ∷ at s.RightBracket 5 (93 ∷ []) ∷ []; nodes = n kinds.ExpressionStatement 1 (Some 0) None ∷ n kinds.Subscript 2 (Some 0) None ∷ n kinds.Name 0 (Some 0) (Some (120 ∷ [])) ∷ n kinds.Slices 1 (Some 2) None ∷ n kinds.Starred 1 (Some 2) None ∷ n kinds.Name 0 (Some 3) (Some (97 ∷ [])) ∷ [] } ∷
    -- x[a:b:c]
    record { line = at s.Name 0 (120 ∷ []) ∷ at s.LeftBracket 1 (91 ∷ []) ∷ at s.Name 2 (97 ∷ []) ∷ at s.Colon 3 (58 ∷ []) ∷ at s.Name 4 (98 ∷ []) ∷ at s.Colon 5 (58 ∷ []) ∷ at s.Name 6 (99 ∷ []) ∷ at s.RightBracket 7 (93 ∷ []) ∷ []; nodes = n kinds.ExpressionStatement 1 (Some 0) None ∷ n kinds.Subscript 2 (Some 0) None ∷ n kinds.Name 0 (Some 0) (Some (120 ∷ [])) ∷ n kinds.Slice 5 (Some 2) None ∷ n kinds.Name 0 (Some 2) (Some (97 ∷ [])) ∷ n kinds.SliceColon 0 None None ∷ n kinds.Name 0 (Some 4) (Some (98 ∷ [])) ∷ n kinds.SliceColon 0 None None ∷ n kinds.Name 0 (Some 6) (Some (99 ∷ [])) ∷ [] } ∷
    -- x[a::]
    record { line = at s.Name 0 (120 ∷ []) ∷ at s.LeftBracket 1 (91 ∷ []) ∷ at s.Name 2 (97 ∷ []) ∷ at s.Colon 3 (58 ∷ []) ∷ at s.Colon 4 (58 ∷ []) ∷ at s.RightBracket 5 (93 ∷ []) ∷ []; nodes = n kinds.ExpressionStatement 1 (Some 0) None ∷ n kinds.Subscript 2 (Some 0) None ∷ n kinds.Name 0 (Some 0) (Some (120 ∷ [])) ∷ n kinds.Slice 3 (Some 2) None ∷ n kinds.Name 0 (Some 2) (Some (97 ∷ [])) ∷ n kinds.SliceColon 0 None None ∷ n kinds.SliceColon 0 None None ∷ [] } ∷
    -- x[:, 1]
    record { line = at s.Name 0 (120 ∷ []) ∷ at s.LeftBracket 1 (91 ∷ []) ∷ at s.Colon 2 (58 ∷ []) ∷ at s.Comma 3 (44 ∷ []) ∷ at s.Number 5 (49 ∷ []) ∷ at s.RightBracket 6 (93 ∷ []) ∷ []; nodes = n kinds.ExpressionStatement 1 (Some 0) None ∷ n kinds.Subscript 2 (Some 0) None ∷ n kinds.Name 0 (Some 0) (Some (120 ∷ [])) ∷ n kinds.Slices 2 (Some 2) None ∷ n kinds.Slice 1 (Some 2) None ∷ n kinds.SliceColon 0 None None ∷ n kinds.NumberLiteral 0 (Some 5) (Some (49 ∷ [])) ∷ [] } ∷
    -- x[a:=1, b]
    record { line = at s.Name 0 (120 ∷ []) ∷ at s.LeftBracket 1 (91 ∷ []) ∷ at s.Name 2 (97 ∷ []) ∷ at s.Walrus 3 (58 ∷ 61 ∷ []) ∷ at s.Number 5 (49 ∷ []) ∷ at s.Comma 6 (44 ∷ []) ∷ at s.Name 8 (98 ∷ []) ∷ at s.RightBracket 9 (93 ∷ []) ∷ []; nodes = n kinds.ExpressionStatement 1 (Some 0) None ∷ n kinds.Subscript 2 (Some 0) None ∷ n kinds.Name 0 (Some 0) (Some (120 ∷ [])) ∷ n kinds.Slices 2 (Some 2) None ∷ n kinds.NamedExpression 1 (Some 2) (Some (97 ∷ [])) ∷ n kinds.NumberLiteral 0 (Some 5) (Some (49 ∷ [])) ∷ n kinds.Name 0 (Some 8) (Some (98 ∷ [])) ∷ [] } ∷
    -- ()
    record { line = at s.LeftParen 0 (40 ∷ []) ∷ at s.RightParen 1 (41 ∷ []) ∷ []; nodes = n kinds.ExpressionStatement 1 (Some 0) None ∷ n kinds.Tuple 0 (Some 0) None ∷ [] } ∷
    -- (a,)
    record { line = at s.LeftParen 0 (40 ∷ []) ∷ at s.Name 1 (97 ∷ []) ∷ at s.Comma 2 (44 ∷ []) ∷ at s.RightParen 3 (41 ∷ []) ∷ []; nodes = n kinds.ExpressionStatement 1 (Some 0) None ∷ n kinds.Tuple 1 (Some 0) None ∷ n kinds.Name 0 (Some 1) (Some (97 ∷ [])) ∷ [] } ∷
    -- (a)
    record { line = at s.LeftParen 0 (40 ∷ []) ∷ at s.Name 1 (97 ∷ []) ∷ at s.RightParen 2 (41 ∷ []) ∷ []; nodes = n kinds.ExpressionStatement 1 (Some 0) None ∷ n kinds.Name 0 (Some 1) (Some (97 ∷ [])) ∷ [] } ∷
    -- (*a, b)
    record { line = at s.LeftParen 0 (40 ∷ []) ∷ at s.Star 1 (42 ∷ []) ∷ at s.Name 2 (97 ∷ []) ∷ at s.Comma 3 (44 ∷ []) ∷ at s.Name 5 (98 ∷ []) ∷ at s.RightParen 6 (41 ∷ []) ∷ []; nodes = n kinds.ExpressionStatement 1 (Some 0) None ∷ n kinds.Tuple 2 (Some 0) None ∷ n kinds.Starred 1 (Some 1) None ∷ n kinds.Name 0 (Some 2) (Some (97 ∷ [])) ∷ n kinds.Name 0 (Some 5) (Some (98 ∷ [])) ∷ [] } ∷
    -- [*a, b,]
    record { line = at s.LeftBracket 0 (91 ∷ []) ∷ at s.Star 1 (42 ∷ []) ∷ at s.Name 2 (97 ∷ []) ∷ at s.Comma 3 (44 ∷ []) ∷ at s.Name 5 (98 ∷ []) ∷ at s.Comma 6 (44 ∷ []) ∷ at s.RightBracket 7 (93 ∷ []) ∷ []; nodes = n kinds.ExpressionStatement 1 (Some 0) None ∷ n kinds.List 2 (Some 0) None ∷ n kinds.Starred 1 (Some 1) None ∷ n kinds.Name 0 (Some 2) (Some (97 ∷ [])) ∷ n kinds.Name 0 (Some 5) (Some (98 ∷ [])) ∷ [] } ∷
    -- {**a, b: c}
    record { line = at s.LeftBrace 0 (123 ∷ []) ∷ at s.DoubleStar 1 (42 ∷ 42 ∷ []) ∷ at s.Name 3 (97 ∷ []) ∷ at s.Comma 4 (44 ∷ []) ∷ at s.Name 6 (98 ∷ []) ∷ at s.Colon 7 (58 ∷ []) ∷ at s.Name 9 (99 ∷ []) ∷ at s.RightBrace 10 (125 ∷ []) ∷ []; nodes = n kinds.ExpressionStatement 1 (Some 0) None ∷ n kinds.Dict 2 (Some 0) None ∷ n kinds.DictUnpack 1 None None ∷ n kinds.Name 0 (Some 3) (Some (97 ∷ [])) ∷ n kinds.DictItem 2 None None ∷ n kinds.Name 0 (Some 6) (Some (98 ∷ [])) ∷ n kinds.Name 0 (Some 9) (Some (99 ∷ [])) ∷ [] } ∷
    -- {a := 1, *b}
    record { line = at s.LeftBrace 0 (123 ∷ []) ∷ at s.Name 1 (97 ∷ []) ∷ at s.Walrus 3 (58 ∷ 61 ∷ []) ∷ at s.Number 6 (49 ∷ []) ∷ at s.Comma 7 (44 ∷ []) ∷ at s.Star 9 (42 ∷ []) ∷ at s.Name 10 (98 ∷ []) ∷ at s.RightBrace 11 (125 ∷ []) ∷ []; nodes = n kinds.ExpressionStatement 1 (Some 0) None ∷ n kinds.Set 2 (Some 0) None ∷ n kinds.NamedExpression 1 (Some 1) (Some (97 ∷ [])) ∷ n kinds.NumberLiteral 0 (Some 6) (Some (49 ∷ [])) ∷ n kinds.Starred 1 (Some 9) None ∷ n kinds.Name 0 (Some 10) (Some (98 ∷ [])) ∷ [] } ∷
    -- {}
    record { line = at s.LeftBrace 0 (123 ∷ []) ∷ at s.RightBrace 1 (125 ∷ []) ∷ []; nodes = n kinds.ExpressionStatement 1 (Some 0) None ∷ n kinds.Dict 0 (Some 0) None ∷ [] } ∷
    -- {a: b for a, b in c if d if e for g in h}
    record { line = at s.LeftBrace 0 (123 ∷ []) ∷ at s.Name 1 (97 ∷ []) ∷ at s.Colon 2 (58 ∷ []) ∷ at s.Name 4 (98 ∷ []) ∷ at s.ForWord 6 (102 ∷ 111 ∷ 114 ∷ []) ∷ at s.Name 10 (97 ∷ []) ∷ at s.Comma 11 (44 ∷ []) ∷ at s.Name 13 (98 ∷ []) ∷ at s.InWord 15 (105 ∷ 110 ∷ []) ∷ at s.Name 18 (99 ∷ []) ∷ at s.IfWord 20 (105 ∷ 102 ∷ []) ∷ at s.Name 23 (100 ∷ []) ∷ at s.IfWord 25 (105 ∷ 102 ∷ []) ∷ at s.Name 28 (101 ∷ []) ∷ at s.ForWord 30 (102 ∷ 111 ∷ 114 ∷ []) ∷ at s.Name 34 (103 ∷ []) ∷ at s.InWord 36 (105 ∷ 110 ∷ []) ∷ at s.Name 39 (104 ∷ []) ∷ at s.RightBrace 40 (125 ∷ []) ∷ []; nodes = n kinds.ExpressionStatement 1 (Some 0) None ∷ n kinds.DictComprehension 3 (Some 0) None ∷ n kinds.DictItem 2 None None ∷ n kinds.Name 0 (Some 1) (Some (97 ∷ [])) ∷ n kinds.Name 0 (Some 4) (Some (98 ∷ [])) ∷ n kinds.ComprehensionFor 4 None None ∷ n kinds.TupleTarget 2 (Some 10) None ∷ n kinds.NameTarget 0 (Some 10) (Some (97 ∷ [])) ∷ n kinds.NameTarget 0 (Some 13) (Some (98 ∷ [])) ∷ n kinds.Name 0 (Some 18) (Some (99 ∷ [])) ∷ n kinds.Name 0 (Some 23) (Some (100 ∷ [])) ∷ n kinds.Name 0 (Some 28) (Some (101 ∷ [])) ∷ n kinds.ComprehensionFor 2 None None ∷ n kinds.NameTarget 0 (Some 34) (Some (103 ∷ [])) ∷ n kinds.Name 0 (Some 39) (Some (104 ∷ [])) ∷ [] } ∷
    -- [x async for x in y]
    record { line = at s.LeftBracket 0 (91 ∷ []) ∷ at s.Name 1 (120 ∷ []) ∷ at s.AsyncWord 3 (97 ∷ 115 ∷ 121 ∷ 110 ∷ 99 ∷ []) ∷ at s.ForWord 9 (102 ∷ 111 ∷ 114 ∷ []) ∷ at s.Name 13 (120 ∷ []) ∷ at s.InWord 15 (105 ∷ 110 ∷ []) ∷ at s.Name 18 (121 ∷ []) ∷ at s.RightBracket 19 (93 ∷ []) ∷ []; nodes = n kinds.ExpressionStatement 1 (Some 0) None ∷ n kinds.ListComprehension 2 (Some 0) None ∷ n kinds.Name 0 (Some 1) (Some (120 ∷ [])) ∷ n kinds.AsyncComprehensionFor 2 None None ∷ n kinds.NameTarget 0 (Some 13) (Some (120 ∷ [])) ∷ n kinds.Name 0 (Some 18) (Some (121 ∷ [])) ∷ [] } ∷
    -- {x for x in y}
    record { line = at s.LeftBrace 0 (123 ∷ []) ∷ at s.Name 1 (120 ∷ []) ∷ at s.ForWord 3 (102 ∷ 111 ∷ 114 ∷ []) ∷ at s.Name 7 (120 ∷ []) ∷ at s.InWord 9 (105 ∷ 110 ∷ []) ∷ at s.Name 12 (121 ∷ []) ∷ at s.RightBrace 13 (125 ∷ []) ∷ []; nodes = n kinds.ExpressionStatement 1 (Some 0) None ∷ n kinds.SetComprehension 2 (Some 0) None ∷ n kinds.Name 0 (Some 1) (Some (120 ∷ [])) ∷ n kinds.ComprehensionFor 2 None None ∷ n kinds.NameTarget 0 (Some 7) (Some (120 ∷ [])) ∷ n kinds.Name 0 (Some 12) (Some (121 ∷ [])) ∷ [] } ∷
    -- (yield)
    record { line = at s.LeftParen 0 (40 ∷ []) ∷ at s.YieldWord 1 (121 ∷ 105 ∷ 101 ∷ 108 ∷ 100 ∷ []) ∷ at s.RightParen 6 (41 ∷ []) ∷ []; nodes = n kinds.ExpressionStatement 1 (Some 0) None ∷ n kinds.Yield 0 (Some 1) None ∷ [] } ∷
    -- (yield a,)
    record { line = at s.LeftParen 0 (40 ∷ []) ∷ at s.YieldWord 1 (121 ∷ 105 ∷ 101 ∷ 108 ∷ 100 ∷ []) ∷ at s.Name 7 (97 ∷ []) ∷ at s.Comma 8 (44 ∷ []) ∷ at s.RightParen 9 (41 ∷ []) ∷ []; nodes = n kinds.ExpressionStatement 1 (Some 0) None ∷ n kinds.Yield 1 (Some 1) None ∷ n kinds.Tuple 1 (Some 7) None ∷ n kinds.Name 0 (Some 7) (Some (97 ∷ [])) ∷ [] } ∷
    -- ((yield a),)
    record { line = at s.LeftParen 0 (40 ∷ []) ∷ at s.LeftParen 1 (40 ∷ []) ∷ at s.YieldWord 2 (121 ∷ 105 ∷ 101 ∷ 108 ∷ 100 ∷ []) ∷ at s.Name 8 (97 ∷ []) ∷ at s.RightParen 9 (41 ∷ []) ∷ at s.Comma 10 (44 ∷ []) ∷ at s.RightParen 11 (41 ∷ []) ∷ []; nodes = n kinds.ExpressionStatement 1 (Some 0) None ∷ n kinds.Tuple 1 (Some 0) None ∷ n kinds.Yield 1 (Some 2) None ∷ n kinds.Name 0 (Some 8) (Some (97 ∷ [])) ∷ [] } ∷
    []

-- each line has the nodes that are said
rows_hold : map nodes_of_line rows ≡ map said rows
unfolding star_at named_at element_at sx_item_at sx_at yield_at target_item_at targets_at for_clause_at clause_at clauses_at more_elements_at parenthesized_at list_display_at item_or_named_at unpacked_at brace_entry_at more_entries_at brace_display_at starred_argument_at plain_argument_at argument_at arguments_at more_arguments_at call_arguments_at slice_rest_at slice_at slices_item_at slices_at trailer_at field_expression_at inner_field_at field_at string_part_at strings_at atom_at primary_at awaited_at power_at factor_at term_at arith_at shift_at bit_and_at bit_xor_at bit_or_at comparison_sign_at comparison_at not_at and_at or_at lambda_parameter_at lambda_parameters_at lambda_at test_at signed_number_at number_pattern_at literal_at dotted_name_at class_argument_at class_arguments_at name_pattern_at star_pattern_at sequence_item_at parenthesized_pattern_at bracketed_pattern_at mapping_item_at mapping_pattern_at closed_pattern_at or_pattern_at pattern_at open_patterns_at value_at assigned_value_at return_at raise_at declaration_at delete_at assert_at as_name_at module_name_at import_at imported_name_at imported_names_at source_at import_from_at keyword_statement_at value_statement_at statement_at statements_at parameter_annotation_at star_annotation_at parameter_at parameters_at for_header_at except_header_at except_star_header_at with_item_at plain_with_at parenthesized_with_at function_header_at class_header_at subject_at match_header_at case_header_at decorator_line_at reader_of phrase_at headed_at bare_at simple_at with_at async_line_at except_line_at line_by line_at
rows_hold = refl
