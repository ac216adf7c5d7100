-- Lines with the nodes that Python's own parser gives them, in preorder, computed from the readers of the definition: rows
-- that tools/grammar_trees.py writes.
use Rattle.std.specs.Prelude.{List, [], ◌∷◌, Some, None, map}
use Rattle.std.proofs.Common.{◌≡◌, refl}
use Rattle.tree_nodes.specs.declared.kind.Kind.TheVariants as kinds
use Rattle.py_grammar.specs.declared.symbol.Symbol.TheVariants as s
use Rattle.py_grammar.proofs.TryingTrees.{Row, at, n, nodes_of_line, said}
use Rattle.py_grammar.specs.Reading.{star_at, named_at, element_at, sx_item_at, sx_at, yield_at, target_item_at, targets_at, for_clause_at, clause_at, clauses_at, more_elements_at, parenthesized_at, list_display_at, item_or_named_at, unpacked_at, brace_entry_at, more_entries_at, brace_display_at, starred_argument_at, plain_argument_at, argument_at, arguments_at, more_arguments_at, call_arguments_at, slice_rest_at, slice_at, slices_item_at, slices_at, trailer_at, field_expression_at, inner_field_at, field_at, string_part_at, strings_at, atom_at, primary_at, awaited_at, power_at, factor_at, term_at, arith_at, shift_at, bit_and_at, bit_xor_at, bit_or_at, comparison_sign_at, comparison_at, not_at, and_at, or_at, lambda_parameter_at, lambda_parameters_at, lambda_at, test_at}
use Rattle.py_grammar.specs.ReadingPatterns.{signed_number_at, number_pattern_at, literal_at, dotted_name_at, class_argument_at, class_arguments_at, name_pattern_at, star_pattern_at, sequence_item_at, parenthesized_pattern_at, bracketed_pattern_at, mapping_item_at, mapping_pattern_at, closed_pattern_at, or_pattern_at, pattern_at, open_patterns_at}
use Rattle.py_grammar.specs.ReadingStatements.{value_at, assigned_value_at, return_at, raise_at, declaration_at, delete_at, assert_at, as_name_at, module_name_at, import_at, imported_name_at, imported_names_at, source_at, import_from_at, keyword_statement_at, value_statement_at, statement_at, statements_at}
use Rattle.py_grammar.specs.ReadingHeaders.{parameter_annotation_at, star_annotation_at, parameter_at, parameters_at, for_header_at, except_header_at, except_star_header_at, with_item_at, plain_with_at, parenthesized_with_at, function_header_at, class_header_at, subject_at, match_header_at, case_header_at, decorator_line_at}
use Rattle.py_grammar.specs.ReadingLines.{reader_of, phrase_at, headed_at, bare_at, simple_at, with_at, async_line_at, except_line_at, line_by, line_at}

abbrev rows : List Row
rows =
    -- with (x), y:
    record { line = at s.WithWord 0 (119 ∷ 105 ∷ 116 ∷ 104 ∷ []) ∷ at s.LeftParen 5 (40 ∷ []) ∷ at s.Name 6 (120 ∷ []) ∷ at s.RightParen 7 (41 ∷ []) ∷ at s.Comma 8 (44 ∷ []) ∷ at s.Name 10 (121 ∷ []) ∷ at s.Colon 11 (58 ∷ []) ∷ []; nodes = n kinds.WithItem 1 None None ∷ n kinds.Name 0 (Some 6) (Some (120 ∷ [])) ∷ n kinds.WithItem 1 None None ∷ n kinds.Name 0 (Some 10) (Some (121 ∷ [])) ∷ [] } ∷
    -- with (x) as y, (z) as w:
    record { line = at s.WithWord 0 (119 ∷ 105 ∷ 116 ∷ 104 ∷ []) ∷ at s.LeftParen 5 (40 ∷ []) ∷ at s.Name 6 (120 ∷ []) ∷ at s.RightParen 7 (41 ∷ []) ∷ at s.AsWord 9 (97 ∷ 115 ∷ []) ∷ at s.Name 12 (121 ∷ []) ∷ at s.Comma 13 (44 ∷ []) ∷ at s.LeftParen 15 (40 ∷ []) ∷ at s.Name 16 (122 ∷ []) ∷ at s.RightParen 17 (41 ∷ []) ∷ at s.AsWord 19 (97 ∷ 115 ∷ []) ∷ at s.Name 22 (119 ∷ []) ∷ at s.Colon 23 (58 ∷ []) ∷ []; nodes = n kinds.WithItem 2 None None ∷ n kinds.Name 0 (Some 6) (Some (120 ∷ [])) ∷ n kinds.NameTarget 0 (Some 12) (Some (121 ∷ [])) ∷ n kinds.WithItem 2 None None ∷ n kinds.Name 0 (Some 16) (Some (122 ∷ [])) ∷ n kinds.NameTarget 0 (Some 22) (Some (119 ∷ [])) ∷ [] } ∷
    -- with (x, y), z: a
    record { line = at s.WithWord 0 (119 ∷ 105 ∷ 116 ∷ 104 ∷ []) ∷ at s.LeftParen 5 (40 ∷ []) ∷ at s.Name 6 (120 ∷ []) ∷ at s.Comma 7 (44 ∷ []) ∷ at s.Name 9 (121 ∷ []) ∷ at s.RightParen 10 (41 ∷ []) ∷ at s.Comma 11 (44 ∷ []) ∷ at s.Name 13 (122 ∷ []) ∷ at s.Colon 14 (58 ∷ []) ∷ at s.Name 16 (97 ∷ []) ∷ []; nodes = n kinds.WithItem 1 None None ∷ n kinds.Tuple 2 (Some 5) None ∷ n kinds.Name 0 (Some 6) (Some (120 ∷ [])) ∷ n kinds.Name 0 (Some 9) (Some (121 ∷ [])) ∷ n kinds.WithItem 1 None None ∷ n kinds.Name 0 (Some 13) (Some (122 ∷ [])) ∷ n kinds.ExpressionStatement 1 (Some 16) None ∷ n kinds.Name 0 (Some 16) (Some (97 ∷ [])) ∷ [] } ∷
    -- with (yield): a
    record { line = at s.WithWord 0 (119 ∷ 105 ∷ 116 ∷ 104 ∷ []) ∷ at s.LeftParen 5 (40 ∷ []) ∷ at s.YieldWord 6 (121 ∷ 105 ∷ 101 ∷ 108 ∷ 100 ∷ []) ∷ at s.RightParen 11 (41 ∷ []) ∷ at s.Colon 12 (58 ∷ []) ∷ at s.Name 14 (97 ∷ []) ∷ []; nodes = n kinds.WithItem 1 None None ∷ n kinds.Yield 0 (Some 6) None ∷ n kinds.ExpressionStatement 1 (Some 14) None ∷ n kinds.Name 0 (Some 14) (Some (97 ∷ [])) ∷ [] } ∷
    -- with (x := 1): a
    record { line = at s.WithWord 0 (119 ∷ 105 ∷ 116 ∷ 104 ∷ []) ∷ at s.LeftParen 5 (40 ∷ []) ∷ at s.Name 6 (120 ∷ []) ∷ at s.Walrus 8 (58 ∷ 61 ∷ []) ∷ at s.Number 11 (49 ∷ []) ∷ at s.RightParen 12 (41 ∷ []) ∷ at s.Colon 13 (58 ∷ []) ∷ at s.Name 15 (97 ∷ []) ∷ []; nodes = n kinds.WithItem 1 None None ∷ n kinds.NamedExpression 1 (Some 6) (Some (120 ∷ [])) ∷ n kinds.NumberLiteral 0 (Some 11) (Some (49 ∷ [])) ∷ n kinds.ExpressionStatement 1 (Some 15) None ∷ n kinds.Name 0 (Some 15) (Some (97 ∷ [])) ∷ [] } ∷
    -- with (x for x in y): a
    record { line = at s.WithWord 0 (119 ∷ 105 ∷ 116 ∷ 104 ∷ []) ∷ at s.LeftParen 5 (40 ∷ []) ∷ at s.Name 6 (120 ∷ []) ∷ at s.ForWord 8 (102 ∷ 111 ∷ 114 ∷ []) ∷ at s.Name 12 (120 ∷ []) ∷ at s.InWord 14 (105 ∷ 110 ∷ []) ∷ at s.Name 17 (121 ∷ []) ∷ at s.RightParen 18 (41 ∷ []) ∷ at s.Colon 19 (58 ∷ []) ∷ at s.Name 21 (97 ∷ []) ∷ []; nodes = n kinds.WithItem 1 None None ∷ n kinds.GeneratorExpression 2 (Some 5) None ∷ n kinds.Name 0 (Some 6) (Some (120 ∷ [])) ∷ n kinds.ComprehensionFor 2 None None ∷ n kinds.NameTarget 0 (Some 12) (Some (120 ∷ [])) ∷ n kinds.Name 0 (Some 17) (Some (121 ∷ [])) ∷ n kinds.ExpressionStatement 1 (Some 21) None ∷ n kinds.Name 0 (Some 21) (Some (97 ∷ [])) ∷ [] } ∷
    -- with (x).y: a
    record { line = at s.WithWord 0 (119 ∷ 105 ∷ 116 ∷ 104 ∷ []) ∷ at s.LeftParen 5 (40 ∷ []) ∷ at s.Name 6 (120 ∷ []) ∷ at s.RightParen 7 (41 ∷ []) ∷ at s.Dot 8 (46 ∷ []) ∷ at s.Name 9 (121 ∷ []) ∷ at s.Colon 10 (58 ∷ []) ∷ at s.Name 12 (97 ∷ []) ∷ []; nodes = n kinds.WithItem 1 None None ∷ n kinds.Attribute 1 (Some 5) (Some (121 ∷ [])) ∷ n kinds.Name 0 (Some 6) (Some (120 ∷ [])) ∷ n kinds.ExpressionStatement 1 (Some 12) None ∷ n kinds.Name 0 (Some 12) (Some (97 ∷ [])) ∷ [] } ∷
    -- with x as [y, z]: a
    record { line = at s.WithWord 0 (119 ∷ 105 ∷ 116 ∷ 104 ∷ []) ∷ at s.Name 5 (120 ∷ []) ∷ at s.AsWord 7 (97 ∷ 115 ∷ []) ∷ at s.LeftBracket 10 (91 ∷ []) ∷ at s.Name 11 (121 ∷ []) ∷ at s.Comma 12 (44 ∷ []) ∷ at s.Name 14 (122 ∷ []) ∷ at s.RightBracket 15 (93 ∷ []) ∷ at s.Colon 16 (58 ∷ []) ∷ at s.Name 18 (97 ∷ []) ∷ []; nodes = n kinds.WithItem 2 None None ∷ n kinds.Name 0 (Some 5) (Some (120 ∷ [])) ∷ n kinds.ListTarget 2 (Some 10) None ∷ n kinds.NameTarget 0 (Some 11) (Some (121 ∷ [])) ∷ n kinds.NameTarget 0 (Some 14) (Some (122 ∷ [])) ∷ n kinds.ExpressionStatement 1 (Some 18) None ∷ n kinds.Name 0 (Some 18) (Some (97 ∷ [])) ∷ [] } ∷
    -- with (): a
    record { line = at s.WithWord 0 (119 ∷ 105 ∷ 116 ∷ 104 ∷ []) ∷ at s.LeftParen 5 (40 ∷ []) ∷ at s.RightParen 6 (41 ∷ []) ∷ at s.Colon 7 (58 ∷ []) ∷ at s.Name 9 (97 ∷ []) ∷ []; nodes = n kinds.WithItem 1 None None ∷ n kinds.Tuple 0 (Some 5) None ∷ n kinds.ExpressionStatement 1 (Some 9) None ∷ n kinds.Name 0 (Some 9) (Some (97 ∷ [])) ∷ [] } ∷
    -- with (*x, y): a
    record { line = at s.WithWord 0 (119 ∷ 105 ∷ 116 ∷ 104 ∷ []) ∷ at s.LeftParen 5 (40 ∷ []) ∷ at s.Star 6 (42 ∷ []) ∷ at s.Name 7 (120 ∷ []) ∷ at s.Comma 8 (44 ∷ []) ∷ at s.Name 10 (121 ∷ []) ∷ at s.RightParen 11 (41 ∷ []) ∷ at s.Colon 12 (58 ∷ []) ∷ at s.Name 14 (97 ∷ []) ∷ []; nodes = n kinds.WithItem 1 None None ∷ n kinds.Tuple 2 (Some 5) None ∷ n kinds.Starred 1 (Some 6) None ∷ n kinds.Name 0 (Some 7) (Some (120 ∷ [])) ∷ n kinds.Name 0 (Some 10) (Some (121 ∷ [])) ∷ n kinds.ExpressionStatement 1 (Some 14) None ∷ n kinds.Name 0 (Some 14) (Some (97 ∷ [])) ∷ [] } ∷
    -- def f():
    record { line = at s.DefWord 0 (100 ∷ 101 ∷ 102 ∷ []) ∷ at s.Name 4 (102 ∷ []) ∷ at s.LeftParen 5 (40 ∷ []) ∷ at s.RightParen 6 (41 ∷ []) ∷ at s.Colon 7 (58 ∷ []) ∷ []; nodes = [] } ∷
    -- def f(x): pass
    record { line = at s.DefWord 0 (100 ∷ 101 ∷ 102 ∷ []) ∷ at s.Name 4 (102 ∷ []) ∷ at s.LeftParen 5 (40 ∷ []) ∷ at s.Name 6 (120 ∷ []) ∷ at s.RightParen 7 (41 ∷ []) ∷ at s.Colon 8 (58 ∷ []) ∷ at s.PassWord 10 (112 ∷ 97 ∷ 115 ∷ 115 ∷ []) ∷ []; nodes = n kinds.Parameter 0 (Some 6) (Some (120 ∷ [])) ∷ n kinds.Pass 0 (Some 10) None ∷ [] } ∷
    -- def f(x, y=1, *z, k, w=2, **v): pass
    record { line = at s.DefWord 0 (100 ∷ 101 ∷ 102 ∷ []) ∷ at s.Name 4 (102 ∷ []) ∷ at s.LeftParen 5 (40 ∷ []) ∷ at s.Name 6 (120 ∷ []) ∷ at s.Comma 7 (44 ∷ []) ∷ at s.Name 9 (121 ∷ []) ∷ at s.Assign 10 (61 ∷ []) ∷ at s.Number 11 (49 ∷ []) ∷ at s.Comma 12 (44 ∷ []) ∷ at s.Star 14 (42 ∷ []) ∷ at s.Name 15 (122 ∷ []) ∷ at s.Comma 16 (44 ∷ []) ∷ at s.Name 18 (107 ∷ []) ∷ at s.Comma 19 (44 ∷ []) ∷ at s.Name 21 (119 ∷ []) ∷ at s.Assign 22 (61 ∷ []) ∷ at s.Number 23 (50 ∷ []) ∷ at s.Comma 24 (44 ∷ []) ∷ at s.DoubleStar 26 (42 ∷ 42 ∷ []) ∷ at s.Name 28 (118 ∷ []) ∷ at s.RightParen 29 (41 ∷ []) ∷ at s.Colon 30 (58 ∷ []) ∷ at s.PassWord 32 (112 ∷ 97 ∷ 115 ∷ 115 ∷ []) ∷ []; nodes = n kinds.Parameter 0 (Some 6) (Some (120 ∷ [])) ∷ n kinds.Parameter 1 (Some 9) (Some (121 ∷ [])) ∷ n kinds.NumberLiteral 0 (Some 11) (Some (49 ∷ [])) ∷ n kinds.StarParameter 0 None (Some (122 ∷ [])) ∷ n kinds.KeywordOnlyParameter 0 (Some 18) (Some (107 ∷ [])) ∷ n kinds.KeywordOnlyParameter 1 (Some 21) (Some (119 ∷ [])) ∷ n kinds.NumberLiteral 0 (Some 23) (Some (50 ∷ [])) ∷ n kinds.DoubleStarParameter 0 None (Some (118 ∷ [])) ∷ n kinds.Pass 0 (Some 32) None ∷ [] } ∷
    -- def f(x: int, y: int = 1, *z: int, k: int = 2, **v: int) -> int: pass
    record { line = at s.DefWord 0 (100 ∷ 101 ∷ 102 ∷ []) ∷ at s.Name 4 (102 ∷ []) ∷ at s.LeftParen 5 (40 ∷ []) ∷ at s.Name 6 (120 ∷ []) ∷ at s.Colon 7 (58 ∷ []) ∷ at s.Name 9 (105 ∷ 110 ∷ 116 ∷ []) ∷ at s.Comma 12 (44 ∷ []) ∷ at s.Name 14 (121 ∷ []) ∷ at s.Colon 15 (58 ∷ []) ∷ at s.Name 17 (105 ∷ 110 ∷ 116 ∷ []) ∷ at s.Assign 21 (61 ∷ []) ∷ at s.Number 23 (49 ∷ []) ∷ at s.Comma 24 (44 ∷ []) ∷ at s.Star 26 (42 ∷ []) ∷ at s.Name 27 (122 ∷ []) ∷ at s.Colon 28 (58 ∷ []) ∷ at s.Name 30 (105 ∷ 110 ∷ 116 ∷ []) ∷ at s.Comma 33 (44 ∷ []) ∷ at s.Name 35 (107 ∷ []) ∷ at s.Colon 36 (58 ∷ []) ∷ at s.Name 38 (105 ∷ 110 ∷ 116 ∷ []) ∷ at s.Assign 42 (61 ∷ []) ∷ at s.Number 44 (50 ∷ []) ∷ at s.Comma 45 (44 ∷ []) ∷ at s.DoubleStar 47 (42 ∷ 42 ∷ []) ∷ at s.Name 49 (118 ∷ []) ∷ at s.Colon 50 (58 ∷ []) ∷ at s.Name 52 (105 ∷ 110 ∷ 116 ∷ []) ∷ at s.RightParen 55 (41 ∷ []) ∷ at s.Arrow 57 (45 ∷ 62 ∷ []) ∷ at s.Name 60 (105 ∷ 110 ∷ 116 ∷ []) ∷ at s.Colon 63 (58 ∷ []) ∷ at s.PassWord 65 (112 ∷ 97 ∷ 115 ∷ 115 ∷ []) ∷ []; nodes = n kinds.Parameter 1 (Some 6) (Some (120 ∷ [])) ∷ n kinds.Annotation 1 None None ∷ n kinds.Name 0 (Some 9) (Some (105 ∷ 110 ∷ 116 ∷ [])) ∷ n kinds.Parameter 2 (Some 14) (Some (121 ∷ [])) ∷ n kinds.Annotation 1 None None ∷ n kinds.Name 0 (Some 17) (Some (105 ∷ 110 ∷ 116 ∷ [])) ∷ n kinds.NumberLiteral 0 (Some 23) (Some (49 ∷ [])) ∷ n kinds.StarParameter 1 None (Some (122 ∷ [])) ∷ n kinds.Annotation 1 None None ∷ n kinds.Name 0 (Some 30) (Some (105 ∷ 110 ∷ 116 ∷ [])) ∷ n kinds.KeywordOnlyParameter 2 (Some 35) (Some (107 ∷ [])) ∷ n kinds.Annotation 1 None None ∷ n kinds.Name 0 (Some 38) (Some (105 ∷ 110 ∷ 116 ∷ [])) ∷ n kinds.NumberLiteral 0 (Some 44) (Some (50 ∷ [])) ∷ n kinds.DoubleStarParameter 1 None (Some (118 ∷ [])) ∷ n kinds.Annotation 1 None None ∷ n kinds.Name 0 (Some 52) (Some (105 ∷ 110 ∷ 116 ∷ [])) ∷ n kinds.Annotation 1 None None ∷ n kinds.Name 0 (Some 60) (Some (105 ∷ 110 ∷ 116 ∷ [])) ∷ n kinds.Pass 0 (Some 65) None ∷ [] } ∷
    -- def f(*z: *int): pass
    record { line = at s.DefWord 0 (100 ∷ 101 ∷ 102 ∷ []) ∷ at s.Name 4 (102 ∷ []) ∷ at s.LeftParen 5 (40 ∷ []) ∷ at s.Star 6 (42 ∷ []) ∷ at s.Name 7 (122 ∷ []) ∷ at s.Colon 8 (58 ∷ []) ∷ at s.Star 10 (42 ∷ []) ∷ at s.Name 11 (105 ∷ 110 ∷ 116 ∷ []) ∷ at s.RightParen 14 (41 ∷ []) ∷ at s.Colon 15 (58 ∷ []) ∷ at s.PassWord 17 (112 ∷ 97 ∷ 115 ∷ 115 ∷ []) ∷ []; nodes = n kinds.StarParameter 1 None (Some (122 ∷ [])) ∷ n kinds.StarAnnotation 1 None None ∷ n kinds.Name 0 (Some 11) (Some (105 ∷ 110 ∷ 116 ∷ [])) ∷ n kinds.Pass 0 (Some 17) None ∷ [] } ∷
    -- def f(x, /, y): pass
    record { line = at s.DefWord 0 (100 ∷ 101 ∷ 102 ∷ []) ∷ at s.Name 4 (102 ∷ []) ∷ at s.LeftParen 5 (40 ∷ []) ∷ at s.Name 6 (120 ∷ []) ∷ at s.Comma 7 (44 ∷ []) ∷ at s.Slash 9 (47 ∷ []) ∷ at s.Comma 10 (44 ∷ []) ∷ at s.Name 12 (121 ∷ []) ∷ at s.RightParen 13 (41 ∷ []) ∷ at s.Colon 14 (58 ∷ []) ∷ at s.PassWord 16 (112 ∷ 97 ∷ 115 ∷ 115 ∷ []) ∷ []; nodes = n kinds.Parameter 0 (Some 6) (Some (120 ∷ [])) ∷ n kinds.PositionalOnlyMark 0 None None ∷ n kinds.Parameter 0 (Some 12) (Some (121 ∷ [])) ∷ n kinds.Pass 0 (Some 16) None ∷ [] } ∷
    -- def f(x, /): pass
    record { line = at s.DefWord 0 (100 ∷ 101 ∷ 102 ∷ []) ∷ at s.Name 4 (102 ∷ []) ∷ at s.LeftParen 5 (40 ∷ []) ∷ at s.Name 6 (120 ∷ []) ∷ at s.Comma 7 (44 ∷ []) ∷ at s.Slash 9 (47 ∷ []) ∷ at s.RightParen 10 (41 ∷ []) ∷ at s.Colon 11 (58 ∷ []) ∷ at s.PassWord 13 (112 ∷ 97 ∷ 115 ∷ 115 ∷ []) ∷ []; nodes = n kinds.Parameter 0 (Some 6) (Some (120 ∷ [])) ∷ n kinds.PositionalOnlyMark 0 None None ∷ n kinds.Pass 0 (Some 13) None ∷ [] } ∷
    -- def f(*, x): pass
    record { line = at s.DefWord 0 (100 ∷ 101 ∷ 102 ∷ []) ∷ at s.Name 4 (102 ∷ []) ∷ at s.LeftParen 5 (40 ∷ []) ∷ at s.Star 6 (42 ∷ []) ∷ at s.Comma 7 (44 ∷ []) ∷ at s.Name 9 (120 ∷ []) ∷ at s.RightParen 10 (41 ∷ []) ∷ at s.Colon 11 (58 ∷ []) ∷ at s.PassWord 13 (112 ∷ 97 ∷ 115 ∷ 115 ∷ []) ∷ []; nodes = n kinds.KeywordOnlyMark 0 None None ∷ n kinds.KeywordOnlyParameter 0 (Some 9) (Some (120 ∷ [])) ∷ n kinds.Pass 0 (Some 13) None ∷ [] } ∷
    -- def f(**k,): pass
    record { line = at s.DefWord 0 (100 ∷ 101 ∷ 102 ∷ []) ∷ at s.Name 4 (102 ∷ []) ∷ at s.LeftParen 5 (40 ∷ []) ∷ at s.DoubleStar 6 (42 ∷ 42 ∷ []) ∷ at s.Name 8 (107 ∷ []) ∷ at s.Comma 9 (44 ∷ []) ∷ at s.RightParen 10 (41 ∷ []) ∷ at s.Colon 11 (58 ∷ []) ∷ at s.PassWord 13 (112 ∷ 97 ∷ 115 ∷ 115 ∷ []) ∷ []; nodes = n kinds.DoubleStarParameter 0 None (Some (107 ∷ [])) ∷ n kinds.Pass 0 (Some 13) None ∷ [] } ∷
    -- def f(*x,): pass
    record { line = at s.DefWord 0 (100 ∷ 101 ∷ 102 ∷ []) ∷ at s.Name 4 (102 ∷ []) ∷ at s.LeftParen 5 (40 ∷ []) ∷ at s.Star 6 (42 ∷ []) ∷ at s.Name 7 (120 ∷ []) ∷ at s.Comma 8 (44 ∷ []) ∷ at s.RightParen 9 (41 ∷ []) ∷ at s.Colon 10 (58 ∷ []) ∷ at s.PassWord 12 (112 ∷ 97 ∷ 115 ∷ 115 ∷ []) ∷ []; nodes = n kinds.StarParameter 0 None (Some (120 ∷ [])) ∷ n kinds.Pass 0 (Some 12) None ∷ [] } ∷
    -- def f(x,): pass
    record { line = at s.DefWord 0 (100 ∷ 101 ∷ 102 ∷ []) ∷ at s.Name 4 (102 ∷ []) ∷ at s.LeftParen 5 (40 ∷ []) ∷ at s.Name 6 (120 ∷ []) ∷ at s.Comma 7 (44 ∷ []) ∷ at s.RightParen 8 (41 ∷ []) ∷ at s.Colon 9 (58 ∷ []) ∷ at s.PassWord 11 (112 ∷ 97 ∷ 115 ∷ 115 ∷ []) ∷ []; nodes = n kinds.Parameter 0 (Some 6) (Some (120 ∷ [])) ∷ n kinds.Pass 0 (Some 11) None ∷ [] } ∷
    -- def f(x, /,): pass
    record { line = at s.DefWord 0 (100 ∷ 101 ∷ 102 ∷ []) ∷ at s.Name 4 (102 ∷ []) ∷ at s.LeftParen 5 (40 ∷ []) ∷ at s.Name 6 (120 ∷ []) ∷ at s.Comma 7 (44 ∷ []) ∷ at s.Slash 9 (47 ∷ []) ∷ at s.Comma 10 (44 ∷ []) ∷ at s.RightParen 11 (41 ∷ []) ∷ at s.Colon 12 (58 ∷ []) ∷ at s.PassWord 14 (112 ∷ 97 ∷ 115 ∷ 115 ∷ []) ∷ []; nodes = n kinds.Parameter 0 (Some 6) (Some (120 ∷ [])) ∷ n kinds.PositionalOnlyMark 0 None None ∷ n kinds.Pass 0 (Some 14) None ∷ [] } ∷
    -- def f(x=1, *, y): pass
    record { line = at s.DefWord 0 (100 ∷ 101 ∷ 102 ∷ []) ∷ at s.Name 4 (102 ∷ []) ∷ at s.LeftParen 5 (40 ∷ []) ∷ at s.Name 6 (120 ∷ []) ∷ at s.Assign 7 (61 ∷ []) ∷ at s.Number 8 (49 ∷ []) ∷ at s.Comma 9 (44 ∷ []) ∷ at s.Star 11 (42 ∷ []) ∷ at s.Comma 12 (44 ∷ []) ∷ at s.Name 14 (121 ∷ []) ∷ at s.RightParen 15 (41 ∷ []) ∷ at s.Colon 16 (58 ∷ []) ∷ at s.PassWord 18 (112 ∷ 97 ∷ 115 ∷ 115 ∷ []) ∷ []; nodes = n kinds.Parameter 1 (Some 6) (Some (120 ∷ [])) ∷ n kinds.NumberLiteral 0 (Some 8) (Some (49 ∷ [])) ∷ n kinds.KeywordOnlyMark 0 None None ∷ n kinds.KeywordOnlyParameter 0 (Some 14) (Some (121 ∷ [])) ∷ n kinds.Pass 0 (Some 18) None ∷ [] } ∷
    -- def f(x=1, *y, z): pass
    record { line = at s.DefWord 0 (100 ∷ 101 ∷ 102 ∷ []) ∷ at s.Name 4 (102 ∷ []) ∷ at s.LeftParen 5 (40 ∷ []) ∷ at s.Name 6 (120 ∷ []) ∷ at s.Assign 7 (61 ∷ []) ∷ at s.Number 8 (49 ∷ []) ∷ at s.Comma 9 (44 ∷ []) ∷ at s.Star 11 (42 ∷ []) ∷ at s.Name 12 (121 ∷ []) ∷ at s.Comma 13 (44 ∷ []) ∷ at s.Name 15 (122 ∷ []) ∷ at s.RightParen 16 (41 ∷ []) ∷ at s.Colon 17 (58 ∷ []) ∷ at s.PassWord 19 (112 ∷ 97 ∷ 115 ∷ 115 ∷ []) ∷ []; nodes = n kinds.Parameter 1 (Some 6) (Some (120 ∷ [])) ∷ n kinds.NumberLiteral 0 (Some 8) (Some (49 ∷ [])) ∷ n kinds.StarParameter 0 None (Some (121 ∷ [])) ∷ n kinds.KeywordOnlyParameter 0 (Some 15) (Some (122 ∷ [])) ∷ n kinds.Pass 0 (Some 19) None ∷ [] } ∷
    -- def f(x) -> (a, b): pass
    record { line = at s.DefWord 0 (100 ∷ 101 ∷ 102 ∷ []) ∷ at s.Name 4 (102 ∷ []) ∷ at s.LeftParen 5 (40 ∷ []) ∷ at s.Name 6 (120 ∷ []) ∷ at s.RightParen 7 (41 ∷ []) ∷ at s.Arrow 9 (45 ∷ 62 ∷ []) ∷ at s.LeftParen 12 (40 ∷ []) ∷ at s.Name 13 (97 ∷ []) ∷ at s.Comma 14 (44 ∷ []) ∷ at s.Name 16 (98 ∷ []) ∷ at s.RightParen 17 (41 ∷ []) ∷ at s.Colon 18 (58 ∷ []) ∷ at s.PassWord 20 (112 ∷ 97 ∷ 115 ∷ 115 ∷ []) ∷ []; nodes = n kinds.Parameter 0 (Some 6) (Some (120 ∷ [])) ∷ n kinds.Annotation 1 None None ∷ n kinds.Tuple 2 (Some 12) None ∷ n kinds.Name 0 (Some 13) (Some (97 ∷ [])) ∷ n kinds.Name 0 (Some 16) (Some (98 ∷ [])) ∷ n kinds.Pass 0 (Some 20) None ∷ [] } ∷
    -- def f(x=(yield)): pass
    record { line = at s.DefWord 0 (100 ∷ 101 ∷ 102 ∷ []) ∷ at s.Name 4 (102 ∷ []) ∷ at s.LeftParen 5 (40 ∷ []) ∷ at s.Name 6 (120 ∷ []) ∷ at s.Assign 7 (61 ∷ []) ∷ at s.LeftParen 8 (40 ∷ []) ∷ at s.YieldWord 9 (121 ∷ 105 ∷ 101 ∷ 108 ∷ 100 ∷ []) ∷ at s.RightParen 14 (41 ∷ []) ∷ at s.RightParen 15 (41 ∷ []) ∷ at s.Colon 16 (58 ∷ []) ∷ at s.PassWord 18 (112 ∷ 97 ∷ 115 ∷ 115 ∷ []) ∷ []; nodes = n kinds.Parameter 1 (Some 6) (Some (120 ∷ [])) ∷ n kinds.Yield 0 (Some 9) None ∷ n kinds.Pass 0 (Some 18) None ∷ [] } ∷
    -- class A:
    record { line = at s.ClassWord 0 (99 ∷ 108 ∷ 97 ∷ 115 ∷ 115 ∷ []) ∷ at s.Name 6 (65 ∷ []) ∷ at s.Colon 7 (58 ∷ []) ∷ []; nodes = [] } ∷
    -- class A(): pass
    record { line = at s.ClassWord 0 (99 ∷ 108 ∷ 97 ∷ 115 ∷ 115 ∷ []) ∷ at s.Name 6 (65 ∷ []) ∷ at s.LeftParen 7 (40 ∷ []) ∷ at s.RightParen 8 (41 ∷ []) ∷ at s.Colon 9 (58 ∷ []) ∷ at s.PassWord 11 (112 ∷ 97 ∷ 115 ∷ 115 ∷ []) ∷ []; nodes = n kinds.Pass 0 (Some 11) None ∷ [] } ∷
    -- class A(B): pass
    record { line = at s.ClassWord 0 (99 ∷ 108 ∷ 97 ∷ 115 ∷ 115 ∷ []) ∷ at s.Name 6 (65 ∷ []) ∷ at s.LeftParen 7 (40 ∷ []) ∷ at s.Name 8 (66 ∷ []) ∷ at s.RightParen 9 (41 ∷ []) ∷ at s.Colon 10 (58 ∷ []) ∷ at s.PassWord 12 (112 ∷ 97 ∷ 115 ∷ 115 ∷ []) ∷ []; nodes = n kinds.Name 0 (Some 8) (Some (66 ∷ [])) ∷ n kinds.Pass 0 (Some 12) None ∷ [] } ∷
    -- class A(B, metaclass=C, *D, **E): pass
    record { line = at s.ClassWord 0 (99 ∷ 108 ∷ 97 ∷ 115 ∷ 115 ∷ []) ∷ at s.Name 6 (65 ∷ []) ∷ at s.LeftParen 7 (40 ∷ []) ∷ at s.Name 8 (66 ∷ []) ∷ at s.Comma 9 (44 ∷ []) ∷ at s.Name 11 (109 ∷ 101 ∷ 116 ∷ 97 ∷ 99 ∷ 108 ∷ 97 ∷ 115 ∷ 115 ∷ []) ∷ at s.Assign 20 (61 ∷ []) ∷ at s.Name 21 (67 ∷ []) ∷ at s.Comma 22 (44 ∷ []) ∷ at s.Star 24 (42 ∷ []) ∷ at s.Name 25 (68 ∷ []) ∷ at s.Comma 26 (44 ∷ []) ∷ at s.DoubleStar 28 (42 ∷ 42 ∷ []) ∷ at s.Name 30 (69 ∷ []) ∷ at s.RightParen 31 (41 ∷ []) ∷ at s.Colon 32 (58 ∷ []) ∷ at s.PassWord 34 (112 ∷ 97 ∷ 115 ∷ 115 ∷ []) ∷ []; nodes = n kinds.Name 0 (Some 8) (Some (66 ∷ [])) ∷ n kinds.KeywordArgument 1 (Some 11) (Some (109 ∷ 101 ∷ 116 ∷ 97 ∷ 99 ∷ 108 ∷ 97 ∷ 115 ∷ 115 ∷ [])) ∷ n kinds.Name 0 (Some 21) (Some (67 ∷ [])) ∷ n kinds.StarArgument 1 (Some 24) None ∷ n kinds.Name 0 (Some 25) (Some (68 ∷ [])) ∷ n kinds.DoubleStarArgument 1 (Some 28) None ∷ n kinds.Name 0 (Some 30) (Some (69 ∷ [])) ∷ n kinds.Pass 0 (Some 34) None ∷ [] } ∷
    -- async def f(): pass
    record { line = at s.AsyncWord 0 (97 ∷ 115 ∷ 121 ∷ 110 ∷ 99 ∷ []) ∷ at s.DefWord 6 (100 ∷ 101 ∷ 102 ∷ []) ∷ at s.Name 10 (102 ∷ []) ∷ at s.LeftParen 11 (40 ∷ []) ∷ at s.RightParen 12 (41 ∷ []) ∷ at s.Colon 13 (58 ∷ []) ∷ at s.PassWord 15 (112 ∷ 97 ∷ 115 ∷ 115 ∷ []) ∷ []; nodes = n kinds.Pass 0 (Some 15) None ∷ [] } ∷
    -- async for x in y: z
    record { line = at s.AsyncWord 0 (97 ∷ 115 ∷ 121 ∷ 110 ∷ 99 ∷ []) ∷ at s.ForWord 6 (102 ∷ 111 ∷ 114 ∷ []) ∷ at s.Name 10 (120 ∷ []) ∷ at s.InWord 12 (105 ∷ 110 ∷ []) ∷ at s.Name 15 (121 ∷ []) ∷ at s.Colon 16 (58 ∷ []) ∷ at s.Name 18 (122 ∷ []) ∷ []; nodes = n kinds.NameTarget 0 (Some 10) (Some (120 ∷ [])) ∷ n kinds.Name 0 (Some 15) (Some (121 ∷ [])) ∷ n kinds.ExpressionStatement 1 (Some 18) None ∷ n kinds.Name 0 (Some 18) (Some (122 ∷ [])) ∷ [] } ∷
    -- async with x as y: z
    record { line = at s.AsyncWord 0 (97 ∷ 115 ∷ 121 ∷ 110 ∷ 99 ∷ []) ∷ at s.WithWord 6 (119 ∷ 105 ∷ 116 ∷ 104 ∷ []) ∷ at s.Name 11 (120 ∷ []) ∷ at s.AsWord 13 (97 ∷ 115 ∷ []) ∷ at s.Name 16 (121 ∷ []) ∷ at s.Colon 17 (58 ∷ []) ∷ at s.Name 19 (122 ∷ []) ∷ []; nodes = n kinds.WithItem 2 None None ∷ n kinds.Name 0 (Some 11) (Some (120 ∷ [])) ∷ n kinds.NameTarget 0 (Some 16) (Some (121 ∷ [])) ∷ n kinds.ExpressionStatement 1 (Some 19) None ∷ n kinds.Name 0 (Some 19) (Some (122 ∷ [])) ∷ [] } ∷
    -- async with (x as y, z): a
    record { line = at s.AsyncWord 0 (97 ∷ 115 ∷ 121 ∷ 110 ∷ 99 ∷ []) ∷ at s.WithWord 6 (119 ∷ 105 ∷ 116 ∷ 104 ∷ []) ∷ at s.LeftParen 11 (40 ∷ []) ∷ at s.Name 12 (120 ∷ []) ∷ at s.AsWord 14 (97 ∷ 115 ∷ []) ∷ at s.Name 17 (121 ∷ []) ∷ at s.Comma 18 (44 ∷ []) ∷ at s.Name 20 (122 ∷ []) ∷ at s.RightParen 21 (41 ∷ []) ∷ at s.Colon 22 (58 ∷ []) ∷ at s.Name 24 (97 ∷ []) ∷ []; nodes = n kinds.WithItem 2 None None ∷ n kinds.Name 0 (Some 12) (Some (120 ∷ [])) ∷ n kinds.NameTarget 0 (Some 17) (Some (121 ∷ [])) ∷ n kinds.WithItem 1 None None ∷ n kinds.Name 0 (Some 20) (Some (122 ∷ [])) ∷ n kinds.ExpressionStatement 1 (Some 24) None ∷ n kinds.Name 0 (Some 24) (Some (97 ∷ [])) ∷ [] } ∷
    -- @x
    record { line = at s.AtSign 0 (64 ∷ []) ∷ at s.Name 1 (120 ∷ []) ∷ []; nodes = n kinds.Decorator 1 (Some 0) None ∷ n kinds.Name 0 (Some 1) (Some (120 ∷ [])) ∷ [] } ∷
    -- @x.y(1)
    record { line = at s.AtSign 0 (64 ∷ []) ∷ at s.Name 1 (120 ∷ []) ∷ at s.Dot 2 (46 ∷ []) ∷ at s.Name 3 (121 ∷ []) ∷ at s.LeftParen 4 (40 ∷ []) ∷ at s.Number 5 (49 ∷ []) ∷ at s.RightParen 6 (41 ∷ []) ∷ []; nodes = n kinds.Decorator 1 (Some 0) None ∷ n kinds.Call 2 (Some 1) None ∷ n kinds.Attribute 1 (Some 1) (Some (121 ∷ [])) ∷ n kinds.Name 0 (Some 1) (Some (120 ∷ [])) ∷ n kinds.NumberLiteral 0 (Some 5) (Some (49 ∷ [])) ∷ [] } ∷
    -- @x[0]
    record { line = at s.AtSign 0 (64 ∷ []) ∷ at s.Name 1 (120 ∷ []) ∷ at s.LeftBracket 2 (91 ∷ []) ∷ at s.Number 3 (48 ∷ []) ∷ at s.RightBracket 4 (93 ∷ []) ∷ []; nodes = n kinds.Decorator 1 (Some 0) None ∷ n kinds.Subscript 2 (Some 1) None ∷ n kinds.Name 0 (Some 1) (Some (120 ∷ [])) ∷ n kinds.NumberLiteral 0 (Some 3) (Some (48 ∷ [])) ∷ [] } ∷
    -- @x := 1
    record { line = at s.AtSign 0 (64 ∷ []) ∷ at s.Name 1 (120 ∷ []) ∷ at s.Walrus 3 (58 ∷ 61 ∷ []) ∷ at s.Number 6 (49 ∷ []) ∷ []; nodes = n kinds.Decorator 1 (Some 0) None ∷ n kinds.NamedExpression 1 (Some 1) (Some (120 ∷ [])) ∷ n kinds.NumberLiteral 0 (Some 6) (Some (49 ∷ [])) ∷ [] } ∷
    -- @(yield)
    record { line = at s.AtSign 0 (64 ∷ []) ∷ at s.LeftParen 1 (40 ∷ []) ∷ at s.YieldWord 2 (121 ∷ 105 ∷ 101 ∷ 108 ∷ 100 ∷ []) ∷ at s.RightParen 7 (41 ∷ []) ∷ []; nodes = n kinds.Decorator 1 (Some 0) None ∷ n kinds.Yield 0 (Some 2) None ∷ [] } ∷
    -- match x:
    record { line = at s.MatchWord 0 (109 ∷ 97 ∷ 116 ∷ 99 ∷ 104 ∷ []) ∷ at s.Name 6 (120 ∷ []) ∷ at s.Colon 7 (58 ∷ []) ∷ []; nodes = n kinds.Name 0 (Some 6) (Some (120 ∷ [])) ∷ [] } ∷
    []

-- each line has the nodes that are said
rows_hold : map nodes_of_line rows ≡ map said rows
unfolding star_at named_at element_at sx_item_at sx_at yield_at target_item_at targets_at for_clause_at clause_at clauses_at more_elements_at parenthesized_at list_display_at item_or_named_at unpacked_at brace_entry_at more_entries_at brace_display_at starred_argument_at plain_argument_at argument_at arguments_at more_arguments_at call_arguments_at slice_rest_at slice_at slices_item_at slices_at trailer_at field_expression_at inner_field_at field_at string_part_at strings_at atom_at primary_at awaited_at power_at factor_at term_at arith_at shift_at bit_and_at bit_xor_at bit_or_at comparison_sign_at comparison_at not_at and_at or_at lambda_parameter_at lambda_parameters_at lambda_at test_at signed_number_at number_pattern_at literal_at dotted_name_at class_argument_at class_arguments_at name_pattern_at star_pattern_at sequence_item_at parenthesized_pattern_at bracketed_pattern_at mapping_item_at mapping_pattern_at closed_pattern_at or_pattern_at pattern_at open_patterns_at value_at assigned_value_at return_at raise_at declaration_at delete_at assert_at as_name_at module_name_at import_at imported_name_at imported_names_at source_at import_from_at keyword_statement_at value_statement_at statement_at statements_at parameter_annotation_at star_annotation_at parameter_at parameters_at for_header_at except_header_at except_star_header_at with_item_at plain_with_at parenthesized_with_at function_header_at class_header_at subject_at match_header_at case_header_at decorator_line_at reader_of phrase_at headed_at bare_at simple_at with_at async_line_at except_line_at line_by line_at
rows_hold = refl
