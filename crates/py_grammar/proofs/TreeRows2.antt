-- Lines with the nodes that Python's own parser gives them, in preorder, computed from the readers of the definition: rows
-- that tools/grammar_trees.py writes.
use Rattle.std.specs.Prelude.{List, [], ◌∷◌, Some, None, map}
use Rattle.std.proofs.Common.{◌≡◌, refl}
use Rattle.tree_nodes.specs.declared.kind.Kind.TheVariants as kinds
use Rattle.py_grammar.specs.declared.symbol.Symbol.TheVariants as s
use Rattle.py_grammar.proofs.TryingTrees.{Row, at, n, nodes_of_line, said}
use Rattle.py_grammar.specs.Reading.{star_at, named_at, element_at, sx_item_at, sx_at, yield_at, target_item_at, targets_at, for_clause_at, clause_at, clauses_at, more_elements_at, parenthesized_at, list_display_at, item_or_named_at, unpacked_at, brace_entry_at, more_entries_at, brace_display_at, starred_argument_at, plain_argument_at, argument_at, arguments_at, more_arguments_at, call_arguments_at, slice_rest_at, slice_at, slices_item_at, slices_at, trailer_at, field_expression_at, inner_field_at, field_at, string_part_at, strings_at, atom_at, primary_at, awaited_at, power_at, factor_at, term_at, arith_at, shift_at, bit_and_at, bit_xor_at, bit_or_at, comparison_sign_at, comparison_at, not_at, and_at, or_at, lambda_parameter_at, lambda_parameters_at, lambda_at, test_at}
use Rattle.py_grammar.specs.ReadingPatterns.{signed_number_at, number_pattern_at, literal_at, dotted_name_at, class_argument_at, class_arguments_at, name_pattern_at, star_pattern_at, sequence_item_at, parenthesized_pattern_at, bracketed_pattern_at, mapping_item_at, mapping_pattern_at, closed_pattern_at, or_pattern_at, pattern_at, open_patterns_at}
use Rattle.py_grammar.specs.ReadingStatements.{value_at, assigned_value_at, return_at, raise_at, declaration_at, delete_at, assert_at, as_name_at, module_name_at, import_at, imported_name_at, imported_names_at, source_at, import_from_at, keyword_statement_at, value_statement_at, statement_at, statements_at}
use Rattle.py_grammar.specs.ReadingHeaders.{parameter_annotation_at, star_annotation_at, parameter_at, parameters_at, for_header_at, except_header_at, except_star_header_at, with_item_at, plain_with_at, parenthesized_with_at, function_header_at, class_header_at, subject_at, match_header_at, case_header_at, decorator_line_at}
use Rattle.py_grammar.specs.ReadingLines.{reader_of, phrase_at, headed_at, bare_at, simple_at, with_at, async_line_at, except_line_at, line_by, line_at}

abbrev rows : List Row
rows =
    -- x = (yield a, b)
    record { line = at s.Name 0 (120 ∷ []) ∷ at s.Assign 2 (61 ∷ []) ∷ at s.LeftParen 4 (40 ∷ []) ∷ at s.YieldWord 5 (121 ∷ 105 ∷ 101 ∷ 108 ∷ 100 ∷ []) ∷ at s.Name 11 (97 ∷ []) ∷ at s.Comma 12 (44 ∷ []) ∷ at s.Name 14 (98 ∷ []) ∷ at s.RightParen 15 (41 ∷ []) ∷ []; nodes = n kinds.Assign 2 (Some 0) None ∷ n kinds.NameTarget 0 (Some 0) (Some (120 ∷ [])) ∷ n kinds.Yield 1 (Some 5) None ∷ n kinds.Tuple 2 (Some 11) None ∷ n kinds.Name 0 (Some 11) (Some (97 ∷ [])) ∷ n kinds.Name 0 (Some 14) (Some (98 ∷ [])) ∷ [] } ∷
    -- yield from a
    record { line = at s.YieldWord 0 (121 ∷ 105 ∷ 101 ∷ 108 ∷ 100 ∷ []) ∷ at s.FromWord 6 (102 ∷ 114 ∷ 111 ∷ 109 ∷ []) ∷ at s.Name 11 (97 ∷ []) ∷ []; nodes = n kinds.ExpressionStatement 1 (Some 0) None ∷ n kinds.YieldFrom 1 (Some 0) None ∷ n kinds.Name 0 (Some 11) (Some (97 ∷ [])) ∷ [] } ∷
    -- x = y = yield *a, b
    record { line = at s.Name 0 (120 ∷ []) ∷ at s.Assign 2 (61 ∷ []) ∷ at s.Name 4 (121 ∷ []) ∷ at s.Assign 6 (61 ∷ []) ∷ at s.YieldWord 8 (121 ∷ 105 ∷ 101 ∷ 108 ∷ 100 ∷ []) ∷ at s.Star 14 (42 ∷ []) ∷ at s.Name 15 (97 ∷ []) ∷ at s.Comma 16 (44 ∷ []) ∷ at s.Name 18 (98 ∷ []) ∷ []; nodes = n kinds.Assign 3 (Some 0) None ∷ n kinds.NameTarget 0 (Some 0) (Some (120 ∷ [])) ∷ n kinds.NameTarget 0 (Some 4) (Some (121 ∷ [])) ∷ n kinds.Yield 1 (Some 8) None ∷ n kinds.Tuple 2 (Some 14) None ∷ n kinds.Starred 1 (Some 14) None ∷ n kinds.Name 0 (Some 15) (Some (97 ∷ [])) ∷ n kinds.Name 0 (Some 18) (Some (98 ∷ [])) ∷ [] } ∷
    -- (a, b), [c, *d], e.f = g[h]
    record { line = at s.LeftParen 0 (40 ∷ []) ∷ at s.Name 1 (97 ∷ []) ∷ at s.Comma 2 (44 ∷ []) ∷ at s.Name 4 (98 ∷ []) ∷ at s.RightParen 5 (41 ∷ []) ∷ at s.Comma 6 (44 ∷ []) ∷ at s.LeftBracket 8 (91 ∷ []) ∷ at s.Name 9 (99 ∷ []) ∷ at s.Comma 10 (44 ∷ []) ∷ at s.Star 12 (42 ∷ []) ∷ at s.Name 13 (100 ∷ []) ∷ at s.RightBracket 14 (93 ∷ []) ∷ at s.Comma 15 (44 ∷ []) ∷ at s.Name 17 (101 ∷ []) ∷ at s.Dot 18 (46 ∷ []) ∷ at s.Name 19 (102 ∷ []) ∷ at s.Assign 21 (61 ∷ []) ∷ at s.Name 23 (103 ∷ []) ∷ at s.LeftBracket 24 (91 ∷ []) ∷ at s.Name 25 (104 ∷ []) ∷ at s.RightBracket 26 (93 ∷ []) ∷ []; nodes = n kinds.Assign 2 (Some 0) None ∷ n kinds.TupleTarget 3 (Some 0) None ∷ n kinds.TupleTarget 2 (Some 0) None ∷ n kinds.NameTarget 0 (Some 1) (Some (97 ∷ [])) ∷ n kinds.NameTarget 0 (Some 4) (Some (98 ∷ [])) ∷ n kinds.ListTarget 2 (Some 8) None ∷ n kinds.NameTarget 0 (Some 9) (Some (99 ∷ [])) ∷ n kinds.StarredTarget 1 (Some 12) None ∷ n kinds.NameTarget 0 (Some 13) (Some (100 ∷ [])) ∷ n kinds.AttributeTarget 1 (Some 17) (Some (102 ∷ [])) ∷ n kinds.Name 0 (Some 17) (Some (101 ∷ [])) ∷ n kinds.Subscript 2 (Some 23) None ∷ n kinds.Name 0 (Some 23) (Some (103 ∷ [])) ∷ n kinds.Name 0 (Some 25) (Some (104 ∷ [])) ∷ [] } ∷
    -- (a) = b
    record { line = at s.LeftParen 0 (40 ∷ []) ∷ at s.Name 1 (97 ∷ []) ∷ at s.RightParen 2 (41 ∷ []) ∷ at s.Assign 4 (61 ∷ []) ∷ at s.Name 6 (98 ∷ []) ∷ []; nodes = n kinds.Assign 2 (Some 0) None ∷ n kinds.NameTarget 0 (Some 1) (Some (97 ∷ [])) ∷ n kinds.Name 0 (Some 6) (Some (98 ∷ [])) ∷ [] } ∷
    -- x: y = yield z
    record { line = at s.Name 0 (120 ∷ []) ∷ at s.Colon 1 (58 ∷ []) ∷ at s.Name 3 (121 ∷ []) ∷ at s.Assign 5 (61 ∷ []) ∷ at s.YieldWord 7 (121 ∷ 105 ∷ 101 ∷ 108 ∷ 100 ∷ []) ∷ at s.Name 13 (122 ∷ []) ∷ []; nodes = n kinds.AnnAssign 3 (Some 0) None ∷ n kinds.NameTarget 0 (Some 0) (Some (120 ∷ [])) ∷ n kinds.Annotation 1 None None ∷ n kinds.Name 0 (Some 3) (Some (121 ∷ [])) ∷ n kinds.Yield 1 (Some 7) None ∷ n kinds.Name 0 (Some 13) (Some (122 ∷ [])) ∷ [] } ∷
    -- (x): int
    record { line = at s.LeftParen 0 (40 ∷ []) ∷ at s.Name 1 (120 ∷ []) ∷ at s.RightParen 2 (41 ∷ []) ∷ at s.Colon 3 (58 ∷ []) ∷ at s.Name 5 (105 ∷ 110 ∷ 116 ∷ []) ∷ []; nodes = n kinds.AnnAssign 2 (Some 0) None ∷ n kinds.NameTarget 0 (Some 1) (Some (120 ∷ [])) ∷ n kinds.Annotation 1 None None ∷ n kinds.Name 0 (Some 5) (Some (105 ∷ 110 ∷ 116 ∷ [])) ∷ [] } ∷
    -- a.b: c
    record { line = at s.Name 0 (97 ∷ []) ∷ at s.Dot 1 (46 ∷ []) ∷ at s.Name 2 (98 ∷ []) ∷ at s.Colon 3 (58 ∷ []) ∷ at s.Name 5 (99 ∷ []) ∷ []; nodes = n kinds.AnnAssign 2 (Some 0) None ∷ n kinds.AttributeTarget 1 (Some 0) (Some (98 ∷ [])) ∷ n kinds.Name 0 (Some 0) (Some (97 ∷ [])) ∷ n kinds.Annotation 1 None None ∷ n kinds.Name 0 (Some 5) (Some (99 ∷ [])) ∷ [] } ∷
    -- x += yield
    record { line = at s.Name 0 (120 ∷ []) ∷ at s.PlusAssign 2 (43 ∷ 61 ∷ []) ∷ at s.YieldWord 5 (121 ∷ 105 ∷ 101 ∷ 108 ∷ 100 ∷ []) ∷ []; nodes = n kinds.AugAssign 3 (Some 0) None ∷ n kinds.NameTarget 0 (Some 0) (Some (120 ∷ [])) ∷ n kinds.Add 0 None None ∷ n kinds.Yield 0 (Some 5) None ∷ [] } ∷
    -- x **= a, b
    record { line = at s.Name 0 (120 ∷ []) ∷ at s.DoubleStarAssign 2 (42 ∷ 42 ∷ 61 ∷ []) ∷ at s.Name 6 (97 ∷ []) ∷ at s.Comma 7 (44 ∷ []) ∷ at s.Name 9 (98 ∷ []) ∷ []; nodes = n kinds.AugAssign 3 (Some 0) None ∷ n kinds.NameTarget 0 (Some 0) (Some (120 ∷ [])) ∷ n kinds.Exponentiate 0 None None ∷ n kinds.Tuple 2 (Some 6) None ∷ n kinds.Name 0 (Some 6) (Some (97 ∷ [])) ∷ n kinds.Name 0 (Some 9) (Some (98 ∷ [])) ∷ [] } ∷
    -- x |= a
    record { line = at s.Name 0 (120 ∷ []) ∷ at s.BarAssign 2 (124 ∷ 61 ∷ []) ∷ at s.Name 5 (97 ∷ []) ∷ []; nodes = n kinds.AugAssign 3 (Some 0) None ∷ n kinds.NameTarget 0 (Some 0) (Some (120 ∷ [])) ∷ n kinds.BitOr 0 None None ∷ n kinds.Name 0 (Some 5) (Some (97 ∷ [])) ∷ [] } ∷
    -- x >>= a
    record { line = at s.Name 0 (120 ∷ []) ∷ at s.RightShiftAssign 2 (62 ∷ 62 ∷ 61 ∷ []) ∷ at s.Name 6 (97 ∷ []) ∷ []; nodes = n kinds.AugAssign 3 (Some 0) None ∷ n kinds.NameTarget 0 (Some 0) (Some (120 ∷ [])) ∷ n kinds.RightShift 0 None None ∷ n kinds.Name 0 (Some 6) (Some (97 ∷ [])) ∷ [] } ∷
    -- lambda a, b=1, /, c=2, *d, e, f=3, **g: a
    record { line = at s.LambdaWord 0 (108 ∷ 97 ∷ 109 ∷ 98 ∷ 100 ∷ 97 ∷ []) ∷ at s.Name 7 (97 ∷ []) ∷ at s.Comma 8 (44 ∷ []) ∷ at s.Name 10 (98 ∷ []) ∷ at s.Assign 11 (61 ∷ []) ∷ at s.Number 12 (49 ∷ []) ∷ at s.Comma 13 (44 ∷ []) ∷ at s.Slash 15 (47 ∷ []) ∷ at s.Comma 16 (44 ∷ []) ∷ at s.Name 18 (99 ∷ []) ∷ at s.Assign 19 (61 ∷ []) ∷ at s.Number 20 (50 ∷ []) ∷ at s.Comma 21 (44 ∷ []) ∷ at s.Star 23 (42 ∷ []) ∷ at s.Name 24 (100 ∷ []) ∷ at s.Comma 25 (44 ∷ []) ∷ at s.Name 27 (101 ∷ []) ∷ at s.Comma 28 (44 ∷ []) ∷ at s.Name 30 (102 ∷ []) ∷ at s.Assign 31 (61 ∷ []) ∷ at s.Number 32 (51 ∷ []) ∷ at s.Comma 33 (44 ∷ []) ∷ at s.DoubleStar 35 (42 ∷ 42 ∷ []) ∷ at s.Name 37 (103 ∷ []) ∷ at s.Colon 38 (58 ∷ []) ∷ at s.Name 40 (97 ∷ []) ∷ []; nodes = n kinds.ExpressionStatement 1 (Some 0) None ∷ n kinds.Lambda 9 (Some 0) None ∷ n kinds.Parameter 0 (Some 7) (Some (97 ∷ [])) ∷ n kinds.Parameter 1 (Some 10) (Some (98 ∷ [])) ∷ n kinds.NumberLiteral 0 (Some 12) (Some (49 ∷ [])) ∷ n kinds.PositionalOnlyMark 0 None None ∷ n kinds.Parameter 1 (Some 18) (Some (99 ∷ [])) ∷ n kinds.NumberLiteral 0 (Some 20) (Some (50 ∷ [])) ∷ n kinds.StarParameter 0 None (Some (100 ∷ [])) ∷ n kinds.KeywordOnlyParameter 0 (Some 27) (Some (101 ∷ [])) ∷ n kinds.KeywordOnlyParameter 1 (Some 30) (Some (102 ∷ [])) ∷ n kinds.NumberLiteral 0 (Some 32) (Some (51 ∷ [])) ∷ n kinds.DoubleStarParameter 0 None (Some (103 ∷ [])) ∷ n kinds.Name 0 (Some 40) (Some (97 ∷ [])) ∷ [] } ∷
    -- lambda *, a: a
    record { line = at s.LambdaWord 0 (108 ∷ 97 ∷ 109 ∷ 98 ∷ 100 ∷ 97 ∷ []) ∷ at s.Star 7 (42 ∷ []) ∷ at s.Comma 8 (44 ∷ []) ∷ at s.Name 10 (97 ∷ []) ∷ at s.Colon 11 (58 ∷ []) ∷ at s.Name 13 (97 ∷ []) ∷ []; nodes = n kinds.ExpressionStatement 1 (Some 0) None ∷ n kinds.Lambda 3 (Some 0) None ∷ n kinds.KeywordOnlyMark 0 None None ∷ n kinds.KeywordOnlyParameter 0 (Some 10) (Some (97 ∷ [])) ∷ n kinds.Name 0 (Some 13) (Some (97 ∷ [])) ∷ [] } ∷
    -- lambda: (yield)
    record { line = at s.LambdaWord 0 (108 ∷ 97 ∷ 109 ∷ 98 ∷ 100 ∷ 97 ∷ []) ∷ at s.Colon 6 (58 ∷ []) ∷ at s.LeftParen 8 (40 ∷ []) ∷ at s.YieldWord 9 (121 ∷ 105 ∷ 101 ∷ 108 ∷ 100 ∷ []) ∷ at s.RightParen 14 (41 ∷ []) ∷ []; nodes = n kinds.ExpressionStatement 1 (Some 0) None ∷ n kinds.Lambda 1 (Some 0) None ∷ n kinds.Yield 0 (Some 9) None ∷ [] } ∷
    -- "a" 'b'
    record { line = at s.Str 0 (34 ∷ 97 ∷ 34 ∷ []) ∷ at s.Str 4 (39 ∷ 98 ∷ 39 ∷ []) ∷ []; nodes = n kinds.ExpressionStatement 1 (Some 0) None ∷ n kinds.StringLiteral 0 (Some 0) (Some (34 ∷ 97 ∷ 34 ∷ 32 ∷ 39 ∷ 98 ∷ 39 ∷ [])) ∷ [] } ∷
    -- b"a" b"b"
    record { line = at s.Bytes 0 (98 ∷ 34 ∷ 97 ∷ 34 ∷ []) ∷ at s.Bytes 5 (98 ∷ 34 ∷ 98 ∷ 34 ∷ []) ∷ []; nodes = n kinds.ExpressionStatement 1 (Some 0) None ∷ n kinds.BytesLiteral 0 (Some 0) (Some (98 ∷ 34 ∷ 97 ∷ 34 ∷ 32 ∷ 98 ∷ 34 ∷ 98 ∷ 34 ∷ [])) ∷ [] } ∷
    -- 1 + 2j, None, True, False, ...
    record { line = at s.Number 0 (49 ∷ []) ∷ at s.Plus 2 (43 ∷ []) ∷ at s.Number 4 (50 ∷ 106 ∷ []) ∷ at s.Comma 6 (44 ∷ []) ∷ at s.NoneWord 8 (78 ∷ 111 ∷ 110 ∷ 101 ∷ []) ∷ at s.Comma 12 (44 ∷ []) ∷ at s.TrueWord 14 (84 ∷ 114 ∷ 117 ∷ 101 ∷ []) ∷ at s.Comma 18 (44 ∷ []) ∷ at s.FalseWord 20 (70 ∷ 97 ∷ 108 ∷ 115 ∷ 101 ∷ []) ∷ at s.Comma 25 (44 ∷ []) ∷ at s.Ellipsis 27 (46 ∷ 46 ∷ 46 ∷ []) ∷ []; nodes = n kinds.ExpressionStatement 1 (Some 0) None ∷ n kinds.Tuple 5 (Some 0) None ∷ n kinds.Sum 3 (Some 0) None ∷ n kinds.NumberLiteral 0 (Some 0) (Some (49 ∷ [])) ∷ n kinds.Add 0 None None ∷ n kinds.NumberLiteral 0 (Some 4) (Some (50 ∷ 106 ∷ [])) ∷ n kinds.NoneLiteral 0 (Some 8) None ∷ n kinds.TrueLiteral 0 (Some 14) None ∷ n kinds.FalseLiteral 0 (Some 20) None ∷ n kinds.EllipsisLiteral 0 (Some 27) None ∷ [] } ∷
    -- pass; break; continue;
    record { line = at s.PassWord 0 (112 ∷ 97 ∷ 115 ∷ 115 ∷ []) ∷ at s.Semicolon 4 (59 ∷ []) ∷ at s.BreakWord 6 (98 ∷ 114 ∷ 101 ∷ 97 ∷ 107 ∷ []) ∷ at s.Semicolon 11 (59 ∷ []) ∷ at s.ContinueWord 13 (99 ∷ 111 ∷ 110 ∷ 116 ∷ 105 ∷ 110 ∷ 117 ∷ 101 ∷ []) ∷ at s.Semicolon 21 (59 ∷ []) ∷ []; nodes = n kinds.Pass 0 (Some 0) None ∷ n kinds.Break 0 (Some 6) None ∷ n kinds.Continue 0 (Some 13) None ∷ [] } ∷
    -- return a, *b
    record { line = at s.ReturnWord 0 (114 ∷ 101 ∷ 116 ∷ 117 ∷ 114 ∷ 110 ∷ []) ∷ at s.Name 7 (97 ∷ []) ∷ at s.Comma 8 (44 ∷ []) ∷ at s.Star 10 (42 ∷ []) ∷ at s.Name 11 (98 ∷ []) ∷ []; nodes = n kinds.Return 1 (Some 0) None ∷ n kinds.Tuple 2 (Some 7) None ∷ n kinds.Name 0 (Some 7) (Some (97 ∷ [])) ∷ n kinds.Starred 1 (Some 10) None ∷ n kinds.Name 0 (Some 11) (Some (98 ∷ [])) ∷ [] } ∷
    -- raise a from b
    record { line = at s.RaiseWord 0 (114 ∷ 97 ∷ 105 ∷ 115 ∷ 101 ∷ []) ∷ at s.Name 6 (97 ∷ []) ∷ at s.FromWord 8 (102 ∷ 114 ∷ 111 ∷ 109 ∷ []) ∷ at s.Name 13 (98 ∷ []) ∷ []; nodes = n kinds.Raise 2 (Some 0) None ∷ n kinds.Name 0 (Some 6) (Some (97 ∷ [])) ∷ n kinds.Name 0 (Some 13) (Some (98 ∷ [])) ∷ [] } ∷
    -- global a, b
    record { line = at s.GlobalWord 0 (103 ∷ 108 ∷ 111 ∷ 98 ∷ 97 ∷ 108 ∷ []) ∷ at s.Name 7 (97 ∷ []) ∷ at s.Comma 8 (44 ∷ []) ∷ at s.Name 10 (98 ∷ []) ∷ []; nodes = n kinds.Global 2 (Some 0) None ∷ n kinds.DeclaredName 0 None (Some (97 ∷ [])) ∷ n kinds.DeclaredName 0 None (Some (98 ∷ [])) ∷ [] } ∷
    -- nonlocal a
    record { line = at s.NonlocalWord 0 (110 ∷ 111 ∷ 110 ∷ 108 ∷ 111 ∷ 99 ∷ 97 ∷ 108 ∷ []) ∷ at s.Name 9 (97 ∷ []) ∷ []; nodes = n kinds.Nonlocal 1 (Some 0) None ∷ n kinds.DeclaredName 0 None (Some (97 ∷ [])) ∷ [] } ∷
    -- del a, (b, c), [d], e.f, g[h]
    record { line = at s.DelWord 0 (100 ∷ 101 ∷ 108 ∷ []) ∷ at s.Name 4 (97 ∷ []) ∷ at s.Comma 5 (44 ∷ []) ∷ at s.LeftParen 7 (40 ∷ []) ∷ at s.Name 8 (98 ∷ []) ∷ at s.Comma 9 (44 ∷ []) ∷ at s.Name 11 (99 ∷ []) ∷ at s.RightParen 12 (41 ∷ []) ∷ at s.Comma 13 (44 ∷ []) ∷ at s.LeftBracket 15 (91 ∷ []) ∷ at s.Name 16 (100 ∷ []) ∷ at s.RightBracket 17 (93 ∷ []) ∷ at s.Comma 18 (44 ∷ []) ∷ at s.Name 20 (101 ∷ []) ∷ at s.Dot 21 (46 ∷ []) ∷ at s.Name 22 (102 ∷ []) ∷ at s.Comma 23 (44 ∷ []) ∷ at s.Name 25 (103 ∷ []) ∷ at s.LeftBracket 26 (91 ∷ []) ∷ at s.Name 27 (104 ∷ []) ∷ at s.RightBracket 28 (93 ∷ []) ∷ []; nodes = n kinds.Delete 5 (Some 0) None ∷ n kinds.NameTarget 0 (Some 4) (Some (97 ∷ [])) ∷ n kinds.TupleTarget 2 (Some 7) None ∷ n kinds.NameTarget 0 (Some 8) (Some (98 ∷ [])) ∷ n kinds.NameTarget 0 (Some 11) (Some (99 ∷ [])) ∷ n kinds.ListTarget 1 (Some 15) None ∷ n kinds.NameTarget 0 (Some 16) (Some (100 ∷ [])) ∷ n kinds.AttributeTarget 1 (Some 20) (Some (102 ∷ [])) ∷ n kinds.Name 0 (Some 20) (Some (101 ∷ [])) ∷ n kinds.SubscriptTarget 2 (Some 25) None ∷ n kinds.Name 0 (Some 25) (Some (103 ∷ [])) ∷ n kinds.Name 0 (Some 27) (Some (104 ∷ [])) ∷ [] } ∷
    -- assert a, b
    record { line = at s.AssertWord 0 (97 ∷ 115 ∷ 115 ∷ 101 ∷ 114 ∷ 116 ∷ []) ∷ at s.Name 7 (97 ∷ []) ∷ at s.Comma 8 (44 ∷ []) ∷ at s.Name 10 (98 ∷ []) ∷ []; nodes = n kinds.Assert 2 (Some 0) None ∷ n kinds.Name 0 (Some 7) (Some (97 ∷ [])) ∷ n kinds.Name 0 (Some 10) (Some (98 ∷ [])) ∷ [] } ∷
    -- import a.b as c, d
    record { line = at s.ImportWord 0 (105 ∷ 109 ∷ 112 ∷ 111 ∷ 114 ∷ 116 ∷ []) ∷ at s.Name 7 (97 ∷ []) ∷ at s.Dot 8 (46 ∷ []) ∷ at s.Name 9 (98 ∷ []) ∷ at s.AsWord 11 (97 ∷ 115 ∷ []) ∷ at s.Name 14 (99 ∷ []) ∷ at s.Comma 15 (44 ∷ []) ∷ at s.Name 17 (100 ∷ []) ∷ []; nodes = n kinds.Import 2 (Some 0) None ∷ n kinds.Alias 1 (Some 7) (Some (97 ∷ 46 ∷ 98 ∷ [])) ∷ n kinds.AsName 0 None (Some (99 ∷ [])) ∷ n kinds.Alias 0 (Some 17) (Some (100 ∷ [])) ∷ [] } ∷
    -- from ..a.b import (c as d, e,)
    record { line = at s.FromWord 0 (102 ∷ 114 ∷ 111 ∷ 109 ∷ []) ∷ at s.Dot 5 (46 ∷ []) ∷ at s.Dot 6 (46 ∷ []) ∷ at s.Name 7 (97 ∷ []) ∷ at s.Dot 8 (46 ∷ []) ∷ at s.Name 9 (98 ∷ []) ∷ at s.ImportWord 11 (105 ∷ 109 ∷ 112 ∷ 111 ∷ 114 ∷ 116 ∷ []) ∷ at s.LeftParen 18 (40 ∷ []) ∷ at s.Name 19 (99 ∷ []) ∷ at s.AsWord 21 (97 ∷ 115 ∷ []) ∷ at s.Name 24 (100 ∷ []) ∷ at s.Comma 25 (44 ∷ []) ∷ at s.Name 27 (101 ∷ []) ∷ at s.Comma 28 (44 ∷ []) ∷ at s.RightParen 29 (41 ∷ []) ∷ []; nodes = n kinds.ImportFrom 2 (Some 0) (Some (46 ∷ 46 ∷ 97 ∷ 46 ∷ 98 ∷ [])) ∷ n kinds.Alias 1 (Some 19) (Some (99 ∷ [])) ∷ n kinds.AsName 0 None (Some (100 ∷ [])) ∷ n kinds.Alias 0 (Some 27) (Some (101 ∷ [])) ∷ [] } ∷
    -- from ... import *
    record { line = at s.FromWord 0 (102 ∷ 114 ∷ 111 ∷ 109 ∷ []) ∷ at s.Ellipsis 5 (46 ∷ 46 ∷ 46 ∷ []) ∷ at s.ImportWord 9 (105 ∷ 109 ∷ 112 ∷ 111 ∷ 114 ∷ 116 ∷ []) ∷ at s.Star 16 (42 ∷ []) ∷ []; nodes = n kinds.ImportFrom 1 (Some 0) (Some (46 ∷ 46 ∷ 46 ∷ [])) ∷ n kinds.ImportWildcard 0 (Some 16) None ∷ [] } ∷
    -- from .a import b
    record { line = at s.FromWord 0 (102 ∷ 114 ∷ 111 ∷ 109 ∷ []) ∷ at s.Dot 5 (46 ∷ []) ∷ at s.Name 6 (97 ∷ []) ∷ at s.ImportWord 8 (105 ∷ 109 ∷ 112 ∷ 111 ∷ 114 ∷ 116 ∷ []) ∷ at s.Name 15 (98 ∷ []) ∷ []; nodes = n kinds.ImportFrom 1 (Some 0) (Some (46 ∷ 97 ∷ [])) ∷ n kinds.Alias 0 (Some 15) (Some (98 ∷ [])) ∷ [] } ∷
    -- @a.b(c)
    record { line = at s.AtSign 0 (64 ∷ []) ∷ at s.Name 1 (97 ∷ []) ∷ at s.Dot 2 (46 ∷ []) ∷ at s.Name 3 (98 ∷ []) ∷ at s.LeftParen 4 (40 ∷ []) ∷ at s.Name 5 (99 ∷ []) ∷ at s.RightParen 6 (41 ∷ []) ∷ []; nodes = n kinds.Decorator 1 (Some 0) None ∷ n kinds.Call 2 (Some 1) None ∷ n kinds.Attribute 1 (Some 1) (Some (98 ∷ [])) ∷ n kinds.Name 0 (Some 1) (Some (97 ∷ [])) ∷ n kinds.Name 0 (Some 5) (Some (99 ∷ [])) ∷ [] } ∷
    -- @a[b]
    record { line = at s.AtSign 0 (64 ∷ []) ∷ at s.Name 1 (97 ∷ []) ∷ at s.LeftBracket 2 (91 ∷ []) ∷ at s.Name 3 (98 ∷ []) ∷ at s.RightBracket 4 (93 ∷ []) ∷ []; nodes = n kinds.Decorator 1 (Some 0) None ∷ n kinds.Subscript 2 (Some 1) None ∷ n kinds.Name 0 (Some 1) (Some (97 ∷ [])) ∷ n kinds.Name 0 (Some 3) (Some (98 ∷ [])) ∷ [] } ∷
    -- if a := b: pass
    record { line = at s.IfWord 0 (105 ∷ 102 ∷ []) ∷ at s.Name 3 (97 ∷ []) ∷ at s.Walrus 5 (58 ∷ 61 ∷ []) ∷ at s.Name 8 (98 ∷ []) ∷ at s.Colon 9 (58 ∷ []) ∷ at s.PassWord 11 (112 ∷ 97 ∷ 115 ∷ 115 ∷ []) ∷ []; nodes = n kinds.NamedExpression 1 (Some 3) (Some (97 ∷ [])) ∷ n kinds.Name 0 (Some 8) (Some (98 ∷ [])) ∷ n kinds.Pass 0 (Some 11) None ∷ [] } ∷
    -- elif (a): b; c
    record { line = at s.ElifWord 0 (101 ∷ 108 ∷ 105 ∷ 102 ∷ []) ∷ at s.LeftParen 5 (40 ∷ []) ∷ at s.Name 6 (97 ∷ []) ∷ at s.RightParen 7 (41 ∷ []) ∷ at s.Colon 8 (58 ∷ []) ∷ at s.Name 10 (98 ∷ []) ∷ at s.Semicolon 11 (59 ∷ []) ∷ at s.Name 13 (99 ∷ []) ∷ []; nodes = n kinds.Name 0 (Some 6) (Some (97 ∷ [])) ∷ n kinds.ExpressionStatement 1 (Some 10) None ∷ n kinds.Name 0 (Some 10) (Some (98 ∷ [])) ∷ n kinds.ExpressionStatement 1 (Some 13) None ∷ n kinds.Name 0 (Some 13) (Some (99 ∷ [])) ∷ [] } ∷
    -- else: a
    record { line = at s.ElseWord 0 (101 ∷ 108 ∷ 115 ∷ 101 ∷ []) ∷ at s.Colon 4 (58 ∷ []) ∷ at s.Name 6 (97 ∷ []) ∷ []; nodes = n kinds.ExpressionStatement 1 (Some 6) None ∷ n kinds.Name 0 (Some 6) (Some (97 ∷ [])) ∷ [] } ∷
    -- while a: pass
    record { line = at s.WhileWord 0 (119 ∷ 104 ∷ 105 ∷ 108 ∷ 101 ∷ []) ∷ at s.Name 6 (97 ∷ []) ∷ at s.Colon 7 (58 ∷ []) ∷ at s.PassWord 9 (112 ∷ 97 ∷ 115 ∷ 115 ∷ []) ∷ []; nodes = n kinds.Name 0 (Some 6) (Some (97 ∷ [])) ∷ n kinds.Pass 0 (Some 9) None ∷ [] } ∷
    -- for a, (b, c), *d in e, f: pass
    record { line = at s.ForWord 0 (102 ∷ 111 ∷ 114 ∷ []) ∷ at s.Name 4 (97 ∷ []) ∷ at s.Comma 5 (44 ∷ []) ∷ at s.LeftParen 7 (40 ∷ []) ∷ at s.Name 8 (98 ∷ []) ∷ at s.Comma 9 (44 ∷ []) ∷ at s.Name 11 (99 ∷ []) ∷ at s.RightParen 12 (41 ∷ []) ∷ at s.Comma 13 (44 ∷ []) ∷ at s.Star 15 (42 ∷ []) ∷ at s.Name 16 (100 ∷ []) ∷ at s.InWord 18 (105 ∷ 110 ∷ []) ∷ at s.Name 21 (101 ∷ []) ∷ at s.Comma 22 (44 ∷ []) ∷ at s.Name 24 (102 ∷ []) ∷ at s.Colon 25 (58 ∷ []) ∷ at s.PassWord 27 (112 ∷ 97 ∷ 115 ∷ 115 ∷ []) ∷ []; nodes = n kinds.TupleTarget 3 (Some 4) None ∷ n kinds.NameTarget 0 (Some 4) (Some (97 ∷ [])) ∷ n kinds.TupleTarget 2 (Some 7) None ∷ n kinds.NameTarget 0 (Some 8) (Some (98 ∷ [])) ∷ n kinds.NameTarget 0 (Some 11) (Some (99 ∷ [])) ∷ n kinds.StarredTarget 1 (Some 15) None ∷ n kinds.NameTarget 0 (Some 16) (Some (100 ∷ [])) ∷ n kinds.Tuple 2 (Some 21) None ∷ n kinds.Name 0 (Some 21) (Some (101 ∷ [])) ∷ n kinds.Name 0 (Some 24) (Some (102 ∷ [])) ∷ n kinds.Pass 0 (Some 27) None ∷ [] } ∷
    -- for (a) in b: x = 1; y = 2
    record { line = at s.ForWord 0 (102 ∷ 111 ∷ 114 ∷ []) ∷ at s.LeftParen 4 (40 ∷ []) ∷ at s.Name 5 (97 ∷ []) ∷ at s.RightParen 6 (41 ∷ []) ∷ at s.InWord 8 (105 ∷ 110 ∷ []) ∷ at s.Name 11 (98 ∷ []) ∷ at s.Colon 12 (58 ∷ []) ∷ at s.Name 14 (120 ∷ []) ∷ at s.Assign 16 (61 ∷ []) ∷ at s.Number 18 (49 ∷ []) ∷ at s.Semicolon 19 (59 ∷ []) ∷ at s.Name 21 (121 ∷ []) ∷ at s.Assign 23 (61 ∷ []) ∷ at s.Number 25 (50 ∷ []) ∷ []; nodes = n kinds.NameTarget 0 (Some 5) (Some (97 ∷ [])) ∷ n kinds.Name 0 (Some 11) (Some (98 ∷ [])) ∷ n kinds.Assign 2 (Some 14) None ∷ n kinds.NameTarget 0 (Some 14) (Some (120 ∷ [])) ∷ n kinds.NumberLiteral 0 (Some 18) (Some (49 ∷ [])) ∷ n kinds.Assign 2 (Some 21) None ∷ n kinds.NameTarget 0 (Some 21) (Some (121 ∷ [])) ∷ n kinds.NumberLiteral 0 (Some 25) (Some (50 ∷ [])) ∷ [] } ∷
    -- async for x in y: pass
    record { line = at s.AsyncWord 0 (97 ∷ 115 ∷ 121 ∷ 110 ∷ 99 ∷ []) ∷ at s.ForWord 6 (102 ∷ 111 ∷ 114 ∷ []) ∷ at s.Name 10 (120 ∷ []) ∷ at s.InWord 12 (105 ∷ 110 ∷ []) ∷ at s.Name 15 (121 ∷ []) ∷ at s.Colon 16 (58 ∷ []) ∷ at s.PassWord 18 (112 ∷ 97 ∷ 115 ∷ 115 ∷ []) ∷ []; nodes = n kinds.NameTarget 0 (Some 10) (Some (120 ∷ [])) ∷ n kinds.Name 0 (Some 15) (Some (121 ∷ [])) ∷ n kinds.Pass 0 (Some 18) None ∷ [] } ∷
    -- try: pass
    record { line = at s.TryWord 0 (116 ∷ 114 ∷ 121 ∷ []) ∷ at s.Colon 3 (58 ∷ []) ∷ at s.PassWord 5 (112 ∷ 97 ∷ 115 ∷ 115 ∷ []) ∷ []; nodes = n kinds.Pass 0 (Some 5) None ∷ [] } ∷
    -- except: pass
    record { line = at s.ExceptWord 0 (101 ∷ 120 ∷ 99 ∷ 101 ∷ 112 ∷ 116 ∷ []) ∷ at s.Colon 6 (58 ∷ []) ∷ at s.PassWord 8 (112 ∷ 97 ∷ 115 ∷ 115 ∷ []) ∷ []; nodes = n kinds.Pass 0 (Some 8) None ∷ [] } ∷
    []

-- each line has the nodes that are said
rows_hold : map nodes_of_line rows ≡ map said rows
unfolding star_at named_at element_at sx_item_at sx_at yield_at target_item_at targets_at for_clause_at clause_at clauses_at more_elements_at parenthesized_at list_display_at item_or_named_at unpacked_at brace_entry_at more_entries_at brace_display_at starred_argument_at plain_argument_at argument_at arguments_at more_arguments_at call_arguments_at slice_rest_at slice_at slices_item_at slices_at trailer_at field_expression_at inner_field_at field_at string_part_at strings_at atom_at primary_at awaited_at power_at factor_at term_at arith_at shift_at bit_and_at bit_xor_at bit_or_at comparison_sign_at comparison_at not_at and_at or_at lambda_parameter_at lambda_parameters_at lambda_at test_at signed_number_at number_pattern_at literal_at dotted_name_at class_argument_at class_arguments_at name_pattern_at star_pattern_at sequence_item_at parenthesized_pattern_at bracketed_pattern_at mapping_item_at mapping_pattern_at closed_pattern_at or_pattern_at pattern_at open_patterns_at value_at assigned_value_at return_at raise_at declaration_at delete_at assert_at as_name_at module_name_at import_at imported_name_at imported_names_at source_at import_from_at keyword_statement_at value_statement_at statement_at statements_at parameter_annotation_at star_annotation_at parameter_at parameters_at for_header_at except_header_at except_star_header_at with_item_at plain_with_at parenthesized_with_at function_header_at class_header_at subject_at match_header_at case_header_at decorator_line_at reader_of phrase_at headed_at bare_at simple_at with_at async_line_at except_line_at line_by line_at
rows_hold = refl
