-- Lines with the nodes that Python's own parser gives them, in preorder, computed from the readers of the definition: rows
-- that tools/grammar_trees.py writes.
use Rattle.std.specs.Prelude.{List, [], ◌∷◌, Some, None, map}
use Rattle.std.proofs.Common.{◌≡◌, refl}
use Rattle.tree_nodes.specs.declared.kind.Kind.TheVariants as kinds
use Rattle.py_grammar.specs.declared.symbol.Symbol.TheVariants as s
use Rattle.py_grammar.proofs.TryingTrees.{Row, at, n, nodes_of_line, said}
use Rattle.py_grammar.specs.Reading.{star_at, named_at, element_at, sx_item_at, sx_at, yield_at, target_item_at, targets_at, for_clause_at, clause_at, clauses_at, more_elements_at, parenthesized_at, list_display_at, item_or_named_at, unpacked_at, brace_entry_at, more_entries_at, brace_display_at, starred_argument_at, plain_argument_at, argument_at, arguments_at, more_arguments_at, call_arguments_at, slice_rest_at, slice_at, slices_item_at, slices_at, trailer_at, field_expression_at, inner_field_at, field_at, string_part_at, strings_at, atom_at, primary_at, awaited_at, power_at, factor_at, term_at, arith_at, shift_at, bit_and_at, bit_xor_at, bit_or_at, comparison_sign_at, comparison_at, not_at, and_at, or_at, lambda_parameter_at, lambda_parameters_at, lambda_at, test_at}
use Rattle.py_grammar.specs.ReadingPatterns.{signed_number_at, number_pattern_at, literal_at, dotted_name_at, class_argument_at, class_arguments_at, name_pattern_at, star_pattern_at, sequence_item_at, parenthesized_pattern_at, bracketed_pattern_at, mapping_item_at, mapping_pattern_at, closed_pattern_at, or_pattern_at, pattern_at, open_patterns_at}
use Rattle.py_grammar.specs.ReadingStatements.{value_at, assigned_value_at, return_at, raise_at, declaration_at, delete_at, assert_at, as_name_at, module_name_at, import_at, imported_name_at, imported_names_at, source_at, import_from_at, keyword_statement_at, value_statement_at, statement_at, statements_at}
use Rattle.py_grammar.specs.ReadingHeaders.{parameter_annotation_at, star_annotation_at, parameter_at, parameters_at, for_header_at, except_header_at, except_star_header_at, with_item_at, plain_with_at, parenthesized_with_at, function_header_at, class_header_at, subject_at, match_header_at, case_header_at, decorator_line_at}
use Rattle.py_grammar.specs.ReadingLines.{reader_of, phrase_at, headed_at, bare_at, simple_at, with_at, async_line_at, except_line_at, line_by, line_at}

abbrev rows : List Row
rows =
    -- except (a, b) as c: pass
    record { line = at s.ExceptWord 0 (101 ∷ 120 ∷ 99 ∷ 101 ∷ 112 ∷ 116 ∷ []) ∷ at s.LeftParen 7 (40 ∷ []) ∷ at s.Name 8 (97 ∷ []) ∷ at s.Comma 9 (44 ∷ []) ∷ at s.Name 11 (98 ∷ []) ∷ at s.RightParen 12 (41 ∷ []) ∷ at s.AsWord 14 (97 ∷ 115 ∷ []) ∷ at s.Name 17 (99 ∷ []) ∷ at s.Colon 18 (58 ∷ []) ∷ at s.PassWord 20 (112 ∷ 97 ∷ 115 ∷ 115 ∷ []) ∷ []; nodes = n kinds.Tuple 2 (Some 7) None ∷ n kinds.Name 0 (Some 8) (Some (97 ∷ [])) ∷ n kinds.Name 0 (Some 11) (Some (98 ∷ [])) ∷ n kinds.AsName 0 None (Some (99 ∷ [])) ∷ n kinds.Pass 0 (Some 20) None ∷ [] } ∷
    -- except* a as b: pass
    record { line = at s.ExceptWord 0 (101 ∷ 120 ∷ 99 ∷ 101 ∷ 112 ∷ 116 ∷ []) ∷ at s.Star 6 (42 ∷ []) ∷ at s.Name 8 (97 ∷ []) ∷ at s.AsWord 10 (97 ∷ 115 ∷ []) ∷ at s.Name 13 (98 ∷ []) ∷ at s.Colon 14 (58 ∷ []) ∷ at s.PassWord 16 (112 ∷ 97 ∷ 115 ∷ 115 ∷ []) ∷ []; nodes = n kinds.Name 0 (Some 8) (Some (97 ∷ [])) ∷ n kinds.AsName 0 None (Some (98 ∷ [])) ∷ n kinds.Pass 0 (Some 16) None ∷ [] } ∷
    -- finally: pass
    record { line = at s.FinallyWord 0 (102 ∷ 105 ∷ 110 ∷ 97 ∷ 108 ∷ 108 ∷ 121 ∷ []) ∷ at s.Colon 7 (58 ∷ []) ∷ at s.PassWord 9 (112 ∷ 97 ∷ 115 ∷ 115 ∷ []) ∷ []; nodes = n kinds.Pass 0 (Some 9) None ∷ [] } ∷
    -- with (a, b): pass
    record { line = at s.WithWord 0 (119 ∷ 105 ∷ 116 ∷ 104 ∷ []) ∷ at s.LeftParen 5 (40 ∷ []) ∷ at s.Name 6 (97 ∷ []) ∷ at s.Comma 7 (44 ∷ []) ∷ at s.Name 9 (98 ∷ []) ∷ at s.RightParen 10 (41 ∷ []) ∷ at s.Colon 11 (58 ∷ []) ∷ at s.PassWord 13 (112 ∷ 97 ∷ 115 ∷ 115 ∷ []) ∷ []; nodes = n kinds.WithItem 1 None None ∷ n kinds.Name 0 (Some 6) (Some (97 ∷ [])) ∷ n kinds.WithItem 1 None None ∷ n kinds.Name 0 (Some 9) (Some (98 ∷ [])) ∷ n kinds.Pass 0 (Some 13) None ∷ [] } ∷
    -- with (a, b) as c: pass
    record { line = at s.WithWord 0 (119 ∷ 105 ∷ 116 ∷ 104 ∷ []) ∷ at s.LeftParen 5 (40 ∷ []) ∷ at s.Name 6 (97 ∷ []) ∷ at s.Comma 7 (44 ∷ []) ∷ at s.Name 9 (98 ∷ []) ∷ at s.RightParen 10 (41 ∷ []) ∷ at s.AsWord 12 (97 ∷ 115 ∷ []) ∷ at s.Name 15 (99 ∷ []) ∷ at s.Colon 16 (58 ∷ []) ∷ at s.PassWord 18 (112 ∷ 97 ∷ 115 ∷ 115 ∷ []) ∷ []; nodes = n kinds.WithItem 2 None None ∷ n kinds.Tuple 2 (Some 5) None ∷ n kinds.Name 0 (Some 6) (Some (97 ∷ [])) ∷ n kinds.Name 0 (Some 9) (Some (98 ∷ [])) ∷ n kinds.NameTarget 0 (Some 15) (Some (99 ∷ [])) ∷ n kinds.Pass 0 (Some 18) None ∷ [] } ∷
    -- with (a as b, c,): pass
    record { line = at s.WithWord 0 (119 ∷ 105 ∷ 116 ∷ 104 ∷ []) ∷ at s.LeftParen 5 (40 ∷ []) ∷ at s.Name 6 (97 ∷ []) ∷ at s.AsWord 8 (97 ∷ 115 ∷ []) ∷ at s.Name 11 (98 ∷ []) ∷ at s.Comma 12 (44 ∷ []) ∷ at s.Name 14 (99 ∷ []) ∷ at s.Comma 15 (44 ∷ []) ∷ at s.RightParen 16 (41 ∷ []) ∷ at s.Colon 17 (58 ∷ []) ∷ at s.PassWord 19 (112 ∷ 97 ∷ 115 ∷ 115 ∷ []) ∷ []; nodes = n kinds.WithItem 2 None None ∷ n kinds.Name 0 (Some 6) (Some (97 ∷ [])) ∷ n kinds.NameTarget 0 (Some 11) (Some (98 ∷ [])) ∷ n kinds.WithItem 1 None None ∷ n kinds.Name 0 (Some 14) (Some (99 ∷ [])) ∷ n kinds.Pass 0 (Some 19) None ∷ [] } ∷
    -- with (a): pass
    record { line = at s.WithWord 0 (119 ∷ 105 ∷ 116 ∷ 104 ∷ []) ∷ at s.LeftParen 5 (40 ∷ []) ∷ at s.Name 6 (97 ∷ []) ∷ at s.RightParen 7 (41 ∷ []) ∷ at s.Colon 8 (58 ∷ []) ∷ at s.PassWord 10 (112 ∷ 97 ∷ 115 ∷ 115 ∷ []) ∷ []; nodes = n kinds.WithItem 1 None None ∷ n kinds.Name 0 (Some 6) (Some (97 ∷ [])) ∷ n kinds.Pass 0 (Some 10) None ∷ [] } ∷
    -- with a as (b, c), d as e[f]: pass
    record { line = at s.WithWord 0 (119 ∷ 105 ∷ 116 ∷ 104 ∷ []) ∷ at s.Name 5 (97 ∷ []) ∷ at s.AsWord 7 (97 ∷ 115 ∷ []) ∷ at s.LeftParen 10 (40 ∷ []) ∷ at s.Name 11 (98 ∷ []) ∷ at s.Comma 12 (44 ∷ []) ∷ at s.Name 14 (99 ∷ []) ∷ at s.RightParen 15 (41 ∷ []) ∷ at s.Comma 16 (44 ∷ []) ∷ at s.Name 18 (100 ∷ []) ∷ at s.AsWord 20 (97 ∷ 115 ∷ []) ∷ at s.Name 23 (101 ∷ []) ∷ at s.LeftBracket 24 (91 ∷ []) ∷ at s.Name 25 (102 ∷ []) ∷ at s.RightBracket 26 (93 ∷ []) ∷ at s.Colon 27 (58 ∷ []) ∷ at s.PassWord 29 (112 ∷ 97 ∷ 115 ∷ 115 ∷ []) ∷ []; nodes = n kinds.WithItem 2 None None ∷ n kinds.Name 0 (Some 5) (Some (97 ∷ [])) ∷ n kinds.TupleTarget 2 (Some 10) None ∷ n kinds.NameTarget 0 (Some 11) (Some (98 ∷ [])) ∷ n kinds.NameTarget 0 (Some 14) (Some (99 ∷ [])) ∷ n kinds.WithItem 2 None None ∷ n kinds.Name 0 (Some 18) (Some (100 ∷ [])) ∷ n kinds.SubscriptTarget 2 (Some 23) None ∷ n kinds.Name 0 (Some 23) (Some (101 ∷ [])) ∷ n kinds.Name 0 (Some 25) (Some (102 ∷ [])) ∷ n kinds.Pass 0 (Some 29) None ∷ [] } ∷
    -- async with (a as b): pass
    record { line = at s.AsyncWord 0 (97 ∷ 115 ∷ 121 ∷ 110 ∷ 99 ∷ []) ∷ at s.WithWord 6 (119 ∷ 105 ∷ 116 ∷ 104 ∷ []) ∷ at s.LeftParen 11 (40 ∷ []) ∷ at s.Name 12 (97 ∷ []) ∷ at s.AsWord 14 (97 ∷ 115 ∷ []) ∷ at s.Name 17 (98 ∷ []) ∷ at s.RightParen 18 (41 ∷ []) ∷ at s.Colon 19 (58 ∷ []) ∷ at s.PassWord 21 (112 ∷ 97 ∷ 115 ∷ 115 ∷ []) ∷ []; nodes = n kinds.WithItem 2 None None ∷ n kinds.Name 0 (Some 12) (Some (97 ∷ [])) ∷ n kinds.NameTarget 0 (Some 17) (Some (98 ∷ [])) ∷ n kinds.Pass 0 (Some 21) None ∷ [] } ∷
    -- async with a, b: pass
    record { line = at s.AsyncWord 0 (97 ∷ 115 ∷ 121 ∷ 110 ∷ 99 ∷ []) ∷ at s.WithWord 6 (119 ∷ 105 ∷ 116 ∷ 104 ∷ []) ∷ at s.Name 11 (97 ∷ []) ∷ at s.Comma 12 (44 ∷ []) ∷ at s.Name 14 (98 ∷ []) ∷ at s.Colon 15 (58 ∷ []) ∷ at s.PassWord 17 (112 ∷ 97 ∷ 115 ∷ 115 ∷ []) ∷ []; nodes = n kinds.WithItem 1 None None ∷ n kinds.Name 0 (Some 11) (Some (97 ∷ [])) ∷ n kinds.WithItem 1 None None ∷ n kinds.Name 0 (Some 14) (Some (98 ∷ [])) ∷ n kinds.Pass 0 (Some 17) None ∷ [] } ∷
    -- def f(a, b: c = d, /, e: g = h, *i: *j, k: l, m=n, **o: p) -> q: return r
    record { line = at s.DefWord 0 (100 ∷ 101 ∷ 102 ∷ []) ∷ at s.Name 4 (102 ∷ []) ∷ at s.LeftParen 5 (40 ∷ []) ∷ at s.Name 6 (97 ∷ []) ∷ at s.Comma 7 (44 ∷ []) ∷ at s.Name 9 (98 ∷ []) ∷ at s.Colon 10 (58 ∷ []) ∷ at s.Name 12 (99 ∷ []) ∷ at s.Assign 14 (61 ∷ []) ∷ at s.Name 16 (100 ∷ []) ∷ at s.Comma 17 (44 ∷ []) ∷ at s.Slash 19 (47 ∷ []) ∷ at s.Comma 20 (44 ∷ []) ∷ at s.Name 22 (101 ∷ []) ∷ at s.Colon 23 (58 ∷ []) ∷ at s.Name 25 (103 ∷ []) ∷ at s.Assign 27 (61 ∷ []) ∷ at s.Name 29 (104 ∷ []) ∷ at s.Comma 30 (44 ∷ []) ∷ at s.Star 32 (42 ∷ []) ∷ at s.Name 33 (105 ∷ []) ∷ at s.Colon 34 (58 ∷ []) ∷ at s.Star 36 (42 ∷ []) ∷ at s.Name 37 (106 ∷ []) ∷ at s.Comma 38 (44 ∷ []) ∷ at s.Name 40 (107 ∷ []) ∷ at s.Colon 41 (58 ∷ []) ∷ at s.Name 43 (108 ∷ []) ∷ at s.Comma 44 (44 ∷ []) ∷ at s.Name 46 (109 ∷ []) ∷ at s.Assign 47 (61 ∷ []) ∷ at s.Name 48 (110 ∷ []) ∷ at s.Comma 49 (44 ∷ []) ∷ at s.DoubleStar 51 (42 ∷ 42 ∷ []) ∷ at s.Name 53 (111 ∷ []) ∷ at s.Colon 54 (58 ∷ []) ∷ at s.Name 56 (112 ∷ []) ∷ at s.RightParen 57 (41 ∷ []) ∷ at s.Arrow 59 (45 ∷ 62 ∷ []) ∷ at s.Name 62 (113 ∷ []) ∷ at s.Colon 63 (58 ∷ []) ∷ at s.ReturnWord 65 (114 ∷ 101 ∷ 116 ∷ 117 ∷ 114 ∷ 110 ∷ []) ∷ at s.Name 72 (114 ∷ []) ∷ []; nodes = n kinds.Parameter 0 (Some 6) (Some (97 ∷ [])) ∷ n kinds.Parameter 2 (Some 9) (Some (98 ∷ [])) ∷ n kinds.Annotation 1 None None ∷ n kinds.Name 0 (Some 12) (Some (99 ∷ [])) ∷ n kinds.Name 0 (Some 16) (Some (100 ∷ [])) ∷ n kinds.PositionalOnlyMark 0 None None ∷ n kinds.Parameter 2 (Some 22) (Some (101 ∷ [])) ∷ n kinds.Annotation 1 None None ∷ n kinds.Name 0 (Some 25) (Some (103 ∷ [])) ∷ n kinds.Name 0 (Some 29) (Some (104 ∷ [])) ∷ n kinds.StarParameter 1 None (Some (105 ∷ [])) ∷ n kinds.StarAnnotation 1 None None ∷ n kinds.Name 0 (Some 37) (Some (106 ∷ [])) ∷ n kinds.KeywordOnlyParameter 1 (Some 40) (Some (107 ∷ [])) ∷ n kinds.Annotation 1 None None ∷ n kinds.Name 0 (Some 43) (Some (108 ∷ [])) ∷ n kinds.KeywordOnlyParameter 1 (Some 46) (Some (109 ∷ [])) ∷ n kinds.Name 0 (Some 48) (Some (110 ∷ [])) ∷ n kinds.DoubleStarParameter 1 None (Some (111 ∷ [])) ∷ n kinds.Annotation 1 None None ∷ n kinds.Name 0 (Some 56) (Some (112 ∷ [])) ∷ n kinds.Annotation 1 None None ∷ n kinds.Name 0 (Some 62) (Some (113 ∷ [])) ∷ n kinds.Return 1 (Some 65) None ∷ n kinds.Name 0 (Some 72) (Some (114 ∷ [])) ∷ [] } ∷
    -- def f(*, a): pass
    record { line = at s.DefWord 0 (100 ∷ 101 ∷ 102 ∷ []) ∷ at s.Name 4 (102 ∷ []) ∷ at s.LeftParen 5 (40 ∷ []) ∷ at s.Star 6 (42 ∷ []) ∷ at s.Comma 7 (44 ∷ []) ∷ at s.Name 9 (97 ∷ []) ∷ at s.RightParen 10 (41 ∷ []) ∷ at s.Colon 11 (58 ∷ []) ∷ at s.PassWord 13 (112 ∷ 97 ∷ 115 ∷ 115 ∷ []) ∷ []; nodes = n kinds.KeywordOnlyMark 0 None None ∷ n kinds.KeywordOnlyParameter 0 (Some 9) (Some (97 ∷ [])) ∷ n kinds.Pass 0 (Some 13) None ∷ [] } ∷
    -- def f(): pass
    record { line = at s.DefWord 0 (100 ∷ 101 ∷ 102 ∷ []) ∷ at s.Name 4 (102 ∷ []) ∷ at s.LeftParen 5 (40 ∷ []) ∷ at s.RightParen 6 (41 ∷ []) ∷ at s.Colon 7 (58 ∷ []) ∷ at s.PassWord 9 (112 ∷ 97 ∷ 115 ∷ 115 ∷ []) ∷ []; nodes = n kinds.Pass 0 (Some 9) None ∷ [] } ∷
    -- async def f(a=1,): pass
    record { line = at s.AsyncWord 0 (97 ∷ 115 ∷ 121 ∷ 110 ∷ 99 ∷ []) ∷ at s.DefWord 6 (100 ∷ 101 ∷ 102 ∷ []) ∷ at s.Name 10 (102 ∷ []) ∷ at s.LeftParen 11 (40 ∷ []) ∷ at s.Name 12 (97 ∷ []) ∷ at s.Assign 13 (61 ∷ []) ∷ at s.Number 14 (49 ∷ []) ∷ at s.Comma 15 (44 ∷ []) ∷ at s.RightParen 16 (41 ∷ []) ∷ at s.Colon 17 (58 ∷ []) ∷ at s.PassWord 19 (112 ∷ 97 ∷ 115 ∷ 115 ∷ []) ∷ []; nodes = n kinds.Parameter 1 (Some 12) (Some (97 ∷ [])) ∷ n kinds.NumberLiteral 0 (Some 14) (Some (49 ∷ [])) ∷ n kinds.Pass 0 (Some 19) None ∷ [] } ∷
    -- class A(b, *c, d=e, **g): pass
    record { line = at s.ClassWord 0 (99 ∷ 108 ∷ 97 ∷ 115 ∷ 115 ∷ []) ∷ at s.Name 6 (65 ∷ []) ∷ at s.LeftParen 7 (40 ∷ []) ∷ at s.Name 8 (98 ∷ []) ∷ at s.Comma 9 (44 ∷ []) ∷ at s.Star 11 (42 ∷ []) ∷ at s.Name 12 (99 ∷ []) ∷ at s.Comma 13 (44 ∷ []) ∷ at s.Name 15 (100 ∷ []) ∷ at s.Assign 16 (61 ∷ []) ∷ at s.Name 17 (101 ∷ []) ∷ at s.Comma 18 (44 ∷ []) ∷ at s.DoubleStar 20 (42 ∷ 42 ∷ []) ∷ at s.Name 22 (103 ∷ []) ∷ at s.RightParen 23 (41 ∷ []) ∷ at s.Colon 24 (58 ∷ []) ∷ at s.PassWord 26 (112 ∷ 97 ∷ 115 ∷ 115 ∷ []) ∷ []; nodes = n kinds.Name 0 (Some 8) (Some (98 ∷ [])) ∷ n kinds.StarArgument 1 (Some 11) None ∷ n kinds.Name 0 (Some 12) (Some (99 ∷ [])) ∷ n kinds.KeywordArgument 1 (Some 15) (Some (100 ∷ [])) ∷ n kinds.Name 0 (Some 17) (Some (101 ∷ [])) ∷ n kinds.DoubleStarArgument 1 (Some 20) None ∷ n kinds.Name 0 (Some 22) (Some (103 ∷ [])) ∷ n kinds.Pass 0 (Some 26) None ∷ [] } ∷
    -- class A: pass
    record { line = at s.ClassWord 0 (99 ∷ 108 ∷ 97 ∷ 115 ∷ 115 ∷ []) ∷ at s.Name 6 (65 ∷ []) ∷ at s.Colon 7 (58 ∷ []) ∷ at s.PassWord 9 (112 ∷ 97 ∷ 115 ∷ 115 ∷ []) ∷ []; nodes = n kinds.Pass 0 (Some 9) None ∷ [] } ∷
    -- match a, b:
    record { line = at s.MatchWord 0 (109 ∷ 97 ∷ 116 ∷ 99 ∷ 104 ∷ []) ∷ at s.Name 6 (97 ∷ []) ∷ at s.Comma 7 (44 ∷ []) ∷ at s.Name 9 (98 ∷ []) ∷ at s.Colon 10 (58 ∷ []) ∷ []; nodes = n kinds.Tuple 2 (Some 6) None ∷ n kinds.Name 0 (Some 6) (Some (97 ∷ [])) ∷ n kinds.Name 0 (Some 9) (Some (98 ∷ [])) ∷ [] } ∷
    -- match *a, b:
    record { line = at s.MatchWord 0 (109 ∷ 97 ∷ 116 ∷ 99 ∷ 104 ∷ []) ∷ at s.Star 6 (42 ∷ []) ∷ at s.Name 7 (97 ∷ []) ∷ at s.Comma 8 (44 ∷ []) ∷ at s.Name 10 (98 ∷ []) ∷ at s.Colon 11 (58 ∷ []) ∷ []; nodes = n kinds.Tuple 2 (Some 6) None ∷ n kinds.Starred 1 (Some 6) None ∷ n kinds.Name 0 (Some 7) (Some (97 ∷ [])) ∷ n kinds.Name 0 (Some 10) (Some (98 ∷ [])) ∷ [] } ∷
    -- match (a):
    record { line = at s.MatchWord 0 (109 ∷ 97 ∷ 116 ∷ 99 ∷ 104 ∷ []) ∷ at s.LeftParen 6 (40 ∷ []) ∷ at s.Name 7 (97 ∷ []) ∷ at s.RightParen 8 (41 ∷ []) ∷ at s.Colon 9 (58 ∷ []) ∷ []; nodes = n kinds.Name 0 (Some 7) (Some (97 ∷ [])) ∷ [] } ∷
    -- match -a:
    record { line = at s.MatchWord 0 (109 ∷ 97 ∷ 116 ∷ 99 ∷ 104 ∷ []) ∷ at s.Minus 6 (45 ∷ []) ∷ at s.Name 7 (97 ∷ []) ∷ at s.Colon 8 (58 ∷ []) ∷ []; nodes = n kinds.UnaryMinus 1 (Some 6) None ∷ n kinds.Name 0 (Some 7) (Some (97 ∷ [])) ∷ [] } ∷
    -- match[a] = b
    record { line = at s.MatchWord 0 (109 ∷ 97 ∷ 116 ∷ 99 ∷ 104 ∷ []) ∷ at s.LeftBracket 5 (91 ∷ []) ∷ at s.Name 6 (97 ∷ []) ∷ at s.RightBracket 7 (93 ∷ []) ∷ at s.Assign 9 (61 ∷ []) ∷ at s.Name 11 (98 ∷ []) ∷ []; nodes = n kinds.Assign 2 (Some 0) None ∷ n kinds.SubscriptTarget 2 (Some 0) None ∷ n kinds.Name 0 (Some 0) (Some (109 ∷ 97 ∷ 116 ∷ 99 ∷ 104 ∷ [])) ∷ n kinds.Name 0 (Some 6) (Some (97 ∷ [])) ∷ n kinds.Name 0 (Some 11) (Some (98 ∷ [])) ∷ [] } ∷
    -- case a | b as c if d := e:
    record { line = at s.CaseWord 0 (99 ∷ 97 ∷ 115 ∷ 101 ∷ []) ∷ at s.Name 5 (97 ∷ []) ∷ at s.Bar 7 (124 ∷ []) ∷ at s.Name 9 (98 ∷ []) ∷ at s.AsWord 11 (97 ∷ 115 ∷ []) ∷ at s.Name 14 (99 ∷ []) ∷ at s.IfWord 16 (105 ∷ 102 ∷ []) ∷ at s.Name 19 (100 ∷ []) ∷ at s.Walrus 21 (58 ∷ 61 ∷ []) ∷ at s.Name 24 (101 ∷ []) ∷ at s.Colon 25 (58 ∷ []) ∷ []; nodes = n kinds.MatchAs 1 (Some 5) (Some (99 ∷ [])) ∷ n kinds.MatchOr 2 (Some 5) None ∷ n kinds.MatchCapture 0 (Some 5) (Some (97 ∷ [])) ∷ n kinds.MatchCapture 0 (Some 9) (Some (98 ∷ [])) ∷ n kinds.NamedExpression 1 (Some 19) (Some (100 ∷ [])) ∷ n kinds.Name 0 (Some 24) (Some (101 ∷ [])) ∷ [] } ∷
    -- case (a, b):
    record { line = at s.CaseWord 0 (99 ∷ 97 ∷ 115 ∷ 101 ∷ []) ∷ at s.LeftParen 5 (40 ∷ []) ∷ at s.Name 6 (97 ∷ []) ∷ at s.Comma 7 (44 ∷ []) ∷ at s.Name 9 (98 ∷ []) ∷ at s.RightParen 10 (41 ∷ []) ∷ at s.Colon 11 (58 ∷ []) ∷ []; nodes = n kinds.MatchSequence 2 (Some 5) None ∷ n kinds.MatchCapture 0 (Some 6) (Some (97 ∷ [])) ∷ n kinds.MatchCapture 0 (Some 9) (Some (98 ∷ [])) ∷ [] } ∷
    -- case (a,):
    record { line = at s.CaseWord 0 (99 ∷ 97 ∷ 115 ∷ 101 ∷ []) ∷ at s.LeftParen 5 (40 ∷ []) ∷ at s.Name 6 (97 ∷ []) ∷ at s.Comma 7 (44 ∷ []) ∷ at s.RightParen 8 (41 ∷ []) ∷ at s.Colon 9 (58 ∷ []) ∷ []; nodes = n kinds.MatchSequence 1 (Some 5) None ∷ n kinds.MatchCapture 0 (Some 6) (Some (97 ∷ [])) ∷ [] } ∷
    -- case (a):
    record { line = at s.CaseWord 0 (99 ∷ 97 ∷ 115 ∷ 101 ∷ []) ∷ at s.LeftParen 5 (40 ∷ []) ∷ at s.Name 6 (97 ∷ []) ∷ at s.RightParen 7 (41 ∷ []) ∷ at s.Colon 8 (58 ∷ []) ∷ []; nodes = n kinds.MatchCapture 0 (Some 6) (Some (97 ∷ [])) ∷ [] } ∷
    -- case a, *b, c: pass
    record { line = at s.CaseWord 0 (99 ∷ 97 ∷ 115 ∷ 101 ∷ []) ∷ at s.Name 5 (97 ∷ []) ∷ at s.Comma 6 (44 ∷ []) ∷ at s.Star 8 (42 ∷ []) ∷ at s.Name 9 (98 ∷ []) ∷ at s.Comma 10 (44 ∷ []) ∷ at s.Name 12 (99 ∷ []) ∷ at s.Colon 13 (58 ∷ []) ∷ at s.PassWord 15 (112 ∷ 97 ∷ 115 ∷ 115 ∷ []) ∷ []; nodes = n kinds.MatchSequence 3 (Some 5) None ∷ n kinds.MatchCapture 0 (Some 5) (Some (97 ∷ [])) ∷ n kinds.MatchStar 0 (Some 8) (Some (98 ∷ [])) ∷ n kinds.MatchCapture 0 (Some 12) (Some (99 ∷ [])) ∷ n kinds.Pass 0 (Some 15) None ∷ [] } ∷
    -- case *_, a:
    record { line = at s.CaseWord 0 (99 ∷ 97 ∷ 115 ∷ 101 ∷ []) ∷ at s.Star 5 (42 ∷ []) ∷ at s.Underscore 6 (95 ∷ []) ∷ at s.Comma 7 (44 ∷ []) ∷ at s.Name 9 (97 ∷ []) ∷ at s.Colon 10 (58 ∷ []) ∷ []; nodes = n kinds.MatchSequence 2 (Some 5) None ∷ n kinds.MatchStarWildcard 0 (Some 5) None ∷ n kinds.MatchCapture 0 (Some 9) (Some (97 ∷ [])) ∷ [] } ∷
    -- case [a, *_]:
    record { line = at s.CaseWord 0 (99 ∷ 97 ∷ 115 ∷ 101 ∷ []) ∷ at s.LeftBracket 5 (91 ∷ []) ∷ at s.Name 6 (97 ∷ []) ∷ at s.Comma 7 (44 ∷ []) ∷ at s.Star 9 (42 ∷ []) ∷ at s.Underscore 10 (95 ∷ []) ∷ at s.RightBracket 11 (93 ∷ []) ∷ at s.Colon 12 (58 ∷ []) ∷ []; nodes = n kinds.MatchSequence 2 (Some 5) None ∷ n kinds.MatchCapture 0 (Some 6) (Some (97 ∷ [])) ∷ n kinds.MatchStarWildcard 0 (Some 9) None ∷ [] } ∷
    -- case []:
    record { line = at s.CaseWord 0 (99 ∷ 97 ∷ 115 ∷ 101 ∷ []) ∷ at s.LeftBracket 5 (91 ∷ []) ∷ at s.RightBracket 6 (93 ∷ []) ∷ at s.Colon 7 (58 ∷ []) ∷ []; nodes = n kinds.MatchSequence 0 (Some 5) None ∷ [] } ∷
    -- case -1 + 2j:
    record { line = at s.CaseWord 0 (99 ∷ 97 ∷ 115 ∷ 101 ∷ []) ∷ at s.Minus 5 (45 ∷ []) ∷ at s.Number 6 (49 ∷ []) ∷ at s.Plus 8 (43 ∷ []) ∷ at s.Number 10 (50 ∷ 106 ∷ []) ∷ at s.Colon 12 (58 ∷ []) ∷ []; nodes = n kinds.MatchValue 1 (Some 5) None ∷ n kinds.Sum 3 (Some 5) None ∷ n kinds.UnaryMinus 1 (Some 5) None ∷ n kinds.NumberLiteral 0 (Some 6) (Some (49 ∷ [])) ∷ n kinds.Add 0 None None ∷ n kinds.NumberLiteral 0 (Some 10) (Some (50 ∷ 106 ∷ [])) ∷ [] } ∷
    -- case {1: a, "b": c, d.e: f, **g}:
    record { line = at s.CaseWord 0 (99 ∷ 97 ∷ 115 ∷ 101 ∷ []) ∷ at s.LeftBrace 5 (123 ∷ []) ∷ at s.Number 6 (49 ∷ []) ∷ at s.Colon 7 (58 ∷ []) ∷ at s.Name 9 (97 ∷ []) ∷ at s.Comma 10 (44 ∷ []) ∷ at s.Str 12 (34 ∷ 98 ∷ 34 ∷ []) ∷ at s.Colon 15 (58 ∷ []) ∷ at s.Name 17 (99 ∷ []) ∷ at s.Comma 18 (44 ∷ []) ∷ at s.Name 20 (100 ∷ []) ∷ at s.Dot 21 (46 ∷ []) ∷ at s.Name 22 (101 ∷ []) ∷ at s.Colon 23 (58 ∷ []) ∷ at s.Name 25 (102 ∷ []) ∷ at s.Comma 26 (44 ∷ []) ∷ at s.DoubleStar 28 (42 ∷ 42 ∷ []) ∷ at s.Name 30 (103 ∷ []) ∷ at s.RightBrace 31 (125 ∷ []) ∷ at s.Colon 32 (58 ∷ []) ∷ []; nodes = n kinds.MatchMapping 4 (Some 5) None ∷ n kinds.MatchItem 2 None None ∷ n kinds.NumberLiteral 0 (Some 6) (Some (49 ∷ [])) ∷ n kinds.MatchCapture 0 (Some 9) (Some (97 ∷ [])) ∷ n kinds.MatchItem 2 None None ∷ n kinds.StringLiteral 0 (Some 12) (Some (34 ∷ 98 ∷ 34 ∷ [])) ∷ n kinds.MatchCapture 0 (Some 17) (Some (99 ∷ [])) ∷ n kinds.MatchItem 2 None None ∷ n kinds.Attribute 1 (Some 20) (Some (101 ∷ [])) ∷ n kinds.Name 0 (Some 20) (Some (100 ∷ [])) ∷ n kinds.MatchCapture 0 (Some 25) (Some (102 ∷ [])) ∷ n kinds.MatchRest 0 None (Some (103 ∷ [])) ∷ [] } ∷
    -- case a.b(c, d=e):
    record { line = at s.CaseWord 0 (99 ∷ 97 ∷ 115 ∷ 101 ∷ []) ∷ at s.Name 5 (97 ∷ []) ∷ at s.Dot 6 (46 ∷ []) ∷ at s.Name 7 (98 ∷ []) ∷ at s.LeftParen 8 (40 ∷ []) ∷ at s.Name 9 (99 ∷ []) ∷ at s.Comma 10 (44 ∷ []) ∷ at s.Name 12 (100 ∷ []) ∷ at s.Assign 13 (61 ∷ []) ∷ at s.Name 14 (101 ∷ []) ∷ at s.RightParen 15 (41 ∷ []) ∷ at s.Colon 16 (58 ∷ []) ∷ []; nodes = n kinds.MatchClass 3 (Some 5) None ∷ n kinds.Attribute 1 (Some 5) (Some (98 ∷ [])) ∷ n kinds.Name 0 (Some 5) (Some (97 ∷ [])) ∷ n kinds.MatchCapture 0 (Some 9) (Some (99 ∷ [])) ∷ n kinds.MatchKeyword 1 None (Some (100 ∷ [])) ∷ n kinds.MatchCapture 0 (Some 14) (Some (101 ∷ [])) ∷ [] } ∷
    -- case a():
    record { line = at s.CaseWord 0 (99 ∷ 97 ∷ 115 ∷ 101 ∷ []) ∷ at s.Name 5 (97 ∷ []) ∷ at s.LeftParen 6 (40 ∷ []) ∷ at s.RightParen 7 (41 ∷ []) ∷ at s.Colon 8 (58 ∷ []) ∷ []; nodes = n kinds.MatchClass 1 (Some 5) None ∷ n kinds.Name 0 (Some 5) (Some (97 ∷ [])) ∷ [] } ∷
    -- case "a" "b":
    record { line = at s.CaseWord 0 (99 ∷ 97 ∷ 115 ∷ 101 ∷ []) ∷ at s.Str 5 (34 ∷ 97 ∷ 34 ∷ []) ∷ at s.Str 9 (34 ∷ 98 ∷ 34 ∷ []) ∷ at s.Colon 12 (58 ∷ []) ∷ []; nodes = n kinds.MatchValue 1 (Some 5) None ∷ n kinds.StringLiteral 0 (Some 5) (Some (34 ∷ 97 ∷ 34 ∷ 32 ∷ 34 ∷ 98 ∷ 34 ∷ [])) ∷ [] } ∷
    -- case b"a":
    record { line = at s.CaseWord 0 (99 ∷ 97 ∷ 115 ∷ 101 ∷ []) ∷ at s.Bytes 5 (98 ∷ 34 ∷ 97 ∷ 34 ∷ []) ∷ at s.Colon 9 (58 ∷ []) ∷ []; nodes = n kinds.MatchValue 1 (Some 5) None ∷ n kinds.BytesLiteral 0 (Some 5) (Some (98 ∷ 34 ∷ 97 ∷ 34 ∷ [])) ∷ [] } ∷
    -- case None | True:
    record { line = at s.CaseWord 0 (99 ∷ 97 ∷ 115 ∷ 101 ∷ []) ∷ at s.NoneWord 5 (78 ∷ 111 ∷ 110 ∷ 101 ∷ []) ∷ at s.Bar 10 (124 ∷ []) ∷ at s.TrueWord 12 (84 ∷ 114 ∷ 117 ∷ 101 ∷ []) ∷ at s.Colon 16 (58 ∷ []) ∷ []; nodes = n kinds.MatchOr 2 (Some 5) None ∷ n kinds.MatchValue 1 (Some 5) None ∷ n kinds.NoneLiteral 0 (Some 5) None ∷ n kinds.MatchValue 1 (Some 12) None ∷ n kinds.TrueLiteral 0 (Some 12) None ∷ [] } ∷
    -- case _ | a.b:
    record { line = at s.CaseWord 0 (99 ∷ 97 ∷ 115 ∷ 101 ∷ []) ∷ at s.Underscore 5 (95 ∷ []) ∷ at s.Bar 7 (124 ∷ []) ∷ at s.Name 9 (97 ∷ []) ∷ at s.Dot 10 (46 ∷ []) ∷ at s.Name 11 (98 ∷ []) ∷ at s.Colon 12 (58 ∷ []) ∷ []; nodes = n kinds.MatchOr 2 (Some 5) None ∷ n kinds.MatchWildcard 0 (Some 5) None ∷ n kinds.MatchValue 1 (Some 9) None ∷ n kinds.Attribute 1 (Some 9) (Some (98 ∷ [])) ∷ n kinds.Name 0 (Some 9) (Some (97 ∷ [])) ∷ [] } ∷
    -- case(a)
    record { line = at s.CaseWord 0 (99 ∷ 97 ∷ 115 ∷ 101 ∷ []) ∷ at s.LeftParen 4 (40 ∷ []) ∷ at s.Name 5 (97 ∷ []) ∷ at s.RightParen 6 (41 ∷ []) ∷ []; nodes = n kinds.ExpressionStatement 1 (Some 0) None ∷ n kinds.Call 2 (Some 0) None ∷ n kinds.Name 0 (Some 0) (Some (99 ∷ 97 ∷ 115 ∷ 101 ∷ [])) ∷ n kinds.Name 0 (Some 5) (Some (97 ∷ [])) ∷ [] } ∷
    -- x
    record { line = at s.Name 0 (120 ∷ []) ∷ []; nodes = n kinds.ExpressionStatement 1 (Some 0) None ∷ n kinds.Name 0 (Some 0) (Some (120 ∷ [])) ∷ [] } ∷
    -- x.y(1)[2].z
    record { line = at s.Name 0 (120 ∷ []) ∷ at s.Dot 1 (46 ∷ []) ∷ at s.Name 2 (121 ∷ []) ∷ at s.LeftParen 3 (40 ∷ []) ∷ at s.Number 4 (49 ∷ []) ∷ at s.RightParen 5 (41 ∷ []) ∷ at s.LeftBracket 6 (91 ∷ []) ∷ at s.Number 7 (50 ∷ []) ∷ at s.RightBracket 8 (93 ∷ []) ∷ at s.Dot 9 (46 ∷ []) ∷ at s.Name 10 (122 ∷ []) ∷ []; nodes = n kinds.ExpressionStatement 1 (Some 0) None ∷ n kinds.Attribute 1 (Some 0) (Some (122 ∷ [])) ∷ n kinds.Subscript 2 (Some 0) None ∷ n kinds.Call 2 (Some 0) None ∷ n kinds.Attribute 1 (Some 0) (Some (121 ∷ [])) ∷ n kinds.Name 0 (Some 0) (Some (120 ∷ [])) ∷ n kinds.NumberLiteral 0 (Some 4) (Some (49 ∷ [])) ∷ n kinds.NumberLiteral 0 (Some 7) (Some (50 ∷ [])) ∷ [] } ∷
    []

-- each line has the nodes that are said
rows_hold : map nodes_of_line rows ≡ map said rows
unfolding star_at named_at element_at sx_item_at sx_at yield_at target_item_at targets_at for_clause_at clause_at clauses_at more_elements_at parenthesized_at list_display_at item_or_named_at unpacked_at brace_entry_at more_entries_at brace_display_at starred_argument_at plain_argument_at argument_at arguments_at more_arguments_at call_arguments_at slice_rest_at slice_at slices_item_at slices_at trailer_at field_expression_at inner_field_at field_at string_part_at strings_at atom_at primary_at awaited_at power_at factor_at term_at arith_at shift_at bit_and_at bit_xor_at bit_or_at comparison_sign_at comparison_at not_at and_at or_at lambda_parameter_at lambda_parameters_at lambda_at test_at signed_number_at number_pattern_at literal_at dotted_name_at class_argument_at class_arguments_at name_pattern_at star_pattern_at sequence_item_at parenthesized_pattern_at bracketed_pattern_at mapping_item_at mapping_pattern_at closed_pattern_at or_pattern_at pattern_at open_patterns_at value_at assigned_value_at return_at raise_at declaration_at delete_at assert_at as_name_at module_name_at import_at imported_name_at imported_names_at source_at import_from_at keyword_statement_at value_statement_at statement_at statements_at parameter_annotation_at star_annotation_at parameter_at parameters_at for_header_at except_header_at except_star_header_at with_item_at plain_with_at parenthesized_with_at function_header_at class_header_at subject_at match_header_at case_header_at decorator_line_at reader_of phrase_at headed_at bare_at simple_at with_at async_line_at except_line_at line_by line_at
rows_hold = refl
