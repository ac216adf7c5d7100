-- Lines with the nodes that Python's own parser gives them, in preorder, computed from the readers of the definition: rows
-- that tools/grammar_trees.py writes.
use Rattle.std.specs.Prelude.{List, [], ◌∷◌, Some, None, map}
use Rattle.std.proofs.Common.{◌≡◌, refl}
use Rattle.tree_nodes.specs.declared.kind.Kind.TheVariants as kinds
use Rattle.py_grammar.specs.declared.symbol.Symbol.TheVariants as s
use Rattle.py_grammar.proofs.TryingTrees.{Row, at, n, nodes_of_line, said}
use Rattle.py_grammar.specs.Reading.{star_at, named_at, element_at, sx_item_at, sx_at, yield_at, target_item_at, targets_at, for_clause_at, clause_at, clauses_at, more_elements_at, parenthesized_at, list_display_at, item_or_named_at, unpacked_at, brace_entry_at, more_entries_at, brace_display_at, starred_argument_at, plain_argument_at, argument_at, arguments_at, more_arguments_at, call_arguments_at, slice_rest_at, slice_at, slices_item_at, slices_at, trailer_at, field_expression_at, inner_field_at, field_at, string_part_at, strings_at, atom_at, primary_at, awaited_at, power_at, factor_at, term_at, arith_at, shift_at, bit_and_at, bit_xor_at, bit_or_at, comparison_sign_at, comparison_at, not_at, and_at, or_at, lambda_parameter_at, lambda_parameters_at, lambda_at, test_at}
use Rattle.py_grammar.specs.ReadingPatterns.{signed_number_at, number_pattern_at, literal_at, dotted_name_at, class_argument_at, class_arguments_at, name_pattern_at, star_pattern_at, sequence_item_at, parenthesized_pattern_at, bracketed_pattern_at, mapping_item_at, mapping_pattern_at, closed_pattern_at, or_pattern_at, pattern_at, open_patterns_at}
use Rattle.py_grammar.specs.ReadingStatements.{value_at, assigned_value_at, return_at, raise_at, declaration_at, delete_at, assert_at, as_name_at, module_name_at, import_at, imported_name_at, imported_names_at, source_at, import_from_at, keyword_statement_at, value_statement_at, statement_at, statements_at}
use Rattle.py_grammar.specs.ReadingHeaders.{parameter_annotation_at, star_annotation_at, parameter_at, parameters_at, for_header_at, except_header_at, except_star_header_at, with_item_at, plain_with_at, parenthesized_with_at, function_header_at, class_header_at, subject_at, match_header_at, case_header_at, decorator_line_at}
use Rattle.py_grammar.specs.ReadingLines.{reader_of, phrase_at, headed_at, bare_at, simple_at, with_at, async_line_at, except_line_at, line_by, line_at}

abbrev rows : List Row
rows =
    -- elif x:
    record { line = at s.ElifWord 0 (101 ∷ 108 ∷ 105 ∷ 102 ∷ []) ∷ at s.Name 5 (120 ∷ []) ∷ at s.Colon 6 (58 ∷ []) ∷ []; nodes = n kinds.Name 0 (Some 5) (Some (120 ∷ [])) ∷ [] } ∷
    -- elif x: y
    record { line = at s.ElifWord 0 (101 ∷ 108 ∷ 105 ∷ 102 ∷ []) ∷ at s.Name 5 (120 ∷ []) ∷ at s.Colon 6 (58 ∷ []) ∷ at s.Name 8 (121 ∷ []) ∷ []; nodes = n kinds.Name 0 (Some 5) (Some (120 ∷ [])) ∷ n kinds.ExpressionStatement 1 (Some 8) None ∷ n kinds.Name 0 (Some 8) (Some (121 ∷ [])) ∷ [] } ∷
    -- else:
    record { line = at s.ElseWord 0 (101 ∷ 108 ∷ 115 ∷ 101 ∷ []) ∷ at s.Colon 4 (58 ∷ []) ∷ []; nodes = [] } ∷
    -- else: x
    record { line = at s.ElseWord 0 (101 ∷ 108 ∷ 115 ∷ 101 ∷ []) ∷ at s.Colon 4 (58 ∷ []) ∷ at s.Name 6 (120 ∷ []) ∷ []; nodes = n kinds.ExpressionStatement 1 (Some 6) None ∷ n kinds.Name 0 (Some 6) (Some (120 ∷ [])) ∷ [] } ∷
    -- while x:
    record { line = at s.WhileWord 0 (119 ∷ 104 ∷ 105 ∷ 108 ∷ 101 ∷ []) ∷ at s.Name 6 (120 ∷ []) ∷ at s.Colon 7 (58 ∷ []) ∷ []; nodes = n kinds.Name 0 (Some 6) (Some (120 ∷ [])) ∷ [] } ∷
    -- while x: y
    record { line = at s.WhileWord 0 (119 ∷ 104 ∷ 105 ∷ 108 ∷ 101 ∷ []) ∷ at s.Name 6 (120 ∷ []) ∷ at s.Colon 7 (58 ∷ []) ∷ at s.Name 9 (121 ∷ []) ∷ []; nodes = n kinds.Name 0 (Some 6) (Some (120 ∷ [])) ∷ n kinds.ExpressionStatement 1 (Some 9) None ∷ n kinds.Name 0 (Some 9) (Some (121 ∷ [])) ∷ [] } ∷
    -- while (yield): y
    record { line = at s.WhileWord 0 (119 ∷ 104 ∷ 105 ∷ 108 ∷ 101 ∷ []) ∷ at s.LeftParen 6 (40 ∷ []) ∷ at s.YieldWord 7 (121 ∷ 105 ∷ 101 ∷ 108 ∷ 100 ∷ []) ∷ at s.RightParen 12 (41 ∷ []) ∷ at s.Colon 13 (58 ∷ []) ∷ at s.Name 15 (121 ∷ []) ∷ []; nodes = n kinds.Yield 0 (Some 7) None ∷ n kinds.ExpressionStatement 1 (Some 15) None ∷ n kinds.Name 0 (Some 15) (Some (121 ∷ [])) ∷ [] } ∷
    -- for x in y:
    record { line = at s.ForWord 0 (102 ∷ 111 ∷ 114 ∷ []) ∷ at s.Name 4 (120 ∷ []) ∷ at s.InWord 6 (105 ∷ 110 ∷ []) ∷ at s.Name 9 (121 ∷ []) ∷ at s.Colon 10 (58 ∷ []) ∷ []; nodes = n kinds.NameTarget 0 (Some 4) (Some (120 ∷ [])) ∷ n kinds.Name 0 (Some 9) (Some (121 ∷ [])) ∷ [] } ∷
    -- for x, y in z: a
    record { line = at s.ForWord 0 (102 ∷ 111 ∷ 114 ∷ []) ∷ at s.Name 4 (120 ∷ []) ∷ at s.Comma 5 (44 ∷ []) ∷ at s.Name 7 (121 ∷ []) ∷ at s.InWord 9 (105 ∷ 110 ∷ []) ∷ at s.Name 12 (122 ∷ []) ∷ at s.Colon 13 (58 ∷ []) ∷ at s.Name 15 (97 ∷ []) ∷ []; nodes = n kinds.TupleTarget 2 (Some 4) None ∷ n kinds.NameTarget 0 (Some 4) (Some (120 ∷ [])) ∷ n kinds.NameTarget 0 (Some 7) (Some (121 ∷ [])) ∷ n kinds.Name 0 (Some 12) (Some (122 ∷ [])) ∷ n kinds.ExpressionStatement 1 (Some 15) None ∷ n kinds.Name 0 (Some 15) (Some (97 ∷ [])) ∷ [] } ∷
    -- for x, in y: a
    record { line = at s.ForWord 0 (102 ∷ 111 ∷ 114 ∷ []) ∷ at s.Name 4 (120 ∷ []) ∷ at s.Comma 5 (44 ∷ []) ∷ at s.InWord 7 (105 ∷ 110 ∷ []) ∷ at s.Name 10 (121 ∷ []) ∷ at s.Colon 11 (58 ∷ []) ∷ at s.Name 13 (97 ∷ []) ∷ []; nodes = n kinds.TupleTarget 1 (Some 4) None ∷ n kinds.NameTarget 0 (Some 4) (Some (120 ∷ [])) ∷ n kinds.Name 0 (Some 10) (Some (121 ∷ [])) ∷ n kinds.ExpressionStatement 1 (Some 13) None ∷ n kinds.Name 0 (Some 13) (Some (97 ∷ [])) ∷ [] } ∷
    -- for *x, y in z: a
    record { line = at s.ForWord 0 (102 ∷ 111 ∷ 114 ∷ []) ∷ at s.Star 4 (42 ∷ []) ∷ at s.Name 5 (120 ∷ []) ∷ at s.Comma 6 (44 ∷ []) ∷ at s.Name 8 (121 ∷ []) ∷ at s.InWord 10 (105 ∷ 110 ∷ []) ∷ at s.Name 13 (122 ∷ []) ∷ at s.Colon 14 (58 ∷ []) ∷ at s.Name 16 (97 ∷ []) ∷ []; nodes = n kinds.TupleTarget 2 (Some 4) None ∷ n kinds.StarredTarget 1 (Some 4) None ∷ n kinds.NameTarget 0 (Some 5) (Some (120 ∷ [])) ∷ n kinds.NameTarget 0 (Some 8) (Some (121 ∷ [])) ∷ n kinds.Name 0 (Some 13) (Some (122 ∷ [])) ∷ n kinds.ExpressionStatement 1 (Some 16) None ∷ n kinds.Name 0 (Some 16) (Some (97 ∷ [])) ∷ [] } ∷
    -- for (x) in y: a
    record { line = at s.ForWord 0 (102 ∷ 111 ∷ 114 ∷ []) ∷ at s.LeftParen 4 (40 ∷ []) ∷ at s.Name 5 (120 ∷ []) ∷ at s.RightParen 6 (41 ∷ []) ∷ at s.InWord 8 (105 ∷ 110 ∷ []) ∷ at s.Name 11 (121 ∷ []) ∷ at s.Colon 12 (58 ∷ []) ∷ at s.Name 14 (97 ∷ []) ∷ []; nodes = n kinds.NameTarget 0 (Some 5) (Some (120 ∷ [])) ∷ n kinds.Name 0 (Some 11) (Some (121 ∷ [])) ∷ n kinds.ExpressionStatement 1 (Some 14) None ∷ n kinds.Name 0 (Some 14) (Some (97 ∷ [])) ∷ [] } ∷
    -- for (x, y) in z: a
    record { line = at s.ForWord 0 (102 ∷ 111 ∷ 114 ∷ []) ∷ at s.LeftParen 4 (40 ∷ []) ∷ at s.Name 5 (120 ∷ []) ∷ at s.Comma 6 (44 ∷ []) ∷ at s.Name 8 (121 ∷ []) ∷ at s.RightParen 9 (41 ∷ []) ∷ at s.InWord 11 (105 ∷ 110 ∷ []) ∷ at s.Name 14 (122 ∷ []) ∷ at s.Colon 15 (58 ∷ []) ∷ at s.Name 17 (97 ∷ []) ∷ []; nodes = n kinds.TupleTarget 2 (Some 4) None ∷ n kinds.NameTarget 0 (Some 5) (Some (120 ∷ [])) ∷ n kinds.NameTarget 0 (Some 8) (Some (121 ∷ [])) ∷ n kinds.Name 0 (Some 14) (Some (122 ∷ [])) ∷ n kinds.ExpressionStatement 1 (Some 17) None ∷ n kinds.Name 0 (Some 17) (Some (97 ∷ [])) ∷ [] } ∷
    -- for x.y[0] in z: a
    record { line = at s.ForWord 0 (102 ∷ 111 ∷ 114 ∷ []) ∷ at s.Name 4 (120 ∷ []) ∷ at s.Dot 5 (46 ∷ []) ∷ at s.Name 6 (121 ∷ []) ∷ at s.LeftBracket 7 (91 ∷ []) ∷ at s.Number 8 (48 ∷ []) ∷ at s.RightBracket 9 (93 ∷ []) ∷ at s.InWord 11 (105 ∷ 110 ∷ []) ∷ at s.Name 14 (122 ∷ []) ∷ at s.Colon 15 (58 ∷ []) ∷ at s.Name 17 (97 ∷ []) ∷ []; nodes = n kinds.SubscriptTarget 2 (Some 4) None ∷ n kinds.Attribute 1 (Some 4) (Some (121 ∷ [])) ∷ n kinds.Name 0 (Some 4) (Some (120 ∷ [])) ∷ n kinds.NumberLiteral 0 (Some 8) (Some (48 ∷ [])) ∷ n kinds.Name 0 (Some 14) (Some (122 ∷ [])) ∷ n kinds.ExpressionStatement 1 (Some 17) None ∷ n kinds.Name 0 (Some 17) (Some (97 ∷ [])) ∷ [] } ∷
    -- for x in y, *z: a
    record { line = at s.ForWord 0 (102 ∷ 111 ∷ 114 ∷ []) ∷ at s.Name 4 (120 ∷ []) ∷ at s.InWord 6 (105 ∷ 110 ∷ []) ∷ at s.Name 9 (121 ∷ []) ∷ at s.Comma 10 (44 ∷ []) ∷ at s.Star 12 (42 ∷ []) ∷ at s.Name 13 (122 ∷ []) ∷ at s.Colon 14 (58 ∷ []) ∷ at s.Name 16 (97 ∷ []) ∷ []; nodes = n kinds.NameTarget 0 (Some 4) (Some (120 ∷ [])) ∷ n kinds.Tuple 2 (Some 9) None ∷ n kinds.Name 0 (Some 9) (Some (121 ∷ [])) ∷ n kinds.Starred 1 (Some 12) None ∷ n kinds.Name 0 (Some 13) (Some (122 ∷ [])) ∷ n kinds.ExpressionStatement 1 (Some 16) None ∷ n kinds.Name 0 (Some 16) (Some (97 ∷ [])) ∷ [] } ∷
    -- for x in *y, z: a
    record { line = at s.ForWord 0 (102 ∷ 111 ∷ 114 ∷ []) ∷ at s.Name 4 (120 ∷ []) ∷ at s.InWord 6 (105 ∷ 110 ∷ []) ∷ at s.Star 9 (42 ∷ []) ∷ at s.Name 10 (121 ∷ []) ∷ at s.Comma 11 (44 ∷ []) ∷ at s.Name 13 (122 ∷ []) ∷ at s.Colon 14 (58 ∷ []) ∷ at s.Name 16 (97 ∷ []) ∷ []; nodes = n kinds.NameTarget 0 (Some 4) (Some (120 ∷ [])) ∷ n kinds.Tuple 2 (Some 9) None ∷ n kinds.Starred 1 (Some 9) None ∷ n kinds.Name 0 (Some 10) (Some (121 ∷ [])) ∷ n kinds.Name 0 (Some 13) (Some (122 ∷ [])) ∷ n kinds.ExpressionStatement 1 (Some 16) None ∷ n kinds.Name 0 (Some 16) (Some (97 ∷ [])) ∷ [] } ∷
    -- for x in y in z: a
    record { line = at s.ForWord 0 (102 ∷ 111 ∷ 114 ∷ []) ∷ at s.Name 4 (120 ∷ []) ∷ at s.InWord 6 (105 ∷ 110 ∷ []) ∷ at s.Name 9 (121 ∷ []) ∷ at s.InWord 11 (105 ∷ 110 ∷ []) ∷ at s.Name 14 (122 ∷ []) ∷ at s.Colon 15 (58 ∷ []) ∷ at s.Name 17 (97 ∷ []) ∷ []; nodes = n kinds.NameTarget 0 (Some 4) (Some (120 ∷ [])) ∷ n kinds.Comparison 3 (Some 9) None ∷ n kinds.Name 0 (Some 9) (Some (121 ∷ [])) ∷ n kinds.In 0 None None ∷ n kinds.Name 0 (Some 14) (Some (122 ∷ [])) ∷ n kinds.ExpressionStatement 1 (Some 17) None ∷ n kinds.Name 0 (Some 17) (Some (97 ∷ [])) ∷ [] } ∷
    -- try:
    record { line = at s.TryWord 0 (116 ∷ 114 ∷ 121 ∷ []) ∷ at s.Colon 3 (58 ∷ []) ∷ []; nodes = [] } ∷
    -- try: x
    record { line = at s.TryWord 0 (116 ∷ 114 ∷ 121 ∷ []) ∷ at s.Colon 3 (58 ∷ []) ∷ at s.Name 5 (120 ∷ []) ∷ []; nodes = n kinds.ExpressionStatement 1 (Some 5) None ∷ n kinds.Name 0 (Some 5) (Some (120 ∷ [])) ∷ [] } ∷
    -- except:
    record { line = at s.ExceptWord 0 (101 ∷ 120 ∷ 99 ∷ 101 ∷ 112 ∷ 116 ∷ []) ∷ at s.Colon 6 (58 ∷ []) ∷ []; nodes = [] } ∷
    -- except: x
    record { line = at s.ExceptWord 0 (101 ∷ 120 ∷ 99 ∷ 101 ∷ 112 ∷ 116 ∷ []) ∷ at s.Colon 6 (58 ∷ []) ∷ at s.Name 8 (120 ∷ []) ∷ []; nodes = n kinds.ExpressionStatement 1 (Some 8) None ∷ n kinds.Name 0 (Some 8) (Some (120 ∷ [])) ∷ [] } ∷
    -- except x:
    record { line = at s.ExceptWord 0 (101 ∷ 120 ∷ 99 ∷ 101 ∷ 112 ∷ 116 ∷ []) ∷ at s.Name 7 (120 ∷ []) ∷ at s.Colon 8 (58 ∷ []) ∷ []; nodes = n kinds.Name 0 (Some 7) (Some (120 ∷ [])) ∷ [] } ∷
    -- except x as y: z
    record { line = at s.ExceptWord 0 (101 ∷ 120 ∷ 99 ∷ 101 ∷ 112 ∷ 116 ∷ []) ∷ at s.Name 7 (120 ∷ []) ∷ at s.AsWord 9 (97 ∷ 115 ∷ []) ∷ at s.Name 12 (121 ∷ []) ∷ at s.Colon 13 (58 ∷ []) ∷ at s.Name 15 (122 ∷ []) ∷ []; nodes = n kinds.Name 0 (Some 7) (Some (120 ∷ [])) ∷ n kinds.AsName 0 None (Some (121 ∷ [])) ∷ n kinds.ExpressionStatement 1 (Some 15) None ∷ n kinds.Name 0 (Some 15) (Some (122 ∷ [])) ∷ [] } ∷
    -- except (x, y) as z:
    record { line = at s.ExceptWord 0 (101 ∷ 120 ∷ 99 ∷ 101 ∷ 112 ∷ 116 ∷ []) ∷ at s.LeftParen 7 (40 ∷ []) ∷ at s.Name 8 (120 ∷ []) ∷ at s.Comma 9 (44 ∷ []) ∷ at s.Name 11 (121 ∷ []) ∷ at s.RightParen 12 (41 ∷ []) ∷ at s.AsWord 14 (97 ∷ 115 ∷ []) ∷ at s.Name 17 (122 ∷ []) ∷ at s.Colon 18 (58 ∷ []) ∷ []; nodes = n kinds.Tuple 2 (Some 7) None ∷ n kinds.Name 0 (Some 8) (Some (120 ∷ [])) ∷ n kinds.Name 0 (Some 11) (Some (121 ∷ [])) ∷ n kinds.AsName 0 None (Some (122 ∷ [])) ∷ [] } ∷
    -- except* x:
    record { line = at s.ExceptWord 0 (101 ∷ 120 ∷ 99 ∷ 101 ∷ 112 ∷ 116 ∷ []) ∷ at s.Star 6 (42 ∷ []) ∷ at s.Name 8 (120 ∷ []) ∷ at s.Colon 9 (58 ∷ []) ∷ []; nodes = n kinds.Name 0 (Some 8) (Some (120 ∷ [])) ∷ [] } ∷
    -- except* x as y:
    record { line = at s.ExceptWord 0 (101 ∷ 120 ∷ 99 ∷ 101 ∷ 112 ∷ 116 ∷ []) ∷ at s.Star 6 (42 ∷ []) ∷ at s.Name 8 (120 ∷ []) ∷ at s.AsWord 10 (97 ∷ 115 ∷ []) ∷ at s.Name 13 (121 ∷ []) ∷ at s.Colon 14 (58 ∷ []) ∷ []; nodes = n kinds.Name 0 (Some 8) (Some (120 ∷ [])) ∷ n kinds.AsName 0 None (Some (121 ∷ [])) ∷ [] } ∷
    -- finally:
    record { line = at s.FinallyWord 0 (102 ∷ 105 ∷ 110 ∷ 97 ∷ 108 ∷ 108 ∷ 121 ∷ []) ∷ at s.Colon 7 (58 ∷ []) ∷ []; nodes = [] } ∷
    -- finally: x
    record { line = at s.FinallyWord 0 (102 ∷ 105 ∷ 110 ∷ 97 ∷ 108 ∷ 108 ∷ 121 ∷ []) ∷ at s.Colon 7 (58 ∷ []) ∷ at s.Name 9 (120 ∷ []) ∷ []; nodes = n kinds.ExpressionStatement 1 (Some 9) None ∷ n kinds.Name 0 (Some 9) (Some (120 ∷ [])) ∷ [] } ∷
    -- with x:
    record { line = at s.WithWord 0 (119 ∷ 105 ∷ 116 ∷ 104 ∷ []) ∷ at s.Name 5 (120 ∷ []) ∷ at s.Colon 6 (58 ∷ []) ∷ []; nodes = n kinds.WithItem 1 None None ∷ n kinds.Name 0 (Some 5) (Some (120 ∷ [])) ∷ [] } ∷
    -- with x as y:
    record { line = at s.WithWord 0 (119 ∷ 105 ∷ 116 ∷ 104 ∷ []) ∷ at s.Name 5 (120 ∷ []) ∷ at s.AsWord 7 (97 ∷ 115 ∷ []) ∷ at s.Name 10 (121 ∷ []) ∷ at s.Colon 11 (58 ∷ []) ∷ []; nodes = n kinds.WithItem 2 None None ∷ n kinds.Name 0 (Some 5) (Some (120 ∷ [])) ∷ n kinds.NameTarget 0 (Some 10) (Some (121 ∷ [])) ∷ [] } ∷
    -- with x as y, z as w:
    record { line = at s.WithWord 0 (119 ∷ 105 ∷ 116 ∷ 104 ∷ []) ∷ at s.Name 5 (120 ∷ []) ∷ at s.AsWord 7 (97 ∷ 115 ∷ []) ∷ at s.Name 10 (121 ∷ []) ∷ at s.Comma 11 (44 ∷ []) ∷ at s.Name 13 (122 ∷ []) ∷ at s.AsWord 15 (97 ∷ 115 ∷ []) ∷ at s.Name 18 (119 ∷ []) ∷ at s.Colon 19 (58 ∷ []) ∷ []; nodes = n kinds.WithItem 2 None None ∷ n kinds.Name 0 (Some 5) (Some (120 ∷ [])) ∷ n kinds.NameTarget 0 (Some 10) (Some (121 ∷ [])) ∷ n kinds.WithItem 2 None None ∷ n kinds.Name 0 (Some 13) (Some (122 ∷ [])) ∷ n kinds.NameTarget 0 (Some 18) (Some (119 ∷ [])) ∷ [] } ∷
    -- with x, y:
    record { line = at s.WithWord 0 (119 ∷ 105 ∷ 116 ∷ 104 ∷ []) ∷ at s.Name 5 (120 ∷ []) ∷ at s.Comma 6 (44 ∷ []) ∷ at s.Name 8 (121 ∷ []) ∷ at s.Colon 9 (58 ∷ []) ∷ []; nodes = n kinds.WithItem 1 None None ∷ n kinds.Name 0 (Some 5) (Some (120 ∷ [])) ∷ n kinds.WithItem 1 None None ∷ n kinds.Name 0 (Some 8) (Some (121 ∷ [])) ∷ [] } ∷
    -- with x as (y, z):
    record { line = at s.WithWord 0 (119 ∷ 105 ∷ 116 ∷ 104 ∷ []) ∷ at s.Name 5 (120 ∷ []) ∷ at s.AsWord 7 (97 ∷ 115 ∷ []) ∷ at s.LeftParen 10 (40 ∷ []) ∷ at s.Name 11 (121 ∷ []) ∷ at s.Comma 12 (44 ∷ []) ∷ at s.Name 14 (122 ∷ []) ∷ at s.RightParen 15 (41 ∷ []) ∷ at s.Colon 16 (58 ∷ []) ∷ []; nodes = n kinds.WithItem 2 None None ∷ n kinds.Name 0 (Some 5) (Some (120 ∷ [])) ∷ n kinds.TupleTarget 2 (Some 10) None ∷ n kinds.NameTarget 0 (Some 11) (Some (121 ∷ [])) ∷ n kinds.NameTarget 0 (Some 14) (Some (122 ∷ [])) ∷ [] } ∷
    -- with x as y.z, w as v[0]: a
    record { line = at s.WithWord 0 (119 ∷ 105 ∷ 116 ∷ 104 ∷ []) ∷ at s.Name 5 (120 ∷ []) ∷ at s.AsWord 7 (97 ∷ 115 ∷ []) ∷ at s.Name 10 (121 ∷ []) ∷ at s.Dot 11 (46 ∷ []) ∷ at s.Name 12 (122 ∷ []) ∷ at s.Comma 13 (44 ∷ []) ∷ at s.Name 15 (119 ∷ []) ∷ at s.AsWord 17 (97 ∷ 115 ∷ []) ∷ at s.Name 20 (118 ∷ []) ∷ at s.LeftBracket 21 (91 ∷ []) ∷ at s.Number 22 (48 ∷ []) ∷ at s.RightBracket 23 (93 ∷ []) ∷ at s.Colon 24 (58 ∷ []) ∷ at s.Name 26 (97 ∷ []) ∷ []; nodes = n kinds.WithItem 2 None None ∷ n kinds.Name 0 (Some 5) (Some (120 ∷ [])) ∷ n kinds.AttributeTarget 1 (Some 10) (Some (122 ∷ [])) ∷ n kinds.Name 0 (Some 10) (Some (121 ∷ [])) ∷ n kinds.WithItem 2 None None ∷ n kinds.Name 0 (Some 15) (Some (119 ∷ [])) ∷ n kinds.SubscriptTarget 2 (Some 20) None ∷ n kinds.Name 0 (Some 20) (Some (118 ∷ [])) ∷ n kinds.NumberLiteral 0 (Some 22) (Some (48 ∷ [])) ∷ n kinds.ExpressionStatement 1 (Some 26) None ∷ n kinds.Name 0 (Some 26) (Some (97 ∷ [])) ∷ [] } ∷
    -- with (x):
    record { line = at s.WithWord 0 (119 ∷ 105 ∷ 116 ∷ 104 ∷ []) ∷ at s.LeftParen 5 (40 ∷ []) ∷ at s.Name 6 (120 ∷ []) ∷ at s.RightParen 7 (41 ∷ []) ∷ at s.Colon 8 (58 ∷ []) ∷ []; nodes = n kinds.WithItem 1 None None ∷ n kinds.Name 0 (Some 6) (Some (120 ∷ [])) ∷ [] } ∷
    -- with (x, y):
    record { line = at s.WithWord 0 (119 ∷ 105 ∷ 116 ∷ 104 ∷ []) ∷ at s.LeftParen 5 (40 ∷ []) ∷ at s.Name 6 (120 ∷ []) ∷ at s.Comma 7 (44 ∷ []) ∷ at s.Name 9 (121 ∷ []) ∷ at s.RightParen 10 (41 ∷ []) ∷ at s.Colon 11 (58 ∷ []) ∷ []; nodes = n kinds.WithItem 1 None None ∷ n kinds.Name 0 (Some 6) (Some (120 ∷ [])) ∷ n kinds.WithItem 1 None None ∷ n kinds.Name 0 (Some 9) (Some (121 ∷ [])) ∷ [] } ∷
    -- with (x as y):
    record { line = at s.WithWord 0 (119 ∷ 105 ∷ 116 ∷ 104 ∷ []) ∷ at s.LeftParen 5 (40 ∷ []) ∷ at s.Name 6 (120 ∷ []) ∷ at s.AsWord 8 (97 ∷ 115 ∷ []) ∷ at s.Name 11 (121 ∷ []) ∷ at s.RightParen 12 (41 ∷ []) ∷ at s.Colon 13 (58 ∷ []) ∷ []; nodes = n kinds.WithItem 2 None None ∷ n kinds.Name 0 (Some 6) (Some (120 ∷ [])) ∷ n kinds.NameTarget 0 (Some 11) (Some (121 ∷ [])) ∷ [] } ∷
    -- with (x as y,):
    record { line = at s.WithWord 0 (119 ∷ 105 ∷ 116 ∷ 104 ∷ []) ∷ at s.LeftParen 5 (40 ∷ []) ∷ at s.Name 6 (120 ∷ []) ∷ at s.AsWord 8 (97 ∷ 115 ∷ []) ∷ at s.Name 11 (121 ∷ []) ∷ at s.Comma 12 (44 ∷ []) ∷ at s.RightParen 13 (41 ∷ []) ∷ at s.Colon 14 (58 ∷ []) ∷ []; nodes = n kinds.WithItem 2 None None ∷ n kinds.Name 0 (Some 6) (Some (120 ∷ [])) ∷ n kinds.NameTarget 0 (Some 11) (Some (121 ∷ [])) ∷ [] } ∷
    -- with (x as y, z):
    record { line = at s.WithWord 0 (119 ∷ 105 ∷ 116 ∷ 104 ∷ []) ∷ at s.LeftParen 5 (40 ∷ []) ∷ at s.Name 6 (120 ∷ []) ∷ at s.AsWord 8 (97 ∷ 115 ∷ []) ∷ at s.Name 11 (121 ∷ []) ∷ at s.Comma 12 (44 ∷ []) ∷ at s.Name 14 (122 ∷ []) ∷ at s.RightParen 15 (41 ∷ []) ∷ at s.Colon 16 (58 ∷ []) ∷ []; nodes = n kinds.WithItem 2 None None ∷ n kinds.Name 0 (Some 6) (Some (120 ∷ [])) ∷ n kinds.NameTarget 0 (Some 11) (Some (121 ∷ [])) ∷ n kinds.WithItem 1 None None ∷ n kinds.Name 0 (Some 14) (Some (122 ∷ [])) ∷ [] } ∷
    -- with (x, y) as z:
    record { line = at s.WithWord 0 (119 ∷ 105 ∷ 116 ∷ 104 ∷ []) ∷ at s.LeftParen 5 (40 ∷ []) ∷ at s.Name 6 (120 ∷ []) ∷ at s.Comma 7 (44 ∷ []) ∷ at s.Name 9 (121 ∷ []) ∷ at s.RightParen 10 (41 ∷ []) ∷ at s.AsWord 12 (97 ∷ 115 ∷ []) ∷ at s.Name 15 (122 ∷ []) ∷ at s.Colon 16 (58 ∷ []) ∷ []; nodes = n kinds.WithItem 2 None None ∷ n kinds.Tuple 2 (Some 5) None ∷ n kinds.Name 0 (Some 6) (Some (120 ∷ [])) ∷ n kinds.Name 0 (Some 9) (Some (121 ∷ [])) ∷ n kinds.NameTarget 0 (Some 15) (Some (122 ∷ [])) ∷ [] } ∷
    []

-- each line has the nodes that are said
rows_hold : map nodes_of_line rows ≡ map said rows
unfolding star_at named_at element_at sx_item_at sx_at yield_at target_item_at targets_at for_clause_at clause_at clauses_at more_elements_at parenthesized_at list_display_at item_or_named_at unpacked_at brace_entry_at more_entries_at brace_display_at starred_argument_at plain_argument_at argument_at arguments_at more_arguments_at call_arguments_at slice_rest_at slice_at slices_item_at slices_at trailer_at field_expression_at inner_field_at field_at string_part_at strings_at atom_at primary_at awaited_at power_at factor_at term_at arith_at shift_at bit_and_at bit_xor_at bit_or_at comparison_sign_at comparison_at not_at and_at or_at lambda_parameter_at lambda_parameters_at lambda_at test_at signed_number_at number_pattern_at literal_at dotted_name_at class_argument_at class_arguments_at name_pattern_at star_pattern_at sequence_item_at parenthesized_pattern_at bracketed_pattern_at mapping_item_at mapping_pattern_at closed_pattern_at or_pattern_at pattern_at open_patterns_at value_at assigned_value_at return_at raise_at declaration_at delete_at assert_at as_name_at module_name_at import_at imported_name_at imported_names_at source_at import_from_at keyword_statement_at value_statement_at statement_at statements_at parameter_annotation_at star_annotation_at parameter_at parameters_at for_header_at except_header_at except_star_header_at with_item_at plain_with_at parenthesized_with_at function_header_at class_header_at subject_at match_header_at case_header_at decorator_line_at reader_of phrase_at headed_at bare_at simple_at with_at async_line_at except_line_at line_by line_at
rows_hold = refl
