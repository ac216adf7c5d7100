-- Lines with the nodes that Python's own parser gives them, in preorder, computed from the readers of the definition: rows
-- that tools/grammar_trees.py writes.
use Rattle.std.specs.Prelude.{List, [], ◌∷◌, Some, None, map}
use Rattle.std.proofs.Common.{◌≡◌, refl}
use Rattle.tree_nodes.specs.declared.kind.Kind.TheVariants as kinds
use Rattle.py_grammar.specs.declared.symbol.Symbol.TheVariants as s
use Rattle.py_grammar.proofs.TryingTrees.{Row, at, n, nodes_of_line, said}
use Rattle.py_grammar.specs.Reading.{star_at, named_at, element_at, sx_item_at, sx_at, yield_at, target_item_at, targets_at, for_clause_at, clause_at, clauses_at, more_elements_at, parenthesized_at, list_display_at, item_or_named_at, unpacked_at, brace_entry_at, more_entries_at, brace_display_at, starred_argument_at, plain_argument_at, argument_at, arguments_at, more_arguments_at, call_arguments_at, slice_rest_at, slice_at, slices_item_at, slices_at, trailer_at, field_expression_at, inner_field_at, field_at, string_part_at, strings_at, atom_at, primary_at, awaited_at, power_at, factor_at, term_at, arith_at, shift_at, bit_and_at, bit_xor_at, bit_or_at, comparison_sign_at, comparison_at, not_at, and_at, or_at, lambda_parameter_at, lambda_parameters_at, lambda_at, test_at}
use Rattle.py_grammar.specs.ReadingPatterns.{signed_number_at, number_pattern_at, literal_at, dotted_name_at, class_argument_at, class_arguments_at, name_pattern_at, star_pattern_at, sequence_item_at, parenthesized_pattern_at, bracketed_pattern_at, mapping_item_at, mapping_pattern_at, closed_pattern_at, or_pattern_at, pattern_at, open_patterns_at}
use Rattle.py_grammar.specs.ReadingStatements.{value_at, assigned_value_at, return_at, raise_at, declaration_at, delete_at, assert_at, as_name_at, module_name_at, import_at, imported_name_at, imported_names_at, source_at, import_from_at, keyword_statement_at, value_statement_at, statement_at, statements_at}
use Rattle.py_grammar.specs.ReadingHeaders.{parameter_annotation_at, star_annotation_at, parameter_at, parameters_at, for_header_at, except_header_at, except_star_header_at, with_item_at, plain_with_at, parenthesized_with_at, function_header_at, class_header_at, subject_at, match_header_at, case_header_at, decorator_line_at}
use Rattle.py_grammar.specs.ReadingLines.{reader_of, phrase_at, headed_at, bare_at, simple_at, with_at, async_line_at, except_line_at, line_by, line_at}

abbrev rows : List Row
rows =
    -- yield
    record { line = at s.YieldWord 0 (121 ∷ 105 ∷ 101 ∷ 108 ∷ 100 ∷ []) ∷ []; nodes = n kinds.ExpressionStatement 1 (Some 0) None ∷ n kinds.Yield 0 (Some 0) None ∷ [] } ∷
    -- yield a, b
    record { line = at s.YieldWord 0 (121 ∷ 105 ∷ 101 ∷ 108 ∷ 100 ∷ []) ∷ at s.Name 6 (97 ∷ []) ∷ at s.Comma 7 (44 ∷ []) ∷ at s.Name 9 (98 ∷ []) ∷ []; nodes = n kinds.ExpressionStatement 1 (Some 0) None ∷ n kinds.Yield 1 (Some 0) None ∷ n kinds.Tuple 2 (Some 6) None ∷ n kinds.Name 0 (Some 6) (Some (97 ∷ [])) ∷ n kinds.Name 0 (Some 9) (Some (98 ∷ [])) ∷ [] } ∷
    -- yield *a
    record { line = at s.YieldWord 0 (121 ∷ 105 ∷ 101 ∷ 108 ∷ 100 ∷ []) ∷ at s.Star 6 (42 ∷ []) ∷ at s.Name 7 (97 ∷ []) ∷ []; nodes = n kinds.ExpressionStatement 1 (Some 0) None ∷ n kinds.Yield 1 (Some 0) None ∷ n kinds.Starred 1 (Some 6) None ∷ n kinds.Name 0 (Some 7) (Some (97 ∷ [])) ∷ [] } ∷
    -- []
    record { line = at s.LeftBracket 0 (91 ∷ []) ∷ at s.RightBracket 1 (93 ∷ []) ∷ []; nodes = n kinds.ExpressionStatement 1 (Some 0) None ∷ n kinds.List 0 (Some 0) None ∷ [] } ∷
    -- [a]
    record { line = at s.LeftBracket 0 (91 ∷ []) ∷ at s.Name 1 (97 ∷ []) ∷ at s.RightBracket 2 (93 ∷ []) ∷ []; nodes = n kinds.ExpressionStatement 1 (Some 0) None ∷ n kinds.List 1 (Some 0) None ∷ n kinds.Name 0 (Some 1) (Some (97 ∷ [])) ∷ [] } ∷
    -- [a, *b,]
    record { line = at s.LeftBracket 0 (91 ∷ []) ∷ at s.Name 1 (97 ∷ []) ∷ at s.Comma 2 (44 ∷ []) ∷ at s.Star 4 (42 ∷ []) ∷ at s.Name 5 (98 ∷ []) ∷ at s.Comma 6 (44 ∷ []) ∷ at s.RightBracket 7 (93 ∷ []) ∷ []; nodes = n kinds.ExpressionStatement 1 (Some 0) None ∷ n kinds.List 2 (Some 0) None ∷ n kinds.Name 0 (Some 1) (Some (97 ∷ [])) ∷ n kinds.Starred 1 (Some 4) None ∷ n kinds.Name 0 (Some 5) (Some (98 ∷ [])) ∷ [] } ∷
    -- [*a]
    record { line = at s.LeftBracket 0 (91 ∷ []) ∷ at s.Star 1 (42 ∷ []) ∷ at s.Name 2 (97 ∷ []) ∷ at s.RightBracket 3 (93 ∷ []) ∷ []; nodes = n kinds.ExpressionStatement 1 (Some 0) None ∷ n kinds.List 1 (Some 0) None ∷ n kinds.Starred 1 (Some 1) None ∷ n kinds.Name 0 (Some 2) (Some (97 ∷ [])) ∷ [] } ∷
    -- [a for a in b]
    record { line = at s.LeftBracket 0 (91 ∷ []) ∷ at s.Name 1 (97 ∷ []) ∷ at s.ForWord 3 (102 ∷ 111 ∷ 114 ∷ []) ∷ at s.Name 7 (97 ∷ []) ∷ at s.InWord 9 (105 ∷ 110 ∷ []) ∷ at s.Name 12 (98 ∷ []) ∷ at s.RightBracket 13 (93 ∷ []) ∷ []; nodes = n kinds.ExpressionStatement 1 (Some 0) None ∷ n kinds.ListComprehension 2 (Some 0) None ∷ n kinds.Name 0 (Some 1) (Some (97 ∷ [])) ∷ n kinds.ComprehensionFor 2 None None ∷ n kinds.NameTarget 0 (Some 7) (Some (97 ∷ [])) ∷ n kinds.Name 0 (Some 12) (Some (98 ∷ [])) ∷ [] } ∷
    -- [a for a in b if c if d for e in f]
    record { line = at s.LeftBracket 0 (91 ∷ []) ∷ at s.Name 1 (97 ∷ []) ∷ at s.ForWord 3 (102 ∷ 111 ∷ 114 ∷ []) ∷ at s.Name 7 (97 ∷ []) ∷ at s.InWord 9 (105 ∷ 110 ∷ []) ∷ at s.Name 12 (98 ∷ []) ∷ at s.IfWord 14 (105 ∷ 102 ∷ []) ∷ at s.Name 17 (99 ∷ []) ∷ at s.IfWord 19 (105 ∷ 102 ∷ []) ∷ at s.Name 22 (100 ∷ []) ∷ at s.ForWord 24 (102 ∷ 111 ∷ 114 ∷ []) ∷ at s.Name 28 (101 ∷ []) ∷ at s.InWord 30 (105 ∷ 110 ∷ []) ∷ at s.Name 33 (102 ∷ []) ∷ at s.RightBracket 34 (93 ∷ []) ∷ []; nodes = n kinds.ExpressionStatement 1 (Some 0) None ∷ n kinds.ListComprehension 3 (Some 0) None ∷ n kinds.Name 0 (Some 1) (Some (97 ∷ [])) ∷ n kinds.ComprehensionFor 4 None None ∷ n kinds.NameTarget 0 (Some 7) (Some (97 ∷ [])) ∷ n kinds.Name 0 (Some 12) (Some (98 ∷ [])) ∷ n kinds.Name 0 (Some 17) (Some (99 ∷ [])) ∷ n kinds.Name 0 (Some 22) (Some (100 ∷ [])) ∷ n kinds.ComprehensionFor 2 None None ∷ n kinds.NameTarget 0 (Some 28) (Some (101 ∷ [])) ∷ n kinds.Name 0 (Some 33) (Some (102 ∷ [])) ∷ [] } ∷
    -- [a for a, b in c]
    record { line = at s.LeftBracket 0 (91 ∷ []) ∷ at s.Name 1 (97 ∷ []) ∷ at s.ForWord 3 (102 ∷ 111 ∷ 114 ∷ []) ∷ at s.Name 7 (97 ∷ []) ∷ at s.Comma 8 (44 ∷ []) ∷ at s.Name 10 (98 ∷ []) ∷ at s.InWord 12 (105 ∷ 110 ∷ []) ∷ at s.Name 15 (99 ∷ []) ∷ at s.RightBracket 16 (93 ∷ []) ∷ []; nodes = n kinds.ExpressionStatement 1 (Some 0) None ∷ n kinds.ListComprehension 2 (Some 0) None ∷ n kinds.Name 0 (Some 1) (Some (97 ∷ [])) ∷ n kinds.ComprehensionFor 2 None None ∷ n kinds.TupleTarget 2 (Some 7) None ∷ n kinds.NameTarget 0 (Some 7) (Some (97 ∷ [])) ∷ n kinds.NameTarget 0 (Some 10) (Some (98 ∷ [])) ∷ n kinds.Name 0 (Some 15) (Some (99 ∷ [])) ∷ [] } ∷
    -- [a for a, in c]
    record { line = at s.LeftBracket 0 (91 ∷ []) ∷ at s.Name 1 (97 ∷ []) ∷ at s.ForWord 3 (102 ∷ 111 ∷ 114 ∷ []) ∷ at s.Name 7 (97 ∷ []) ∷ at s.Comma 8 (44 ∷ []) ∷ at s.InWord 10 (105 ∷ 110 ∷ []) ∷ at s.Name 13 (99 ∷ []) ∷ at s.RightBracket 14 (93 ∷ []) ∷ []; nodes = n kinds.ExpressionStatement 1 (Some 0) None ∷ n kinds.ListComprehension 2 (Some 0) None ∷ n kinds.Name 0 (Some 1) (Some (97 ∷ [])) ∷ n kinds.ComprehensionFor 2 None None ∷ n kinds.TupleTarget 1 (Some 7) None ∷ n kinds.NameTarget 0 (Some 7) (Some (97 ∷ [])) ∷ n kinds.Name 0 (Some 13) (Some (99 ∷ [])) ∷ [] } ∷
    -- [a for *a in b]
    record { line = at s.LeftBracket 0 (91 ∷ []) ∷ at s.Name 1 (97 ∷ []) ∷ at s.ForWord 3 (102 ∷ 111 ∷ 114 ∷ []) ∷ at s.Star 7 (42 ∷ []) ∷ at s.Name 8 (97 ∷ []) ∷ at s.InWord 10 (105 ∷ 110 ∷ []) ∷ at s.Name 13 (98 ∷ []) ∷ at s.RightBracket 14 (93 ∷ []) ∷ []; nodes = n kinds.ExpressionStatement 1 (Some 0) None ∷ n kinds.ListComprehension 2 (Some 0) None ∷ n kinds.Name 0 (Some 1) (Some (97 ∷ [])) ∷ n kinds.ComprehensionFor 2 None None ∷ n kinds.StarredTarget 1 (Some 7) None ∷ n kinds.NameTarget 0 (Some 8) (Some (97 ∷ [])) ∷ n kinds.Name 0 (Some 13) (Some (98 ∷ [])) ∷ [] } ∷
    -- [a for a.b in c]
    record { line = at s.LeftBracket 0 (91 ∷ []) ∷ at s.Name 1 (97 ∷ []) ∷ at s.ForWord 3 (102 ∷ 111 ∷ 114 ∷ []) ∷ at s.Name 7 (97 ∷ []) ∷ at s.Dot 8 (46 ∷ []) ∷ at s.Name 9 (98 ∷ []) ∷ at s.InWord 11 (105 ∷ 110 ∷ []) ∷ at s.Name 14 (99 ∷ []) ∷ at s.RightBracket 15 (93 ∷ []) ∷ []; nodes = n kinds.ExpressionStatement 1 (Some 0) None ∷ n kinds.ListComprehension 2 (Some 0) None ∷ n kinds.Name 0 (Some 1) (Some (97 ∷ [])) ∷ n kinds.ComprehensionFor 2 None None ∷ n kinds.AttributeTarget 1 (Some 7) (Some (98 ∷ [])) ∷ n kinds.Name 0 (Some 7) (Some (97 ∷ [])) ∷ n kinds.Name 0 (Some 14) (Some (99 ∷ [])) ∷ [] } ∷
    -- [a async for a in b]
    record { line = at s.LeftBracket 0 (91 ∷ []) ∷ at s.Name 1 (97 ∷ []) ∷ at s.AsyncWord 3 (97 ∷ 115 ∷ 121 ∷ 110 ∷ 99 ∷ []) ∷ at s.ForWord 9 (102 ∷ 111 ∷ 114 ∷ []) ∷ at s.Name 13 (97 ∷ []) ∷ at s.InWord 15 (105 ∷ 110 ∷ []) ∷ at s.Name 18 (98 ∷ []) ∷ at s.RightBracket 19 (93 ∷ []) ∷ []; nodes = n kinds.ExpressionStatement 1 (Some 0) None ∷ n kinds.ListComprehension 2 (Some 0) None ∷ n kinds.Name 0 (Some 1) (Some (97 ∷ [])) ∷ n kinds.AsyncComprehensionFor 2 None None ∷ n kinds.NameTarget 0 (Some 13) (Some (97 ∷ [])) ∷ n kinds.Name 0 (Some 18) (Some (98 ∷ [])) ∷ [] } ∷
    -- {a}
    record { line = at s.LeftBrace 0 (123 ∷ []) ∷ at s.Name 1 (97 ∷ []) ∷ at s.RightBrace 2 (125 ∷ []) ∷ []; nodes = n kinds.ExpressionStatement 1 (Some 0) None ∷ n kinds.Set 1 (Some 0) None ∷ n kinds.Name 0 (Some 1) (Some (97 ∷ [])) ∷ [] } ∷
    -- {a, *b}
    record { line = at s.LeftBrace 0 (123 ∷ []) ∷ at s.Name 1 (97 ∷ []) ∷ at s.Comma 2 (44 ∷ []) ∷ at s.Star 4 (42 ∷ []) ∷ at s.Name 5 (98 ∷ []) ∷ at s.RightBrace 6 (125 ∷ []) ∷ []; nodes = n kinds.ExpressionStatement 1 (Some 0) None ∷ n kinds.Set 2 (Some 0) None ∷ n kinds.Name 0 (Some 1) (Some (97 ∷ [])) ∷ n kinds.Starred 1 (Some 4) None ∷ n kinds.Name 0 (Some 5) (Some (98 ∷ [])) ∷ [] } ∷
    -- {a: b}
    record { line = at s.LeftBrace 0 (123 ∷ []) ∷ at s.Name 1 (97 ∷ []) ∷ at s.Colon 2 (58 ∷ []) ∷ at s.Name 4 (98 ∷ []) ∷ at s.RightBrace 5 (125 ∷ []) ∷ []; nodes = n kinds.ExpressionStatement 1 (Some 0) None ∷ n kinds.Dict 1 (Some 0) None ∷ n kinds.DictItem 2 None None ∷ n kinds.Name 0 (Some 1) (Some (97 ∷ [])) ∷ n kinds.Name 0 (Some 4) (Some (98 ∷ [])) ∷ [] } ∷
    -- {a: b, **c,}
    record { line = at s.LeftBrace 0 (123 ∷ []) ∷ at s.Name 1 (97 ∷ []) ∷ at s.Colon 2 (58 ∷ []) ∷ at s.Name 4 (98 ∷ []) ∷ at s.Comma 5 (44 ∷ []) ∷ at s.DoubleStar 7 (42 ∷ 42 ∷ []) ∷ at s.Name 9 (99 ∷ []) ∷ at s.Comma 10 (44 ∷ []) ∷ at s.RightBrace 11 (125 ∷ []) ∷ []; nodes = n kinds.ExpressionStatement 1 (Some 0) None ∷ n kinds.Dict 2 (Some 0) None ∷ n kinds.DictItem 2 None None ∷ n kinds.Name 0 (Some 1) (Some (97 ∷ [])) ∷ n kinds.Name 0 (Some 4) (Some (98 ∷ [])) ∷ n kinds.DictUnpack 1 None None ∷ n kinds.Name 0 (Some 9) (Some (99 ∷ [])) ∷ [] } ∷
    -- {**a}
    record { line = at s.LeftBrace 0 (123 ∷ []) ∷ at s.DoubleStar 1 (42 ∷ 42 ∷ []) ∷ at s.Name 3 (97 ∷ []) ∷ at s.RightBrace 4 (125 ∷ []) ∷ []; nodes = n kinds.ExpressionStatement 1 (Some 0) None ∷ n kinds.Dict 1 (Some 0) None ∷ n kinds.DictUnpack 1 None None ∷ n kinds.Name 0 (Some 3) (Some (97 ∷ [])) ∷ [] } ∷
    -- {a: b for a in c}
    record { line = at s.LeftBrace 0 (123 ∷ []) ∷ at s.Name 1 (97 ∷ []) ∷ at s.Colon 2 (58 ∷ []) ∷ at s.Name 4 (98 ∷ []) ∷ at s.ForWord 6 (102 ∷ 111 ∷ 114 ∷ []) ∷ at s.Name 10 (97 ∷ []) ∷ at s.InWord 12 (105 ∷ 110 ∷ []) ∷ at s.Name 15 (99 ∷ []) ∷ at s.RightBrace 16 (125 ∷ []) ∷ []; nodes = n kinds.ExpressionStatement 1 (Some 0) None ∷ n kinds.DictComprehension 2 (Some 0) None ∷ n kinds.DictItem 2 None None ∷ n kinds.Name 0 (Some 1) (Some (97 ∷ [])) ∷ n kinds.Name 0 (Some 4) (Some (98 ∷ [])) ∷ n kinds.ComprehensionFor 2 None None ∷ n kinds.NameTarget 0 (Some 10) (Some (97 ∷ [])) ∷ n kinds.Name 0 (Some 15) (Some (99 ∷ [])) ∷ [] } ∷
    -- {a for a in c}
    record { line = at s.LeftBrace 0 (123 ∷ []) ∷ at s.Name 1 (97 ∷ []) ∷ at s.ForWord 3 (102 ∷ 111 ∷ 114 ∷ []) ∷ at s.Name 7 (97 ∷ []) ∷ at s.InWord 9 (105 ∷ 110 ∷ []) ∷ at s.Name 12 (99 ∷ []) ∷ at s.RightBrace 13 (125 ∷ []) ∷ []; nodes = n kinds.ExpressionStatement 1 (Some 0) None ∷ n kinds.SetComprehension 2 (Some 0) None ∷ n kinds.Name 0 (Some 1) (Some (97 ∷ [])) ∷ n kinds.ComprehensionFor 2 None None ∷ n kinds.NameTarget 0 (Some 7) (Some (97 ∷ [])) ∷ n kinds.Name 0 (Some 12) (Some (99 ∷ [])) ∷ [] } ∷
    -- {a := 1}
    record { line = at s.LeftBrace 0 (123 ∷ []) ∷ at s.Name 1 (97 ∷ []) ∷ at s.Walrus 3 (58 ∷ 61 ∷ []) ∷ at s.Number 6 (49 ∷ []) ∷ at s.RightBrace 7 (125 ∷ []) ∷ []; nodes = n kinds.ExpressionStatement 1 (Some 0) None ∷ n kinds.Set 1 (Some 0) None ∷ n kinds.NamedExpression 1 (Some 1) (Some (97 ∷ [])) ∷ n kinds.NumberLiteral 0 (Some 6) (Some (49 ∷ [])) ∷ [] } ∷
    -- a[b]
    record { line = at s.Name 0 (97 ∷ []) ∷ at s.LeftBracket 1 (91 ∷ []) ∷ at s.Name 2 (98 ∷ []) ∷ at s.RightBracket 3 (93 ∷ []) ∷ []; nodes = n kinds.ExpressionStatement 1 (Some 0) None ∷ n kinds.Subscript 2 (Some 0) None ∷ n kinds.Name 0 (Some 0) (Some (97 ∷ [])) ∷ n kinds.Name 0 (Some 2) (Some (98 ∷ [])) ∷ [] } ∷
    -- a[b, c]
    record { line = at s.Name 0 (97 ∷ []) ∷ at s.LeftBracket 1 (91 ∷ []) ∷ at s.Name 2 (98 ∷ []) ∷ at s.Comma 3 (44 ∷ []) ∷ at s.Name 5 (99 ∷ []) ∷ at s.RightBracket 6 (93 ∷ []) ∷ []; nodes = n kinds.ExpressionStatement 1 (Some 0) None ∷ n kinds.Subscript 2 (Some 0) None ∷ n kinds.Name 0 (Some 0) (Some (97 ∷ [])) ∷ n kinds.Slices 2 (Some 2) None ∷ n kinds.Name 0 (Some 2) (Some (98 ∷ [])) ∷ n kinds.Name 0 (Some 5) (Some (99 ∷ [])) ∷ [] } ∷
    -- a[b:c]
    record { line = at s.Name 0 (97 ∷ []) ∷ at s.LeftBracket 1 (91 ∷ []) ∷ at s.Name 2 (98 ∷ []) ∷ at s.Colon 3 (58 ∷ []) ∷ at s.Name 4 (99 ∷ []) ∷ at s.RightBracket 5 (93 ∷ []) ∷ []; nodes = n kinds.ExpressionStatement 1 (Some 0) None ∷ n kinds.Subscript 2 (Some 0) None ∷ n kinds.Name 0 (Some 0) (Some (97 ∷ [])) ∷ n kinds.Slice 3 (Some 2) None ∷ n kinds.Name 0 (Some 2) (Some (98 ∷ [])) ∷ n kinds.SliceColon 0 None None ∷ n kinds.Name 0 (Some 4) (Some (99 ∷ [])) ∷ [] } ∷
    -- a[b:c:d]
    record { line = at s.Name 0 (97 ∷ []) ∷ at s.LeftBracket 1 (91 ∷ []) ∷ at s.Name 2 (98 ∷ []) ∷ at s.Colon 3 (58 ∷ []) ∷ at s.Name 4 (99 ∷ []) ∷ at s.Colon 5 (58 ∷ []) ∷ at s.Name 6 (100 ∷ []) ∷ at s.RightBracket 7 (93 ∷ []) ∷ []; nodes = n kinds.ExpressionStatement 1 (Some 0) None ∷ n kinds.Subscript 2 (Some 0) None ∷ n kinds.Name 0 (Some 0) (Some (97 ∷ [])) ∷ n kinds.Slice 5 (Some 2) None ∷ n kinds.Name 0 (Some 2) (Some (98 ∷ [])) ∷ n kinds.SliceColon 0 None None ∷ n kinds.Name 0 (Some 4) (Some (99 ∷ [])) ∷ n kinds.SliceColon 0 None None ∷ n kinds.Name 0 (Some 6) (Some (100 ∷ [])) ∷ [] } ∷
    -- a[:]
    record { line = at s.Name 0 (97 ∷ []) ∷ at s.LeftBracket 1 (91 ∷ []) ∷ at s.Colon 2 (58 ∷ []) ∷ at s.RightBracket 3 (93 ∷ []) ∷ []; nodes = n kinds.ExpressionStatement 1 (Some 0) None ∷ n kinds.Subscript 2 (Some 0) None ∷ n kinds.Name 0 (Some 0) (Some (97 ∷ [])) ∷ n kinds.Slice 1 (Some 2) None ∷ n kinds.SliceColon 0 None None ∷ [] } ∷
    -- a[::]
    record { line = at s.Name 0 (97 ∷ []) ∷ at s.LeftBracket 1 (91 ∷ []) ∷ at s.Colon 2 (58 ∷ []) ∷ at s.Colon 3 (58 ∷ []) ∷ at s.RightBracket 4 (93 ∷ []) ∷ []; nodes = n kinds.ExpressionStatement 1 (Some 0) None ∷ n kinds.Subscript 2 (Some 0) None ∷ n kinds.Name 0 (Some 0) (Some (97 ∷ [])) ∷ n kinds.Slice 2 (Some 2) None ∷ n kinds.SliceColon 0 None None ∷ n kinds.SliceColon 0 None None ∷ [] } ∷
    -- a[::, b]
    record { line = at s.Name 0 (97 ∷ []) ∷ at s.LeftBracket 1 (91 ∷ []) ∷ at s.Colon 2 (58 ∷ []) ∷ at s.Colon 3 (58 ∷ []) ∷ at s.Comma 4 (44 ∷ []) ∷ at s.Name 6 (98 ∷ []) ∷ at s.RightBracket 7 (93 ∷ []) ∷ []; nodes = n kinds.ExpressionStatement 1 (Some 0) None ∷ n kinds.Subscript 2 (Some 0) None ∷ n kinds.Name 0 (Some 0) (Some (97 ∷ [])) ∷ n kinds.Slices 2 (Some 2) None ∷ n kinds.Slice 2 (Some 2) None ∷ n kinds.SliceColon 0 None None ∷ n kinds.SliceColon 0 None None ∷ n kinds.Name 0 (Some 6) (Some (98 ∷ [])) ∷ [] } ∷
    -- a[*b]
    record { line = at s.Name 0 (97 ∷ []) ∷ at s.LeftBracket 1 (91 ∷ []) ∷ at s.Star 2 (42 ∷ []) ∷ at s.Name 3 (98 ∷ []) ∷ at s.RightBracket 4 (93 ∷ []) ∷ []; nodes = n kinds.ExpressionStatement 1 (Some 0) None ∷ n kinds.Subscript 2 (Some 0) None ∷ n kinds.Name 0 (Some 0) (Some (97 ∷ [])) ∷ n kinds.Starred 1 (Some 2) None ∷ n kinds.Name 0 (Some 3) (Some (98 ∷ [])) ∷ [] } ∷
    -- a[*b, c]
    record { line = at s.Name 0 (97 ∷ []) ∷ at s.LeftBracket 1 (91 ∷ []) ∷ at s.Star 2 (42 ∷ []) ∷ at s.Name 3 (98 ∷ []) ∷ at s.Comma 4 (44 ∷ []) ∷ at s.Name 6 (99 ∷ []) ∷ at s.RightBracket 7 (93 ∷ []) ∷ []; nodes = n kinds.ExpressionStatement 1 (Some 0) None ∷ n kinds.Subscript 2 (Some 0) None ∷ n kinds.Name 0 (Some 0) (Some (97 ∷ [])) ∷ n kinds.Slices 2 (Some 2) None ∷ n kinds.Starred 1 (Some 2) None ∷ n kinds.Name 0 (Some 3) (Some (98 ∷ [])) ∷ n kinds.Name 0 (Some 6) (Some (99 ∷ [])) ∷ [] } ∷
    -- a[b := 1]
    record { line = at s.Name 0 (97 ∷ []) ∷ at s.LeftBracket 1 (91 ∷ []) ∷ at s.Name 2 (98 ∷ []) ∷ at s.Walrus 4 (58 ∷ 61 ∷ []) ∷ at s.Number 7 (49 ∷ []) ∷ at s.RightBracket 8 (93 ∷ []) ∷ []; nodes = n kinds.ExpressionStatement 1 (Some 0) None ∷ n kinds.Subscript 2 (Some 0) None ∷ n kinds.Name 0 (Some 0) (Some (97 ∷ [])) ∷ n kinds.NamedExpression 1 (Some 2) (Some (98 ∷ [])) ∷ n kinds.NumberLiteral 0 (Some 7) (Some (49 ∷ [])) ∷ [] } ∷
    -- a["b"](c)
    record { line = at s.Name 0 (97 ∷ []) ∷ at s.LeftBracket 1 (91 ∷ []) ∷ at s.Str 2 (34 ∷ 98 ∷ 34 ∷ []) ∷ at s.RightBracket 5 (93 ∷ []) ∷ at s.LeftParen 6 (40 ∷ []) ∷ at s.Name 7 (99 ∷ []) ∷ at s.RightParen 8 (41 ∷ []) ∷ []; nodes = n kinds.ExpressionStatement 1 (Some 0) None ∷ n kinds.Call 2 (Some 0) None ∷ n kinds.Subscript 2 (Some 0) None ∷ n kinds.Name 0 (Some 0) (Some (97 ∷ [])) ∷ n kinds.StringLiteral 0 (Some 2) (Some (34 ∷ 98 ∷ 34 ∷ [])) ∷ n kinds.Name 0 (Some 7) (Some (99 ∷ [])) ∷ [] } ∷
    -- "a" "b"
    record { line = at s.Str 0 (34 ∷ 97 ∷ 34 ∷ []) ∷ at s.Str 4 (34 ∷ 98 ∷ 34 ∷ []) ∷ []; nodes = n kinds.ExpressionStatement 1 (Some 0) None ∷ n kinds.StringLiteral 0 (Some 0) (Some (34 ∷ 97 ∷ 34 ∷ 32 ∷ 34 ∷ 98 ∷ 34 ∷ [])) ∷ [] } ∷
    -- ...
    record { line = at s.Ellipsis 0 (46 ∷ 46 ∷ 46 ∷ []) ∷ []; nodes = n kinds.ExpressionStatement 1 (Some 0) None ∷ n kinds.EllipsisLiteral 0 (Some 0) None ∷ [] } ∷
    -- None
    record { line = at s.NoneWord 0 (78 ∷ 111 ∷ 110 ∷ 101 ∷ []) ∷ []; nodes = n kinds.ExpressionStatement 1 (Some 0) None ∷ n kinds.NoneLiteral 0 (Some 0) None ∷ [] } ∷
    -- True.x
    record { line = at s.TrueWord 0 (84 ∷ 114 ∷ 117 ∷ 101 ∷ []) ∷ at s.Dot 4 (46 ∷ []) ∷ at s.Name 5 (120 ∷ []) ∷ []; nodes = n kinds.ExpressionStatement 1 (Some 0) None ∷ n kinds.Attribute 1 (Some 0) (Some (120 ∷ [])) ∷ n kinds.TrueLiteral 0 (Some 0) None ∷ [] } ∷
    -- a.b.c
    record { line = at s.Name 0 (97 ∷ []) ∷ at s.Dot 1 (46 ∷ []) ∷ at s.Name 2 (98 ∷ []) ∷ at s.Dot 3 (46 ∷ []) ∷ at s.Name 4 (99 ∷ []) ∷ []; nodes = n kinds.ExpressionStatement 1 (Some 0) None ∷ n kinds.Attribute 1 (Some 0) (Some (99 ∷ [])) ∷ n kinds.Attribute 1 (Some 0) (Some (98 ∷ [])) ∷ n kinds.Name 0 (Some 0) (Some (97 ∷ [])) ∷ [] } ∷
    -- x = 1
    record { line = at s.Name 0 (120 ∷ []) ∷ at s.Assign 2 (61 ∷ []) ∷ at s.Number 4 (49 ∷ []) ∷ []; nodes = n kinds.Assign 2 (Some 0) None ∷ n kinds.NameTarget 0 (Some 0) (Some (120 ∷ [])) ∷ n kinds.NumberLiteral 0 (Some 4) (Some (49 ∷ [])) ∷ [] } ∷
    -- x = y = 1
    record { line = at s.Name 0 (120 ∷ []) ∷ at s.Assign 2 (61 ∷ []) ∷ at s.Name 4 (121 ∷ []) ∷ at s.Assign 6 (61 ∷ []) ∷ at s.Number 8 (49 ∷ []) ∷ []; nodes = n kinds.Assign 3 (Some 0) None ∷ n kinds.NameTarget 0 (Some 0) (Some (120 ∷ [])) ∷ n kinds.NameTarget 0 (Some 4) (Some (121 ∷ [])) ∷ n kinds.NumberLiteral 0 (Some 8) (Some (49 ∷ [])) ∷ [] } ∷
    []

-- each line has the nodes that are said
rows_hold : map nodes_of_line rows ≡ map said rows
unfolding star_at named_at element_at sx_item_at sx_at yield_at target_item_at targets_at for_clause_at clause_at clauses_at more_elements_at parenthesized_at list_display_at item_or_named_at unpacked_at brace_entry_at more_entries_at brace_display_at starred_argument_at plain_argument_at argument_at arguments_at more_arguments_at call_arguments_at slice_rest_at slice_at slices_item_at slices_at trailer_at field_expression_at inner_field_at field_at string_part_at strings_at atom_at primary_at awaited_at power_at factor_at term_at arith_at shift_at bit_and_at bit_xor_at bit_or_at comparison_sign_at comparison_at not_at and_at or_at lambda_parameter_at lambda_parameters_at lambda_at test_at signed_number_at number_pattern_at literal_at dotted_name_at class_argument_at class_arguments_at name_pattern_at star_pattern_at sequence_item_at parenthesized_pattern_at bracketed_pattern_at mapping_item_at mapping_pattern_at closed_pattern_at or_pattern_at pattern_at open_patterns_at value_at assigned_value_at return_at raise_at declaration_at delete_at assert_at as_name_at module_name_at import_at imported_name_at imported_names_at source_at import_from_at keyword_statement_at value_statement_at statement_at statements_at parameter_annotation_at star_annotation_at parameter_at parameters_at for_header_at except_header_at except_star_header_at with_item_at plain_with_at parenthesized_with_at function_header_at class_header_at subject_at match_header_at case_header_at decorator_line_at reader_of phrase_at headed_at bare_at simple_at with_at async_line_at except_line_at line_by line_at
rows_hold = refl
