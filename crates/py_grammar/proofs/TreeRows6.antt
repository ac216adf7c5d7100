-- Lines with the nodes that Python's own parser gives them, in preorder, computed from the readers of the definition: rows
-- that tools/grammar_trees.py writes.
use Rattle.std.specs.Prelude.{List, [], ◌∷◌, Some, None, map}
use Rattle.std.proofs.Common.{◌≡◌, refl}
use Rattle.tree_nodes.specs.declared.kind.Kind.TheVariants as kinds
use Rattle.py_grammar.specs.declared.symbol.Symbol.TheVariants as s
use Rattle.py_grammar.proofs.TryingTrees.{Row, at, n, nodes_of_line, said}
use Rattle.py_grammar.specs.Reading.{star_at, named_at, element_at, sx_item_at, sx_at, yield_at, target_item_at, targets_at, for_clause_at, clause_at, clauses_at, more_elements_at, parenthesized_at, list_display_at, item_or_named_at, unpacked_at, brace_entry_at, more_entries_at, brace_display_at, starred_argument_at, plain_argument_at, argument_at, arguments_at, more_arguments_at, call_arguments_at, slice_rest_at, slice_at, slices_item_at, slices_at, trailer_at, field_expression_at, inner_field_at, field_at, string_part_at, strings_at, atom_at, primary_at, awaited_at, power_at, factor_at, term_at, arith_at, shift_at, bit_and_at, bit_xor_at, bit_or_at, comparison_sign_at, comparison_at, not_at, and_at, or_at, lambda_parameter_at, lambda_parameters_at, lambda_at, test_at}
use Rattle.py_grammar.specs.ReadingPatterns.{signed_number_at, number_pattern_at, literal_at, dotted_name_at, class_argument_at, class_arguments_at, name_pattern_at, star_pattern_at, sequence_item_at, parenthesized_pattern_at, bracketed_pattern_at, mapping_item_at, mapping_pattern_at, closed_pattern_at, or_pattern_at, pattern_at, open_patterns_at}
use Rattle.py_grammar.specs.ReadingStatements.{value_at, assigned_value_at, return_at, raise_at, declaration_at, delete_at, assert_at, as_name_at, module_name_at, import_at, imported_name_at, imported_names_at, source_at, import_from_at, keyword_statement_at, value_statement_at, statement_at, statements_at}
use Rattle.py_grammar.specs.ReadingHeaders.{parameter_annotation_at, star_annotation_at, parameter_at, parameters_at, for_header_at, except_header_at, except_star_header_at, with_item_at, plain_with_at, parenthesized_with_at, function_header_at, class_header_at, subject_at, match_header_at, case_header_at, decorator_line_at}
use Rattle.py_grammar.specs.ReadingLines.{reader_of, phrase_at, headed_at, bare_at, simple_at, with_at, async_line_at, except_line_at, line_by, line_at}

abbrev rows : List Row
rows =
    -- x = yield
    record { line = at s.Name 0 (120 ∷ []) ∷ at s.Assign 2 (61 ∷ []) ∷ at s.YieldWord 4 (121 ∷ 105 ∷ 101 ∷ 108 ∷ 100 ∷ []) ∷ []; nodes = n kinds.Assign 2 (Some 0) None ∷ n kinds.NameTarget 0 (Some 0) (Some (120 ∷ [])) ∷ n kinds.Yield 0 (Some 4) None ∷ [] } ∷
    -- x, y = 1
    record { line = at s.Name 0 (120 ∷ []) ∷ at s.Comma 1 (44 ∷ []) ∷ at s.Name 3 (121 ∷ []) ∷ at s.Assign 5 (61 ∷ []) ∷ at s.Number 7 (49 ∷ []) ∷ []; nodes = n kinds.Assign 2 (Some 0) None ∷ n kinds.TupleTarget 2 (Some 0) None ∷ n kinds.NameTarget 0 (Some 0) (Some (120 ∷ [])) ∷ n kinds.NameTarget 0 (Some 3) (Some (121 ∷ [])) ∷ n kinds.NumberLiteral 0 (Some 7) (Some (49 ∷ [])) ∷ [] } ∷
    -- x, = 1
    record { line = at s.Name 0 (120 ∷ []) ∷ at s.Comma 1 (44 ∷ []) ∷ at s.Assign 3 (61 ∷ []) ∷ at s.Number 5 (49 ∷ []) ∷ []; nodes = n kinds.Assign 2 (Some 0) None ∷ n kinds.TupleTarget 1 (Some 0) None ∷ n kinds.NameTarget 0 (Some 0) (Some (120 ∷ [])) ∷ n kinds.NumberLiteral 0 (Some 5) (Some (49 ∷ [])) ∷ [] } ∷
    -- *x, y = 1
    record { line = at s.Star 0 (42 ∷ []) ∷ at s.Name 1 (120 ∷ []) ∷ at s.Comma 2 (44 ∷ []) ∷ at s.Name 4 (121 ∷ []) ∷ at s.Assign 6 (61 ∷ []) ∷ at s.Number 8 (49 ∷ []) ∷ []; nodes = n kinds.Assign 2 (Some 0) None ∷ n kinds.TupleTarget 2 (Some 0) None ∷ n kinds.StarredTarget 1 (Some 0) None ∷ n kinds.NameTarget 0 (Some 1) (Some (120 ∷ [])) ∷ n kinds.NameTarget 0 (Some 4) (Some (121 ∷ [])) ∷ n kinds.NumberLiteral 0 (Some 8) (Some (49 ∷ [])) ∷ [] } ∷
    -- (x) = 1
    record { line = at s.LeftParen 0 (40 ∷ []) ∷ at s.Name 1 (120 ∷ []) ∷ at s.RightParen 2 (41 ∷ []) ∷ at s.Assign 4 (61 ∷ []) ∷ at s.Number 6 (49 ∷ []) ∷ []; nodes = n kinds.Assign 2 (Some 0) None ∷ n kinds.NameTarget 0 (Some 1) (Some (120 ∷ [])) ∷ n kinds.NumberLiteral 0 (Some 6) (Some (49 ∷ [])) ∷ [] } ∷
    -- (x, y) = 1
    record { line = at s.LeftParen 0 (40 ∷ []) ∷ at s.Name 1 (120 ∷ []) ∷ at s.Comma 2 (44 ∷ []) ∷ at s.Name 4 (121 ∷ []) ∷ at s.RightParen 5 (41 ∷ []) ∷ at s.Assign 7 (61 ∷ []) ∷ at s.Number 9 (49 ∷ []) ∷ []; nodes = n kinds.Assign 2 (Some 0) None ∷ n kinds.TupleTarget 2 (Some 0) None ∷ n kinds.NameTarget 0 (Some 1) (Some (120 ∷ [])) ∷ n kinds.NameTarget 0 (Some 4) (Some (121 ∷ [])) ∷ n kinds.NumberLiteral 0 (Some 9) (Some (49 ∷ [])) ∷ [] } ∷
    -- [x, y] = 1
    record { line = at s.LeftBracket 0 (91 ∷ []) ∷ at s.Name 1 (120 ∷ []) ∷ at s.Comma 2 (44 ∷ []) ∷ at s.Name 4 (121 ∷ []) ∷ at s.RightBracket 5 (93 ∷ []) ∷ at s.Assign 7 (61 ∷ []) ∷ at s.Number 9 (49 ∷ []) ∷ []; nodes = n kinds.Assign 2 (Some 0) None ∷ n kinds.ListTarget 2 (Some 0) None ∷ n kinds.NameTarget 0 (Some 1) (Some (120 ∷ [])) ∷ n kinds.NameTarget 0 (Some 4) (Some (121 ∷ [])) ∷ n kinds.NumberLiteral 0 (Some 9) (Some (49 ∷ [])) ∷ [] } ∷
    -- [x, *y] = z
    record { line = at s.LeftBracket 0 (91 ∷ []) ∷ at s.Name 1 (120 ∷ []) ∷ at s.Comma 2 (44 ∷ []) ∷ at s.Star 4 (42 ∷ []) ∷ at s.Name 5 (121 ∷ []) ∷ at s.RightBracket 6 (93 ∷ []) ∷ at s.Assign 8 (61 ∷ []) ∷ at s.Name 10 (122 ∷ []) ∷ []; nodes = n kinds.Assign 2 (Some 0) None ∷ n kinds.ListTarget 2 (Some 0) None ∷ n kinds.NameTarget 0 (Some 1) (Some (120 ∷ [])) ∷ n kinds.StarredTarget 1 (Some 4) None ∷ n kinds.NameTarget 0 (Some 5) (Some (121 ∷ [])) ∷ n kinds.Name 0 (Some 10) (Some (122 ∷ [])) ∷ [] } ∷
    -- x.y = x[0] = 1
    record { line = at s.Name 0 (120 ∷ []) ∷ at s.Dot 1 (46 ∷ []) ∷ at s.Name 2 (121 ∷ []) ∷ at s.Assign 4 (61 ∷ []) ∷ at s.Name 6 (120 ∷ []) ∷ at s.LeftBracket 7 (91 ∷ []) ∷ at s.Number 8 (48 ∷ []) ∷ at s.RightBracket 9 (93 ∷ []) ∷ at s.Assign 11 (61 ∷ []) ∷ at s.Number 13 (49 ∷ []) ∷ []; nodes = n kinds.Assign 3 (Some 0) None ∷ n kinds.AttributeTarget 1 (Some 0) (Some (121 ∷ [])) ∷ n kinds.Name 0 (Some 0) (Some (120 ∷ [])) ∷ n kinds.SubscriptTarget 2 (Some 6) None ∷ n kinds.Name 0 (Some 6) (Some (120 ∷ [])) ∷ n kinds.NumberLiteral 0 (Some 8) (Some (48 ∷ [])) ∷ n kinds.NumberLiteral 0 (Some 13) (Some (49 ∷ [])) ∷ [] } ∷
    -- x = *y, z
    record { line = at s.Name 0 (120 ∷ []) ∷ at s.Assign 2 (61 ∷ []) ∷ at s.Star 4 (42 ∷ []) ∷ at s.Name 5 (121 ∷ []) ∷ at s.Comma 6 (44 ∷ []) ∷ at s.Name 8 (122 ∷ []) ∷ []; nodes = n kinds.Assign 2 (Some 0) None ∷ n kinds.NameTarget 0 (Some 0) (Some (120 ∷ [])) ∷ n kinds.Tuple 2 (Some 4) None ∷ n kinds.Starred 1 (Some 4) None ∷ n kinds.Name 0 (Some 5) (Some (121 ∷ [])) ∷ n kinds.Name 0 (Some 8) (Some (122 ∷ [])) ∷ [] } ∷
    -- x = *y
    record { line = at s.Name 0 (120 ∷ []) ∷ at s.Assign 2 (61 ∷ []) ∷ at s.Star 4 (42 ∷ []) ∷ at s.Name 5 (121 ∷ []) ∷ []; nodes = n kinds.Assign 2 (Some 0) None ∷ n kinds.NameTarget 0 (Some 0) (Some (120 ∷ [])) ∷ n kinds.Starred 1 (Some 4) None ∷ n kinds.Name 0 (Some 5) (Some (121 ∷ [])) ∷ [] } ∷
    -- x = 1, 2
    record { line = at s.Name 0 (120 ∷ []) ∷ at s.Assign 2 (61 ∷ []) ∷ at s.Number 4 (49 ∷ []) ∷ at s.Comma 5 (44 ∷ []) ∷ at s.Number 7 (50 ∷ []) ∷ []; nodes = n kinds.Assign 2 (Some 0) None ∷ n kinds.NameTarget 0 (Some 0) (Some (120 ∷ [])) ∷ n kinds.Tuple 2 (Some 4) None ∷ n kinds.NumberLiteral 0 (Some 4) (Some (49 ∷ [])) ∷ n kinds.NumberLiteral 0 (Some 7) (Some (50 ∷ [])) ∷ [] } ∷
    -- x = lambda: 1
    record { line = at s.Name 0 (120 ∷ []) ∷ at s.Assign 2 (61 ∷ []) ∷ at s.LambdaWord 4 (108 ∷ 97 ∷ 109 ∷ 98 ∷ 100 ∷ 97 ∷ []) ∷ at s.Colon 10 (58 ∷ []) ∷ at s.Number 12 (49 ∷ []) ∷ []; nodes = n kinds.Assign 2 (Some 0) None ∷ n kinds.NameTarget 0 (Some 0) (Some (120 ∷ [])) ∷ n kinds.Lambda 1 (Some 4) None ∷ n kinds.NumberLiteral 0 (Some 12) (Some (49 ∷ [])) ∷ [] } ∷
    -- x += 1
    record { line = at s.Name 0 (120 ∷ []) ∷ at s.PlusAssign 2 (43 ∷ 61 ∷ []) ∷ at s.Number 5 (49 ∷ []) ∷ []; nodes = n kinds.AugAssign 3 (Some 0) None ∷ n kinds.NameTarget 0 (Some 0) (Some (120 ∷ [])) ∷ n kinds.Add 0 None None ∷ n kinds.NumberLiteral 0 (Some 5) (Some (49 ∷ [])) ∷ [] } ∷
    -- x.y -= 1
    record { line = at s.Name 0 (120 ∷ []) ∷ at s.Dot 1 (46 ∷ []) ∷ at s.Name 2 (121 ∷ []) ∷ at s.MinusAssign 4 (45 ∷ 61 ∷ []) ∷ at s.Number 7 (49 ∷ []) ∷ []; nodes = n kinds.AugAssign 3 (Some 0) None ∷ n kinds.AttributeTarget 1 (Some 0) (Some (121 ∷ [])) ∷ n kinds.Name 0 (Some 0) (Some (120 ∷ [])) ∷ n kinds.Subtract 0 None None ∷ n kinds.NumberLiteral 0 (Some 7) (Some (49 ∷ [])) ∷ [] } ∷
    -- x[0] *= 1, 2
    record { line = at s.Name 0 (120 ∷ []) ∷ at s.LeftBracket 1 (91 ∷ []) ∷ at s.Number 2 (48 ∷ []) ∷ at s.RightBracket 3 (93 ∷ []) ∷ at s.StarAssign 5 (42 ∷ 61 ∷ []) ∷ at s.Number 8 (49 ∷ []) ∷ at s.Comma 9 (44 ∷ []) ∷ at s.Number 11 (50 ∷ []) ∷ []; nodes = n kinds.AugAssign 3 (Some 0) None ∷ n kinds.SubscriptTarget 2 (Some 0) None ∷ n kinds.Name 0 (Some 0) (Some (120 ∷ [])) ∷ n kinds.NumberLiteral 0 (Some 2) (Some (48 ∷ [])) ∷ n kinds.Multiply 0 None None ∷ n kinds.Tuple 2 (Some 8) None ∷ n kinds.NumberLiteral 0 (Some 8) (Some (49 ∷ [])) ∷ n kinds.NumberLiteral 0 (Some 11) (Some (50 ∷ [])) ∷ [] } ∷
    -- x /= yield
    record { line = at s.Name 0 (120 ∷ []) ∷ at s.SlashAssign 2 (47 ∷ 61 ∷ []) ∷ at s.YieldWord 5 (121 ∷ 105 ∷ 101 ∷ 108 ∷ 100 ∷ []) ∷ []; nodes = n kinds.AugAssign 3 (Some 0) None ∷ n kinds.NameTarget 0 (Some 0) (Some (120 ∷ [])) ∷ n kinds.Divide 0 None None ∷ n kinds.Yield 0 (Some 5) None ∷ [] } ∷
    -- (x) //= 1
    record { line = at s.LeftParen 0 (40 ∷ []) ∷ at s.Name 1 (120 ∷ []) ∷ at s.RightParen 2 (41 ∷ []) ∷ at s.DoubleSlashAssign 4 (47 ∷ 47 ∷ 61 ∷ []) ∷ at s.Number 8 (49 ∷ []) ∷ []; nodes = n kinds.AugAssign 3 (Some 0) None ∷ n kinds.NameTarget 0 (Some 1) (Some (120 ∷ [])) ∷ n kinds.FloorDivide 0 None None ∷ n kinds.NumberLiteral 0 (Some 8) (Some (49 ∷ [])) ∷ [] } ∷
    -- x **= *y
    record { line = at s.Name 0 (120 ∷ []) ∷ at s.DoubleStarAssign 2 (42 ∷ 42 ∷ 61 ∷ []) ∷ at s.Star 6 (42 ∷ []) ∷ at s.Name 7 (121 ∷ []) ∷ []; nodes = n kinds.AugAssign 3 (Some 0) None ∷ n kinds.NameTarget 0 (Some 0) (Some (120 ∷ [])) ∷ n kinds.Exponentiate 0 None None ∷ n kinds.Starred 1 (Some 6) None ∷ n kinds.Name 0 (Some 7) (Some (121 ∷ [])) ∷ [] } ∷
    -- x >>= *y, z
    record { line = at s.Name 0 (120 ∷ []) ∷ at s.RightShiftAssign 2 (62 ∷ 62 ∷ 61 ∷ []) ∷ at s.Star 6 (42 ∷ []) ∷ at s.Name 7 (121 ∷ []) ∷ at s.Comma 8 (44 ∷ []) ∷ at s.Name 10 (122 ∷ []) ∷ []; nodes = n kinds.AugAssign 3 (Some 0) None ∷ n kinds.NameTarget 0 (Some 0) (Some (120 ∷ [])) ∷ n kinds.RightShift 0 None None ∷ n kinds.Tuple 2 (Some 6) None ∷ n kinds.Starred 1 (Some 6) None ∷ n kinds.Name 0 (Some 7) (Some (121 ∷ [])) ∷ n kinds.Name 0 (Some 10) (Some (122 ∷ [])) ∷ [] } ∷
    -- x <<= 1
    record { line = at s.Name 0 (120 ∷ []) ∷ at s.LeftShiftAssign 2 (60 ∷ 60 ∷ 61 ∷ []) ∷ at s.Number 6 (49 ∷ []) ∷ []; nodes = n kinds.AugAssign 3 (Some 0) None ∷ n kinds.NameTarget 0 (Some 0) (Some (120 ∷ [])) ∷ n kinds.LeftShift 0 None None ∷ n kinds.NumberLiteral 0 (Some 6) (Some (49 ∷ [])) ∷ [] } ∷
    -- x @= 1
    record { line = at s.Name 0 (120 ∷ []) ∷ at s.AtAssign 2 (64 ∷ 61 ∷ []) ∷ at s.Number 5 (49 ∷ []) ∷ []; nodes = n kinds.AugAssign 3 (Some 0) None ∷ n kinds.NameTarget 0 (Some 0) (Some (120 ∷ [])) ∷ n kinds.MatrixMultiply 0 None None ∷ n kinds.NumberLiteral 0 (Some 5) (Some (49 ∷ [])) ∷ [] } ∷
    -- x &= 1
    record { line = at s.Name 0 (120 ∷ []) ∷ at s.AmpersandAssign 2 (38 ∷ 61 ∷ []) ∷ at s.Number 5 (49 ∷ []) ∷ []; nodes = n kinds.AugAssign 3 (Some 0) None ∷ n kinds.NameTarget 0 (Some 0) (Some (120 ∷ [])) ∷ n kinds.BitAnd 0 None None ∷ n kinds.NumberLiteral 0 (Some 5) (Some (49 ∷ [])) ∷ [] } ∷
    -- x |= 1
    record { line = at s.Name 0 (120 ∷ []) ∷ at s.BarAssign 2 (124 ∷ 61 ∷ []) ∷ at s.Number 5 (49 ∷ []) ∷ []; nodes = n kinds.AugAssign 3 (Some 0) None ∷ n kinds.NameTarget 0 (Some 0) (Some (120 ∷ [])) ∷ n kinds.BitOr 0 None None ∷ n kinds.NumberLiteral 0 (Some 5) (Some (49 ∷ [])) ∷ [] } ∷
    -- x ^= 1
    record { line = at s.Name 0 (120 ∷ []) ∷ at s.CaretAssign 2 (94 ∷ 61 ∷ []) ∷ at s.Number 5 (49 ∷ []) ∷ []; nodes = n kinds.AugAssign 3 (Some 0) None ∷ n kinds.NameTarget 0 (Some 0) (Some (120 ∷ [])) ∷ n kinds.BitXor 0 None None ∷ n kinds.NumberLiteral 0 (Some 5) (Some (49 ∷ [])) ∷ [] } ∷
    -- x: int
    record { line = at s.Name 0 (120 ∷ []) ∷ at s.Colon 1 (58 ∷ []) ∷ at s.Name 3 (105 ∷ 110 ∷ 116 ∷ []) ∷ []; nodes = n kinds.AnnAssign 2 (Some 0) None ∷ n kinds.NameTarget 0 (Some 0) (Some (120 ∷ [])) ∷ n kinds.Annotation 1 None None ∷ n kinds.Name 0 (Some 3) (Some (105 ∷ 110 ∷ 116 ∷ [])) ∷ [] } ∷
    -- x: int = 1
    record { line = at s.Name 0 (120 ∷ []) ∷ at s.Colon 1 (58 ∷ []) ∷ at s.Name 3 (105 ∷ 110 ∷ 116 ∷ []) ∷ at s.Assign 7 (61 ∷ []) ∷ at s.Number 9 (49 ∷ []) ∷ []; nodes = n kinds.AnnAssign 3 (Some 0) None ∷ n kinds.NameTarget 0 (Some 0) (Some (120 ∷ [])) ∷ n kinds.Annotation 1 None None ∷ n kinds.Name 0 (Some 3) (Some (105 ∷ 110 ∷ 116 ∷ [])) ∷ n kinds.NumberLiteral 0 (Some 9) (Some (49 ∷ [])) ∷ [] } ∷
    -- x.y: int = 1
    record { line = at s.Name 0 (120 ∷ []) ∷ at s.Dot 1 (46 ∷ []) ∷ at s.Name 2 (121 ∷ []) ∷ at s.Colon 3 (58 ∷ []) ∷ at s.Name 5 (105 ∷ 110 ∷ 116 ∷ []) ∷ at s.Assign 9 (61 ∷ []) ∷ at s.Number 11 (49 ∷ []) ∷ []; nodes = n kinds.AnnAssign 3 (Some 0) None ∷ n kinds.AttributeTarget 1 (Some 0) (Some (121 ∷ [])) ∷ n kinds.Name 0 (Some 0) (Some (120 ∷ [])) ∷ n kinds.Annotation 1 None None ∷ n kinds.Name 0 (Some 5) (Some (105 ∷ 110 ∷ 116 ∷ [])) ∷ n kinds.NumberLiteral 0 (Some 11) (Some (49 ∷ [])) ∷ [] } ∷
    -- x[0]: int
    record { line = at s.Name 0 (120 ∷ []) ∷ at s.LeftBracket 1 (91 ∷ []) ∷ at s.Number 2 (48 ∷ []) ∷ at s.RightBracket 3 (93 ∷ []) ∷ at s.Colon 4 (58 ∷ []) ∷ at s.Name 6 (105 ∷ 110 ∷ 116 ∷ []) ∷ []; nodes = n kinds.AnnAssign 2 (Some 0) None ∷ n kinds.SubscriptTarget 2 (Some 0) None ∷ n kinds.Name 0 (Some 0) (Some (120 ∷ [])) ∷ n kinds.NumberLiteral 0 (Some 2) (Some (48 ∷ [])) ∷ n kinds.Annotation 1 None None ∷ n kinds.Name 0 (Some 6) (Some (105 ∷ 110 ∷ 116 ∷ [])) ∷ [] } ∷
    -- (x): int = 1
    record { line = at s.LeftParen 0 (40 ∷ []) ∷ at s.Name 1 (120 ∷ []) ∷ at s.RightParen 2 (41 ∷ []) ∷ at s.Colon 3 (58 ∷ []) ∷ at s.Name 5 (105 ∷ 110 ∷ 116 ∷ []) ∷ at s.Assign 9 (61 ∷ []) ∷ at s.Number 11 (49 ∷ []) ∷ []; nodes = n kinds.AnnAssign 3 (Some 0) None ∷ n kinds.NameTarget 0 (Some 1) (Some (120 ∷ [])) ∷ n kinds.Annotation 1 None None ∷ n kinds.Name 0 (Some 5) (Some (105 ∷ 110 ∷ 116 ∷ [])) ∷ n kinds.NumberLiteral 0 (Some 11) (Some (49 ∷ [])) ∷ [] } ∷
    -- x: int = yield
    record { line = at s.Name 0 (120 ∷ []) ∷ at s.Colon 1 (58 ∷ []) ∷ at s.Name 3 (105 ∷ 110 ∷ 116 ∷ []) ∷ at s.Assign 7 (61 ∷ []) ∷ at s.YieldWord 9 (121 ∷ 105 ∷ 101 ∷ 108 ∷ 100 ∷ []) ∷ []; nodes = n kinds.AnnAssign 3 (Some 0) None ∷ n kinds.NameTarget 0 (Some 0) (Some (120 ∷ [])) ∷ n kinds.Annotation 1 None None ∷ n kinds.Name 0 (Some 3) (Some (105 ∷ 110 ∷ 116 ∷ [])) ∷ n kinds.Yield 0 (Some 9) None ∷ [] } ∷
    -- x: int = 1, 2
    record { line = at s.Name 0 (120 ∷ []) ∷ at s.Colon 1 (58 ∷ []) ∷ at s.Name 3 (105 ∷ 110 ∷ 116 ∷ []) ∷ at s.Assign 7 (61 ∷ []) ∷ at s.Number 9 (49 ∷ []) ∷ at s.Comma 10 (44 ∷ []) ∷ at s.Number 12 (50 ∷ []) ∷ []; nodes = n kinds.AnnAssign 3 (Some 0) None ∷ n kinds.NameTarget 0 (Some 0) (Some (120 ∷ [])) ∷ n kinds.Annotation 1 None None ∷ n kinds.Name 0 (Some 3) (Some (105 ∷ 110 ∷ 116 ∷ [])) ∷ n kinds.Tuple 2 (Some 9) None ∷ n kinds.NumberLiteral 0 (Some 9) (Some (49 ∷ [])) ∷ n kinds.NumberLiteral 0 (Some 12) (Some (50 ∷ [])) ∷ [] } ∷
    -- x: int = *y, z
    record { line = at s.Name 0 (120 ∷ []) ∷ at s.Colon 1 (58 ∷ []) ∷ at s.Name 3 (105 ∷ 110 ∷ 116 ∷ []) ∷ at s.Assign 7 (61 ∷ []) ∷ at s.Star 9 (42 ∷ []) ∷ at s.Name 10 (121 ∷ []) ∷ at s.Comma 11 (44 ∷ []) ∷ at s.Name 13 (122 ∷ []) ∷ []; nodes = n kinds.AnnAssign 3 (Some 0) None ∷ n kinds.NameTarget 0 (Some 0) (Some (120 ∷ [])) ∷ n kinds.Annotation 1 None None ∷ n kinds.Name 0 (Some 3) (Some (105 ∷ 110 ∷ 116 ∷ [])) ∷ n kinds.Tuple 2 (Some 9) None ∷ n kinds.Starred 1 (Some 9) None ∷ n kinds.Name 0 (Some 10) (Some (121 ∷ [])) ∷ n kinds.Name 0 (Some 13) (Some (122 ∷ [])) ∷ [] } ∷
    -- *x
    record { line = at s.Star 0 (42 ∷ []) ∷ at s.Name 1 (120 ∷ []) ∷ []; nodes = n kinds.ExpressionStatement 1 (Some 0) None ∷ n kinds.Starred 1 (Some 0) None ∷ n kinds.Name 0 (Some 1) (Some (120 ∷ [])) ∷ [] } ∷
    -- *x, y
    record { line = at s.Star 0 (42 ∷ []) ∷ at s.Name 1 (120 ∷ []) ∷ at s.Comma 2 (44 ∷ []) ∷ at s.Name 4 (121 ∷ []) ∷ []; nodes = n kinds.ExpressionStatement 1 (Some 0) None ∷ n kinds.Tuple 2 (Some 0) None ∷ n kinds.Starred 1 (Some 0) None ∷ n kinds.Name 0 (Some 1) (Some (120 ∷ [])) ∷ n kinds.Name 0 (Some 4) (Some (121 ∷ [])) ∷ [] } ∷
    -- *x,
    record { line = at s.Star 0 (42 ∷ []) ∷ at s.Name 1 (120 ∷ []) ∷ at s.Comma 2 (44 ∷ []) ∷ []; nodes = n kinds.ExpressionStatement 1 (Some 0) None ∷ n kinds.Tuple 1 (Some 0) None ∷ n kinds.Starred 1 (Some 0) None ∷ n kinds.Name 0 (Some 1) (Some (120 ∷ [])) ∷ [] } ∷
    -- *x | y
    record { line = at s.Star 0 (42 ∷ []) ∷ at s.Name 1 (120 ∷ []) ∷ at s.Bar 3 (124 ∷ []) ∷ at s.Name 5 (121 ∷ []) ∷ []; nodes = n kinds.ExpressionStatement 1 (Some 0) None ∷ n kinds.Starred 1 (Some 0) None ∷ n kinds.BitwiseOr 2 (Some 1) None ∷ n kinds.Name 0 (Some 1) (Some (120 ∷ [])) ∷ n kinds.Name 0 (Some 5) (Some (121 ∷ [])) ∷ [] } ∷
    -- pass
    record { line = at s.PassWord 0 (112 ∷ 97 ∷ 115 ∷ 115 ∷ []) ∷ []; nodes = n kinds.Pass 0 (Some 0) None ∷ [] } ∷
    -- break
    record { line = at s.BreakWord 0 (98 ∷ 114 ∷ 101 ∷ 97 ∷ 107 ∷ []) ∷ []; nodes = n kinds.Break 0 (Some 0) None ∷ [] } ∷
    -- continue
    record { line = at s.ContinueWord 0 (99 ∷ 111 ∷ 110 ∷ 116 ∷ 105 ∷ 110 ∷ 117 ∷ 101 ∷ []) ∷ []; nodes = n kinds.Continue 0 (Some 0) None ∷ [] } ∷
    []

-- each line has the nodes that are said
rows_hold : map nodes_of_line rows ≡ map said rows
unfolding star_at named_at element_at sx_item_at sx_at yield_at target_item_at targets_at for_clause_at clause_at clauses_at more_elements_at parenthesized_at list_display_at item_or_named_at unpacked_at brace_entry_at more_entries_at brace_display_at starred_argument_at plain_argument_at argument_at arguments_at more_arguments_at call_arguments_at slice_rest_at slice_at slices_item_at slices_at trailer_at field_expression_at inner_field_at field_at string_part_at strings_at atom_at primary_at awaited_at power_at factor_at term_at arith_at shift_at bit_and_at bit_xor_at bit_or_at comparison_sign_at comparison_at not_at and_at or_at lambda_parameter_at lambda_parameters_at lambda_at test_at signed_number_at number_pattern_at literal_at dotted_name_at class_argument_at class_arguments_at name_pattern_at star_pattern_at sequence_item_at parenthesized_pattern_at bracketed_pattern_at mapping_item_at mapping_pattern_at closed_pattern_at or_pattern_at pattern_at open_patterns_at value_at assigned_value_at return_at raise_at declaration_at delete_at assert_at as_name_at module_name_at import_at imported_name_at imported_names_at source_at import_from_at keyword_statement_at value_statement_at statement_at statements_at parameter_annotation_at star_annotation_at parameter_at parameters_at for_header_at except_header_at except_star_header_at with_item_at plain_with_at parenthesized_with_at function_header_at class_header_at subject_at match_header_at case_header_at decorator_line_at reader_of phrase_at headed_at bare_at simple_at with_at async_line_at except_line_at line_by line_at
rows_hold = refl
