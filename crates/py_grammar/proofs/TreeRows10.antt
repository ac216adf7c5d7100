-- Lines with the nodes that Python's own parser gives them, in preorder, computed from the readers of the definition: rows
-- that tools/grammar_trees.py writes.
use Rattle.std.specs.Prelude.{List, [], ◌∷◌, Some, None, map}
use Rattle.std.proofs.Common.{◌≡◌, refl}
use Rattle.tree_nodes.specs.declared.kind.Kind.TheVariants as kinds
use Rattle.py_grammar.specs.declared.symbol.Symbol.TheVariants as s
use Rattle.py_grammar.proofs.TryingTrees.{Row, at, n, nodes_of_line, said}
use Rattle.py_grammar.specs.Reading.{star_at, named_at, element_at, sx_item_at, sx_at, yield_at, target_item_at, targets_at, for_clause_at, clause_at, clauses_at, more_elements_at, parenthesized_at, list_display_at, item_or_named_at, unpacked_at, brace_entry_at, more_entries_at, brace_display_at, starred_argument_at, plain_argument_at, argument_at, arguments_at, more_arguments_at, call_arguments_at, slice_rest_at, slice_at, slices_item_at, slices_at, trailer_at, field_expression_at, inner_field_at, field_at, string_part_at, strings_at, atom_at, primary_at, awaited_at, power_at, factor_at, term_at, arith_at, shift_at, bit_and_at, bit_xor_at, bit_or_at, comparison_sign_at, comparison_at, not_at, and_at, or_at, lambda_parameter_at, lambda_parameters_at, lambda_at, test_at}
use Rattle.py_grammar.specs.ReadingPatterns.{signed_number_at, number_pattern_at, literal_at, dotted_name_at, class_argument_at, class_arguments_at, name_pattern_at, star_pattern_at, sequence_item_at, parenthesized_pattern_at, bracketed_pattern_at, mapping_item_at, mapping_pattern_at, closed_pattern_at, or_pattern_at, pattern_at, open_patterns_at}
use Rattle.py_grammar.specs.ReadingStatements.{value_at, assigned_value_at, return_at, raise_at, declaration_at, delete_at, assert_at, as_name_at, module_name_at, import_at, imported_name_at, imported_names_at, source_at, import_from_at, keyword_statement_at, value_statement_at, statement_at, statements_at}
use Rattle.py_grammar.specs.ReadingHeaders.{parameter_annotation_at, star_annotation_at, parameter_at, parameters_at, for_header_at, except_header_at, except_star_header_at, with_item_at, plain_with_at, parenthesized_with_at, function_header_at, class_header_at, subject_at, match_header_at, case_header_at, decorator_line_at}
use Rattle.py_grammar.specs.ReadingLines.{reader_of, phrase_at, headed_at, bare_at, simple_at, with_at, async_line_at, except_line_at, line_by, line_at}

abbrev rows : List Row
rows =
    -- match x, y:
    record { line = at s.MatchWord 0 (109 ∷ 97 ∷ 116 ∷ 99 ∷ 104 ∷ []) ∷ at s.Name 6 (120 ∷ []) ∷ at s.Comma 7 (44 ∷ []) ∷ at s.Name 9 (121 ∷ []) ∷ at s.Colon 10 (58 ∷ []) ∷ []; nodes = n kinds.Tuple 2 (Some 6) None ∷ n kinds.Name 0 (Some 6) (Some (120 ∷ [])) ∷ n kinds.Name 0 (Some 9) (Some (121 ∷ [])) ∷ [] } ∷
    -- match x,:
    record { line = at s.MatchWord 0 (109 ∷ 97 ∷ 116 ∷ 99 ∷ 104 ∷ []) ∷ at s.Name 6 (120 ∷ []) ∷ at s.Comma 7 (44 ∷ []) ∷ at s.Colon 8 (58 ∷ []) ∷ []; nodes = n kinds.Tuple 1 (Some 6) None ∷ n kinds.Name 0 (Some 6) (Some (120 ∷ [])) ∷ [] } ∷
    -- match *x, y:
    record { line = at s.MatchWord 0 (109 ∷ 97 ∷ 116 ∷ 99 ∷ 104 ∷ []) ∷ at s.Star 6 (42 ∷ []) ∷ at s.Name 7 (120 ∷ []) ∷ at s.Comma 8 (44 ∷ []) ∷ at s.Name 10 (121 ∷ []) ∷ at s.Colon 11 (58 ∷ []) ∷ []; nodes = n kinds.Tuple 2 (Some 6) None ∷ n kinds.Starred 1 (Some 6) None ∷ n kinds.Name 0 (Some 7) (Some (120 ∷ [])) ∷ n kinds.Name 0 (Some 10) (Some (121 ∷ [])) ∷ [] } ∷
    -- match (x):
    record { line = at s.MatchWord 0 (109 ∷ 97 ∷ 116 ∷ 99 ∷ 104 ∷ []) ∷ at s.LeftParen 6 (40 ∷ []) ∷ at s.Name 7 (120 ∷ []) ∷ at s.RightParen 8 (41 ∷ []) ∷ at s.Colon 9 (58 ∷ []) ∷ []; nodes = n kinds.Name 0 (Some 7) (Some (120 ∷ [])) ∷ [] } ∷
    -- match (x, y):
    record { line = at s.MatchWord 0 (109 ∷ 97 ∷ 116 ∷ 99 ∷ 104 ∷ []) ∷ at s.LeftParen 6 (40 ∷ []) ∷ at s.Name 7 (120 ∷ []) ∷ at s.Comma 8 (44 ∷ []) ∷ at s.Name 10 (121 ∷ []) ∷ at s.RightParen 11 (41 ∷ []) ∷ at s.Colon 12 (58 ∷ []) ∷ []; nodes = n kinds.Tuple 2 (Some 6) None ∷ n kinds.Name 0 (Some 7) (Some (120 ∷ [])) ∷ n kinds.Name 0 (Some 10) (Some (121 ∷ [])) ∷ [] } ∷
    -- match [x]:
    record { line = at s.MatchWord 0 (109 ∷ 97 ∷ 116 ∷ 99 ∷ 104 ∷ []) ∷ at s.LeftBracket 6 (91 ∷ []) ∷ at s.Name 7 (120 ∷ []) ∷ at s.RightBracket 8 (93 ∷ []) ∷ at s.Colon 9 (58 ∷ []) ∷ []; nodes = n kinds.List 1 (Some 6) None ∷ n kinds.Name 0 (Some 7) (Some (120 ∷ [])) ∷ [] } ∷
    -- match {x: y}:
    record { line = at s.MatchWord 0 (109 ∷ 97 ∷ 116 ∷ 99 ∷ 104 ∷ []) ∷ at s.LeftBrace 6 (123 ∷ []) ∷ at s.Name 7 (120 ∷ []) ∷ at s.Colon 8 (58 ∷ []) ∷ at s.Name 10 (121 ∷ []) ∷ at s.RightBrace 11 (125 ∷ []) ∷ at s.Colon 12 (58 ∷ []) ∷ []; nodes = n kinds.Dict 1 (Some 6) None ∷ n kinds.DictItem 2 None None ∷ n kinds.Name 0 (Some 7) (Some (120 ∷ [])) ∷ n kinds.Name 0 (Some 10) (Some (121 ∷ [])) ∷ [] } ∷
    -- match x := 1:
    record { line = at s.MatchWord 0 (109 ∷ 97 ∷ 116 ∷ 99 ∷ 104 ∷ []) ∷ at s.Name 6 (120 ∷ []) ∷ at s.Walrus 8 (58 ∷ 61 ∷ []) ∷ at s.Number 11 (49 ∷ []) ∷ at s.Colon 12 (58 ∷ []) ∷ []; nodes = n kinds.NamedExpression 1 (Some 6) (Some (120 ∷ [])) ∷ n kinds.NumberLiteral 0 (Some 11) (Some (49 ∷ [])) ∷ [] } ∷
    -- match -x:
    record { line = at s.MatchWord 0 (109 ∷ 97 ∷ 116 ∷ 99 ∷ 104 ∷ []) ∷ at s.Minus 6 (45 ∷ []) ∷ at s.Name 7 (120 ∷ []) ∷ at s.Colon 8 (58 ∷ []) ∷ []; nodes = n kinds.UnaryMinus 1 (Some 6) None ∷ n kinds.Name 0 (Some 7) (Some (120 ∷ [])) ∷ [] } ∷
    -- match x.y:
    record { line = at s.MatchWord 0 (109 ∷ 97 ∷ 116 ∷ 99 ∷ 104 ∷ []) ∷ at s.Name 6 (120 ∷ []) ∷ at s.Dot 7 (46 ∷ []) ∷ at s.Name 8 (121 ∷ []) ∷ at s.Colon 9 (58 ∷ []) ∷ []; nodes = n kinds.Attribute 1 (Some 6) (Some (121 ∷ [])) ∷ n kinds.Name 0 (Some 6) (Some (120 ∷ [])) ∷ [] } ∷
    -- match(x)
    record { line = at s.MatchWord 0 (109 ∷ 97 ∷ 116 ∷ 99 ∷ 104 ∷ []) ∷ at s.LeftParen 5 (40 ∷ []) ∷ at s.Name 6 (120 ∷ []) ∷ at s.RightParen 7 (41 ∷ []) ∷ []; nodes = n kinds.ExpressionStatement 1 (Some 0) None ∷ n kinds.Call 2 (Some 0) None ∷ n kinds.Name 0 (Some 0) (Some (109 ∷ 97 ∷ 116 ∷ 99 ∷ 104 ∷ [])) ∷ n kinds.Name 0 (Some 6) (Some (120 ∷ [])) ∷ [] } ∷
    -- match(x):
    record { line = at s.MatchWord 0 (109 ∷ 97 ∷ 116 ∷ 99 ∷ 104 ∷ []) ∷ at s.LeftParen 5 (40 ∷ []) ∷ at s.Name 6 (120 ∷ []) ∷ at s.RightParen 7 (41 ∷ []) ∷ at s.Colon 8 (58 ∷ []) ∷ []; nodes = n kinds.Name 0 (Some 6) (Some (120 ∷ [])) ∷ [] } ∷
    -- match[x]:
    record { line = at s.MatchWord 0 (109 ∷ 97 ∷ 116 ∷ 99 ∷ 104 ∷ []) ∷ at s.LeftBracket 5 (91 ∷ []) ∷ at s.Name 6 (120 ∷ []) ∷ at s.RightBracket 7 (93 ∷ []) ∷ at s.Colon 8 (58 ∷ []) ∷ []; nodes = n kinds.List 1 (Some 5) None ∷ n kinds.Name 0 (Some 6) (Some (120 ∷ [])) ∷ [] } ∷
    -- match[x] = 1
    record { line = at s.MatchWord 0 (109 ∷ 97 ∷ 116 ∷ 99 ∷ 104 ∷ []) ∷ at s.LeftBracket 5 (91 ∷ []) ∷ at s.Name 6 (120 ∷ []) ∷ at s.RightBracket 7 (93 ∷ []) ∷ at s.Assign 9 (61 ∷ []) ∷ at s.Number 11 (49 ∷ []) ∷ []; nodes = n kinds.Assign 2 (Some 0) None ∷ n kinds.SubscriptTarget 2 (Some 0) None ∷ n kinds.Name 0 (Some 0) (Some (109 ∷ 97 ∷ 116 ∷ 99 ∷ 104 ∷ [])) ∷ n kinds.Name 0 (Some 6) (Some (120 ∷ [])) ∷ n kinds.NumberLiteral 0 (Some 11) (Some (49 ∷ [])) ∷ [] } ∷
    -- match.x
    record { line = at s.MatchWord 0 (109 ∷ 97 ∷ 116 ∷ 99 ∷ 104 ∷ []) ∷ at s.Dot 5 (46 ∷ []) ∷ at s.Name 6 (120 ∷ []) ∷ []; nodes = n kinds.ExpressionStatement 1 (Some 0) None ∷ n kinds.Attribute 1 (Some 0) (Some (120 ∷ [])) ∷ n kinds.Name 0 (Some 0) (Some (109 ∷ 97 ∷ 116 ∷ 99 ∷ 104 ∷ [])) ∷ [] } ∷
    -- match
    record { line = at s.MatchWord 0 (109 ∷ 97 ∷ 116 ∷ 99 ∷ 104 ∷ []) ∷ []; nodes = n kinds.ExpressionStatement 1 (Some 0) None ∷ n kinds.Name 0 (Some 0) (Some (109 ∷ 97 ∷ 116 ∷ 99 ∷ 104 ∷ [])) ∷ [] } ∷
    -- match = 1
    record { line = at s.MatchWord 0 (109 ∷ 97 ∷ 116 ∷ 99 ∷ 104 ∷ []) ∷ at s.Assign 6 (61 ∷ []) ∷ at s.Number 8 (49 ∷ []) ∷ []; nodes = n kinds.Assign 2 (Some 0) None ∷ n kinds.NameTarget 0 (Some 0) (Some (109 ∷ 97 ∷ 116 ∷ 99 ∷ 104 ∷ [])) ∷ n kinds.NumberLiteral 0 (Some 8) (Some (49 ∷ [])) ∷ [] } ∷
    -- match + 1
    record { line = at s.MatchWord 0 (109 ∷ 97 ∷ 116 ∷ 99 ∷ 104 ∷ []) ∷ at s.Plus 6 (43 ∷ []) ∷ at s.Number 8 (49 ∷ []) ∷ []; nodes = n kinds.ExpressionStatement 1 (Some 0) None ∷ n kinds.Sum 3 (Some 0) None ∷ n kinds.Name 0 (Some 0) (Some (109 ∷ 97 ∷ 116 ∷ 99 ∷ 104 ∷ [])) ∷ n kinds.Add 0 None None ∷ n kinds.NumberLiteral 0 (Some 8) (Some (49 ∷ [])) ∷ [] } ∷
    -- match, x
    record { line = at s.MatchWord 0 (109 ∷ 97 ∷ 116 ∷ 99 ∷ 104 ∷ []) ∷ at s.Comma 5 (44 ∷ []) ∷ at s.Name 7 (120 ∷ []) ∷ []; nodes = n kinds.ExpressionStatement 1 (Some 0) None ∷ n kinds.Tuple 2 (Some 0) None ∷ n kinds.Name 0 (Some 0) (Some (109 ∷ 97 ∷ 116 ∷ 99 ∷ 104 ∷ [])) ∷ n kinds.Name 0 (Some 7) (Some (120 ∷ [])) ∷ [] } ∷
    -- match: int
    record { line = at s.MatchWord 0 (109 ∷ 97 ∷ 116 ∷ 99 ∷ 104 ∷ []) ∷ at s.Colon 5 (58 ∷ []) ∷ at s.Name 7 (105 ∷ 110 ∷ 116 ∷ []) ∷ []; nodes = n kinds.AnnAssign 2 (Some 0) None ∷ n kinds.NameTarget 0 (Some 0) (Some (109 ∷ 97 ∷ 116 ∷ 99 ∷ 104 ∷ [])) ∷ n kinds.Annotation 1 None None ∷ n kinds.Name 0 (Some 7) (Some (105 ∷ 110 ∷ 116 ∷ [])) ∷ [] } ∷
    -- match: int = 1
    record { line = at s.MatchWord 0 (109 ∷ 97 ∷ 116 ∷ 99 ∷ 104 ∷ []) ∷ at s.Colon 5 (58 ∷ []) ∷ at s.Name 7 (105 ∷ 110 ∷ 116 ∷ []) ∷ at s.Assign 11 (61 ∷ []) ∷ at s.Number 13 (49 ∷ []) ∷ []; nodes = n kinds.AnnAssign 3 (Some 0) None ∷ n kinds.NameTarget 0 (Some 0) (Some (109 ∷ 97 ∷ 116 ∷ 99 ∷ 104 ∷ [])) ∷ n kinds.Annotation 1 None None ∷ n kinds.Name 0 (Some 7) (Some (105 ∷ 110 ∷ 116 ∷ [])) ∷ n kinds.NumberLiteral 0 (Some 13) (Some (49 ∷ [])) ∷ [] } ∷
    -- match, x = 1
    record { line = at s.MatchWord 0 (109 ∷ 97 ∷ 116 ∷ 99 ∷ 104 ∷ []) ∷ at s.Comma 5 (44 ∷ []) ∷ at s.Name 7 (120 ∷ []) ∷ at s.Assign 9 (61 ∷ []) ∷ at s.Number 11 (49 ∷ []) ∷ []; nodes = n kinds.Assign 2 (Some 0) None ∷ n kinds.TupleTarget 2 (Some 0) None ∷ n kinds.NameTarget 0 (Some 0) (Some (109 ∷ 97 ∷ 116 ∷ 99 ∷ 104 ∷ [])) ∷ n kinds.NameTarget 0 (Some 7) (Some (120 ∷ [])) ∷ n kinds.NumberLiteral 0 (Some 11) (Some (49 ∷ [])) ∷ [] } ∷
    -- match -x
    record { line = at s.MatchWord 0 (109 ∷ 97 ∷ 116 ∷ 99 ∷ 104 ∷ []) ∷ at s.Minus 6 (45 ∷ []) ∷ at s.Name 7 (120 ∷ []) ∷ []; nodes = n kinds.ExpressionStatement 1 (Some 0) None ∷ n kinds.Sum 3 (Some 0) None ∷ n kinds.Name 0 (Some 0) (Some (109 ∷ 97 ∷ 116 ∷ 99 ∷ 104 ∷ [])) ∷ n kinds.Subtract 0 None None ∷ n kinds.Name 0 (Some 7) (Some (120 ∷ [])) ∷ [] } ∷
    -- match * x
    record { line = at s.MatchWord 0 (109 ∷ 97 ∷ 116 ∷ 99 ∷ 104 ∷ []) ∷ at s.Star 6 (42 ∷ []) ∷ at s.Name 8 (120 ∷ []) ∷ []; nodes = n kinds.ExpressionStatement 1 (Some 0) None ∷ n kinds.Product 3 (Some 0) None ∷ n kinds.Name 0 (Some 0) (Some (109 ∷ 97 ∷ 116 ∷ 99 ∷ 104 ∷ [])) ∷ n kinds.Multiply 0 None None ∷ n kinds.Name 0 (Some 8) (Some (120 ∷ [])) ∷ [] } ∷
    -- match *x, y
    record { line = at s.MatchWord 0 (109 ∷ 97 ∷ 116 ∷ 99 ∷ 104 ∷ []) ∷ at s.Star 6 (42 ∷ []) ∷ at s.Name 7 (120 ∷ []) ∷ at s.Comma 8 (44 ∷ []) ∷ at s.Name 10 (121 ∷ []) ∷ []; nodes = n kinds.ExpressionStatement 1 (Some 0) None ∷ n kinds.Tuple 2 (Some 0) None ∷ n kinds.Product 3 (Some 0) None ∷ n kinds.Name 0 (Some 0) (Some (109 ∷ 97 ∷ 116 ∷ 99 ∷ 104 ∷ [])) ∷ n kinds.Multiply 0 None None ∷ n kinds.Name 0 (Some 7) (Some (120 ∷ [])) ∷ n kinds.Name 0 (Some 10) (Some (121 ∷ [])) ∷ [] } ∷
    -- match not x:
    record { line = at s.MatchWord 0 (109 ∷ 97 ∷ 116 ∷ 99 ∷ 104 ∷ []) ∷ at s.NotWord 6 (110 ∷ 111 ∷ 116 ∷ []) ∷ at s.Name 10 (120 ∷ []) ∷ at s.Colon 11 (58 ∷ []) ∷ []; nodes = n kinds.Not 1 (Some 6) None ∷ n kinds.Name 0 (Some 10) (Some (120 ∷ [])) ∷ [] } ∷
    -- match lambda: x:
    record { line = at s.MatchWord 0 (109 ∷ 97 ∷ 116 ∷ 99 ∷ 104 ∷ []) ∷ at s.LambdaWord 6 (108 ∷ 97 ∷ 109 ∷ 98 ∷ 100 ∷ 97 ∷ []) ∷ at s.Colon 12 (58 ∷ []) ∷ at s.Name 14 (120 ∷ []) ∷ at s.Colon 15 (58 ∷ []) ∷ []; nodes = n kinds.Lambda 1 (Some 6) None ∷ n kinds.Name 0 (Some 14) (Some (120 ∷ [])) ∷ [] } ∷
    -- match "a":
    record { line = at s.MatchWord 0 (109 ∷ 97 ∷ 116 ∷ 99 ∷ 104 ∷ []) ∷ at s.Str 6 (34 ∷ 97 ∷ 34 ∷ []) ∷ at s.Colon 9 (58 ∷ []) ∷ []; nodes = n kinds.StringLiteral 0 (Some 6) (Some (34 ∷ 97 ∷ 34 ∷ [])) ∷ [] } ∷
    -- match 1:
    record { line = at s.MatchWord 0 (109 ∷ 97 ∷ 116 ∷ 99 ∷ 104 ∷ []) ∷ at s.Number 6 (49 ∷ []) ∷ at s.Colon 7 (58 ∷ []) ∷ []; nodes = n kinds.NumberLiteral 0 (Some 6) (Some (49 ∷ [])) ∷ [] } ∷
    -- match x if y else z:
    record { line = at s.MatchWord 0 (109 ∷ 97 ∷ 116 ∷ 99 ∷ 104 ∷ []) ∷ at s.Name 6 (120 ∷ []) ∷ at s.IfWord 8 (105 ∷ 102 ∷ []) ∷ at s.Name 11 (121 ∷ []) ∷ at s.ElseWord 13 (101 ∷ 108 ∷ 115 ∷ 101 ∷ []) ∷ at s.Name 18 (122 ∷ []) ∷ at s.Colon 19 (58 ∷ []) ∷ []; nodes = n kinds.Conditional 3 (Some 6) None ∷ n kinds.Name 0 (Some 6) (Some (120 ∷ [])) ∷ n kinds.Name 0 (Some 11) (Some (121 ∷ [])) ∷ n kinds.Name 0 (Some 18) (Some (122 ∷ [])) ∷ [] } ∷
    -- print(match)
    record { line = at s.Name 0 (112 ∷ 114 ∷ 105 ∷ 110 ∷ 116 ∷ []) ∷ at s.LeftParen 5 (40 ∷ []) ∷ at s.MatchWord 6 (109 ∷ 97 ∷ 116 ∷ 99 ∷ 104 ∷ []) ∷ at s.RightParen 11 (41 ∷ []) ∷ []; nodes = n kinds.ExpressionStatement 1 (Some 0) None ∷ n kinds.Call 2 (Some 0) None ∷ n kinds.Name 0 (Some 0) (Some (112 ∷ 114 ∷ 105 ∷ 110 ∷ 116 ∷ [])) ∷ n kinds.Name 0 (Some 6) (Some (109 ∷ 97 ∷ 116 ∷ 99 ∷ 104 ∷ [])) ∷ [] } ∷
    -- case
    record { line = at s.CaseWord 0 (99 ∷ 97 ∷ 115 ∷ 101 ∷ []) ∷ []; nodes = n kinds.ExpressionStatement 1 (Some 0) None ∷ n kinds.Name 0 (Some 0) (Some (99 ∷ 97 ∷ 115 ∷ 101 ∷ [])) ∷ [] } ∷
    -- case = 1
    record { line = at s.CaseWord 0 (99 ∷ 97 ∷ 115 ∷ 101 ∷ []) ∷ at s.Assign 5 (61 ∷ []) ∷ at s.Number 7 (49 ∷ []) ∷ []; nodes = n kinds.Assign 2 (Some 0) None ∷ n kinds.NameTarget 0 (Some 0) (Some (99 ∷ 97 ∷ 115 ∷ 101 ∷ [])) ∷ n kinds.NumberLiteral 0 (Some 7) (Some (49 ∷ [])) ∷ [] } ∷
    -- case.x
    record { line = at s.CaseWord 0 (99 ∷ 97 ∷ 115 ∷ 101 ∷ []) ∷ at s.Dot 4 (46 ∷ []) ∷ at s.Name 5 (120 ∷ []) ∷ []; nodes = n kinds.ExpressionStatement 1 (Some 0) None ∷ n kinds.Attribute 1 (Some 0) (Some (120 ∷ [])) ∷ n kinds.Name 0 (Some 0) (Some (99 ∷ 97 ∷ 115 ∷ 101 ∷ [])) ∷ [] } ∷
    -- case(x)
    record { line = at s.CaseWord 0 (99 ∷ 97 ∷ 115 ∷ 101 ∷ []) ∷ at s.LeftParen 4 (40 ∷ []) ∷ at s.Name 5 (120 ∷ []) ∷ at s.RightParen 6 (41 ∷ []) ∷ []; nodes = n kinds.ExpressionStatement 1 (Some 0) None ∷ n kinds.Call 2 (Some 0) None ∷ n kinds.Name 0 (Some 0) (Some (99 ∷ 97 ∷ 115 ∷ 101 ∷ [])) ∷ n kinds.Name 0 (Some 5) (Some (120 ∷ [])) ∷ [] } ∷
    -- case + 1
    record { line = at s.CaseWord 0 (99 ∷ 97 ∷ 115 ∷ 101 ∷ []) ∷ at s.Plus 5 (43 ∷ []) ∷ at s.Number 7 (49 ∷ []) ∷ []; nodes = n kinds.ExpressionStatement 1 (Some 0) None ∷ n kinds.Sum 3 (Some 0) None ∷ n kinds.Name 0 (Some 0) (Some (99 ∷ 97 ∷ 115 ∷ 101 ∷ [])) ∷ n kinds.Add 0 None None ∷ n kinds.NumberLiteral 0 (Some 7) (Some (49 ∷ [])) ∷ [] } ∷
    -- case, x
    record { line = at s.CaseWord 0 (99 ∷ 97 ∷ 115 ∷ 101 ∷ []) ∷ at s.Comma 4 (44 ∷ []) ∷ at s.Name 6 (120 ∷ []) ∷ []; nodes = n kinds.ExpressionStatement 1 (Some 0) None ∷ n kinds.Tuple 2 (Some 0) None ∷ n kinds.Name 0 (Some 0) (Some (99 ∷ 97 ∷ 115 ∷ 101 ∷ [])) ∷ n kinds.Name 0 (Some 6) (Some (120 ∷ [])) ∷ [] } ∷
    -- case: int
    record { line = at s.CaseWord 0 (99 ∷ 97 ∷ 115 ∷ 101 ∷ []) ∷ at s.Colon 4 (58 ∷ []) ∷ at s.Name 6 (105 ∷ 110 ∷ 116 ∷ []) ∷ []; nodes = n kinds.AnnAssign 2 (Some 0) None ∷ n kinds.NameTarget 0 (Some 0) (Some (99 ∷ 97 ∷ 115 ∷ 101 ∷ [])) ∷ n kinds.Annotation 1 None None ∷ n kinds.Name 0 (Some 6) (Some (105 ∷ 110 ∷ 116 ∷ [])) ∷ [] } ∷
    -- case[x] = 1
    record { line = at s.CaseWord 0 (99 ∷ 97 ∷ 115 ∷ 101 ∷ []) ∷ at s.LeftBracket 4 (91 ∷ []) ∷ at s.Name 5 (120 ∷ []) ∷ at s.RightBracket 6 (93 ∷ []) ∷ at s.Assign 8 (61 ∷ []) ∷ at s.Number 10 (49 ∷ []) ∷ []; nodes = n kinds.Assign 2 (Some 0) None ∷ n kinds.SubscriptTarget 2 (Some 0) None ∷ n kinds.Name 0 (Some 0) (Some (99 ∷ 97 ∷ 115 ∷ 101 ∷ [])) ∷ n kinds.Name 0 (Some 5) (Some (120 ∷ [])) ∷ n kinds.NumberLiteral 0 (Some 10) (Some (49 ∷ [])) ∷ [] } ∷
    -- case x:
    record { line = at s.CaseWord 0 (99 ∷ 97 ∷ 115 ∷ 101 ∷ []) ∷ at s.Name 5 (120 ∷ []) ∷ at s.Colon 6 (58 ∷ []) ∷ []; nodes = n kinds.MatchCapture 0 (Some 5) (Some (120 ∷ [])) ∷ [] } ∷
    []

-- each line has the nodes that are said
rows_hold : map nodes_of_line rows ≡ map said rows
unfolding star_at named_at element_at sx_item_at sx_at yield_at target_item_at targets_at for_clause_at clause_at clauses_at more_elements_at parenthesized_at list_display_at item_or_named_at unpacked_at brace_entry_at more_entries_at brace_display_at starred_argument_at plain_argument_at argument_at arguments_at more_arguments_at call_arguments_at slice_rest_at slice_at slices_item_at slices_at trailer_at field_expression_at inner_field_at field_at string_part_at strings_at atom_at primary_at awaited_at power_at factor_at term_at arith_at shift_at bit_and_at bit_xor_at bit_or_at comparison_sign_at comparison_at not_at and_at or_at lambda_parameter_at lambda_parameters_at lambda_at test_at signed_number_at number_pattern_at literal_at dotted_name_at class_argument_at class_arguments_at name_pattern_at star_pattern_at sequence_item_at parenthesized_pattern_at bracketed_pattern_at mapping_item_at mapping_pattern_at closed_pattern_at or_pattern_at pattern_at open_patterns_at value_at assigned_value_at return_at raise_at declaration_at delete_at assert_at as_name_at module_name_at import_at imported_name_at imported_names_at source_at import_from_at keyword_statement_at value_statement_at statement_at statements_at parameter_annotation_at star_annotation_at parameter_at parameters_at for_header_at except_header_at except_star_header_at with_item_at plain_with_at parenthesized_with_at function_header_at class_header_at subject_at match_header_at case_header_at decorator_line_at reader_of phrase_at headed_at bare_at simple_at with_at async_line_at except_line_at line_by line_at
rows_hold = refl
