-- Lines with the nodes that Python's own parser gives them, in preorder, computed from the readers of the definition: rows
-- that tools/grammar_trees.py writes.
use Rattle.std.specs.Prelude.{List, [], ◌∷◌, Some, None, map}
use Rattle.std.proofs.Common.{◌≡◌, refl}
use Rattle.tree_nodes.specs.declared.kind.Kind.TheVariants as kinds
use Rattle.py_grammar.specs.declared.symbol.Symbol.TheVariants as s
use Rattle.py_grammar.proofs.TryingTrees.{Row, at, n, nodes_of_line, said}
use Rattle.py_grammar.specs.Reading.{star_at, named_at, element_at, sx_item_at, sx_at, yield_at, target_item_at, targets_at, for_clause_at, clause_at, clauses_at, more_elements_at, parenthesized_at, list_display_at, item_or_named_at, unpacked_at, brace_entry_at, more_entries_at, brace_display_at, starred_argument_at, plain_argument_at, argument_at, arguments_at, more_arguments_at, call_arguments_at, slice_rest_at, slice_at, slices_item_at, slices_at, trailer_at, field_expression_at, inner_field_at, field_at, string_part_at, strings_at, atom_at, primary_at, awaited_at, power_at, factor_at, term_at, arith_at, shift_at, bit_and_at, bit_xor_at, bit_or_at, comparison_sign_at, comparison_at, not_at, and_at, or_at, lambda_parameter_at, lambda_parameters_at, lambda_at, test_at}
use Rattle.py_grammar.specs.ReadingPatterns.{signed_number_at, number_pattern_at, literal_at, dotted_name_at, class_argument_at, class_arguments_at, name_pattern_at, star_pattern_at, sequence_item_at, parenthesized_pattern_at, bracketed_pattern_at, mapping_item_at, mapping_pattern_at, closed_pattern_at, or_pattern_at, pattern_at, open_patterns_at}
use Rattle.py_grammar.specs.ReadingStatements.{value_at, assigned_value_at, return_at, raise_at, declaration_at, delete_at, assert_at, as_name_at, module_name_at, import_at, imported_name_at, imported_names_at, source_at, import_from_at, keyword_statement_at, value_statement_at, statement_at, statements_at}
use Rattle.py_grammar.specs.ReadingHeaders.{parameter_annotation_at, star_annotation_at, parameter_at, parameters_at, for_header_at, except_header_at, except_star_header_at, with_item_at, plain_with_at, parenthesized_with_at, function_header_at, class_header_at, subject_at, match_header_at, case_header_at, decorator_line_at}
use Rattle.py_grammar.specs.ReadingLines.{reader_of, phrase_at, headed_at, bare_at, simple_at, with_at, async_line_at, except_line_at, line_by, line_at}

abbrev rows : List Row
rows =
    -- return
    record { line = at s.ReturnWord 0 (114 ∷ 101 ∷ 116 ∷ 117 ∷ 114 ∷ 110 ∷ []) ∷ []; nodes = n kinds.Return 0 (Some 0) None ∷ [] } ∷
    -- return x
    record { line = at s.ReturnWord 0 (114 ∷ 101 ∷ 116 ∷ 117 ∷ 114 ∷ 110 ∷ []) ∷ at s.Name 7 (120 ∷ []) ∷ []; nodes = n kinds.Return 1 (Some 0) None ∷ n kinds.Name 0 (Some 7) (Some (120 ∷ [])) ∷ [] } ∷
    -- return x, *y
    record { line = at s.ReturnWord 0 (114 ∷ 101 ∷ 116 ∷ 117 ∷ 114 ∷ 110 ∷ []) ∷ at s.Name 7 (120 ∷ []) ∷ at s.Comma 8 (44 ∷ []) ∷ at s.Star 10 (42 ∷ []) ∷ at s.Name 11 (121 ∷ []) ∷ []; nodes = n kinds.Return 1 (Some 0) None ∷ n kinds.Tuple 2 (Some 7) None ∷ n kinds.Name 0 (Some 7) (Some (120 ∷ [])) ∷ n kinds.Starred 1 (Some 10) None ∷ n kinds.Name 0 (Some 11) (Some (121 ∷ [])) ∷ [] } ∷
    -- return *x
    record { line = at s.ReturnWord 0 (114 ∷ 101 ∷ 116 ∷ 117 ∷ 114 ∷ 110 ∷ []) ∷ at s.Star 7 (42 ∷ []) ∷ at s.Name 8 (120 ∷ []) ∷ []; nodes = n kinds.Return 1 (Some 0) None ∷ n kinds.Starred 1 (Some 7) None ∷ n kinds.Name 0 (Some 8) (Some (120 ∷ [])) ∷ [] } ∷
    -- raise
    record { line = at s.RaiseWord 0 (114 ∷ 97 ∷ 105 ∷ 115 ∷ 101 ∷ []) ∷ []; nodes = n kinds.Raise 0 (Some 0) None ∷ [] } ∷
    -- raise x
    record { line = at s.RaiseWord 0 (114 ∷ 97 ∷ 105 ∷ 115 ∷ 101 ∷ []) ∷ at s.Name 6 (120 ∷ []) ∷ []; nodes = n kinds.Raise 1 (Some 0) None ∷ n kinds.Name 0 (Some 6) (Some (120 ∷ [])) ∷ [] } ∷
    -- raise x from y
    record { line = at s.RaiseWord 0 (114 ∷ 97 ∷ 105 ∷ 115 ∷ 101 ∷ []) ∷ at s.Name 6 (120 ∷ []) ∷ at s.FromWord 8 (102 ∷ 114 ∷ 111 ∷ 109 ∷ []) ∷ at s.Name 13 (121 ∷ []) ∷ []; nodes = n kinds.Raise 2 (Some 0) None ∷ n kinds.Name 0 (Some 6) (Some (120 ∷ [])) ∷ n kinds.Name 0 (Some 13) (Some (121 ∷ [])) ∷ [] } ∷
    -- global x
    record { line = at s.GlobalWord 0 (103 ∷ 108 ∷ 111 ∷ 98 ∷ 97 ∷ 108 ∷ []) ∷ at s.Name 7 (120 ∷ []) ∷ []; nodes = n kinds.Global 1 (Some 0) None ∷ n kinds.DeclaredName 0 None (Some (120 ∷ [])) ∷ [] } ∷
    -- global x, y
    record { line = at s.GlobalWord 0 (103 ∷ 108 ∷ 111 ∷ 98 ∷ 97 ∷ 108 ∷ []) ∷ at s.Name 7 (120 ∷ []) ∷ at s.Comma 8 (44 ∷ []) ∷ at s.Name 10 (121 ∷ []) ∷ []; nodes = n kinds.Global 2 (Some 0) None ∷ n kinds.DeclaredName 0 None (Some (120 ∷ [])) ∷ n kinds.DeclaredName 0 None (Some (121 ∷ [])) ∷ [] } ∷
    -- nonlocal x
    record { line = at s.NonlocalWord 0 (110 ∷ 111 ∷ 110 ∷ 108 ∷ 111 ∷ 99 ∷ 97 ∷ 108 ∷ []) ∷ at s.Name 9 (120 ∷ []) ∷ []; nodes = n kinds.Nonlocal 1 (Some 0) None ∷ n kinds.DeclaredName 0 None (Some (120 ∷ [])) ∷ [] } ∷
    -- del x
    record { line = at s.DelWord 0 (100 ∷ 101 ∷ 108 ∷ []) ∷ at s.Name 4 (120 ∷ []) ∷ []; nodes = n kinds.Delete 1 (Some 0) None ∷ n kinds.NameTarget 0 (Some 4) (Some (120 ∷ [])) ∷ [] } ∷
    -- del x, y
    record { line = at s.DelWord 0 (100 ∷ 101 ∷ 108 ∷ []) ∷ at s.Name 4 (120 ∷ []) ∷ at s.Comma 5 (44 ∷ []) ∷ at s.Name 7 (121 ∷ []) ∷ []; nodes = n kinds.Delete 2 (Some 0) None ∷ n kinds.NameTarget 0 (Some 4) (Some (120 ∷ [])) ∷ n kinds.NameTarget 0 (Some 7) (Some (121 ∷ [])) ∷ [] } ∷
    -- del (x, y)
    record { line = at s.DelWord 0 (100 ∷ 101 ∷ 108 ∷ []) ∷ at s.LeftParen 4 (40 ∷ []) ∷ at s.Name 5 (120 ∷ []) ∷ at s.Comma 6 (44 ∷ []) ∷ at s.Name 8 (121 ∷ []) ∷ at s.RightParen 9 (41 ∷ []) ∷ []; nodes = n kinds.Delete 1 (Some 0) None ∷ n kinds.TupleTarget 2 (Some 4) None ∷ n kinds.NameTarget 0 (Some 5) (Some (120 ∷ [])) ∷ n kinds.NameTarget 0 (Some 8) (Some (121 ∷ [])) ∷ [] } ∷
    -- del (x), [y]
    record { line = at s.DelWord 0 (100 ∷ 101 ∷ 108 ∷ []) ∷ at s.LeftParen 4 (40 ∷ []) ∷ at s.Name 5 (120 ∷ []) ∷ at s.RightParen 6 (41 ∷ []) ∷ at s.Comma 7 (44 ∷ []) ∷ at s.LeftBracket 9 (91 ∷ []) ∷ at s.Name 10 (121 ∷ []) ∷ at s.RightBracket 11 (93 ∷ []) ∷ []; nodes = n kinds.Delete 2 (Some 0) None ∷ n kinds.NameTarget 0 (Some 5) (Some (120 ∷ [])) ∷ n kinds.ListTarget 1 (Some 9) None ∷ n kinds.NameTarget 0 (Some 10) (Some (121 ∷ [])) ∷ [] } ∷
    -- del x,
    record { line = at s.DelWord 0 (100 ∷ 101 ∷ 108 ∷ []) ∷ at s.Name 4 (120 ∷ []) ∷ at s.Comma 5 (44 ∷ []) ∷ []; nodes = n kinds.Delete 1 (Some 0) None ∷ n kinds.NameTarget 0 (Some 4) (Some (120 ∷ [])) ∷ [] } ∷
    -- del x.y, x[0]
    record { line = at s.DelWord 0 (100 ∷ 101 ∷ 108 ∷ []) ∷ at s.Name 4 (120 ∷ []) ∷ at s.Dot 5 (46 ∷ []) ∷ at s.Name 6 (121 ∷ []) ∷ at s.Comma 7 (44 ∷ []) ∷ at s.Name 9 (120 ∷ []) ∷ at s.LeftBracket 10 (91 ∷ []) ∷ at s.Number 11 (48 ∷ []) ∷ at s.RightBracket 12 (93 ∷ []) ∷ []; nodes = n kinds.Delete 2 (Some 0) None ∷ n kinds.AttributeTarget 1 (Some 4) (Some (121 ∷ [])) ∷ n kinds.Name 0 (Some 4) (Some (120 ∷ [])) ∷ n kinds.SubscriptTarget 2 (Some 9) None ∷ n kinds.Name 0 (Some 9) (Some (120 ∷ [])) ∷ n kinds.NumberLiteral 0 (Some 11) (Some (48 ∷ [])) ∷ [] } ∷
    -- assert x
    record { line = at s.AssertWord 0 (97 ∷ 115 ∷ 115 ∷ 101 ∷ 114 ∷ 116 ∷ []) ∷ at s.Name 7 (120 ∷ []) ∷ []; nodes = n kinds.Assert 1 (Some 0) None ∷ n kinds.Name 0 (Some 7) (Some (120 ∷ [])) ∷ [] } ∷
    -- assert x, y
    record { line = at s.AssertWord 0 (97 ∷ 115 ∷ 115 ∷ 101 ∷ 114 ∷ 116 ∷ []) ∷ at s.Name 7 (120 ∷ []) ∷ at s.Comma 8 (44 ∷ []) ∷ at s.Name 10 (121 ∷ []) ∷ []; nodes = n kinds.Assert 2 (Some 0) None ∷ n kinds.Name 0 (Some 7) (Some (120 ∷ [])) ∷ n kinds.Name 0 (Some 10) (Some (121 ∷ [])) ∷ [] } ∷
    -- import a
    record { line = at s.ImportWord 0 (105 ∷ 109 ∷ 112 ∷ 111 ∷ 114 ∷ 116 ∷ []) ∷ at s.Name 7 (97 ∷ []) ∷ []; nodes = n kinds.Import 1 (Some 0) None ∷ n kinds.Alias 0 (Some 7) (Some (97 ∷ [])) ∷ [] } ∷
    -- import a.b.c
    record { line = at s.ImportWord 0 (105 ∷ 109 ∷ 112 ∷ 111 ∷ 114 ∷ 116 ∷ []) ∷ at s.Name 7 (97 ∷ []) ∷ at s.Dot 8 (46 ∷ []) ∷ at s.Name 9 (98 ∷ []) ∷ at s.Dot 10 (46 ∷ []) ∷ at s.Name 11 (99 ∷ []) ∷ []; nodes = n kinds.Import 1 (Some 0) None ∷ n kinds.Alias 0 (Some 7) (Some (97 ∷ 46 ∷ 98 ∷ 46 ∷ 99 ∷ [])) ∷ [] } ∷
    -- import a as b
    record { line = at s.ImportWord 0 (105 ∷ 109 ∷ 112 ∷ 111 ∷ 114 ∷ 116 ∷ []) ∷ at s.Name 7 (97 ∷ []) ∷ at s.AsWord 9 (97 ∷ 115 ∷ []) ∷ at s.Name 12 (98 ∷ []) ∷ []; nodes = n kinds.Import 1 (Some 0) None ∷ n kinds.Alias 1 (Some 7) (Some (97 ∷ [])) ∷ n kinds.AsName 0 None (Some (98 ∷ [])) ∷ [] } ∷
    -- import a, b.c as d
    record { line = at s.ImportWord 0 (105 ∷ 109 ∷ 112 ∷ 111 ∷ 114 ∷ 116 ∷ []) ∷ at s.Name 7 (97 ∷ []) ∷ at s.Comma 8 (44 ∷ []) ∷ at s.Name 10 (98 ∷ []) ∷ at s.Dot 11 (46 ∷ []) ∷ at s.Name 12 (99 ∷ []) ∷ at s.AsWord 14 (97 ∷ 115 ∷ []) ∷ at s.Name 17 (100 ∷ []) ∷ []; nodes = n kinds.Import 2 (Some 0) None ∷ n kinds.Alias 0 (Some 7) (Some (97 ∷ [])) ∷ n kinds.Alias 1 (Some 10) (Some (98 ∷ 46 ∷ 99 ∷ [])) ∷ n kinds.AsName 0 None (Some (100 ∷ [])) ∷ [] } ∷
    -- from a import b
    record { line = at s.FromWord 0 (102 ∷ 114 ∷ 111 ∷ 109 ∷ []) ∷ at s.Name 5 (97 ∷ []) ∷ at s.ImportWord 7 (105 ∷ 109 ∷ 112 ∷ 111 ∷ 114 ∷ 116 ∷ []) ∷ at s.Name 14 (98 ∷ []) ∷ []; nodes = n kinds.ImportFrom 1 (Some 0) (Some (97 ∷ [])) ∷ n kinds.Alias 0 (Some 14) (Some (98 ∷ [])) ∷ [] } ∷
    -- from a.b import c as d, e
    record { line = at s.FromWord 0 (102 ∷ 114 ∷ 111 ∷ 109 ∷ []) ∷ at s.Name 5 (97 ∷ []) ∷ at s.Dot 6 (46 ∷ []) ∷ at s.Name 7 (98 ∷ []) ∷ at s.ImportWord 9 (105 ∷ 109 ∷ 112 ∷ 111 ∷ 114 ∷ 116 ∷ []) ∷ at s.Name 16 (99 ∷ []) ∷ at s.AsWord 18 (97 ∷ 115 ∷ []) ∷ at s.Name 21 (100 ∷ []) ∷ at s.Comma 22 (44 ∷ []) ∷ at s.Name 24 (101 ∷ []) ∷ []; nodes = n kinds.ImportFrom 2 (Some 0) (Some (97 ∷ 46 ∷ 98 ∷ [])) ∷ n kinds.Alias 1 (Some 16) (Some (99 ∷ [])) ∷ n kinds.AsName 0 None (Some (100 ∷ [])) ∷ n kinds.Alias 0 (Some 24) (Some (101 ∷ [])) ∷ [] } ∷
    -- from . import a
    record { line = at s.FromWord 0 (102 ∷ 114 ∷ 111 ∷ 109 ∷ []) ∷ at s.Dot 5 (46 ∷ []) ∷ at s.ImportWord 7 (105 ∷ 109 ∷ 112 ∷ 111 ∷ 114 ∷ 116 ∷ []) ∷ at s.Name 14 (97 ∷ []) ∷ []; nodes = n kinds.ImportFrom 1 (Some 0) (Some (46 ∷ [])) ∷ n kinds.Alias 0 (Some 14) (Some (97 ∷ [])) ∷ [] } ∷
    -- from .. import a
    record { line = at s.FromWord 0 (102 ∷ 114 ∷ 111 ∷ 109 ∷ []) ∷ at s.Dot 5 (46 ∷ []) ∷ at s.Dot 6 (46 ∷ []) ∷ at s.ImportWord 8 (105 ∷ 109 ∷ 112 ∷ 111 ∷ 114 ∷ 116 ∷ []) ∷ at s.Name 15 (97 ∷ []) ∷ []; nodes = n kinds.ImportFrom 1 (Some 0) (Some (46 ∷ 46 ∷ [])) ∷ n kinds.Alias 0 (Some 15) (Some (97 ∷ [])) ∷ [] } ∷
    -- from ... import a
    record { line = at s.FromWord 0 (102 ∷ 114 ∷ 111 ∷ 109 ∷ []) ∷ at s.Ellipsis 5 (46 ∷ 46 ∷ 46 ∷ []) ∷ at s.ImportWord 9 (105 ∷ 109 ∷ 112 ∷ 111 ∷ 114 ∷ 116 ∷ []) ∷ at s.Name 16 (97 ∷ []) ∷ []; nodes = n kinds.ImportFrom 1 (Some 0) (Some (46 ∷ 46 ∷ 46 ∷ [])) ∷ n kinds.Alias 0 (Some 16) (Some (97 ∷ [])) ∷ [] } ∷
    -- from .... import a
    record { line = at s.FromWord 0 (102 ∷ 114 ∷ 111 ∷ 109 ∷ []) ∷ at s.Ellipsis 5 (46 ∷ 46 ∷ 46 ∷ []) ∷ at s.Dot 8 (46 ∷ []) ∷ at s.ImportWord 10 (105 ∷ 109 ∷ 112 ∷ 111 ∷ 114 ∷ 116 ∷ []) ∷ at s.Name 17 (97 ∷ []) ∷ []; nodes = n kinds.ImportFrom 1 (Some 0) (Some (46 ∷ 46 ∷ 46 ∷ 46 ∷ [])) ∷ n kinds.Alias 0 (Some 17) (Some (97 ∷ [])) ∷ [] } ∷
    -- from .a.b import c
    record { line = at s.FromWord 0 (102 ∷ 114 ∷ 111 ∷ 109 ∷ []) ∷ at s.Dot 5 (46 ∷ []) ∷ at s.Name 6 (97 ∷ []) ∷ at s.Dot 7 (46 ∷ []) ∷ at s.Name 8 (98 ∷ []) ∷ at s.ImportWord 10 (105 ∷ 109 ∷ 112 ∷ 111 ∷ 114 ∷ 116 ∷ []) ∷ at s.Name 17 (99 ∷ []) ∷ []; nodes = n kinds.ImportFrom 1 (Some 0) (Some (46 ∷ 97 ∷ 46 ∷ 98 ∷ [])) ∷ n kinds.Alias 0 (Some 17) (Some (99 ∷ [])) ∷ [] } ∷
    -- from ...a import c
    record { line = at s.FromWord 0 (102 ∷ 114 ∷ 111 ∷ 109 ∷ []) ∷ at s.Ellipsis 5 (46 ∷ 46 ∷ 46 ∷ []) ∷ at s.Name 8 (97 ∷ []) ∷ at s.ImportWord 10 (105 ∷ 109 ∷ 112 ∷ 111 ∷ 114 ∷ 116 ∷ []) ∷ at s.Name 17 (99 ∷ []) ∷ []; nodes = n kinds.ImportFrom 1 (Some 0) (Some (46 ∷ 46 ∷ 46 ∷ 97 ∷ [])) ∷ n kinds.Alias 0 (Some 17) (Some (99 ∷ [])) ∷ [] } ∷
    -- from a import (b)
    record { line = at s.FromWord 0 (102 ∷ 114 ∷ 111 ∷ 109 ∷ []) ∷ at s.Name 5 (97 ∷ []) ∷ at s.ImportWord 7 (105 ∷ 109 ∷ 112 ∷ 111 ∷ 114 ∷ 116 ∷ []) ∷ at s.LeftParen 14 (40 ∷ []) ∷ at s.Name 15 (98 ∷ []) ∷ at s.RightParen 16 (41 ∷ []) ∷ []; nodes = n kinds.ImportFrom 1 (Some 0) (Some (97 ∷ [])) ∷ n kinds.Alias 0 (Some 15) (Some (98 ∷ [])) ∷ [] } ∷
    -- from a import (b, c as d,)
    record { line = at s.FromWord 0 (102 ∷ 114 ∷ 111 ∷ 109 ∷ []) ∷ at s.Name 5 (97 ∷ []) ∷ at s.ImportWord 7 (105 ∷ 109 ∷ 112 ∷ 111 ∷ 114 ∷ 116 ∷ []) ∷ at s.LeftParen 14 (40 ∷ []) ∷ at s.Name 15 (98 ∷ []) ∷ at s.Comma 16 (44 ∷ []) ∷ at s.Name 18 (99 ∷ []) ∷ at s.AsWord 20 (97 ∷ 115 ∷ []) ∷ at s.Name 23 (100 ∷ []) ∷ at s.Comma 24 (44 ∷ []) ∷ at s.RightParen 25 (41 ∷ []) ∷ []; nodes = n kinds.ImportFrom 2 (Some 0) (Some (97 ∷ [])) ∷ n kinds.Alias 0 (Some 15) (Some (98 ∷ [])) ∷ n kinds.Alias 1 (Some 18) (Some (99 ∷ [])) ∷ n kinds.AsName 0 None (Some (100 ∷ [])) ∷ [] } ∷
    -- from a import *
    record { line = at s.FromWord 0 (102 ∷ 114 ∷ 111 ∷ 109 ∷ []) ∷ at s.Name 5 (97 ∷ []) ∷ at s.ImportWord 7 (105 ∷ 109 ∷ 112 ∷ 111 ∷ 114 ∷ 116 ∷ []) ∷ at s.Star 14 (42 ∷ []) ∷ []; nodes = n kinds.ImportFrom 1 (Some 0) (Some (97 ∷ [])) ∷ n kinds.ImportWildcard 0 (Some 14) None ∷ [] } ∷
    -- x; y
    record { line = at s.Name 0 (120 ∷ []) ∷ at s.Semicolon 1 (59 ∷ []) ∷ at s.Name 3 (121 ∷ []) ∷ []; nodes = n kinds.ExpressionStatement 1 (Some 0) None ∷ n kinds.Name 0 (Some 0) (Some (120 ∷ [])) ∷ n kinds.ExpressionStatement 1 (Some 3) None ∷ n kinds.Name 0 (Some 3) (Some (121 ∷ [])) ∷ [] } ∷
    -- x; y;
    record { line = at s.Name 0 (120 ∷ []) ∷ at s.Semicolon 1 (59 ∷ []) ∷ at s.Name 3 (121 ∷ []) ∷ at s.Semicolon 4 (59 ∷ []) ∷ []; nodes = n kinds.ExpressionStatement 1 (Some 0) None ∷ n kinds.Name 0 (Some 0) (Some (120 ∷ [])) ∷ n kinds.ExpressionStatement 1 (Some 3) None ∷ n kinds.Name 0 (Some 3) (Some (121 ∷ [])) ∷ [] } ∷
    -- x = 1; import a
    record { line = at s.Name 0 (120 ∷ []) ∷ at s.Assign 2 (61 ∷ []) ∷ at s.Number 4 (49 ∷ []) ∷ at s.Semicolon 5 (59 ∷ []) ∷ at s.ImportWord 7 (105 ∷ 109 ∷ 112 ∷ 111 ∷ 114 ∷ 116 ∷ []) ∷ at s.Name 14 (97 ∷ []) ∷ []; nodes = n kinds.Assign 2 (Some 0) None ∷ n kinds.NameTarget 0 (Some 0) (Some (120 ∷ [])) ∷ n kinds.NumberLiteral 0 (Some 4) (Some (49 ∷ [])) ∷ n kinds.Import 1 (Some 7) None ∷ n kinds.Alias 0 (Some 14) (Some (97 ∷ [])) ∷ [] } ∷
    -- if x:
    record { line = at s.IfWord 0 (105 ∷ 102 ∷ []) ∷ at s.Name 3 (120 ∷ []) ∷ at s.Colon 4 (58 ∷ []) ∷ []; nodes = n kinds.Name 0 (Some 3) (Some (120 ∷ [])) ∷ [] } ∷
    -- if x: y
    record { line = at s.IfWord 0 (105 ∷ 102 ∷ []) ∷ at s.Name 3 (120 ∷ []) ∷ at s.Colon 4 (58 ∷ []) ∷ at s.Name 6 (121 ∷ []) ∷ []; nodes = n kinds.Name 0 (Some 3) (Some (120 ∷ [])) ∷ n kinds.ExpressionStatement 1 (Some 6) None ∷ n kinds.Name 0 (Some 6) (Some (121 ∷ [])) ∷ [] } ∷
    -- if x: y; z
    record { line = at s.IfWord 0 (105 ∷ 102 ∷ []) ∷ at s.Name 3 (120 ∷ []) ∷ at s.Colon 4 (58 ∷ []) ∷ at s.Name 6 (121 ∷ []) ∷ at s.Semicolon 7 (59 ∷ []) ∷ at s.Name 9 (122 ∷ []) ∷ []; nodes = n kinds.Name 0 (Some 3) (Some (120 ∷ [])) ∷ n kinds.ExpressionStatement 1 (Some 6) None ∷ n kinds.Name 0 (Some 6) (Some (121 ∷ [])) ∷ n kinds.ExpressionStatement 1 (Some 9) None ∷ n kinds.Name 0 (Some 9) (Some (122 ∷ [])) ∷ [] } ∷
    -- if x := 1: y
    record { line = at s.IfWord 0 (105 ∷ 102 ∷ []) ∷ at s.Name 3 (120 ∷ []) ∷ at s.Walrus 5 (58 ∷ 61 ∷ []) ∷ at s.Number 8 (49 ∷ []) ∷ at s.Colon 9 (58 ∷ []) ∷ at s.Name 11 (121 ∷ []) ∷ []; nodes = n kinds.NamedExpression 1 (Some 3) (Some (120 ∷ [])) ∷ n kinds.NumberLiteral 0 (Some 8) (Some (49 ∷ [])) ∷ n kinds.ExpressionStatement 1 (Some 11) None ∷ n kinds.Name 0 (Some 11) (Some (121 ∷ [])) ∷ [] } ∷
    []

-- each line has the nodes that are said
rows_hold : map nodes_of_line rows ≡ map said rows
unfolding star_at named_at element_at sx_item_at sx_at yield_at target_item_at targets_at for_clause_at clause_at clauses_at more_elements_at parenthesized_at list_display_at item_or_named_at unpacked_at brace_entry_at more_entries_at brace_display_at starred_argument_at plain_argument_at argument_at arguments_at more_arguments_at call_arguments_at slice_rest_at slice_at slices_item_at slices_at trailer_at field_expression_at inner_field_at field_at string_part_at strings_at atom_at primary_at awaited_at power_at factor_at term_at arith_at shift_at bit_and_at bit_xor_at bit_or_at comparison_sign_at comparison_at not_at and_at or_at lambda_parameter_at lambda_parameters_at lambda_at test_at signed_number_at number_pattern_at literal_at dotted_name_at class_argument_at class_arguments_at name_pattern_at star_pattern_at sequence_item_at parenthesized_pattern_at bracketed_pattern_at mapping_item_at mapping_pattern_at closed_pattern_at or_pattern_at pattern_at open_patterns_at value_at assigned_value_at return_at raise_at declaration_at delete_at assert_at as_name_at module_name_at import_at imported_name_at imported_names_at source_at import_from_at keyword_statement_at value_statement_at statement_at statements_at parameter_annotation_at star_annotation_at parameter_at parameters_at for_header_at except_header_at except_star_header_at with_item_at plain_with_at parenthesized_with_at function_header_at class_header_at subject_at match_header_at case_header_at decorator_line_at reader_of phrase_at headed_at bare_at simple_at with_at async_line_at except_line_at line_by line_at
rows_hold = refl
