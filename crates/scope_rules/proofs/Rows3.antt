-- Small programs, and where their reads lead by Python's `symtable`, computed from the definitions: rows that
-- tools/scope_rows.py writes.
use Rattle.std.proofs.Common.{◌≡◌, refl, [], ◌∷◌, map}
use Rattle.std.specs.Prelude.{codes}
use Rattle.tree_nodes.specs.declared.kind.Kind.TheVariants as kinds
use Rattle.tree_nodes.specs.Trees.{none, tree, Tree, entries, entry_at}
use Rattle.scope_rules.specs.declared.scope.Where.TheVariants.{Local, Free, Nowhere}
use Rattle.scope_rules.specs.Kinds.{is_class, is_def, is_comprehension, opens, is_parameter, is_around_def, is_in_body, holds}
use Rattle.scope_rules.specs.Places.{plain_step, is_first_iterable, step_below, step_from, step, around_by, around, chain_by, chain, outer}
use Rattle.scope_rules.specs.Mangling.{is_read, begins_private, ends_special, is_private, bare, prefixed, mangled, class_from, read_at, spelled}
use Rattle.scope_rules.specs.Binding.{is_handler, is_annotated, is_bare_below, is_bare, is_binder, is_as_name, is_alias, is_walrus, before_dot, imported, handled, makes_local_else, makes_local, binds, beyond_comprehensions, own_scope}
use Rattle.scope_rules.specs.Marks.{some_node, nodes_with}
use Rattle.scope_rules.specs.Declaring.{is_global, is_nonlocal, local_mark, global_mark, nonlocal_mark, declares_global, declares_nonlocal, has, is_owner, owner_outside, home, binder_mark, in_module, is_local}
use Rattle.scope_rules.specs.Reading.{is_read_name, is_special, is_builtin, ends_at, end_of, is_near, at_module, answer_at, led_from, resolved, answer_of}
use Rattle.scope_rules.proofs.Trying.{plain, named}

-- from m import *
-- a
abbrev program0 : Tree
program0 = record { node = plain kinds.Module; kids = (tree (named kinds.ImportFrom (codes "m")) (tree (plain kinds.ImportWildcard) none none) (tree (plain kinds.ExpressionStatement) (tree (named kinds.Name (codes "a")) none none) none)) }

reads0 : map (resolved program0) (4 ∷ []) ≡ Nowhere ∷ []
unfolding entries entry_at is_class is_def is_comprehension opens is_parameter is_around_def is_in_body holds plain_step is_first_iterable step_below step_from step around_by around chain_by chain outer is_read begins_private ends_special is_private bare prefixed mangled class_from read_at spelled is_handler is_annotated is_bare_below is_bare is_binder is_as_name is_alias is_walrus before_dot imported handled makes_local_else makes_local binds beyond_comprehensions own_scope some_node nodes_with is_global is_nonlocal local_mark global_mark nonlocal_mark declares_global declares_nonlocal has is_owner owner_outside home binder_mark in_module is_local is_read_name is_special is_builtin ends_at end_of is_near at_module answer_at led_from resolved answer_of
reads0 = refl

-- def f(a, /, b, *c, d, **e):
--     return a, b, c, d, e
abbrev program1 : Tree
program1 = record { node = plain kinds.Module; kids = (tree (named kinds.FunctionDef (codes "f")) (tree (named kinds.Parameter (codes "a")) none (tree (plain kinds.PositionalOnlyMark) none (tree (named kinds.Parameter (codes "b")) none (tree (named kinds.StarParameter (codes "c")) none (tree (named kinds.KeywordOnlyParameter (codes "d")) none (tree (named kinds.DoubleStarParameter (codes "e")) none (tree (plain kinds.Return) (tree (plain kinds.Tuple) (tree (named kinds.Name (codes "a")) none (tree (named kinds.Name (codes "b")) none (tree (named kinds.Name (codes "c")) none (tree (named kinds.Name (codes "d")) none (tree (named kinds.Name (codes "e")) none none))))) none) none))))))) none) }

reads1 : map (resolved program1) (10 ∷ 11 ∷ 12 ∷ 13 ∷ 14 ∷ []) ≡ Local (record { 0 = 1 }) ∷ Local (record { 0 = 1 }) ∷ Local (record { 0 = 1 }) ∷ Local (record { 0 = 1 }) ∷ Local (record { 0 = 1 }) ∷ []
unfolding entries entry_at is_class is_def is_comprehension opens is_parameter is_around_def is_in_body holds plain_step is_first_iterable step_below step_from step around_by around chain_by chain outer is_read begins_private ends_special is_private bare prefixed mangled class_from read_at spelled is_handler is_annotated is_bare_below is_bare is_binder is_as_name is_alias is_walrus before_dot imported handled makes_local_else makes_local binds beyond_comprehensions own_scope some_node nodes_with is_global is_nonlocal local_mark global_mark nonlocal_mark declares_global declares_nonlocal has is_owner owner_outside home binder_mark in_module is_local is_read_name is_special is_builtin ends_at end_of is_near at_module answer_at led_from resolved answer_of
reads1 = refl

-- def f(a, *, b=1):
--     return a, b
abbrev program2 : Tree
program2 = record { node = plain kinds.Module; kids = (tree (named kinds.FunctionDef (codes "f")) (tree (named kinds.Parameter (codes "a")) none (tree (plain kinds.KeywordOnlyMark) none (tree (named kinds.KeywordOnlyParameter (codes "b")) (tree (named kinds.NumberLiteral (codes "1")) none none) (tree (plain kinds.Return) (tree (plain kinds.Tuple) (tree (named kinds.Name (codes "a")) none (tree (named kinds.Name (codes "b")) none none)) none) none)))) none) }

reads2 : map (resolved program2) (8 ∷ 9 ∷ []) ≡ Local (record { 0 = 1 }) ∷ Local (record { 0 = 1 }) ∷ []
unfolding entries entry_at is_class is_def is_comprehension opens is_parameter is_around_def is_in_body holds plain_step is_first_iterable step_below step_from step around_by around chain_by chain outer is_read begins_private ends_special is_private bare prefixed mangled class_from read_at spelled is_handler is_annotated is_bare_below is_bare is_binder is_as_name is_alias is_walrus before_dot imported handled makes_local_else makes_local binds beyond_comprehensions own_scope some_node nodes_with is_global is_nonlocal local_mark global_mark nonlocal_mark declares_global declares_nonlocal has is_owner owner_outside home binder_mark in_module is_local is_read_name is_special is_builtin ends_at end_of is_near at_module answer_at led_from resolved answer_of
reads2 = refl

-- f = lambda a, b=a: (a, b, c)
abbrev program3 : Tree
program3 = record { node = plain kinds.Module; kids = (tree (plain kinds.Assign) (tree (named kinds.NameTarget (codes "f")) none (tree (plain kinds.Lambda) (tree (named kinds.Parameter (codes "a")) none (tree (named kinds.Parameter (codes "b")) (tree (named kinds.Name (codes "a")) none none) (tree (plain kinds.Tuple) (tree (named kinds.Name (codes "a")) none (tree (named kinds.Name (codes "b")) none (tree (named kinds.Name (codes "c")) none none))) none))) none)) none) }

reads3 : map (resolved program3) (6 ∷ 8 ∷ 9 ∷ 10 ∷ []) ≡ Nowhere ∷ Local (record { 0 = 3 }) ∷ Local (record { 0 = 3 }) ∷ Nowhere ∷ []
unfolding entries entry_at is_class is_def is_comprehension opens is_parameter is_around_def is_in_body holds plain_step is_first_iterable step_below step_from step around_by around chain_by chain outer is_read begins_private ends_special is_private bare prefixed mangled class_from read_at spelled is_handler is_annotated is_bare_below is_bare is_binder is_as_name is_alias is_walrus before_dot imported handled makes_local_else makes_local binds beyond_comprehensions own_scope some_node nodes_with is_global is_nonlocal local_mark global_mark nonlocal_mark declares_global declares_nonlocal has is_owner owner_outside home binder_mark in_module is_local is_read_name is_special is_builtin ends_at end_of is_near at_module answer_at led_from resolved answer_of
reads3 = refl

-- lambda *a, **b: a or b
abbrev program4 : Tree
program4 = record { node = plain kinds.Module; kids = (tree (plain kinds.ExpressionStatement) (tree (plain kinds.Lambda) (tree (named kinds.StarParameter (codes "a")) none (tree (named kinds.DoubleStarParameter (codes "b")) none (tree (plain kinds.BoolOr) (tree (named kinds.Name (codes "a")) none (tree (named kinds.Name (codes "b")) none none)) none))) none) none) }

reads4 : map (resolved program4) (6 ∷ 7 ∷ []) ≡ Local (record { 0 = 2 }) ∷ Local (record { 0 = 2 }) ∷ []
unfolding entries entry_at is_class is_def is_comprehension opens is_parameter is_around_def is_in_body holds plain_step is_first_iterable step_below step_from step around_by around chain_by chain outer is_read begins_private ends_special is_private bare prefixed mangled class_from read_at spelled is_handler is_annotated is_bare_below is_bare is_binder is_as_name is_alias is_walrus before_dot imported handled makes_local_else makes_local binds beyond_comprehensions own_scope some_node nodes_with is_global is_nonlocal local_mark global_mark nonlocal_mark declares_global declares_nonlocal has is_owner owner_outside home binder_mark in_module is_local is_read_name is_special is_builtin ends_at end_of is_near at_module answer_at led_from resolved answer_of
reads4 = refl

-- def f():
--     def g():
--         return x
--     x = 1
abbrev program5 : Tree
program5 = record { node = plain kinds.Module; kids = (tree (named kinds.FunctionDef (codes "f")) (tree (named kinds.FunctionDef (codes "g")) (tree (plain kinds.Return) (tree (named kinds.Name (codes "x")) none none) none) (tree (plain kinds.Assign) (tree (named kinds.NameTarget (codes "x")) none (tree (named kinds.NumberLiteral (codes "1")) none none)) none)) none) }

reads5 : map (resolved program5) (4 ∷ []) ≡ Free (record { 0 = 1 }) ∷ []
unfolding entries entry_at is_class is_def is_comprehension opens is_parameter is_around_def is_in_body holds plain_step is_first_iterable step_below step_from step around_by around chain_by chain outer is_read begins_private ends_special is_private bare prefixed mangled class_from read_at spelled is_handler is_annotated is_bare_below is_bare is_binder is_as_name is_alias is_walrus before_dot imported handled makes_local_else makes_local binds beyond_comprehensions own_scope some_node nodes_with is_global is_nonlocal local_mark global_mark nonlocal_mark declares_global declares_nonlocal has is_owner owner_outside home binder_mark in_module is_local is_read_name is_special is_builtin ends_at end_of is_near at_module answer_at led_from resolved answer_of
reads5 = refl

-- def f():
--     x = 1
--     def g():
--         nonlocal x
--         x = 2
--         return x
--     return x
abbrev program6 : Tree
program6 = record { node = plain kinds.Module; kids = (tree (named kinds.FunctionDef (codes "f")) (tree (plain kinds.Assign) (tree (named kinds.NameTarget (codes "x")) none (tree (named kinds.NumberLiteral (codes "1")) none none)) (tree (named kinds.FunctionDef (codes "g")) (tree (plain kinds.Nonlocal) (tree (named kinds.DeclaredName (codes "x")) none none) (tree (plain kinds.Assign) (tree (named kinds.NameTarget (codes "x")) none (tree (named kinds.NumberLiteral (codes "2")) none none)) (tree (plain kinds.Return) (tree (named kinds.Name (codes "x")) none none) none))) (tree (plain kinds.Return) (tree (named kinds.Name (codes "x")) none none) none))) none) }

reads6 : map (resolved program6) (12 ∷ 14 ∷ []) ≡ Free (record { 0 = 1 }) ∷ Local (record { 0 = 1 }) ∷ []
unfolding entries entry_at is_class is_def is_comprehension opens is_parameter is_around_def is_in_body holds plain_step is_first_iterable step_below step_from step around_by around chain_by chain outer is_read begins_private ends_special is_private bare prefixed mangled class_from read_at spelled is_handler is_annotated is_bare_below is_bare is_binder is_as_name is_alias is_walrus before_dot imported handled makes_local_else makes_local binds beyond_comprehensions own_scope some_node nodes_with is_global is_nonlocal local_mark global_mark nonlocal_mark declares_global declares_nonlocal has is_owner owner_outside home binder_mark in_module is_local is_read_name is_special is_builtin ends_at end_of is_near at_module answer_at led_from resolved answer_of
reads6 = refl

-- def f():
--     x = 1
--     def g():
--         def h():
--             nonlocal x
--             x = 3
--         return x
abbrev program7 : Tree
program7 = record { node = plain kinds.Module; kids = (tree (named kinds.FunctionDef (codes "f")) (tree (plain kinds.Assign) (tree (named kinds.NameTarget (codes "x")) none (tree (named kinds.NumberLiteral (codes "1")) none none)) (tree (named kinds.FunctionDef (codes "g")) (tree (named kinds.FunctionDef (codes "h")) (tree (plain kinds.Nonlocal) (tree (named kinds.DeclaredName (codes "x")) none none) (tree (plain kinds.Assign) (tree (named kinds.NameTarget (codes "x")) none (tree (named kinds.NumberLiteral (codes "3")) none none)) none)) (tree (plain kinds.Return) (tree (named kinds.Name (codes "x")) none none) none)) none)) none) }

reads7 : map (resolved program7) (13 ∷ []) ≡ Free (record { 0 = 1 }) ∷ []
unfolding entries entry_at is_class is_def is_comprehension opens is_parameter is_around_def is_in_body holds plain_step is_first_iterable step_below step_from step around_by around chain_by chain outer is_read begins_private ends_special is_private bare prefixed mangled class_from read_at spelled is_handler is_annotated is_bare_below is_bare is_binder is_as_name is_alias is_walrus before_dot imported handled makes_local_else makes_local binds beyond_comprehensions own_scope some_node nodes_with is_global is_nonlocal local_mark global_mark nonlocal_mark declares_global declares_nonlocal has is_owner owner_outside home binder_mark in_module is_local is_read_name is_special is_builtin ends_at end_of is_near at_module answer_at led_from resolved answer_of
reads7 = refl
