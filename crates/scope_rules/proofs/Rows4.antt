-- Small programs, and where their reads lead by Python's `symtable`, computed from the definitions: rows that
-- tools/scope_rows.py writes.
use Rattle.std.proofs.Common.{◌≡◌, refl, [], ◌∷◌, map}
use Rattle.std.specs.Prelude.{codes}
use Rattle.tree_nodes.specs.declared.kind.Kind.TheVariants as kinds
use Rattle.tree_nodes.specs.Trees.{none, tree, Tree, entries, entry_at}
use Rattle.scope_rules.specs.declared.scope.Where.TheVariants.{Local, Free, Global, Nowhere}
use Rattle.scope_rules.specs.Kinds.{is_class, is_def, is_comprehension, opens, is_parameter, is_around_def, is_in_body, holds}
use Rattle.scope_rules.specs.Places.{plain_step, is_first_iterable, step_below, step_from, step, around_by, around, chain_by, chain, outer}
use Rattle.scope_rules.specs.Mangling.{is_read, begins_private, ends_special, is_private, bare, prefixed, mangled, class_from, read_at, spelled}
use Rattle.scope_rules.specs.Binding.{is_handler, is_annotated, is_bare_below, is_bare, is_binder, is_as_name, is_alias, is_walrus, before_dot, imported, handled, makes_local_else, makes_local, binds, beyond_comprehensions, own_scope}
use Rattle.scope_rules.specs.Marks.{some_node, nodes_with}
use Rattle.scope_rules.specs.Declaring.{is_global, is_nonlocal, local_mark, global_mark, nonlocal_mark, declares_global, declares_nonlocal, has, is_owner, owner_outside, home, binder_mark, in_module, is_local}
use Rattle.scope_rules.specs.Reading.{is_read_name, is_special, is_builtin, ends_at, end_of, is_near, at_module, answer_at, led_from, resolved, answer_of}
use Rattle.scope_rules.proofs.Trying.{plain, named}

-- def f():
--     x = 1
--     class C:
--         nonlocal x
--         x = 2
--         def m(self):
--             return x
abbrev program0 : Tree
program0 = record { node = plain kinds.Module; kids = (tree (named kinds.FunctionDef (codes "f")) (tree (plain kinds.Assign) (tree (named kinds.NameTarget (codes "x")) none (tree (named kinds.NumberLiteral (codes "1")) none none)) (tree (named kinds.ClassDef (codes "C")) (tree (plain kinds.Nonlocal) (tree (named kinds.DeclaredName (codes "x")) none none) (tree (plain kinds.Assign) (tree (named kinds.NameTarget (codes "x")) none (tree (named kinds.NumberLiteral (codes "2")) none none)) (tree (named kinds.FunctionDef (codes "m")) (tree (named kinds.Parameter (codes "self")) none (tree (plain kinds.Return) (tree (named kinds.Name (codes "x")) none none) none)) none))) none)) none) }

reads0 : map (resolved program0) (14 ∷ []) ≡ Free (record { 0 = 1 }) ∷ []
unfolding entries entry_at is_class is_def is_comprehension opens is_parameter is_around_def is_in_body holds plain_step is_first_iterable step_below step_from step around_by around chain_by chain outer is_read begins_private ends_special is_private bare prefixed mangled class_from read_at spelled is_handler is_annotated is_bare_below is_bare is_binder is_as_name is_alias is_walrus before_dot imported handled makes_local_else makes_local binds beyond_comprehensions own_scope some_node nodes_with is_global is_nonlocal local_mark global_mark nonlocal_mark declares_global declares_nonlocal has is_owner owner_outside home binder_mark in_module is_local is_read_name is_special is_builtin ends_at end_of is_near at_module answer_at led_from resolved answer_of
reads0 = refl

-- def f():
--     x = 1
--     class C:
--         x = x
--         y = x
abbrev program1 : Tree
program1 = record { node = plain kinds.Module; kids = (tree (named kinds.FunctionDef (codes "f")) (tree (plain kinds.Assign) (tree (named kinds.NameTarget (codes "x")) none (tree (named kinds.NumberLiteral (codes "1")) none none)) (tree (named kinds.ClassDef (codes "C")) (tree (plain kinds.Assign) (tree (named kinds.NameTarget (codes "x")) none (tree (named kinds.Name (codes "x")) none none)) (tree (plain kinds.Assign) (tree (named kinds.NameTarget (codes "y")) none (tree (named kinds.Name (codes "x")) none none)) none)) none)) none) }

reads1 : map (resolved program1) (8 ∷ 11 ∷ []) ≡ Local (record { 0 = 5 }) ∷ Local (record { 0 = 5 }) ∷ []
unfolding entries entry_at is_class is_def is_comprehension opens is_parameter is_around_def is_in_body holds plain_step is_first_iterable step_below step_from step around_by around chain_by chain outer is_read begins_private ends_special is_private bare prefixed mangled class_from read_at spelled is_handler is_annotated is_bare_below is_bare is_binder is_as_name is_alias is_walrus before_dot imported handled makes_local_else makes_local binds beyond_comprehensions own_scope some_node nodes_with is_global is_nonlocal local_mark global_mark nonlocal_mark declares_global declares_nonlocal has is_owner owner_outside home binder_mark in_module is_local is_read_name is_special is_builtin ends_at end_of is_near at_module answer_at led_from resolved answer_of
reads1 = refl

-- x = 1
-- class C:
--     x = x
--     y = [x for _ in x]
abbrev program2 : Tree
program2 = record { node = plain kinds.Module; kids = (tree (plain kinds.Assign) (tree (named kinds.NameTarget (codes "x")) none (tree (named kinds.NumberLiteral (codes "1")) none none)) (tree (named kinds.ClassDef (codes "C")) (tree (plain kinds.Assign) (tree (named kinds.NameTarget (codes "x")) none (tree (named kinds.Name (codes "x")) none none)) (tree (plain kinds.Assign) (tree (named kinds.NameTarget (codes "y")) none (tree (plain kinds.ListComprehension) (tree (named kinds.Name (codes "x")) none (tree (plain kinds.ComprehensionFor) (tree (named kinds.NameTarget (codes "_")) none (tree (named kinds.Name (codes "x")) none none)) none)) none)) none)) none)) }

reads2 : map (resolved program2) (7 ∷ 11 ∷ 14 ∷ []) ≡ Local (record { 0 = 4 }) ∷ Global ∷ Local (record { 0 = 4 }) ∷ []
unfolding entries entry_at is_class is_def is_comprehension opens is_parameter is_around_def is_in_body holds plain_step is_first_iterable step_below step_from step around_by around chain_by chain outer is_read begins_private ends_special is_private bare prefixed mangled class_from read_at spelled is_handler is_annotated is_bare_below is_bare is_binder is_as_name is_alias is_walrus before_dot imported handled makes_local_else makes_local binds beyond_comprehensions own_scope some_node nodes_with is_global is_nonlocal local_mark global_mark nonlocal_mark declares_global declares_nonlocal has is_owner owner_outside home binder_mark in_module is_local is_read_name is_special is_builtin ends_at end_of is_near at_module answer_at led_from resolved answer_of
reads2 = refl

-- class C:
--     x = 1
--     y = [x for _ in x]
abbrev program3 : Tree
program3 = record { node = plain kinds.Module; kids = (tree (named kinds.ClassDef (codes "C")) (tree (plain kinds.Assign) (tree (named kinds.NameTarget (codes "x")) none (tree (named kinds.NumberLiteral (codes "1")) none none)) (tree (plain kinds.Assign) (tree (named kinds.NameTarget (codes "y")) none (tree (plain kinds.ListComprehension) (tree (named kinds.Name (codes "x")) none (tree (plain kinds.ComprehensionFor) (tree (named kinds.NameTarget (codes "_")) none (tree (named kinds.Name (codes "x")) none none)) none)) none)) none)) none) }

reads3 : map (resolved program3) (8 ∷ 11 ∷ []) ≡ Nowhere ∷ Local (record { 0 = 1 }) ∷ []
unfolding entries entry_at is_class is_def is_comprehension opens is_parameter is_around_def is_in_body holds plain_step is_first_iterable step_below step_from step around_by around chain_by chain outer is_read begins_private ends_special is_private bare prefixed mangled class_from read_at spelled is_handler is_annotated is_bare_below is_bare is_binder is_as_name is_alias is_walrus before_dot imported handled makes_local_else makes_local binds beyond_comprehensions own_scope some_node nodes_with is_global is_nonlocal local_mark global_mark nonlocal_mark declares_global declares_nonlocal has is_owner owner_outside home binder_mark in_module is_local is_read_name is_special is_builtin ends_at end_of is_near at_module answer_at led_from resolved answer_of
reads3 = refl

-- class C:
--     a = [b for b in c if b]
--     d = a, b
abbrev program4 : Tree
program4 = record { node = plain kinds.Module; kids = (tree (named kinds.ClassDef (codes "C")) (tree (plain kinds.Assign) (tree (named kinds.NameTarget (codes "a")) none (tree (plain kinds.ListComprehension) (tree (named kinds.Name (codes "b")) none (tree (plain kinds.ComprehensionFor) (tree (named kinds.NameTarget (codes "b")) none (tree (named kinds.Name (codes "c")) none (tree (named kinds.Name (codes "b")) none none))) none)) none)) (tree (plain kinds.Assign) (tree (named kinds.NameTarget (codes "d")) none (tree (plain kinds.Tuple) (tree (named kinds.Name (codes "a")) none (tree (named kinds.Name (codes "b")) none none)) none)) none)) none) }

reads4 : map (resolved program4) (5 ∷ 8 ∷ 9 ∷ 13 ∷ 14 ∷ []) ≡ Local (record { 0 = 4 }) ∷ Nowhere ∷ Local (record { 0 = 4 }) ∷ Local (record { 0 = 1 }) ∷ Nowhere ∷ []
unfolding entries entry_at is_class is_def is_comprehension opens is_parameter is_around_def is_in_body holds plain_step is_first_iterable step_below step_from step around_by around chain_by chain outer is_read begins_private ends_special is_private bare prefixed mangled class_from read_at spelled is_handler is_annotated is_bare_below is_bare is_binder is_as_name is_alias is_walrus before_dot imported handled makes_local_else makes_local binds beyond_comprehensions own_scope some_node nodes_with is_global is_nonlocal local_mark global_mark nonlocal_mark declares_global declares_nonlocal has is_owner owner_outside home binder_mark in_module is_local is_read_name is_special is_builtin ends_at end_of is_near at_module answer_at led_from resolved answer_of
reads4 = refl

-- x = [y for y in z]
-- y
abbrev program5 : Tree
program5 = record { node = plain kinds.Module; kids = (tree (plain kinds.Assign) (tree (named kinds.NameTarget (codes "x")) none (tree (plain kinds.ListComprehension) (tree (named kinds.Name (codes "y")) none (tree (plain kinds.ComprehensionFor) (tree (named kinds.NameTarget (codes "y")) none (tree (named kinds.Name (codes "z")) none none)) none)) none)) (tree (plain kinds.ExpressionStatement) (tree (named kinds.Name (codes "y")) none none) none)) }

reads5 : map (resolved program5) (4 ∷ 7 ∷ 9 ∷ []) ≡ Local (record { 0 = 3 }) ∷ Nowhere ∷ Nowhere ∷ []
unfolding entries entry_at is_class is_def is_comprehension opens is_parameter is_around_def is_in_body holds plain_step is_first_iterable step_below step_from step around_by around chain_by chain outer is_read begins_private ends_special is_private bare prefixed mangled class_from read_at spelled is_handler is_annotated is_bare_below is_bare is_binder is_as_name is_alias is_walrus before_dot imported handled makes_local_else makes_local binds beyond_comprehensions own_scope some_node nodes_with is_global is_nonlocal local_mark global_mark nonlocal_mark declares_global declares_nonlocal has is_owner owner_outside home binder_mark in_module is_local is_read_name is_special is_builtin ends_at end_of is_near at_module answer_at led_from resolved answer_of
reads5 = refl

-- x = {y: z for y, z in w}
abbrev program6 : Tree
program6 = record { node = plain kinds.Module; kids = (tree (plain kinds.Assign) (tree (named kinds.NameTarget (codes "x")) none (tree (plain kinds.DictComprehension) (tree (plain kinds.DictItem) (tree (named kinds.Name (codes "y")) none (tree (named kinds.Name (codes "z")) none none)) (tree (plain kinds.ComprehensionFor) (tree (plain kinds.TupleTarget) (tree (named kinds.NameTarget (codes "y")) none (tree (named kinds.NameTarget (codes "z")) none none)) (tree (named kinds.Name (codes "w")) none none)) none)) none)) none) }

reads6 : map (resolved program6) (5 ∷ 6 ∷ 11 ∷ []) ≡ Local (record { 0 = 3 }) ∷ Local (record { 0 = 3 }) ∷ Nowhere ∷ []
unfolding entries entry_at is_class is_def is_comprehension opens is_parameter is_around_def is_in_body holds plain_step is_first_iterable step_below step_from step around_by around chain_by chain outer is_read begins_private ends_special is_private bare prefixed mangled class_from read_at spelled is_handler is_annotated is_bare_below is_bare is_binder is_as_name is_alias is_walrus before_dot imported handled makes_local_else makes_local binds beyond_comprehensions own_scope some_node nodes_with is_global is_nonlocal local_mark global_mark nonlocal_mark declares_global declares_nonlocal has is_owner owner_outside home binder_mark in_module is_local is_read_name is_special is_builtin ends_at end_of is_near at_module answer_at led_from resolved answer_of
reads6 = refl

-- x = {y for y in z if y if z}
abbrev program7 : Tree
program7 = record { node = plain kinds.Module; kids = (tree (plain kinds.Assign) (tree (named kinds.NameTarget (codes "x")) none (tree (plain kinds.SetComprehension) (tree (named kinds.Name (codes "y")) none (tree (plain kinds.ComprehensionFor) (tree (named kinds.NameTarget (codes "y")) none (tree (named kinds.Name (codes "z")) none (tree (named kinds.Name (codes "y")) none (tree (named kinds.Name (codes "z")) none none)))) none)) none)) none) }

reads7 : map (resolved program7) (4 ∷ 7 ∷ 8 ∷ 9 ∷ []) ≡ Local (record { 0 = 3 }) ∷ Nowhere ∷ Local (record { 0 = 3 }) ∷ Nowhere ∷ []
unfolding entries entry_at is_class is_def is_comprehension opens is_parameter is_around_def is_in_body holds plain_step is_first_iterable step_below step_from step around_by around chain_by chain outer is_read begins_private ends_special is_private bare prefixed mangled class_from read_at spelled is_handler is_annotated is_bare_below is_bare is_binder is_as_name is_alias is_walrus before_dot imported handled makes_local_else makes_local binds beyond_comprehensions own_scope some_node nodes_with is_global is_nonlocal local_mark global_mark nonlocal_mark declares_global declares_nonlocal has is_owner owner_outside home binder_mark in_module is_local is_read_name is_special is_builtin ends_at end_of is_near at_module answer_at led_from resolved answer_of
reads7 = refl
