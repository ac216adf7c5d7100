-- Small programs, and where their reads lead by Python's `symtable`, computed from the definitions: rows that
-- tools/scope_rows.py writes.
use Rattle.std.proofs.Common.{◌≡◌, refl, [], ◌∷◌, map}
use Rattle.std.specs.Prelude.{codes}
use Rattle.tree_nodes.specs.declared.kind.Kind.TheVariants as kinds
use Rattle.tree_nodes.specs.Trees.{none, tree, Tree, entries, entry_at}
use Rattle.scope_rules.specs.declared.scope.Where.TheVariants.{Local, Global, Builtin, Nowhere}
use Rattle.scope_rules.specs.Kinds.{is_class, is_def, is_comprehension, opens, is_parameter, is_around_def, is_in_body, holds}
use Rattle.scope_rules.specs.Places.{plain_step, is_first_iterable, step_below, step_from, step, around_by, around, chain_by, chain, outer}
use Rattle.scope_rules.specs.Mangling.{is_read, begins_private, ends_special, is_private, bare, prefixed, mangled, class_from, read_at, spelled}
use Rattle.scope_rules.specs.Binding.{is_handler, is_annotated, is_bare_below, is_bare, is_binder, is_as_name, is_alias, is_walrus, before_dot, imported, handled, makes_local_else, makes_local, binds, beyond_comprehensions, own_scope}
use Rattle.scope_rules.specs.Marks.{some_node, nodes_with}
use Rattle.scope_rules.specs.Declaring.{is_global, is_nonlocal, local_mark, global_mark, nonlocal_mark, declares_global, declares_nonlocal, has, is_owner, owner_outside, home, binder_mark, in_module, is_local}
use Rattle.scope_rules.specs.Reading.{is_read_name, is_special, is_builtin, ends_at, end_of, is_near, at_module, answer_at, led_from, resolved, answer_of}
use Rattle.scope_rules.proofs.Trying.{plain, named}

-- print(x)
abbrev program0 : Tree
program0 = record { node = plain kinds.Module; kids = (tree (plain kinds.ExpressionStatement) (tree (plain kinds.Call) (tree (named kinds.Name (codes "print")) none (tree (named kinds.Name (codes "x")) none none)) none) none) }

reads0 : map (resolved program0) (3 ∷ 4 ∷ []) ≡ Builtin ∷ Nowhere ∷ []
unfolding entries entry_at is_class is_def is_comprehension opens is_parameter is_around_def is_in_body holds plain_step is_first_iterable step_below step_from step around_by around chain_by chain outer is_read begins_private ends_special is_private bare prefixed mangled class_from read_at spelled is_handler is_annotated is_bare_below is_bare is_binder is_as_name is_alias is_walrus before_dot imported handled makes_local_else makes_local binds beyond_comprehensions own_scope some_node nodes_with is_global is_nonlocal local_mark global_mark nonlocal_mark declares_global declares_nonlocal has is_owner owner_outside home binder_mark in_module is_local is_read_name is_special is_builtin ends_at end_of is_near at_module answer_at led_from resolved answer_of
reads0 = refl

-- x: int
-- y = x
abbrev program1 : Tree
program1 = record { node = plain kinds.Module; kids = (tree (plain kinds.AnnAssign) (tree (named kinds.NameTarget (codes "x")) none (tree (plain kinds.Annotation) (tree (named kinds.Name (codes "int")) none none) none)) (tree (plain kinds.Assign) (tree (named kinds.NameTarget (codes "y")) none (tree (named kinds.Name (codes "x")) none none)) none)) }

reads1 : map (resolved program1) (4 ∷ 7 ∷ []) ≡ Builtin ∷ Global ∷ []
unfolding entries entry_at is_class is_def is_comprehension opens is_parameter is_around_def is_in_body holds plain_step is_first_iterable step_below step_from step around_by around chain_by chain outer is_read begins_private ends_special is_private bare prefixed mangled class_from read_at spelled is_handler is_annotated is_bare_below is_bare is_binder is_as_name is_alias is_walrus before_dot imported handled makes_local_else makes_local binds beyond_comprehensions own_scope some_node nodes_with is_global is_nonlocal local_mark global_mark nonlocal_mark declares_global declares_nonlocal has is_owner owner_outside home binder_mark in_module is_local is_read_name is_special is_builtin ends_at end_of is_near at_module answer_at led_from resolved answer_of
reads1 = refl

-- def f():
--     x: int
--     return x
abbrev program2 : Tree
program2 = record { node = plain kinds.Module; kids = (tree (named kinds.FunctionDef (codes "f")) (tree (plain kinds.AnnAssign) (tree (named kinds.NameTarget (codes "x")) none (tree (plain kinds.Annotation) (tree (named kinds.Name (codes "int")) none none) none)) (tree (plain kinds.Return) (tree (named kinds.Name (codes "x")) none none) none)) none) }

reads2 : map (resolved program2) (5 ∷ 7 ∷ []) ≡ Builtin ∷ Local (record { 0 = 1 }) ∷ []
unfolding entries entry_at is_class is_def is_comprehension opens is_parameter is_around_def is_in_body holds plain_step is_first_iterable step_below step_from step around_by around chain_by chain outer is_read begins_private ends_special is_private bare prefixed mangled class_from read_at spelled is_handler is_annotated is_bare_below is_bare is_binder is_as_name is_alias is_walrus before_dot imported handled makes_local_else makes_local binds beyond_comprehensions own_scope some_node nodes_with is_global is_nonlocal local_mark global_mark nonlocal_mark declares_global declares_nonlocal has is_owner owner_outside home binder_mark in_module is_local is_read_name is_special is_builtin ends_at end_of is_near at_module answer_at led_from resolved answer_of
reads2 = refl

-- def f():
--     x: int = 1
--     return x
abbrev program3 : Tree
program3 = record { node = plain kinds.Module; kids = (tree (named kinds.FunctionDef (codes "f")) (tree (plain kinds.AnnAssign) (tree (named kinds.NameTarget (codes "x")) none (tree (plain kinds.Annotation) (tree (named kinds.Name (codes "int")) none none) (tree (named kinds.NumberLiteral (codes "1")) none none))) (tree (plain kinds.Return) (tree (named kinds.Name (codes "x")) none none) none)) none) }

reads3 : map (resolved program3) (5 ∷ 8 ∷ []) ≡ Builtin ∷ Local (record { 0 = 1 }) ∷ []
unfolding entries entry_at is_class is_def is_comprehension opens is_parameter is_around_def is_in_body holds plain_step is_first_iterable step_below step_from step around_by around chain_by chain outer is_read begins_private ends_special is_private bare prefixed mangled class_from read_at spelled is_handler is_annotated is_bare_below is_bare is_binder is_as_name is_alias is_walrus before_dot imported handled makes_local_else makes_local binds beyond_comprehensions own_scope some_node nodes_with is_global is_nonlocal local_mark global_mark nonlocal_mark declares_global declares_nonlocal has is_owner owner_outside home binder_mark in_module is_local is_read_name is_special is_builtin ends_at end_of is_near at_module answer_at led_from resolved answer_of
reads3 = refl

-- import os
-- os
abbrev program4 : Tree
program4 = record { node = plain kinds.Module; kids = (tree (plain kinds.Import) (tree (named kinds.Alias (codes "os")) none none) (tree (plain kinds.ExpressionStatement) (tree (named kinds.Name (codes "os")) none none) none)) }

reads4 : map (resolved program4) (4 ∷ []) ≡ Global ∷ []
unfolding entries entry_at is_class is_def is_comprehension opens is_parameter is_around_def is_in_body holds plain_step is_first_iterable step_below step_from step around_by around chain_by chain outer is_read begins_private ends_special is_private bare prefixed mangled class_from read_at spelled is_handler is_annotated is_bare_below is_bare is_binder is_as_name is_alias is_walrus before_dot imported handled makes_local_else makes_local binds beyond_comprehensions own_scope some_node nodes_with is_global is_nonlocal local_mark global_mark nonlocal_mark declares_global declares_nonlocal has is_owner owner_outside home binder_mark in_module is_local is_read_name is_special is_builtin ends_at end_of is_near at_module answer_at led_from resolved answer_of
reads4 = refl

-- import os.path
-- os, path
abbrev program5 : Tree
program5 = record { node = plain kinds.Module; kids = (tree (plain kinds.Import) (tree (named kinds.Alias (codes "os.path")) none none) (tree (plain kinds.ExpressionStatement) (tree (plain kinds.Tuple) (tree (named kinds.Name (codes "os")) none (tree (named kinds.Name (codes "path")) none none)) none) none)) }

reads5 : map (resolved program5) (5 ∷ 6 ∷ []) ≡ Global ∷ Nowhere ∷ []
unfolding entries entry_at is_class is_def is_comprehension opens is_parameter is_around_def is_in_body holds plain_step is_first_iterable step_below step_from step around_by around chain_by chain outer is_read begins_private ends_special is_private bare prefixed mangled class_from read_at spelled is_handler is_annotated is_bare_below is_bare is_binder is_as_name is_alias is_walrus before_dot imported handled makes_local_else makes_local binds beyond_comprehensions own_scope some_node nodes_with is_global is_nonlocal local_mark global_mark nonlocal_mark declares_global declares_nonlocal has is_owner owner_outside home binder_mark in_module is_local is_read_name is_special is_builtin ends_at end_of is_near at_module answer_at led_from resolved answer_of
reads5 = refl

-- import os.path as p
-- p, os, path
abbrev program6 : Tree
program6 = record { node = plain kinds.Module; kids = (tree (plain kinds.Import) (tree (named kinds.Alias (codes "os.path")) (tree (named kinds.AsName (codes "p")) none none) none) (tree (plain kinds.ExpressionStatement) (tree (plain kinds.Tuple) (tree (named kinds.Name (codes "p")) none (tree (named kinds.Name (codes "os")) none (tree (named kinds.Name (codes "path")) none none))) none) none)) }

reads6 : map (resolved program6) (6 ∷ 7 ∷ 8 ∷ []) ≡ Global ∷ Nowhere ∷ Nowhere ∷ []
unfolding entries entry_at is_class is_def is_comprehension opens is_parameter is_around_def is_in_body holds plain_step is_first_iterable step_below step_from step around_by around chain_by chain outer is_read begins_private ends_special is_private bare prefixed mangled class_from read_at spelled is_handler is_annotated is_bare_below is_bare is_binder is_as_name is_alias is_walrus before_dot imported handled makes_local_else makes_local binds beyond_comprehensions own_scope some_node nodes_with is_global is_nonlocal local_mark global_mark nonlocal_mark declares_global declares_nonlocal has is_owner owner_outside home binder_mark in_module is_local is_read_name is_special is_builtin ends_at end_of is_near at_module answer_at led_from resolved answer_of
reads6 = refl

-- from m import a, b as c
-- a, b, c
abbrev program7 : Tree
program7 = record { node = plain kinds.Module; kids = (tree (named kinds.ImportFrom (codes "m")) (tree (named kinds.Alias (codes "a")) none (tree (named kinds.Alias (codes "b")) (tree (named kinds.AsName (codes "c")) none none) none)) (tree (plain kinds.ExpressionStatement) (tree (plain kinds.Tuple) (tree (named kinds.Name (codes "a")) none (tree (named kinds.Name (codes "b")) none (tree (named kinds.Name (codes "c")) none none))) none) none)) }

reads7 : map (resolved program7) (7 ∷ 8 ∷ 9 ∷ []) ≡ Global ∷ Nowhere ∷ Global ∷ []
unfolding entries entry_at is_class is_def is_comprehension opens is_parameter is_around_def is_in_body holds plain_step is_first_iterable step_below step_from step around_by around chain_by chain outer is_read begins_private ends_special is_private bare prefixed mangled class_from read_at spelled is_handler is_annotated is_bare_below is_bare is_binder is_as_name is_alias is_walrus before_dot imported handled makes_local_else makes_local binds beyond_comprehensions own_scope some_node nodes_with is_global is_nonlocal local_mark global_mark nonlocal_mark declares_global declares_nonlocal has is_owner owner_outside home binder_mark in_module is_local is_read_name is_special is_builtin ends_at end_of is_near at_module answer_at led_from resolved answer_of
reads7 = refl
