-- Small programs, and where their reads lead by Python's `symtable`, computed from the definitions: rows that
-- tools/scope_rows.py writes.
use Rattle.std.proofs.Common.{◌≡◌, refl, [], ◌∷◌, map}
use Rattle.std.specs.Prelude.{codes}
use Rattle.tree_nodes.specs.declared.kind.Kind.TheVariants as kinds
use Rattle.tree_nodes.specs.Trees.{none, tree, Tree, entries, entry_at}
use Rattle.scope_rules.specs.declared.scope.Where.TheVariants.{Local, Global, Nowhere}
use Rattle.scope_rules.specs.Kinds.{is_class, is_def, is_comprehension, opens, is_parameter, is_around_def, is_in_body, holds}
use Rattle.scope_rules.specs.Places.{plain_step, is_first_iterable, step_below, step_from, step, around_by, around, chain_by, chain, outer}
use Rattle.scope_rules.specs.Mangling.{is_read, begins_private, ends_special, is_private, bare, prefixed, mangled, class_from, read_at, spelled}
use Rattle.scope_rules.specs.Binding.{is_handler, is_annotated, is_bare_below, is_bare, is_binder, is_as_name, is_alias, is_walrus, before_dot, imported, handled, makes_local_else, makes_local, binds, beyond_comprehensions, own_scope}
use Rattle.scope_rules.specs.Marks.{some_node, nodes_with}
use Rattle.scope_rules.specs.Declaring.{is_global, is_nonlocal, local_mark, global_mark, nonlocal_mark, declares_global, declares_nonlocal, has, is_owner, owner_outside, home, binder_mark, in_module, is_local}
use Rattle.scope_rules.specs.Reading.{is_read_name, is_special, is_builtin, ends_at, end_of, is_near, at_module, answer_at, led_from, resolved, answer_of}
use Rattle.scope_rules.proofs.Trying.{plain, named}

-- class C:
--     a = 1
--     def m(self):
--         return a
abbrev program0 : Tree
program0 = record { node = plain kinds.Module; kids = (tree (named kinds.ClassDef (codes "C")) (tree (plain kinds.Assign) (tree (named kinds.NameTarget (codes "a")) none (tree (named kinds.NumberLiteral (codes "1")) none none)) (tree (named kinds.FunctionDef (codes "m")) (tree (named kinds.Parameter (codes "self")) none (tree (plain kinds.Return) (tree (named kinds.Name (codes "a")) none none) none)) none)) none) }

reads0 : map (resolved program0) (8 ∷ []) ≡ Nowhere ∷ []
unfolding entries entry_at is_class is_def is_comprehension opens is_parameter is_around_def is_in_body holds plain_step is_first_iterable step_below step_from step around_by around chain_by chain outer is_read begins_private ends_special is_private bare prefixed mangled class_from read_at spelled is_handler is_annotated is_bare_below is_bare is_binder is_as_name is_alias is_walrus before_dot imported handled makes_local_else makes_local binds beyond_comprehensions own_scope some_node nodes_with is_global is_nonlocal local_mark global_mark nonlocal_mark declares_global declares_nonlocal has is_owner owner_outside home binder_mark in_module is_local is_read_name is_special is_builtin ends_at end_of is_near at_module answer_at led_from resolved answer_of
reads0 = refl

-- def f(y):
--     [(last := x) for x in y]
--     return last
abbrev program1 : Tree
program1 = record { node = plain kinds.Module; kids = (tree (named kinds.FunctionDef (codes "f")) (tree (named kinds.Parameter (codes "y")) none (tree (plain kinds.ExpressionStatement) (tree (plain kinds.ListComprehension) (tree (named kinds.NamedExpression (codes "last")) (tree (named kinds.Name (codes "x")) none none) (tree (plain kinds.ComprehensionFor) (tree (named kinds.NameTarget (codes "x")) none (tree (named kinds.Name (codes "y")) none none)) none)) none) (tree (plain kinds.Return) (tree (named kinds.Name (codes "last")) none none) none))) none) }

reads1 : map (resolved program1) (6 ∷ 9 ∷ 11 ∷ []) ≡ Local (record { 0 = 4 }) ∷ Local (record { 0 = 1 }) ∷ Local (record { 0 = 1 }) ∷ []
unfolding entries entry_at is_class is_def is_comprehension opens is_parameter is_around_def is_in_body holds plain_step is_first_iterable step_below step_from step around_by around chain_by chain outer is_read begins_private ends_special is_private bare prefixed mangled class_from read_at spelled is_handler is_annotated is_bare_below is_bare is_binder is_as_name is_alias is_walrus before_dot imported handled makes_local_else makes_local binds beyond_comprehensions own_scope some_node nodes_with is_global is_nonlocal local_mark global_mark nonlocal_mark declares_global declares_nonlocal has is_owner owner_outside home binder_mark in_module is_local is_read_name is_special is_builtin ends_at end_of is_near at_module answer_at led_from resolved answer_of
reads1 = refl

-- def f():
--     global x
--     def g():
--         global y
--         y = x
--     x = 1
--     return y
abbrev program2 : Tree
program2 = record { node = plain kinds.Module; kids = (tree (named kinds.FunctionDef (codes "f")) (tree (plain kinds.Global) (tree (named kinds.DeclaredName (codes "x")) none none) (tree (named kinds.FunctionDef (codes "g")) (tree (plain kinds.Global) (tree (named kinds.DeclaredName (codes "y")) none none) (tree (plain kinds.Assign) (tree (named kinds.NameTarget (codes "y")) none (tree (named kinds.Name (codes "x")) none none)) none)) (tree (plain kinds.Assign) (tree (named kinds.NameTarget (codes "x")) none (tree (named kinds.NumberLiteral (codes "1")) none none)) (tree (plain kinds.Return) (tree (named kinds.Name (codes "y")) none none) none)))) none) }

reads2 : map (resolved program2) (9 ∷ 14 ∷ []) ≡ Global ∷ Global ∷ []
unfolding entries entry_at is_class is_def is_comprehension opens is_parameter is_around_def is_in_body holds plain_step is_first_iterable step_below step_from step around_by around chain_by chain outer is_read begins_private ends_special is_private bare prefixed mangled class_from read_at spelled is_handler is_annotated is_bare_below is_bare is_binder is_as_name is_alias is_walrus before_dot imported handled makes_local_else makes_local binds beyond_comprehensions own_scope some_node nodes_with is_global is_nonlocal local_mark global_mark nonlocal_mark declares_global declares_nonlocal has is_owner owner_outside home binder_mark in_module is_local is_read_name is_special is_builtin ends_at end_of is_near at_module answer_at led_from resolved answer_of
reads2 = refl

-- x = 1
-- def f():
--     global x
--     x = 2
--     def g():
--         return x
abbrev program3 : Tree
program3 = record { node = plain kinds.Module; kids = (tree (plain kinds.Assign) (tree (named kinds.NameTarget (codes "x")) none (tree (named kinds.NumberLiteral (codes "1")) none none)) (tree (named kinds.FunctionDef (codes "f")) (tree (plain kinds.Global) (tree (named kinds.DeclaredName (codes "x")) none none) (tree (plain kinds.Assign) (tree (named kinds.NameTarget (codes "x")) none (tree (named kinds.NumberLiteral (codes "2")) none none)) (tree (named kinds.FunctionDef (codes "g")) (tree (plain kinds.Return) (tree (named kinds.Name (codes "x")) none none) none) none))) none)) }

reads3 : map (resolved program3) (12 ∷ []) ≡ Global ∷ []
unfolding entries entry_at is_class is_def is_comprehension opens is_parameter is_around_def is_in_body holds plain_step is_first_iterable step_below step_from step around_by around chain_by chain outer is_read begins_private ends_special is_private bare prefixed mangled class_from read_at spelled is_handler is_annotated is_bare_below is_bare is_binder is_as_name is_alias is_walrus before_dot imported handled makes_local_else makes_local binds beyond_comprehensions own_scope some_node nodes_with is_global is_nonlocal local_mark global_mark nonlocal_mark declares_global declares_nonlocal has is_owner owner_outside home binder_mark in_module is_local is_read_name is_special is_builtin ends_at end_of is_near at_module answer_at led_from resolved answer_of
reads3 = refl

-- a = 1
-- def f(b=a, a=2):
--     return a, b
abbrev program4 : Tree
program4 = record { node = plain kinds.Module; kids = (tree (plain kinds.Assign) (tree (named kinds.NameTarget (codes "a")) none (tree (named kinds.NumberLiteral (codes "1")) none none)) (tree (named kinds.FunctionDef (codes "f")) (tree (named kinds.Parameter (codes "b")) (tree (named kinds.Name (codes "a")) none none) (tree (named kinds.Parameter (codes "a")) (tree (named kinds.NumberLiteral (codes "2")) none none) (tree (plain kinds.Return) (tree (plain kinds.Tuple) (tree (named kinds.Name (codes "a")) none (tree (named kinds.Name (codes "b")) none none)) none) none))) none)) }

reads4 : map (resolved program4) (6 ∷ 11 ∷ 12 ∷ []) ≡ Global ∷ Local (record { 0 = 4 }) ∷ Local (record { 0 = 4 }) ∷ []
unfolding entries entry_at is_class is_def is_comprehension opens is_parameter is_around_def is_in_body holds plain_step is_first_iterable step_below step_from step around_by around chain_by chain outer is_read begins_private ends_special is_private bare prefixed mangled class_from read_at spelled is_handler is_annotated is_bare_below is_bare is_binder is_as_name is_alias is_walrus before_dot imported handled makes_local_else makes_local binds beyond_comprehensions own_scope some_node nodes_with is_global is_nonlocal local_mark global_mark nonlocal_mark declares_global declares_nonlocal has is_owner owner_outside home binder_mark in_module is_local is_read_name is_special is_builtin ends_at end_of is_near at_module answer_at led_from resolved answer_of
reads4 = refl

-- class C:
--     __x = 1
--     def m(self):
--         return self.__y, __x
abbrev program5 : Tree
program5 = record { node = plain kinds.Module; kids = (tree (named kinds.ClassDef (codes "C")) (tree (plain kinds.Assign) (tree (named kinds.NameTarget (codes "__x")) none (tree (named kinds.NumberLiteral (codes "1")) none none)) (tree (named kinds.FunctionDef (codes "m")) (tree (named kinds.Parameter (codes "self")) none (tree (plain kinds.Return) (tree (plain kinds.Tuple) (tree (named kinds.Attribute (codes "__y")) (tree (named kinds.Name (codes "self")) none none) (tree (named kinds.Name (codes "__x")) none none)) none) none)) none)) none) }

reads5 : map (resolved program5) (10 ∷ 11 ∷ []) ≡ Local (record { 0 = 5 }) ∷ Nowhere ∷ []
unfolding entries entry_at is_class is_def is_comprehension opens is_parameter is_around_def is_in_body holds plain_step is_first_iterable step_below step_from step around_by around chain_by chain outer is_read begins_private ends_special is_private bare prefixed mangled class_from read_at spelled is_handler is_annotated is_bare_below is_bare is_binder is_as_name is_alias is_walrus before_dot imported handled makes_local_else makes_local binds beyond_comprehensions own_scope some_node nodes_with is_global is_nonlocal local_mark global_mark nonlocal_mark declares_global declares_nonlocal has is_owner owner_outside home binder_mark in_module is_local is_read_name is_special is_builtin ends_at end_of is_near at_module answer_at led_from resolved answer_of
reads5 = refl

-- def f(x):
--     return [x for x in x]
abbrev program6 : Tree
program6 = record { node = plain kinds.Module; kids = (tree (named kinds.FunctionDef (codes "f")) (tree (named kinds.Parameter (codes "x")) none (tree (plain kinds.Return) (tree (plain kinds.ListComprehension) (tree (named kinds.Name (codes "x")) none (tree (plain kinds.ComprehensionFor) (tree (named kinds.NameTarget (codes "x")) none (tree (named kinds.Name (codes "x")) none none)) none)) none) none)) none) }

reads6 : map (resolved program6) (5 ∷ 8 ∷ []) ≡ Local (record { 0 = 4 }) ∷ Local (record { 0 = 1 }) ∷ []
unfolding entries entry_at is_class is_def is_comprehension opens is_parameter is_around_def is_in_body holds plain_step is_first_iterable step_below step_from step around_by around chain_by chain outer is_read begins_private ends_special is_private bare prefixed mangled class_from read_at spelled is_handler is_annotated is_bare_below is_bare is_binder is_as_name is_alias is_walrus before_dot imported handled makes_local_else makes_local binds beyond_comprehensions own_scope some_node nodes_with is_global is_nonlocal local_mark global_mark nonlocal_mark declares_global declares_nonlocal has is_owner owner_outside home binder_mark in_module is_local is_read_name is_special is_builtin ends_at end_of is_near at_module answer_at led_from resolved answer_of
reads6 = refl

-- x = y
abbrev program7 : Tree
program7 = record { node = plain kinds.Module; kids = (tree (plain kinds.Assign) (tree (named kinds.NameTarget (codes "x")) none (tree (named kinds.Name (codes "y")) none none)) none) }

reads7 : map (resolved program7) (3 ∷ []) ≡ Nowhere ∷ []
unfolding entries entry_at is_class is_def is_comprehension opens is_parameter is_around_def is_in_body holds plain_step is_first_iterable step_below step_from step around_by around chain_by chain outer is_read begins_private ends_special is_private bare prefixed mangled class_from read_at spelled is_handler is_annotated is_bare_below is_bare is_binder is_as_name is_alias is_walrus before_dot imported handled makes_local_else makes_local binds beyond_comprehensions own_scope some_node nodes_with is_global is_nonlocal local_mark global_mark nonlocal_mark declares_global declares_nonlocal has is_owner owner_outside home binder_mark in_module is_local is_read_name is_special is_builtin ends_at end_of is_near at_module answer_at led_from resolved answer_of
reads7 = refl
