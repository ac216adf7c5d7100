-- Small programs, and where their reads lead by Python's `symtable`, computed from the definitions: rows that
-- tools/scope_rows.py writes.
use Rattle.std.proofs.Common.{◌≡◌, refl, [], ◌∷◌, map}
use Rattle.std.specs.Prelude.{codes}
use Rattle.tree_nodes.specs.declared.kind.Kind.TheVariants as kinds
use Rattle.tree_nodes.specs.Trees.{none, tree, Tree, entries, entry_at}
use Rattle.scope_rules.specs.declared.scope.Where.TheVariants.{Local, Global, Builtin, Nowhere}
use Rattle.scope_rules.specs.Kinds.{is_class, is_def, is_comprehension, opens, is_parameter, is_around_def, is_in_body, holds}
use Rattle.scope_rules.specs.Places.{plain_step, is_first_iterable, step_below, step_from, step, around_by, around, chain_by, chain, outer}
use Rattle.scope_rules.specs.Mangling.{is_read, begins_private, ends_special, is_private, bare, prefixed, mangled, class_from, read_at, spelled}
use Rattle.scope_rules.specs.Binding.{is_handler, is_annotated, is_bare_below, is_bare, is_binder, is_as_name, is_alias, is_walrus, before_dot, imported, handled, makes_local_else, makes_local, binds, beyond_comprehensions, own_scope}
use Rattle.scope_rules.specs.Marks.{some_node, nodes_with}
use Rattle.scope_rules.specs.Declaring.{is_global, is_nonlocal, local_mark, global_mark, nonlocal_mark, declares_global, declares_nonlocal, has, is_owner, owner_outside, home, binder_mark, in_module, is_local}
use Rattle.scope_rules.specs.Reading.{is_read_name, is_special, is_builtin, ends_at, end_of, is_near, at_module, answer_at, led_from, resolved, answer_of}
use Rattle.scope_rules.proofs.Trying.{plain, named}

-- def f():
--     a[b] = c
abbrev program0 : Tree
program0 = record { node = plain kinds.Module; kids = (tree (named kinds.FunctionDef (codes "f")) (tree (plain kinds.Assign) (tree (plain kinds.SubscriptTarget) (tree (named kinds.Name (codes "a")) none (tree (named kinds.Name (codes "b")) none none)) (tree (named kinds.Name (codes "c")) none none)) none) none) }

reads0 : map (resolved program0) (4 ∷ 5 ∷ 6 ∷ []) ≡ Nowhere ∷ Nowhere ∷ Nowhere ∷ []
unfolding entries entry_at is_class is_def is_comprehension opens is_parameter is_around_def is_in_body holds plain_step is_first_iterable step_below step_from step around_by around chain_by chain outer is_read begins_private ends_special is_private bare prefixed mangled class_from read_at spelled is_handler is_annotated is_bare_below is_bare is_binder is_as_name is_alias is_walrus before_dot imported handled makes_local_else makes_local binds beyond_comprehensions own_scope some_node nodes_with is_global is_nonlocal local_mark global_mark nonlocal_mark declares_global declares_nonlocal has is_owner owner_outside home binder_mark in_module is_local is_read_name is_special is_builtin ends_at end_of is_near at_module answer_at led_from resolved answer_of
reads0 = refl

-- @d
-- def f(a: b = c) -> e:
--     return a, b, c, e
abbrev program1 : Tree
program1 = record { node = plain kinds.Module; kids = (tree (named kinds.FunctionDef (codes "f")) (tree (plain kinds.Decorator) (tree (named kinds.Name (codes "d")) none none) (tree (named kinds.Parameter (codes "a")) (tree (plain kinds.Annotation) (tree (named kinds.Name (codes "b")) none none) (tree (named kinds.Name (codes "c")) none none)) (tree (plain kinds.Annotation) (tree (named kinds.Name (codes "e")) none none) (tree (plain kinds.Return) (tree (plain kinds.Tuple) (tree (named kinds.Name (codes "a")) none (tree (named kinds.Name (codes "b")) none (tree (named kinds.Name (codes "c")) none (tree (named kinds.Name (codes "e")) none none)))) none) none)))) none) }

reads1 : map (resolved program1) (3 ∷ 6 ∷ 7 ∷ 9 ∷ 12 ∷ 13 ∷ 14 ∷ 15 ∷ []) ≡ Nowhere ∷ Nowhere ∷ Nowhere ∷ Nowhere ∷ Local (record { 0 = 1 }) ∷ Nowhere ∷ Nowhere ∷ Nowhere ∷ []
unfolding entries entry_at is_class is_def is_comprehension opens is_parameter is_around_def is_in_body holds plain_step is_first_iterable step_below step_from step around_by around chain_by chain outer is_read begins_private ends_special is_private bare prefixed mangled class_from read_at spelled is_handler is_annotated is_bare_below is_bare is_binder is_as_name is_alias is_walrus before_dot imported handled makes_local_else makes_local binds beyond_comprehensions own_scope some_node nodes_with is_global is_nonlocal local_mark global_mark nonlocal_mark declares_global declares_nonlocal has is_owner owner_outside home binder_mark in_module is_local is_read_name is_special is_builtin ends_at end_of is_near at_module answer_at led_from resolved answer_of
reads1 = refl

-- @d(x)
-- class C(B, k=m):
--     x = 1
--     B
abbrev program2 : Tree
program2 = record { node = plain kinds.Module; kids = (tree (named kinds.ClassDef (codes "C")) (tree (plain kinds.Decorator) (tree (plain kinds.Call) (tree (named kinds.Name (codes "d")) none (tree (named kinds.Name (codes "x")) none none)) none) (tree (named kinds.Name (codes "B")) none (tree (named kinds.KeywordArgument (codes "k")) (tree (named kinds.Name (codes "m")) none none) (tree (plain kinds.Assign) (tree (named kinds.NameTarget (codes "x")) none (tree (named kinds.NumberLiteral (codes "1")) none none)) (tree (plain kinds.ExpressionStatement) (tree (named kinds.Name (codes "B")) none none) none))))) none) }

reads2 : map (resolved program2) (4 ∷ 5 ∷ 6 ∷ 8 ∷ 13 ∷ []) ≡ Nowhere ∷ Nowhere ∷ Nowhere ∷ Nowhere ∷ Nowhere ∷ []
unfolding entries entry_at is_class is_def is_comprehension opens is_parameter is_around_def is_in_body holds plain_step is_first_iterable step_below step_from step around_by around chain_by chain outer is_read begins_private ends_special is_private bare prefixed mangled class_from read_at spelled is_handler is_annotated is_bare_below is_bare is_binder is_as_name is_alias is_walrus before_dot imported handled makes_local_else makes_local binds beyond_comprehensions own_scope some_node nodes_with is_global is_nonlocal local_mark global_mark nonlocal_mark declares_global declares_nonlocal has is_owner owner_outside home binder_mark in_module is_local is_read_name is_special is_builtin ends_at end_of is_near at_module answer_at led_from resolved answer_of
reads2 = refl

-- class C:
--     def f(self, a=b, *c: d) -> e:
--         return a
--     b = 1
abbrev program3 : Tree
program3 = record { node = plain kinds.Module; kids = (tree (named kinds.ClassDef (codes "C")) (tree (named kinds.FunctionDef (codes "f")) (tree (named kinds.Parameter (codes "self")) none (tree (named kinds.Parameter (codes "a")) (tree (named kinds.Name (codes "b")) none none) (tree (named kinds.StarParameter (codes "c")) (tree (plain kinds.Annotation) (tree (named kinds.Name (codes "d")) none none) none) (tree (plain kinds.Annotation) (tree (named kinds.Name (codes "e")) none none) (tree (plain kinds.Return) (tree (named kinds.Name (codes "a")) none none) none))))) (tree (plain kinds.Assign) (tree (named kinds.NameTarget (codes "b")) none (tree (named kinds.NumberLiteral (codes "1")) none none)) none)) none) }

reads3 : map (resolved program3) (5 ∷ 8 ∷ 10 ∷ 12 ∷ []) ≡ Local (record { 0 = 1 }) ∷ Nowhere ∷ Nowhere ∷ Local (record { 0 = 2 }) ∷ []
unfolding entries entry_at is_class is_def is_comprehension opens is_parameter is_around_def is_in_body holds plain_step is_first_iterable step_below step_from step around_by around chain_by chain outer is_read begins_private ends_special is_private bare prefixed mangled class_from read_at spelled is_handler is_annotated is_bare_below is_bare is_binder is_as_name is_alias is_walrus before_dot imported handled makes_local_else makes_local binds beyond_comprehensions own_scope some_node nodes_with is_global is_nonlocal local_mark global_mark nonlocal_mark declares_global declares_nonlocal has is_owner owner_outside home binder_mark in_module is_local is_read_name is_special is_builtin ends_at end_of is_near at_module answer_at led_from resolved answer_of
reads3 = refl

-- class C:
--     x = 1
--     @x
--     def f(self):
--         return x
abbrev program4 : Tree
program4 = record { node = plain kinds.Module; kids = (tree (named kinds.ClassDef (codes "C")) (tree (plain kinds.Assign) (tree (named kinds.NameTarget (codes "x")) none (tree (named kinds.NumberLiteral (codes "1")) none none)) (tree (named kinds.FunctionDef (codes "f")) (tree (plain kinds.Decorator) (tree (named kinds.Name (codes "x")) none none) (tree (named kinds.Parameter (codes "self")) none (tree (plain kinds.Return) (tree (named kinds.Name (codes "x")) none none) none))) none)) none) }

reads4 : map (resolved program4) (7 ∷ 10 ∷ []) ≡ Local (record { 0 = 1 }) ∷ Nowhere ∷ []
unfolding entries entry_at is_class is_def is_comprehension opens is_parameter is_around_def is_in_body holds plain_step is_first_iterable step_below step_from step around_by around chain_by chain outer is_read begins_private ends_special is_private bare prefixed mangled class_from read_at spelled is_handler is_annotated is_bare_below is_bare is_binder is_as_name is_alias is_walrus before_dot imported handled makes_local_else makes_local binds beyond_comprehensions own_scope some_node nodes_with is_global is_nonlocal local_mark global_mark nonlocal_mark declares_global declares_nonlocal has is_owner owner_outside home binder_mark in_module is_local is_read_name is_special is_builtin ends_at end_of is_near at_module answer_at led_from resolved answer_of
reads4 = refl

-- class C:
--     class D:
--         a = 1
--         def m(self):
--             return C, D, a
--     a = D
abbrev program5 : Tree
program5 = record { node = plain kinds.Module; kids = (tree (named kinds.ClassDef (codes "C")) (tree (named kinds.ClassDef (codes "D")) (tree (plain kinds.Assign) (tree (named kinds.NameTarget (codes "a")) none (tree (named kinds.NumberLiteral (codes "1")) none none)) (tree (named kinds.FunctionDef (codes "m")) (tree (named kinds.Parameter (codes "self")) none (tree (plain kinds.Return) (tree (plain kinds.Tuple) (tree (named kinds.Name (codes "C")) none (tree (named kinds.Name (codes "D")) none (tree (named kinds.Name (codes "a")) none none))) none) none)) none)) (tree (plain kinds.Assign) (tree (named kinds.NameTarget (codes "a")) none (tree (named kinds.Name (codes "D")) none none)) none)) none) }

reads5 : map (resolved program5) (10 ∷ 11 ∷ 12 ∷ 15 ∷ []) ≡ Global ∷ Nowhere ∷ Nowhere ∷ Local (record { 0 = 1 }) ∷ []
unfolding entries entry_at is_class is_def is_comprehension opens is_parameter is_around_def is_in_body holds plain_step is_first_iterable step_below step_from step around_by around chain_by chain outer is_read begins_private ends_special is_private bare prefixed mangled class_from read_at spelled is_handler is_annotated is_bare_below is_bare is_binder is_as_name is_alias is_walrus before_dot imported handled makes_local_else makes_local binds beyond_comprehensions own_scope some_node nodes_with is_global is_nonlocal local_mark global_mark nonlocal_mark declares_global declares_nonlocal has is_owner owner_outside home binder_mark in_module is_local is_read_name is_special is_builtin ends_at end_of is_near at_module answer_at led_from resolved answer_of
reads5 = refl

-- def f():
--     class C:
--         pass
--     return C
abbrev program6 : Tree
program6 = record { node = plain kinds.Module; kids = (tree (named kinds.FunctionDef (codes "f")) (tree (named kinds.ClassDef (codes "C")) (tree (plain kinds.Pass) none none) (tree (plain kinds.Return) (tree (named kinds.Name (codes "C")) none none) none)) none) }

reads6 : map (resolved program6) (5 ∷ []) ≡ Local (record { 0 = 1 }) ∷ []
unfolding entries entry_at is_class is_def is_comprehension opens is_parameter is_around_def is_in_body holds plain_step is_first_iterable step_below step_from step around_by around chain_by chain outer is_read begins_private ends_special is_private bare prefixed mangled class_from read_at spelled is_handler is_annotated is_bare_below is_bare is_binder is_as_name is_alias is_walrus before_dot imported handled makes_local_else makes_local binds beyond_comprehensions own_scope some_node nodes_with is_global is_nonlocal local_mark global_mark nonlocal_mark declares_global declares_nonlocal has is_owner owner_outside home binder_mark in_module is_local is_read_name is_special is_builtin ends_at end_of is_near at_module answer_at led_from resolved answer_of
reads6 = refl

-- class C:
--     def m(self):
--         return __class__
abbrev program7 : Tree
program7 = record { node = plain kinds.Module; kids = (tree (named kinds.ClassDef (codes "C")) (tree (named kinds.FunctionDef (codes "m")) (tree (named kinds.Parameter (codes "self")) none (tree (plain kinds.Return) (tree (named kinds.Name (codes "__class__")) none none) none)) none) none) }

reads7 : map (resolved program7) (5 ∷ []) ≡ Builtin ∷ []
unfolding entries entry_at is_class is_def is_comprehension opens is_parameter is_around_def is_in_body holds plain_step is_first_iterable step_below step_from step around_by around chain_by chain outer is_read begins_private ends_special is_private bare prefixed mangled class_from read_at spelled is_handler is_annotated is_bare_below is_bare is_binder is_as_name is_alias is_walrus before_dot imported handled makes_local_else makes_local binds beyond_comprehensions own_scope some_node nodes_with is_global is_nonlocal local_mark global_mark nonlocal_mark declares_global declares_nonlocal has is_owner owner_outside home binder_mark in_module is_local is_read_name is_special is_builtin ends_at end_of is_near at_module answer_at led_from resolved answer_of
reads7 = refl
