-- Each row, computed from the definitions. tools/scope_choice.py writes this file.
use Rattle.std.proofs.Common.{refl}
use Rattle.tree_nodes.specs.Trees.{entries, entry_at}
use Rattle.scope_rules.specs.Kinds.{is_class, is_def, is_comprehension, opens, is_parameter, is_around_def, is_in_body, holds}
use Rattle.scope_rules.specs.Places.{plain_step, is_first_iterable, step_below, step_from, step, around_by, around, chain_by, chain, outer}
use Rattle.scope_rules.specs.Mangling.{is_read, begins_private, ends_special, is_private, bare, prefixed, mangled, class_from, read_at, spelled}
use Rattle.scope_rules.specs.Binding.{is_handler, is_annotated, is_bare_below, is_bare, is_binder, is_as_name, is_alias, is_walrus, before_dot, imported, handled, makes_local_else, makes_local, binds, beyond_comprehensions, own_scope}
use Rattle.scope_rules.specs.Marks.{some_node, nodes_with}
use Rattle.scope_rules.specs.Declaring.{is_global, is_nonlocal, local_mark, global_mark, nonlocal_mark, declares_global, declares_nonlocal, has, is_owner, owner_outside, home, binder_mark, in_module, is_local}
use Rattle.scope_rules.specs.Reading.{is_read_name, is_special, is_builtin, ends_at, end_of, is_near, at_module, answer_at, led_from, resolved, answer_of}
use Rattle.scope_rules.specs.Answers.{load_mark, is_deleted_by, is_deleted, is_attribute_target, store_mark, delete_mark}
use Rattle.scope_rows.specs.Stores.{Row30, Row31, Row32, Row48, StoresHold}

row30 : Row30
unfolding entries entry_at is_class is_def is_comprehension opens is_parameter is_around_def is_in_body holds plain_step is_first_iterable step_below step_from step around_by around chain_by chain outer is_read begins_private ends_special is_private bare prefixed mangled class_from read_at spelled is_handler is_annotated is_bare_below is_bare is_binder is_as_name is_alias is_walrus before_dot imported handled makes_local_else makes_local binds beyond_comprehensions own_scope some_node nodes_with is_global is_nonlocal local_mark global_mark nonlocal_mark declares_global declares_nonlocal has is_owner owner_outside home binder_mark in_module is_local is_read_name is_special is_builtin ends_at end_of is_near at_module answer_at led_from resolved answer_of load_mark is_deleted_by is_deleted is_attribute_target store_mark delete_mark
row30 = refl

row31 : Row31
unfolding entries entry_at is_class is_def is_comprehension opens is_parameter is_around_def is_in_body holds plain_step is_first_iterable step_below step_from step around_by around chain_by chain outer is_read begins_private ends_special is_private bare prefixed mangled class_from read_at spelled is_handler is_annotated is_bare_below is_bare is_binder is_as_name is_alias is_walrus before_dot imported handled makes_local_else makes_local binds beyond_comprehensions own_scope some_node nodes_with is_global is_nonlocal local_mark global_mark nonlocal_mark declares_global declares_nonlocal has is_owner owner_outside home binder_mark in_module is_local is_read_name is_special is_builtin ends_at end_of is_near at_module answer_at led_from resolved answer_of load_mark is_deleted_by is_deleted is_attribute_target store_mark delete_mark
row31 = refl

row32 : Row32
unfolding entries entry_at is_class is_def is_comprehension opens is_parameter is_around_def is_in_body holds plain_step is_first_iterable step_below step_from step around_by around chain_by chain outer is_read begins_private ends_special is_private bare prefixed mangled class_from read_at spelled is_handler is_annotated is_bare_below is_bare is_binder is_as_name is_alias is_walrus before_dot imported handled makes_local_else makes_local binds beyond_comprehensions own_scope some_node nodes_with is_global is_nonlocal local_mark global_mark nonlocal_mark declares_global declares_nonlocal has is_owner owner_outside home binder_mark in_module is_local is_read_name is_special is_builtin ends_at end_of is_near at_module answer_at led_from resolved answer_of load_mark is_deleted_by is_deleted is_attribute_target store_mark delete_mark
row32 = refl

row48 : Row48
unfolding entries entry_at is_class is_def is_comprehension opens is_parameter is_around_def is_in_body holds plain_step is_first_iterable step_below step_from step around_by around chain_by chain outer is_read begins_private ends_special is_private bare prefixed mangled class_from read_at spelled is_handler is_annotated is_bare_below is_bare is_binder is_as_name is_alias is_walrus before_dot imported handled makes_local_else makes_local binds beyond_comprehensions own_scope some_node nodes_with is_global is_nonlocal local_mark global_mark nonlocal_mark declares_global declares_nonlocal has is_owner owner_outside home binder_mark in_module is_local is_read_name is_special is_builtin ends_at end_of is_near at_module answer_at led_from resolved answer_of load_mark is_deleted_by is_deleted is_attribute_target store_mark delete_mark
row48 = refl

pub hold : StoresHold
hold = record { row30 = row30; row31 = row31; row32 = row32; row48 = row48 }
