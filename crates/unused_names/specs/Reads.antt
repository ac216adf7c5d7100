-- When a name of a scope is read, and which names of a tree never are. A name of a scope is known by its first binder.
use Rattle.std.specs.Prelude.{ℕ, Bool, true, false, not, ◌&&◌, ◌||◌, ◌==◌, if◌then◌else◌, List, [], length, option_to_list, Option, None, Some}
use Rattle.std.specs.List.{list_any, flat_map}
use Rattle.std.specs.Str.{bytes_eq}
use Rattle.tree_nodes.specs.Trees.{Tree, parent_at}
use Rattle.scope_rules.specs.declared.scope.Where.{Where}
use Rattle.scope_rules.specs.declared.scope.Where.TheVariants.{Local, Free, Global, Builtin, Nowhere}
use Rattle.scope_rules.specs.Kinds.{is_class}
use Rattle.scope_rules.specs.Nodes.{Name, kind_of, nodes_of, first, is_number}
use Rattle.scope_rules.specs.Places.{around}
use Rattle.scope_rules.specs.Mangling.{spelled}
use Rattle.scope_rules.specs.Binding.{is_below}
use Rattle.scope_rules.specs.Marks.{Mark}
use Rattle.scope_rules.specs.Declaring.{binder_mark}
use Rattle.scope_rules.specs.Reading.{is_read_name, resolved}
use Rattle.scope_rules.specs.Answers.{binders_of, loads_of}
use Rattle.unused_names.specs.Kinds.{is_augmented_assignment, is_name_target}
use Rattle.unused_names.specs.Exempt.{is_exempt}

-- the target of an augmented assignment, which reads its name as well
unfoldable pub is_augmented : Tree → ℕ → Bool
is_augmented t n = is_name_target (kind_of t n) && is_below is_augmented_assignment t (parent_at t n)

-- the answer is a name of the read's own scope
unfoldable pub is_local_answer : Where → Bool
is_local_answer (Local s) = true
is_local_answer (Free s) = false
is_local_answer Global = false
is_local_answer Builtin = false
is_local_answer Nowhere = false

-- a read that leads to its own scope, or the target of an augmented assignment
unfoldable pub is_read_here : Tree → ℕ → Bool
is_read_here t n = if is_read_name (kind_of t n) then is_local_answer (resolved t n) else is_augmented t n

-- a name that is read in the body of a class which binds it
unfoldable pub is_read_in_class : Tree → ℕ → Bool
is_read_in_class t n = is_class (kind_of t (around t n)) && is_read_here t n

-- the names that are read so. Such a read falls back to the module
unfoldable pub class_read : Tree → ℕ → List Name
class_read t n = if is_read_in_class t n then option_to_list (spelled t n) else []

abbrev pub class_reads_among : Tree → List ℕ → List Name
class_reads_among t ns = flat_map (class_read t) ns

abbrev pub class_reads : Tree → List Name
class_reads t = class_reads_among t (nodes_of t)

-- one of these names is x
abbrev pub has_name : List Name → Name → Bool
has_name names x = list_any (λ y. bytes_eq x y) names

-- some read leads to the name in its scope, from there or from scopes inside it
abbrev pub is_loaded : Tree → Mark → Bool
is_loaded t m = not (length (loads_of t m.scope m.name) == 0)

-- some augmented assignment reads it
abbrev pub is_changed : Tree → Mark → Bool
is_changed t m = list_any (is_augmented t) (binders_of t m.scope m.name)

-- it is the module's, and a class body falls back to it
abbrev pub is_fallen_back_to : Tree → Mark → Bool
is_fallen_back_to t m = m.scope == 0 && has_name (class_reads t) m.name

-- the name is read
unfoldable pub is_read : Tree → Mark → Bool
is_read t m = is_loaded t m || (is_changed t m || is_fallen_back_to t m)

-- a name of a scope, where the node is its first binder
abbrev pub by_first_binder : Tree → ℕ → Option Mark → Option Mark
by_first_binder t n None = None
by_first_binder t n (Some m) = if is_number (first (binders_of t m.scope m.name)) n then Some m else None

-- a name that is not exempt
abbrev pub unless_exempt : Option Mark → Option Mark
unless_exempt None = None
unless_exempt (Some m) = if is_exempt m.name then None else Some m

-- the same, where its scope is not known yet
abbrev pub plain_name : Option Name → Option Name
plain_name None = None
plain_name (Some x) = if is_exempt x then None else Some x

-- a name that is never read
abbrev pub unless_read : Tree → Option Mark → Option Mark
unless_read t None = None
unless_read t (Some m) = if is_read t m then None else Some m

-- the name that a node is the first to bind, where it is not exempt
unfoldable pub named_first : Tree → ℕ → Option Mark
named_first t n = by_first_binder t n (unless_exempt (binder_mark t n))

-- and where it is never read
unfoldable pub unused_at : Tree → ℕ → Option Mark
unused_at t n = unless_read t (named_first t n)
