-- What is asked of a tree's scopes: binders and reads of a name, and stores and deletions of attributes.
use Rattle.std.specs.Prelude.{◌≡◌, ℕ, zero, suc, Bool, true, false, not, ◌&&◌, ◌||◌, if◌then◌else◌, List, Option, Some, None, ◌↔◌, Contains}
use Rattle.std.specs.Ordering.{nat_cmp}
use Rattle.std.specs.Cmp.Lexicographic.{slice_cmp}
use Rattle.std.specs.List.Sorted.{IsStrictlySortedBy}
use Rattle.tree_nodes.specs.declared.kind.Kind.{Kind}
use Rattle.tree_nodes.specs.declared.kind.Kind.TheVariants as kinds
use Rattle.tree_nodes.specs.Trees.{Tree, parent_at}
use Rattle.scope_rules.specs.Kinds.{opens}
use Rattle.scope_rules.specs.Nodes.{Name, kind_of}
use Rattle.scope_rules.specs.Mangling.{spelled}
use Rattle.scope_rules.specs.Binding.{is_bare}
use Rattle.scope_rules.specs.Marks.{Mark, mark_in, mark_at, nodes_with}
use Rattle.scope_rules.specs.Declaring.{binder_mark, is_local}
use Rattle.scope_rules.specs.Reading.{answer_of, scope_of}

-- a read, by the scope to which it leads
abbrev pub load_mark_of : Option ℕ → Option Name → Option Mark
load_mark_of s None = None
load_mark_of s (Some x) = mark_at s x

unfoldable pub load_mark : Tree → ℕ → Option Mark
load_mark t n = load_mark_of (scope_of (answer_of t n)) (spelled t n)

-- the target of a `del`: targets in tuples and lists are too
abbrev pub is_group : Kind → Bool
is_group kinds.TupleTarget = true
is_group kinds.ListTarget = true
is_group kinds.StarredTarget = true
is_group kind = false

abbrev pub is_delete : Kind → Bool
is_delete kinds.Delete = true
is_delete kind = false

-- by what stands above: a `del`, or a group that is deleted itself
abbrev pub deleted_above : (ℕ → Bool) → Tree → Option ℕ → Bool
deleted_above deleted t None = false
deleted_above deleted t (Some q) = is_delete (kind_of t q) || (is_group (kind_of t q) && deleted q)

unfoldable pub is_deleted_by : ℕ → Tree → ℕ → Bool
is_deleted_by zero t n = false
is_deleted_by (suc k) t n = deleted_above (is_deleted_by k t) t (parent_at t n)

unfoldable pub is_deleted : Tree → ℕ → Bool
is_deleted t n = is_deleted_by (suc n) t n

unfoldable pub is_attribute_target : Kind → Bool
is_attribute_target kinds.AttributeTarget = true
is_attribute_target kind = false

-- an attribute that is stored: the target of no `del`, and of no annotation without a value. All attributes are
-- marked in the module, since they belong to no scope
unfoldable pub store_mark : Tree → ℕ → Option Mark
store_mark t n = if is_attribute_target (kind_of t n) && (not (is_deleted t n) && not (is_bare t n)) then mark_in 0 (spelled t n) else None

-- an attribute that is deleted
unfoldable pub delete_mark : Tree → ℕ → Option Mark
delete_mark t n = if is_attribute_target (kind_of t n) && is_deleted t n then mark_in 0 (spelled t n) else None

-- the binders of a name in a scope
abbrev pub binders_of : Tree → ℕ → Name → List ℕ
binders_of t s x = nodes_with (binder_mark t) t s x

-- the reads that lead to a name in a scope
abbrev pub loads_of : Tree → ℕ → Name → List ℕ
loads_of t s x = nodes_with (load_mark t) t s x

-- the targets that store an attribute, and those that delete it
abbrev pub stores_of : Tree → Name → List ℕ
stores_of t x = nodes_with (store_mark t) t 0 x

abbrev pub deletes_of : Tree → Name → List ℕ
deletes_of t x = nodes_with (delete_mark t) t 0 x

-- the scope that a node opens
abbrev pub opened_by : Tree → ℕ → Option ℕ
opened_by t n = if opens (kind_of t n) then Some n else None

-- the names that are local to a scope, ascending
pub record AreNamesOf (t : Tree) (s : ℕ) (xs : List Name) : Type 0 where
  pub ascending : IsStrictlySortedBy (slice_cmp nat_cmp) xs
  pub all : (x : Name) → Contains xs x ↔ (is_local t s x ≡ true)
