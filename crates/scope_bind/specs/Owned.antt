-- The names that are local to each scope.
use Rattle.std.specs.Prelude.{◌≡◌, ℕ, Bool, ◌==◌, if◌then◌else◌, List, map, filter, Option, Some, None}
use Rattle.std.specs.List.{list_any}
use Rattle.std.specs.List.Sorted.{IsStrictlySortedBy}
use Rattle.std.specs.Ordering.{nat_cmp, ordering_index}
use Rattle.tree_nodes.specs.Trees.{Tree}
use Rattle.scope_rules.specs.Nodes.{Name}
use Rattle.scope_rules.specs.Marks.{Mark}
use Rattle.scope_rules.specs.Declaring.{local_mark, has, binder_mark, is_local}
use Rattle.scope_bind.specs.declared.row.Row.{Row}
use Rattle.scope_bind.specs.Rows.{row_cmp, is_of}

-- a node makes its name local, and its scope has the name
abbrev pub owned_of : Tree → Option Mark → Option Mark
owned_of t None = None
owned_of t (Some m) = if has t m.scope m.name then Some m else None

unfoldable pub owned_mark : Tree → ℕ → Option Mark
owned_mark t n = owned_of t (local_mark t n)

-- the same of a row
abbrev pub owned_row : Tree → Option Row → Option Row
owned_row t None = None
owned_row t (Some r) = if has t r.scope r.name then Some r else None

-- a node binds its name in the module
abbrev pub in_module_of : Option Mark → Option Mark
in_module_of None = None
in_module_of (Some m) = if m.scope == 0 then Some m else None

unfoldable pub module_mark : Tree → ℕ → Option Mark
module_mark t n = in_module_of (binder_mark t n)

-- the same of a row
abbrev pub module_row : Option Row → Option Row
module_row None = None
module_row (Some r) = if r.scope == 0 then Some r else None

-- where a row stands to a scope: 0 before it, 1 in it, 2 behind it
abbrev pub scope_rank : ℕ → Row → ℕ
scope_rank s r = ordering_index (nat_cmp r.scope s)

-- the row is of that scope
abbrev pub in_scope : ℕ → Row → Bool
in_scope s r = r.scope == s

-- the names of the rows of a scope
unfoldable pub names_in : List Row → ℕ → List Name
names_in rows s = map (λ r. r.name) (filter (in_scope s) rows)

-- rows each of which is of another name or scope, in order, and beside them stand their names
pub record AreNamed (rows : List Row) (texts : List Name) : Type 0 where
  pub ascending : IsStrictlySortedBy row_cmp rows
  pub named : texts ≡ map (λ r. r.name) rows

-- the names and scopes of some rows, each once, in order
pub record AreEachOnce (rows table : List Row) : Type 0 where
  pub ascending : IsStrictlySortedBy row_cmp table
  pub same : (s : ℕ) (x : Name) → list_any (is_of s x) table ≡ list_any (is_of s x) rows

-- rows that name each local name of each scope once, in order
pub record AreNameRows (t : Tree) (rows : List Row) : Type 0 where
  pub ascending : IsStrictlySortedBy row_cmp rows
  pub named : (s : ℕ) (x : Name) → list_any (is_of s x) rows ≡ is_local t s x
