-- `global` and `nonlocal`: which names are local to a scope, and where a binder binds.
use Rattle.std.specs.Prelude.{ℕ, Bool, true, false, not, ◌&&◌, ◌||◌, ◌==◌, if◌then◌else◌, drop, Option, Some, None}
use Rattle.std.specs.List.{find}
use Rattle.tree_nodes.specs.declared.kind.Kind.{Kind}
use Rattle.tree_nodes.specs.declared.kind.Kind.TheVariants as kinds
use Rattle.tree_nodes.specs.Trees.{Tree, parent_at}
use Rattle.scope_rules.specs.Kinds.{is_def}
use Rattle.scope_rules.specs.Nodes.{Name, kind_of}
use Rattle.scope_rules.specs.Places.{around, chain}
use Rattle.scope_rules.specs.Mangling.{spelled}
use Rattle.scope_rules.specs.Binding.{is_below, makes_local, binds, own_scope}
use Rattle.scope_rules.specs.Marks.{Mark, mark_in, mark_at, some_node}

unfoldable pub is_global : Kind → Bool
is_global kinds.Global = true
is_global kind = false

unfoldable pub is_nonlocal : Kind → Bool
is_nonlocal kinds.Nonlocal = true
is_nonlocal kind = false

-- a node makes its name local, where nothing is declared of it
unfoldable pub local_mark : Tree → ℕ → Option Mark
local_mark t n = mark_in (own_scope t n) (makes_local t n)

-- a name of a `global` statement; of all names only those of such statements stand below one
unfoldable pub global_mark : Tree → ℕ → Option Mark
global_mark t n = if is_below is_global t (parent_at t n) then mark_in (around t n) (spelled t n) else None

-- a name of a `nonlocal` statement
unfoldable pub nonlocal_mark : Tree → ℕ → Option Mark
nonlocal_mark t n = if is_below is_nonlocal t (parent_at t n) then mark_in (around t n) (spelled t n) else None

-- the scope declares the name `global`
unfoldable pub declares_global : Tree → ℕ → Name → Bool
declares_global t s x = some_node (global_mark t) t s x

-- the scope declares the name `nonlocal`
unfoldable pub declares_nonlocal : Tree → ℕ → Name → Bool
declares_nonlocal t s x = some_node (nonlocal_mark t) t s x

-- the scope has the name: a binder or annotation of it there, and no declaration
unfoldable pub has : Tree → ℕ → Name → Bool
has t s x = some_node (local_mark t) t s x && (not (declares_global t s x) && not (declares_nonlocal t s x))

-- a function that has the name
unfoldable pub is_owner : Tree → Name → ℕ → Bool
is_owner t x o = is_def (kind_of t o) && has t o x

-- the nearest function outside a scope that has the name
unfoldable pub owner_outside : Tree → ℕ → Name → Option ℕ
owner_outside t s x = find (is_owner t x) (drop 1 (chain t s))

-- where the binders that stand in a scope bind a name: `global` sends them to the module, also beside `nonlocal`, and
-- `nonlocal` to the nearest outer function that has the name, or nowhere
unfoldable pub home : Tree → ℕ → Name → Option ℕ
home t s x = if declares_global t s x then Some 0 else (if declares_nonlocal t s x then owner_outside t s x else Some s)

abbrev pub binder_mark_of : Tree → ℕ → Option Name → Option Mark
binder_mark_of t s None = None
binder_mark_of t s (Some x) = mark_at (home t s x) x

-- what a node binds, and where
unfoldable pub binder_mark : Tree → ℕ → Option Mark
binder_mark t n = binder_mark_of t (own_scope t n) (binds t n)

-- the module has the name: a binder binds it there, from wherever it stands, or it is annotated there
unfoldable pub in_module : Tree → Name → Bool
in_module t x = some_node (binder_mark t) t 0 x || has t 0 x

-- the name is local to the scope
unfoldable pub is_local : Tree → ℕ → Name → Bool
is_local t s x = if s == 0 then in_module t x else has t s x
