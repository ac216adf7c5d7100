-- What binds a name, and in which scope before `global` and `nonlocal` are heard.
use Rattle.std.specs.Prelude.{ℕ, Bool, true, false, not, ◌&&◌, ◌==◌, if◌then◌else◌, [], ◌∷◌, length, Option, Some, None, option_map, unwrap_or}
use Rattle.std.specs.List.{find}
use Rattle.tree_nodes.specs.declared.kind.Kind.{Kind}
use Rattle.tree_nodes.specs.declared.kind.Kind.TheVariants as kinds
use Rattle.tree_nodes.specs.Trees.{Tree, kids_at, parent_at}
use Rattle.scope_rules.specs.Kinds.{is_comprehension}
use Rattle.scope_rules.specs.Nodes.{Name, kind_of, name_of, first}
use Rattle.scope_rules.specs.Places.{around, chain}
use Rattle.scope_rules.specs.Mangling.{read_at, spelled}

-- the node above is there, and of such a kind
abbrev pub is_below : (Kind → Bool) → Tree → Option ℕ → Bool
is_below test t None = false
is_below test t (Some q) = test (kind_of t q)

-- a handler of exceptions
unfoldable pub is_handler : Kind → Bool
is_handler kinds.ExceptHandler = true
is_handler kinds.ExceptStarHandler = true
is_handler kind = false

-- a statement that annotates its target
unfoldable pub is_annotated : Kind → Bool
is_annotated kinds.AnnAssign = true
is_annotated kind = false

-- the target of an annotation without a value: the statement's parts are the target and the annotation alone
unfoldable pub is_bare_below : Tree → Option ℕ → Bool
is_bare_below t None = false
is_bare_below t (Some q) = is_annotated (kind_of t q) && length (kids_at t q) == 2

unfoldable pub is_bare : Tree → ℕ → Bool
is_bare t n = is_bare_below t (parent_at t n)

-- the kinds that bind their own name: targets, also of `for`, `with`, `del` and augmented assignments, `def`, `class`,
-- parameters, captures and walruses
unfoldable pub is_binder : Kind → Bool
is_binder kinds.NameTarget = true
is_binder kinds.NamedExpression = true
is_binder kinds.FunctionDef = true
is_binder kinds.AsyncFunctionDef = true
is_binder kinds.ClassDef = true
is_binder kinds.Parameter = true
is_binder kinds.StarParameter = true
is_binder kinds.KeywordOnlyParameter = true
is_binder kinds.DoubleStarParameter = true
is_binder kinds.MatchAs = true
is_binder kinds.MatchCapture = true
is_binder kinds.MatchStar = true
is_binder kinds.MatchRest = true
is_binder kind = false

-- a name behind `as`, which a handler binds, and which names what an import binds
unfoldable pub is_as_name : Kind → Bool
is_as_name kinds.AsName = true
is_as_name kind = false

-- an imported name
unfoldable pub is_alias : Kind → Bool
is_alias kinds.Alias = true
is_alias kind = false

-- an assignment in an expression
unfoldable pub is_walrus : Kind → Bool
is_walrus kinds.NamedExpression = true
is_walrus kind = false

-- the part of a dotted name before its first dot
unfoldable pub before_dot : Name → Name
before_dot [] = []
before_dot (c ∷ cs) = if c == 46 then [] else c ∷ before_dot cs

-- an imported name binds its first part, or the name behind `as`
unfoldable pub imported : Tree → ℕ → Option ℕ → Option Name
imported t n (Some k) = spelled t k
imported t n None = option_map (λ x. read_at t n (before_dot x)) (name_of t n)

-- a handler's name is bound where the handler stands
unfoldable pub handled : Tree → ℕ → Option Name
handled t n = if is_below is_handler t (parent_at t n) then spelled t n else None

-- the name that a node binds otherwise than by its own kind
unfoldable pub makes_local_else : Tree → ℕ → Option Name
makes_local_else t n = if is_as_name (kind_of t n) then handled t n else (if is_alias (kind_of t n) then imported t n (first (kids_at t n)) else None)

-- the name that a node binds, or makes local by an annotation alone
unfoldable pub makes_local : Tree → ℕ → Option Name
makes_local t n = if is_binder (kind_of t n) then spelled t n else makes_local_else t n

-- the name that a node binds: an annotation without a value binds nothing
unfoldable pub binds : Tree → ℕ → Option Name
binds t n = if is_bare t n then None else makes_local t n

-- a walrus is heard in the first scope around it that is no comprehension
unfoldable pub beyond_comprehensions : Tree → ℕ → ℕ
beyond_comprehensions t s = unwrap_or (find (λ o. not (is_comprehension (kind_of t o))) (chain t s)) 0

-- the scope in which a node makes its name local
unfoldable pub own_scope : Tree → ℕ → ℕ
own_scope t n = if is_walrus (kind_of t n) then beyond_comprehensions t (around t n) else around t n
