-- Where a name that is read leads.
use Rattle.std.specs.Prelude.{ℕ, Bool, true, false, not, ◌&&◌, ◌||◌, ◌==◌, nat_le, if◌then◌else◌, List, [], ◌∷◌, length, Option, Some, None, unwrap_or}
use Rattle.std.specs.List.{find, list_any, list_all}
use Rattle.std.specs.Str.{bytes_eq}
use Rattle.tree_nodes.specs.declared.kind.Kind.{Kind}
use Rattle.tree_nodes.specs.declared.kind.Kind.TheVariants as kinds
use Rattle.tree_nodes.specs.Trees.{Tree}
use Rattle.scope_rules.specs.declared.scope.Where.{Where}
use Rattle.scope_rules.specs.declared.scope.Where.TheVariants.{Local, Free, Global, Builtin, Nowhere}
use Rattle.scope_rules.specs.declared.builtin_names.TheConstants.{BUILTIN_NAMES}
use Rattle.scope_rules.specs.Kinds.{is_class, is_comprehension}
use Rattle.scope_rules.specs.Nodes.{Name, kind_of}
use Rattle.scope_rules.specs.Places.{around, chain}
use Rattle.scope_rules.specs.Mangling.{begins_private, ends_special, spelled}
use Rattle.scope_rules.specs.Declaring.{declares_global, has, in_module}

-- a name that is read
unfoldable pub is_read_name : Kind → Bool
is_read_name kinds.Name = true
is_read_name kind = false

-- `__x__`, with a character between the underscores
unfoldable pub is_special : Name → Bool
is_special x = nat_le 5 (length x) && (begins_private x && ends_special x)

-- a name of the builtins, or of the form `__x__`
unfoldable pub is_builtin : Name → Bool
is_builtin x = list_any (λ name. bytes_eq x name.now) BUILTIN_NAMES || is_special x

-- a read goes outwards from its own scope, and ends at the module; on its way it passes over the classes that are not
-- its own, and ends where a scope has its name or declares it `global`
unfoldable pub ends_at : Tree → ℕ → Name → ℕ → Bool
ends_at t own x s = s == 0 || ((s == own || not (is_class (kind_of t s))) && (declares_global t s x || has t s x))

-- the scope in which it ends
unfoldable pub end_of : Tree → ℕ → Name → ℕ
end_of t own x = unwrap_or (find (ends_at t own x) (chain t own)) 0

-- the scopes before one
abbrev pub before : ℕ → List ℕ → List ℕ
before s [] = []
before s (o ∷ os) = if o == s then [] else o ∷ before s os

-- every scope that the read leaves or passes over on the way is a comprehension; there is none in its own scope
unfoldable pub is_near : Tree → ℕ → ℕ → Bool
is_near t own s = list_all (λ o. is_comprehension (kind_of t o)) (before s (chain t own))

-- at the module a name is global where the module has it, else a builtin or found nowhere
unfoldable pub at_module : Tree → Name → Where
at_module t x = if in_module t x then Global else (if is_builtin x then Builtin else Nowhere)

-- where a read that ends in that scope leads
unfoldable pub answer_at : Tree → ℕ → Name → ℕ → Where
answer_at t own x s = if s == 0 || declares_global t s x then at_module t x else (if is_near t own s then Local (record { 0 = s }) else Free (record { 0 = s }))

-- where a read of the name in that scope leads
unfoldable pub led_from : Tree → ℕ → Name → Where
led_from t own x = answer_at t own x (end_of t own x)

abbrev pub led_by : Tree → ℕ → Option Name → Where
led_by t own None = Nowhere
led_by t own (Some x) = led_from t own x

-- where the read at a node leads
unfoldable pub resolved : Tree → ℕ → Where
resolved t n = led_by t (around t n) (spelled t n)

-- the answer of a node: none is asked for where no name is read
unfoldable pub answer_of : Tree → ℕ → Where
answer_of t n = if is_read_name (kind_of t n) then resolved t n else Nowhere

-- the scope that an answer names: the module for what is global
abbrev pub scope_of : Where → Option ℕ
scope_of (Local s) = Some s.0
scope_of (Free s) = Some s.0
scope_of Global = Some 0
scope_of Builtin = None
scope_of Nowhere = None
