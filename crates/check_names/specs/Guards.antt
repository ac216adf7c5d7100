-- Where a name that is not found is looked after: the bodies of `try` statements with a clause of `NameError`, or
-- without type.
use Rattle.std.specs.Prelude.{ℕ, zero, suc, Bool, true, false, not, ◌&&◌, ◌||◌, List, [], ◌∷◌, Option, None, Some, codes}
use Rattle.std.specs.List.{list_any}
use Rattle.std.specs.Str.{bytes_eq}
use Rattle.tree_nodes.specs.Trees.{Tree, kids_at, parent_at}
use Rattle.scope_rules.specs.Kinds.{is_in_body}
use Rattle.scope_rules.specs.Nodes.{kind_of}
use Rattle.scope_rules.specs.Binding.{is_handler}
use Rattle.scope_rules.specs.Reading.{is_read_name}
use Rattle.check_names.specs.Kinds.{is_try, is_clause, is_tuple}
use Rattle.rule_nodes.specs.Nodes.{written}

-- `NameError`
abbrev pub is_name_error : Tree → ℕ → Bool
is_name_error t n = is_read_name (kind_of t n) && bytes_eq (written t n) (codes "NameError")

-- `NameError`, or a tuple that holds it
abbrev pub holds_name_error : Tree → ℕ → Bool
holds_name_error t n = is_name_error t n || (is_tuple (kind_of t n) && list_any (is_name_error t) (kids_at t n))

-- by a clause's parts, the first of which is its type, where it has one: it has none, or catches `NameError`
abbrev pub catches_by : Tree → List ℕ → Bool
catches_by t [] = true
catches_by t (k ∷ ks) = is_in_body (kind_of t k) || holds_name_error t k

-- a clause of `NameError`, or without type
abbrev pub catches : Tree → ℕ → Bool
catches t n = is_handler (kind_of t n) && catches_by t (kids_at t n)

-- a `try` with such a clause
unfoldable pub is_guard : Tree → ℕ → Bool
is_guard t n = is_try (kind_of t n) && list_any (catches t) (kids_at t n)

-- by the node above: it is such a `try` and the node stands in its body, or it is guarded itself
abbrev pub guarded_above : (ℕ → Bool) → Tree → ℕ → Option ℕ → Bool
guarded_above guarded t n None = false
guarded_above guarded t n (Some q) = (is_guard t q && not (is_clause (kind_of t n))) || guarded q

-- so many nodes above at most
unfoldable pub guarded_by : ℕ → Tree → ℕ → Bool
guarded_by zero t n = false
guarded_by (suc k) t n = guarded_above (guarded_by k t) t n (parent_at t n)

-- the node stands in the body of such a `try`, at any depth: each node has a higher number than the one above it
unfoldable pub is_guarded : Tree → ℕ → Bool
is_guarded t n = guarded_by (suc n) t n
