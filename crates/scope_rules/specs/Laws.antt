-- What holds of every tree's scopes.
use Rattle.std.specs.Prelude.{◌≡◌, ℕ, ◌<◌, true, false, ◌==◌, if◌then◌else◌, List, [], ◌∷◌, ◌++◌, Contains, All}
use Rattle.std.specs.List.Sorted.{IsStrictlyIncreasing}
use Rattle.tree_nodes.specs.Trees.{Tree, count_of}
use Rattle.tree_nodes.specs.Shaped.{IsShaped}
use Rattle.scope_rules.specs.declared.scope.Where.{Where}
use Rattle.scope_rules.specs.declared.scope.ScopeId.{ScopeId}
use Rattle.scope_rules.specs.declared.scope.Where.TheVariants.{Local, Free}
use Rattle.std.specs.Prelude.{Some}
use Rattle.scope_rules.specs.Kinds.{opens}
use Rattle.scope_rules.specs.Nodes.{Name, kind_of}
use Rattle.scope_rules.specs.Places.{step, landing, around, chain}
use Rattle.scope_rules.specs.Mangling.{spelled}
use Rattle.scope_rules.specs.Reading.{ends_at, answer_at, resolved}
use Rattle.scope_rules.specs.Answers.{binders_of, loads_of, stores_of, deletes_of}

-- ---- the scopes around a node

-- where a node stands, without a count of steps: in the scope where its step leads; the scope around a scope comes
-- before it; and a scope's chain is the scope and the chain of the one around it
pub record AreNested (t : Tree) : Type 0 where
  pub stands : (n : ℕ) → n < count_of t → around t n ≡ landing (around t) (step t n)
  pub before : (n : ℕ) → n < count_of t → 0 < n → around t n < n
  pub chained : (s : ℕ) → s < count_of t → chain t s ≡ (if s == 0 then 0 ∷ [] else s ∷ chain t (around t s))
  pub opened : IsShaped t → (n : ℕ) → n < count_of t → opens (kind_of t (around t n)) ≡ true

-- ---- each read has one answer

-- a read of the name from its own scope ends in that scope: it is the first on the way outwards at which a read ends
pub record EndsIn (t : Tree) (own : ℕ) (x : Name) (s : ℕ) : Type 0 where
  pub front : List ℕ
  pub back : List ℕ
  pub way : chain t own ≡ front ++ s ∷ back
  pub passed : All (λ o. ends_at t own x o ≡ false) front
  pub ends : ends_at t own x s ≡ true

-- the read at a node leads there
pub record Resolves (t : Tree) (n : ℕ) (w : Where) : Type 0 where
  pub name : Name
  pub read : spelled t n ≡ Some name
  pub scope : ℕ
  pub ends : EndsIn t (around t n) name scope
  pub answer : w ≡ answer_at t (around t n) name scope

-- a name that is read leads to exactly one answer
pub record HasOneAnswer (t : Tree) (n : ℕ) : Type 0 where
  pub leads : Resolves t n (resolved t n)
  pub only : (w : Where) → Resolves t n w → w ≡ resolved t n

-- ---- order

-- all that is asked of a name comes in source order
pub record AreInOrder (t : Tree) : Type 0 where
  pub binders : (s : ℕ) (x : Name) → IsStrictlyIncreasing (binders_of t s x)
  pub loads : (s : ℕ) (x : Name) → IsStrictlyIncreasing (loads_of t s x)
  pub stores : (x : Name) → IsStrictlyIncreasing (stores_of t x)
  pub deletes : (x : Name) → IsStrictlyIncreasing (deletes_of t x)

-- ---- where a read is local

-- the scope is that of the read, or lies around it
abbrev pub IsAroundRead : Tree → ℕ → ScopeId → Type 0
IsAroundRead t n s = Contains (chain t (around t n)) s.0

-- a read that is local or free leads to a scope around it
pub record LeadsOutwards (t : Tree) (n : ℕ) : Type 0 where
  pub local : (s : ScopeId) → resolved t n ≡ Local s → IsAroundRead t n s
  pub free : (s : ScopeId) → resolved t n ≡ Free s → IsAroundRead t n s
