-- In which scope each node stands. A scope is known by the number of the node that opens it; the module's is 0.
use Rattle.std.specs.Prelude.{ℕ, zero, suc, Bool, ◌&&◌, ◌||◌, ◌==◌, if◌then◌else◌, List, [], ◌∷◌, Option, Some, None}
use Rattle.tree_nodes.specs.Trees.{Tree, kids_at, parent_at}
use Rattle.scope_rules.specs.declared.step.Step.{Step}
use Rattle.scope_rules.specs.declared.step.Step.TheVariants.{Within, Beside}
use Rattle.scope_rules.specs.Kinds.{is_comprehension, is_parameter, holds}
use Rattle.scope_rules.specs.Nodes.{kind_of, second, is_number}

-- a part stands in the scope that its whole opens where that holds it, and else where its whole stands
unfoldable pub plain_step : Tree → ℕ → ℕ → Step
plain_step t n q = if holds (kind_of t q) (kind_of t n) then Within q else Beside q

-- n is the iterable of the clause q, and q is the first clause of the comprehension d
unfoldable pub is_first_iterable : Tree → ℕ → ℕ → ℕ → Bool
is_first_iterable t n q d = is_comprehension (kind_of t d) && is_number (second (kids_at t d)) q && is_number (second (kids_at t q)) n

-- a parameter's annotation and default, and the first iterable of a comprehension, stand outside the function or the
-- comprehension d
unfoldable pub step_below : Tree → ℕ → ℕ → Option ℕ → Step
step_below t n q None = plain_step t n q
step_below t n q (Some d) = if is_parameter (kind_of t q) || is_first_iterable t n q d then Beside d else plain_step t n q

-- the root stands in the module
unfoldable pub step_from : Tree → ℕ → Option ℕ → Step
step_from t n None = Within 0
step_from t n (Some q) = step_below t n q (parent_at t q)

-- one step outwards from a node
unfoldable pub step : Tree → ℕ → Step
step t n = step_from t n (parent_at t n)

-- where a step leads, by where each node stands
abbrev pub landing : (ℕ → ℕ) → Step → ℕ
landing place (Within s) = s
landing place (Beside m) = place m

-- the scope in which a node stands, by at most so many steps
unfoldable pub around_by : ℕ → Tree → ℕ → ℕ
around_by zero t n = 0
around_by (suc k) t n = landing (around_by k t) (step t n)

-- the scope in which a node stands: each step leads to a lower number
unfoldable pub around : Tree → ℕ → ℕ
around t n = around_by (suc n) t n

-- a scope and those around it up to the module, by at most so many steps
unfoldable pub chain_by : ℕ → Tree → ℕ → List ℕ
chain_by zero t s = 0 ∷ []
chain_by (suc k) t s = if s == 0 then 0 ∷ [] else s ∷ chain_by k t (around t s)

-- a scope and those around it, from the inner to the module
unfoldable pub chain : Tree → ℕ → List ℕ
chain t s = chain_by s t s

-- the scope around a scope; the module has none
unfoldable pub outer : Tree → ℕ → Option ℕ
outer t s = if s == 0 then None else Some (around t s)
