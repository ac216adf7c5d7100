-- Languages: which tokens spell which trees. A form of a grammar is a language, built of these, with no look-ahead.
use Rattle.std.specs.Prelude.{◌≡◌, ℕ, zero, suc, Bool, true, List, [], ◌∷◌, ◌++◌, ◌⊎◌}
use Rattle.tree_nodes.specs.Trees.{Node, none, Tree, pack}
use Rattle.py_language.specs.Sets.{mem}

-- the tokens, and the trees that they spell
abbrev pub Language : Type 0 → Type 1
Language T = List T → List Tree → Type 0

-- one behind the other
pub record Then {T : Type 0} (a b : Language T) (ts : List T) (out : List Tree) : Type 0 where
  pub front : List T
  pub back : List T
  pub front_out : List Tree
  pub back_out : List Tree
  pub first : a front front_out
  pub second : b back back_out
  pub tokens : ts ≡ front ++ back
  pub trees : out ≡ front_out ++ back_out

-- no tokens, no trees
abbrev pub Nothing : {T : Type 0} → Language T
Nothing ts out = (ts ≡ []) × (out ≡ [])

-- the one or the other
abbrev pub Either : {T : Type 0} → Language T → Language T → Language T
Either a b ts out = a ts out ⊎ b ts out

-- it, or nothing
abbrev pub Maybe : {T : Type 0} → Language T → Language T
Maybe a = Either a Nothing

-- so many times
abbrev pub Times : {T : Type 0} → Language T → ℕ → Language T
Times a zero = Nothing
Times a (suc n) = Then a (Times a n)

-- any number of times
abbrev pub Many : {T : Type 0} → Language T → Language T
Many a ts out = (n : ℕ) × Times a n ts out

-- one time or more
abbrev pub Some : {T : Type 0} → Language T → Language T
Some a = Then a (Many a)

-- the first, and where that has no reading the second
abbrev pub Preferred : {T : Type 0} → Language T → Language T → Language T
Preferred a b ts out = a ts out ⊎ (b ts out × ((other : List Tree) → a ts other → ⊥))

-- a token of the set, which is a node without kids
pub record Shown {T : Type 0} (code : T → ℕ) (node_of : T → Node) (set : List ℕ) (ts : List T) (out : List Tree) : Type 0 where
  pub token : T
  pub is_in : mem (code token) set ≡ true
  pub tokens : ts ≡ token ∷ []
  pub trees : out ≡ record { node = node_of token; kids = none } ∷ []

-- a token of the set, which makes no node
pub record Skipped {T : Type 0} (code : T → ℕ) (set : List ℕ) (ts : List T) (out : List Tree) : Type 0 where
  pub token : T
  pub is_in : mem (code token) set ≡ true
  pub tokens : ts ≡ token ∷ []
  pub trees : out ≡ []

-- a function of the tokens and of the trees that they spell
pub record Made {T : Type 0} (over : List T → List Tree → List Tree) (a : Language T) (ts : List T) (out : List Tree) : Type 0 where
  pub parts : List Tree
  pub spelled : a ts parts
  pub trees : out ≡ over ts parts

-- only where a test of the trees holds
abbrev pub Where : {T : Type 0} → (List Tree → Bool) → Language T → Language T
Where test a ts out = a ts out × (test out ≡ true)

-- items with separators between them, and maybe one behind them
abbrev pub Separated : {T : Type 0} → Language T → Language T → Language T
Separated separator a = Then a (Then (Many (Then separator a)) (Maybe separator))

-- between two tokens that make no node
abbrev pub Bracketed : {T : Type 0} → (T → ℕ) → List ℕ → List ℕ → Language T → Language T
Bracketed code opening closing a = Then (Skipped code opening) (Then a (Skipped code closing))

-- so many steps to the left of what follows, from a first phrase
abbrev pub Steps : {T : Type 0} → (Language T → Language T) → Language T → ℕ → Language T
Steps step a zero = a
Steps step a (suc n) = step (Steps step a n)

-- any number of steps
abbrev pub Stepwise : {T : Type 0} → (Language T → Language T) → Language T → Language T
Stepwise step a ts out = (n : ℕ) × Steps step a n ts out

-- ---- how tokens and trees become a node

-- one node over all of it
abbrev pub whole : {T : Type 0} → (List T → Node) → List T → List Tree → List Tree
whole node_over ts parts = record { node = node_over ts; kids = pack parts } ∷ []

-- one node where there are two parts or more, and else the part itself
abbrev pub row : {T : Type 0} → (List T → Node) → List T → List Tree → List Tree
row node_over ts [] = []
row node_over ts (t ∷ []) = t ∷ []
row node_over ts (t ∷ u ∷ parts) = whole node_over ts (t ∷ u ∷ parts)
