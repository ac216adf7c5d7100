-- Brackets: how many are open behind tokens, and how many at most on the way. A token opens one, closes one, or does
-- neither, as the sets of codes say.
use Rattle.std.specs.Prelude.{◌≡◌, ℕ, suc, pred, max, List, [], ◌∷◌, if◌then◌else◌}
use Rattle.py_language.specs.Sets.{mem}
use Rattle.py_language.specs.Languages.{Language}
use Rattle.tree_nodes.specs.Trees.{Tree}

-- how many are open behind a token of this code, where d are open before it; no closing token leaves fewer than none
abbrev pub turned : List ℕ → List ℕ → ℕ → ℕ → ℕ
turned opens closes c d = if mem c opens then suc d else (if mem c closes then pred d else d)

-- how many are open behind the tokens, where d are open before them
abbrev pub level : {T : Type 0} → (T → ℕ) → List ℕ → List ℕ → ℕ → List T → ℕ
level code opens closes d [] = d
level code opens closes d (t ∷ ts) = level code opens closes (turned opens closes (code t) d) ts

-- the most that are open at any place, where d are open before them
abbrev pub peak : {T : Type 0} → (T → ℕ) → List ℕ → List ℕ → ℕ → List T → ℕ
peak code opens closes d [] = d
peak code opens closes d (t ∷ ts) = max d (peak code opens closes (turned opens closes (code t) d) ts)

-- as many are open behind the tokens as before them, however many these are
abbrev pub IsEven : {T : Type 0} → (T → ℕ) → List ℕ → List ℕ → List T → Type 0
IsEven code opens closes ts = (d : ℕ) → level code opens closes d ts ≡ d

-- each phrase is even
abbrev pub Even : {T : Type 0} → (T → ℕ) → List ℕ → List ℕ → Language T → Type 0
Even {T} code opens closes a = (ts : List T) (out : List Tree) → a ts out → IsEven code opens closes ts
