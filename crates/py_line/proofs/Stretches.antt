-- Stretches of a line.
use Rattle.std.proofs.Common.{◌≡◌, ℕ, zero, suc, ◌+◌, ◌<◌, ◌≤◌, false, List, [], ◌∷◌, length, get_or, drop, if◌then◌else◌, refl, arith}
use Rattle.std.proofs.lemmas.List.{drop_all}
use Rattle.py_language.specs.Sets.{mem, at}
use Rattle.py_language.specs.Readers.{at_two}
use Rattle.py_grammar.specs.Terminals.{Terminal, code, no_terminal}

get_or-drop : {X : Type 0} (n i : ℕ) (xs : List X) (d : X) → get_or (drop n xs) i d ≡ get_or xs (n + i) d
get_or-drop zero i xs d = let e : 0 + i ≡ i = omega arith in rw e refl
get_or-drop (suc n) i [] d = past i (suc n + i)
  where
    past : (i j : ℕ) → get_or [] i d ≡ get_or [] j d
    past zero zero = refl
    past zero (suc j) = refl
    past (suc i) zero = refl
    past (suc i) (suc j) = refl
get_or-drop (suc n) i (x ∷ xs) d = let e : suc n + i ≡ suc (n + i) = omega arith in rw e (get_or-drop n i xs d)

-- one symbol of the set at a place within the line
pub at_within : (set : List ℕ) (place : ℕ) (now : List Terminal) → place < length now → at code set (drop place now) ≡ mem (code (get_or now place no_terminal)) set
at_within set zero [] l = absurd (omega arith)
at_within set zero (t ∷ ts) l = refl
at_within set (suc n) [] l = absurd (omega arith)
at_within set (suc n) (t ∷ ts) l = at_within set n ts (omega arith)

pub at_past : (set : List ℕ) (place : ℕ) (now : List Terminal) → length now ≤ place → at code set (drop place now) ≡ false
at_past set place now l = let e = drop_all place now l in rw e refl

pub at_two_is : (one two : List ℕ) (place : ℕ) (now : List Terminal) → at_two code one two (drop place now) ≡ (if at code one (drop place now) then at code two (drop (place + 1) now) else false)
at_two_is one two zero [] = refl
at_two_is one two zero (t ∷ ts) = refl
at_two_is one two (suc n) [] = refl
at_two_is one two (suc n) (t ∷ ts) = let e : suc n + 1 ≡ suc (n + 1) = omega arith in rw e (at_two_is one two n ts)

pub at_two_past : (one two : List ℕ) (place : ℕ) (now : List Terminal) → length now ≤ place → at_two code one two (drop place now) ≡ false
at_two_past one two place now l = let e = drop_all place now l in rw e refl
