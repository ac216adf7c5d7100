-- Laws of tables of counts: what one write changes, and how counts add up.
use Rattle.std.proofs.Common.{◌≡◌, ◌≢◌, ℕ, ◌+◌, ◌≤◌, ◌<◌, List, [], ◌∷◌, ◌++◌, set, get_or, drop, sym, subst, refl, arith, length, inl, inr}
use Rattle.std.proofs.lemmas.Bool.{cases_lt}
use Rattle.std.proofs.lemmas.List.{get_or-set_same, get_or-set_other, get_or_past}
use Rattle.mro_c3.specs.Table.{CountsMore, IsCounted, Recounts}
use Rattle.mro_c3.proofs.Occurrences.{occurrences-nil, occurrences-same, occurrences-other, occurrences-append, same_or_other}

pub CountsMore-nil : (counts : List ℕ) → CountsMore [] counts counts
CountsMore-nil counts = record { at = λ n. omega (arith, occurrences-nil n) }

pub CountsMore-then : (xs ys a b c : List ℕ) → CountsMore xs a b → CountsMore ys b c → CountsMore (xs ++ ys) a c
CountsMore-then xs ys a b c first second = record { at = λ n. omega (arith, first.at n, second.at n, occurrences-append xs ys n) }

one_at : (counts : List ℕ) (number more n : ℕ) → number < length counts → number ≡ n → get_or (set counts number more) n 0 ≡ more
one_at counts number more n below same = subst (λ x. get_or (set counts number more) x 0 ≡ more) same (get_or-set_same counts number more 0 below)

one_other : (counts : List ℕ) (number more n : ℕ) → number ≢ n → get_or (set counts number more) n 0 ≡ get_or counts n 0
one_other counts number more n differs = get_or-set_other counts number n more 0 (λ same. differs (sym same))

-- one write of a count that is one more
pub CountsMore-set : (counts : List ℕ) (number more : ℕ) → number < length counts → more ≡ get_or counts number 0 + 1 → CountsMore (number ∷ []) counts (set counts number more)
CountsMore-set counts number more below is = record {
  at = λ n.
      elim (same_or_other number n) [
        | inl same ↦ grind (arith, one_at counts number more n below same, same, is, occurrences-same number [], occurrences-nil number)
        | inr differs ↦ omega (arith, one_other counts number more n differs, occurrences-other number [] n differs, occurrences-nil n)
      ];
}

-- one write of a count that is one less
pub CountsMore-set_less : (counts : List ℕ) (number less : ℕ) → number < length counts → less + 1 ≡ get_or counts number 0 → CountsMore (number ∷ []) (set counts number less) counts
CountsMore-set_less counts number less below is = record {
  at = λ n.
      elim (same_or_other number n) [
        | inl same ↦ grind (arith, one_at counts number less n below same, same, is, occurrences-same number [], occurrences-nil number)
        | inr differs ↦ omega (arith, one_other counts number less n differs, occurrences-other number [] n differs, occurrences-nil n)
      ];
}

-- a number with a count has a place in the table
pub counted_below : (counts : List ℕ) (number : ℕ) → 1 ≤ get_or counts number 0 → number < length counts
counted_below counts number counted =
    elim (cases_lt number (length counts)) [
      | inl below ↦ below
      | inr past ↦ absurd (omega (arith, counted, get_or_past counts number 0 past))
    ]

-- the head of a counted list has a place in the table, and a count
pub head_counted : (list counts : List ℕ) → 1 ≤ length list → IsCounted list counts → 1 ≤ get_or counts (get_or list 0 0) 0
head_counted [] counts some counted = absurd (omega (arith, some))
head_counted (n ∷ ns) counts some counted = omega (arith, counted.at n, occurrences-same n ns)

-- the counts once the head is taken from them
pub Recounts-head : (list earlier later : List ℕ) → 1 ≤ length list → CountsMore (get_or list 0 0 ∷ []) later earlier → Recounts list (drop 1 list) earlier later
Recounts-head [] earlier later some less = absurd (omega (arith, some))
Recounts-head (n ∷ ns) earlier later some less = record { at = λ m. omega (arith, less.at m, occurrences-append (n ∷ []) ns m) }

pub Recounts-same : (list counts : List ℕ) → Recounts list list counts counts
Recounts-same list counts = record { at = λ n. refl }
