-- Places that wait: one more, several more, and those of a range.
use Rattle.std.proofs.Common.{◌≡◌, ℕ, zero, suc, ◌+◌, ◌-◌, ◌<◌, ◌≤◌, true, false, ◌⊎◌, inl, inr, List, [], ◌∷◌, ◌++◌, length, refl, sym, ◌∙◌, ap, subst, arith}
use Rattle.std.specs.Prelude.{◌==◌, slice_index, slice_index_or, nat_eq}
use Rattle.std.specs.List.{Contains, IsDistinct}
use Rattle.std.specs.Ordering.{match_ordering, nat_cmp}
use Rattle.std.specs.BTreeSet.{insert_key}
use Rattle.std.specs.FinMap.{nat_cmp-IsAntisymmetric}
use Rattle.std.specs.declared.cmp.Ordering.{Ordering}
use Rattle.std.specs.declared.cmp.Ordering.TheVariants.{Less, Equal, Greater}
use Rattle.std.proofs.lemmas.Map.Keys.{apart_from_distinct, IsDistinct-tail}
use Rattle.infer_reached.proofs.Progress.{test_itself}
use Rattle.infer_lazy.specs.Waiting.{with_places, places}
use Rattle.infer_lazy.proofs.Members.{head-in, tail-in, cons-cases, nothing-in}
use Rattle.infer_lazy.proofs.Added.{add-keeps, add-new, add-has}

-- a range
from_first : (k n m : ℕ) → n ≡ suc m → places k n ≡ k ∷ places (k + 1) m
from_first k n m e = ap (λ x. places k x) e

pub places-next : (k e : ℕ) → k < e → places k (e - k) ≡ k ∷ places (k + 1) (e - (k + 1))
places-next k e h = from_first k (e - k) (e - (k + 1)) (omega arith)

pub places-none : (k e : ℕ) → e ≤ k → places k (e - k) ≡ []
places-none k e h = ap (λ x. places k x) (let z : e - k ≡ 0 = omega arith in z)

split_low : (k i : ℕ) → k ≤ i → (k ≡ i) ⊎ (k + 1 ≤ i)
split_low zero zero h = inl refl
split_low zero (suc i) h = inr (omega arith)
split_low (suc k) zero h = absurd (omega arith)
split_low (suc k) (suc i) h = elim (split_low k i (omega arith)) [ inl e ↦ inl (ap suc e) | inr l ↦ inr (omega arith) ]

pub places-has : (k n i : ℕ) → k ≤ i → i < k + n → Contains (places k n) i
places-has k zero i h l = absurd (omega arith)
places-has k (suc n) i h l = elim (split_low k i h) [
  | inl is ↦ subst (λ x. Contains (k ∷ places (k + 1) n) x) is (head-in k (places (k + 1) n))
  | inr more ↦ tail-in k (places (k + 1) n) i (places-has (k + 1) n i more (omega arith))
]

in_range : (k n i : ℕ) → (k + 1 ≤ i) × (i < (k + 1) + n) → (k ≤ i) × (i < k + suc n)
in_range k n i h = let a = h.0 in let c = h.1 in (omega arith, omega arith)

pub places-in : (k n i : ℕ) → Contains (places k n) i → (k ≤ i) × (i < k + n)
places-in k zero i c = absurd (nothing-in i c)
places-in k (suc n) i c = elim (cons-cases k (places (k + 1) n) i c) [
  | inl is ↦ subst (λ x. (k ≤ x) × (x < k + suc n)) is (omega arith, omega arith)
  | inr d ↦ in_range k n i (places-in (k + 1) n i d)
]

pub length-places : (k n : ℕ) → length (places k n) ≡ n
length-places k zero = refl
length-places k (suc n) = ap suc (length-places (k + 1) n)

-- one more place, and several
one_longer : (k x : ℕ) (xs : List ℕ) (r : Ordering) → length (insert_key nat_cmp xs k) ≤ length xs + 1 → length (match_ordering r (k ∷ x ∷ xs) (x ∷ xs) (x ∷ insert_key nat_cmp xs k)) ≤ length (x ∷ xs) + 1
one_longer k x xs Less h = omega arith
one_longer k x xs Equal h = omega arith
one_longer k x xs Greater h = omega arith

add-longer : (k : ℕ) (xs : List ℕ) → length (insert_key nat_cmp xs k) ≤ length xs + 1
add-longer k [] = omega arith
add-longer k (x ∷ xs) = one_longer k x xs (nat_cmp k x) (add-longer k xs)

-- what waits with some places more: what waited, these, and nothing else, each once
pub record Waits (before more after : List ℕ) : Type 0 where
  pub keeps : (i : ℕ) → Contains before i → Contains after i
  pub has : (i : ℕ) → Contains more i → Contains after i
  pub only : (i : ℕ) → Contains after i → Contains before i ⊎ Contains more i
  pub few : length after ≤ length before + length more

few_by : (a c d m : ℕ) → a ≤ c + m → c ≤ d + 1 → a ≤ d + suc m
few_by a c d m h k = omega arith

pub waits-more : (ps qs : List ℕ) → Waits ps qs (with_places ps qs)
waits-more ps [] = record { keeps = λ i c. c; has = λ i c. absurd (nothing-in i c); only = λ i c. inl c; few = omega arith }
waits-more ps (q ∷ qs) =
    let rest = waits-more (insert_key nat_cmp ps q) qs in
    record {
      keeps = λ i c. rest.keeps i (add-keeps nat_cmp q ps i c);
      has = λ i c. elim (cons-cases q qs i c) [
        | inl is ↦ rest.keeps i (subst (λ x. Contains (insert_key nat_cmp ps q) x) is (add-has nat_cmp q nat_cmp-IsAntisymmetric ps))
        | inr d ↦ rest.has i d
      ];
      only = λ i c. elim (rest.only i c) [
        | inl d ↦ elim (add-new nat_cmp q ps i d) [ inl is ↦ inr (subst (λ x. Contains (q ∷ qs) x) (sym is) (head-in q qs)) | inr e ↦ inl e ]
        | inr d ↦ inr (tail-in q qs i d)
      ];
      few = few_by _ _ (length ps) (length qs) rest.few (add-longer q ps);
    }

-- the variable at a place
pub in-at : (run : List ℕ) (i : ℕ) → i < length run → Contains run (slice_index run i)
in-at [] i h = absurd (omega arith)
in-at (x ∷ xs) zero h = head-in x xs
in-at (x ∷ xs) (suc i) h = tail-in x xs (slice_index xs i) (in-at xs i (omega arith))

pub at-in : (run : List ℕ) (v : ℕ) → Contains run v → (i : ℕ) × (i < length run) × (slice_index run i ≡ v)
at-in [] v c = absurd (nothing-in v c)
at-in (x ∷ xs) v c = elim (cons-cases x xs v c) [
  | inl is ↦ (0, omega arith, is)
  | inr d ↦ let r = at-in xs v d in let l = r.1 in (suc r.0, omega arith, r.2)
]

pub at-front : (xs ys : List ℕ) (i : ℕ) → i < length xs → slice_index (xs ++ ys) i ≡ slice_index xs i
at-front [] ys i h = absurd (omega arith)
at-front (x ∷ xs) ys zero h = refl
at-front (x ∷ xs) ys (suc i) h = at-front xs ys i (omega arith)

-- within a list it does not matter what stands for what is not there
pub at-any : (run : List ℕ) (i d : ℕ) → i < length run → slice_index run i ≡ slice_index_or run i d
at-any [] i d h = absurd (omega arith)
at-any (x ∷ xs) zero d h = refl
at-any (x ∷ xs) (suc i) d h = at-any xs i d (omega arith)

-- where a variable stands
pub place_of : List ℕ → ℕ → ℕ
place_of [] v = zero
place_of (x ∷ xs) v = elim (x == v) [ true ↦ zero | false ↦ suc (place_of xs v) ]

-- in a list without repeats each variable stands at one place
pub place-at : (run : List ℕ) → IsDistinct nat_eq run → (i : ℕ) → i < length run → place_of run (slice_index run i) ≡ i
unfolding place_of
place-at [] d i h = absurd (omega arith)
place-at (x ∷ xs) d zero h = ap (λ c. elim c as (λ _. ℕ) [ true ↦ zero | false ↦ suc (place_of xs x) ]) (test_itself x)
place-at (x ∷ xs) d (suc i) h =
    let apart : (x == slice_index xs i) ≡ false = apart_from_distinct nat_eq (x ∷ xs) 0 (suc i) 0 d (omega arith) h in
    ap (λ c. elim c as (λ _. ℕ) [ true ↦ zero | false ↦ suc (place_of xs (slice_index xs i)) ]) apart
    ∙ ap suc (place-at xs (IsDistinct-tail nat_eq x xs d) i (omega arith))

pub at-apart : (run : List ℕ) → IsDistinct nat_eq run → (i j : ℕ) → i < length run → j < length run → (i ≡ j → ⊥) → slice_index run i ≡ slice_index run j → ⊥
at-apart run d i j l m apart is = apart (sym (place-at run d i l) ∙ ap (λ v. place_of run v) is ∙ place-at run d j m)
