-- A node has fewer kids than its tree has nodes.
use Rattle.std.proofs.Common.{◌≡◌, ℕ, zero, suc, ◌+◌, ◌-◌, ◌<◌, ◌≤◌, Bool, true, false, not, ◌&&◌, List, [], ◌∷◌, length, filter, drop, length-drop, map, get_or, refl, sym, ap, subst, ◌∙◌, arith}
use Rattle.std.specs.Prelude.{All, slice_index}
use Rattle.std.specs.List.Sorted.{IsStrictlyIncreasing}
use Rattle.std.proofs.lemmas.List.{length-map}
use Rattle.std.proofs.lemmas.List.Sums.{length-filter, count_by-le-length}
use Rattle.tree_nodes.specs.declared.kind.Kind.{Kind}
use Rattle.tree_nodes.specs.Trees.{Tree, count_of, kids_at}
use Rattle.tree_nodes.proofs.EntryLaws.{kids-behind, kids-made, kids-ascend}
use Rattle.scope_rules.specs.Kinds.{is_parameter}
use Rattle.scope_rules.specs.Nodes.{kind_of}
use Rattle.call_binding.specs.Reading.{is_plain, is_keyword, is_star, params_among, params_of, parameters_among, parameter_of, plain_among, keywords_among, names_among, arguments_of, written}

-- the k-th number of an ascending list is at least k more than what the first is above
grows : (xs : List ℕ) (low : ℕ) → IsStrictlyIncreasing xs → (0 < length xs → low < slice_index xs 0) → (k : ℕ) → k < length xs → low + k < slice_index xs k
grows xs low up first zero in_range = omega (arith, first in_range)
grows xs low up first (suc k) in_range =
    let before = grows xs low up first k (omega arith) in
    let e : k + 1 ≡ suc k = omega arith in
    let step : slice_index xs k < slice_index xs (suc k) = subst (λ (m : ℕ). slice_index xs k < slice_index xs m) e (up k (omega arith)) in
    omega arith

short : (xs : List ℕ) (low high : ℕ) → low < high → IsStrictlyIncreasing xs → (0 < length xs → low < slice_index xs 0) → ((k : ℕ) → k < length xs → slice_index xs k < high) → low + length xs < high
short xs low high some up first below = by_length (length xs) refl
  where
    by_length : (n : ℕ) → length xs ≡ n → low + length xs < high
    by_length zero e = omega arith
    by_length (suc n) e =
        let last = grows xs low up first n (omega arith) in
        let end = below n (omega arith) in
        omega arith

pub kids_room : (t : Tree) (n : ℕ) → n < count_of t → length (kids_at t n) < count_of t
kids_room t n made =
    let fit = short (kids_at t n) n (count_of t) made (kids-ascend t n made) (λ some. kids-behind t n made 0 0 some) (λ k low. kids-made t n made k 0 low) in
    omega arith

filter-le : (p : ℕ → Bool) (xs : List ℕ) → length (filter p xs) ≤ length xs
filter-le p xs = omega (arith, length-filter p xs, count_by-le-length p xs)

pub params_room : (t : Tree) (n : ℕ) → n < count_of t → length (params_among t (kids_at t n)) < count_of t
params_room t n made = omega (arith, kids_room t n made, filter-le (λ k. is_parameter (kind_of t k)) (kids_at t n))

-- a plain argument has no keyword
apart : (kind : Kind) → is_plain kind ≡ true → is_keyword kind ≡ false
unfolding is_plain
apart kind e = by_test (is_keyword kind) refl e
  where
    never : false ≡ true → ⊥
    never e = cc

    by_test : (b : Bool) → is_keyword kind ≡ b → (not b && not (is_star kind)) ≡ true → is_keyword kind ≡ false
    by_test true at e = absurd (never e)
    by_test false at e = at

two-parts : (p q : ℕ → Bool) → ((k : ℕ) → p k ≡ true → q k ≡ false) → (xs : List ℕ) → length (filter p xs) + length (filter q xs) ≤ length xs
two-parts p q apart [] = omega arith
two-parts p q apart (x ∷ xs) = by_test (two-parts p q apart xs) (p x) refl (q x) refl
  where
    never : true ≡ false → ⊥
    never e = cc

    by_test : length (filter p xs) + length (filter q xs) ≤ length xs → (a : Bool) → p x ≡ a → (b : Bool) → q x ≡ b → length (filter p (x ∷ xs)) + length (filter q (x ∷ xs)) ≤ length (x ∷ xs)
    by_test rest true at true bt = absurd (never (sym bt ∙ apart x at))
    by_test rest true at false bt = rw (at, bt) (omega arith)
    by_test rest false at true bt = rw (at, bt) (omega arith)
    by_test rest false at false bt = rw (at, bt) (omega arith)

pub arguments_room : (t : Tree) (n : ℕ) → n < count_of t → length (plain_among t (arguments_of t n)) + length (names_among t (arguments_of t n)) + 1 ≤ count_of t
arguments_room t n made =
    let fit = kids_room t n made in
    let parts = two-parts (λ k. is_plain (kind_of t k)) (λ k. is_keyword (kind_of t k)) (λ k e. apart (kind_of t k) e) (arguments_of t n) in
    let all = length-drop 1 (kids_at t n) in
    let names = length-map (keywords_among t (arguments_of t n)) (written t) in
    omega arith

pub keywords_room : (t : Tree) (n : ℕ) → n < count_of t → length (keywords_among t (arguments_of t n)) < count_of t
keywords_room t n made =
    let fit = kids_room t n made in
    let part = filter-le (λ k. is_keyword (kind_of t k)) (arguments_of t n) in
    let all = length-drop 1 (kids_at t n) in
    omega arith
