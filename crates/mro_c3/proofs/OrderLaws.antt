-- Laws of class orders: a class has at most one, and it agrees with the order of each class that stands in it.
use Rattle.std.proofs.Common.{◌≡◌, ℕ, ◌+◌, ◌≤◌, ◌<◌, List, [], ◌∷◌, ◌++◌, map, refl, subst, sym, arith, length, ◌⊎◌, inl, inr}
use Rattle.std.specs.List.{concat, Contains}
use Rattle.std.proofs.lemmas.Bool.{cases_lt}
use Rattle.std.proofs.lemmas.List.{get_or_past}
use Rattle.std.proofs.lemmas.List.Folds.{concat-append}
use Rattle.std.proofs.lemmas.List.Elements.{All-contains, Contains-append_left, Contains-append_right}
use Rattle.mro_c3.specs.Laws.{IsLinear}
use Rattle.mro_c3.specs.Merge.{occurrences, Merges}
use Rattle.mro_c3.specs.Order.{bases, merged_lists, BasesAreBelow, IsOrder, linearized, Reaches, itself, by_base}
use Rattle.mro_c3.specs.Subsequence.{IsSubsequence, kept, left_out}
use Rattle.mro_c3.proofs.MergeLaws.{Merges-unique, occurrences-merged_from, occurrences-merged_to, occurrences-merged_once, IsSubsequence-merged}
use Rattle.mro_c3.proofs.Occurrences.{occurrences-nil, occurrences-cons, occurrences-same, occurrences-other, occurrences-append, occurrences-concat, same_or_other, Contains-cases, Contains-here, Contains-there, Contains-none, Contains-from_occurrences, occurrences-from_Contains}
use Rattle.mro_c3.proofs.SubsequenceLaws.{IsSubsequence-same, IsSubsequence-through, occurrences-subsequence}

-- two tables that agree at each base merge the same lists
pub map_same : (f g : ℕ → List ℕ) (row : List ℕ) → ((base : ℕ) → Contains row base → f base ≡ g base) → map f row ≡ map g row
map_same f g [] agree = refl
map_same f g (b ∷ row) agree =
    let here : f b ≡ g b = agree b (Contains-here b row) in
    let behind : map f row ≡ map g row = map_same f g row (λ base there. agree base (Contains-there base b row there)) in
    cc

-- a base's order is among the lists that are merged
Contains-order : (order_of : ℕ → List ℕ) (row : List ℕ) (base : ℕ) → Contains row base → Contains (map order_of row) (order_of base)
Contains-order f [] base there = absurd (Contains-none base there)
Contains-order f (b ∷ row) base there =
    elim (Contains-cases base b row there) [
      | inl same ↦ subst (λ x. Contains (f x ∷ map f row) (f base)) (sym same) (Contains-here (f base) (map f row))
      | inr behind ↦ Contains-there (f base) (f b) (map f row) (Contains-order f row base behind)
    ]

order_is_merged : (order_of : ℕ → List ℕ) (row : List ℕ) (base : ℕ) → Contains row base → Contains (merged_lists row order_of) (order_of base)
order_is_merged f row base there = Contains-append_left (map f row) (row ∷ []) (f base) (Contains-order f row base there)

row_is_merged : (order_of : ℕ → List ℕ) (row : List ℕ) → Contains (merged_lists row order_of) row
row_is_merged f row = Contains-append_right (map f row) (row ∷ []) row (Contains-here row [])

-- a number of the orders of the bases is one of some base's order
in_some_order : (f : ℕ → List ℕ) (row : List ℕ) (n : ℕ) → 1 ≤ occurrences (concat (map f row)) n → (base : ℕ) × Contains row base × (1 ≤ occurrences (f base) n)
in_some_order f [] n there = absurd (omega (arith, occurrences-nil n, there))
in_some_order f (b ∷ row) n there =
    elim (same_or_other (occurrences (f b) n) 0) [
      | inl none ↦
          let more : (base : ℕ) × Contains row base × (1 ≤ occurrences (f base) n) =
          in_some_order f row n (omega (arith, none, there, occurrences-append (f b) (concat (map f row)) n)) in
          (more.0, Contains-there more.0 b row more.1, more.2)
      | inr some ↦ (b, Contains-here b row, omega (arith, some))
    ]

concat_merged : (f : ℕ → List ℕ) (row : List ℕ) (n : ℕ) → occurrences (concat (merged_lists row f)) n ≡ occurrences (concat (map f row)) n + occurrences row n
concat_merged f row n = rw concat-append (rw occurrences-append (omega (arith, occurrences-append row [] n, occurrences-nil n)))

-- a class has at most one order
pub IsOrder-unique : (rows : List (List ℕ)) {k : ℕ} {one other : List ℕ} → IsOrder rows k one → IsOrder rows k other → one ≡ other
IsOrder-unique rows (linearized {k} {merged = ns} f orders merges) (linearized {merged = ms} g others remerges) =
    let agree : map f (bases rows k) ≡ map g (bases rows k) = map_same f g (bases rows k) (λ base there. IsOrder-unique rows (orders base there) (others base there)) in
    let same : Merges (merged_lists (bases rows k) f) ms = subst (λ lists. Merges (lists ++ bases rows k ∷ []) ms) (sym agree) remerges in
    let behind : ns ≡ ms = Merges-unique (merged_lists (bases rows k) f) ns ms merges same in
    cc

-- each class that is reached from one with an order has an order
pub IsOrder-reached : (rows : List (List ℕ)) {k above : ℕ} {order : List ℕ} → Reaches rows k above → IsOrder rows k order → (higher : List ℕ) × IsOrder rows above higher
IsOrder-reached rows {k} {order = order} itself is = (order, is)
IsOrder-reached rows (by_base {k} {base} there further) (linearized f orders merges) = IsOrder-reached rows further (orders base there)

-- the order keeps the order of each class that is reached
pub IsSubsequence-reached : (rows : List (List ℕ)) {k above : ℕ} {order higher : List ℕ} → Reaches rows k above → IsOrder rows k order → IsOrder rows above higher → IsSubsequence higher order
IsSubsequence-reached rows {order = order} {higher} itself is is_higher = subst (λ x. IsSubsequence x order) (IsOrder-unique rows is is_higher) (IsSubsequence-same order)
IsSubsequence-reached rows {higher = higher} (by_base {base = base} there further) (linearized {k} {merged} f orders merges) is_higher =
    left_out
    (IsSubsequence-through
    (IsSubsequence-reached rows further (orders base there) is_higher)
    (IsSubsequence-merged (merged_lists (bases rows k) f) merged (f base) merges (order_is_merged f (bases rows k) base there)))

-- the class stands before its bases, and these in the order of its row
pub IsSubsequence-row : (rows : List (List ℕ)) {k : ℕ} {order : List ℕ} → IsOrder rows k order → IsSubsequence (k ∷ bases rows k) order
IsSubsequence-row rows (linearized {k} {merged} f orders merges) =
    kept (IsSubsequence-merged (merged_lists (bases rows k) f) merged (bases rows k) merges (row_is_merged f (bases rows k)))

-- each class that is reached stands in the order
pub occurrences-reached : (rows : List (List ℕ)) {k above : ℕ} {order : List ℕ} → Reaches rows k above → IsOrder rows k order → 1 ≤ occurrences order above
occurrences-reached rows itself (linearized {k} {merged} f orders merges) = omega (arith, occurrences-same k merged)
occurrences-reached rows (by_base {base = base} {above = above} there further) (linearized {k} {merged} f orders merges) =
    omega (
      arith,
      occurrences-cons k merged above,
      occurrences-merged_from (merged_lists (bases rows k) f) merged above merges
          (omega (arith, occurrences-reached rows further (orders base there), occurrences-concat (merged_lists (bases rows k) f) (f base) above (order_is_merged f (bases rows k) base there))),
    )

-- what stands behind the class is a base, or stands in a base's order
in_merged : (rows : List (List ℕ)) (f : ℕ → List ℕ) (row merged : List ℕ) (n : ℕ) → Merges (merged_lists row f) merged → 1 ≤ occurrences merged n → ((base : ℕ) → Contains row base → 1 ≤ occurrences (f base) n → Reaches rows base n) → (base : ℕ) × Contains row base × Reaches rows base n
in_merged rows f row merged n merges there reaches =
    let in_lists : 1 ≤ occurrences (concat (merged_lists row f)) n = occurrences-merged_to (merged_lists row f) merged n merges there in
    elim (same_or_other (occurrences row n) 0) [
      | inl none ↦
          let among : (base : ℕ) × Contains row base × (1 ≤ occurrences (f base) n) = in_some_order f row n (omega (arith, none, in_lists, concat_merged f row n)) in
          (among.0, among.1, reaches among.0 among.1 among.2)
      | inr some ↦ (n, Contains-from_occurrences row n (omega (arith, some)), itself)
    ]

-- and no other does
pub Reaches-member : (rows : List (List ℕ)) {k : ℕ} {order : List ℕ} (n : ℕ) → IsOrder rows k order → 1 ≤ occurrences order n → Reaches rows k n
Reaches-member rows n (linearized {k} {merged} f orders merges) there =
    elim (same_or_other k n) [
      | inl same ↦ subst (λ x. Reaches rows k x) same itself
      | inr differs ↦
          let base = in_merged rows f (bases rows k) merged n merges (omega (arith, there, occurrences-other k merged n differs)) (λ b among within. Reaches-member rows n (orders b among) within) in
          by_base base.1 base.2
    ]

known_or_empty : (rows : List (List ℕ)) (k : ℕ) → (k < length rows) ⊎ (bases rows k ≡ [])
known_or_empty rows k =
    elim (cases_lt k (length rows)) [
      | inl less ↦ inl less
      | inr not_less ↦ inr (get_or_past rows k [] not_less)
    ]

-- a class has a larger number than its bases, and so none reaches a larger number
pub below_row : (rows : List (List ℕ)) → BasesAreBelow rows → (k base : ℕ) → Contains (bases rows k) base → base < k
below_row rows below k base there =
    elim (known_or_empty rows k) [
      | inl known ↦ All-contains (λ b. b < k) (bases rows k) base (below k known) there
      | inr empty ↦ absurd (Contains-none base (subst (λ row. Contains row base) empty there))
    ]

pub Reaches-below : (rows : List (List ℕ)) → BasesAreBelow rows → {k above : ℕ} → Reaches rows k above → above ≤ k
Reaches-below rows below itself = omega arith
Reaches-below rows below (by_base {k} {base} there further) = omega (arith, below_row rows below k base there, Reaches-below rows below further)

-- each class stands in the order once
pub occurrences-once : (rows : List (List ℕ)) → BasesAreBelow rows → {k : ℕ} {order : List ℕ} (n : ℕ) → IsOrder rows k order → occurrences order n ≤ 1
occurrences-once rows below n (linearized {k} {merged} f orders merges) =
    elim (same_or_other k n) [
      | inl same ↦
          elim (same_or_other (occurrences merged n) 0) [
            | inl none ↦ grind (arith, occurrences-cons k merged n, none)
            | inr some ↦
                let base = in_merged rows f (bases rows k) merged n merges (omega (arith, some)) (λ b among within. Reaches-member rows n (orders b among) within) in
                absurd (omega (arith, same, below_row rows below k base.0 base.1, Reaches-below rows below base.2))
          ]
      | inr differs ↦ omega (arith, occurrences-other k merged n differs, occurrences-merged_once (merged_lists (bases rows k) f) merged n merges)
    ]

-- the order of a class follows the laws
pub IsLinear-order : (rows : List (List ℕ)) (k : ℕ) (order : List ℕ) → BasesAreBelow rows → IsOrder rows k order → IsLinear rows k order
IsLinear-order rows k order below is = record {
  only = λ other is_other. IsOrder-unique rows is_other is;
  members = λ n. (λ there. Reaches-member rows n is (occurrences-from_Contains order n there), λ reached. Contains-from_occurrences order n (occurrences-reached rows reached is));
  once = λ n. occurrences-once rows below n is;
  precedence = λ n there.
      let reached : Reaches rows k n = Reaches-member rows n is (occurrences-from_Contains order n there) in
      let higher = IsOrder-reached rows reached is in
      IsSubsequence-through (IsSubsequence-row rows higher.1) (IsSubsequence-reached rows reached is higher.1);
  distinct = λ n. omega (arith, occurrences-subsequence (IsSubsequence-row rows is) n, occurrences-cons k (bases rows k) n, occurrences-once rows below n is);
  monotone = λ n above there is_above. IsSubsequence-reached rows (Reaches-member rows n is (occurrences-from_Contains order n there)) is is_above;
}
