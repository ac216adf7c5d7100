-- One step of the merge: what it takes, what it leaves, and how it goes on.
use Rattle.std.proofs.Common.{◌≡◌, ◌≢◌, ◌==◌, ℕ, ◌+◌, ◌≤◌, ◌<◌, ◌↔◌, List, [], ◌∷◌, ◌++◌, map, take, drop, set, replicate, refl, ap, subst, sym, ◌∙◌, arith, cond, true, false, length, get_or, suc, zero, Option, Some, None, inl, inr, append_assoc, append-nil, add-one, drop-cons}
use Rattle.std.proofs.Math.ListN.{drop_of_length-le}
use Rattle.std.specs.Bool.{IsTrue}
use Rattle.std.specs.List.{concat, find, sum_by, All}
use Rattle.std.proofs.lemmas.Bool.{cases_lt}
use Rattle.std.proofs.lemmas.List.{get_or_past, get_or-replicate, length-replicate}
use Rattle.std.proofs.lemmas.List.Elements.{All-head, All-tail, All-nil, All-cons, All-map, All-weaker}
use Rattle.std.proofs.lemmas.List.Sums.{sum_by-cons, sum_by-set, sum_by_more, get_or-le-sum_by}
use Rattle.mro_c3.specs.Merge.{occurrences, head, heads, tails, without_head, next_of, Merges}
use Rattle.mro_c3.specs.Table.{AllNumbersBelow, CountsMore, CountsTails, IsCounted, Recounts, IsMergedSoFar, IsMergedBehind, next_among}
use Rattle.mro_c3.proofs.Occurrences.{occurrences-nil, occurrences-cons, occurrences-append, heads-nil, heads-cons_nil, heads-cons_cons, tails-cons, find-Some, same_or_other, occurrences-other, occurrences-used_up}
use Rattle.mro_c3.proofs.MergeLaws.{next_of-used_up}

-- The tables.

-- of no lists all counts are 0
pub CountsTails-zeros : (size : ℕ) (in_tails : List ℕ) → in_tails ≡ replicate size 0 → CountsTails [] in_tails
unfolding tails
CountsTails-zeros size in_tails is = record {
  at = λ n.
      elim (cases_lt n size) [
        | inl below ↦ ap (λ xs. get_or xs n 0) is ∙ get_or-replicate size n 0 0 below ∙ sym (occurrences-nil n)
        | inr past ↦ ap (λ xs. get_or xs n 0) is ∙ get_or_past (replicate size 0) n 0 (omega (arith, past, length-replicate {A = ℕ} size 0)) ∙ sym (occurrences-nil n)
      ];
}

occurrences-tails : (lists : List (List ℕ)) (n : ℕ) → occurrences (tails lists) n ≡ sum_by (λ list. occurrences (drop 1 list) n) lists
unfolding tails
occurrences-tails [] n = occurrences-nil n
occurrences-tails (list ∷ lists) n = omega (arith, occurrences-append (drop 1 list) (tails lists) n, occurrences-tails lists n, sum_by-cons (λ l. occurrences (drop 1 l) n) list lists)

occurrences-tails_more : (lists : List (List ℕ)) (i : ℕ) (list : List ℕ) (n : ℕ) → i < length lists → list ≡ get_or lists i list → occurrences (tails (take (i + 1) lists)) n ≡ occurrences (tails (take i lists)) n + occurrences (drop 1 list) n
occurrences-tails_more lists i list n below is =
    let at : occurrences (drop 1 (get_or lists i list)) n ≡ occurrences (drop 1 list) n = ap (λ l. occurrences (drop 1 l) n) (sym is) in
    omega (
      arith,
      at,
      occurrences-tails (take (i + 1) lists) n,
      occurrences-tails (take i lists) n,
      sum_by_more (λ l. occurrences (drop 1 l) n) lists i list below,
    )

pub CountsTails-more : (lists : List (List ℕ)) (i : ℕ) (list earlier later : List ℕ) → i < length lists → list ≡ get_or lists i list → CountsTails (take i lists) earlier → CountsMore (drop 1 list) earlier later → CountsTails (take (i + 1) lists) later
CountsTails-more lists i list earlier later below is counted more = record { at = λ n. omega (arith, counted.at n, more.at n, occurrences-tails_more lists i list n below is) }

pub IsCounted-at : (lists : List (List ℕ)) (i : ℕ) (in_tails d : List ℕ) → i < length lists → CountsTails lists in_tails → IsCounted (drop 1 (get_or lists i d)) in_tails
IsCounted-at lists i in_tails d below counted = record {
  at = λ n. omega (arith, counted.at n, occurrences-tails lists n, get_or-le-sum_by (λ list. occurrences (drop 1 list) n) lists i d below);
}

pub CountsTails-set : (lists : List (List ℕ)) (i : ℕ) (d list earlier later : List ℕ) → i < length lists → CountsTails lists earlier → Recounts (drop 1 (get_or lists i d)) (drop 1 list) earlier later → CountsTails (set lists i list) later
CountsTails-set lists i d list earlier later below counted recounts = record {
  at = λ n.
      omega (
        arith,
        counted.at n,
        recounts.at n,
        occurrences-tails lists n,
        occurrences-tails (set lists i list) n,
        sum_by-set (λ l. occurrences (drop 1 l) n) lists i list d below,
      );
}

-- The next number.

pub next_among-all : (lists : List (List ℕ)) → next_of lists ≡ next_among lists lists
unfolding next_of next_among
next_among-all lists = refl

pub next_among-end : (all lists : List (List ℕ)) (i : ℕ) → length lists ≤ i → next_among all (drop i lists) ≡ None
unfolding next_among
next_among-end all lists i past = rw (drop_of_length-le lists past) (rw heads-nil refl)

pub drop-at : (lists : List (List ℕ)) (i : ℕ) (list : List ℕ) → i < length lists → list ≡ get_or lists i list → drop i lists ≡ list ∷ drop (i + 1) lists
drop-at lists i list below is = rw add-one (drop-cons lists i list below ∙ ap (λ l. l ∷ drop (suc i) lists) (sym is))

heads-cons_empty : (lists : List (List ℕ)) (list : List ℕ) → head list ≡ None → heads (list ∷ lists) ≡ heads lists
heads-cons_empty lists [] empty = heads-cons_nil lists
heads-cons_empty lists (n ∷ ns) empty = let h : ◌≡◌ {A = Option ℕ} (Some n) None = empty in absurd (cc)

heads-cons_headed : (lists : List (List ℕ)) (list : List ℕ) (n : ℕ) → head list ≡ Some n → heads (list ∷ lists) ≡ n ∷ heads lists
heads-cons_headed lists [] n headed = let h : ◌≡◌ {A = Option ℕ} None (Some n) = headed in absurd (cc)
heads-cons_headed lists (m ∷ ms) n headed =
    let h : ◌≡◌ {A = Option ℕ} (Some m) (Some n) = headed in
    let same : m ≡ n = cc in
    heads-cons_cons m ms lists ∙ ap (λ x. x ∷ heads lists) same

next_among-cons_nil : (all lists : List (List ℕ)) (list : List ℕ) → head list ≡ None → next_among all (list ∷ lists) ≡ next_among all lists
unfolding next_among
next_among-cons_nil all lists [] empty = rw heads-cons_nil refl
next_among-cons_nil all lists (n ∷ ns) empty = let h : ◌≡◌ {A = Option ℕ} (Some n) None = empty in absurd (cc)

next_among-cons : (all lists : List (List ℕ)) (list : List ℕ) (n : ℕ) → head list ≡ Some n → next_among all (list ∷ lists) ≡ cond (occurrences (tails all) n == 0) (Some n) (next_among all lists)
unfolding next_among
next_among-cons all lists [] n headed = let h : ◌≡◌ {A = Option ℕ} None (Some n) = headed in absurd (cc)
next_among-cons all lists (m ∷ ms) n headed =
    let h : ◌≡◌ {A = Option ℕ} (Some m) (Some n) = headed in
    let same : m ≡ n = cc in
    rw heads-cons_cons (ap (λ x. cond (occurrences (tails all) x == 0) (Some x) (find (λ y. occurrences (tails all) y == 0) (heads lists))) same)

-- past an empty list, past a list whose head stands in a tail, and at one whose head is free
pub next_among-empty : (all lists : List (List ℕ)) (i : ℕ) (list : List ℕ) → i < length lists → list ≡ get_or lists i list → head list ≡ None → next_among all (drop i lists) ≡ next_among all (drop (i + 1) lists)
next_among-empty all lists i list below is empty = rw (drop-at lists i list below is) (next_among-cons_nil all (drop (i + 1) lists) list empty)

pub next_among-blocked : (all lists : List (List ℕ)) (i : ℕ) (list in_tails : List ℕ) (n : ℕ) → i < length lists → list ≡ get_or lists i list → head list ≡ Some n → CountsTails all in_tails → get_or in_tails n 0 ≢ 0 → next_among all (drop i lists) ≡ next_among all (drop (i + 1) lists)
next_among-blocked all lists i list in_tails n below is headed counted blocked =
    let fails : (occurrences (tails all) n == 0) ≡ false = grind (arith, counted.at n, blocked) in
    rw (drop-at lists i list below is)
    (next_among-cons all (drop (i + 1) lists) list n headed ∙ ap (λ b. cond b (Some n) (next_among all (drop (i + 1) lists))) fails)

pub next_among-free : (all lists : List (List ℕ)) (i : ℕ) (list in_tails : List ℕ) (n : ℕ) → i < length lists → list ≡ get_or lists i list → head list ≡ Some n → CountsTails all in_tails → get_or in_tails n 0 ≡ 0 → next_among all (drop i lists) ≡ Some n
next_among-free all lists i list in_tails n below is headed counted free =
    let passes : (occurrences (tails all) n == 0) ≡ true = grind (arith, counted.at n, free) in
    rw (drop-at lists i list below is)
    (next_among-cons all (drop (i + 1) lists) list n headed ∙ ap (λ b. cond b (Some n) (next_among all (drop (i + 1) lists))) passes)

pub heads-empty : (lists : List (List ℕ)) (i : ℕ) (list : List ℕ) → i < length lists → list ≡ get_or lists i list → head list ≡ None → heads (drop i lists) ≡ heads (drop (i + 1) lists)
heads-empty lists i list below is empty = rw (drop-at lists i list below is) (heads-cons_empty (drop (i + 1) lists) list empty)

pub heads-headed : (lists : List (List ℕ)) (i : ℕ) (list : List ℕ) (n : ℕ) → i < length lists → list ≡ get_or lists i list → head list ≡ Some n → heads (drop i lists) ≡ n ∷ heads (drop (i + 1) lists)
heads-headed lists i list n below is headed = rw (drop-at lists i list below is) (heads-cons_headed (drop (i + 1) lists) list n headed)

pub not_used_up : (lists : List (List ℕ)) (n : ℕ) (ns : List ℕ) → heads lists ≡ n ∷ ns → IsTrue false ↔ (heads lists ≡ [])
not_used_up lists n ns headed = (λ h. let e : false ≡ true = h in absurd (cc), λ empty. absurd (cc))

pub heads-end : (lists : List (List ℕ)) (i : ℕ) → length lists ≤ i → heads (drop i lists) ≡ []
heads-end lists i past = rw (drop_of_length-le lists past) heads-nil

-- The bound on the numbers.

first_below : (bound : ℕ) (list : List ℕ) (n : ℕ) → All (λ m. m < bound) list → head list ≡ Some n → n < bound
first_below bound [] n below headed = let h : ◌≡◌ {A = Option ℕ} None (Some n) = headed in absurd (cc)
first_below bound (m ∷ ms) n below headed =
    let h : ◌≡◌ {A = Option ℕ} (Some m) (Some n) = headed in
    let same : m ≡ n = cc in
    subst (λ x. x < bound) same (All-head (λ x. x < bound) m ms below)

pub head-below : (bound : ℕ) (lists : List (List ℕ)) (i : ℕ) (list : List ℕ) (n : ℕ) → AllNumbersBelow bound lists → i < length lists → list ≡ get_or lists i list → head list ≡ Some n → n < bound
head-below bound lists i list n below at is headed = first_below bound list n (subst (λ l. All (λ m. m < bound) l) (sym is) (below i list at)) headed

heads-below : (bound : ℕ) (lists : List (List ℕ)) (n : ℕ) → AllNumbersBelow bound lists → 1 ≤ occurrences (heads lists) n → n < bound
heads-below bound [] n below there = absurd (omega (arith, occurrences-nil n, ap (λ l. occurrences l n) heads-nil))
heads-below bound ([] ∷ lists) n below there =
    heads-below bound lists n (All-tail (λ l. All (λ m. m < bound) l) [] lists below) (omega (arith, there, ap (λ l. occurrences l n) (heads-cons_nil lists)))
heads-below bound ((m ∷ ms) ∷ lists) n below there =
    elim (same_or_other m n) [
      | inl same ↦ subst (λ x. x < bound) same (All-head (λ x. x < bound) m ms (All-head (λ l. All (λ x. x < bound) l) (m ∷ ms) lists below))
      | inr differs ↦
          heads-below bound lists n (All-tail (λ l. All (λ x. x < bound) l) (m ∷ ms) lists below)
          (omega (arith, there, ap (λ l. occurrences l n) (heads-cons_cons m ms lists), occurrences-other m (heads lists) n differs))
    ]

pub next_of-below : (bound : ℕ) (lists : List (List ℕ)) (n : ℕ) → AllNumbersBelow bound lists → next_of lists ≡ Some n → n < bound
unfolding next_of
next_of-below bound lists n below next = heads-below bound lists n below (find-Some (λ m. occurrences (tails lists) m == 0) (heads lists) n next).1

left_below : (bound n : ℕ) (list : List ℕ) → All (λ m. m < bound) list → All (λ m. m < bound) (without_head n list)
left_below bound n [] below = below
left_below bound n (m ∷ ms) below =
    elim (m == n) as (λ b. All (λ x. x < bound) (cond b ms (m ∷ ms))) [ true ↦ All-tail (λ x. x < bound) m ms below | false ↦ below ]

pub AllNumbersBelow-left : (bound n : ℕ) (lists : List (List ℕ)) → AllNumbersBelow bound lists → AllNumbersBelow bound (map (without_head n) lists)
AllNumbersBelow-left bound n lists below =
    All-map (λ l. All (λ m. m < bound) l) (without_head n) lists
    (All-weaker (λ l. All (λ m. m < bound) l) (λ l. All (λ m. m < bound) (without_head n l)) (λ l. left_below bound n l) lists below)

-- a merge has numbers of the lists alone
pub Merges-below : (bound : ℕ) (lists : List (List ℕ)) (merged : List ℕ) → AllNumbersBelow bound lists → Merges lists merged → All (λ n. n < bound) merged
unfolding Merges
Merges-below bound lists [] below merges = All-nil (λ n. n < bound)
Merges-below bound lists (n ∷ ns) below merges =
    All-cons (λ m. m < bound) n ns (next_of-below bound lists n below merges.0)
    (Merges-below bound (map (without_head n) lists) ns (AllNumbersBelow-left bound n lists below) merges.1)

-- What is left grows shorter.

left_shorter : (n : ℕ) (list : List ℕ) → length (without_head n list) ≤ length list
left_shorter n [] = omega arith
left_shorter n (m ∷ ms) = elim (m == n) as (λ b. length (cond b ms (m ∷ ms)) ≤ suc (length ms)) [ true ↦ omega arith | false ↦ omega arith ]

all_shorter : (n : ℕ) (lists : List (List ℕ)) → sum_by length (map (without_head n) lists) ≤ sum_by length lists
all_shorter n [] = omega arith
all_shorter n (list ∷ lists) =
    omega (arith, left_shorter n list, all_shorter n lists, sum_by-cons length list lists, sum_by-cons length (without_head n list) (map (without_head n) lists))

head_shorter : (m n : ℕ) (ms : List ℕ) → m ≡ n → length (without_head n (m ∷ ms)) < length (m ∷ ms)
head_shorter m n ms same = let is : (m == n) ≡ true = grind (arith, same) in rw is (omega arith)

heads_shorter : (n : ℕ) (lists : List (List ℕ)) → 1 ≤ occurrences (heads lists) n → sum_by length (map (without_head n) lists) < sum_by length lists
heads_shorter n [] there = absurd (omega (arith, occurrences-nil n, ap (λ l. occurrences l n) heads-nil))
heads_shorter n ([] ∷ lists) there =
    omega (
      arith,
      heads_shorter n lists (omega (arith, there, ap (λ l. occurrences l n) (heads-cons_nil lists))),
      sum_by-cons length [] lists,
      sum_by-cons length [] (map (without_head n) lists),
    )
heads_shorter n ((m ∷ ms) ∷ lists) there =
    elim (same_or_other m n) [
      | inl same ↦
          let here : length (without_head n (m ∷ ms)) < length (m ∷ ms) = head_shorter m n ms same in
          omega (arith, here, all_shorter n lists, sum_by-cons length (m ∷ ms) lists, sum_by-cons length (without_head n (m ∷ ms)) (map (without_head n) lists))
      | inr differs ↦
          omega (
            arith,
            left_shorter n (m ∷ ms),
            heads_shorter n lists (omega (arith, there, ap (λ l. occurrences l n) (heads-cons_cons m ms lists), occurrences-other m (heads lists) n differs)),
            sum_by-cons length (m ∷ ms) lists,
            sum_by-cons length (without_head n (m ∷ ms)) (map (without_head n) lists),
          )
    ]

pub next_of-shorter : (lists : List (List ℕ)) (n : ℕ) → next_of lists ≡ Some n → sum_by length (map (without_head n) lists) < sum_by length lists
unfolding next_of
next_of-shorter lists n next = heads_shorter n lists (find-Some (λ m. occurrences (tails lists) m == 0) (heads lists) n next).1

-- How the merge goes on.

pub IsMergedSoFar-none : (lists : List (List ℕ)) (before : List ℕ) → IsMergedSoFar lists before lists before
IsMergedSoFar-none lists before = record {
  merged = [];
  behind = sym (append-nil before);
  goes_on = λ rest merges. merges;
  began = λ all merges. (all, refl, merges);
}

step_merges : (lists : List (List ℕ)) (n : ℕ) (ns : List ℕ) → next_of lists ≡ Some n → Merges (map (without_head n) lists) ns → Merges lists (n ∷ ns)
unfolding Merges
step_merges lists n ns next merges = (next, merges)

first_step : (lists : List (List ℕ)) (n : ℕ) (all : List ℕ) → next_of lists ≡ Some n → Merges lists all → (rest : List ℕ) × (all ≡ n ∷ rest) × Merges (map (without_head n) lists) rest
unfolding Merges
first_step lists n [] next merges = absurd (next_of-used_up lists n merges next)
first_step lists n (m ∷ ms) next merges =
    let is_m : next_of lists ≡ Some m = merges.0 in
    let same : m ≡ n = cc in
    (ms, ap (λ x. x ∷ ms) same, subst (λ x. Merges (map (without_head x) lists) ms) same merges.1)

no_step : (lists : List (List ℕ)) (all : List ℕ) → next_of lists ≡ None → (heads lists ≡ [] → ⊥) → Merges lists all → ⊥
unfolding Merges
no_step lists [] none left merges = left merges
no_step lists (m ∷ ms) none left merges = let is_m : next_of lists ≡ Some m = merges.0 in cc

used_up_merges : (lists : List (List ℕ)) → heads lists ≡ [] → Merges lists []
unfolding Merges
used_up_merges lists used_up = used_up

pub IsMergedSoFar-more : (lists : List (List ℕ)) (before : List ℕ) (left : List (List ℕ)) (now : List ℕ) (n : ℕ) → next_of left ≡ Some n → IsMergedSoFar lists before left now → IsMergedSoFar lists before (map (without_head n) left) (now ++ n ∷ [])
IsMergedSoFar-more lists before left now n next so_far = record {
  merged = so_far.merged ++ n ∷ [];
  behind = ap (λ xs. xs ++ n ∷ []) so_far.behind ∙ append_assoc before so_far.merged (n ∷ []);
  goes_on = λ rest merges. rw (append_assoc so_far.merged (n ∷ []) rest) (so_far.goes_on (n ∷ rest) (step_merges left n rest next merges));
  began = λ all merges.
      let before_now : (rest : List ℕ) × (all ≡ so_far.merged ++ rest) × Merges left rest = so_far.began all merges in
      let step : (rest : List ℕ) × (before_now.0 ≡ n ∷ rest) × Merges (map (without_head n) left) rest = first_step left n before_now.0 next before_now.2 in
      (step.0, before_now.1 ∙ ap (λ xs. so_far.merged ++ xs) step.1 ∙ sym (append_assoc so_far.merged (n ∷ []) step.0), step.2);
}

pub IsMergedBehind-used_up : (lists : List (List ℕ)) (before : List ℕ) (left : List (List ℕ)) (now : List ℕ) → heads left ≡ [] → IsMergedSoFar lists before left now → IsMergedBehind lists before now
IsMergedBehind-used_up lists before left now used_up so_far = record {
  merged = so_far.merged;
  behind = so_far.behind;
  merges = subst (λ xs. Merges lists xs) (append-nil so_far.merged) (so_far.goes_on [] (used_up_merges left used_up));
}

pub no_merge : (lists : List (List ℕ)) (before : List ℕ) (left : List (List ℕ)) (now : List ℕ) → next_of left ≡ None → (heads left ≡ [] → ⊥) → IsMergedSoFar lists before left now → (merged : List ℕ) → Merges lists merged → ⊥
no_merge lists before left now none some so_far merged merges =
    let rest : (rest : List ℕ) × (merged ≡ so_far.merged ++ rest) × Merges left rest = so_far.began merged merges in
    no_step left rest.0 none some rest.2

tails_in_lists : (lists : List (List ℕ)) (n : ℕ) → occurrences (tails lists) n ≤ occurrences (concat lists) n
tails_in_lists [] n = omega (arith, occurrences-tails [] n)
tails_in_lists ([] ∷ lists) n = rw tails-cons (tails_in_lists lists n)
tails_in_lists ((m ∷ ms) ∷ lists) n =
    rw tails-cons (omega (arith, occurrences-append ms (tails lists) n, occurrences-append (m ∷ ms) (concat lists) n, occurrences-cons m ms n, tails_in_lists lists n))

pub CountsTails-used_up : (lists : List (List ℕ)) (in_tails : List ℕ) → heads lists ≡ [] → CountsTails lists in_tails → CountsTails [] in_tails
CountsTails-used_up lists in_tails used_up counted = record {
  at = λ n. omega (arith, counted.at n, tails_in_lists lists n, occurrences-used_up lists n used_up, occurrences-tails [] n);
}

pub merged_step : (lists : List (List ℕ)) (before : List ℕ) (left : List (List ℕ)) (now : List ℕ) (n : ℕ) (left_after : List (List ℕ)) (after : List ℕ) → next_of left ≡ Some n → left_after ≡ map (without_head n) left → after ≡ now ++ n ∷ [] → IsMergedSoFar lists before left now → IsMergedSoFar lists before left_after after
merged_step lists before left now n left_after after next taken pushed so_far =
    subst (λ ls. IsMergedSoFar lists before ls after) (sym taken)
    (subst (λ xs. IsMergedSoFar lists before (map (without_head n) left) xs) (sym pushed) (IsMergedSoFar-more lists before left now n next so_far))

pub left_step : (bound later n : ℕ) (left left_after : List (List ℕ)) → later ≡ bound → left_after ≡ map (without_head n) left → AllNumbersBelow bound left → AllNumbersBelow later left_after
left_step bound later n left left_after same taken below =
    subst (λ b. AllNumbersBelow b left_after) (sym same) (subst (λ ls. AllNumbersBelow bound ls) (sym taken) (AllNumbersBelow-left bound n left below))

-- The lists once a number was taken from the first of them.

set_taken : (f : List ℕ → List ℕ) (initial : List (List ℕ)) (i : ℕ) (d : List ℕ) → i < length initial → set (map f (take i initial) ++ drop i initial) i (f (get_or (map f (take i initial) ++ drop i initial) i d)) ≡ map f (take (suc i) initial) ++ drop (suc i) initial
set_taken f [] i d below = absurd (omega (arith, below))
set_taken f (x ∷ xs) zero d below = refl
set_taken f (x ∷ xs) (suc i) d below = ap (λ ls. f x ∷ ls) (set_taken f xs i d (omega (arith, below)))

pub taken_set : (f : List ℕ → List ℕ) (initial : List (List ℕ)) (i : ℕ) (now : List (List ℕ)) (d list : List ℕ) → i < length initial → now ≡ map f (take i initial) ++ drop i initial → list ≡ f (get_or now i d) → set now i list ≡ map f (take (i + 1) initial) ++ drop (i + 1) initial
taken_set f initial i now d list below is taken = rw add-one
    (ap (λ l. set now i l) taken
    ∙ subst (λ ls. set ls i (f (get_or ls i d)) ≡ map f (take (suc i) initial) ++ drop (suc i) initial) (sym is) (set_taken f initial i d below))
