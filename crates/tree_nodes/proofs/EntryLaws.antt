-- The nodes of a tree in preorder: a kid comes behind its parent, siblings ascend, and each node but the root has one
-- parent.
use Rattle.std.proofs.Common.{◌≡◌, ℕ, zero, suc, ◌+◌, ◌-◌, ◌<◌, ◌≤◌, List, [], ◌∷◌, ◌++◌, length, get_or, refl, sym, ap, subst, ◌∙◌, arith, length-append, Option, Some, None, ◌⊎◌, inl, inr, ⊎_elim}
use Rattle.std.specs.Prelude.{All, Contains}
use Rattle.std.specs.List.Sorted.{IsStrictlyIncreasing}
use Rattle.std.proofs.lemmas.List.{append-nil}
use Rattle.tree_nodes.specs.Kept.{parent_in}
use Rattle.tree_nodes.specs.Trees.{Node, Trees, none, tree, Tree, size, count_of, numbers, Entry, entry_of, entries_from, entries, entry_at, kids_at, parent_at}

-- ---- how many

pub length-entries_from : (ts : Trees) (n : ℕ) (p : Option ℕ) → length (entries_from n p ts) ≡ size ts
length-entries_from none n p = refl
length-entries_from (tree node kids rest) n p =
    let below = entries_from (n + 1) (Some n) kids in
    let behind = entries_from (n + (1 + size kids)) p rest in
    omega (arith, length-append below behind, length-entries_from kids (n + 1) (Some n), length-entries_from rest (n + (1 + size kids)) p)

pub length-entries : (t : Tree) → length (entries t) ≡ count_of t
unfolding entries
length-entries t = omega (arith, length-entries_from t.kids (0 + 1) (Some 0))

-- ---- numbers in a list, and entries at numbers

-- j is one of these
abbrev IsIn : ℕ → List ℕ → Type 0
IsIn j [] = ⊥
IsIn j (x ∷ xs) = (j ≡ x) ⊎ IsIn j xs

-- the entry of number k, where the first one's number is n
abbrev pub IsAt : ℕ → List Entry → ℕ → Entry → Type 0
IsAt n [] k e = ⊥
IsAt n (x ∷ xs) k e = ((k ≡ n) × (x ≡ e)) ⊎ IsAt (n + 1) xs k e

at-left : (n : ℕ) (xs ys : List Entry) (k : ℕ) (e : Entry) → IsAt n xs k e → IsAt n (xs ++ ys) k e
at-left n [] ys k e h = absurd h
at-left n (x ∷ xs) ys k e h = ⊎_elim (λ here. inl here) (λ later. inr (at-left (n + 1) xs ys k e later)) h

at-right : (n m : ℕ) (xs ys : List Entry) (k : ℕ) (e : Entry) → m ≡ n + length xs → IsAt m ys k e → IsAt n (xs ++ ys) k e
at-right n m [] ys k e same h = let here : m ≡ n = omega arith in subst (λ (b : ℕ). IsAt b ys k e) here h
at-right n m (x ∷ xs) ys k e same h = inr (at-right (n + 1) m xs ys k e (omega arith) h)

at-split : (n m : ℕ) (xs ys : List Entry) (k : ℕ) (e : Entry) → m ≡ n + length xs → IsAt n (xs ++ ys) k e → IsAt n xs k e ⊎ IsAt m ys k e
at-split n m [] ys k e same h = let here : n ≡ m = omega arith in inr (subst (λ (b : ℕ). IsAt b ys k e) here h)
at-split n m (x ∷ xs) ys k e same h =
    ⊎_elim (λ here. inl (inl here)) (λ later. ⊎_elim (λ left. inl (inr left)) (λ right. inr right) (at-split (n + 1) m xs ys k e (omega arith) later)) h

at-least : (n : ℕ) (xs : List Entry) (k : ℕ) (e : Entry) → IsAt n xs k e → n ≤ k
at-least n [] k e h = absurd h
at-least n (x ∷ xs) k e h = ⊎_elim (λ here. omega (arith, here.0)) (λ later. omega (arith, at-least (n + 1) xs k e later)) h

at-of_get : (n : ℕ) (xs : List Entry) (i k : ℕ) (d : Entry) → k ≡ n + i → i < length xs → IsAt n xs k (get_or xs i d)
at-of_get n [] i k d same l = absurd (omega arith)
at-of_get n (x ∷ xs) zero k d same l = inl (omega arith, refl)
at-of_get n (x ∷ xs) (suc i) k d same l = inr (at-of_get (n + 1) xs i k d (omega arith) (omega arith))

get-of_at : (n : ℕ) (xs : List Entry) (i k : ℕ) (e d : Entry) → k ≡ n + i → IsAt n xs k e → get_or xs i d ≡ e
get-of_at n [] i k e d same h = absurd h
get-of_at n (x ∷ xs) zero k e d same h = ⊎_elim (λ here. here.1) (λ later. absurd (omega (arith, at-least (n + 1) xs k e later))) h
get-of_at n (x ∷ xs) (suc i) k e d same h = ⊎_elim (λ here. absurd (omega (arith, here.0))) (λ later. get-of_at (n + 1) xs i k e d (omega arith) later) h

in-of_get : (xs : List ℕ) (i d : ℕ) → i < length xs → IsIn (get_or xs i d) xs
in-of_get [] i d l = absurd (omega arith)
in-of_get (x ∷ xs) zero d l = inl refl
in-of_get (x ∷ xs) (suc i) d l = inr (in-of_get xs i d (omega arith))

contains-of_in : (j : ℕ) (xs : List ℕ) → IsIn j xs → Contains xs j
contains-of_in j [] h = absurd h
contains-of_in j (x ∷ xs) h = ⊎_elim (λ here. (0, omega arith, sym here)) (λ later. let there = contains-of_in j xs later in (suc there.0, omega (arith, there.1), there.2)) h

-- ---- entries below a node, and behind it

pub at-kids : (node : Node) (kids rest : Trees) (n : ℕ) (p : Option ℕ) (k : ℕ) (e : Entry) → IsAt (n + 1) (entries_from (n + 1) (Some n) kids) k e → IsAt n (entries_from n p (tree node kids rest)) k e
at-kids node kids rest n p k e h = inr (at-left (n + 1) (entries_from (n + 1) (Some n) kids) (entries_from (n + (1 + size kids)) p rest) k e h)

pub at-rest : (node : Node) (kids rest : Trees) (n : ℕ) (p : Option ℕ) (k : ℕ) (e : Entry) → IsAt (n + (1 + size kids)) (entries_from (n + (1 + size kids)) p rest) k e → IsAt n (entries_from n p (tree node kids rest)) k e
at-rest node kids rest n p k e h = inr (at-right (n + 1) (n + (1 + size kids)) (entries_from (n + 1) (Some n) kids) (entries_from (n + (1 + size kids)) p rest) k e (omega (arith, length-entries_from kids (n + 1) (Some n))) h)

-- the node itself, one below it, or one behind it
pub at-cases : {C : Type 0} (node : Node) (kids rest : Trees) (n : ℕ) (p : Option ℕ) (k : ℕ) (e : Entry) → ((k ≡ n) × (entry_of n p node kids ≡ e) → C) → (IsAt (n + 1) (entries_from (n + 1) (Some n) kids) k e → C)
    → (IsAt (n + (1 + size kids)) (entries_from (n + (1 + size kids)) p rest) k e → C) → IsAt n (entries_from n p (tree node kids rest)) k e → C
at-cases node kids rest n p k e here below behind h =
    ⊎_elim here (λ later. ⊎_elim below behind (at-split (n + 1) (n + (1 + size kids)) (entries_from (n + 1) (Some n) kids) (entries_from (n + (1 + size kids)) p rest) k e (omega (arith, length-entries_from kids (n + 1) (Some n))) later)) h

-- ---- the topmost nodes

-- a topmost node stands among the entries, below the parent
record Top (n : ℕ) (p : Option ℕ) (ts : Trees) (j : ℕ) : Type 0 where
  entry : Entry
  at_least : n ≤ j
  below : j < n + size ts
  is_at : IsAt n (entries_from n p ts) j entry
  parent : entry.parent ≡ p

top-first : (node : Node) (kids rest : Trees) (n : ℕ) (p : Option ℕ) (j : ℕ) → j ≡ n → Top n p (tree node kids rest) j
top-first node kids rest n p j e = record { entry = entry_of n p node kids; at_least = omega arith; below = omega arith; is_at = inl (e, refl); parent = refl }

top-later : (node : Node) (kids rest : Trees) (n : ℕ) (p : Option ℕ) (j : ℕ) → Top (n + (1 + size kids)) p rest j → Top n p (tree node kids rest) j
top-later node kids rest n p j t =
    let a = t.at_least in
    let b = t.below in
    record { entry = t.entry; at_least = omega arith; below = omega arith; is_at = at-rest node kids rest n p j t.entry t.is_at; parent = t.parent }

top : (ts : Trees) (n : ℕ) (p : Option ℕ) (j : ℕ) → IsIn j (numbers n ts) → Top n p ts j
top none n p j h = absurd h
top (tree node kids rest) n p j h = ⊎_elim (λ e. top-first node kids rest n p j e) (λ later. top-later node kids rest n p j (top rest (n + (1 + size kids)) p j later)) h

-- ---- kids

-- a kid of the node k stands behind it, and has it as its parent
record Kid (n : ℕ) (p : Option ℕ) (ts : Trees) (k j : ℕ) : Type 0 where
  entry : Entry
  behind : k < j
  below : j < n + size ts
  is_at : IsAt n (entries_from n p ts) j entry
  parent : entry.parent ≡ Some k

kid-first : (node : Node) (kids rest : Trees) (n : ℕ) (p : Option ℕ) (k : ℕ) (e : Entry) (j : ℕ) → (k ≡ n) × (entry_of n p node kids ≡ e) → IsIn j e.kids → Kid n p (tree node kids rest) k j
kid-first node kids rest n p k e j here i =
    let t = top kids (n + 1) (Some n) j (subst (λ (x : Entry). IsIn j x.kids) (sym here.1) i) in
    let a = t.at_least in
    let b = t.below in
    record { entry = t.entry; behind = omega (arith, here.0); below = omega arith; is_at = at-kids node kids rest n p j t.entry t.is_at; parent = t.parent ∙ ap (λ (m : ℕ). Some m) (sym here.0) }

kid-below : (node : Node) (kids rest : Trees) (n : ℕ) (p : Option ℕ) (k j : ℕ) → Kid (n + 1) (Some n) kids k j → Kid n p (tree node kids rest) k j
kid-below node kids rest n p k j t = let b = t.below in record { entry = t.entry; behind = t.behind; below = omega arith; is_at = at-kids node kids rest n p j t.entry t.is_at; parent = t.parent }

kid-behind : (node : Node) (kids rest : Trees) (n : ℕ) (p : Option ℕ) (k j : ℕ) → Kid (n + (1 + size kids)) p rest k j → Kid n p (tree node kids rest) k j
kid-behind node kids rest n p k j t = let b = t.below in record { entry = t.entry; behind = t.behind; below = omega arith; is_at = at-rest node kids rest n p j t.entry t.is_at; parent = t.parent }

kid : (ts : Trees) (n : ℕ) (p : Option ℕ) (k : ℕ) (e : Entry) (j : ℕ) → IsAt n (entries_from n p ts) k e → IsIn j e.kids → Kid n p ts k j
kid none n p k e j h i = absurd h
kid (tree node kids rest) n p k e j h i =
    at-cases node kids rest n p k e (λ here. kid-first node kids rest n p k e j here i) (λ there. kid-below node kids rest n p k j (kid kids (n + 1) (Some n) k e j there i))
    (λ there. kid-behind node kids rest n p k j (kid rest (n + (1 + size kids)) p k e j there i)) h

-- ---- parents

-- the node k has a parent among the entries
record Below (n : ℕ) (p : Option ℕ) (ts : Trees) (k : ℕ) (e : Entry) : Type 0 where
  number : ℕ
  entry : Entry
  before : number < k
  is_at : IsAt n (entries_from n p ts) number entry
  parent : e.parent ≡ Some number
  is_kid : IsIn k entry.kids

-- a topmost node below the parent, or one with a parent among the entries
abbrev IsPlaced : ℕ → Option ℕ → Trees → ℕ → Entry → Type 0
IsPlaced n p ts k e = (IsIn k (numbers n ts) × (e.parent ≡ p)) ⊎ Below n p ts k e

placed-below : (node : Node) (kids rest : Trees) (n : ℕ) (p : Option ℕ) (k : ℕ) (e : Entry) → n < k → IsPlaced (n + 1) (Some n) kids k e → IsPlaced n p (tree node kids rest) k e
placed-below node kids rest n p k e low h =
    ⊎_elim (λ root. inr (record { number = n; entry = entry_of n p node kids; before = low; is_at = inl (refl, refl); parent = root.1; is_kid = root.0 }))
    (λ b. inr (record { number = b.number; entry = b.entry; before = b.before; is_at = at-kids node kids rest n p b.number b.entry b.is_at; parent = b.parent; is_kid = b.is_kid })) h

placed-behind : (node : Node) (kids rest : Trees) (n : ℕ) (p : Option ℕ) (k : ℕ) (e : Entry) → IsPlaced (n + (1 + size kids)) p rest k e → IsPlaced n p (tree node kids rest) k e
placed-behind node kids rest n p k e h =
    ⊎_elim (λ root. inl (inr root.0, root.1))
    (λ b. inr (record { number = b.number; entry = b.entry; before = b.before; is_at = at-rest node kids rest n p b.number b.entry b.is_at; parent = b.parent; is_kid = b.is_kid })) h

placed : (ts : Trees) (n : ℕ) (p : Option ℕ) (k : ℕ) (e : Entry) → IsAt n (entries_from n p ts) k e → IsPlaced n p ts k e
placed none n p k e h = absurd h
placed (tree node kids rest) n p k e h =
    at-cases node kids rest n p k e (λ here. inl (inl here.0, sym (ap (λ (x : Entry). x.parent) here.1)))
    (λ there. placed-below node kids rest n p k e (omega (arith, at-least (n + 1) (entries_from (n + 1) (Some n) kids) k e there)) (placed kids (n + 1) (Some n) k e there))
    (λ there. placed-behind node kids rest n p k e (placed rest (n + (1 + size kids)) p k e there)) h

-- ---- siblings

numbers-rise : (ts : Trees) (n i : ℕ) → i + 1 < length (numbers n ts) → get_or (numbers n ts) i 0 < get_or (numbers n ts) (i + 1) 0
numbers-rise none n i l = absurd (omega arith)
numbers-rise (tree node kids none) n i l = absurd (omega arith)
numbers-rise (tree node kids (tree node' kids' rest)) n zero l = omega arith
numbers-rise (tree node kids (tree node' kids' rest)) n (suc i) l = let e : suc i + 1 ≡ suc (i + 1) = omega arith in rw e (numbers-rise (tree node' kids' rest) (n + (1 + size kids)) i (omega arith))

-- each entry's kids are numbers of trees
kids-are : (ts : Trees) (n : ℕ) (p : Option ℕ) (k : ℕ) (e : Entry) → IsAt n (entries_from n p ts) k e → (us : Trees) × (e.kids ≡ numbers (k + 1) us)
kids-are none n p k e h = absurd h
kids-are (tree node kids rest) n p k e h =
    at-cases node kids rest n p k e (λ here. (kids, sym (ap (λ (x : Entry). x.kids) here.1) ∙ ap (λ (m : ℕ). numbers (m + 1) kids) (sym here.0)))
    (λ there. kids-are kids (n + 1) (Some n) k e there) (λ there. kids-are rest (n + (1 + size kids)) p k e there) h

-- ---- a tree

-- a tree alone
abbrev pub alone : Tree → Trees
alone t = tree t.node t.kids none

entries-alone : (t : Tree) → entries t ≡ entries_from 0 None (alone t)
unfolding entries
entries-alone t = ap (λ (es : List Entry). entry_of 0 None t.node t.kids ∷ es) (sym (append-nil (entries_from (0 + 1) (Some 0) t.kids)))

pub at-entry : (t : Tree) (n : ℕ) → n < count_of t → IsAt 0 (entries_from 0 None (alone t)) n (entry_at t n)
unfolding entry_at
at-entry t n l =
    let d : Entry = record { node = t.node; kids = []; parent = None } in
    let many = length-entries t in
    subst (λ (es : List Entry). IsAt 0 es n (get_or (entries t) n d)) (entries-alone t) (at-of_get 0 (entries t) n n d (omega arith) (omega arith))

pub entry-at : (t : Tree) (n : ℕ) (e : Entry) → IsAt 0 (entries_from 0 None (alone t)) n e → entry_at t n ≡ e
unfolding entry_at
entry-at t n e h =
    let d : Entry = record { node = t.node; kids = []; parent = None } in
    get-of_at 0 (entries t) n n e d (omega arith) (subst (λ (es : List Entry). IsAt 0 es n e) (sym (entries-alone t)) h)

kid-of : (t : Tree) (n j : ℕ) → n < count_of t → IsIn j (kids_at t n) → Kid 0 None (alone t) n j
kid-of t n j l i = kid (alone t) 0 None n (entry_at t n) j (at-entry t n l) i

pub kids-behind : (t : Tree) (n : ℕ) → n < count_of t → All (λ k. n < k) (kids_at t n)
kids-behind t n l i d h = (kid-of t n (get_or (kids_at t n) i d) l (in-of_get (kids_at t n) i d h)).behind

pub kids-made : (t : Tree) (n : ℕ) → n < count_of t → All (λ k. k < count_of t) (kids_at t n)
kids-made t n l i d h = let b = (kid-of t n (get_or (kids_at t n) i d) l (in-of_get (kids_at t n) i d h)).below in omega arith

pub kids-parent : (t : Tree) (n : ℕ) → n < count_of t → All (λ k. parent_at t k ≡ Some n) (kids_at t n)
kids-parent t n l i d h =
    let j = get_or (kids_at t n) i d in
    let k = kid-of t n j l (in-of_get (kids_at t n) i d h) in
    ap (λ (e : Entry). e.parent) (entry-at t j k.entry k.is_at) ∙ k.parent

pub kids-ascend : (t : Tree) (n : ℕ) → n < count_of t → IsStrictlyIncreasing (kids_at t n)
kids-ascend t n l i h =
    let us = kids-are (alone t) 0 None n (entry_at t n) (at-entry t n l) in
    subst (λ (ks : List ℕ). get_or ks i 0 < get_or ks (i + 1) 0) (sym us.1) (numbers-rise us.0 (n + 1) i (subst (λ (ks : List ℕ). i + 1 < length ks) us.1 h))

-- the root has no parent, and every other node is a kid of a node before it
pub parent-cases : (t : Tree) (n : ℕ) → n < count_of t → ((n ≡ 0) × (parent_at t n ≡ None)) ⊎ ((p : ℕ) × (parent_at t n ≡ Some p) × (p < n) × Contains (kids_at t p) n)
parent-cases t n l = ⊎_elim root under (placed (alone t) 0 None n (entry_at t n) (at-entry t n l))
  where
    only : IsIn n (numbers 0 (alone t)) → n ≡ 0
    only h = ⊎_elim (λ e. e) (λ no. absurd no) h

    root : IsIn n (numbers 0 (alone t)) × (parent_at t n ≡ None) → ((n ≡ 0) × (parent_at t n ≡ None)) ⊎ ((p : ℕ) × (parent_at t n ≡ Some p) × (p < n) × Contains (kids_at t p) n)
    root h = inl (only h.0, h.1)

    under : Below 0 None (alone t) n (entry_at t n) → ((n ≡ 0) × (parent_at t n ≡ None)) ⊎ ((p : ℕ) × (parent_at t n ≡ Some p) × (p < n) × Contains (kids_at t p) n)
    under b = inr (b.number, b.parent, b.before, subst (λ (e : Entry). Contains e.kids n) (sym (entry-at t b.number b.entry b.is_at)) (contains-of_in n b.entry.kids b.is_kid))

-- ---- a parent as it is kept: 0 for none, and else one more than its number

pub root-of : (t : Tree) (n above : ℕ) → n < count_of t → parent_in above ≡ parent_at t n → above ≡ 0 → n ≡ 0
root-of t n above l kept none_ = ⊎_elim (λ root. root.0) (λ under. absurd (no under.0 (ap parent_in (sym none_) ∙ kept ∙ under.1))) (parent-cases t n l)
  where
    no : (p : ℕ) → parent_in 0 ≡ Some p → ⊥
    no p e = cc

pub under-of : (t : Tree) (n above : ℕ) → n < count_of t → parent_in above ≡ parent_at t n → (above ≡ 0 → ⊥) → (above - 1 < n) × Contains (kids_at t (above - 1)) n
under-of t n zero l kept some = absurd (some refl)
under-of t n (suc a) l kept some =
    let less : suc a - 1 ≡ a = omega arith in
    let at_a : (a < n) × Contains (kids_at t a) n =
    ⊎_elim (λ root. absurd (no a (kept ∙ root.1))) (λ under. let same = inner a under.0 (kept ∙ under.1) in (omega (arith, under.2, same), subst (λ (p : ℕ). Contains (kids_at t p) n) (sym same) under.3)) (parent-cases t n l) in
    subst (λ (p : ℕ). (p < n) × Contains (kids_at t p) n) (sym less) at_a
  where
    no : (a : ℕ) → parent_in (suc a) ≡ None → ⊥
    no a e = cc

    inner : (a p : ℕ) → parent_in (suc a) ≡ Some p → a ≡ p
    inner a p e = cc
