-- Each read has one answer, whose scope lies around it; and what is asked of a name comes in source order.
use Rattle.std.proofs.Common.{◌≡◌, ℕ, zero, suc, ◌+◌, ◌<◌, Bool, true, false, ◌||◌, cond, eqb, List, [], ◌∷◌, ◌++◌, length, get_or, refl, sym, ap, subst, ◌∙◌, arith, length-append, Option, Some, None, unwrap_or, option_map, is_some}
use Rattle.std.specs.Prelude.{All, Contains}
use Rattle.std.specs.List.{find, list_any}
use Rattle.std.specs.List.Sorted.{IsStrictlyIncreasing}
use Rattle.std.proofs.lemmas.List.Elements.{All-cons, All-head, All-tail, All-nil, Contains-append_right, Contains-get_or}
use Rattle.std.proofs.lemmas.List.Kept.{IsStrictlyIncreasing-filter}
use Rattle.std.proofs.lemmas.List.{get_or_append_left, get_or-append_right}
use Rattle.tree_nodes.specs.declared.kind.Kind.TheVariants as kinds
use Rattle.tree_nodes.specs.Trees.{Tree, count_of}
use Rattle.tree_nodes.specs.Sorts.{is_named}
use Rattle.tree_nodes.specs.Shaped.{IsShaped}
use Rattle.tree_nodes.proofs.ShapeLaws.{shaped-at}
use Rattle.scope_rules.specs.declared.scope.Where.{Where}
use Rattle.scope_rules.specs.declared.scope.Where.TheVariants.{Local, Free, Global, Builtin, Nowhere}
use Rattle.scope_rules.specs.Nodes.{Name, below, nodes_of, kind_of, name_of}
use Rattle.scope_rules.specs.Places.{around, chain_by, chain}
use Rattle.scope_rules.specs.Mangling.{is_read, read_at, spelled}
use Rattle.scope_rules.specs.Marks.{Mark, is_mark, nodes_with}
use Rattle.scope_rules.specs.Declaring.{in_module}
use Rattle.scope_rules.specs.Reading.{is_builtin, ends_at, end_of, at_module, answer_at, led_from, led_by, resolved}
use Rattle.scope_rules.specs.Laws.{EndsIn, Resolves, HasOneAnswer, AreInOrder, LeadsOutwards}

-- ---- the first of a list that passes a test

record Split (p : ℕ → Bool) (xs : List ℕ) (s : ℕ) : Type 0 where
  front : List ℕ
  back : List ℕ
  way : xs ≡ front ++ s ∷ back
  passed : All (λ o. p o ≡ false) front
  ends : p s ≡ true

split-later : (p : ℕ → Bool) (x : ℕ) (xs : List ℕ) (s : ℕ) → p x ≡ false → Split p xs s → Split p (x ∷ xs) s
split-later p x xs s refused h =
    record { front = x ∷ h.front; back = h.back; way = ap (λ (ys : List ℕ). x ∷ ys) h.way; passed = All-cons (λ o. p o ≡ false) x h.front refused h.passed; ends = h.ends }

split-first : (p : ℕ → Bool) (x : ℕ) (xs : List ℕ) → p x ≡ true → Split p (x ∷ xs) x
split-first p x xs passes = record { front = []; back = xs; way = refl; passed = All-nil (λ o. p o ≡ false); ends = passes }

split : (p : ℕ → Bool) (xs : List ℕ) (d : ℕ) → list_any p xs ≡ true → Split p xs (unwrap_or (find p xs) d)
split p [] d some = cc
split p (x ∷ xs) d some = by_test (p x) refl (split p xs d) some
  where
    by_test : (b : Bool) → p x ≡ b → (list_any p xs ≡ true → Split p xs (unwrap_or (find p xs) d)) → (b || list_any p xs) ≡ true → Split p (x ∷ xs) (unwrap_or (cond b (Some x) (find p xs)) d)
    by_test true e later s = split-first p x xs e
    by_test false e later s = split-later p x xs (unwrap_or (find p xs) d) e (later s)

split-find : (p : ℕ → Bool) (front : List ℕ) (s : ℕ) (back : List ℕ) → All (λ o. p o ≡ false) front → p s ≡ true → find p (front ++ s ∷ back) ≡ Some s
split-find p [] s back passed passes = rw passes refl
split-find p (x ∷ xs) s back passed passes = rw (All-head (λ o. p o ≡ false) x xs passed) (split-find p xs s back (All-tail (λ o. p o ≡ false) x xs passed) passes)

split-only : (p : ℕ → Bool) (xs : List ℕ) (s : ℕ) (d : ℕ) → Split p xs s → unwrap_or (find p xs) d ≡ s
split-only p xs s d h = ap (λ (ys : List ℕ). unwrap_or (find p ys) d) h.way ∙ ap (λ (o : Option ℕ). unwrap_or o d) (split-find p h.front s h.back h.passed h.ends)

-- ---- each way outwards ends at the module at last

ends-at-module : (t : Tree) (own : ℕ) (x : Name) (s : ℕ) → s ≡ 0 → ends_at t own x s ≡ true
unfolding ends_at
ends-at-module t own x s e = rw e refl

ends-on : (p : ℕ → Bool) → p 0 ≡ true → (k : ℕ) (t : Tree) (s : ℕ) → list_any p (chain_by k t s) ≡ true
unfolding chain_by
ends-on p passes zero t s = rw passes refl
ends-on p passes (suc k) t s = by_test (eqb s 0) (ends-on p passes k t (around t s))
  where
    or-true : (b : Bool) → (b || true) ≡ true
    or-true true = refl
    or-true false = refl

    by_test : (b : Bool) → list_any p (chain_by k t (around t s)) ≡ true → list_any p (cond b (0 ∷ []) (s ∷ chain_by k t (around t s))) ≡ true
    by_test true later = rw passes refl
    by_test false later = rw later (or-true (p s))

ends-on-chain : (p : ℕ → Bool) → p 0 ≡ true → (t : Tree) (s : ℕ) → list_any p (chain t s) ≡ true
unfolding chain
ends-on-chain p passes t s = ends-on p passes s t s

end-split : (t : Tree) (own : ℕ) (x : Name) → Split (ends_at t own x) (chain t own) (end_of t own x)
unfolding end_of
end-split t own x = split (ends_at t own x) (chain t own) 0 (ends-on-chain (ends_at t own x) (ends-at-module t own x 0 refl) t own)

end-is : (t : Tree) (own : ℕ) (x : Name) → EndsIn t own x (end_of t own x)
end-is t own x = let h = end-split t own x in record { front = h.front; back = h.back; way = h.way; passed = h.passed; ends = h.ends }

end-only : (t : Tree) (own : ℕ) (x : Name) (s : ℕ) → EndsIn t own x s → end_of t own x ≡ s
unfolding end_of
end-only t own x s h =
    split-only (ends_at t own x) (chain t own) s 0 (record { front = h.front; back = h.back; way = h.way; passed = h.passed; ends = h.ends })

-- ---- one answer

resolved-is : (t : Tree) (n : ℕ) (x : Name) → spelled t n ≡ Some x → resolved t n ≡ answer_at t (around t n) x (end_of t (around t n) x)
unfolding resolved led_from
resolved-is t n x e = rw e refl

named-read : is_named kinds.Name ≡ true
unfolding is_named
named-read = refl

read-is : is_read kinds.Name ≡ true
unfolding is_read
read-is = refl

some-name : (t : Tree) → IsShaped t → (n : ℕ) → n < count_of t → kind_of t n ≡ kinds.Name → is_some (name_of t n) ≡ true
some-name t shaped n made e = (shaped-at t n shaped made).named ∙ ap is_named e ∙ named-read

spelled-name : (t : Tree) (n : ℕ) → kind_of t n ≡ kinds.Name → spelled t n ≡ option_map (read_at t n) (name_of t n)
unfolding spelled
spelled-name t n e = ap (λ (b : Bool). cond b (option_map (read_at t n) (name_of t n)) (name_of t n)) (ap is_read e ∙ read-is)

some-of : (o : Option Name) (f : Name → Name) → is_some o ≡ true → (x : Name) × (option_map f o ≡ Some x)
some-of None f e = cc
some-of (Some x) f e = (f x, refl)

has-name : (t : Tree) → IsShaped t → (n : ℕ) → n < count_of t → kind_of t n ≡ kinds.Name → (x : Name) × (spelled t n ≡ Some x)
has-name t shaped n made e = let h = some-of (name_of t n) (read_at t n) (some-name t shaped n made e) in (h.0, spelled-name t n e ∙ h.1)

leads : (t : Tree) (n : ℕ) (x : Name) → spelled t n ≡ Some x → Resolves t n (resolved t n)
leads t n x e = record { name = x; read = e; scope = end_of t (around t n) x; ends = end-is t (around t n) x; answer = resolved-is t n x e }

only : (t : Tree) (n : ℕ) (w : Where) → Resolves t n w → w ≡ resolved t n
only t n w h = h.answer ∙ ap (answer_at t (around t n) h.name) (sym (end-only t (around t n) h.name h.scope h.ends)) ∙ sym (resolved-is t n h.name h.read)

pub one_answer : (t : Tree) → IsShaped t → (n : ℕ) → n < count_of t → kind_of t n ≡ kinds.Name → HasOneAnswer t n
one_answer t shaped n made e = let h = has-name t shaped n made e in record { leads = leads t n h.0 h.1; only = only t n }

-- ---- source order

pub length-below : (n : ℕ) → length (below n) ≡ n
length-below zero = refl
length-below (suc n) = omega (arith, length-append (below n) (n ∷ []), length-below n)

pub get-below : (n k : ℕ) → k < n → get_or (below n) k 0 ≡ k
get-below zero k low = absurd (omega arith)
get-below (suc n) k low = grind (arith, get_or_append_left, get_or-append_right, length-below n, get-below n k)

below-rises : (n : ℕ) → IsStrictlyIncreasing (below n)
below-rises n k low = let l = length-below n in rw (get-below n k (omega arith), get-below n (k + 1) (omega arith)) (omega arith)

nodes-rise : (mark : ℕ → Option Mark) (t : Tree) (s : ℕ) (x : Name) → IsStrictlyIncreasing (nodes_with mark t s x)
unfolding nodes_with
nodes-rise mark t s x = IsStrictlyIncreasing-filter (λ n. is_mark s x (mark n)) (nodes_of t) (below-rises (count_of t))

pub in_source_order : (t : Tree) → AreInOrder t
in_source_order t = record {
  binders = λ s x. nodes-rise _ t s x;
  loads = λ s x. nodes-rise _ t s x;
  stores = λ x. nodes-rise _ t 0 x;
  deletes = λ x. nodes-rise _ t 0 x;
}

-- ---- where local reads lead

end-around : (t : Tree) (own : ℕ) (x : Name) → Contains (chain t own) (end_of t own x)
end-around t own x =
    let h = end-split t own x in
    subst (λ (os : List ℕ). Contains os (end_of t own x)) (sym h.way) (Contains-append_right h.front (end_of t own x ∷ h.back) (end_of t own x) (Contains-get_or (end_of t own x ∷ h.back) 0 0 (omega arith)))

-- an answer that names refused scope
abbrev NamesNone : Where → Type 0
NamesNone (Local s) = ⊥
NamesNone (Free s) = ⊥
NamesNone Global = Unit {0}
NamesNone Builtin = Unit {0}
NamesNone Nowhere = Unit {0}

-- an answer names a scope only if it is this
abbrev NamesOnly : ℕ → Where → Type 0
NamesOnly e (Local s) = s.0 ≡ e
NamesOnly e (Free s) = s.0 ≡ e
NamesOnly e Global = Unit {0}
NamesOnly e Builtin = Unit {0}
NamesOnly e Nowhere = Unit {0}

module-names : (t : Tree) (x : Name) (e : ℕ) → NamesOnly e (at_module t x)
unfolding at_module
module-names t x e = by_tests (in_module t x) (is_builtin x)
  where
    by_tests : (a b : Bool) → NamesOnly e (cond a Global (cond b Builtin Nowhere))
    by_tests true b = tt
    by_tests false true = tt
    by_tests false false = tt

answer-names : (t : Tree) (own : ℕ) (x : Name) (s : ℕ) → NamesOnly s (answer_at t own x s)
unfolding answer_at
answer-names t own x s = by_tests _ _
  where
    by_tests : (a b : Bool) → NamesOnly s (cond a (at_module t x) (cond b (Local (record { 0 = s })) (Free (record { 0 = s }))))
    by_tests true b = module-names t x s
    by_tests false true = refl
    by_tests false false = refl

led-names : (t : Tree) (own : ℕ) (x : Name) → NamesOnly (end_of t own x) (led_from t own x)
unfolding led_from
led-names t own x = answer-names t own x (end_of t own x)

-- an answer names only scopes around
abbrev NamesAround : List ℕ → Where → Type 0
NamesAround os (Local s) = Contains os s.0
NamesAround os (Free s) = Contains os s.0
NamesAround os Global = Unit {0}
NamesAround os Builtin = Unit {0}
NamesAround os Nowhere = Unit {0}

around-of : (os : List ℕ) (e : ℕ) (w : Where) → Contains os e → NamesOnly e w → NamesAround os w
around-of os e (Local s) h same = subst (Contains os) (sym same) h
around-of os e (Free s) h same = subst (Contains os) (sym same) h
around-of os e Global h same = tt
around-of os e Builtin h same = tt
around-of os e Nowhere h same = tt

led-around : (t : Tree) (own : ℕ) (o : Option Name) → NamesAround (chain t own) (led_by t own o)
led-around t own None = tt
led-around t own (Some x) = around-of (chain t own) (end_of t own x) (led_from t own x) (end-around t own x) (led-names t own x)

resolved-around : (t : Tree) (n : ℕ) → NamesAround (chain t (around t n)) (resolved t n)
unfolding resolved
resolved-around t n = led-around t (around t n) (spelled t n)

pub leads_outwards : (t : Tree) (n : ℕ) → n < count_of t → LeadsOutwards t n
leads_outwards t n made = record {
  local = λ s e. subst (NamesAround (chain t (around t n))) e (resolved-around t n);
  free = λ s e. subst (NamesAround (chain t (around t n))) e (resolved-around t n);
}
