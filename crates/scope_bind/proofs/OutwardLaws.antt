-- Walks outwards: what is found among the scopes around a scope.
use Rattle.std.proofs.Common.{◌≡◌, ℕ, zero, suc, ◌+◌, ◌<◌, ◌≤◌, Bool, true, false, cond, eqb, not, ◌&&◌, ◌||◌, List, [], ◌∷◌, drop, refl, sym, ap, subst, ◌∙◌, arith, Option, Some, None, unwrap_or, IfSome, ◌⊎◌, inl, inr, ⊎_elim}
use Rattle.std.specs.List.{find, list_all}
use Rattle.std.proofs.lemmas.Bool.{ne_eqb}
use Rattle.std.proofs.lemmas.Bool.Decides.{eqb_tells}
use Rattle.tree_nodes.specs.Trees.{Tree, count_of}
use Rattle.scope_rules.specs.Kinds.{is_class, is_comprehension}
use Rattle.scope_rules.specs.Nodes.{Name, kind_of}
use Rattle.scope_rules.specs.Places.{around, chain_by, chain}
use Rattle.scope_rules.specs.Mangling.{class_from}
use Rattle.scope_rules.specs.Binding.{beyond_comprehensions, own_scope}
use Rattle.scope_rules.specs.Declaring.{is_owner, owner_outside}
use Rattle.scope_rules.specs.Reading.{ends_at, end_of, before, is_near}
use Rattle.scope_rules.proofs.Nesting.{around-le, around-before, chain-outwards, chain-module}

-- ---- what is found is no later than where the walk began

low-by : (p : ℕ → Bool) (k : ℕ) (t : Tree) (s : ℕ) → s < count_of t → IfSome (find p (chain_by k t s)) (λ c. c ≤ s)
unfolding chain_by
low-by p zero t s made = by_test (p 0)
  where
    by_test : (b : Bool) → IfSome (cond b (Some 0) None) (λ c. c ≤ s)
    by_test true = omega arith
    by_test false = tt
low-by p (suc k) t s made = by_root (eqb s 0) (around-le t s made) (low-by p k t (around t s) (le-trans (around-le t s made) made))
  where
    le-trans : {a b n : ℕ} → a ≤ b → b < n → a < n
    le-trans h l = omega arith

    at_zero : (b : Bool) → IfSome (cond b (Some 0) None) (λ c. c ≤ s)
    at_zero true = omega arith
    at_zero false = tt

    weaker : (o : Option ℕ) → around t s ≤ s → IfSome o (λ c. c ≤ around t s) → IfSome o (λ c. c ≤ s)
    weaker None le h = tt
    weaker (Some c) le h = omega arith

    at_scope : (b : Bool) → IfSome (find p (chain_by k t (around t s))) (λ c. c ≤ s) → IfSome (cond b (Some s) (find p (chain_by k t (around t s)))) (λ c. c ≤ s)
    at_scope true h = omega arith
    at_scope false h = h

    by_root : (b : Bool) → around t s ≤ s → IfSome (find p (chain_by k t (around t s))) (λ c. c ≤ around t s) → IfSome (find p (cond b (0 ∷ []) (s ∷ chain_by k t (around t s)))) (λ c. c ≤ s)
    by_root true le h = at_zero (p 0)
    by_root false le h = at_scope (p s) (weaker (find p (chain_by k t (around t s))) le h)

found-low : (p : ℕ → Bool) (t : Tree) (s : ℕ) → s < count_of t → IfSome (find p (chain t s)) (λ c. c ≤ s)
unfolding chain
found-low p t s made = low-by p s t s made

pub class_low : (t : Tree) (s : ℕ) → s < count_of t → IfSome (class_from t s) (λ c. c ≤ s)
unfolding class_from
class_low t s made = found-low (λ c. is_class (kind_of t c)) t s made

weaker-bound : (o : Option ℕ) (a b : ℕ) → a < b → IfSome o (λ c. c ≤ a) → IfSome o (λ c. c < b)
weaker-bound None a b low h = tt
weaker-bound (Some c) a b low h = omega arith

pub class_known : (t : Tree) (s : ℕ) → s < count_of t → IfSome (class_from t s) (λ c. c < count_of t)
class_known t s made = weaker-bound (class_from t s) s (count_of t) made (class_low t s made)

-- ---- beyond comprehensions

pub beyond_itself : (t : Tree) (s : ℕ) → s < count_of t → is_comprehension (kind_of t s) ≡ false → s ≡ beyond_comprehensions t s
unfolding beyond_comprehensions
beyond_itself t zero made e = rw (chain-module t 0 refl, e) refl
beyond_itself t (suc s) made e = rw (chain-outwards t (suc s) made (omega arith), e) refl

none-or-zero : (b : Bool) → (o : ℕ) → o ≡ 0 → unwrap_or (cond b (Some o) None) 0 ≡ 0
none-or-zero true o e = e
none-or-zero false o e = refl

beyond-at-module : (t : Tree) (s : ℕ) → s ≡ 0 → beyond_comprehensions t s ≡ 0
unfolding beyond_comprehensions
beyond-at-module t s z = ap (λ (os : List ℕ). unwrap_or (find (λ o. not (is_comprehension (kind_of t o))) os) 0) (chain-module t s z) ∙ none-or-zero (not (is_comprehension (kind_of t 0))) 0 refl

pub beyond_module : (t : Tree) (s : ℕ) → s ≡ 0 → s ≡ beyond_comprehensions t s
beyond_module t s z = z ∙ sym (beyond-at-module t s z)

pub beyond_outwards : (t : Tree) (s : ℕ) → s < count_of t → 0 < s → is_comprehension (kind_of t s) ≡ true → beyond_comprehensions t (around t s) ≡ beyond_comprehensions t s
unfolding beyond_comprehensions
beyond_outwards t s made some e = rw (chain-outwards t s made some, e) refl

-- ---- the nearest owner

chain-behind : (t : Tree) (s : ℕ) → s < count_of t → chain t s ≡ s ∷ drop 1 (chain t s)
chain-behind t zero made = rw (chain-module t 0 refl) refl
chain-behind t (suc s) made = rw (chain-outwards t (suc s) made (omega arith)) refl

-- an owner outside, as the walk sees it from s on
pub owner_module : (t : Tree) (s : ℕ) (x : Name) → s ≡ 0 → None ≡ find (is_owner t x) (drop 1 (chain t s))
owner_module t s x z = rw (chain-module t s z) refl

behind-around : (t : Tree) (s : ℕ) → s < count_of t → 0 < s → drop 1 (chain t s) ≡ around t s ∷ drop 1 (chain t (around t s))
behind-around t s made some = let low = around-before t s made some in ap (drop 1) (chain-outwards t s made some) ∙ chain-behind t (around t s) (omega arith)

pub owner_found : (t : Tree) (s : ℕ) (x : Name) → s < count_of t → 0 < s → is_owner t x (around t s) ≡ true → Some (around t s) ≡ find (is_owner t x) (drop 1 (chain t s))
owner_found t s x made some e = rw (behind-around t s made some, e) refl

pub owner_outwards : (t : Tree) (s : ℕ) (x : Name) → s < count_of t → 0 < s → is_owner t x (around t s) ≡ false → find (is_owner t x) (drop 1 (chain t (around t s))) ≡ find (is_owner t x) (drop 1 (chain t s))
owner_outwards t s x made some e = rw (behind-around t s made some, e) refl

pub owner_is : (t : Tree) (s : ℕ) (x : Name) → find (is_owner t x) (drop 1 (chain t s)) ≡ owner_outside t s x
unfolding owner_outside
owner_is t s x = refl

-- ---- where a read ends

-- a read on its way is at s: it ends where one that begins at s would, and what it has left is near as far as told
pub record IsOnTheWay (t : Tree) (own : ℕ) (x : Name) (s : ℕ) (near : Bool) : Type 0 where
  pub made : s < count_of t
  pub ends : end_of t own x ≡ unwrap_or (find (ends_at t own x) (chain t s)) 0
  pub nears : (e : ℕ) → e ≤ s → is_near t own e ≡ (near && list_all (λ o. is_comprehension (kind_of t o)) (before e (chain t s)))

pub way_starts : (t : Tree) (own : ℕ) (x : Name) → own < count_of t → IsOnTheWay t own x own true
unfolding end_of is_near
way_starts t own x made = record { made = made; ends = refl; nears = λ e low. refl }

and-assoc : (a b c : Bool) → ((a && b) && c) ≡ (a && (b && c))
and-assoc true b c = refl
and-assoc false b c = refl

pub way_goes_on : (t : Tree) (own : ℕ) (x : Name) (s : ℕ) (near : Bool) → 0 < s → ends_at t own x s ≡ false → IsOnTheWay t own x s near → IsOnTheWay t own x (around t s) (near && is_comprehension (kind_of t s))
way_goes_on t own x s near some e h =
    let low = around-before t s h.made some in
    let step = chain-outwards t s h.made some in
    record {
      made = let m = h.made in omega arith;
      ends = h.ends ∙ ap (λ (os : List ℕ). unwrap_or (find (ends_at t own x) os) 0) step ∙ ap (λ (b : Bool). unwrap_or (cond b (Some s) (find (ends_at t own x) (chain t (around t s)))) 0) e;
      nears = λ e less.
          h.nears e (omega arith) ∙ ap (λ (os : List ℕ). near && list_all (λ o. is_comprehension (kind_of t o)) (before e os)) step
          ∙ ap (λ (b : Bool). near && list_all (λ o. is_comprehension (kind_of t o)) (cond b [] (s ∷ before e (chain t (around t s))))) (ne_eqb s e (λ q. absurd (omega arith)))
          ∙ sym (and-assoc near (is_comprehension (kind_of t s)) (list_all (λ o. is_comprehension (kind_of t o)) (before e (chain t (around t s)))));
    }

and-true : (b : Bool) → (b && true) ≡ b
and-true true = refl
and-true false = refl

eqb-itself : (s : ℕ) → eqb s s ≡ true
eqb-itself s = ⊎_elim (λ h. h.0) (λ h. absurd (h.1 refl)) (eqb_tells s s)

near-here : (t : Tree) (own : ℕ) (x : Name) (s : ℕ) (near : Bool) (rest : List ℕ) → chain t s ≡ s ∷ rest → IsOnTheWay t own x s near → near ≡ is_near t own s
near-here t own x s near rest e h =
    sym (h.nears s (omega arith) ∙ ap (λ (os : List ℕ). near && list_all (λ o. is_comprehension (kind_of t o)) (before s os)) e
    ∙ ap (λ (b : Bool). near && list_all (λ o. is_comprehension (kind_of t o)) (cond b [] (s ∷ before s rest))) (eqb-itself s) ∙ and-true near)

pub way_ends_scope : (t : Tree) (own : ℕ) (x : Name) (s : ℕ) (near : Bool) → ends_at t own x s ≡ true → IsOnTheWay t own x s near → s ≡ end_of t own x
way_ends_scope t own x s near e h =
    sym (h.ends ∙ ap (λ (os : List ℕ). unwrap_or (find (ends_at t own x) os) 0) (chain-behind t s h.made) ∙ ap (λ (b : Bool). unwrap_or (cond b (Some s) (find (ends_at t own x) (drop 1 (chain t s)))) 0) e)

pub way_ends_near : (t : Tree) (own : ℕ) (x : Name) (s : ℕ) (near : Bool) → ends_at t own x s ≡ true → IsOnTheWay t own x s near → near ≡ is_near t own (end_of t own x)
way_ends_near t own x s near e h = near-here t own x s near (drop 1 (chain t s)) (chain-behind t s h.made) h ∙ ap (is_near t own) (way_ends_scope t own x s near e h)

pub module_ends : (t : Tree) (own : ℕ) (x : Name) (s : ℕ) → s ≡ 0 → ends_at t own x s ≡ true
unfolding ends_at
module_ends t own x s e = rw e refl
