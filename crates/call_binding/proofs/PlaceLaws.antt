-- The innermost class around a node, step by step; and the classes above a node.
use Rattle.std.proofs.Common.{◌≡◌, ℕ, zero, suc, ◌+◌, ◌<◌, ◌≤◌, Bool, true, false, cond, eqb, List, [], ◌∷◌, refl, sym, ap, subst, ◌∙◌, arith, Option, Some, None, ◌⊎◌, inl, inr, ⊎_elim, ◌||◌}
use Rattle.std.specs.List.{find}
use Rattle.tree_nodes.specs.Trees.{Tree, count_of, parent_at}
use Rattle.tree_nodes.proofs.EntryLaws.{parent-cases}
use Rattle.scope_rules.specs.declared.step.Step.{Step}
use Rattle.scope_rules.specs.declared.step.Step.TheVariants.{Within, Beside}
use Rattle.scope_rules.specs.Kinds.{is_class}
use Rattle.scope_rules.specs.Nodes.{kind_of}
use Rattle.scope_rules.specs.Places.{step, landing, around, chain}
use Rattle.scope_rules.specs.Mangling.{class_from}
use Rattle.scope_rules.proofs.Nesting.{IsStep, is-step, around-stands, chain-outwards, chain-module}
use Rattle.call_binding.specs.Reading.{has_class_above, is_within_class, is_in_class}

place-within : (t : Tree) (n s : ℕ) → n < count_of t → step t n ≡ Within s → around t n ≡ s
place-within t n s made e = around-stands t n made ∙ ap (landing (around t)) e

-- where a node stands wherever another does, the class around it is the other's
pub class_beside : (t : Tree) (n m : ℕ) → n < count_of t → step t n ≡ Beside m → class_from t (around t m) ≡ class_from t (around t n)
class_beside t n m made e = ap (class_from t) (sym (around-stands t n made ∙ ap (landing (around t)) e))

pub beside_before : (t : Tree) (n m : ℕ) → n < count_of t → step t n ≡ Beside m → m < n
beside_before t n m made e = ⊎_elim (λ root. absurd (not-within m root.1)) (λ out. out.1) (subst (IsStep t n) e (is-step t n made))
  where
    not-within : (m : ℕ) → Beside m ≡ Within 0 → ⊥
    not-within m e = cc

-- the scope of a node comes before it, or both are the root
pub within_before : (t : Tree) (n s : ℕ) → n < count_of t → step t n ≡ Within s → 0 < s → s < n
within_before t n s made e some = ⊎_elim (λ root. absurd (not-root s some root.1)) (λ out. out.1.0) (subst (IsStep t n) e (is-step t n made))
  where
    same : (s : ℕ) → Within s ≡ Within 0 → s ≡ 0
    same s e = cc

    not-root : (s : ℕ) → 0 < s → Within s ≡ Within 0 → ⊥
    not-root s some e = let z = same s e in absurd (omega arith)

pub within_made : (t : Tree) (n s : ℕ) → n < count_of t → step t n ≡ Within s → s < count_of t
within_made t n s made e = by_case (zero_or_more s)
  where
    zero_or_more : (m : ℕ) → (m ≡ 0) ⊎ (0 < m)
    zero_or_more zero = inl refl
    zero_or_more (suc m) = inr (omega arith)

    by_case : (s ≡ 0) ⊎ (0 < s) → s < count_of t
    by_case (inl z) = omega arith
    by_case (inr some) = let low = within_before t n s made e some in omega arith

class-itself : (t : Tree) (s : ℕ) → s < count_of t → is_class (kind_of t s) ≡ true → Some s ≡ class_from t s
unfolding class_from
class-itself t s made e = by_case (zero_or_more s)
  where
    zero_or_more : (n : ℕ) → (n ≡ 0) ⊎ (0 < n)
    zero_or_more zero = inl refl
    zero_or_more (suc n) = inr (omega arith)

    by_case : (s ≡ 0) ⊎ (0 < s) → Some s ≡ find (λ c. is_class (kind_of t c)) (chain t s)
    by_case (inl z) = rw (chain-module t s z) (sym (subst (λ (o : ℕ). cond (is_class (kind_of t o)) (Some o) None ≡ Some s) z (rw e refl)))
    by_case (inr some) = rw (chain-outwards t s made some, e) refl

class-module : (t : Tree) (s : ℕ) → s ≡ 0 → is_class (kind_of t s) ≡ false → None ≡ class_from t s
unfolding class_from
class-module t s z e = rw (chain-module t s z) (sym (subst (λ (o : ℕ). cond (is_class (kind_of t o)) (Some o) None ≡ None) z (rw e refl)))

class-outwards : (t : Tree) (s : ℕ) → s < count_of t → 0 < s → is_class (kind_of t s) ≡ false → class_from t (around t s) ≡ class_from t s
unfolding class_from
class-outwards t s made some e = rw (chain-outwards t s made some, e) refl

-- a node within a class has that class around it
pub class_within : (t : Tree) (n s : ℕ) → n < count_of t → step t n ≡ Within s → is_class (kind_of t s) ≡ true → Some s ≡ class_from t (around t n)
class_within t n s made at e = class-itself t s (within_made t n s made at) e ∙ ap (class_from t) (sym (place-within t n s made at))

-- a node in the module's scope has none
pub class_none : (t : Tree) (n s : ℕ) → n < count_of t → step t n ≡ Within s → is_class (kind_of t s) ≡ false → s ≡ 0 → None ≡ class_from t (around t n)
class_none t n s made at e z = class-module t s z e ∙ ap (class_from t) (sym (place-within t n s made at))

-- a node within another scope has the class around that
pub class_beyond : (t : Tree) (n s : ℕ) → n < count_of t → step t n ≡ Within s → is_class (kind_of t s) ≡ false → 0 < s → class_from t (around t s) ≡ class_from t (around t n)
class_beyond t n s made at e some = class-outwards t s (within_made t n s made at) some e ∙ ap (class_from t) (sym (place-within t n s made at))

-- ---- classes above a node

enough : (k j : ℕ) (t : Tree) (n : ℕ) → n < count_of t → n ≤ k → n ≤ j → is_within_class k t n ≡ is_within_class j t n
unfolding is_within_class
enough zero zero t n made low lower = refl
enough zero (suc j) t n made low lower =
    ⊎_elim (λ root. sym (ap (has_class_above (is_within_class j t) t) root.1)) (λ under. absurd (omega (arith, under.2))) (parent-cases t n made)
enough (suc k) zero t n made low lower =
    ⊎_elim (λ root. ap (has_class_above (is_within_class k t) t) root.1) (λ under. absurd (omega (arith, under.2))) (parent-cases t n made)
enough (suc k) (suc j) t n made low lower =
    ⊎_elim (λ root. ap (has_class_above (is_within_class k t) t) root.1 ∙ sym (ap (has_class_above (is_within_class j t) t) root.1))
    (λ under.
    let before = under.2 in
    let same : is_within_class k t under.0 ≡ is_within_class j t under.0 = enough k j t under.0 (omega (arith, before)) (omega (arith, before)) (omega (arith, before)) in
    ap (has_class_above (is_within_class k t) t) under.1 ∙ ap (λ (b : Bool). is_class (kind_of t under.0) || b) same ∙ sym (ap (has_class_above (is_within_class j t) t) under.1)) (parent-cases t n made)

-- no class stands above the root
pub in_class_root : (t : Tree) (n : ℕ) → parent_at t n ≡ None → false ≡ is_in_class t n
unfolding is_in_class is_within_class
in_class_root t zero e = refl
in_class_root t (suc n) e = sym (ap (has_class_above (is_within_class n t) t) e)

-- a class stands above a node where its parent is one, or has one above it
in_class_more : (t : Tree) (n p : ℕ) → n < count_of t → parent_at t n ≡ Some p → p < n → is_in_class t n ≡ (is_class (kind_of t p) || is_in_class t p)
unfolding is_in_class is_within_class
in_class_more t zero p made e before = absurd (omega arith)
in_class_more t (suc n) p made e before =
    ap (has_class_above (is_within_class n t) t) e ∙ ap (λ (b : Bool). is_class (kind_of t p) || b) (enough n p t p (omega arith) (omega arith) (omega arith))

pub in_class_found : (t : Tree) (n p : ℕ) → n < count_of t → parent_at t n ≡ Some p → p < n → is_class (kind_of t p) ≡ true → true ≡ is_in_class t n
in_class_found t n p made e before is = sym (in_class_more t n p made e before ∙ ap (λ (b : Bool). b || is_in_class t p) is)

pub in_class_on : (t : Tree) (n p : ℕ) → n < count_of t → parent_at t n ≡ Some p → p < n → is_class (kind_of t p) ≡ false → is_in_class t p ≡ is_in_class t n
in_class_on t n p made e before is = sym (in_class_more t n p made e before ∙ ap (λ (b : Bool). b || is_in_class t p) is)
