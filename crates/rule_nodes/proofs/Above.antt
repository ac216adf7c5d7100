-- What lies above a node is its parent, and what lies above that: so one pass down the tree finds it for all nodes.
use Rattle.std.proofs.Common.{◌≡◌, ℕ, zero, suc, ◌<◌, ◌≤◌, Bool, true, false, cond, List, [], ◌∷◌, find, refl, sym, ap, ◌∙◌, arith, Some, None, ⊎_elim}
use Rattle.tree_nodes.specs.Trees.{Tree, count_of, parent_at}
use Rattle.tree_nodes.proofs.EntryLaws.{parent-cases}
use Rattle.scope_rules.specs.Nodes.{kind_of}
use Rattle.rule_nodes.specs.Kinds.{is_owner}
use Rattle.rule_nodes.specs.Outwards.{onto_above, above_within, above, owner_of}

enough : (k j : ℕ) (t : Tree) (n : ℕ) → n < count_of t → n ≤ k → n ≤ j → above_within k t n ≡ above_within j t n
enough zero zero t n made low lower = refl
enough zero (suc j) t n made low lower =
    ⊎_elim (λ root. sym (ap (onto_above (above_within j t)) root.1)) (λ under. absurd (omega (arith, under.2))) (parent-cases t n made)
enough (suc k) zero t n made low lower =
    ⊎_elim (λ root. ap (onto_above (above_within k t)) root.1) (λ under. absurd (omega (arith, under.2))) (parent-cases t n made)
enough (suc k) (suc j) t n made low lower =
    ⊎_elim (λ root. ap (onto_above (above_within k t)) root.1 ∙ sym (ap (onto_above (above_within j t)) root.1))
    (λ under.
    let before = under.2 in
    let same : above_within k t under.0 ≡ above_within j t under.0 = enough k j t under.0 (omega (arith, before)) (omega (arith, before)) (omega (arith, before)) in
    ap (onto_above (above_within k t)) under.1 ∙ ap (λ (ps : List ℕ). under.0 ∷ ps) same ∙ sym (ap (onto_above (above_within j t)) under.1)) (parent-cases t n made)

-- nothing lies above the root
pub above_root : (t : Tree) (n : ℕ) → parent_at t n ≡ None → above t n ≡ []
unfolding above
above_root t zero e = refl
above_root t (suc n) e = ap (onto_above (above_within n t)) e

-- a parent, and what lies above it
pub above_more : (t : Tree) (n p : ℕ) → n < count_of t → parent_at t n ≡ Some p → p < n → above t n ≡ p ∷ above t p
unfolding above
above_more t zero p made e before = absurd (omega arith)
above_more t (suc n) p made e before =
    ap (onto_above (above_within n t)) e ∙ ap (λ (ps : List ℕ). p ∷ ps) (enough n p t p (omega arith) (omega arith) (omega arith))

-- ---- the function or class that a node belongs to

pub owner_root : (t : Tree) (n : ℕ) → parent_at t n ≡ None → None ≡ owner_of t n
unfolding owner_of
owner_root t n e = sym (ap (find (λ q. is_owner (kind_of t q))) (above_root t n e))

owner-more : (t : Tree) (n p : ℕ) → n < count_of t → parent_at t n ≡ Some p → p < n → owner_of t n ≡ cond (is_owner (kind_of t p)) (Some p) (owner_of t p)
unfolding owner_of
owner-more t n p made e before = ap (find (λ q. is_owner (kind_of t q))) (above_more t n p made e before)

pub owner_here : (t : Tree) (n p : ℕ) → n < count_of t → parent_at t n ≡ Some p → p < n → is_owner (kind_of t p) ≡ true → Some p ≡ owner_of t n
owner_here t n p made e before is = sym (owner-more t n p made e before ∙ ap (λ (b : Bool). cond b (Some p) (owner_of t p)) is)

pub owner_on : (t : Tree) (n p : ℕ) → n < count_of t → parent_at t n ≡ Some p → p < n → is_owner (kind_of t p) ≡ false → owner_of t p ≡ owner_of t n
owner_on t n p made e before is = sym (owner-more t n p made e before ∙ ap (λ (b : Bool). cond b (Some p) (owner_of t p)) is)

owner-below : (most : ℕ) (t : Tree) (n d : ℕ) → n < most → n < count_of t → owner_of t n ≡ Some d → d < n
owner-below zero t n d low made e = absurd (omega arith)
owner-below (suc most) t n d low made e =
    ⊎_elim (λ root. absurd (nothing (owner_root t n root.1 ∙ e)))
    (λ under.
    let before = under.2 in
    let further : owner_of t under.0 ≡ Some d → d < under.0 = λ at. owner-below most t under.0 d (omega (arith, before)) (omega (arith, before)) at in
    by_test under.0 under.1 under.2 further (is_owner (kind_of t under.0)) refl) (parent-cases t n made)
  where
    nothing : None ≡ Some d → ⊥
    nothing e = cc

    same : (p : ℕ) → Some p ≡ Some d → p ≡ d
    same p e = cc

    by_test : (p : ℕ) → parent_at t n ≡ Some p → p < n → (owner_of t p ≡ Some d → d < p) → (b : Bool) → is_owner (kind_of t p) ≡ b → d < n
    by_test p at before further true is = let one : p ≡ d = same p (owner_here t n p made at before is ∙ e) in omega arith
    by_test p at before further false is = let low : d < p = further (owner_on t n p made at before is ∙ e) in omega arith

-- it has a lower number
pub owner_before : (t : Tree) (n d : ℕ) → n < count_of t → owner_of t n ≡ Some d → d < n
owner_before t n d made e = owner-below (suc n) t n d (omega arith) made e

pub owner_made : (t : Tree) (n d : ℕ) → n < count_of t → owner_of t n ≡ Some d → d < count_of t
owner_made t n d made e = let low = owner_before t n d made e in omega arith
