-- Where a step leads, as the passes over the nodes use it.
use Rattle.std.proofs.Common.{◌≡◌, ℕ, zero, suc, ◌+◌, ◌<◌, ◌≤◌, Bool, true, false, cond, eqb, List, [], ◌∷◌, refl, sym, ap, subst, ◌∙◌, arith, Option, Some, None, ◌⊎◌, inl, inr, ⊎_elim}
use Rattle.std.specs.List.{find}
use Rattle.tree_nodes.specs.Trees.{Tree, count_of}
use Rattle.scope_rules.specs.declared.step.Step.{Step}
use Rattle.scope_rules.specs.declared.step.Step.TheVariants.{Within, Beside}
use Rattle.scope_rules.specs.Kinds.{is_class}
use Rattle.scope_rules.specs.Nodes.{kind_of}
use Rattle.scope_rules.specs.Places.{step, landing, around, chain}
use Rattle.scope_rules.specs.Mangling.{class_from}
use Rattle.scope_rules.proofs.Nesting.{IsOutwards, IsStep, is-step, around-stands, chain-outwards, chain-module}

pub place_within : (t : Tree) (n s : ℕ) → n < count_of t → step t n ≡ Within s → s ≡ around t n
place_within t n s made e = sym (around-stands t n made ∙ ap (landing (around t)) e)

pub place_beside : (t : Tree) (n m : ℕ) → n < count_of t → step t n ≡ Beside m → around t m ≡ around t n
place_beside t n m made e = sym (around-stands t n made ∙ ap (landing (around t)) e)

pub beside_before : (t : Tree) (n m : ℕ) → n < count_of t → step t n ≡ Beside m → m < n
beside_before t n m made e = ⊎_elim (λ root. absurd (not-within m root.1)) (λ out. out.1) (subst (IsStep t n) e (is-step t n made))
  where
    not-within : (m : ℕ) → Beside m ≡ Within 0 → ⊥
    not-within m e = cc

-- the innermost class of a scope is the scope, or that of the scope around it; the module's has none around it
pub class_itself : (t : Tree) (s : ℕ) → s < count_of t → is_class (kind_of t s) ≡ true → Some s ≡ class_from t s
unfolding class_from
class_itself t s made e = by_case (zero_or_more s)
  where
    zero_or_more : (n : ℕ) → (n ≡ 0) ⊎ (0 < n)
    zero_or_more zero = inl refl
    zero_or_more (suc n) = inr (omega arith)

    by_case : (s ≡ 0) ⊎ (0 < s) → Some s ≡ find (λ c. is_class (kind_of t c)) (chain t s)
    by_case (inl z) = rw (chain-module t s z) (sym (subst (λ (o : ℕ). cond (is_class (kind_of t o)) (Some o) None ≡ Some s) z (rw e refl)))
    by_case (inr some) = rw (chain-outwards t s made some, e) refl

pub class_module : (t : Tree) (s : ℕ) → s ≡ 0 → is_class (kind_of t s) ≡ false → None ≡ class_from t s
unfolding class_from
class_module t s z e = rw (chain-module t s z) (sym (subst (λ (o : ℕ). cond (is_class (kind_of t o)) (Some o) None ≡ None) z (rw e refl)))

pub class_outwards : (t : Tree) (s : ℕ) → s < count_of t → 0 < s → is_class (kind_of t s) ≡ false → class_from t (around t s) ≡ class_from t s
unfolding class_from
class_outwards t s made some e = rw (chain-outwards t s made some, e) refl
