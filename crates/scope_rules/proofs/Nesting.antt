-- Each step outwards leads to a lower number, so that a node stands in one scope, and scopes are nested up to the module.
use Rattle.std.proofs.Common.{◌≡◌, ℕ, zero, suc, ◌<◌, ◌≤◌, Bool, true, false, cond, eqb, List, [], ◌∷◌, refl, sym, ap, subst, ◌∙◌, arith, Option, Some, None, ◌⊎◌, inl, inr, ⊎_elim}
use Rattle.std.proofs.lemmas.Bool.{ne_eqb}
use Rattle.tree_nodes.specs.declared.kind.Kind.TheVariants as kinds
use Rattle.tree_nodes.specs.Trees.{Tree, count_of, parent_at, entry_at, entries}
use Rattle.tree_nodes.specs.Shaped.{IsShaped}
use Rattle.tree_nodes.proofs.EntryLaws.{parent-cases}
use Rattle.scope_rules.specs.Kinds.{opens, holds}
use Rattle.scope_rules.specs.Nodes.{kind_of}
use Rattle.scope_rules.specs.declared.step.Step.{Step}
use Rattle.scope_rules.specs.declared.step.Step.TheVariants.{Within, Beside}
use Rattle.scope_rules.specs.Places.{plain_step, step_below, step_from, step, landing, around_by, around, chain_by, chain}
use Rattle.scope_rules.specs.Laws.{AreNested}
use Rattle.scope_rules.proofs.KindLaws.{holds-opens}

-- a step from n leads to a lower node, which opens the scope if it is one
abbrev pub IsOutwards : Tree → ℕ → Step → Type 0
IsOutwards t n (Within s) = (s < n) × (opens (kind_of t s) ≡ true)
IsOutwards t n (Beside m) = m < n

plain-by : (t : Tree) (n q : ℕ) (b : Bool) → q < n → holds (kind_of t q) (kind_of t n) ≡ b → IsOutwards t n (cond b (Within q) (Beside q))
plain-by t n q true low e = (low, holds-opens (kind_of t q) (kind_of t n) e)
plain-by t n q false low e = low

plain : (t : Tree) (n q : ℕ) → q < n → IsOutwards t n (plain_step t n q)
unfolding plain_step
plain t n q low = plain-by t n q (holds (kind_of t q) (kind_of t n)) low refl

choose : (t : Tree) (n d : ℕ) (b : Bool) (other : Step) → d < n → IsOutwards t n other → IsOutwards t n (cond b (Beside d) other)
choose t n d true other low h = low
choose t n d false other low h = h

below-some : (t : Tree) (n q d : ℕ) → q < n → d < q → IsOutwards t n (step_below t n q (Some d))
unfolding step_below
below-some t n q d low lower = choose t n d _ (plain_step t n q) (omega arith) (plain t n q low)

below-none : (t : Tree) (n q : ℕ) → q < n → IsOutwards t n (step_below t n q None)
unfolding step_below
below-none t n q low = plain t n q low

from-parent : (t : Tree) (n q : ℕ) → n < count_of t → q < n → IsOutwards t n (step_below t n q (parent_at t q))
from-parent t n q made low =
    ⊎_elim (λ root. subst (λ (p : Option ℕ). IsOutwards t n (step_below t n q p)) (sym root.1) (below-none t n q low))
    (λ under. subst (λ (p : Option ℕ). IsOutwards t n (step_below t n q p)) (sym under.1) (below-some t n q under.0 low under.2)) (parent-cases t q (omega arith))

some-parent : (t : Tree) (n q : ℕ) → n < count_of t → q < n → IsOutwards t n (step_from t n (Some q))
unfolding step_from
some-parent t n q made low = from-parent t n q made low

pub step-outwards : (t : Tree) (n : ℕ) → n < count_of t → 0 < n → IsOutwards t n (step t n)
unfolding step
step-outwards t n made some =
    ⊎_elim (λ root. absurd (omega (arith, root.0))) (λ under. subst (λ (p : Option ℕ). IsOutwards t n (step_from t n p)) (sym under.1) (some-parent t n under.0 made under.2))
    (parent-cases t n made)

no-parent : (t : Tree) (n : ℕ) → step_from t n None ≡ Within 0
unfolding step_from
no-parent t n = refl

-- the root stands in the module
pub step-root : (t : Tree) (n : ℕ) → n < count_of t → n ≡ 0 → step t n ≡ Within 0
unfolding step
step-root t n made zero_ =
    ⊎_elim (λ root. subst (λ (p : Option ℕ). step_from t n p ≡ Within 0) (sym root.1) (no-parent t n)) (λ under. absurd (omega (arith, under.2))) (parent-cases t n made)

-- ---- the scope in which a node stands

around-suc : (k : ℕ) (t : Tree) (n : ℕ) → around_by (suc k) t n ≡ landing (around_by k t) (step t n)
unfolding around_by
around-suc k t n = refl

around-zero : (t : Tree) (n : ℕ) → around_by zero t n ≡ 0
unfolding around_by
around-zero t n = refl

around-is : (t : Tree) (n : ℕ) → around t n ≡ around_by (suc n) t n
unfolding around
around-is t n = refl

-- either the root, or a step outwards
abbrev pub IsStep : Tree → ℕ → Step → Type 0
IsStep t n s = ((n ≡ 0) × (s ≡ Within 0)) ⊎ ((0 < n) × IsOutwards t n s)

is-step-by : (t : Tree) (n : ℕ) → n < count_of t → (n ≡ 0) ⊎ (0 < n) → IsStep t n (step t n)
is-step-by t n made h = ⊎_elim (λ e. inl (e, step-root t n made e)) (λ low. inr (low, step-outwards t n made low)) h

zero_or_more : (n : ℕ) → (n ≡ 0) ⊎ (0 < n)
zero_or_more zero = inl refl
zero_or_more (suc n) = inr (omega arith)

pub is-step : (t : Tree) (n : ℕ) → n < count_of t → IsStep t n (step t n)
is-step t n made = is-step-by t n made (zero_or_more n)

-- no place is behind the node
le-landing : (t : Tree) (n : ℕ) (f : ℕ → ℕ) (s : Step) → ((m : ℕ) → m < n → f m ≤ m) → IsStep t n s → landing f s ≤ n
le-landing t n f (Within s) low h = ⊎_elim (λ root. let e : s ≡ 0 = within-same s root.1 in omega arith) (λ out. omega (arith, out.1.0)) h
  where
    within-same : (s : ℕ) → Within s ≡ Within 0 → s ≡ 0
    within-same s e = cc
le-landing t n f (Beside m) low h = ⊎_elim (λ root. absurd (not-within m root.1)) (λ out. omega (arith, out.1, low m out.1)) h
  where
    not-within : (m : ℕ) → Beside m ≡ Within 0 → ⊥
    not-within m e = cc

le-around_by : (k : ℕ) (t : Tree) (n : ℕ) → n < count_of t → around_by k t n ≤ n
le-around_by zero t n made = rw around-zero (omega arith)
le-around_by (suc k) t n made = rw around-suc (le-landing t n (around_by k t) (step t n) (λ m low. le-around_by k t m (omega arith)) (is-step t n made))

pub around-le : (t : Tree) (n : ℕ) → n < count_of t → around t n ≤ n
around-le t n made = rw around-is (le-around_by (suc n) t n made)

-- more steps lead to no other place
same-landing : (t : Tree) (n : ℕ) (f g : ℕ → ℕ) (s : Step) → ((m : ℕ) → m < n → f m ≡ g m) → IsStep t n s → landing f s ≡ landing g s
same-landing t n f g (Within s) same h = refl
same-landing t n f g (Beside m) same h = ⊎_elim (λ root. absurd (not-within m root.1)) (λ out. same m out.1) h
  where
    not-within : (m : ℕ) → Beside m ≡ Within 0 → ⊥
    not-within m e = cc

enough : (k j : ℕ) (t : Tree) (n : ℕ) → n < count_of t → n < k → n < j → around_by k t n ≡ around_by j t n
enough zero j t n made low more = absurd (omega arith)
enough (suc k) zero t n made low more = absurd (omega arith)
enough (suc k) (suc j) t n made low more =
    around-suc k t n ∙ same-landing t n (around_by k t) (around_by j t) (step t n) (λ m less. enough k j t m (omega arith) (omega arith) (omega arith)) (is-step t n made) ∙ sym (around-suc j t n)

pub around-stands : (t : Tree) (n : ℕ) → n < count_of t → around t n ≡ landing (around t) (step t n)
around-stands t n made =
    around-is t n ∙ around-suc n t n ∙ same-landing t n (around_by n t) (around t) (step t n) (λ m less. enough n (suc m) t m (omega arith) less (omega arith) ∙ sym (around-is t m)) (is-step t n made)

below-landing : (t : Tree) (n : ℕ) (f : ℕ → ℕ) (s : Step) → ((m : ℕ) → m < n → f m ≤ m) → IsOutwards t n s → landing f s < n
below-landing t n f (Within s) low h = h.0
below-landing t n f (Beside m) low h = omega (arith, h, low m h)

pub around-before : (t : Tree) (n : ℕ) → n < count_of t → 0 < n → around t n < n
around-before t n made some =
    let least = below-landing t n (around t) (step t n) (λ m less. around-le t m (omega arith)) (step-outwards t n made some) in
    let e = around-stands t n made in
    rw e least

-- ---- what is stood in opens a scope

opens-landing : (t : Tree) (n : ℕ) (f : ℕ → ℕ) (s : Step) → opens (kind_of t 0) ≡ true → ((m : ℕ) → m < n → opens (kind_of t (f m)) ≡ true) → IsStep t n s → opens (kind_of t (landing f s)) ≡ true
opens-landing t n f (Within s) root below h = ⊎_elim (λ r. subst (λ (o : ℕ). opens (kind_of t o) ≡ true) (sym (within-same s r.1)) root) (λ out. out.1.1) h
  where
    within-same : (s : ℕ) → Within s ≡ Within 0 → s ≡ 0
    within-same s e = cc
opens-landing t n f (Beside m) root below h = ⊎_elim (λ r. absurd (not-within m r.1)) (λ out. below m out.1) h
  where
    not-within : (m : ℕ) → Beside m ≡ Within 0 → ⊥
    not-within m e = cc

opened-by : (k : ℕ) (t : Tree) (n : ℕ) → opens (kind_of t 0) ≡ true → n < count_of t → opens (kind_of t (around_by k t n)) ≡ true
opened-by zero t n root made = rw around-zero root
opened-by (suc k) t n root made = rw around-suc (opens-landing t n (around_by k t) (step t n) root (λ m low. opened-by k t m root (omega arith)) (is-step t n made))

module-opens : opens kinds.Module ≡ true
unfolding opens
module-opens = refl

root-kind : (t : Tree) → kind_of t 0 ≡ t.node.kind
unfolding entry_at entries
root-kind t = refl

pub around-opened : (t : Tree) → IsShaped t → (n : ℕ) → n < count_of t → opens (kind_of t (around t n)) ≡ true
around-opened t shaped n made = rw around-is (opened-by (suc n) t n (ap opens (root-kind t ∙ shaped.root) ∙ module-opens) made)

-- ---- chains

chain-zero : (t : Tree) (s : ℕ) → chain_by zero t s ≡ 0 ∷ []
unfolding chain_by
chain-zero t s = refl

chain-suc : (k : ℕ) (t : Tree) (s : ℕ) → chain_by (suc k) t s ≡ cond (eqb s 0) (0 ∷ []) (s ∷ chain_by k t (around t s))
unfolding chain_by
chain-suc k t s = refl

chain-at-root : (k : ℕ) (t : Tree) (s : ℕ) → s ≡ 0 → chain_by k t s ≡ 0 ∷ []
chain-at-root zero t s e = chain-zero t s
chain-at-root (suc k) t s e = chain-suc k t s ∙ rw e refl

chain-above : (k : ℕ) (t : Tree) (s : ℕ) → 0 < s → chain_by (suc k) t s ≡ s ∷ chain_by k t (around t s)
chain-above k t s some = chain-suc k t s ∙ ap (λ (b : Bool). cond b (0 ∷ []) (s ∷ chain_by k t (around t s))) (ne_eqb s 0 (λ e. absurd (omega arith)))

chain-enough : (k j : ℕ) (t : Tree) (s : ℕ) → s < count_of t → s ≤ k → s ≤ j → (s ≡ 0) ⊎ (0 < s) → chain_by k t s ≡ chain_by j t s
chain-enough k j t s made low more (inl e) = chain-at-root k t s e ∙ sym (chain-at-root j t s e)
chain-enough zero j t s made low more (inr some) = absurd (omega arith)
chain-enough (suc k) zero t s made low more (inr some) = absurd (omega arith)
chain-enough (suc k) (suc j) t s made low more (inr some) =
    let less = around-before t s made some in
    chain-above k t s some ∙ ap (λ (os : List ℕ). s ∷ os) (chain-enough k j t (around t s) (omega arith) (omega arith) (omega arith) (zero_or_more (around t s))) ∙ sym (chain-above j t s some)

chain-is : (t : Tree) (s : ℕ) → chain t s ≡ chain_by s t s
unfolding chain
chain-is t s = refl

pub chain-outwards : (t : Tree) (s : ℕ) → s < count_of t → 0 < s → chain t s ≡ s ∷ chain t (around t s)
chain-outwards t zero made some = absurd (omega arith)
chain-outwards t (suc s) made some =
    let less = around-before t (suc s) made some in
    chain-is t (suc s) ∙ chain-above s t (suc s) some
    ∙ ap (λ (os : List ℕ). suc s ∷ os) (chain-enough s (around t (suc s)) t (around t (suc s)) (omega arith) (omega arith) (omega arith) (zero_or_more (around t (suc s))) ∙ sym (chain-is t (around t (suc s))))

pub chain-module : (t : Tree) (s : ℕ) → s ≡ 0 → chain t s ≡ 0 ∷ []
chain-module t s e = chain-is t s ∙ chain-at-root s t s e

chained-by : (t : Tree) (s : ℕ) → s < count_of t → (s ≡ 0) ⊎ (0 < s) → chain t s ≡ cond (eqb s 0) (0 ∷ []) (s ∷ chain t (around t s))
chained-by t s made (inl e) = chain-module t s e ∙ rw e refl
chained-by t s made (inr some) =
    chain-outwards t s made some ∙ ap (λ (b : Bool). cond b (0 ∷ []) (s ∷ chain t (around t s))) (sym (ne_eqb s 0 (λ e. absurd (omega arith))))

pub nested : (t : Tree) → AreNested t
nested t = record {
  stands = around-stands t;
  before = around-before t;
  chained = λ s made. chained-by t s made (zero_or_more s);
  opened = around-opened t;
}
