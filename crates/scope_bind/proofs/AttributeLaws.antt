-- Which targets are deleted: those of a `del`, and those in a group that is deleted.
use Rattle.std.proofs.Common.{◌≡◌, ℕ, zero, suc, ◌+◌, ◌<◌, ◌≤◌, Bool, true, false, ◌&&◌, ◌||◌, refl, sym, ap, subst, ◌∙◌, arith, Option, Some, None, ◌⊎◌, ⊎_elim}
use Rattle.tree_nodes.specs.Trees.{Tree, count_of, parent_at}
use Rattle.tree_nodes.proofs.EntryLaws.{parent-cases}
use Rattle.scope_rules.specs.Nodes.{kind_of}
use Rattle.scope_rules.specs.Answers.{is_group, is_delete, deleted_above, is_deleted_by, is_deleted}

by-suc : (k : ℕ) (t : Tree) (n : ℕ) → is_deleted_by (suc k) t n ≡ deleted_above (is_deleted_by k t) t (parent_at t n)
unfolding is_deleted_by
by-suc k t n = refl

deleted-is : (t : Tree) (n : ℕ) → is_deleted t n ≡ is_deleted_by (suc n) t n
unfolding is_deleted
deleted-is t n = refl

same-above : (t : Tree) (n : ℕ) (f g : ℕ → Bool) (p : Option ℕ) → ((q : ℕ) → p ≡ Some q → f q ≡ g q) → deleted_above f t p ≡ deleted_above g t p
same-above t n f g None same = refl
same-above t n f g (Some q) same = ap (λ (b : Bool). is_delete (kind_of t q) || (is_group (kind_of t q) && b)) (same q refl)

some-inner : (p q : ℕ) → Some p ≡ Some q → p ≡ q
some-inner p q e = cc

none-some : (q : ℕ) → None ≡ Some q → ⊥
none-some q e = cc

pub parent_low : (t : Tree) (n q : ℕ) → n < count_of t → parent_at t n ≡ Some q → q < n
parent_low t n q made e =
    ⊎_elim (λ root. absurd (none-some q (sym root.1 ∙ e))) (λ under. omega (arith, some-inner under.0 q (sym under.1 ∙ e), under.2)) (parent-cases t n made)

enough : (k j : ℕ) (t : Tree) (n : ℕ) → n < count_of t → n < k → n < j → is_deleted_by k t n ≡ is_deleted_by j t n
enough zero j t n made low more = absurd (omega arith)
enough (suc k) zero t n made low more = absurd (omega arith)
enough (suc k) (suc j) t n made low more =
    by-suc k t n
    ∙ same-above t n (is_deleted_by k t) (is_deleted_by j t) (parent_at t n) (λ q e. let less = parent_low t n q made e in enough k j t q (omega arith) (omega arith) (omega arith))
    ∙ sym (by-suc j t n)

deleted-below : (t : Tree) (n : ℕ) → n < count_of t → is_deleted t n ≡ deleted_above (is_deleted t) t (parent_at t n)
deleted-below t n made =
    deleted-is t n ∙ by-suc n t n
    ∙ same-above t n (is_deleted_by n t) (is_deleted t) (parent_at t n) (λ q e. let less = parent_low t n q made e in enough n (suc q) t q (omega arith) (omega arith) (omega arith) ∙ sym (deleted-is t q))

pub deleted_some : (t : Tree) (n q : ℕ) (b : Bool) → n < count_of t → parent_at t n ≡ Some q → b ≡ is_deleted t q → (is_delete (kind_of t q) || (is_group (kind_of t q) && b)) ≡ is_deleted t n
deleted_some t n q b made e same =
    ap (λ (b : Bool). is_delete (kind_of t q) || (is_group (kind_of t q) && b)) same ∙ sym (deleted-below t n made ∙ ap (deleted_above (is_deleted t) t) e)

pub deleted_none : (t : Tree) (n : ℕ) → n < count_of t → parent_at t n ≡ None → false ≡ is_deleted t n
deleted_none t n made e = sym (deleted-below t n made ∙ ap (deleted_above (is_deleted t) t) e)
