-- Which nodes stand in guarded bodies: by the node above.
use Rattle.std.proofs.Common.{◌≡◌, ℕ, zero, suc, ◌<◌, Bool, false, not, ◌&&◌, ◌||◌, refl, sym, ap, ◌∙◌, arith, Option, Some, None}
use Rattle.tree_nodes.specs.Trees.{Tree, count_of, parent_at}
use Rattle.scope_rules.specs.Nodes.{kind_of}
use Rattle.scope_bind.proofs.AttributeLaws.{parent_low}
use Rattle.check_names.specs.Kinds.{is_clause}
use Rattle.check_names.specs.Guards.{is_guard, guarded_above, guarded_by, is_guarded}

by-suc : (k : ℕ) (t : Tree) (n : ℕ) → guarded_by (suc k) t n ≡ guarded_above (guarded_by k t) t n (parent_at t n)
unfolding guarded_by
by-suc k t n = refl

guarded-is : (t : Tree) (n : ℕ) → is_guarded t n ≡ guarded_by (suc n) t n
unfolding is_guarded
guarded-is t n = refl

same-above : (t : Tree) (n : ℕ) (f g : ℕ → Bool) (p : Option ℕ) → ((q : ℕ) → p ≡ Some q → f q ≡ g q) → guarded_above f t n p ≡ guarded_above g t n p
same-above t n f g None same = refl
same-above t n f g (Some q) same = ap (λ (b : Bool). (is_guard t q && not (is_clause (kind_of t n))) || b) (same q refl)

enough : (k j : ℕ) (t : Tree) (n : ℕ) → n < count_of t → n < k → n < j → guarded_by k t n ≡ guarded_by j t n
enough zero j t n made low more = absurd (omega arith)
enough (suc k) zero t n made low more = absurd (omega arith)
enough (suc k) (suc j) t n made low more =
    by-suc k t n
    ∙ same-above t n (guarded_by k t) (guarded_by j t) (parent_at t n) (λ q e. let less = parent_low t n q made e in enough k j t q (omega arith) (omega arith) (omega arith))
    ∙ sym (by-suc j t n)

guarded-below : (t : Tree) (n : ℕ) → n < count_of t → is_guarded t n ≡ guarded_above (is_guarded t) t n (parent_at t n)
guarded-below t n made =
    guarded-is t n ∙ by-suc n t n
    ∙ same-above t n (guarded_by n t) (is_guarded t) (parent_at t n) (λ q e. let less = parent_low t n q made e in enough n (suc q) t q (omega arith) (omega arith) (omega arith) ∙ sym (guarded-is t q))

pub guarded_some : (t : Tree) (n q : ℕ) (guard part guarded : Bool) → n < count_of t → parent_at t n ≡ Some q → guard ≡ is_guard t q → part ≡ not (is_clause (kind_of t n)) → guarded ≡ is_guarded t q → ((guard && part) || guarded) ≡ is_guarded t n
guarded_some t n q guard part guarded made above e f g =
    ap (λ (b : Bool). (b && part) || guarded) e ∙ ap (λ (b : Bool). (is_guard t q && b) || guarded) f ∙ ap (λ (b : Bool). (is_guard t q && not (is_clause (kind_of t n))) || b) g
    ∙ sym (guarded-below t n made ∙ ap (guarded_above (is_guarded t) t n) above)

pub guarded_none : (t : Tree) (n : ℕ) → n < count_of t → parent_at t n ≡ None → false ≡ is_guarded t n
guarded_none t n made e = sym (guarded-below t n made ∙ ap (guarded_above (is_guarded t) t n) e)
