-- Which nodes stand under others: what is known of a node by the one above it.
use Rattle.std.proofs.Common.{◌≡◌, ℕ, zero, suc, ◌<◌, Bool, true, false, ◌||◌, refl, sym, ap, ◌∙◌, arith, Option, Some, None}
use Rattle.tree_nodes.specs.Trees.{Tree, count_of, parent_at}
use Rattle.scope_bind.proofs.AttributeLaws.{parent_low}
use Rattle.unused_names.specs.Nodes.{asked_above, is_under_by, is_under}

by-suc : (test : ℕ → Bool) (k : ℕ) (t : Tree) (n : ℕ) → is_under_by (suc k) test t n ≡ (test n || asked_above (is_under_by k test t) (parent_at t n))
unfolding is_under_by
by-suc test k t n = refl

under-is : (test : ℕ → Bool) (t : Tree) (n : ℕ) → is_under test t n ≡ is_under_by (suc n) test t n
unfolding is_under
under-is test t n = refl

pub same_above : (f g : ℕ → Bool) (p : Option ℕ) → ((q : ℕ) → p ≡ Some q → f q ≡ g q) → asked_above f p ≡ asked_above g p
same_above f g None same = refl
same_above f g (Some q) same = same q refl

enough : (test : ℕ → Bool) (k j : ℕ) (t : Tree) (n : ℕ) → n < count_of t → n < k → n < j → is_under_by k test t n ≡ is_under_by j test t n
enough test zero j t n made low more = absurd (omega arith)
enough test (suc k) zero t n made low more = absurd (omega arith)
enough test (suc k) (suc j) t n made low more =
    by-suc test k t n
    ∙ ap (λ (b : Bool). test n || b) (same_above (is_under_by k test t) (is_under_by j test t) (parent_at t n) (λ q e. let less = parent_low t n q made e in enough test k j t q (omega arith) (omega arith) (omega arith)))
    ∙ sym (by-suc test j t n)

-- a node stands under one that passes where it passes itself, or where the node above does
pub under_above : (test : ℕ → Bool) (t : Tree) (n : ℕ) → n < count_of t → is_under test t n ≡ (test n || asked_above (is_under test t) (parent_at t n))
under_above test t n made =
    under-is test t n ∙ by-suc test n t n
    ∙ ap (λ (b : Bool). test n || b) (same_above (is_under_by n test t) (is_under test t) (parent_at t n) (λ q e. let less = parent_low t n q made e in enough test n (suc q) t q (omega arith) (omega arith) (omega arith) ∙ sym (under-is test t q)))

-- a node that passes itself
pub under_itself : (test : ℕ → Bool) (t : Tree) (n : ℕ) (b : Bool) → n < count_of t → b ≡ test n → b ≡ true → b ≡ is_under test t n
under_itself test t n b made e is = is ∙ sym (under_above test t n made ∙ ap (λ (p : Bool). p || asked_above (is_under test t) (parent_at t n)) (sym e ∙ is))

-- a node that does not
pub under_other : (test : ℕ → Bool) (t : Tree) (n : ℕ) (b above : Bool) → n < count_of t → b ≡ test n → b ≡ false → above ≡ asked_above (is_under test t) (parent_at t n) → above ≡ is_under test t n
under_other test t n b above made e none is = is ∙ sym (under_above test t n made ∙ ap (λ (p : Bool). p || asked_above (is_under test t) (parent_at t n)) (sym e ∙ none))
