-- Right tables: the one with no entry, and what a merge makes of two.
use Rattle.std.proofs.Common.{◌≡◌, ℕ, sym, ◌∙◌, ap}
use Rattle.std.specs.Prelude.{Option, Some, None, IsSome}
use Rattle.std.specs.Ordering.{nat_cmp}
use Rattle.std.specs.FinMap.{get, empty, get-empty}
use Rattle.infer_sets.specs.Sets.{Set}
use Rattle.infer_equations.specs.Assignment.{Assignment, Map}
use Rattle.infer_equations.specs.Assignment.{either, overlaid}
use Rattle.infer_equations.specs.Least.{least}
use Rattle.infer_equations.proofs.Overlay.{get-overlaid}
use Rattle.infer_core.specs.Right.{IsRight}
use Rattle.infer_core.specs.Solving.{IsSolving}

some_none : (o : Option Set) (s : Set) → o ≡ None → o ≡ Some s → ⊥
some_none o s e f = cc

pub right-empty : (count limit : ℕ) (right : ℕ → Assignment → Set) (m : Map) → m ≡ empty → IsRight count limit right m
right-empty count limit right m e = record { at = λ v s f. absurd (some_none (get m v) s (ap (λ x. get x v) e ∙ get-empty nat_cmp v) f) }

is_not : (o : Option Set) → o ≡ None → IsSome o → ⊥
is_not None e h = absurd (let f = h in cc)
is_not (Some s) e h = absurd (let f = e in cc)

nothing : (m : Map) → m ≡ empty → (v : ℕ) → IsSome (get m v) → ⊥
nothing m e v has = is_not (get m v) (ap (λ x. get x v) e ∙ get-empty nat_cmp v) has

-- a solver that has solved nothing yet
pub solving-none : (count limit : ℕ) (right : ℕ → Assignment → Set) (base m : Map) → IsRight count limit right base → m ≡ empty → IsSolving count limit right base m
solving-none count limit right base m h e = record {
  base_right = h;
  solved_right = right-empty count limit right m e;
  apart = record { at = λ v has. absurd (nothing m e v has) };
  rests = record { at = λ v has. absurd (nothing m e v has) };
}

either_right : (o p : Option Set) (low s : Set) → ((x : Set) → o ≡ Some x → x ≡ low) → ((x : Set) → p ≡ Some x → x ≡ low) → either o p ≡ Some s → s ≡ low
either_right None p low s f g e = g s e
either_right (Some x) p low s f g e = f s e

-- both are right, so all entries are
pub right-overlaid : (count limit : ℕ) (right : ℕ → Assignment → Set) (m n : Map) → IsRight count limit right m → IsRight count limit right n → IsRight count limit right (overlaid m n)
right-overlaid count limit right m n f g = record { at = λ v s e. either_right (get m v) (get n v) (least count limit right v) s (f.at v) (g.at v) (sym (get-overlaid m n v) ∙ e) }
