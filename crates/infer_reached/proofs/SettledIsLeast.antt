-- Where nothing is left to do, each set of the tables is that of the least solution.
use Rattle.std.proofs.Common.{◌≡◌, ℕ, ◌<◌, inl, inr, refl, sym, ◌∙◌, ap, subst}
use Rattle.std.specs.Prelude.{Option, Some, None}
use Rattle.infer_sets.specs.Sets.{Set, Below}
use Rattle.infer_sets.proofs.SetOrder.{below-refl, below-antisym}
use Rattle.infer_equations.specs.Assignment.{Assignment, Map, Within, or_none}
use Rattle.infer_equations.specs.Least.{least}
use Rattle.infer_reached.specs.Tables.{found, assigned}
use Rattle.infer_reached.specs.Settled.{IsSettled}
use Rattle.infer_equations.proofs.Rounds.{Monotone, Limited, below-eq, least-solves, least-within}

-- the tables' sets, and the least solution elsewhere
filled : Assignment → Option Set → ℕ → Set
filled low None v = low v
filled low (Some s) v = s

module _ (count limit : ℕ) (right : ℕ → Assignment → Set) (mono : Monotone count right) (fits : Limited count limit right) where
  abbrev low : Assignment
  low = least count limit right

  abbrev fill : Map × Map → Assignment
  fill t v = filled low (found t v) v

  filled-low : (t : Map × Map) → Within (assigned t) low → (o : Option Set) (v : ℕ) → found t v ≡ o → Below (filled low o v) (low v)
  unfolding filled assigned
  filled-low t within None v e = below-refl (low v)
  filled-low t within (Some s) v e = subst (λ o. Below (or_none o) (low v)) e (within.at v)

  fill-low : (t : Map × Map) → Within (assigned t) low → Within (fill t) low
  fill-low t within = record { at = λ v. filled-low t within (found t v) v refl }

  -- where a table has the variable, the filled assignment is the assigned one
  fill-at : (t : Map × Map) (v : ℕ) (s : Set) → found t v ≡ Some s → assigned t v ≡ fill t v
  unfolding filled assigned
  fill-at t v s e = ap or_none e ∙ sym (ap (λ o. filled low o v) e)

  closed_by : (t : Map × Map) → Within (assigned t) low → ((v : ℕ) (s : Set) → found t v ≡ Some s → IsSettled right low t v s)
      → (v : ℕ) → v < count → (o : Option Set) → found t v ≡ o → Below (right v (fill t)) (filled low o v)
  unfolding filled
  closed_by t within settled v lt None e =
      subst (λ x. Below (right v (fill t)) x) (least-solves count limit right mono fits v lt) (mono v (fill t) low lt (fill-low t within))
  closed_by t within settled v lt (Some s) e =
      elim (settled v s e) [
        | inl is ↦ subst (λ x. Below (right v (fill t)) x) (least-solves count limit right mono fits v lt ∙ sym is) (mono v (fill t) low lt (fill-low t within))
        | inr h ↦ below-eq _ _ (h.again (fill t) (record { at = λ w c. fill-at t w (h.there w c).0 (h.there w c).1 }))
      ]

  pub settled_is_least : (t : Map × Map) → Within (assigned t) low → ((v : ℕ) (s : Set) → found t v ≡ Some s → IsSettled right low t v s)
      → (v : ℕ) (s : Set) → found t v ≡ Some s → s ≡ low v
  unfolding filled assigned
  settled_is_least t within settled v s e =
      let all = least-within count limit right mono fits (fill t) (λ v lt. closed_by t within settled v lt (found t v) refl) in
      below-antisym s (low v)
      (subst (λ o. Below (or_none o) (low v)) e (within.at v))
      (subst (λ o. Below (low v) (filled low o v)) e (all.at v))
