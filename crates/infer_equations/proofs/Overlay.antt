-- What the entries of two maps together have.
use Rattle.std.proofs.Common.{◌≡◌, ℕ, Bool, true, false, cond, List, [], ◌∷◌, ◌++◌, refl, sym, ◌∙◌, ap}
use Rattle.std.specs.Prelude.{Option, Some, None}
use Rattle.std.specs.Ordering.{nat_cmp, eq_by_cmp}
use Rattle.std.specs.Cmp.{nat_cmp_total}
use Rattle.std.specs.FinMap.{FinMap, get, find, empty, entries, get-from_entries, get-entries, get-empty, same_map, nat_cmp-IsAntisymmetric}
use Rattle.infer_equations.specs.Assignment.{either, overlaid}

module _ {X : Type 0} where
  choice : (b : Bool) (s : X) (x y : Option X) → cond b (Some s) (either x y) ≡ either (cond b (Some s) x) y
  choice true s x y = refl
  choice false s x y = refl

  find-append : (q : ℕ) (es fs : List (ℕ × X)) → find nat_cmp q (es ++ fs) ≡ either (find nat_cmp q es) (find nat_cmp q fs)
  find-append q [] fs = refl
  find-append q (e ∷ es) fs = ap (cond (eq_by_cmp nat_cmp q e.0) (Some e.1)) (find-append q es fs) ∙ choice (eq_by_cmp nat_cmp q e.0) e.1 (find nat_cmp q es) (find nat_cmp q fs)

  pub get-overlaid : (m n : FinMap nat_cmp X) (v : ℕ) → get (overlaid m n) v ≡ either (get m v) (get n v)
  unfolding overlaid
  get-overlaid m n v =
      get-from_entries nat_cmp_total (entries m ++ entries n) v
      ∙ find-append v (entries m) (entries n)
      ∙ ap (λ x. either x (find nat_cmp v (entries n))) (sym (get-entries m v))
      ∙ ap (λ x. either (get m v) x) (sym (get-entries n v))

  none_before : (b o : FinMap nat_cmp X) → b ≡ empty → o ≡ empty → (v : ℕ) → get (overlaid b o) v ≡ get {R = nat_cmp} empty v
  none_before b o e h v = get-overlaid b o v ∙ ap (λ m. either (get m v) (get o v)) e ∙ ap (λ x. either x (get o v)) (get-empty nat_cmp v) ∙ ap (λ m. get m v) h

  -- two empty maps together are empty
  pub overlaid-empty : (b o : FinMap nat_cmp X) → b ≡ empty → o ≡ empty → overlaid b o ≡ empty
  overlaid-empty b o e h = same_map nat_cmp_total nat_cmp-IsAntisymmetric (overlaid b o) empty (none_before b o e h)

  pub first_some : (s : X) (m n : FinMap nat_cmp X) (v : ℕ) → Some s ≡ get m v → Some s ≡ get (overlaid m n) v
  first_some s m n v e = ap (λ x. either x (get n v)) e ∙ sym (get-overlaid m n v)

  pub first_none : (o : Option X) (m n : FinMap nat_cmp X) (v : ℕ) → None ≡ get m v → o ≡ get n v → o ≡ get (overlaid m n) v
  first_none o m n v e h = h ∙ ap (λ x. either x (get n v)) e ∙ sym (get-overlaid m n v)
