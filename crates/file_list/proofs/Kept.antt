-- A map from paths after one more entry, at a path where it had none.
use Rattle.std.proofs.Common.{◌≡◌, ℕ, Bool, true, false, cond, List, Option, None, Some, ◌⊎◌, inl, inr, refl, sym, ap, ◌∙◌}
use Rattle.std.specs.Str.{bytes_eq}
use Rattle.std.specs.BTreeMap as tree
use Rattle.std.specs.BTreeMap.{BTreeMap}
use Rattle.std.proofs.lemmas.Map.Text.{is_eq-slice_cmp}
use Rattle.std.proofs.lemmas.Slice.Eq.{bytes_eq-Decides}
use Rattle.lint_messages.specs.Order.{text_cmp}

pub same_text : (p q : List ℕ) → bytes_eq p q ≡ true → p ≡ q
same_text p q e = (bytes_eq-Decides p q).0 e

pub text_itself : (p : List ℕ) → bytes_eq p p ≡ true
text_itself p = (bytes_eq-Decides p p).1 refl

pub text_turned : (p q : List ℕ) → bytes_eq p q ≡ false → bytes_eq q p ≡ false
text_turned p q e = by_test (bytes_eq q p) refl
  where
    by_test : (b : Bool) → bytes_eq q p ≡ b → bytes_eq q p ≡ false
    by_test true t = let back : bytes_eq p q ≡ true = (bytes_eq-Decides p q).1 (sym (same_text q p t)) in absurd (let h = sym back ∙ e in cc)
    by_test false t = t

pub after_update : {X : Type 0} (before now : BTreeMap (List ℕ) X) (path : List ℕ) (x : X) → tree.Updates text_cmp before now path (Some x) → (q : List ℕ) → tree.get text_cmp now q ≡ cond (bytes_eq path q) (Some x) (tree.get text_cmp before q)
after_update before now path x updates q =
    updates.0 q ∙ ap (λ t. cond t (Some x) (tree.get text_cmp before q)) (is_eq-slice_cmp path q)

module _ {X : Type 0} (before now : List ℕ → Option X) (path : List ℕ) (x : X) (absent : before path ≡ None) (after : (q : List ℕ) → now q ≡ cond (bytes_eq path q) (Some x) (before q)) where
  -- what was kept stays
  pub stays : (q : List ℕ) (a : X) → before q ≡ Some a → now q ≡ Some a
  stays q a e = by_test (bytes_eq path q) refl
    where
      by_test : (b : Bool) → bytes_eq path q ≡ b → now q ≡ Some a
      by_test true t = let same : path ≡ q = same_text path q t in absurd (let h : None ≡ Some a = sym absent ∙ ap before same ∙ e in cc)
      by_test false t = after q ∙ ap (λ b. cond b (Some x) (before q)) t ∙ e

  pub there : now path ≡ Some x
  there = after path ∙ ap (λ b. cond b (Some x) (before path)) (text_itself path)

  -- what is kept now is the new entry, or was kept
  pub is_new_or_old : (q : List ℕ) (a : X) → now q ≡ Some a → ((path ≡ q) × (a ≡ x)) ⊎ ((bytes_eq path q ≡ false) × (before q ≡ Some a))
  is_new_or_old q a e = by_test (bytes_eq path q) refl
    where
      by_test : (b : Bool) → bytes_eq path q ≡ b → ((path ≡ q) × (a ≡ x)) ⊎ ((bytes_eq path q ≡ false) × (before q ≡ Some a))
      by_test true t = let h : Some a ≡ Some x = sym e ∙ after q ∙ ap (λ b. cond b (Some x) (before q)) t in inl (same_text path q t, cc)
      by_test false t = inr (t, sym (ap (λ b. cond b (Some x) (before q)) t) ∙ sym (after q) ∙ e)

  -- where nothing is kept, nothing was, and the new entry is elsewhere
  pub still_none : (q : List ℕ) → now q ≡ None → (before q ≡ None) × (bytes_eq path q ≡ false)
  still_none q e = by_test (bytes_eq path q) refl
    where
      by_test : (b : Bool) → bytes_eq path q ≡ b → (before q ≡ None) × (bytes_eq path q ≡ false)
      by_test true t = absurd (let h : None ≡ Some x = sym e ∙ after q ∙ ap (λ b. cond b (Some x) (before q)) t in cc)
      by_test false t = (sym (ap (λ b. cond b (Some x) (before q)) t) ∙ sym (after q) ∙ e, t)
