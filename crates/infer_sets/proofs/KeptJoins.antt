-- A join that is remembered, and one that is refused.
use Rattle.std.proofs.Common.{◌≡◌, ℕ, ◌<◌, List, ◌++◌, length, take, refl, sym, ◌∙◌, ap, subst}
use Rattle.std.specs.Prelude.{Result, Ok, Err, IfOk, OnErr}
use Rattle.std.specs.FinMap as map
use Rattle.infer_sets.specs.Sets.{Set, joined}
use Rattle.infer_sets.specs.Numbers.{set_at, IsNumber, AreApart, Grew, with_set}
use Rattle.infer_sets.specs.Joins.{Pair, Joins, Layer, joins_of, AreJoined}
use Rattle.infer_sets.proofs.Growth.{grew-refl, apart-with_set, with_set-back}
use Rattle.infer_sets.proofs.Layers.{joined-insert, joined-grew, with_set-grew_by, below-kept, number-joined}

-- what was added is taken back
pub taken-back : (xs ys zs : List Set) (s : Set) (n : ℕ) → zs ≡ take n ys → ys ≡ with_set xs s → n ≡ length xs → zs ≡ xs
taken-back xs ys zs s n e h l = e ∙ ap (λ m. take m ys) l ∙ ap (take (length xs)) h ∙ with_set-back xs s

module _ (bs os : List Set) (view : List Set) (same : bs ++ os ≡ view) (es fs : List (Pair × ℕ)) (a b limit : ℕ) (s : Set)
    (la : a < length view) (lb : b < length view) (right : s ≡ joined limit (set_at view a) (set_at view b)) (inv : AreApart (bs ++ os) × AreJoined (bs ++ os) (joins_of es)) where
  right_here : s ≡ joined limit (set_at (bs ++ os) a) (set_at (bs ++ os) b)
  right_here = subst (λ xs. s ≡ joined limit (set_at xs a) (set_at xs b)) (sym same) right

  -- the set comes behind, or all is as it was
  pub behind-kept : {F : Type 0} (ns : List Set) (r : Result ℕ F) → IfOk r (λ id. (bs ++ ns ≡ with_set (bs ++ os) s) × IsNumber (bs ++ ns) id s) → IfOk r (λ id. joins_of fs ≡ map.insert (joins_of es) (a, b, limit) id)
      → OnErr r (ns ≡ os) → OnErr r (fs ≡ es) → AreApart (bs ++ ns) × AreJoined (bs ++ ns) (joins_of fs)
  behind-kept ns (Ok id) ok joins err jerr =
      let grew = with_set-grew_by (bs ++ os) (bs ++ ns) s ok.0 in
      let here = subst (λ xs. a < length xs) (sym same) la in
      let there = subst (λ xs. b < length xs) (sym same) lb in (
        subst AreApart (sym ok.0) (apart-with_set (bs ++ os) s inv.0),
        subst (AreJoined (bs ++ ns)) (sym joins)
            (joined-insert (bs ++ ns) (joins_of es) a b limit id (below-kept (bs ++ os) (bs ++ ns) a grew here) (below-kept (bs ++ os) (bs ++ ns) b grew there)
            (number-joined (bs ++ os) (bs ++ ns) limit a b id s (set_at (bs ++ os) a) (set_at (bs ++ os) b) grew here there refl refl right_here ok.1) (joined-grew (bs ++ os) (bs ++ ns) (joins_of es) grew inv.1)),
      )
  behind-kept ns (Err f) ok joins err jerr =
      subst (λ ys. AreApart (bs ++ ys) × AreJoined (bs ++ ys) (joins_of fs)) (sym err) (inv.0, subst (λ gs. AreJoined (bs ++ os) (joins_of gs)) (sym jerr) inv.1)

pub grew-result : {F : Type 0} (u v : Layer) (s : Set) (r : Result ℕ F) → IfOk r (λ id. (v.sets ≡ with_set u.sets s) × IsNumber v.sets id s) → OnErr r (v ≡ u) → Grew u.sets v.sets
grew-result u v s (Ok id) ok err = with_set-grew_by u.sets v.sets s ok.0
grew-result u v s (Err f) ok err = subst (λ (w : Layer). Grew u.sets w.sets) (sym err) (grew-refl u.sets)

-- the number of a set that was there
pub old-number : {F : Type 0} (us vs : List Set) (before after : Joins) (s : Set) (p : Pair) (id : ℕ) (r : Result ℕ F) → us ≡ with_set us s → IsNumber us id s → vs ≡ us → IfOk r (λ n. (n ≡ id) × (after ≡ map.insert before p id))
    → IfOk r (λ n. (vs ≡ with_set us s) × IsNumber vs n s) × IfOk r (λ n. after ≡ map.insert before p n)
old-number us vs before after s p id (Ok n) w k e ok = ((e ∙ w, subst (λ xs. IsNumber xs n s) (sym e) (subst (λ m. IsNumber us m s) (sym ok.0) k)), subst (λ m. after ≡ map.insert before p m) (sym ok.0) ok.1)
old-number us vs before after s p id (Err f) w k e ok = (tt, tt)
