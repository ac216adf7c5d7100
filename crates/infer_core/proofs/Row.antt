-- Demands in a row: none, one, and rows behind one another.
use Rattle.std.proofs.Common.{◌≡◌, ℕ, suc, ◌+◌, ◌<◌, List, [], ◌∷◌, ◌++◌, length, get_or, take, refl, sym, ◌∙◌, ap, subst, inl, inr, arith}
use Rattle.std.specs.Prelude.{Result, Ok, Err, Option, Some, None, IsSome, ⊤}
use Rattle.std.specs.List.{Contains}
use Rattle.std.specs.FinMap.{get}
use Rattle.infer_sets.specs.Sets.{Set}
use Rattle.infer_equations.specs.Assignment.{Assignment, Map, either, overlaid}
use Rattle.infer_equations.proofs.Overlay.{get-overlaid}
use Rattle.infer_lazy.specs.Reach.{start, Lacking}
use Rattle.std.proofs.lemmas.List.{get_or_default}
use Rattle.std.proofs.Math.Seq.{take-suc}
use Rattle.std.proofs.lemmas.List.Elements.{Contains-push_cases}
use Rattle.infer_lazy.proofs.Members.{nothing-in}
use Rattle.infer_core.specs.Solving.{Solving}
use Rattle.infer_core.specs.Demand.{Gained, IsDemanded}
use Rattle.infer_core.specs.Row.{AreReached, Keeps, AreDemanded, AreSolved}
use Rattle.infer_core.specs.Laws.{RowsCompose}
use Rattle.infer_core.proofs.Costs.{cheap-add, cheap-none, cheap-gained, reach-on, reached-member, has_gained, gained-is, gained-not, keeps-then, kept-none, kept-some}

same_none : (o p : Option Set) → o ≡ None → IsSome o → ⊥
same_none None p e h = absurd (let f = h in cc)
same_none (Some s) p e h = absurd (let f = e in cc)

both_none : (o p : Option Set) → either o p ≡ None → (o ≡ None) × (p ≡ None)
both_none None p e = (refl, e)
both_none (Some s) p e = absurd (let f = e in cc)

none_both : (o p : Option Set) → o ≡ None → p ≡ None → either o p ≡ None
none_both None p e f = f
none_both (Some s) p e f = absurd (let g = e in cc)

pub keeps-itself : (a : Map) → Keeps a a
keeps-itself a = record { at = λ v s e. e }

gained_parts : (a b c : Map) (P : Type 0) (v : ℕ) (o : Option Set) → get b v ≡ o → Gained a c v → (Gained a b v → P) → (Gained b c v → P) → P
gained_parts a b c P v None e g f h = h (e, g.1)
gained_parts a b c P v (Some s) e g f h = f (g.0, subst IsSome (sym e) refl)

module _ {E : Type 0} (limit : ℕ) (low : Assignment) (reads : ℕ → Assignment → List ℕ) where
  pub row-none : {T F : Type 0} (starts : List ℕ) (s : Solving E) (n : ℕ) (t : T) → AreDemanded {F = F} limit low reads starts s s n n (Ok t)
  row-none starts s n t = record {
    equations = refl;
    base = refl;
    keeps = keeps-itself s.solved;
    reached = λ v g. absurd (same_none (get s.solved v) None g.0 g.1);
    cheap = cheap-none limit low reads (Gained s.solved s.solved) n;
    cheap_err = tt;
  }

  pub row-one : {T F : Type 0} (v : ℕ) (old new : Solving E) (x y : ℕ) (r : Result T F) → IsDemanded limit low reads old new v x y r → AreDemanded limit low reads (v ∷ []) old new x y r
  row-one v old new x y (Ok t) d = record {
    equations = d.equations;
    base = d.base;
    keeps = record { at = d.adds.keeps };
    reached = d.adds.reached;
    cheap = d.cheap;
    cheap_err = tt;
  }
  row-one v old new x y (Err f) d = record {
    equations = d.equations;
    base = d.base;
    keeps = record { at = λ w s e. ap (λ m. get m w) d.same ∙ e };
    reached = λ w g. absurd (same_none (get old.solved w) None g.0 (subst IsSome (ap (λ m. get m w) d.same) g.1));
    cheap = tt;
    cheap_err = d.cheap_err;
  }

  -- what was lacking behind the first row was lacking before it
  lacking-before : (starts vars : List ℕ) (a b : Solving E) (w : ℕ) → AreReached low reads starts vars → b.base ≡ a.base → Keeps a.solved b.solved
      → Lacking low reads (overlaid b.base b.solved) vars w → Lacking low reads (overlaid a.base a.solved) starts w
  lacking-before starts vars a b w h e k l =
      let n = both_none (get b.base w) (get b.solved w) (sym (get-overlaid b.base b.solved w) ∙ l.1) in (
        reach-on low reads starts vars w h l.0,
        get-overlaid a.base a.solved w ∙ none_both (get a.base w) (get a.solved w) (ap (λ m. get m w) (sym e) ∙ n.0) (kept-none a.solved b.solved w k n.1),
      )

  module _ {T U F G : Type 0} (starts vars : List ℕ) (a b c : Solving E) (x y z : ℕ) (t : T) (h : AreReached low reads starts vars) (d : AreDemanded {F = F} limit low reads starts a b x y (Ok t)) where
    reached-both : (r : Result U G) → AreDemanded limit low reads vars b c y z r → (v : ℕ) → Gained a.solved c.solved v → Lacking low reads (overlaid a.base a.solved) starts v
    reached-both r e v g =
        gained_parts a.solved b.solved c.solved (Lacking low reads (overlaid a.base a.solved) starts v) v (get b.solved v) refl g (d.reached v) (λ k. lacking-before starts vars a b v h d.base d.keeps (e.reached v k))

    -- rows behind one another are a row
    pub row-behind : (r : Result U G) → AreDemanded limit low reads vars b c y z r → AreDemanded limit low reads starts a c x z r
    row-behind (Ok u) e = record {
      equations = e.equations ∙ d.equations;
      base = e.base ∙ d.base;
      keeps = keeps-then a.solved b.solved c.solved d.keeps e.keeps;
      reached = reached-both (Ok u) e;
      cheap = cheap-gained limit low reads a.solved b.solved c.solved x y z d.keeps e.keeps d.cheap e.cheap;
      cheap_err = tt;
    }
    row-behind (Err f) e = record {
      equations = e.equations ∙ d.equations;
      base = e.base ∙ d.base;
      keeps = keeps-then a.solved b.solved c.solved d.keeps e.keeps;
      reached = reached-both (Err f) e;
      cheap = tt;
      cheap_err = cheap-add limit low reads (Gained a.solved b.solved) (Lacking low reads (overlaid b.base b.solved) vars) (Lacking low reads (overlaid a.base a.solved) starts) x y z (has_gained a.solved b.solved)
          (gained-is a.solved b.solved) (λ v l. gained-not a.solved b.solved v (both_none (get b.base v) (get b.solved v) (sym (get-overlaid b.base b.solved v) ∙ l.1)).1)
          d.reached (λ v l. lacking-before starts vars a b v h d.base d.keeps l) d.cheap e.cheap_err;
    }

-- one demand more, of what the starts reach
pub row-next : {E T F : Type 0} (limit : ℕ) (low : Assignment) (reads : ℕ → Assignment → List ℕ) (starts : List ℕ) (a b c : Solving E) (x y z v : ℕ) (r : Result T F) → Contains starts v
    → AreDemanded {T = ⊤} {F = ⊤} limit low reads starts a b x y (Ok tt) → IsDemanded limit low reads b c v y z r → AreDemanded limit low reads starts a c x z r
row-next limit low reads starts a b c x y z v r h d e = row-behind limit low reads starts (v ∷ []) a b c x y z tt (reached-member low reads starts v (start h)) d r (row-one limit low reads v b c y z r e)

-- what has a set keeps one behind a further demand
solved-kept : (base : Map) (own new : Map) (v : ℕ) → Keeps own new → (o : Option Set) → get base v ≡ o → IsSome (either o (get own v)) → IsSome (either o (get new v))
solved-kept base own new v k None e h = kept-some own new v k h
solved-kept base own new v k (Some s) e h = refl

pub solved-none : {E : Type 0} (s : Solving E) → AreSolved [] s
solved-none s = record { at = λ v c. absurd (nothing-in v c) }

pub solved-next : {E T F : Type 0} (limit : ℕ) (low : Assignment) (reads : ℕ → Assignment → List ℕ) (vars : List ℕ) (b c : Solving E) (v y z : ℕ) (t : T) → AreSolved vars b → IsDemanded {F = F} limit low reads b c v y z (Ok t) → AreSolved (vars ++ v ∷ []) c
solved-next limit low reads vars b c v y z t s d = record {
  at = λ w h. elim (Contains-push_cases vars v w h) [
    | inl old ↦
        subst IsSome (sym (get-overlaid c.base c.solved w)) (subst (λ m. IsSome (either (get m w) (get c.solved w))) (sym d.base)
        (solved-kept b.base b.solved c.solved w (record { at = d.adds.keeps }) (get b.base w) refl (subst IsSome (get-overlaid b.base b.solved w) (s.at w old))))
    | inr is ↦ subst (λ q. IsSome (get (overlaid c.base c.solved) q)) is (subst (λ m. IsSome (get (overlaid m c.solved) v)) (sym d.base) d.adds.has)
  ];
}

-- another answer says the same
row-answer : {E T F U G : Type 0} (limit : ℕ) (low : Assignment) (reads : ℕ → Assignment → List ℕ) (starts : List ℕ) (a b : Solving E) (x y : ℕ) (t : T) (u : U) → AreDemanded {F = F} limit low reads starts a b x y (Ok t) → AreDemanded {F = G} limit low reads starts a b x y (Ok u)
row-answer limit low reads starts a b x y t u d = record { equations = d.equations; base = d.base; keeps = d.keeps; reached = d.reached; cheap = d.cheap; cheap_err = tt }

pub at-place : (xs : List ℕ) (i : ℕ) → i < length xs → Contains xs (get_or xs i 0)
at-place xs i l = (i, l, get_or_default xs i (get_or xs i 0) 0 l)

take-next : (xs : List ℕ) (n : ℕ) → n < length xs → take (n + 1) xs ≡ take n xs ++ get_or xs n 0 ∷ []
take-next xs n l = let e : n + 1 ≡ suc n = omega arith in ap (λ m. take m xs) e ∙ take-suc xs n 0 l

-- a solver whose equations are q, after a row of demands of the starts, the first n of which have their sets
abbrev pub IsRow : {E : Type 0} (limit : E → ℕ) (low : E → Assignment) (reads : E → ℕ → Assignment → List ℕ) (q : E) (starts : List ℕ) (n : ℕ) (a b : Solving E) (x y : ℕ) → Type 0
IsRow limit low reads q starts n a b x y = (b.equations ≡ q) × AreDemanded {T = ⊤} {F = ⊤} (limit q) (low q) (reads q) starts a b x y (Ok tt) × AreSolved (take n starts) b

module _ {E T F : Type 0} (limit : E → ℕ) (low : E → Assignment) (reads : E → ℕ → Assignment → List ℕ) (q : E) (starts : List ℕ) (n : ℕ) (a b c : Solving E) (x y z : ℕ) (r : Result T F) (l : n < length starts) (h : IsRow limit low reads q starts n a b x y)
    (d : IsDemanded (limit b.equations) (low b.equations) (reads b.equations) b c (get_or starts n 0) y z r) where
  of_q : IsDemanded (limit q) (low q) (reads q) b c (get_or starts n 0) y z r
  of_q = subst (λ e. IsDemanded (limit e) (low e) (reads e) b c (get_or starts n 0) y z r) h.0 d

  row-any : AreDemanded (limit q) (low q) (reads q) starts a c x z r
  row-any = row-next (limit q) (low q) (reads q) starts a b c x y z (get_or starts n 0) r (at-place starts n l) h.1 of_q

  pub row-refused : (f : F) → r ≡ Err f → AreDemanded {T = T} (limit q) (low q) (reads q) starts a c x z (Err f)
  row-refused f e = subst (λ s. AreDemanded (limit q) (low q) (reads q) starts a c x z s) e row-any

  pub row-longer : (t : T) → r ≡ Ok t → IsRow limit low reads q starts (n + 1) a c x z
  row-longer t e = (
    d.equations ∙ h.0,
    row-answer (limit q) (low q) (reads q) starts a c x z t tt (subst (λ s. AreDemanded (limit q) (low q) (reads q) starts a c x z s) e row-any),
    subst (λ vs. AreSolved vs c) (sym (take-next starts n l)) (solved-next (limit q) (low q) (reads q) (take n starts) b c (get_or starts n 0) y z t h.2 (subst (λ s. IsDemanded (limit q) (low q) (reads q) b c (get_or starts n 0) y z s) e of_q)),
  )

pub rows-compose : (E : Type 0) → RowsCompose E
rows-compose E = record {
  nothing = λ limit low reads starts s n. row-none limit low reads starts s n tt;
  one = λ limit low reads v old new x y r. row-one limit low reads v old new x y r;
  behind = λ limit low reads starts vars a b c x y z r h d e. row-behind limit low reads starts vars a b c x y z tt h d r e;
}
