-- Computations over a view, one after another.
use Rattle.std.proofs.Common.{◌≡◌, ℕ, List, [], ◌∷◌, ◌++◌, refl, sym, ◌∙◌, ap, subst, arith, append_assoc}
use Rattle.std.specs.List.{All, Contains}
use Rattle.std.proofs.lemmas.List.{append-nil}
use Rattle.std.proofs.lemmas.List.Elements.{All-push, Contains-push, Contains-append_left, Contains-append_right, All-append, All-weaker}
use Rattle.infer_sets.specs.Sets.{Set}
use Rattle.infer_sets.specs.Numbers.{IsNumber, Grew}
use Rattle.infer_sets.proofs.Growth.{grew-refl}
use Rattle.infer_equations.specs.Assignment.{Assignment, Map, assignment_of, overlaid, Agree}
use Rattle.infer_equations.specs.Seen.{Seen, sets, Keeps, Stays}
use Rattle.infer_equations.specs.Reading.{Reads, Gives}

pub grew-trans : (xs ys zs : List Set) → Grew xs ys → Grew ys zs → Grew xs zs
grew-trans xs ys zs g h = record { more = g.more ++ h.more; is = h.is ∙ ap (λ ws. ws ++ h.more) g.is ∙ append_assoc xs g.more h.more }

pub keeps-refl : (v : Seen) → Keeps v v
keeps-refl v = record { base = refl; own = refl; numbers = grew-refl v.numbers }

pub keeps-trans : (u v w : Seen) → Keeps u v → Keeps v w → Keeps u w
keeps-trans u v w h k = record { base = k.base ∙ h.base; own = k.own ∙ h.own; numbers = grew-trans u.numbers v.numbers w.numbers h.numbers k.numbers }

pub stays-refl : (v : Seen) → Stays v v
stays-refl v = record { keeps = keeps-refl v; work = refl }

pub stays-trans : (u v w : Seen) → Stays u v → Stays v w → Stays u w
stays-trans u v w h k = record { keeps = keeps-trans u v w h.keeps k.keeps; work = k.work ∙ h.work }

pub kept_solved : (u v : Seen) → Keeps u v → overlaid v.base v.own ≡ overlaid u.base u.own
kept_solved u v h = λ i. overlaid (h.base i) (h.own i)

-- the variables' sets stay
pub stays-sets : (u v : Seen) → Stays u v → sets v ≡ sets u
stays-sets u v h = λ i. overlaid (overlaid (h.keeps.base i) (h.keeps.own i)) (h.work i)

pub all-none : {X : Type 0} (P : X → Type 0) → All P []
all-none P k d l = absurd (omega arith)

-- one variable is read
pub reads-get : (v : ℕ) (before after : Seen) (s : Set) → Stays before after → after.noted ≡ before.noted ++ v ∷ [] → s ≡ assignment_of (sets before) v → Reads (λ a. a v) (λ _. v ∷ []) before after s
reads-get v before after s stays noted set = record {
  stays = stays;
  more = v ∷ [];
  noted = noted;
  within = All-push (λ w. Contains (v ∷ []) w) [] v (all-none _) (Contains-push [] v);
  value = set;
  local = λ b same. sym (same.at v (Contains-push [] v)) ∙ sym set;
}

-- nothing is read
pub reads-pure : {X : Type 0} (x : X) (r : Assignment → List ℕ) (u v : Seen) → Stays u v → v.noted ≡ u.noted → Reads (λ _. x) r u v x
reads-pure x r u v stays noted = record { stays = stays; more = []; noted = noted ∙ sym (append-nil u.noted); within = all-none _; value = refl; local = λ b same. refl }

-- a function of what was read
pub reads-map : {X Y : Type 0} (g : X → Y) (f : Assignment → X) (r : Assignment → List ℕ) (before after : Seen) (x : X) → Reads f r before after x → Reads (λ a. g (f a)) r before after (g x)
reads-map g f r before after x h = record { stays = h.stays; more = h.more; noted = h.noted; within = h.within; value = ap g h.value; local = λ b same. ap g (h.local b same) }

-- what the first gives tells what the second does
pub reads-then : {X Y : Type 0} (f : Assignment → X) (g : X → Assignment → Y) (r : Assignment → List ℕ) (q : X → Assignment → List ℕ) (u v w : Seen) (x : X) (y : Y)
    → Reads f r u v x → Reads (g x) (q x) v w y → Reads (λ a. g (f a) a) (λ a. r a ++ q (f a) a) u w y
reads-then f g r q u v w x y h k =
    let kept = stays-sets u v h.stays in
    record {
      stays = stays-trans u v w h.stays k.stays;
      more = h.more ++ k.more;
      noted = k.noted ∙ ap (λ xs. xs ++ k.more) h.noted ∙ append_assoc u.noted h.more k.more;
      within = All-append (λ z. Contains ((r (assignment_of (sets u))) ++ (q (f (assignment_of (sets u))) (assignment_of (sets u)))) z) h.more k.more
          (All-weaker (λ z. Contains (r (assignment_of (sets u))) z) (λ z. Contains ((r (assignment_of (sets u))) ++ (q (f (assignment_of (sets u))) (assignment_of (sets u)))) z) (λ z. Contains-append_left (r (assignment_of (sets u))) (q (f (assignment_of (sets u))) (assignment_of (sets u))) z) h.more h.within)
          (All-weaker (λ z. Contains (q x (assignment_of (sets v))) z) (λ z. Contains ((r (assignment_of (sets u))) ++ (q (f (assignment_of (sets u))) (assignment_of (sets u)))) z)
          (λ z c. Contains-append_right (r (assignment_of (sets u))) (q (f (assignment_of (sets u))) (assignment_of (sets u))) z
          (subst (λ p. Contains (q p (assignment_of (sets u))) z) h.value (subst (λ (es : Map). Contains (q x (assignment_of es)) z) kept c))) k.more k.within);
      value = k.value ∙ ap (λ (es : Map). g x (assignment_of es)) kept ∙ ap (λ p. g p (assignment_of (sets u))) h.value;
      local = λ b same.
          let first : Agree h.more (assignment_of (sets u)) b = record { at = λ z c. same.at z (Contains-append_left _ _ z c) } in
          let second : Agree k.more (assignment_of (sets v)) b = record { at = λ z c. ap (λ (t : Map). assignment_of t z) kept ∙ same.at z (Contains-append_right _ _ z c) } in
          ap (λ p. g p b) (h.local b first) ∙ k.local b second;
    }

-- the same function and the same list in other words
pub reads-as : {X : Type 0} (f g : Assignment → X) (r q : Assignment → List ℕ) (u v : Seen) (x : X) → ((a : Assignment) → f a ≡ g a) → ((a : Assignment) (w : ℕ) → Contains (r a) w → Contains (q a) w) → Reads f r u v x → Reads g q u v x
reads-as f g r q u v x e c h = record {
  stays = h.stays;
  more = h.more;
  noted = h.noted;
  within = All-weaker (λ z. Contains (r (assignment_of (sets u))) z) (λ z. Contains (q (assignment_of (sets u))) z) (c (assignment_of (sets u))) h.more h.within;
  value = h.value ∙ e (assignment_of (sets u));
  local = λ b same. sym (e b) ∙ h.local b same;
}

-- one number after another
pub gives-then : (f : Assignment → Set) (g : Set → Assignment → Set) (r : Assignment → List ℕ) (q : Set → Assignment → List ℕ) (u v w : Seen) (x y : ℕ)
    → (h : Gives f r u v x) → Gives (g h.set) (q h.set) v w y → Gives (λ a. g (f a) a) (λ a. r a ++ q (f a) a) u w y
gives-then f g r q u v w x y h k = record { set = k.set; numbered = k.numbered; reads = reads-then f g r q u v w h.set k.set h.reads k.reads }
