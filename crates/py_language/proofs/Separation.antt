-- Phrases with separators between them, and maybe one behind the last.
use Rattle.std.proofs.Common.{◌≡◌, ℕ, zero, suc, ◌+◌, ◌≤◌, true, false, List, [], ◌∷◌, ◌++◌, length, inl, inr, refl, sym, ap, subst, ◌∙◌, append_assoc, length-append, arith}
use Rattle.std.proofs.lemmas.List.{append-nil}
use Rattle.tree_nodes.specs.Trees.{Tree}
use Rattle.py_language.specs.Sets.{at, are_apart}
use Rattle.py_language.specs.Brackets.{Even}
use Rattle.py_language.specs.Languages.{Language, Then, Maybe, Times, Many, Skipped, Separated}
use Rattle.py_language.specs.Readers.{got, Reader, both, nothing, choose, skipped, more_items, separated}
use Rattle.py_language.proofs.SetLaws.{at_append}
use Rattle.py_language.proofs.BracketLaws.{even_append, even_token}
use Rattle.py_language.proofs.ReadingLaws.{regroup, after_some, both_at, choose_got, same_trees, same_rest}
use Rattle.py_language.proofs.Beginnings.{Begins, between, at_begins, begins_front, longer}
use Rattle.py_language.proofs.Agreement.{then_of, Agrees, skipped_sound}
use Rattle.py_language.proofs.Repetition.{times_begin, times_even}

-- what may stand behind the first item
Tail : {T : Type 0} → (T → ℕ) → List ℕ → Language T → Language T
Tail code separator a = Then (Many (Then (Skipped code separator) a)) (Maybe (Skipped code separator))

module _ {T : Type 0} (code : T → ℕ) (separator : List ℕ) (a : Language T) where
  tail_none : Tail code separator a [] []
  unfolding Tail
  tail_none = then_of (Many (Then (Skipped code separator) a)) (Maybe (Skipped code separator)) [] [] [] [] [] (0, (refl, refl)) (inr (refl, refl)) refl

  tail_last : (x : List T) (u : List Tree) → Skipped code separator x u → Tail code separator a x u
  unfolding Tail
  tail_last x u h = then_of (Many (Then (Skipped code separator) a)) (Maybe (Skipped code separator)) [] x [] u u (0, (refl, refl)) (inl h) refl

  tail_more : (x y z : List T) (u v w : List Tree) → Skipped code separator x u → a y v → Tail code separator a z w → Tail code separator a (x ++ (y ++ z)) (u ++ (v ++ w))
  unfolding Tail
  tail_more x y z u v w hx hy hz = record {
    front = (x ++ y) ++ hz.front;
    back = hz.back;
    front_out = (u ++ v) ++ hz.front_out;
    back_out = hz.back_out;
    first = (
      suc hz.first.0,
      then_of (Then (Skipped code separator) a) (Times (Then (Skipped code separator) a) hz.first.0) (x ++ y) hz.front (u ++ v) hz.front_out ((u ++ v) ++ hz.front_out)
          (then_of (Skipped code separator) a x y u v (u ++ v) hx hy refl) hz.first.1 refl,
    );
    second = hz.second;
    tokens = rw hz.tokens (simp append_assoc);
    trees = rw hz.trees (simp append_assoc);
  }

  finish_none : (ts : List T) (out : List Tree) (rest : List T) → got [] ts ≡ got out rest → (front : List T) × Tail code separator a front out × (ts ≡ front ++ rest)
  finish_none ts out rest e = ([], subst (λ (o : List Tree). Tail code separator a [] o) (same_trees [] out ts rest e) tail_none, same_rest [] out ts rest e)

  finish_last : (x ts mid rest : List T) (u v out : List Tree) → Skipped code separator x u → ts ≡ x ++ mid → got [] mid ≡ got v rest → out ≡ u ++ v
      → (front : List T) × Tail code separator a front out × (ts ≡ front ++ rest)
  finish_last x ts mid rest u v out sx tx e eo =
      let out_is : u ≡ out = sym (append-nil u) ∙ ap (λ (o : List Tree). u ++ o) (same_trees [] v mid rest e) ∙ sym eo in
      (x, subst (λ (o : List Tree). Tail code separator a x o) out_is (tail_last x u sx), tx ∙ ap (λ (w : List T). x ++ w) (same_rest [] v mid rest e))

  finish_more : (x y z ts mid mid' rest : List T) (u v w w' out : List Tree) → Skipped code separator x u → a y w → Tail code separator a z w' → ts ≡ x ++ mid → mid ≡ y ++ mid' → mid' ≡ z ++ rest → v ≡ w ++ w' → out ≡ u ++ v
      → (front : List T) × Tail code separator a front out × (ts ≡ front ++ rest)
  finish_more x y z ts mid mid' rest u v w w' out sx ay cz tx ty tz ev eo =
      (x ++ (y ++ z), rw (eo, ev) (tail_more x y z u w w' sx ay cz), rw (tx, ty, tz) (simp append_assoc))

module _ {T : Type 0} (code : T → ℕ) (opens closes : List ℕ) where
  separator_starts : {a : Language T} (separator : List ℕ) (front : List T) (out : List Tree) → Then (Skipped code separator) a front out → Begins code false separator front
  separator_starts separator front out h = rw (h.tokens, h.first.tokens) h.first.is_in

  maybe_starts : (separator : List ℕ) (y : List T) (v : List Tree) → Maybe (Skipped code separator) y v → Begins code true separator y
  maybe_starts separator y v h = elim h [ inl s ↦ rw s.tokens s.is_in | inr n ↦ rw n.0 refl ]

  last_separator : (f separator : List ℕ) (p : Reader T) (fuel : ℕ) (y rest : List T) (v : List Tree) → Maybe (Skipped code separator) y v → length y ≤ fuel → at code f rest ≡ false → at code separator rest ≡ false
      → more_items code separator f p fuel (y ++ rest) ≡ got v rest
  last_separator f separator p zero y rest v h l s1 s2 = elim h [ inl s ↦ absurd (omega (arith, ap length s.tokens)) | inr n ↦ rw (n.0, n.1) refl ]
  last_separator f separator p (suc k) y rest v h l s1 s2 = elim h [ inl s ↦ rw (s.tokens, s.trees, s.is_in, s1) refl | inr n ↦ rw (n.0, n.1, s2) refl ]

  more_complete : {f c separator : List ℕ} {p : Reader T} {a : Language T} → Agrees code opens closes false f c p a → are_apart c separator ≡ true
      → (n fuel : ℕ) (x y : List T) (u v : List Tree) (rest : List T) → Times (Then (Skipped code separator) a) n x u → Maybe (Skipped code separator) y v
      → length x + length y ≤ fuel → at code f rest ≡ false → at code separator rest ≡ false → at code c rest ≡ false
      → more_items code separator f p fuel (x ++ (y ++ rest)) ≡ got (u ++ v) rest
  more_complete {f} {c} {separator} {p} A sep zero fuel x y u v rest hx hy l s1 s2 s3 =
      let l2 : length y ≤ fuel = omega (arith, ap length hx.0) in
      rw (hx.0, hx.1) (last_separator f separator p fuel y rest v hy l2 s1 s2)
  more_complete {f} {c} {separator} {p} A sep (suc n) zero x y u v rest h hy l s1 s2 s3 =
      absurd (omega (arith, length-append h.front h.back, ap length h.tokens, longer code separator h.front (separator_starts separator h.front h.front_out h.first)))
  more_complete {f} {c} {separator} {p} {a} A sep (suc n) (suc k) x y u v rest h hy l s1 s2 s3 =
      let s = h.first in
      let t = s.first.token in
      let z = s.back in
      let more = h.back ++ (y ++ rest) in
      let x_is : x ++ (y ++ rest) ≡ t ∷ (z ++ more) = rw (h.tokens, s.tokens, s.first.tokens) (simp append_assoc) in
      let u_is : u ++ v ≡ s.back_out ++ (h.back_out ++ v) = rw (h.trees, s.trees, s.first.trees) (simp append_assoc) in
      let l2 : length h.back + length y ≤ k = omega (arith, length-append h.front h.back, ap length h.tokens, longer code separator h.front (separator_starts separator h.front h.front_out h.first)) in
      let stop : at code c more ≡ false =
      between code true separator c h.back (y ++ rest) (times_begin code separator (separator_starts separator) n h.back h.back_out h.second) sep (λ w. between code true separator c y rest (maybe_starts separator y v hy) sep (λ w'. s3)) in
      let e1 = A.complete z s.back_out more s.second stop in
      let e2 = more_complete A sep n k h.back y h.back_out v rest h.second hy l2 s1 s2 s3 in
      let e3 = at_begins code f z more (A.starts z s.back_out s.second) in
      let e4 = s.first.is_in in
      rw (x_is, u_is, e4, e3, e1, e2) refl

  more_sound : {f c : List ℕ} {p : Reader T} {a : Language T} (separator : List ℕ) → Agrees code opens closes false f c p a
      → (fuel : ℕ) (ts : List T) (out : List Tree) (rest : List T) → more_items code separator f p fuel ts ≡ got out rest → (front : List T) × Tail code separator a front out × (ts ≡ front ++ rest)
  more_sound {a = a} separator A zero ts out rest e = finish_none code separator a ts out rest e
  more_sound {f} {c} {p} {a} separator A (suc fuel) ts out rest e =
      let next = choose code f (both p (more_items code separator f p fuel)) nothing in
      elim (choose_got (at code separator ts) (both (skipped code separator) next ts) (nothing ts) out rest e) [
        | inr h ↦ finish_none code separator a ts out rest h
        | inl h ↦
            let (u, v, mid, e1, e2, e3) = after_some (skipped code separator ts) next out rest h in
            let (x, sx, tx) = skipped_sound code opens closes separator ts u mid e1 in
            elim (choose_got (at code f mid) (both p (more_items code separator f p fuel) mid) (nothing mid) v rest e2) [
              | inr g ↦ finish_last code separator a x ts mid rest u v out sx tx g e3
              | inl g ↦
                  let (w, w', mid', g1, g2, g3) = after_some (p mid) (more_items code separator f p fuel) v rest g in
                  let (y, ay, ty) = A.sound mid w mid' g1 in
                  let (z, cz, tz) = more_sound separator A fuel mid' w' rest g2 in
                  finish_more code separator a x y z ts mid mid' rest u v w w' out sx ay cz tx ty tz g3 e3
            ]
      ]

  pub separator_even : (a : Language T) (separator : List ℕ) → Even code opens closes a → are_apart opens separator ≡ true → are_apart closes separator ≡ true → Even code opens closes (Then (Skipped code separator) a)
  separator_even a separator A no_open no_close ts out h =
      rw (h.tokens, h.first.tokens) (even_append code opens closes (h.first.token ∷ []) h.back (even_token code opens closes separator h.first.token h.first.is_in no_open no_close) (A h.back h.back_out h.second))

  maybe_even : (separator : List ℕ) → are_apart opens separator ≡ true → are_apart closes separator ≡ true → Even code opens closes (Maybe (Skipped code separator))
  maybe_even separator no_open no_close ts out h d = elim h [ inl s ↦ rw s.tokens (even_token code opens closes separator s.token s.is_in no_open no_close d) | inr n ↦ rw n.0 refl ]

  pub separated_even : (a : Language T) (separator : List ℕ) → Even code opens closes a → are_apart opens separator ≡ true → are_apart closes separator ≡ true → Even code opens closes (Separated (Skipped code separator) a)
  separated_even a separator A no_open no_close ts out h =
      let t = h.second in
      let many_even = times_even code opens closes (Then (Skipped code separator) a) (separator_even a separator A no_open no_close) t.first.0 t.front t.front_out t.first.1 in
      rw (h.tokens, t.tokens) (even_append code opens closes h.front (t.front ++ t.back) (A h.front h.front_out h.first) (even_append code opens closes t.front t.back many_even (maybe_even separator no_open no_close t.back t.back_out t.second)))

  pub agree_separated : {f c : List ℕ} {p : Reader T} {a : Language T} (separator : List ℕ) → Agrees code opens closes false f c p a → are_apart opens separator ≡ true → are_apart closes separator ≡ true → are_apart c separator ≡ true
      → Agrees code opens closes false f (f ++ (separator ++ c)) (separated code separator f p) (Separated (Skipped code separator) a)
  unfolding Tail
  agree_separated {f} {c} {p} {a} separator A no_open no_close sep = record {
    sound = λ ts out rest e.
        let (u, v, mid, e1, e2, e3) = after_some (p ts) (λ (w : List T). more_items code separator f p (length w) w) out rest e in
        let (x, ax, tx) = A.sound ts u mid e1 in
        let (y, cy, ty) = more_sound separator A (length mid) mid v rest e2 in
        (x ++ y, then_of a (Then (Many (Then (Skipped code separator) a)) (Maybe (Skipped code separator))) x y u v out ax cy e3, regroup ts x mid y rest tx ty);
    complete = λ front out rest h safe.
        let (s1, s') = at_append code f (separator ++ c) rest safe in
        let (s2, s3) = at_append code separator c rest s' in
        let t = h.second in
        let back_is : h.back ++ rest ≡ t.front ++ (t.back ++ rest) = rw t.tokens (append_assoc t.front t.back rest) in
        let stop : at code c (h.back ++ rest) ≡ false =
        rw back_is (between code true separator c t.front (t.back ++ rest) (times_begin code separator (separator_starts separator) t.first.0 t.front t.front_out t.first.1) sep (λ w. between code true separator c t.back rest (maybe_starts separator t.back t.back_out t.second) sep (λ w'. s3))) in
        let e1 = A.complete h.front h.front_out (h.back ++ rest) h.first stop in
        let fits : length t.front + length t.back ≤ length (h.back ++ rest) = omega (arith, length-append h.back rest, length-append t.front t.back, ap length t.tokens) in
        let e2 = more_complete A sep t.first.0 (length (h.back ++ rest)) t.front t.back t.front_out t.back_out rest t.first.1 t.second fits s1 s2 s3 in
        let e3 : more_items code separator f p (length (h.back ++ rest)) (h.back ++ rest) ≡ got h.back_out rest =
        subst (λ (w : List T). more_items code separator f p (length (h.back ++ rest)) w ≡ got h.back_out rest) (sym back_is) (rw t.trees e2) in
        rw (h.tokens, h.trees) (both_at p (λ (w : List T). more_items code separator f p (length w) w) h.front h.back rest h.front_out h.back_out e1 e3);
    starts = λ front out h. rw h.tokens (begins_front code f h.front h.back (A.starts h.front h.front_out h.first));
    even = separated_even a separator A.even no_open no_close;
  }
