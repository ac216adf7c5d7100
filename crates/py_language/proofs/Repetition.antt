-- Any number of phrases, one behind the other, and one or more.
use Rattle.std.proofs.Common.{◌≡◌, ℕ, zero, suc, ◌≤◌, true, false, List, [], ◌++◌, length, inl, inr, refl, ap, append_assoc, length-append, arith}
use Rattle.tree_nodes.specs.Trees.{Tree}
use Rattle.py_language.specs.Sets.{at, are_apart}
use Rattle.py_language.specs.Brackets.{Even}
use Rattle.py_language.specs.Languages.{Language, Times, Many, Some}
use Rattle.py_language.specs.Readers.{got, Reader, both, nothing, times, many, some}
use Rattle.py_language.proofs.SetLaws.{at_append}
use Rattle.py_language.proofs.BracketLaws.{even_append}
use Rattle.py_language.proofs.ReadingLaws.{regroup, after_some, both_at, choose_got}
use Rattle.py_language.proofs.Beginnings.{Begins, between, at_begins, begins_front, begins_maybe, longer}
use Rattle.py_language.proofs.Agreement.{then_of, Agrees, agree_both}

module _ {T : Type 0} (code : T → ℕ) where
  pub times_begin : (f : List ℕ) {a : Language T} → ((front : List T) (out : List Tree) → a front out → Begins code false f front) → (n : ℕ) (front : List T) (out : List Tree) → Times a n front out
      → Begins code true f front
  times_begin f A zero front out h = rw h.0 refl
  times_begin f A (suc n) front out h = rw h.tokens (begins_maybe code f (h.front ++ h.back) (begins_front code f h.front h.back (A h.front h.front_out h.first)))

module _ {T : Type 0} (code : T → ℕ) (opens closes : List ℕ) where
  pub times_even : (a : Language T) → Even code opens closes a → (n : ℕ) → Even code opens closes (Times a n)
  times_even a A zero ts out h d = rw h.0 refl
  times_even a A (suc n) ts out h d = rw h.tokens (even_append code opens closes h.front h.back (A h.front h.front_out h.first) (times_even a A n h.back h.back_out h.second) d)

  times_complete : {f c : List ℕ} {p : Reader T} {a : Language T} → Agrees code opens closes false f c p a → are_apart c f ≡ true
      → (n fuel : ℕ) (front : List T) (out : List Tree) (rest : List T) → Times a n front out → length front ≤ fuel → at code f rest ≡ false → at code c rest ≡ false
      → times code f p fuel (front ++ rest) ≡ got out rest
  times_complete A sep zero zero front out rest h l s1 s2 = rw (h.0, h.1) refl
  times_complete A sep zero (suc fuel) front out rest h l s1 s2 = rw (h.0, h.1, s1) refl
  times_complete {f} {c} {p} {a} A sep (suc n) zero front out rest h l s1 s2 =
      let l1 = longer code f h.front (A.starts h.front h.front_out h.first) in
      absurd (omega (arith, length-append h.front h.back, ap length h.tokens))
  times_complete {f} {c} {p} {a} A sep (suc n) (suc fuel) front out rest h l s1 s2 =
      let b = A.starts h.front h.front_out h.first in
      let l1 = longer code f h.front b in
      let l2 : length h.back ≤ fuel = omega (arith, length-append h.front h.back, ap length h.tokens) in
      let e2 = times_complete A sep n fuel h.back h.back_out rest h.second l2 s1 s2 in
      let e1 = A.complete h.front h.front_out (h.back ++ rest) h.first (between code true f c h.back rest (times_begin code f A.starts n h.back h.back_out h.second) sep (λ w. s2)) in
      let e3 = both_at p (times code f p fuel) h.front h.back rest h.front_out h.back_out e1 e2 in
      let e4 : at code f ((h.front ++ h.back) ++ rest) ≡ true = rw append_assoc (at_begins code f h.front (h.back ++ rest) b) in
      rw (h.tokens, h.trees, e4) e3

  times_sound : {f c : List ℕ} {p : Reader T} {a : Language T} → Agrees code opens closes false f c p a
      → (fuel : ℕ) (ts : List T) (out : List Tree) (rest : List T) → times code f p fuel ts ≡ got out rest → (front : List T) × Many a front out × (ts ≡ front ++ rest)
  times_sound A zero ts out rest e = ([], (0, (refl, cc)), cc)
  times_sound {f} {c} {p} {a} A (suc fuel) ts out rest e =
      elim (choose_got (at code f ts) (both p (times code f p fuel) ts) (nothing ts) out rest e) [
        | inl h ↦
            let (u, v, mid, e1, e2, e3) = after_some (p ts) (times code f p fuel) out rest h in
            let (x, ax, tx) = A.sound ts u mid e1 in
            let (y, (n, ny), ty) = times_sound A fuel mid v rest e2 in
            (x ++ y, (suc n, then_of a (Times a n) x y u v out ax ny e3), regroup ts x mid y rest tx ty)
        | inr h ↦ ([], (0, (refl, cc)), cc)
      ]

  fits_in : (x y : List T) → length x ≤ length (x ++ y)
  fits_in x y = omega (arith, length-append x y)

  pub agree_many : {f c : List ℕ} {p : Reader T} {a : Language T} → Agrees code opens closes false f c p a → are_apart c f ≡ true
      → Agrees code opens closes true f (f ++ c) (many code f p) (Many a)
  agree_many {f} {c} {p} {a} A sep = record {
    sound = λ ts out rest e. times_sound A (length ts) ts out rest e;
    complete = λ front out rest h safe.
        let (s1, s2) = at_append code f c rest safe in
        times_complete A sep h.0 (length (front ++ rest)) front out rest h.1 (fits_in front rest) s1 s2;
    starts = λ front out h. times_begin code f A.starts h.0 front out h.1;
    even = λ front out h. times_even a A.even h.0 front out h.1;
  }

  pub agree_some : {f c : List ℕ} {p : Reader T} {a : Language T} → Agrees code opens closes false f c p a → are_apart c f ≡ true
      → Agrees code opens closes false (f ++ []) ((f ++ c) ++ c) (some code f p) (Some a)
  agree_some A sep = agree_both code opens closes A (agree_many A sep) sep
