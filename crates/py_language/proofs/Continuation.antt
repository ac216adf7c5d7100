-- What goes on behind trees that were read: phrases of a language, and steps to the left of what follows.
use Rattle.std.proofs.Common.{◌≡◌, ℕ, zero, suc, ◌+◌, ◌-◌, ◌≤◌, ◌<◌, Bool, true, false, List, [], ◌++◌, length, inl, inr, refl, sym, ap, subst, ◌∙◌, append_assoc, length-append, arith}
use Rattle.std.proofs.lemmas.List.{append-nil}
use Rattle.tree_nodes.specs.Trees.{Tree}
use Rattle.py_language.specs.Sets.{at, are_apart}
use Rattle.py_language.specs.Brackets.{IsEven, Even}
use Rattle.py_language.specs.Languages.{Language, Then, Either, Made, Steps, Stepwise}
use Rattle.py_language.specs.Readers.{Read, got, Reader, before, make, Cont, continue, followed, extended, pick, maybe_more, turns, in_turns}
use Rattle.py_language.proofs.SetLaws.{at_append}
use Rattle.py_language.proofs.BracketLaws.{even_append}
use Rattle.py_language.proofs.ReadingLaws.{regroup, choose_got, make_got, make_at, before_rest, continue_got, same_trees, same_rest}
use Rattle.py_language.proofs.Beginnings.{Begins, not_between, at_begins, begins_left, begins_right, begins_front, longer}
use Rattle.py_language.proofs.Agreement.{then_of, Agrees}

pub moved : {T : Type 0} (k : Cont T) (all all' : List T) (u : List Tree) (ts : List T) (r : Read T) → all ≡ all' → k all u ts ≡ r → k all' u ts ≡ r
moved {T} k all all' u ts r same e = subst (λ (w : List T). k w u ts ≡ r) same e

-- a node over what was read before and what is read now
extended_at : {T : Type 0} (over : List T → List Tree → List Tree) (x y front rest : List T) (u v parts out : List Tree) (r : Read T) → r ≡ got v rest → front ≡ x ++ y → parts ≡ u ++ v → out ≡ over front parts
    → make (λ z w. over z (u ++ w)) (x ++ (y ++ rest)) r ≡ got out rest
extended_at {T} over x y front rest u v parts out r e front_is parts_is out_is =
    let done = make_at (λ z w. over z (u ++ w)) (x ++ y) rest r v e in
    let same : over (x ++ y) (u ++ v) ≡ out = rw (out_is, parts_is, front_is) refl in
    ap (λ (w : List T). make (λ z v'. over z (u ++ v')) w r) (sym (append_assoc x y rest)) ∙ done ∙ ap (λ (o : List Tree). got o rest) same

module _ {T : Type 0} (code : T → ℕ) (opens closes : List ℕ) where
  -- a phrase of a step behind a: a phrase of a, and what k reads behind it, which begins in f or, where n says so, is nothing
  pub record Splits (n : Bool) (f c : List ℕ) (k : Cont T) (a : Language T) (front : List T) (out : List Tree) : Type 0 where
    pub x : List T
    pub y : List T
    pub u : List Tree
    pub inner : a x u
    pub tokens : front ≡ x ++ y
    pub begins : Begins code n f y
    pub even : IsEven code opens closes y
    pub reads : (rest : List T) → at code c rest ≡ false → k (x ++ (y ++ rest)) u (y ++ rest) ≡ got out rest

  -- k reads the step: what it reads begins in f, and what may go on is in c
  pub record Continues (f c : List ℕ) (k : Cont T) (step : Language T → Language T) : Type 1 where
    pub sound : (a : Language T) (x : List T) (u : List Tree) → a x u → (ts : List T) (out : List Tree) (rest : List T) → k (x ++ ts) u ts ≡ got out rest → (y : List T) × step a (x ++ y) out × (ts ≡ y ++ rest)
    pub complete : (a : Language T) (front : List T) (out : List Tree) → step a front out → Splits false f c k a front out

  pub continues_extended : {f c : List ℕ} {q : Reader T} {b : Language T} (over : List T → List Tree → List Tree) → Agrees code opens closes false f c q b → Continues f c (extended over q) (λ a. Made over (Then a b))
  continues_extended {f} {c} {q} {b} over B = record {
    sound = λ a x u h ts out rest e.
        let (v, e1, e2) = make_got (λ front w. over front (u ++ w)) (x ++ ts) (q ts) out rest e in
        let (y, by, ty) = B.sound ts v rest e1 in
        let front : before (x ++ ts) rest ≡ x ++ y = ap (λ (w : List T). before w rest) (regroup (x ++ ts) x ts y rest refl ty) ∙ before_rest (x ++ y) rest in
        (y, record { parts = u ++ v; spelled = then_of a b x y u v (u ++ v) h by refl; trees = e2 ∙ ap (λ (w : List T). over w (u ++ v)) front }, ty);
    complete = λ a front out h.
        let s = h.spelled in
        record {
          x = s.front;
          y = s.back;
          u = s.front_out;
          inner = s.first;
          tokens = s.tokens;
          begins = B.starts s.back s.back_out s.second;
          even = B.even s.back s.back_out s.second;
          reads = λ rest safe.
              extended_at over s.front s.back front rest s.front_out s.back_out h.parts out (q (s.back ++ rest)) (B.complete s.back s.back_out rest s.second safe) s.tokens s.trees h.trees;
        };
  }

  pub continues_pick : {f c g d : List ℕ} {k l : Cont T} {s t : Language T → Language T} → Continues f c k s → Continues g d l t → are_apart f g ≡ true
      → Continues (f ++ g) (c ++ d) (pick code f k l) (λ a. Either (s a) (t a))
  continues_pick {f} {c} {g} {d} {k} {l} {s} {t} K M sep = record {
    sound = λ a x u h ts out rest e.
        elim (choose_got (at code f ts) (k (x ++ ts) u ts) (l (x ++ ts) u ts) out rest e) [
          | inl e1 ↦ let (y, sy, ty) = K.sound a x u h ts out rest e1 in (y, inl sy, ty)
          | inr e1 ↦ let (y, sy, ty) = M.sound a x u h ts out rest e1 in (y, inr sy, ty)
        ];
    complete = λ a front out h.
        elim h [
          | inl h1 ↦
              let p = K.complete a front out h1 in
              record {
                x = p.x;
                y = p.y;
                u = p.u;
                inner = p.inner;
                tokens = p.tokens;
                begins = begins_left code false f g p.y p.begins;
                even = p.even;
                reads = λ rest safe. let e = at_begins code f p.y rest p.begins in rw e (p.reads rest (at_append code c d rest safe).0);
              }
          | inr h1 ↦
              let p = M.complete a front out h1 in
              record {
                x = p.x;
                y = p.y;
                u = p.u;
                inner = p.inner;
                tokens = p.tokens;
                begins = begins_right code false f g p.y p.begins;
                even = p.even;
                reads = λ rest safe. let e = not_between code g f p.y rest p.begins sep in rw e (p.reads rest (at_append code c d rest safe).1);
              }
        ];
  }

  -- ---- one step at most

  pub agree_once : {f c g d : List ℕ} {p : Reader T} {a : Language T} {k : Cont T} {step : Language T → Language T} → Agrees code opens closes false f c p a → Continues g d k step → are_apart c g ≡ true
      → Agrees code opens closes false f (g ++ (c ++ d)) (followed p (maybe_more code g k)) (Either a (step a))
  agree_once {f} {c} {g} {d} {p} {a} {k} {step} A K sep = record {
    sound = λ ts out rest e.
        let (u, mid, e1, e2) = continue_got ts (p ts) (maybe_more code g k) out rest e in
        let (x, ax, tx) = A.sound ts u mid e1 in
        elim (choose_got (at code g mid) (k ts u mid) (got u mid) out rest e2) [
          | inl h ↦
              let (y, sy, ty) = K.sound a x u ax mid out rest (moved k ts (x ++ mid) u mid (got out rest) tx h) in
              (x ++ y, inr sy, regroup ts x mid y rest tx ty)
          | inr h ↦ (x, inl (subst (λ (o : List Tree). a x o) (same_trees u out mid rest h) ax), tx ∙ ap (λ (w : List T). x ++ w) (same_rest u out mid rest h))
        ];
    complete = λ front out rest h safe.
        let (s1, s') = at_append code g (c ++ d) rest safe in
        let (s2, s3) = at_append code c d rest s' in
        elim h [
          | inl ax ↦ let e = A.complete front out rest ax s2 in rw (e, s1) refl
          | inr sx ↦
              let q = K.complete a front out sx in
              let e1 = A.complete q.x q.u (q.y ++ rest) q.inner (not_between code g c q.y rest q.begins sep) in
              let e2 = at_begins code g q.y rest q.begins in
              rw (q.tokens, append_assoc, e1, e2) (q.reads rest s3)
        ];
    starts = λ front out h.
        elim h [
          | inl ax ↦ A.starts front out ax
          | inr sx ↦ let q = K.complete a front out sx in rw q.tokens (begins_front code f q.x q.y (A.starts q.x q.u q.inner))
        ];
    even = λ front out h.
        elim h [
          | inl ax ↦ A.even front out ax
          | inr sx ↦ let q = K.complete a front out sx in rw q.tokens (even_append code opens closes q.x q.y (A.even q.x q.u q.inner) q.even)
        ];
  }

  -- ---- any number of steps

  regrouped : (step : Language T → Language T) (a : Language T) (x y z : List T) (out : List Tree) → Stepwise step a ((x ++ y) ++ z) out → Stepwise step a (x ++ (y ++ z)) out
  regrouped step a x y z out h = subst (λ (w : List T). Stepwise step a w out) (append_assoc x y z) h

  turns_sound : {g d : List ℕ} {k : Cont T} {step : Language T → Language T} (a : Language T) → Continues g d k step → (fuel : ℕ) (n : ℕ) (x : List T) (u : List Tree) → Steps step a n x u
      → (ts : List T) (out : List Tree) (rest : List T) → turns code g k fuel (x ++ ts) u ts ≡ got out rest → (y : List T) × Stepwise step a (x ++ y) out × (ts ≡ y ++ rest)
  turns_sound {step = step} a K zero n x u h ts out rest e =
      ([], (n, rw append-nil (subst (λ (o : List Tree). Steps step a n x o) (same_trees u out ts rest e) h)), same_rest u out ts rest e)
  turns_sound {g} {d} {k} {step} a K (suc fuel) n x u h ts out rest e =
      elim (choose_got (at code g ts) (continue (x ++ ts) (k (x ++ ts) u ts) (turns code g k fuel)) (got u ts) out rest e) [
        | inr e1 ↦ ([], (n, rw append-nil (subst (λ (o : List Tree). Steps step a n x o) (same_trees u out ts rest e1) h)), same_rest u out ts rest e1)
        | inl e1 ↦
            let (v, mid, e2, e3) = continue_got (x ++ ts) (k (x ++ ts) u ts) (turns code g k fuel) out rest e1 in
            let (y, sy, ty) = K.sound (Steps step a n) x u h ts v mid e2 in
            let (z, hz, tz) = turns_sound a K fuel (suc n) (x ++ y) v sy mid out rest (moved (turns code g k fuel) (x ++ ts) ((x ++ y) ++ mid) v mid (got out rest) (regroup (x ++ ts) x ts y mid refl ty) e3) in
            (y ++ z, regrouped step a x y z out hz, regroup ts y mid z rest ty tz)
      ]

  -- after the steps of a phrase the turns go on with its tree
  turns_reach : {f c g d : List ℕ} {p : Reader T} {a : Language T} {k : Cont T} {step : Language T → Language T} → Agrees code opens closes false f c p a → Continues g d k step → are_apart c g ≡ true → are_apart d g ≡ true
      → (n : ℕ) (front : List T) (out : List Tree) → Steps step a n front out → (more : ℕ) (rest : List T) → at code c rest ≡ false → at code d rest ≡ false
      → (n + 1 ≤ length front) × (continue (front ++ rest) (p (front ++ rest)) (turns code g k (n + more)) ≡ turns code g k more (front ++ rest) out rest)
  turns_reach {f} {c} {g} {d} {p} {a} {k} {step} A K sep1 sep2 zero front out h more rest s1 s2 =
      let e = A.complete front out rest h s1 in
      let l = longer code f front (A.starts front out h) in
      (omega (arith, l), rw (e, plus more) refl)
    where
      plus : (m : ℕ) → 0 + m ≡ m
      plus m = omega arith
  turns_reach {f} {c} {g} {d} {p} {a} {k} {step} A K sep1 sep2 (suc n) front out h more rest s1 s2 =
      let q = K.complete (Steps step a n) front out h in
      let (l, r) = turns_reach A K sep1 sep2 n q.x q.u q.inner (suc more) (q.y ++ rest) (not_between code g c q.y rest q.begins sep1) (not_between code g d q.y rest q.begins sep2) in
      let e2 = at_begins code g q.y rest q.begins in
      let e3 = q.reads rest s2 in
      let fuel : suc n + more ≡ n + suc more = omega arith in
      (omega (arith, ap length q.tokens, length-append q.x q.y, longer code g q.y q.begins), rw (q.tokens, append_assoc, fuel, r, e2, e3) refl)

  turns_stop : (g : List ℕ) (k : Cont T) (fuel : ℕ) (all : List T) (u : List Tree) (rest : List T) → at code g rest ≡ false → turns code g k fuel all u rest ≡ got u rest
  turns_stop g k zero all u rest s = refl
  turns_stop g k (suc fuel) all u rest s = rw s refl

  pub steps_begin : {f c g d : List ℕ} {p : Reader T} {a : Language T} {k : Cont T} {step : Language T → Language T} → Agrees code opens closes false f c p a → Continues g d k step
      → (n : ℕ) (front : List T) (out : List Tree) → Steps step a n front out → Begins code false f front
  steps_begin A K zero front out h = A.starts front out h
  steps_begin {f} {c} {g} {d} {p} {a} {k} {step} A K (suc n) front out h =
      let q = K.complete (Steps step a n) front out h in
      rw q.tokens (begins_front code f q.x q.y (steps_begin A K n q.x q.u q.inner))

  pub steps_even : {f c g d : List ℕ} {p : Reader T} {a : Language T} {k : Cont T} {step : Language T → Language T} → Agrees code opens closes false f c p a → Continues g d k step → (n : ℕ) → Even code opens closes (Steps step a n)
  steps_even A K zero front out h l = A.even front out h l
  steps_even {f} {c} {g} {d} {p} {a} {k} {step} A K (suc n) front out h l =
      let q = K.complete (Steps step a n) front out h in
      rw q.tokens (even_append code opens closes q.x q.y (steps_even A K n q.x q.u q.inner) q.even l)

  pub agree_turns : {f c g d : List ℕ} {p : Reader T} {a : Language T} {k : Cont T} {step : Language T → Language T} → Agrees code opens closes false f c p a → Continues g d k step → are_apart c g ≡ true → are_apart d g ≡ true
      → Agrees code opens closes false f (g ++ (c ++ d)) (in_turns code p g k) (Stepwise step a)
  agree_turns {f} {c} {g} {d} {p} {a} {k} {step} A K sep1 sep2 = record {
    sound = λ ts out rest e.
        let (u, mid, e1, e2) = continue_got ts (p ts) (turns code g k (length ts)) out rest e in
        let (x, ax, tx) = A.sound ts u mid e1 in
        let (y, sy, ty) = turns_sound a K (length ts) 0 x u ax mid out rest (moved (turns code g k (length ts)) ts (x ++ mid) u mid (got out rest) tx e2) in
        (x ++ y, sy, regroup ts x mid y rest tx ty);
    complete = λ front out rest h safe.
        let (s1, s') = at_append code g (c ++ d) rest safe in
        let (s2, s3) = at_append code c d rest s' in
        let (l, r) = turns_reach A K sep1 sep2 h.0 front out h.1 (length (front ++ rest) - h.0) rest s2 s3 in
        let fuel : length (front ++ rest) ≡ h.0 + (length (front ++ rest) - h.0) = omega (arith, length-append front rest) in
        let F = λ (m : ℕ). continue (front ++ rest) (p (front ++ rest)) (turns code g k m) ≡ got out rest in
        subst F (sym fuel) (r ∙ turns_stop g k (length (front ++ rest) - h.0) (front ++ rest) out rest s1);
    starts = λ front out h. steps_begin A K h.0 front out h.1;
    even = λ front out h. steps_even A K h.0 front out h.1;
  }

  -- ---- what is left gets shorter

  pub continues_shorter : {f c : List ℕ} {k : Cont T} {step : Language T → Language T} → Continues f c k step → (all : List T) (u : List Tree) (ts : List T) (out : List Tree) (rest : List T) → k all u ts ≡ got out rest → (x : List T) → all ≡ x ++ ts
      → length rest < length ts
  continues_shorter {f} {c} {k} {step} K all u ts out rest e x all_is =
      let one : Language T = λ front parts. (front ≡ x) × (parts ≡ u) in
      let (y, sy, ty) = K.sound one x u (refl, refl) ts out rest (moved k all (x ++ ts) u ts (got out rest) all_is e) in
      let q = K.complete one (x ++ y) out sy in
      let same : length (x ++ y) ≡ length (q.x ++ q.y) = ap length q.tokens in
      omega (arith, ap length ty, length-append y rest, same, length-append x y, length-append q.x q.y, ap length q.inner.0, longer code f q.y q.begins)
