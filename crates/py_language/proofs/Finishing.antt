-- What goes on behind trees under a test, and what may go on behind them or else ends there with a node of its own.
use Rattle.std.proofs.Common.{◌≡◌, ℕ, true, false, cond, ◌||◌, Bool, List, [], ◌∷◌, ◌++◌, inl, inr, refl, sym, ap, subst, ◌∙◌, append_assoc}
use Rattle.tree_nodes.specs.Trees.{Tree}
use Rattle.py_language.specs.Sets.{at, are_apart}
use Rattle.py_language.specs.Languages.{Language, Then, Either, Made, Where}
use Rattle.py_language.specs.Readers.{Read, got, fails, Reader, continue, before, make, filter, Cont, followed, extended_where, pick, finished}
use Rattle.py_language.proofs.SetLaws.{mem_append, at_append}
use Rattle.py_language.proofs.BracketLaws.{even_append}
use Rattle.py_language.proofs.ReadingLaws.{regroup, choose_got, make_got, make_at, filter_got, before_rest, continue_got, same_trees, same_rest}
use Rattle.py_language.proofs.Beginnings.{not_between, at_begins, begins_front}
use Rattle.py_language.proofs.Agreement.{then_of, Agrees}
use Rattle.py_language.proofs.Continuation.{Continues, continues_pick}

moved : {T : Type 0} (k : Cont T) (all all' : List T) (u : List Tree) (ts : List T) (out : List Tree) (rest : List T) → all ≡ all' → k all u ts ≡ got out rest → k all' u ts ≡ got out rest
moved {T} k all all' u ts out rest same e = subst (λ (w : List T). k w u ts ≡ got out rest) same e

module _ {T : Type 0} (code : T → ℕ) where
  at_both : (f g : List ℕ) (ts : List T) → at code (f ++ g) ts ≡ (at code f ts || at code g ts)
  at_both f g [] = refl
  at_both f g (t ∷ ts) = mem_append (code t) f g

  -- one choice behind another is one choice by both sets
  pub pick_joined : (f g : List ℕ) (k l m : Cont T) (all : List T) (u : List Tree) (ts : List T) → pick code (f ++ g) (pick code f k l) m all u ts ≡ pick code f k (pick code g l m) all u ts
  pick_joined f g k l m all u ts = let e = at_both f g ts in rw e (go (at code f ts) (at code g ts))
    where
      go : (b c : Bool) → cond (b || c) (cond b (k all u ts) (l all u ts)) (m all u ts) ≡ cond b (k all u ts) (cond c (l all u ts) (m all u ts))
      go true c = refl
      go false c = refl

  same_behind : (k l : Cont T) → ((all : List T) (u : List Tree) (ts : List T) → k all u ts ≡ l all u ts) → (p : Reader T) (ts : List T) → followed p k ts ≡ followed p l ts
  same_behind k l same p ts = go (p ts)
    where
      go : (r : Read T) → continue ts r k ≡ continue ts r l
      go fails = refl
      go (got u rest) = same ts u rest

  same_else : (f : List ℕ) (k l m : Cont T) → ((all : List T) (u : List Tree) (ts : List T) → l all u ts ≡ m all u ts) → (all : List T) (u : List Tree) (ts : List T) → pick code f k l all u ts ≡ pick code f k m all u ts
  same_else f k l m same all u ts = go (at code f ts)
    where
      go : (b : Bool) → cond b (k all u ts) (l all u ts) ≡ cond b (k all u ts) (m all u ts)
      go true = refl
      go false = same all u ts

  -- three choices one behind another are one choice by all their sets
  pub picks_joined : (f g h : List ℕ) (k l m n : Cont T) (p : Reader T) (ts : List T)
      → followed p (pick code (f ++ (g ++ h)) (pick code f k (pick code g l m)) n) ts ≡ followed p (pick code f k (pick code g l (pick code h m n))) ts
  picks_joined f g h k l m n p ts =
      same_behind (pick code (f ++ (g ++ h)) (pick code f k (pick code g l m)) n) (pick code f k (pick code g l (pick code h m n))) (λ all u rest.
      pick_joined f (g ++ h) k (pick code g l m) n all u rest
      ∙ same_else f k (pick code (g ++ h) (pick code g l m) n) (pick code g l (pick code h m n)) (λ all' u' rest'. pick_joined g h l m n all' u' rest') all u rest) p ts

module _ {T : Type 0} (code : T → ℕ) (opens closes : List ℕ) where
  -- a reader that reads the same
  pub agree_equal : {n : Bool} {f c : List ℕ} {p q : Reader T} {a : Language T} → ((ts : List T) → p ts ≡ q ts) → Agrees code opens closes n f c p a → Agrees code opens closes n f c q a
  agree_equal same A = record {
    sound = λ ts out rest e. A.sound ts out rest (same ts ∙ e);
    complete = λ front out rest h safe. sym (same (front ++ rest)) ∙ A.complete front out rest h safe;
    starts = A.starts;
    even = A.even;
  }

  pub continues_where : {f c : List ℕ} {q : Reader T} {b : Language T} (test : List Tree → Bool) (over : List T → List Tree → List Tree) → Agrees code opens closes false f c q b
      → Continues code opens closes f c (extended_where test over q) (λ a. Made over (Where test (Then a b)))
  continues_where {f} {c} {q} {b} test over B = record {
    sound = λ a x u h ts out rest e.
        let (v, e1, e2) = make_got (λ front w. over front (u ++ w)) (x ++ ts) (filter (λ w. test (u ++ w)) (q ts)) out rest e in
        let (e3, e4) = filter_got (λ w. test (u ++ w)) (q ts) v rest e1 in
        let (y, by, ty) = B.sound ts v rest e3 in
        let front : before (x ++ ts) rest ≡ x ++ y = ap (λ (w : List T). before w rest) (regroup (x ++ ts) x ts y rest refl ty) ∙ before_rest (x ++ y) rest in
        (y, record { parts = u ++ v; spelled = (then_of a b x y u v (u ++ v) h by refl, e4); trees = e2 ∙ ap (λ (w : List T). over w (u ++ v)) front }, ty);
    complete = λ a front out h.
        let s = h.spelled.0 in
        record {
          x = s.front;
          y = s.back;
          u = s.front_out;
          inner = s.first;
          tokens = s.tokens;
          begins = B.starts s.back s.back_out s.second;
          even = B.even s.back s.back_out s.second;
          reads = λ rest safe.
              let e = B.complete s.back s.back_out rest s.second safe in
              let holds : test (s.front_out ++ s.back_out) ≡ true = ap test (sym s.trees) ∙ h.spelled.1 in
              let kept : filter (λ v. test (s.front_out ++ v)) (q (s.back ++ rest)) ≡ got s.back_out rest = rw (e, holds) refl in
              let made' = make_at (λ w v. over w (s.front_out ++ v)) (s.front ++ s.back) rest (filter (λ v. test (s.front_out ++ v)) (q (s.back ++ rest))) s.back_out kept in
              let out_is : over (s.front ++ s.back) (s.front_out ++ s.back_out) ≡ out = rw (h.trees, s.trees, s.tokens) refl in
              ap (λ (w : List T). make (λ z v. over z (s.front_out ++ v)) w (filter (λ v. test (s.front_out ++ v)) (q (s.back ++ rest)))) (sym (append_assoc s.front s.back rest)) ∙ made' ∙ ap (λ (o : List Tree). got o rest) out_is;
        };
  }

  -- one step, or else the end
  pub agree_finished : {f c g d : List ℕ} {p : Reader T} {a : Language T} {k : Cont T} {step : Language T → Language T} (over : List T → List Tree → List Tree) → Agrees code opens closes false f c p a → Continues code opens closes g d k step
      → are_apart c g ≡ true → Agrees code opens closes false f (g ++ (c ++ d)) (followed p (pick code g k (finished over))) (Either (Made over a) (step a))
  agree_finished {f} {c} {g} {d} {p} {a} {k} {step} over A K sep = record {
    sound = λ ts out rest e.
        let (u, mid, e1, e2) = continue_got ts (p ts) (pick code g k (finished over)) out rest e in
        let (x, ax, tx) = A.sound ts u mid e1 in
        elim (choose_got (at code g mid) (k ts u mid) (got (over (before ts mid) u) mid) out rest e2) [
          | inl h ↦
              let (y, sy, ty) = K.sound a x u ax mid out rest (moved k ts (x ++ mid) u mid out rest tx h) in
              (x ++ y, inr sy, regroup ts x mid y rest tx ty)
          | inr h ↦
              let front : before ts mid ≡ x = ap (λ (w : List T). before w mid) tx ∙ before_rest x mid in
              let out_is : out ≡ over x u = sym (same_trees (over (before ts mid) u) out mid rest h) ∙ ap (λ (w : List T). over w u) front in
              (x, inl (record { parts = u; spelled = ax; trees = out_is }), tx ∙ ap (λ (w : List T). x ++ w) (same_rest (over (before ts mid) u) out mid rest h))
        ];
    complete = λ front out rest h safe.
        let (s1, s') = at_append code g (c ++ d) rest safe in
        let (s2, s3) = at_append code c d rest s' in
        elim h [
          | inl mx ↦
              let e = A.complete front mx.parts rest mx.spelled s2 in
              let e2 = before_rest front rest in
              rw (e, s1, e2, mx.trees) refl
          | inr sx ↦
              let q = K.complete a front out sx in
              let e1 = A.complete q.x q.u (q.y ++ rest) q.inner (not_between code g c q.y rest q.begins sep) in
              let e2 = at_begins code g q.y rest q.begins in
              rw (q.tokens, append_assoc, e1, e2) (q.reads rest s3)
        ];
    starts = λ front out h.
        elim h [
          | inl mx ↦ A.starts front mx.parts mx.spelled
          | inr sx ↦ let q = K.complete a front out sx in rw q.tokens (begins_front code f q.x q.y (A.starts q.x q.u q.inner))
        ];
    even = λ front out h.
        elim h [
          | inl mx ↦ A.even front mx.parts mx.spelled
          | inr sx ↦ let q = K.complete a front out sx in rw q.tokens (even_append code opens closes q.x q.y (A.even q.x q.u q.inner) q.even)
        ];
  }

  -- one of three, or else the end
  pub agree_finished_three : {f c g1 d1 g2 d2 g3 d3 : List ℕ} {p : Reader T} {a : Language T} {k1 k2 k3 : Cont T} {s1 s2 s3 : Language T → Language T} (over : List T → List Tree → List Tree) → Agrees code opens closes false f c p a
      → Continues code opens closes g1 d1 k1 s1 → Continues code opens closes g2 d2 k2 s2 → Continues code opens closes g3 d3 k3 s3 → are_apart g1 (g2 ++ g3) ≡ true → are_apart g2 g3 ≡ true → are_apart c (g1 ++ (g2 ++ g3)) ≡ true
      → Agrees code opens closes false f ((g1 ++ (g2 ++ g3)) ++ (c ++ (d1 ++ (d2 ++ d3)))) (followed p (pick code g1 k1 (pick code g2 k2 (pick code g3 k3 (finished over))))) (Either (Made over a) (Either (s1 a) (Either (s2 a) (s3 a))))
  agree_finished_three {g1 = g1} {g2 = g2} {g3 = g3} {p = p} {k1 = k1} {k2 = k2} {k3 = k3} over A K1 K2 K3 sep1 sep2 sep3 =
      agree_equal (picks_joined code g1 g2 g3 k1 k2 k3 (finished over) p) (agree_finished over A (continues_pick code opens closes K1 (continues_pick code opens closes K2 K3 sep2) sep1) sep3)
