-- A reader agrees with a language: what it reads the tokens spell, and it reads what they spell where nothing behind
-- could go on. So the trees of a list of tokens are unique. One law for each way to build a language.
use Rattle.std.proofs.Common.{◌≡◌, ℕ, Bool, true, false, cond, List, [], ◌∷◌, ◌++◌, inl, inr, refl, sym, ap, ◌∙◌, append_assoc, ◌<◌, length, length-append, arith}
use Rattle.tree_nodes.specs.Trees.{Node, none, Tree}
use Rattle.py_language.specs.Sets.{mem, at, are_apart, is_within}
use Rattle.py_language.specs.Brackets.{level}
use Rattle.py_language.specs.Languages.{Language, Then, Nothing, Either, Maybe, Shown, Skipped, Made, Where, Bracketed}
use Rattle.py_language.specs.Readers.{got, fails, Reader, both, nothing, choose, optional, shown, skipped, before, made, where_, bracketed}
use Rattle.py_language.proofs.SetLaws.{apart_nil, at_append, at_within}
use Rattle.py_language.proofs.BracketLaws.{even_append, even_token, even_bracketed}
use Rattle.py_language.proofs.ReadingLaws.{regroup, after_some, both_at, choose_got, test_got, same_trees, before_rest, make_got, make_at, filter_got}
use Rattle.py_language.proofs.Beginnings.{and_if, Begins, between, not_between, when, begins_both, at_begins, begins_left, begins_right, begins_wider, longer}

pub then_of : {T : Type 0} (a b : Language T) (x y : List T) (u v out : List Tree) → a x u → b y v → out ≡ u ++ v → Then a b (x ++ y) out
then_of a b x y u v out h g e = record { front = x; back = y; front_out = u; back_out = v; first = h; second = g; tokens = refl; trees = e }

module _ {T : Type 0} (code : T → ℕ) (opens closes : List ℕ) where
  -- p reads the language a: a phrase begins in f, what may go on is in c, and brackets are even in it
  pub record Agrees (n : Bool) (f c : List ℕ) (p : Reader T) (a : Language T) : Type 0 where
    pub sound : (ts : List T) (out : List Tree) (rest : List T) → p ts ≡ got out rest → (front : List T) × a front out × (ts ≡ front ++ rest)
    pub complete : (front : List T) (out : List Tree) (rest : List T) → a front out → at code c rest ≡ false → p (front ++ rest) ≡ got out rest
    pub starts : (front : List T) (out : List Tree) → a front out → Begins code n f front
    pub even : (front : List T) (out : List Tree) → a front out → (d : ℕ) → level code opens closes d front ≡ d

  -- ---- one behind the other

  pub agree_both : {n m : Bool} {f g c d : List ℕ} {p q : Reader T} {a b : Language T} → Agrees n f c p a → Agrees m g d q b → are_apart c g ≡ true
      → Agrees (cond n m false) (f ++ and_if n g) (d ++ and_if m c) (both p q) (Then a b)
  agree_both {n} {m} {f} {g} {c} {d} {p} {q} {a} {b} A B sep = record {
    sound = λ ts out rest e.
        let (u, v, mid, e1, e2, e3) = after_some (p ts) q out rest e in
        let (x, ax, tx) = A.sound ts u mid e1 in
        let (y, by, ty) = B.sound mid v rest e2 in
        (x ++ y, then_of a b x y u v out ax by e3, regroup ts x mid y rest tx ty);
    complete = λ front out rest h safe.
        let (s1, s2) = at_append code d (and_if m c) rest safe in
        let goal = both_at p q h.front h.back rest h.front_out h.back_out
        (A.complete h.front h.front_out (h.back ++ rest) h.first (between code m g c h.back rest (B.starts h.back h.back_out h.second) sep (when code m c rest s2)))
        (B.complete h.back h.back_out rest h.second s1) in
        rw (h.tokens, h.trees) goal;
    starts = λ front out h. rw h.tokens (begins_both code n m f g h.front h.back (A.starts h.front h.front_out h.first) (B.starts h.back h.back_out h.second));
    even = λ front out h. rw h.tokens (even_append code opens closes h.front h.back (A.even h.front h.front_out h.first) (B.even h.back h.back_out h.second));
  }

  -- ---- nothing, and a choice

  pub agree_nothing : Agrees true [] [] nothing Nothing
  agree_nothing = record {
    sound = λ ts out rest e. ([], (refl, cc), cc);
    complete = λ front out rest h safe. rw (h.0, h.1) refl;
    starts = λ front out h. rw h.0 refl;
    even = λ front out h d. rw h.0 refl;
  }

  -- what reads nothing at all, and a language without phrases
  pub agree_nowhere : (n : Bool) (f c : List ℕ) → Agrees n f c (λ ts. fails) (λ ts out. ⊥)
  agree_nowhere n f c = record {
    sound = λ ts out rest e. absurd cc;
    complete = λ front out rest h safe. absurd h;
    starts = λ front out h. absurd h;
    even = λ front out h d. absurd h;
  }

  pub agree_choose : {m : Bool} {f g c d : List ℕ} {p q : Reader T} {a b : Language T} → Agrees false f c p a → Agrees m g d q b → are_apart f g ≡ true
      → Agrees m (f ++ g) ((c ++ d) ++ and_if m f) (choose code f p q) (Either a b)
  agree_choose {m} {f} {g} {c} {d} {p} {q} {a} {b} A B sep = record {
    sound = λ ts out rest e.
        elim (choose_got (at code f ts) (p ts) (q ts) out rest e) [
          | inl h ↦ let (x, ax, tx) = A.sound ts out rest h in (x, inl ax, tx)
          | inr h ↦ let (x, bx, tx) = B.sound ts out rest h in (x, inr bx, tx)
        ];
    complete = λ front out rest h safe.
        let (s1, s2) = at_append code (c ++ d) (and_if m f) rest safe in
        let (s3, s4) = at_append code c d rest s1 in
        elim h [
          | inl ax ↦ let e = at_begins code f front rest (A.starts front out ax) in rw e (A.complete front out rest ax s3)
          | inr bx ↦ let e = between code m g f front rest (B.starts front out bx) sep (when code m f rest s2) in rw e (B.complete front out rest bx s4)
        ];
    starts = λ front out h.
        elim h [
          | inl ax ↦ begins_left code m f g front (A.starts front out ax)
          | inr bx ↦ begins_right code m f g front (B.starts front out bx)
        ];
    even = λ front out h.
        elim h [
          | inl ax ↦ A.even front out ax
          | inr bx ↦ B.even front out bx
        ];
  }

  pub agree_optional : {f c : List ℕ} {p : Reader T} {a : Language T} → Agrees false f c p a → Agrees true (f ++ []) ((c ++ []) ++ f) (optional code f p) (Maybe a)
  agree_optional {f} {c} A = agree_choose A agree_nothing (apart_nil f)

  -- other sets, which hold these
  pub agree_wider : {n : Bool} {f c g d : List ℕ} {p : Reader T} {a : Language T} → Agrees n f c p a → is_within f g ≡ true → is_within c d ≡ true → Agrees n g d p a
  agree_wider {n} {f} {c} {g} {d} {p} {a} A wf wc = record {
    sound = A.sound;
    complete = λ front out rest h safe. A.complete front out rest h (at_within code c d rest wc safe);
    starts = λ front out h. begins_wider code n f g front wf (A.starts front out h);
    even = A.even;
  }

  -- the same with the sets named
  pub agree_as : {n : Bool} {f c : List ℕ} {p : Reader T} {a : Language T} (g d : List ℕ) → Agrees n f c p a → is_within f g ≡ true → is_within c d ≡ true → Agrees n g d p a
  agree_as g d A wf wc = agree_wider A wf wc

  -- ---- tokens that are no brackets

  pub agree_shown : (node_of : T → Node) (set : List ℕ) → are_apart opens set ≡ true → are_apart closes set ≡ true → Agrees false set [] (shown code node_of set) (Shown code node_of set)
  agree_shown node_of set no_open no_close =
      record { sound = sound; complete = λ front out rest h safe. rw (h.tokens, h.trees, h.is_in) refl; starts = λ front out h. rw h.tokens h.is_in; even = λ front out h. rw h.tokens (even_token code opens closes set h.token h.is_in no_open no_close) }
    where
      sound : (ts : List T) (out : List Tree) (rest : List T) → shown code node_of set ts ≡ got out rest → (front : List T) × Shown code node_of set front out × (ts ≡ front ++ rest)
      sound [] out rest e = absurd cc
      sound (t ∷ ts) out rest e =
          let (yes', e') = test_got (mem (code t) set) (got (record { node = node_of t; kids = none } ∷ []) ts) out rest e in
          (t ∷ [], record { token = t; is_in = yes'; tokens = refl; trees = cc }, cc)

  pub skipped_sound : (set : List ℕ) (ts : List T) (out : List Tree) (rest : List T) → skipped code set ts ≡ got out rest → (front : List T) × Skipped code set front out × (ts ≡ front ++ rest)
  skipped_sound set [] out rest e = absurd cc
  skipped_sound set (t ∷ ts) out rest e = let (yes', e') = test_got (mem (code t) set) (got [] ts) out rest e in (t ∷ [], record { token = t; is_in = yes'; tokens = refl; trees = cc }, cc)

  pub skipped_complete : (set : List ℕ) (front : List T) (out : List Tree) (rest : List T) → Skipped code set front out → skipped code set (front ++ rest) ≡ got out rest
  skipped_complete set front out rest h = rw (h.tokens, h.trees, h.is_in) refl

  pub agree_skipped : (set : List ℕ) → are_apart opens set ≡ true → are_apart closes set ≡ true → Agrees false set [] (skipped code set) (Skipped code set)
  agree_skipped set no_open no_close = record {
    sound = skipped_sound set;
    complete = λ front out rest h safe. skipped_complete set front out rest h;
    starts = λ front out h. rw h.tokens h.is_in;
    even = λ front out h. rw h.tokens (even_token code opens closes set h.token h.is_in no_open no_close);
  }

  -- ---- between brackets

  -- what stands between may go on with anything but the token that closes
  pub agree_bracketed : {n : Bool} {f c : List ℕ} {p : Reader T} {a : Language T} (opening closing : List ℕ) → Agrees n f c p a → is_within opening opens ≡ true → is_within closing closes ≡ true → are_apart opens closing ≡ true → are_apart c closing ≡ true
      → Agrees false opening [] (bracketed code opening closing p) (Bracketed code opening closing a)
  agree_bracketed {n} {f} {c} {p} {a} opening closing A w_open w_close sep_open sep = record {
    sound = λ ts out rest e.
        let (u, w, m1, e1, e2, e3) = after_some (skipped code opening ts) (both p (skipped code closing)) out rest e in
        let (x, sx, tx) = skipped_sound opening ts u m1 e1 in
        let (v, z, m2, e4, e5, e6) = after_some (p m1) (skipped code closing) w rest e2 in
        let (y, ay, ty) = A.sound m1 v m2 e4 in
        let (l, sl, tl) = skipped_sound closing m2 z rest e5 in
        let inner = then_of a (Skipped code closing) y l v z w ay sl e6 in
        (x ++ (y ++ l), then_of (Skipped code opening) (Then a (Skipped code closing)) x (y ++ l) u w out sx inner e3, three ts x y l m1 m2 rest tx ty tl);
    complete = λ front out rest h safe.
        let s = h.second in
        let l = s.second in
        let stop : at code c (s.back ++ rest) ≡ false = not_between code closing c s.back rest (rw l.tokens l.is_in) sep in
        let e1 = both_at p (skipped code closing) s.front s.back rest s.front_out s.back_out (A.complete s.front s.front_out (s.back ++ rest) s.first stop) (skipped_complete closing s.back s.back_out rest l) in
        let e2 : both p (skipped code closing) (h.back ++ rest) ≡ got h.back_out rest = rw (s.tokens, s.trees) e1 in
        rw (h.tokens, h.trees) (both_at (skipped code opening) (both p (skipped code closing)) h.front h.back rest h.front_out h.back_out (skipped_complete opening h.front h.front_out (h.back ++ rest) h.first) e2);
    starts = λ front out h. let o = h.first in rw (h.tokens, o.tokens) o.is_in;
    even = λ front out h.
        let s = h.second in
        let o = h.first in
        let l = s.second in
        let shape : front ≡ o.token ∷ (s.front ++ l.token ∷ []) = rw (h.tokens, o.tokens, s.tokens, l.tokens) refl in
        rw shape (even_bracketed code opens closes opening closing o.token s.front l.token o.is_in w_open l.is_in w_close sep_open (A.even s.front s.front_out s.first));
  }
    where
      three : (ts x y l m1 m2 rest : List T) → ts ≡ x ++ m1 → m1 ≡ y ++ m2 → m2 ≡ l ++ rest → ts ≡ (x ++ (y ++ l)) ++ rest
      three ts x y l m1 m2 rest e1 e2 e3 = rw (e1, e2, e3) (simp append_assoc)

  -- ---- functions and tests of the trees

  pub agree_made : {n : Bool} {fs c : List ℕ} {p : Reader T} {a : Language T} (over : List T → List Tree → List Tree) → Agrees n fs c p a → Agrees n fs c (made over p) (Made over a)
  agree_made {n} {fs} {c} {p} {a} over A = record {
    sound = λ ts out rest e.
        let (u, e1, e2) = make_got over ts (p ts) out rest e in
        let (x, ax, tx) = A.sound ts u rest e1 in
        let front : before ts rest ≡ x = ap (λ (all : List T). before all rest) tx ∙ before_rest x rest in
        (x, record { parts = u; spelled = ax; trees = e2 ∙ ap (λ (y : List T). over y u) front }, tx);
    complete = λ front out rest h safe. let e = make_at over front rest (p (front ++ rest)) h.parts (A.complete front h.parts rest h.spelled safe) in rw h.trees e;
    starts = λ front out h. A.starts front h.parts h.spelled;
    even = λ front out h. A.even front h.parts h.spelled;
  }

  pub agree_where : {n : Bool} {fs c : List ℕ} {p : Reader T} {a : Language T} (test : List Tree → Bool) → Agrees n fs c p a → Agrees n fs c (where_ test p) (Where test a)
  agree_where {n} {fs} {c} {p} {a} test A = record {
    sound = λ ts out rest e.
        let (e1, e2) = filter_got test (p ts) out rest e in
        let (x, ax, tx) = A.sound ts out rest e1 in
        (x, (ax, e2), tx);
    complete = λ front out rest h safe. let e = A.complete front out rest h.0 safe in let e2 = h.1 in rw (e, e2) refl;
    starts = λ front out h. A.starts front out h.0;
    even = λ front out h. A.even front out h.0;
  }

  -- ---- what agreement is for

  -- the trees that some tokens spell are unique, where nothing stands behind
  pub unique : {n : Bool} {fs c : List ℕ} {p : Reader T} {a : Language T} → Agrees n fs c p a → (ts : List T) (out out' : List Tree) → a ts out → a ts out' → out ≡ out'
  unique {p = p} A ts out out' h h' =
      let e = A.complete ts out [] h refl in
      let e' = A.complete ts out' [] h' refl in
      same_trees out out' [] [] (sym e ∙ e')

  -- what is left is shorter, where no phrase is empty
  pub reads_shorter : {fs c : List ℕ} {p : Reader T} {a : Language T} → Agrees false fs c p a → (ts : List T) (out : List Tree) (rest : List T) → p ts ≡ got out rest → length rest < length ts
  reads_shorter {fs = fs} A ts out rest e =
      let (x, ax, tx) = A.sound ts out rest e in
      omega (arith, ap length tx, length-append x rest, longer code fs x (A.starts x out ax))

  -- the same reader for a language of the same phrases
  pub agree_same : {n : Bool} {fs c : List ℕ} {p : Reader T} {a b : Language T} → ((ts : List T) (out : List Tree) → a ts out → b ts out) → ((ts : List T) (out : List Tree) → b ts out → a ts out) → Agrees n fs c p a → Agrees n fs c p b
  agree_same to from A = record {
    sound = λ ts out rest e. let (x, ax, tx) = A.sound ts out rest e in (x, to x out ax, tx);
    complete = λ front out rest h safe. A.complete front out rest (from front out h) safe;
    starts = λ front out h. A.starts front out (from front out h);
    even = λ front out h. A.even front out (from front out h);
  }
