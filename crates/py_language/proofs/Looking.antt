-- A choice by two tokens: the second language may begin with the first of the two, but where it does so and the second
-- of the two stands behind, that token alone would be all of the phrase.
use Rattle.std.proofs.Common.{◌≡◌, ℕ, Bool, true, false, List, [], ◌∷◌, ◌++◌, inl, inr, refl, sym, subst, ◌∙◌, append_assoc}
use Rattle.tree_nodes.specs.Trees.{Node, none, Tree}
use Rattle.py_language.specs.Sets.{mem, at, are_apart, is_within}
use Rattle.py_language.specs.Languages.{Language, Then, Either, Shown, Skipped, Made, Where}
use Rattle.py_language.specs.Readers.{got, Reader, skipped, shown, both, choose, optional, made, where_, at_two, choose_by_two, Cont, followed, maybe_more}
use Rattle.py_language.proofs.SetLaws.{cond_true, apart_mem, at_append, at_within, not_true}
use Rattle.py_language.proofs.ReadingLaws.{test_got, after_some, choose_got, make_got, filter_got, continue_got, same_rest}
use Rattle.py_language.proofs.Beginnings.{Begins, at_begins, begins_left, begins_right}
use Rattle.py_language.proofs.Agreement.{Agrees}

module _ {T : Type 0} (code : T → ℕ) where
  -- ---- phrases that begin with the two tokens

  -- each phrase of a does, whatever stands behind
  abbrev pub Looks : List ℕ → List ℕ → Language T → Type 0
  Looks one two a = (front rest : List T) (out : List Tree) → a front out → at_two code one two (front ++ rest) ≡ true

  pub looks_then : (one two : List ℕ) (a b : Language T) → Looks one two a → Looks one two (Then a b)
  looks_then one two a b A front rest out h = rw (h.tokens, append_assoc) (A h.front (h.back ++ rest) h.front_out h.first)

  pub looks_made : (one two : List ℕ) (over : List T → List Tree → List Tree) (a : Language T) → Looks one two a → Looks one two (Made over a)
  looks_made one two over a A front rest out h = A front rest h.parts h.spelled

  pub looks_where : (one two : List ℕ) (test : List Tree → Bool) (a : Language T) → Looks one two a → Looks one two (Where test a)
  looks_where one two test a A front rest out h = A front rest out h.0

  -- a token, and a phrase that begins with the second of the two
  pub looks_skipped : (one two : List ℕ) (b : Language T) → ((front : List T) (out : List Tree) → b front out → Begins code false two front) → Looks one two (Then (Skipped code one) b)
  looks_skipped one two b starts front rest out h =
      let e1 = h.first.is_in in
      let e2 = at_begins code two h.back rest (starts h.back h.back_out h.second) in
      rw (h.tokens, h.first.tokens, e1) e2

  pub looks_shown : (one two : List ℕ) (node_of : T → Node) (b : Language T) → ((front : List T) (out : List Tree) → b front out → Begins code false two front) → Looks one two (Then (Shown code node_of one) b)
  looks_shown one two node_of b starts front rest out h =
      let e1 = h.first.is_in in
      let e2 = at_begins code two h.back rest (starts h.back h.back_out h.second) in
      rw (h.tokens, h.first.tokens, e1) e2

  -- two tokens that make no nodes, and a phrase behind them, in a node
  pub looks_two : (one two : List ℕ) (over : List T → List Tree → List Tree) (a : Language T) → Looks one two (Made over (Then (Skipped code one) (Then (Skipped code two) a)))
  looks_two one two over a front rest out h =
      let s = h.spelled in
      let e1 = s.first.is_in in
      let e2 = s.second.first.is_in in
      rw (s.tokens, s.first.tokens, s.second.tokens, s.second.first.tokens, e1, e2) refl

  -- the same where the first of them is a node
  pub looks_two_shown : (one two : List ℕ) (node_of : T → Node) (over : List T → List Tree → List Tree) (a : Language T) → Looks one two (Made over (Then (Shown code node_of one) (Then (Skipped code two) a)))
  looks_two_shown one two node_of over a front rest out h =
      let s = h.spelled in
      let e1 = s.first.is_in in
      let e2 = s.second.first.is_in in
      rw (s.tokens, s.first.tokens, s.second.tokens, s.second.first.tokens, e1, e2) refl

  -- ---- readers that read a token alone

  -- where a token of one begins what q reads, and what follows cannot go on, the token is all of it
  abbrev pub ReadsAlone : List ℕ → List ℕ → Reader T → Type 0
  ReadsAlone one d q = (t : T) (ts : List T) (out : List Tree) (rest : List T) → mem (code t) one ≡ true → at code d ts ≡ false → q (t ∷ ts) ≡ got out rest → ts ≡ rest

  pub alone_wider : (one d d' : List ℕ) (q : Reader T) → is_within d d' ≡ true → ReadsAlone one d q → ReadsAlone one d' q
  alone_wider one d d' q w alone t ts out rest h s e = alone t ts out rest h (at_within code d d' ts w s) e

  pub alone_made : (one d : List ℕ) (over : List T → List Tree → List Tree) (q : Reader T) → ReadsAlone one d q → ReadsAlone one d (made over q)
  alone_made one d over q alone t ts out rest h s e = let (u, e1, e2) = make_got over (t ∷ ts) (q (t ∷ ts)) out rest e in alone t ts u rest h s e1

  pub alone_where : (one d : List ℕ) (test : List Tree → Bool) (q : Reader T) → ReadsAlone one d q → ReadsAlone one d (where_ test q)
  alone_where one d test q alone t ts out rest h s e = alone t ts out rest h s (filter_got test (q (t ∷ ts)) out rest e).0

  pub alone_skipped : (one d set : List ℕ) → ReadsAlone one d (skipped code set)
  alone_skipped one d set t ts out rest h s e = same_rest [] out ts rest (test_got (mem (code t) set) (got [] ts) out rest e).1

  pub alone_shown : (one d : List ℕ) (node_of : T → Node) (set : List ℕ) → ReadsAlone one d (shown code node_of set)
  alone_shown one d node_of set t ts out rest h s e =
      let leaf = record { node = node_of t; kids = none } ∷ [] in same_rest leaf out ts rest (test_got (mem (code t) set) (got leaf ts) out rest e).1

  -- the second of a choice, where the first begins with no such token
  pub alone_choose : (set one d : List ℕ) (p q : Reader T) → are_apart one set ≡ true → ReadsAlone one d q → ReadsAlone one d (choose code set p q)
  alone_choose set one d p q sep alone t ts out rest h s e =
      let other : mem (code t) set ≡ false = not_true (mem (code t) set) (λ h'. cc (apart_mem (code t) one set sep h')) in
      alone t ts out rest h s (rw other at e)

  pub alone_choose_two : (first two one d : List ℕ) (p q : Reader T) → ReadsAlone one d q → ReadsAlone one (two ++ d) (choose_by_two code first two p q)
  alone_choose_two first two one d p q alone t ts out rest h s e =
      let (s1, s2) = at_append code two d ts s in
      let other : at_two code first two (t ∷ ts) ≡ false = not_true (at_two code first two (t ∷ ts)) (λ h'. let (h1, h2) = cond_true (mem (code t) first) (at code two ts) h' in cc) in
      alone t ts out rest h s2 (rw other at e)

  -- maybe more behind it
  pub alone_optional : (one d f : List ℕ) (p q : Reader T) → ReadsAlone one d p → ReadsAlone one (f ++ d) (both p (optional code f q))
  alone_optional one d f p q alone t ts out rest h s e =
      let (s1, s2) = at_append code f d ts s in
      let (v, w, mid, a1, a2, a3) = after_some (p (t ∷ ts)) (optional code f q) out rest e in
      let same = alone t ts v mid h s2 a1 in
      let s3 : at code f mid ≡ false = subst (λ (x : List T). at code f x ≡ false) same s1 in
      let last : got [] mid ≡ got w rest = rw s3 at a2 in
      same ∙ same_rest [] w mid rest last

  pub alone_once : (one d g : List ℕ) (p : Reader T) (k : Cont T) → ReadsAlone one d p → ReadsAlone one (g ++ d) (followed p (maybe_more code g k))
  alone_once one d g p k alone t ts out rest h s e =
      let (s1, s2) = at_append code g d ts s in
      let (u, mid, e1, e2) = continue_got (t ∷ ts) (p (t ∷ ts)) (maybe_more code g k) out rest e in
      let same = alone t ts u mid h s2 e1 in
      let s3 : at code g mid ≡ false = subst (λ (x : List T). at code g x ≡ false) same s1 in
      let last : got u mid ≡ got out rest = rw s3 at e2 in
      same ∙ same_rest u out mid rest last

  at_apart : (d two : List ℕ) (ts : List T) → are_apart d two ≡ true → at code two ts ≡ true → at code d ts ≡ false
  at_apart d two [] sep h = refl
  at_apart d two (t ∷ ts) sep h = apart_mem (code t) d two sep h

  not_behind : (one two d : List ℕ) (q : Reader T) → ReadsAlone one d q → are_apart d two ≡ true → (ts : List T) (out : List Tree) (rest : List T) → q ts ≡ got out rest → at code two rest ≡ false → at_two code one two ts ≡ true → ⊥
  not_behind one two d q alone sep [] out rest e s h = cc
  not_behind one two d q alone sep (t ∷ ts) out rest e s h =
      let (h1, h2) = cond_true (mem (code t) one) (at code two ts) h in
      let same = alone t ts out rest h1 (at_apart d two ts sep h2) e in
      cc

module _ {T : Type 0} (code : T → ℕ) (opens closes : List ℕ) where
  -- a reader reads a token alone where its language has that token as a phrase
  pub alone_by : {g d : List ℕ} {q : Reader T} {b : Language T} → Agrees code opens closes false g d q b → (one : List ℕ) → ((t : T) → mem (code t) one ≡ true → (out : List Tree) × b (t ∷ []) out) → ReadsAlone code one d q
  alone_by B one alone t ts out rest h s e =
      let (o, bo) = alone t h in
      let e2 = B.complete (t ∷ []) o ts bo s in
      same_rest o out ts rest (sym e2 ∙ e)

  pub agree_by_two : {g d : List ℕ} {q : Reader T} {a : Language T} {p : Reader T} {b : Language T} {c : List ℕ} (one two : List ℕ) → Agrees code opens closes false one c p a → Looks code one two a
      → Agrees code opens closes false g d q b → ReadsAlone code one d q → are_apart d two ≡ true
      → Agrees code opens closes false (one ++ g) (c ++ (two ++ d)) (choose_by_two code one two p q) (Either a b)
  agree_by_two {g} {d} {q} {a} {p} {b} {c} one two A looks B alone sep = record {
    sound = λ ts out rest e.
        elim (choose_got (at_two code one two ts) (p ts) (q ts) out rest e) [
          | inl h ↦ let (x, ax, tx) = A.sound ts out rest h in (x, inl ax, tx)
          | inr h ↦ let (x, bx, tx) = B.sound ts out rest h in (x, inr bx, tx)
        ];
    complete = λ front out rest h safe.
        let (s1, s') = at_append code c (two ++ d) rest safe in
        let (s2, s3) = at_append code two d rest s' in
        elim h [
          | inl ax ↦ let e = looks front rest out ax in rw e (A.complete front out rest ax s1)
          | inr bx ↦
              let done = B.complete front out rest bx s3 in
              let e = not_true (at_two code one two (front ++ rest)) (λ h'. not_behind code one two d q alone sep (front ++ rest) out rest done s2 h') in
              rw e done
        ];
    starts = λ front out h.
        elim h [
          | inl ax ↦ begins_left code false one g front (A.starts front out ax)
          | inr bx ↦ begins_right code false one g front (B.starts front out bx)
        ];
    even = λ front out h.
        elim h [
          | inl ax ↦ A.even front out ax
          | inr bx ↦ B.even front out bx
        ];
  }
