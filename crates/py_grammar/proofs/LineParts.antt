-- The readers of the parts of a line give exactly what the rows of the grammar say: a header and its `:` with what stands
-- behind it, a header alone, simple statements, a decorator, and one row before another.
use Rattle.std.proofs.Common.{◌≡◌, ℕ, Bool, true, false, cond, nat_le, List, [], ◌∷◌, ◌++◌, ◌⊎◌, inl, inr, Option, Some, None, refl, sym, ap, subst, ◌∙◌, append_assoc}
use Rattle.std.proofs.lemmas.List.{append-nil}
use Rattle.std.proofs.lemmas.Bool.{leb-true, le-leb}
use Rattle.tree_nodes.specs.Trees.{Tree}
use Rattle.py_language.specs.Sets.{at, are_apart}
use Rattle.py_language.specs.Languages.{Then, Maybe}
use Rattle.py_language.specs.Nesting.{nesting_of}
use Rattle.py_language.specs.Readers.{Read, got, fails, both}
use Rattle.py_language.proofs.Agreement.{then_of}
use Rattle.py_grammar.specs.declared.entry.Entry.{Entry}
use Rattle.py_grammar.specs.declared.head.Head.{Head}
use Rattle.py_grammar.specs.declared.head.Head.TheVariants as heads
use Rattle.py_grammar.specs.Terminals.{Terminal, Form, code}
use Rattle.py_grammar.specs.Words.{colon}
use Rattle.py_grammar.specs.Firsts.{statement_first}
use Rattle.py_grammar.specs.Nodes.{Token}
use Rattle.py_grammar.specs.Statements.{Statements}
use Rattle.py_grammar.specs.Weights.{weight}
use Rattle.py_grammar.specs.Lines.{LineForm, IsHeaded, IsShallow}
use Rattle.py_grammar.specs.Reading.{LineReader, token}
use Rattle.py_grammar.specs.ReadingStatements.{statements_at}
use Rattle.py_grammar.specs.ReadingLines.{shallow, or_line, with_body, without_body, behind_header, headed_at, bare_at, simple_at}
use Rattle.py_grammar.proofs.FollowSets.{statements_more}
use Rattle.py_grammar.proofs.Building.{Reads, a_token, in_a_row}

-- what may be read from some tokens: nodes and simple statements
abbrev pub Parts : Type 1
Parts = List Terminal → List Tree → List Tree → Type 0

-- the tokens have no such reading
abbrev pub Nowhere : Parts → List Terminal → Type 0
Nowhere reading ts = (nodes body : List Tree) → reading ts nodes body → ⊥

-- the reader gives lines of this kind, exactly those of the reading
pub record Gives (r : List Terminal → Option LineForm) (head : Head) (reading : Parts) : Type 0 where
  pub sound : (ts : List Terminal) (line : LineForm) → r ts ≡ Some line → (line.head ≡ head) × reading ts line.nodes line.body
  pub complete : (ts : List Terminal) (nodes body : List Tree) → reading ts nodes body → r ts ≡ Some (record { head = head; nodes = nodes; body = body })

-- ---- none, and one before another

pub none_nowhere : {r : List Terminal → Option LineForm} {head : Head} {reading : Parts} → Gives r head reading → (ts : List Terminal) → r ts ≡ None → Nowhere reading ts
none_nowhere G ts e nodes body h = let e2 = G.complete ts nodes body h in cc

pub nowhere_none : {r : List Terminal → Option LineForm} {head : Head} {reading : Parts} → Gives r head reading → (ts : List Terminal) → Nowhere reading ts → r ts ≡ None
nowhere_none {r} G ts nowhere = go (r ts) refl
  where
    go : (o : Option LineForm) → r ts ≡ o → r ts ≡ None
    go None e = e
    go (Some line) e = absurd (nowhere line.nodes line.body (G.sound ts line e).1)

pub or_line_some : (o p : Option LineForm) (line : LineForm) → or_line o p ≡ Some line → (o ≡ Some line) ⊎ ((o ≡ None) × (p ≡ Some line))
or_line_some None p line e = inr (refl, e)
or_line_some (Some first) p line e = inl e

pub gives_or : {r q : List Terminal → Option LineForm} {head : Head} {one other : Parts} → Gives r head one → Gives q head other
    → Gives (λ ts. or_line (r ts) (q ts)) head (λ ts nodes body. one ts nodes body ⊎ (other ts nodes body × Nowhere one ts))
gives_or {r} {q} G H = record {
  sound = λ ts line e.
      elim (or_line_some (r ts) (q ts) line e) [
        | inl e1 ↦ let (same, h) = G.sound ts line e1 in (same, inl h)
        | inr h ↦ let (same, g) = H.sound ts line h.1 in (same, inr (g, none_nowhere G ts h.0))
      ];
  complete = λ ts nodes body h.
      elim h [
        | inl g ↦ let e = G.complete ts nodes body g in rw e refl
        | inr g ↦ let e1 = nowhere_none G ts g.1 in let e2 = H.complete ts nodes body g.0 in rw (e1, e2) refl
      ];
}

-- ---- lines that are not nested too deep

gives_shallow : {r : List Terminal → Option LineForm} {head : Head} {reading : Parts} → Gives r head reading → Gives (λ ts. shallow (r ts)) head (λ ts nodes body. reading ts nodes body × IsShallow nodes body)
gives_shallow {r} {head} {reading} G = record {
  sound = λ ts line e.
      let (e1, fits) = shallow_some (r ts) line e in
      let (same, h) = G.sound ts line e1 in
      (same, (h, fits));
  complete = λ ts nodes body h.
      let e1 = G.complete ts nodes body h.0 in
      let e2 = le-leb (nesting_of weight (nodes ++ body)) 200 h.1 in
      rw (e1, e2) refl;
}
  where
    tested : (b : Bool) (line other : LineForm) → cond b (Some line) None ≡ Some other → (b ≡ true) × (line ≡ other)
    tested true line other e = (refl, cc)
    tested false line other e = absurd cc

    shallow_some : (o : Option LineForm) (line : LineForm) → shallow o ≡ Some line → (o ≡ Some line) × IsShallow line.nodes line.body
    shallow_some None line e = absurd cc
    shallow_some (Some other) line e =
        let (fits, same) = tested (nat_le (nesting_of weight (other.nodes ++ other.body)) 200) other line e in
        (ap Some same, subst (λ (l : LineForm). IsShallow l.nodes l.body) same (leb-true (nesting_of weight (other.nodes ++ other.body)) 200 fits))

-- ---- a header and its `:`

at_nothing : (ts : List Terminal) → at code [] ts ≡ false
at_nothing [] = refl
at_nothing (t ∷ ts) = refl

module _ {f c : List ℕ} {p : LineReader} {a : Form} (A : Reads false f c p a) (sep : are_apart c colon ≡ true) where
  mark_sound : (ts : List Terminal) (nodes : List Tree) (rest : List Terminal) → both p (token colon) ts ≡ got nodes rest → (front : List Terminal) × Then a (Token colon) front nodes × (ts ≡ front ++ rest)
  mark_sound ts nodes rest e = (in_a_row A (a_token colon refl refl) sep).sound ts nodes rest e

  mark_complete : (front : List Terminal) (nodes : List Tree) (rest : List Terminal) → Then a (Token colon) front nodes → both p (token colon) (front ++ rest) ≡ got nodes rest
  mark_complete front nodes rest h = (in_a_row A (a_token colon refl refl) sep).complete front nodes rest h (at_nothing rest)

  -- nothing stands behind the `:`
  pub gives_bare : (P : Entry → LineReader) (head : Head) → Gives (bare_at P head p) head (λ ts nodes body. (Then a (Token colon) ts nodes × (body ≡ [])) × IsShallow nodes body)
  unfolding bare_at
  gives_bare P head = gives_shallow (record {
    sound = λ ts line e. go ts (both p (token colon) ts) refl line e;
    complete = λ ts nodes body h.
        let e1 = mark_complete ts nodes [] h.0 in
        let e2 : both p (token colon) ts ≡ got nodes [] = ap (both p (token colon)) (sym (append-nil ts)) ∙ e1 in
        let e3 = h.1 in
        rw (e2, e3) refl;
  })
    where
      go : (ts : List Terminal) (r : Read Terminal) → both p (token colon) ts ≡ r → (line : LineForm) → without_body head r ≡ Some line → (line.head ≡ head) × (Then a (Token colon) ts line.nodes × (line.body ≡ []))
      go ts fails same line e = absurd cc
      go ts (got nodes (t ∷ rest)) same line e = absurd cc
      go ts (got nodes []) same line e =
          let (x, h, tx) = mark_sound ts nodes [] same in
          let ts_is : x ≡ ts = sym (tx ∙ append-nil x) in
          let line_is : record { head = head; nodes = nodes; body = [] } ≡ line = cc in
          let here : (head ≡ head) × (Then a (Token colon) ts nodes × ([] ≡ [])) = (refl, (subst (λ (w : List Terminal). Then a (Token colon) w nodes) ts_is h, refl)) in
          subst (λ (l : LineForm). (l.head ≡ head) × (Then a (Token colon) ts l.nodes × (l.body ≡ []))) line_is here

-- ---- simple statements

module _ {f c : List ℕ} {p : LineReader} {a : Form} (A : Reads false f c p a) where
  whole_sound : (ts : List Terminal) (out : List Tree) → p ts ≡ got out [] → a ts out
  whole_sound ts out e = let (x, h, tx) = A.sound ts out [] e in subst (λ (w : List Terminal). a w out) (sym (tx ∙ append-nil x)) h

  whole_complete : (ts : List Terminal) (out : List Tree) → a ts out → p ts ≡ got out []
  whole_complete ts out h = ap p (sym (append-nil ts)) ∙ A.complete ts out [] h refl

-- what is read to the line's end behind some nodes
body_some : (head : Head) (nodes : List Tree) (r : Read Terminal) (line : LineForm) → with_body head nodes r ≡ Some line → (body : List Tree) × (r ≡ got body []) × (record { head = head; nodes = nodes; body = body } ≡ line)
body_some head nodes fails line e = absurd cc
body_some head nodes (got body (t ∷ ts)) line e = absurd cc
body_some head nodes (got body []) line e = (body, refl, cc)

nodes_some : (head : Head) (r : Read Terminal) (line : LineForm) → without_body head r ≡ Some line → (nodes : List Tree) × (r ≡ got nodes []) × (record { head = head; nodes = nodes; body = [] } ≡ line)
nodes_some head fails line e = absurd cc
nodes_some head (got nodes (t ∷ ts)) line e = absurd cc
nodes_some head (got nodes []) line e = (nodes, refl, cc)

-- a decorator alone
pub gives_nodes : {f c : List ℕ} {p : LineReader} {a : Form} (head : Head) → Reads false f c p a → Gives (λ ts. shallow (without_body head (p ts))) head (λ ts nodes body. (a ts nodes × (body ≡ [])) × IsShallow nodes body)
gives_nodes {p = p} {a = a} head A = gives_shallow (record {
  sound = λ ts line e.
      let (nodes, same, line_is) = nodes_some head (p ts) line e in
      let here : (head ≡ head) × (a ts nodes × ([] ≡ [])) = (refl, (whole_sound A ts nodes same, refl)) in
      subst (λ (l : LineForm). (l.head ≡ head) × (a ts l.nodes × (l.body ≡ []))) line_is here;
  complete = λ ts nodes body h. let e = whole_complete A ts nodes h.0 in let e2 = h.1 in rw (e, e2) refl;
})

module _ (P : Entry → LineReader) (L : Entry → Form) (statements : Reads false statement_first statements_more (statements_at P) (Statements L)) where
  pub gives_simple : Gives (simple_at P) heads.Simple (λ ts nodes body. (Statements L ts body × (nodes ≡ [])) × IsShallow nodes body)
  unfolding simple_at
  gives_simple = gives_shallow (record {
    sound = λ ts line e.
        let (body, same, line_is) = body_some heads.Simple [] (statements_at P ts) line e in
        let here : (heads.Simple ≡ heads.Simple) × (Statements L ts body × ([] ≡ [])) = (refl, (whole_sound statements ts body same, refl)) in
        subst (λ (l : LineForm). (l.head ≡ heads.Simple) × (Statements L ts l.body × (l.nodes ≡ []))) line_is here;
    complete = λ ts nodes body h. let e = whole_complete statements ts body h.0 in let e2 = h.1 in rw (e, e2) refl;
  })

  -- what stands behind the `:`
  body_sound : (head : Head) (nodes : List Tree) (rest : List Terminal) (line : LineForm) → behind_header P head (got nodes rest) ≡ Some line
      → (body : List Tree) × Maybe (Statements L) rest body × (record { head = head; nodes = nodes; body = body } ≡ line)
  body_sound head nodes [] line e = ([], inr (refl, refl), cc)
  body_sound head nodes (t ∷ ts) line e =
      let (body, same, line_is) = body_some head nodes (statements_at P (t ∷ ts)) line e in
      (body, inl (whole_sound statements (t ∷ ts) body same), line_is)

  body_complete : (head : Head) (nodes body : List Tree) (rest : List Terminal) → Maybe (Statements L) rest body → behind_header P head (got nodes rest) ≡ Some (record { head = head; nodes = nodes; body = body })
  body_complete head nodes body [] h =
      elim h [
        | inl s ↦ let none : false ≡ true = statements.starts [] body s in absurd cc
        | inr n ↦ let e = n.1 in rw e refl
      ]
  body_complete head nodes body (t ∷ ts) h =
      elim h [
        | inl s ↦ let e = whole_complete statements (t ∷ ts) body s in rw e refl
        | inr n ↦ let e = n.0 in absurd cc
      ]

  module _ {f c : List ℕ} {p : LineReader} {a : Form} (A : Reads false f c p a) (sep : are_apart c colon ≡ true) where
    -- a header, its `:` and its statements as tokens in three parts
    headed_of : (ts x rest : List Terminal) (nodes body : List Tree) → Then a (Token colon) x nodes → Maybe (Statements L) rest body → ts ≡ x ++ rest → IsHeaded L a ts nodes body
    headed_of ts x rest nodes body h s tx =
        let m = h.second in
        let nodes_are : h.front_out ≡ nodes = rw (h.trees, m.trees) (sym (append-nil h.front_out)) in
        record {
          front = h.front;
          mark = m.token;
          back = rest;
          header_is = subst (λ (o : List Tree). a h.front o) nodes_are h.first;
          mark_is = m.is_in;
          body_is = s;
          tokens = rw (tx, h.tokens, m.tokens) (append_assoc h.front (m.token ∷ []) rest);
        }

    marked : (nodes body : List Tree) (ts : List Terminal) (h : IsHeaded L a ts nodes body) → Then a (Token colon) (h.front ++ h.mark ∷ []) nodes
    marked nodes body ts h = then_of a (Token colon) h.front (h.mark ∷ []) nodes [] nodes h.header_is (record { token = h.mark; is_in = h.mark_is; tokens = refl; trees = refl }) (sym (append-nil nodes))

    pub gives_headed : (head : Head) → Gives (headed_at P head p) head (λ ts nodes body. IsHeaded L a ts nodes body × IsShallow nodes body)
    unfolding headed_at
    gives_headed head = gives_shallow (record {
      sound = λ ts line e. go ts (both p (token colon) ts) refl line e;
      complete = λ ts nodes body h.
          let e1 = mark_complete A sep (h.front ++ h.mark ∷ []) nodes h.back (marked nodes body ts h) in
          let ts_are : (h.front ++ h.mark ∷ []) ++ h.back ≡ ts = append_assoc h.front (h.mark ∷ []) h.back ∙ sym h.tokens in
          let e2 : both p (token colon) ts ≡ got nodes h.back = ap (both p (token colon)) (sym ts_are) ∙ e1 in
          ap (behind_header P head) e2 ∙ body_complete head nodes body h.back h.body_is;
    })
      where
        go : (ts : List Terminal) (r : Read Terminal) → both p (token colon) ts ≡ r → (line : LineForm) → behind_header P head r ≡ Some line → (line.head ≡ head) × IsHeaded L a ts line.nodes line.body
        go ts fails same line e = absurd cc
        go ts (got nodes rest) same line e =
            let (x, h, tx) = mark_sound A sep ts nodes rest same in
            let (body, s, line_is) = body_sound head nodes rest line e in
            let here : (head ≡ head) × IsHeaded L a ts nodes body = (refl, headed_of ts x rest nodes body h s tx) in
            subst (λ (l : LineForm). (l.head ≡ head) × IsHeaded L a ts l.nodes l.body) line_is here
