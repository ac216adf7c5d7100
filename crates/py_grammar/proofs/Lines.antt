-- The reader of a line gives a line exactly where its tokens spell it with phrases of the reader's depth.
use Rattle.std.proofs.Common.{◌≡◌, ℕ, true, false, List, [], ◌∷◌, ◌++◌, inl, inr, Option, Some, None, refl, sym, ap, ◌∙◌, append_assoc}
use Rattle.std.proofs.lemmas.List.{append-nil}
use Rattle.tree_nodes.specs.Trees.{Tree}
use Rattle.py_language.specs.Sets.{mem}
use Rattle.py_language.specs.Languages.{Then}
use Rattle.py_language.proofs.SetLaws.{mem_append, or_right}
use Rattle.py_language.proofs.Looking.{ReadsAlone}
use Rattle.py_grammar.specs.declared.entry.Entry.{Entry}
use Rattle.py_grammar.specs.declared.entry.Entry.TheVariants as e
use Rattle.py_grammar.specs.declared.head.Head.{Head}
use Rattle.py_grammar.specs.declared.head.Head.TheVariants as heads
use Rattle.py_grammar.specs.declared.symbol.Symbol.{Symbol}
use Rattle.py_grammar.specs.declared.symbol.Symbol.TheVariants as s
use Rattle.py_grammar.specs.Symbols.{number_of}
use Rattle.py_grammar.specs.Terminals.{Terminal, Form, code, first_of, second_of}
use Rattle.py_grammar.specs.Words.{name, async_word, at_sign, case_word, colon, else_word, finally_word, match_word, star, try_word, with_word}
use Rattle.py_grammar.specs.Firsts.{statement_first, test_first, entry_first}
use Rattle.py_grammar.specs.Nodes.{Token}
use Rattle.py_grammar.specs.Headers.{ExceptHeader, ExceptStarHeader, MatchHeader, CaseHeader}
use Rattle.py_grammar.specs.Lines.{LineForm, IsHeaded, headed, bare, async}
use Rattle.py_grammar.specs.Reading.{LineReader}
use Rattle.py_grammar.specs.ReadingHeaders.{except_header_at, except_star_header_at, match_header_at, case_header_at}
use Rattle.py_grammar.specs.ReadingLines.{or_line, headed_at, bare_at, simple_at, async_line_at, except_line_at, line_by, line_at}
use Rattle.py_grammar.proofs.FollowSets.{test_more, pattern_more, entry_more}
use Rattle.py_grammar.proofs.Building.{Reads, a_token}
use Rattle.py_grammar.proofs.Headers.{reads_for_header, reads_except_header, reads_except_star_header, reads_plain_with, reads_parenthesized_with, reads_function_header, reads_class_header, reads_match_header, reads_case_header, reads_decorator_line}
use Rattle.py_grammar.proofs.FirstTokens.{only_symbol, first_in, second_in}
use Rattle.py_grammar.proofs.LineParts.{Nowhere, Gives, or_line_some, none_nowhere, nowhere_none}
use Rattle.py_grammar.proofs.LineRows.{FitsWith, with_items_of, IsSpelled, reads_body, reads_if, reads_elif, reads_while, reads_async_for, reads_async_function, reads_async_items, reads_async_with, gives_decorator, gives_if, gives_elif, gives_else, gives_while, gives_for, gives_async_for, gives_try, gives_except, gives_except_star, gives_finally, gives_with, gives_async_with, gives_function, gives_async_function, gives_class, gives_match, gives_case, gives_statements}

-- ---- how headers begin

headed_first : {f c : List ℕ} {p : LineReader} {a : Form} (L : Entry → Form) → Reads false f c p a → (ts : List Terminal) (nodes body : List Tree) → IsHeaded L a ts nodes body → mem (code (first_of ts)) f ≡ true
headed_first {f} L A ts nodes body h = first_in f ts h.front (h.mark ∷ h.back) (A.starts h.front nodes h.header_is) h.tokens

headed_second : {f c : List ℕ} {p : LineReader} {a : Form} (L : Entry → Form) (word : List ℕ) → Reads false f c p a → (ts : List Terminal) (nodes body : List Tree) → IsHeaded L (Then (Token word) a) ts nodes body → mem (code (second_of ts)) f ≡ true
headed_second {f} L word A ts nodes body h =
    let m = h.header_is in
    second_in f ts m.first.token m.back (h.mark ∷ h.back) (A.starts m.back m.back_out m.second) (rw (h.tokens, m.tokens, m.first.tokens) refl)

-- a line is spelled whose kind is that of what gives it
spelled_by : (L : Entry → Form) {r : List Terminal → Option LineForm} {head : Head} → Gives r head (IsSpelled L head) → (ts : List Terminal) (line : LineForm) → r ts ≡ Some line → IsSpelled L line.head ts line.nodes line.body
spelled_by L G ts line given = let (same, h) = G.sound ts line given in rw same h

module _ (P : Entry → LineReader) (L : Entry → Form) (known : (x : Entry) → Reads false (entry_first x) (entry_more x) (P x) (L x)) (alone_test : ReadsAlone code name test_more (P e.Test)) (alone_pattern : ReadsAlone code name pattern_more (P e.Pattern)) where
  -- ---- lines that begin like none of `match` and `case`

  match_first : (ts : List Terminal) (nodes body : List Tree) → FitsWith L (bare MatchHeader) ts nodes body → mem (code (first_of ts)) match_word ≡ true
  match_first ts nodes body h =
      let m = h.0.0 in
      first_in match_word ts m.front m.back ((reads_match_header P L known alone_test alone_pattern).starts m.front m.front_out m.first) m.tokens

  case_first : (ts : List Terminal) (nodes body : List Tree) → FitsWith L (headed CaseHeader) ts nodes body → mem (code (first_of ts)) case_word ≡ true
  case_first ts nodes body h = headed_first L (reads_case_header P L known alone_test alone_pattern) ts nodes body h.0

  differs : (word : List ℕ) (x y : Symbol) → x ≡ y → mem (number_of y) word ≡ false → mem (number_of x) word ≡ true → ⊥
  differs word x y same no' yes' = let e = ap (λ (z : Symbol). mem (number_of z) word) same in cc

  not_match : (x : Symbol) (ts : List Terminal) → (first_of ts).symbol ≡ x → mem (number_of x) match_word ≡ false → Nowhere (FitsWith L (bare MatchHeader)) ts
  not_match x ts same no' nodes body h = differs match_word (first_of ts).symbol x same no' (match_first ts nodes body h)

  not_case : (x : Symbol) (ts : List Terminal) → (first_of ts).symbol ≡ x → mem (number_of x) case_word ≡ false → Nowhere (FitsWith L (headed CaseHeader)) ts
  not_case x ts same no' nodes body h = differs case_word (first_of ts).symbol x same no' (case_first ts nodes body h)

  -- ---- what is read is spelled

  statements_sound : (ts : List Terminal) (line : LineForm) → Nowhere (FitsWith L (bare MatchHeader)) ts → Nowhere (FitsWith L (headed CaseHeader)) ts → simple_at P ts ≡ Some line → IsSpelled L line.head ts line.nodes line.body
  unfolding IsSpelled
  statements_sound ts line no_match no_case given = let (same, h) = (gives_statements P L known alone_test alone_pattern).sound ts line given in rw same (h, no_match, no_case)

  match_nowhere : (ts : List Terminal) → bare_at P heads.Match (match_header_at P) ts ≡ None → Nowhere (FitsWith L (bare MatchHeader)) ts
  unfolding IsSpelled
  match_nowhere ts none = none_nowhere (gives_match P L known alone_test alone_pattern) ts none

  case_nowhere : (ts : List Terminal) → headed_at P heads.Case (case_header_at P) ts ≡ None → Nowhere (FitsWith L (headed CaseHeader)) ts
  unfolding IsSpelled
  case_nowhere ts none = none_nowhere (gives_case P L known alone_test alone_pattern) ts none

  async_sound : (x : Symbol) (ts : List Terminal) (line : LineForm) → async_line_at P x ts ≡ Some line → IsSpelled L line.head ts line.nodes line.body
  unfolding async_line_at
  async_sound s.ForWord ts line given = spelled_by L (gives_async_for P L known alone_test alone_pattern) ts line given
  async_sound s.WithWord ts line given = spelled_by L (gives_async_with P L known alone_test alone_pattern) ts line given
  async_sound x ts line given = spelled_by L (gives_async_function P L known alone_test alone_pattern) ts line given

  except_sound : (x : Symbol) (ts : List Terminal) (line : LineForm) → except_line_at P x ts ≡ Some line → IsSpelled L line.head ts line.nodes line.body
  unfolding except_line_at
  except_sound s.Star ts line given = spelled_by L (gives_except_star P L known alone_test alone_pattern) ts line given
  except_sound x ts line given = spelled_by L (gives_except P L known alone_test alone_pattern) ts line given

  by_sound : (x : Symbol) (ts : List Terminal) → (first_of ts).symbol ≡ x → (line : LineForm) → line_by P x ts ≡ Some line → IsSpelled L line.head ts line.nodes line.body
  unfolding line_by
  by_sound s.AtSign ts same line given = spelled_by L (gives_decorator P L known alone_test alone_pattern) ts line given
  by_sound s.IfWord ts same line given = spelled_by L (gives_if P L known alone_test alone_pattern) ts line given
  by_sound s.ElifWord ts same line given = spelled_by L (gives_elif P L known alone_test alone_pattern) ts line given
  by_sound s.ElseWord ts same line given = spelled_by L (gives_else P L known alone_test alone_pattern) ts line given
  by_sound s.WhileWord ts same line given = spelled_by L (gives_while P L known alone_test alone_pattern) ts line given
  by_sound s.ForWord ts same line given = spelled_by L (gives_for P L known alone_test alone_pattern) ts line given
  by_sound s.TryWord ts same line given = spelled_by L (gives_try P L known alone_test alone_pattern) ts line given
  by_sound s.ExceptWord ts same line given = except_sound (second_of ts).symbol ts line given
  by_sound s.FinallyWord ts same line given = spelled_by L (gives_finally P L known alone_test alone_pattern) ts line given
  by_sound s.WithWord ts same line given = spelled_by L (gives_with P L known alone_test alone_pattern) ts line given
  by_sound s.DefWord ts same line given = spelled_by L (gives_function P L known alone_test alone_pattern) ts line given
  by_sound s.ClassWord ts same line given = spelled_by L (gives_class P L known alone_test alone_pattern) ts line given
  by_sound s.AsyncWord ts same line given = async_sound (second_of ts).symbol ts line given
  by_sound s.MatchWord ts same line given =
      elim (or_line_some (bare_at P heads.Match (match_header_at P) ts) (simple_at P ts) line given) [
        | inl h ↦ spelled_by L (gives_match P L known alone_test alone_pattern) ts line h
        | inr h ↦ statements_sound ts line (match_nowhere ts h.0) (not_case s.MatchWord ts same refl) h.1
      ]
  by_sound s.CaseWord ts same line given =
      elim (or_line_some (headed_at P heads.Case (case_header_at P) ts) (simple_at P ts) line given) [
        | inl h ↦ spelled_by L (gives_case P L known alone_test alone_pattern) ts line h
        | inr h ↦ statements_sound ts line (not_match s.CaseWord ts same refl) (case_nowhere ts h.0) h.1
      ]
  by_sound x ts same line given = statements_sound ts line (not_match x ts same refl) (not_case x ts same refl) given

  pub line_sound : (ts : List Terminal) (line : LineForm) → line_at P ts ≡ Some line → IsSpelled L line.head ts line.nodes line.body
  unfolding line_at
  line_sound ts line given = by_sound (first_of ts).symbol ts refl line given

  -- ---- what is spelled is read

  -- the line of a first token
  line_behind : (x : Symbol) (ts : List Terminal) → mem (code (first_of ts)) (number_of x ∷ []) ≡ true → line_at P ts ≡ line_by P x ts
  unfolding line_at
  line_behind x ts h = ap (λ (y : Symbol). line_by P y ts) (only_symbol (first_of ts).symbol x h)

  async_behind : (x : Symbol) (ts : List Terminal) → mem (code (first_of ts)) async_word ≡ true → mem (code (second_of ts)) (number_of x ∷ []) ≡ true → line_at P ts ≡ async_line_at P x ts
  unfolding line_by
  async_behind x ts h g = line_behind s.AsyncWord ts h ∙ ap (λ (y : Symbol). async_line_at P y ts) (only_symbol (second_of ts).symbol x g)

  -- behind `except` stands an expression or the `:`
  except_second : (ts : List Terminal) (nodes body : List Tree) → IsHeaded L (ExceptHeader L) ts nodes body → mem (code (second_of ts)) (test_first ++ colon) ≡ true
  unfolding ExceptHeader
  except_second ts nodes body h =
      let m = h.header_is in
      elim m.second [
        | inl q ↦
            let b = (known e.Test).starts q.front q.front_out q.first in
            let e1 = second_in test_first ts m.first.token q.front (q.back ++ h.mark ∷ h.back) b (rw (h.tokens, m.tokens, m.first.tokens, q.tokens) (simp append_assoc)) in
            mem_append (code (second_of ts)) test_first colon ∙ rw e1 refl
        | inr n ↦
            let nothing = n.0 in
            let e1 = second_in colon ts m.first.token (h.mark ∷ []) h.back h.mark_is (rw (h.tokens, m.tokens, m.first.tokens, nothing) refl) in
            mem_append (code (second_of ts)) test_first colon ∙ or_right (mem (code (second_of ts)) test_first) (mem (code (second_of ts)) colon) e1
      ]

  plain_except : (x : Symbol) (ts : List Terminal) → mem (number_of x) (test_first ++ colon) ≡ true → except_line_at P x ts ≡ headed_at P heads.Except (except_header_at P) ts
  unfolding except_line_at
  plain_except s.Star ts h = absurd cc
  plain_except x ts h = refl

  simple_line : (x : Symbol) (ts : List Terminal) → mem (number_of x) statement_first ≡ true → bare_at P heads.Match (match_header_at P) ts ≡ None → headed_at P heads.Case (case_header_at P) ts ≡ None → line_by P x ts ≡ simple_at P ts
  unfolding line_by
  simple_line s.MatchWord ts h no_match no_case = rw no_match refl
  simple_line s.CaseWord ts h no_match no_case = rw no_case refl
  simple_line s.AtSign ts h no_match no_case = absurd cc
  simple_line s.IfWord ts h no_match no_case = absurd cc
  simple_line s.ElifWord ts h no_match no_case = absurd cc
  simple_line s.ElseWord ts h no_match no_case = absurd cc
  simple_line s.WhileWord ts h no_match no_case = absurd cc
  simple_line s.ForWord ts h no_match no_case = absurd cc
  simple_line s.TryWord ts h no_match no_case = absurd cc
  simple_line s.ExceptWord ts h no_match no_case = absurd cc
  simple_line s.FinallyWord ts h no_match no_case = absurd cc
  simple_line s.WithWord ts h no_match no_case = absurd cc
  simple_line s.DefWord ts h no_match no_case = absurd cc
  simple_line s.ClassWord ts h no_match no_case = absurd cc
  simple_line s.AsyncWord ts h no_match no_case = absurd cc
  simple_line x ts h no_match no_case = refl

  first_line : (ts : List Terminal) → line_at P ts ≡ line_by P (first_of ts).symbol ts
  unfolding line_at
  first_line ts = refl

  no_match_read : (ts : List Terminal) → Nowhere (FitsWith L (bare MatchHeader)) ts → bare_at P heads.Match (match_header_at P) ts ≡ None
  unfolding IsSpelled
  no_match_read ts nowhere = nowhere_none (gives_match P L known alone_test alone_pattern) ts nowhere

  no_case_read : (ts : List Terminal) → Nowhere (FitsWith L (headed CaseHeader)) ts → headed_at P heads.Case (case_header_at P) ts ≡ None
  unfolding IsSpelled
  no_case_read ts nowhere = nowhere_none (gives_case P L known alone_test alone_pattern) ts nowhere

  star_second : (ts : List Terminal) (nodes body : List Tree) → IsHeaded L (ExceptStarHeader L) ts nodes body → mem (code (second_of ts)) star ≡ true
  unfolding ExceptStarHeader
  star_second ts nodes body h =
      let m = h.header_is in
      let q = m.second in
      second_in star ts m.first.token (q.first.token ∷ []) (q.back ++ h.mark ∷ h.back) q.first.is_in (rw (h.tokens, m.tokens, m.first.tokens, q.tokens, q.first.tokens) refl)

  star_except : (ts : List Terminal) → mem (code (second_of ts)) star ≡ true → except_line_at P (second_of ts).symbol ts ≡ headed_at P heads.ExceptStar (except_star_header_at P) ts
  unfolding except_line_at
  star_except ts h = ap (λ (y : Symbol). except_line_at P y ts) (only_symbol (second_of ts).symbol s.Star h)

  with_first : (ts : List Terminal) (nodes body : List Tree) → with_items_of L (λ header. header) ts nodes body → mem (code (first_of ts)) with_word ≡ true
  with_first ts nodes body h =
      elim h [
        | inl g ↦ headed_first L (reads_parenthesized_with P L known alone_test alone_pattern) ts nodes body g.0
        | inr g ↦ headed_first L (reads_plain_with P L known alone_test alone_pattern) ts nodes body g.0.0
      ]

  async_first : (ts : List Terminal) (nodes body : List Tree) → with_items_of L async ts nodes body → mem (code (first_of ts)) async_word ≡ true
  async_first ts nodes body h =
      elim h [
        | inl g ↦ headed_first L (reads_async_items P L known alone_test alone_pattern) ts nodes body g.0
        | inr g ↦ headed_first L (reads_async_with P L known alone_test alone_pattern) ts nodes body g.0.0
      ]

  async_with_second : (ts : List Terminal) (nodes body : List Tree) → with_items_of L async ts nodes body → mem (code (second_of ts)) with_word ≡ true
  async_with_second ts nodes body h =
      elim h [
        | inl g ↦ headed_second L async_word (reads_parenthesized_with P L known alone_test alone_pattern) ts nodes body g.0
        | inr g ↦ headed_second L async_word (reads_plain_with P L known alone_test alone_pattern) ts nodes body g.0.0
      ]

  complete_at : (head : Head) (ts : List Terminal) (nodes body : List Tree) → IsSpelled L head ts nodes body → line_at P ts ≡ Some (record { head = head; nodes = nodes; body = body })
  unfolding IsSpelled line_by async_line_at except_line_at
  complete_at heads.Simple ts nodes body h =
      let st = h.0.0.0 in
      let f : mem (code (first_of ts)) statement_first ≡ true = first_in statement_first ts ts [] ((reads_body P L known alone_test alone_pattern).starts ts body st) (sym (append-nil ts)) in
      first_line ts ∙ simple_line (first_of ts).symbol ts f (no_match_read ts h.1) (no_case_read ts h.2) ∙ (gives_statements P L known alone_test alone_pattern).complete ts nodes body h.0
  complete_at heads.Decorator ts nodes body h =
      line_behind s.AtSign ts (first_in at_sign ts ts [] ((reads_decorator_line P L known alone_test alone_pattern).starts ts nodes h.0.0) (sym (append-nil ts))) ∙ (gives_decorator P L known alone_test alone_pattern).complete ts nodes body h
  complete_at heads.If ts nodes body h = line_behind s.IfWord ts (headed_first L (reads_if P L known alone_test alone_pattern) ts nodes body h.0) ∙ (gives_if P L known alone_test alone_pattern).complete ts nodes body h
  complete_at heads.Elif ts nodes body h = line_behind s.ElifWord ts (headed_first L (reads_elif P L known alone_test alone_pattern) ts nodes body h.0) ∙ (gives_elif P L known alone_test alone_pattern).complete ts nodes body h
  complete_at heads.Else ts nodes body h = line_behind s.ElseWord ts (headed_first L (a_token else_word refl refl) ts nodes body h.0) ∙ (gives_else P L known alone_test alone_pattern).complete ts nodes body h
  complete_at heads.While ts nodes body h = line_behind s.WhileWord ts (headed_first L (reads_while P L known alone_test alone_pattern) ts nodes body h.0) ∙ (gives_while P L known alone_test alone_pattern).complete ts nodes body h
  complete_at heads.For ts nodes body h = line_behind s.ForWord ts (headed_first L (reads_for_header P L known alone_test alone_pattern) ts nodes body h.0) ∙ (gives_for P L known alone_test alone_pattern).complete ts nodes body h
  complete_at heads.AsyncFor ts nodes body h =
      async_behind s.ForWord ts (headed_first L (reads_async_for P L known alone_test alone_pattern) ts nodes body h.0) (headed_second L async_word (reads_for_header P L known alone_test alone_pattern) ts nodes body h.0)
      ∙ (gives_async_for P L known alone_test alone_pattern).complete ts nodes body h
  complete_at heads.Try ts nodes body h = line_behind s.TryWord ts (headed_first L (a_token try_word refl refl) ts nodes body h.0) ∙ (gives_try P L known alone_test alone_pattern).complete ts nodes body h
  complete_at heads.Except ts nodes body h =
      line_behind s.ExceptWord ts (headed_first L (reads_except_header P L known alone_test alone_pattern) ts nodes body h.0)
      ∙ plain_except (second_of ts).symbol ts (except_second ts nodes body h.0) ∙ (gives_except P L known alone_test alone_pattern).complete ts nodes body h
  complete_at heads.ExceptStar ts nodes body h =
      line_behind s.ExceptWord ts (headed_first L (reads_except_star_header P L known alone_test alone_pattern) ts nodes body h.0)
      ∙ star_except ts (star_second ts nodes body h.0) ∙ (gives_except_star P L known alone_test alone_pattern).complete ts nodes body h
  complete_at heads.Finally ts nodes body h = line_behind s.FinallyWord ts (headed_first L (a_token finally_word refl refl) ts nodes body h.0) ∙ (gives_finally P L known alone_test alone_pattern).complete ts nodes body h
  complete_at heads.With ts nodes body h = line_behind s.WithWord ts (with_first ts nodes body h) ∙ (gives_with P L known alone_test alone_pattern).complete ts nodes body h
  complete_at heads.AsyncWith ts nodes body h = async_behind s.WithWord ts (async_first ts nodes body h) (async_with_second ts nodes body h) ∙ (gives_async_with P L known alone_test alone_pattern).complete ts nodes body h
  complete_at heads.FunctionDef ts nodes body h = line_behind s.DefWord ts (headed_first L (reads_function_header P L known alone_test alone_pattern) ts nodes body h.0) ∙ (gives_function P L known alone_test alone_pattern).complete ts nodes body h
  complete_at heads.AsyncFunctionDef ts nodes body h =
      async_behind s.DefWord ts (headed_first L (reads_async_function P L known alone_test alone_pattern) ts nodes body h.0) (headed_second L async_word (reads_function_header P L known alone_test alone_pattern) ts nodes body h.0)
      ∙ (gives_async_function P L known alone_test alone_pattern).complete ts nodes body h
  complete_at heads.ClassDef ts nodes body h = line_behind s.ClassWord ts (headed_first L (reads_class_header P L known alone_test alone_pattern) ts nodes body h.0) ∙ (gives_class P L known alone_test alone_pattern).complete ts nodes body h
  complete_at heads.Match ts nodes body h =
      line_behind s.MatchWord ts (match_first ts nodes body h) ∙ ap (λ (o : Option LineForm). or_line o (simple_at P ts)) ((gives_match P L known alone_test alone_pattern).complete ts nodes body h)
  complete_at heads.Case ts nodes body h =
      line_behind s.CaseWord ts (case_first ts nodes body h) ∙ ap (λ (o : Option LineForm). or_line o (simple_at P ts)) ((gives_case P L known alone_test alone_pattern).complete ts nodes body h)

  pub line_complete : (ts : List Terminal) (line : LineForm) → IsSpelled L line.head ts line.nodes line.body → line_at P ts ≡ Some line
  line_complete ts line h = complete_at line.head ts line.nodes line.body h
