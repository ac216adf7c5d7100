-- Where the tokens and the faults of a text stand.
use Rattle.std.proofs.Common.{◌≡◌, ℕ, zero, suc, ◌+◌, ◌-◌, ◌^◌, ◌≤◌, ◌<◌, Bool, true, false, not, List, [], ◌∷◌, ◌++◌, length, take, drop, refl, sym, ap, ◌∙◌, subst, arith, append-nil, encode_utf8_all, chars, IsUtf8, ⊎_elim, ◌⊎◌, inl, inr, Option, Some, None, IfSome, length-drop, length-take-le}
use Rattle.std.specs.Str.{IsCharBoundary}
use Rattle.std.specs.List.{list_all, prefix_len}
use Rattle.std.proofs.Math.Utf8.{scalars}
use Rattle.std.proofs.lemmas.List.{length-append, nil_from_length, take-append-drop}
use Rattle.std.proofs.lemmas.Str.{encodes-append, encodes-chars, scalars-chars, length-le-encodes, IsCharBoundary-at_seam}
use Rattle.std.proofs.lemmas.Bool.{and_parts, cases_Bool}
use Rattle.lint_values.specs.declared.place.Pos.{Pos}
use Rattle.py_source.specs.Places.{pos_from}
use Rattle.py_source.specs.Spans.{IsPart}
use Rattle.py_lexeme.specs.declared.piece.Kind.{Kind}
use Rattle.py_lexeme.specs.declared.piece.Kind.TheVariants.{Blank, LineEnd, Comment, Join, Name, Keyword, Number, Str, FStr, Op}
use Rattle.py_lexeme.specs.declared.piece.Piece.{Piece}
use Rattle.py_lexeme.specs.declared.piece.Stop.{Stop}
use Rattle.py_lexeme.specs.Characters.{is_ascii}
use Rattle.py_lexeme.specs.Strings.{has_wide_byte, has_in_prefix}
use Rattle.py_lexeme.specs.Pieces.{Cuts, is_legal}
use Rattle.py_lexeme.specs.Faults.{IsCut, StopsAt, IsFaulty, IsIllegal, flaw_of}
use Rattle.py_lexeme.proofs.Matches.{match_some}
use Rattle.py_layout.specs.declared.item.Item.{Item}
use Rattle.py_layout.specs.declared.fault.LayoutCause.{LayoutCause}
use Rattle.py_layout.specs.declared.fault.LayoutCause.TheVariants.{AtLine, AtItem, OpenBracket}
use Rattle.py_layout.specs.declared.fault.ItemCause.TheVariants.{CloseBracket, TooDeep, Stopped}
use Rattle.py_token.specs.declared.token.Token.{Token}
use Rattle.py_token.specs.declared.token.TokenKind.{TokenKind}
use Rattle.py_token.specs.FirstFault.{rest_at, fault_rest}
use Rattle.py_token.specs.Items.{items_of, all_items}
use Rattle.py_token.specs.Scanned.{kind_of, start_of, token_at, tokens_from}
use Rattle.py_token.specs.Settings.{seen}
use Rattle.py_token.specs.Spans.{AreParts, AreRoomy}
use Rattle.py_token.specs.Steps.{AreCut}
use Rattle.py_token.proofs.ScanLaws.{col_bound, drop_twice, front_some, line_bound}

are_cut_to : (cs : List ℕ) (pieces : List Piece) (rest : List ℕ) → Cuts cs pieces rest → AreCut cs pieces
are_cut_to cs [] rest cut = tt
are_cut_to cs (piece ∷ pieces) rest cut = (cut.0, are_cut_to (drop piece.len cs) pieces rest cut.1)

-- the pieces of a cut stand one behind the other
pub are_cut : (cs : List ℕ) (pieces : List Piece) (stop : Option Stop) → IsCut cs pieces stop → AreCut cs pieces
are_cut cs pieces None cut = are_cut_to cs pieces [] cut
are_cut cs pieces (Some stop) cut = are_cut_to cs pieces cut.rest cut.cuts

-- ---- parts of the text

scalars_drop : (k : ℕ) (cs : List ℕ) → scalars cs ≡ true → scalars (drop k cs) ≡ true
scalars_drop zero cs h = h
scalars_drop (suc k) [] h = h
scalars_drop (suc k) (c ∷ cs) h = scalars_drop k cs (and_parts _ _ h).1

text_split : (text : List ℕ) (k : ℕ) → IsUtf8 text → encode_utf8_all (take k (chars text)) ++ encode_utf8_all (drop k (chars text)) ≡ text
text_split text k utf8 = sym (encodes-append (take k (chars text)) (drop k (chars text))) ∙ ap encode_utf8_all (take-append-drop k (chars text)) ∙ encodes-chars text utf8

start_place : (text : List ℕ) (k : ℕ) → IsUtf8 text → length (encode_utf8_all (take k (chars text))) ≡ start_of text (drop k (chars text))
start_place text k utf8 = omega (arith, ap length (text_split text k utf8), length-append (encode_utf8_all (take k (chars text))) (encode_utf8_all (drop k (chars text))))

-- the rest of the characters begins at a boundary
boundary : (text : List ℕ) (k : ℕ) → IsUtf8 text → IsCharBoundary text (start_of text (drop k (chars text)))
boundary text k utf8 =
    let behind : IsUtf8 (encode_utf8_all (drop k (chars text))) = (drop k (chars text), (scalars_drop k (chars text) (scalars-chars text utf8), refl)) in
    subst (IsCharBoundary text) (start_place text k utf8) (IsCharBoundary-at_seam text (encode_utf8_all (take k (chars text))) (encode_utf8_all (drop k (chars text))) (sym (text_split text k utf8)) behind)

-- what is behind takes no more bytes
behind_le : (rest : List ℕ) (len : ℕ) → length (encode_utf8_all (drop len rest)) ≤ length (encode_utf8_all rest)
behind_le rest len =
    let split : encode_utf8_all (take len rest) ++ encode_utf8_all (drop len rest) ≡ encode_utf8_all rest = sym (encodes-append (take len rest) (drop len rest)) ∙ ap encode_utf8_all (take-append-drop len rest) in
    omega (arith, ap length split, length-append (encode_utf8_all (take len rest)) (encode_utf8_all (drop len rest)))

parts_more : (text : List ℕ) (kind : Option TokenKind) (start end : ℕ) (pos : Pos) (more : List Token) → IsPart text (record { start = start; end = end }) → AreParts text more → AreParts text (token_at kind start end pos ++ more)
parts_more text None start end pos more part parts i d within = parts i d within
parts_more text (Some kind) start end pos more part parts zero d within = part
parts_more text (Some kind) start end pos more part parts (suc i) d within = parts i d (omega arith)

-- each token is a part of the text
pub tokens_are_parts : (from : Pos) (text : List ℕ) (k : ℕ) (rest : List ℕ) (pieces : List Piece) → IsUtf8 text → rest ≡ drop k (chars text) → AreParts text (tokens_from from text rest pieces)
tokens_are_parts from text k rest [] utf8 same = λ i d within. absurd (omega arith)
tokens_are_parts from text k rest (piece ∷ pieces) utf8 same =
    let later : drop piece.len rest ≡ drop (k + piece.len) (chars text) = ap (drop piece.len) same ∙ sym (drop_twice (chars text) k piece.len) in
    let part : IsPart text (record { start = start_of text rest; end = start_of text (drop piece.len rest) }) =
    record {
      ordered = omega (arith, behind_le rest piece.len);
      from_boundary = subst (λ r. IsCharBoundary text (start_of text r)) (sym same) (boundary text k utf8);
      to_boundary = subst (λ r. IsCharBoundary text (start_of text r)) (sym later) (boundary text (k + piece.len) utf8);
    } in
    parts_more text (kind_of piece.kind) (start_of text rest) (start_of text (drop piece.len rest)) _ (tokens_from from text (drop piece.len rest) pieces) part (tokens_are_parts from text (k + piece.len) (drop piece.len rest) pieces utf8 later)

roomy_more : (kind : Option TokenKind) (start end : ℕ) (pos : Pos) (more : List Token) → pos.line + (end - start) ≤ 2 ^ 32 → pos.col + (end - start) ≤ 2 ^ 32 → AreRoomy more → AreRoomy (token_at kind start end pos ++ more)
roomy_more None start end pos more lines columns room k d within = room k d within
roomy_more (Some kind) start end pos more lines columns room zero d within = record { lines = lines; columns = columns }
roomy_more (Some kind) start end pos more lines columns room (suc k) d within = room k d (omega arith)

-- each byte of a token has a line and a column below 2^32
pub tokens_are_roomy : (from : Pos) (text rest : List ℕ) (pieces : List Piece) → from.line + length text ≤ 2 ^ 32 → from.col + length text ≤ 2 ^ 32 → AreRoomy (tokens_from from text rest pieces)
tokens_are_roomy from text rest [] lines columns = λ k d within. absurd (omega arith)
tokens_are_roomy from text rest (piece ∷ pieces) lines columns =
    roomy_more (kind_of piece.kind) (start_of text rest) (start_of text (drop piece.len rest)) (pos_from from (start_of text rest) text) (tokens_from from text (drop piece.len rest) pieces)
    (omega (arith, line_bound from (start_of text rest) text, lines))
    (omega (arith, col_bound from (start_of text rest) text, columns))
    (tokens_are_roomy from text (drop piece.len rest) pieces lines columns)

-- ---- where a fault stands

rest_at_drop : (cs : List ℕ) (pieces : List Piece) (n : ℕ) → (k : ℕ) × (rest_at cs pieces n ≡ drop k cs)
rest_at_drop cs pieces zero = (0, refl)
rest_at_drop cs [] (suc n) = (0, refl)
rest_at_drop cs (piece ∷ pieces) (suc n) =
    let later = rest_at_drop (drop piece.len cs) pieces n in (piece.len + later.0, later.1 ∙ sym (drop_twice cs piece.len later.0))

-- what a fault begins is a rest of the characters
pub fault_rest_drop : (cs : List ℕ) (pieces : List Piece) (stop : Option Stop) (n : ℕ) (cause : LayoutCause) → (k : ℕ) × (fault_rest cs pieces stop n cause ≡ drop k cs)
fault_rest_drop cs pieces stop n (AtLine found) = rest_at_drop cs pieces n
fault_rest_drop cs pieces stop n OpenBracket = rest_at_drop cs pieces n
fault_rest_drop cs pieces stop n (AtItem CloseBracket) = rest_at_drop cs pieces n
fault_rest_drop cs pieces stop n (AtItem TooDeep) = rest_at_drop cs pieces n
fault_rest_drop cs pieces None n (AtItem Stopped) = rest_at_drop cs pieces n
fault_rest_drop cs pieces (Some stop) n (AtItem Stopped) = (stop.place, refl)

items_count : (cs : List ℕ) (pieces : List Piece) → length (items_of cs pieces) ≡ length pieces
items_count cs [] = refl
items_count cs (piece ∷ pieces) = ap suc (items_count (drop piece.len cs) pieces)

rest_at_some : (cs : List ℕ) (pieces : List Piece) (rest : List ℕ) (n : ℕ) → Cuts cs pieces rest → (n < length pieces) ⊎ (0 < length rest) → 0 < length (rest_at cs pieces n)
rest_at_some cs [] rest zero cut some = ⊎_elim (λ below. absurd (omega arith)) (λ more. omega (arith, ap length cut)) some
rest_at_some cs [] rest (suc n) cut some = ⊎_elim (λ below. absurd (omega arith)) (λ more. omega (arith, ap length cut)) some
rest_at_some cs (piece ∷ pieces) rest zero cut some = front_some cs piece cut.0
rest_at_some cs (piece ∷ pieces) rest (suc n) cut some =
    rest_at_some (drop piece.len cs) pieces rest n cut.1 (⊎_elim (λ below. inl (omega arith)) (λ more. inr more) some)

prefix_short : (p : ℕ → Bool) (t : List ℕ) → list_all p t ≡ false → prefix_len p t < length t
prefix_short p [] h = cc h
prefix_short p (c ∷ t) h =
    ⊎_elim
    (λ passes. let e : p c ≡ true = passes in let less : prefix_len p t < length t = prefix_short p t (rw e at h) in rw e (omega arith))
    (λ fails. let e : p c ≡ false = fails in rw e (omega arith))
    (cases_Bool (p c))

not_true : (b : Bool) → not b ≡ true → b ≡ false
not_true true h = cc h
not_true false h = refl

not_false : (b : Bool) → not b ≡ false → b ≡ true
not_false true h = refl
not_false false h = cc h

-- the flaw of a text stands in it
flaw_within : (kind : Kind) (t : List ℕ) → 0 < length t → is_legal kind t ≡ false → (flaw_of kind t).place < length t
unfolding is_legal flaw_of
flaw_within Number t some h = some
flaw_within Str t some h = prefix_short is_ascii t (not_true (list_all is_ascii t) (and_parts (has_in_prefix 98 t) (not (list_all is_ascii t)) (not_false (has_wide_byte t) h)).1)
flaw_within Blank t some h = cc h
flaw_within LineEnd t some h = cc h
flaw_within Comment t some h = cc h
flaw_within Join t some h = cc h
flaw_within Name t some h = cc h
flaw_within Keyword t some h = cc h
flaw_within FStr t some h = cc h
flaw_within Op t some h = cc h

illegal_within : (fault : Stop) (cs : List ℕ) → IsIllegal fault cs → fault.place < length cs
illegal_within fault cs illegal =
    let size : length (take illegal.piece.len cs) ≡ illegal.piece.len = length-take-le illegal.piece.len cs illegal.match_at.within in
    let some : 0 < illegal.piece.len = match_some illegal.piece cs illegal.match_at in
    let within : (flaw_of illegal.piece.kind (take illegal.piece.len cs)).place < length (take illegal.piece.len cs) = flaw_within illegal.piece.kind (take illegal.piece.len cs) (omega arith) illegal.illegal in
    omega (arith, ap (λ f. f.place) illegal.told, within, size, illegal.match_at.within)

faulty_within : (fault : Stop) (cs : List ℕ) → 0 < length cs → IsFaulty fault cs → fault.place < length cs
faulty_within fault cs some (inl unmatched) = omega (arith, ap (λ f. f.place) unmatched.told)
faulty_within fault cs some (inr illegal) = illegal_within fault cs illegal

-- a stop stands in the text
pub stop_within : (cs : List ℕ) (pieces : List Piece) (stop : Stop) → StopsAt cs pieces stop → stop.place < length cs
stop_within cs pieces stop stops = omega (arith, faulty_within stops.fault stops.rest stops.some stops.faulty, stops.place)

rest_at_any : (cs : List ℕ) (pieces : List Piece) (stop : Option Stop) (n : ℕ) → IsCut cs pieces stop → n < length (all_items cs pieces stop) → 0 < length (rest_at cs pieces n)
rest_at_any cs pieces None n cut within =
    rest_at_some cs pieces [] n cut (inl (omega (arith, items_count cs pieces, ap length (append-nil (items_of cs pieces)))))
rest_at_any cs pieces (Some stop) n cut within = rest_at_some cs pieces cut.rest n cut.cuts (inr cut.some)

-- a fault stands before the end of the text
pub fault_rest_some : (cs : List ℕ) (pieces : List Piece) (stop : Option Stop) (n : ℕ) (cause : LayoutCause) → IsCut cs pieces stop → n < length (all_items cs pieces stop) → 0 < length (fault_rest cs pieces stop n cause)
fault_rest_some cs pieces stop n (AtLine found) cut within = rest_at_any cs pieces stop n cut within
fault_rest_some cs pieces stop n OpenBracket cut within = rest_at_any cs pieces stop n cut within
fault_rest_some cs pieces stop n (AtItem CloseBracket) cut within = rest_at_any cs pieces stop n cut within
fault_rest_some cs pieces stop n (AtItem TooDeep) cut within = rest_at_any cs pieces stop n cut within
fault_rest_some cs pieces None n (AtItem Stopped) cut within = rest_at_any cs pieces None n cut within
fault_rest_some cs pieces (Some stop) n (AtItem Stopped) cut within = omega (arith, length-drop stop.place cs, stop_within cs pieces stop cut)

-- so its place is one before the end of the text, behind the characters that stand before the rest
pub record IsInText (text cs rest : List ℕ) : Type 0 where
  pub shorter : length rest ≤ length cs
  pub place : length (encode_utf8_all (take (length cs - length rest) cs)) ≡ start_of text rest
  pub before : start_of text rest < length text
  pub bytes : encode_utf8_all cs ≡ text

-- a rest that is not empty stands behind as many characters as the text has more
rest_in_text : (text : List ℕ) (k : ℕ) → IsUtf8 text → 0 < length (drop k (chars text)) → IsInText text (chars text) (drop k (chars text))
rest_in_text text k utf8 some =
    let size : length (drop k (chars text)) ≡ length (chars text) - k = length-drop k (chars text) in
    let count : length (chars text) - length (drop k (chars text)) ≡ k = omega (arith, size, some) in
    record {
      shorter = omega (arith, size);
      place = ap (λ n. length (encode_utf8_all (take n (chars text)))) count ∙ start_place text k utf8;
      before = omega (arith, length-le-encodes (drop k (chars text)), some, behind_le (chars text) k, ap length (encodes-chars text utf8));
      bytes = encodes-chars text utf8;
    }

pub fault_in_text : (text : List ℕ) (pieces : List Piece) (stop : Option Stop) (n : ℕ) (cause : LayoutCause) → IsUtf8 text → IsCut (chars text) pieces stop → n < length (all_items (chars text) pieces stop) → IsInText text (chars text) (fault_rest (chars text) pieces stop n cause)
fault_in_text text pieces stop n cause utf8 cut within =
    let there = fault_rest_drop (chars text) pieces stop n cause in
    let some = fault_rest_some (chars text) pieces stop n cause cut within in
    subst (IsInText text (chars text)) (sym there.1) (rest_in_text text there.0 utf8 (subst (λ r. 0 < length r) there.1 some))

seen_count : (inside : Bool) (items : List Item) → length (seen inside items) ≡ length items
seen_count false items = refl
seen_count true [] = refl
seen_count true (item ∷ items) = ap suc (seen_count true items)

-- ---- the same, where the parts have names

pub fault_in_text_at : (inside : Bool) (text cs rest : List ℕ) (pieces named : List Piece) (stop : Option Stop) (n : ℕ) (cause : LayoutCause) → IsUtf8 text → cs ≡ chars text → named ≡ pieces → rest ≡ fault_rest cs named stop n cause → IsCut cs pieces stop → n < length (seen inside (all_items cs pieces stop)) → IsInText text cs rest
fault_in_text_at inside text cs rest pieces named stop n cause utf8 same is_named is_rest cut within =
    let cut_there : IsCut (chars text) pieces stop = subst (λ x. IsCut x pieces stop) same cut in
    let within_here : n < length (all_items cs pieces stop) = omega (arith, seen_count inside (all_items cs pieces stop), within) in
    let within_there : n < length (all_items (chars text) pieces stop) = subst (λ x. n < length (all_items x pieces stop)) same within_here in
    let rest_there : rest ≡ fault_rest (chars text) pieces stop n cause = is_rest ∙ ap (λ ps. fault_rest cs ps stop n cause) is_named ∙ ap (λ x. fault_rest x pieces stop n cause) same in
    subst (IsInText text cs) (sym rest_there) (subst (λ x. IsInText text x (fault_rest (chars text) pieces stop n cause)) (sym same) (fault_in_text text pieces stop n cause utf8 cut_there within_there))

pub are_cut_at : (cs : List ℕ) (pieces named : List Piece) (stop : Option Stop) → named ≡ pieces → IsCut cs pieces stop → AreCut cs named
are_cut_at cs pieces named stop is_named cut = subst (AreCut cs) (sym is_named) (are_cut cs pieces stop cut)

pub stop_bound : (cs : List ℕ) (pieces : List Piece) (stop : Option Stop) → IsCut cs pieces stop → IfSome stop (λ s. s.place ≤ length cs)
stop_bound cs pieces None cut = tt
stop_bound cs pieces (Some stop) cut = omega (arith, stop_within cs pieces stop cut)

pub parts_at : (from : Pos) (text cs : List ℕ) (named : List Piece) (tokens : List Token) → IsUtf8 text → cs ≡ chars text → tokens ≡ tokens_from from text cs named → AreParts text tokens
parts_at from text cs named tokens utf8 same is_tokens = subst (AreParts text) (sym is_tokens) (tokens_are_parts from text 0 cs named utf8 same)

pub roomy_at : (from : Pos) (text cs : List ℕ) (named : List Piece) (tokens : List Token) → tokens ≡ tokens_from from text cs named → from.line + length text ≤ 2 ^ 32 → from.col + length text ≤ 2 ^ 32 → AreRoomy tokens
roomy_at from text cs named tokens is_tokens lines columns = subst AreRoomy (sym is_tokens) (tokens_are_roomy from text cs named lines columns)

pub characters_short : (text cs : List ℕ) → IsUtf8 text → cs ≡ chars text → length cs ≤ length text
characters_short text cs utf8 same = omega (arith, ap length same, length-le-encodes (chars text), ap length (encodes-chars text utf8))

rest_at_none : (rest : List ℕ) (left : ℕ) → rest_at rest [] left ≡ rest
rest_at_none rest zero = refl
rest_at_none rest (suc left) = refl

pub rest_at_end : (rest : List ℕ) (pieces : List Piece) (i left : ℕ) → length pieces ≤ i → rest_at rest (drop i pieces) left ≡ rest
rest_at_end rest pieces i left past =
    let none : drop i pieces ≡ [] = nil_from_length (drop i pieces) (omega (arith, length-drop i pieces)) in
    ap (λ ps. rest_at rest ps left) none ∙ rest_at_none rest left
