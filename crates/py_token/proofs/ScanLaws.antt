-- A turn of the scan: one piece more.
use Rattle.std.proofs.Common.{◌≡◌, ℕ, zero, suc, ◌+◌, ◌≤◌, ◌<◌, Bool, true, false, List, [], ◌∷◌, ◌++◌, length, take, drop, refl, sym, ap, ◌∙◌, subst, arith, append_assoc, encode_utf8_all, chars, IsUtf8, ⊎_elim, zero-add}
use Rattle.std.proofs.Math.Nat.{suc-add}
use Rattle.std.proofs.lemmas.List.{length-append, take-append-drop, drop_at}
use Rattle.std.proofs.lemmas.Str.{encodes-append, length-le-encodes, encodes-chars}
use Rattle.std.proofs.lemmas.Bool.{cases_Bool}
use Rattle.lint_values.specs.declared.place.Pos.{Pos}
use Rattle.py_source.specs.Places.{pos_from, next_pos, ends_line}
use Rattle.py_source.proofs.PlaceLaws.{pos_from-add}
use Rattle.py_lexeme.specs.declared.piece.Piece.{Piece}
use Rattle.py_lexeme.specs.Pieces.{IsPieceAt}
use Rattle.py_lexeme.proofs.CutLaws.{piece_some}
use Rattle.py_layout.specs.declared.item.Item.{Item}
use Rattle.py_layout.specs.Comments.{is_head_behind}
use Rattle.py_token.specs.declared.token.Comment.{Comment}
use Rattle.py_token.specs.declared.token.Token.{Token}
use Rattle.py_token.specs.Items.{item_of, items_of}
use Rattle.py_token.specs.Scanned.{comment_at, comments_from, kind_of, start_of, token_at, tokens_from}
use Rattle.py_token.specs.Settings.{seen, seen_as}
use Rattle.py_token.specs.Steps.{AreCut, StandsAt}

next_line : (at : Pos) (ends : Bool) → ((next_pos at ends 1).line ≤ at.line + 1) × ((next_pos at ends 1).col ≤ at.col + 1)
next_line at ends = ⊎_elim (λ yes_end. let e : ends ≡ true = yes_end in rw e (omega arith, omega arith)) (λ no_end. let e = no_end in rw e (omega arith, omega arith)) (cases_Bool ends)

-- a line or a column grows by a byte at most
pub line_bound : (at : Pos) (n : ℕ) (text : List ℕ) → (pos_from at n text).line ≤ at.line + n
line_bound at zero text = omega arith
line_bound at (suc n) [] = omega arith
line_bound at (suc n) (b ∷ text) =
    let rest = line_bound (next_pos at (ends_line b text) 1) n text in
    omega (arith, rest, (next_line at (ends_line b text)).0)

pub col_bound : (at : Pos) (n : ℕ) (text : List ℕ) → (pos_from at n text).col ≤ at.col + n
col_bound at zero text = omega arith
col_bound at (suc n) [] = omega arith
col_bound at (suc n) (b ∷ text) =
    let rest = col_bound (next_pos at (ends_line b text) 1) n text in
    omega (arith, rest, (next_line at (ends_line b text)).1)

-- the start of a text
pub stands_first : (from : Pos) (text cs : List ℕ) → IsUtf8 text → cs ≡ chars text → StandsAt from text cs 0 from
stands_first from text cs utf8 same =
    let whole : encode_utf8_all cs ≡ text = ap encode_utf8_all same ∙ encodes-chars text utf8 in
    record { suffix = sym whole; size = omega (arith, ap length whole); pos = λ some. refl; line = omega arith; col = omega arith }

-- the bytes of a front and of what is behind it
pub bytes_split : (rest front behind : List ℕ) (len : ℕ) → front ≡ take len rest → behind ≡ drop len rest → encode_utf8_all front ++ encode_utf8_all behind ≡ encode_utf8_all rest
bytes_split rest front behind len is_front is_behind =
    ap (λ f. encode_utf8_all f ++ encode_utf8_all behind) is_front ∙ ap (λ b. encode_utf8_all (take len rest) ++ encode_utf8_all b) is_behind ∙ sym (encodes-append (take len rest) (drop len rest)) ∙ ap encode_utf8_all (take-append-drop len rest)

pub size_split : (from : Pos) (text rest front behind : List ℕ) (start len : ℕ) (at : Pos) → StandsAt from text rest start at → front ≡ take len rest → behind ≡ drop len rest → start + length (encode_utf8_all front) + length (encode_utf8_all behind) ≡ length text
size_split from text rest front behind start len at stands is_front is_behind =
    let split = bytes_split rest front behind len is_front is_behind in
    omega (arith, ap length split, length-append (encode_utf8_all front) (encode_utf8_all behind), stands.size)

-- where the front is not all, it ends before the text does
pub size_strict : (from : Pos) (text rest front behind : List ℕ) (start len : ℕ) (at : Pos) → StandsAt from text rest start at → front ≡ take len rest → behind ≡ drop len rest → 0 < length behind → start + length (encode_utf8_all front) < length text
size_strict from text rest front behind start len at stands is_front is_behind some =
    omega (arith, size_split from text rest front behind start len at stands is_front is_behind, length-le-encodes behind)

pub start_is : (from : Pos) (text rest : List ℕ) (start : ℕ) (at : Pos) → StandsAt from text rest start at → start ≡ start_of text rest
start_is from text rest start at stands = omega (arith, stands.size)

drop_nil : (k : ℕ) → let none : List ℕ = [] in drop k none ≡ none
drop_nil zero = refl
drop_nil (suc k) = refl

pub drop_twice : (xs : List ℕ) (m n : ℕ) → drop (m + n) xs ≡ drop n (drop m xs)
drop_twice xs zero n = ap (λ k. drop k xs) (zero-add n)
drop_twice [] (suc m) n = drop_nil (suc m + n) ∙ sym (drop_nil n)
drop_twice (x ∷ xs) (suc m) n = ap (λ k. drop k (x ∷ xs)) (suc-add m n) ∙ drop_twice xs m n

-- one piece further
pub stands_behind : (from : Pos) (text rest front behind : List ℕ) (start len size : ℕ) (at next : Pos) → StandsAt from text rest start at → front ≡ take len rest → behind ≡ drop len rest → size ≡ length (encode_utf8_all front) → (0 < length behind → next ≡ pos_from at size (encode_utf8_all rest)) → (0 < length behind → 0 < length rest) → next.line ≤ at.line + size → next.col ≤ at.col + size → StandsAt from text behind (start + size) next
stands_behind from text rest front behind start len size at next stands is_front is_behind is_size moves some line col =
    let split = bytes_split rest front behind len is_front is_behind in
    let suffix : drop (start + size) text ≡ encode_utf8_all behind =
    drop_twice text start size ∙ ap (drop size) stands.suffix ∙ ap (drop size) (sym split) ∙ drop_at (encode_utf8_all front) (encode_utf8_all behind) size (sym is_size) in
    record {
      suffix = suffix;
      size = omega (arith, is_size, size_split from text rest front behind start len at stands is_front is_behind);
      pos = λ there. moves there ∙ ap (λ bytes. pos_from at size bytes) (sym stands.suffix) ∙ ap (λ p. pos_from p size (drop start text)) (stands.pos (some there)) ∙ sym (pos_from-add from start size text);
      line = omega (arith, line, stands.line);
      col = omega (arith, col, stands.col);
    }

-- an item, and then the others, as the layout sees them
pub seen_more : (inside : Bool) (item : Item) (items : List Item) → seen_as inside item ∷ seen inside items ≡ seen inside (item ∷ items)
seen_more true item items = refl
seen_more false item items = refl

pub items_turn : (inside : Bool) (all out new : List Item) (rest front behind : List ℕ) (left later : List Piece) (piece : Piece) (item : Item) → left ≡ piece ∷ later → front ≡ take piece.len rest → behind ≡ drop piece.len rest → item ≡ item_of piece.kind front → new ≡ out ++ seen_as inside item ∷ [] → out ++ seen inside (items_of rest left) ≡ all → new ++ seen inside (items_of behind later) ≡ all
items_turn inside all out new rest front behind left later piece item is_left is_front is_behind is_item is_new so_far =
    let of_piece : item ≡ item_of piece.kind (take piece.len rest) = is_item ∙ ap (item_of piece.kind) is_front in
    let tail = items_of (drop piece.len rest) later in
    ap (λ b. new ++ seen inside (items_of b later)) is_behind ∙ ap (λ n. n ++ seen inside tail) is_new ∙ append_assoc out (seen_as inside item ∷ []) (seen inside tail) ∙ ap (λ xs. out ++ xs) (seen_more inside item tail) ∙ ap (λ i. out ++ seen inside (i ∷ tail)) of_piece ∙ ap (λ l. out ++ seen inside (items_of rest l)) (sym is_left) ∙ so_far

pub tokens_turn : (from : Pos) (all out new : List Token) (text rest behind : List ℕ) (left later : List Piece) (piece : Piece) (start end : ℕ) (at : Pos) → left ≡ piece ∷ later → behind ≡ drop piece.len rest → start ≡ start_of text rest → end ≡ start_of text behind → at ≡ pos_from from start text → new ≡ out ++ token_at (kind_of piece.kind) start end at → out ++ tokens_from from text rest left ≡ all → new ++ tokens_from from text behind later ≡ all
tokens_turn from all out new text rest behind left later piece start end at is_left is_behind is_start is_end is_at is_new so_far =
    let pos : at ≡ pos_from from (start_of text rest) text = is_at ∙ ap (λ n. pos_from from n text) is_start in
    let ends : end ≡ start_of text (drop piece.len rest) = is_end ∙ ap (start_of text) is_behind in
    let tail = tokens_from from text (drop piece.len rest) later in
    ap (λ b. new ++ tokens_from from text b later) is_behind ∙ ap (λ n. n ++ tail) is_new ∙ append_assoc out (token_at (kind_of piece.kind) start end at) tail ∙ ap (λ s. out ++ (token_at (kind_of piece.kind) s end at ++ tail)) is_start ∙ ap (λ e. out ++ (token_at (kind_of piece.kind) (start_of text rest) e at ++ tail)) ends ∙ ap (λ p. out ++ (token_at (kind_of piece.kind) (start_of text rest) (start_of text (drop piece.len rest)) p ++ tail)) pos ∙ ap (λ l. out ++ tokens_from from text rest l) (sym is_left) ∙ so_far

pub comments_turn : (from : Pos) (all out new : List Comment) (text rest front behind : List ℕ) (left later : List Piece) (piece : Piece) (head next : Bool) (item : Item) (start end : ℕ) (at : Pos) → left ≡ piece ∷ later → front ≡ take piece.len rest → behind ≡ drop piece.len rest → item ≡ item_of piece.kind front → next ≡ is_head_behind head item → start ≡ start_of text rest → end ≡ start_of text behind → at ≡ pos_from from start text → new ≡ out ++ comment_at piece.kind head start end at → out ++ comments_from from text head rest left ≡ all → new ++ comments_from from text next behind later ≡ all
comments_turn from all out new text rest front behind left later piece head next item start end at is_left is_front is_behind is_item is_next is_start is_end is_at is_new so_far =
    let pos : at ≡ pos_from from (start_of text rest) text = is_at ∙ ap (λ n. pos_from from n text) is_start in
    let ends : end ≡ start_of text (drop piece.len rest) = is_end ∙ ap (start_of text) is_behind in
    let of_piece : item ≡ item_of piece.kind (take piece.len rest) = is_item ∙ ap (item_of piece.kind) is_front in
    let goes : next ≡ is_head_behind head (item_of piece.kind (take piece.len rest)) = is_next ∙ ap (is_head_behind head) of_piece in
    let tail = comments_from from text (is_head_behind head (item_of piece.kind (take piece.len rest))) (drop piece.len rest) later in
    ap (λ b. new ++ comments_from from text next b later) is_behind ∙ ap (λ h. new ++ comments_from from text h (drop piece.len rest) later) goes ∙ ap (λ n. n ++ tail) is_new ∙ append_assoc out (comment_at piece.kind head start end at) tail ∙ ap (λ s. out ++ (comment_at piece.kind head s end at ++ tail)) is_start ∙ ap (λ e. out ++ (comment_at piece.kind head (start_of text rest) e at ++ tail)) ends ∙ ap (λ p. out ++ (comment_at piece.kind head (start_of text rest) (start_of text (drop piece.len rest)) p ++ tail)) pos ∙ ap (λ l. out ++ comments_from from text head rest l) (sym is_left) ∙ so_far

-- a piece stands at the front of a rest that is not empty
pub cut_front : (rest : List ℕ) (left later : List Piece) (piece : Piece) → left ≡ piece ∷ later → AreCut rest left → IsPieceAt piece rest × AreCut (drop piece.len rest) later
cut_front rest left later piece is_left cut = subst (AreCut rest) is_left cut

pub front_some : (rest : List ℕ) (piece : Piece) → IsPieceAt piece rest → 0 < length rest
front_some rest piece at = omega (arith, piece_some piece rest at, at.match_at.within)
