-- What is kept stays as it is while texts are added behind it.
use Rattle.std.proofs.Common.{◌≡◌, ℕ, suc, ◌+◌, ◌-◌, ◌<◌, ◌≤◌, List, [], ◌∷◌, ◌++◌, length, map, get_or, take, drop, refl, sym, ap, subst, ◌∙◌, arith, length-append, ⊎_elim, Result, Ok, Err, OnErr}
use Rattle.std.specs.Str.{IsCharBoundary, IsUtf8}
use Rattle.std.proofs.lemmas.Str.{IsCharBoundary-at_seam, IsCharBoundary-end}
use Rattle.std.proofs.lemmas.List.{map-append, drop-append-le, take-append-le, length-drop, get_or_append_left}
use Rattle.std.proofs.lemmas.List.Elements.{All-push}
use Rattle.std.proofs.Math.Seq.{drop-append_seam, take-length}
use Rattle.std.proofs.lemmas.Bool.{cases_lt}
use Rattle.py_grammar.specs.Terminals.{Terminal}
use Rattle.py_line.specs.declared.line.LineRow.{LineRow}
use Rattle.py_line.specs.declared.line.Span.{Span}
use Rattle.py_line.specs.Kept.{within, IsTextIn, terminal_in, terminals_in, AreTextsIn}

map-same : {X Y : Type 0} (f g : X → Y) (xs : List X) → ((k : ℕ) (d : X) → k < length xs → f (get_or xs k d) ≡ g (get_or xs k d)) → map f xs ≡ map g xs
map-same f g [] h = refl
map-same f g (x ∷ xs) h =
    let first : f x ≡ g x = h 0 x (omega arith) in
    let others = map-same f g xs (λ k d l. h (suc k) d (omega arith)) in
    rw (first, others) refl

within-append : (texts more : List ℕ) (span : Span) → IsTextIn texts span → within (texts ++ more) span ≡ within texts span
within-append texts more span here =
    let ordered = here.ordered in
    let ends = here.ends.0 in
    let starts : span.start ≤ length texts = omega arith in
    let room : span.end - span.start ≤ length (drop span.start texts) = omega (arith, length-drop span.start texts) in
    ap (take (span.end - span.start)) (drop-append-le span.start texts more starts) ∙ take-append-le (span.end - span.start) (drop span.start texts) more room

within-seam : (texts text : List ℕ) (span : Span) → span.start ≡ length texts → span.end ≡ length texts + length text → within (texts ++ text) span ≡ text
within-seam texts text span starts ends =
    let room : span.end - span.start ≡ length text = omega arith in
    rw (room, starts, drop-append_seam texts text) (take-length text)

boundary-append : (xs ys : List ℕ) (i : ℕ) → IsCharBoundary xs i → IsUtf8 ys → IsCharBoundary (xs ++ ys) i
boundary-append xs ys i here u =
    ⊎_elim (λ inside. inner inside) (λ past. at_end (omega (arith, here.0))) (cases_lt i (length xs))
  where
    inner : i < length xs → IsCharBoundary (xs ++ ys) i
    inner l =
        let same = get_or_append_left xs ys 0 i l in
        (omega (arith, length-append xs ys), λ _ high. subst (λ (b : ℕ). 192 ≤ b) (sym same) (here.1 l (subst (λ (b : ℕ). 128 ≤ b) same high)))

    at_end : i ≡ length xs → IsCharBoundary (xs ++ ys) i
    at_end e = subst (λ (j : ℕ). IsCharBoundary (xs ++ ys) j) (sym e) (IsCharBoundary-at_seam (xs ++ ys) xs ys refl u)

text-append : (texts more : List ℕ) (span : Span) → IsTextIn texts span → IsUtf8 more → IsTextIn (texts ++ more) span
text-append texts more span here u =
    record { ordered = here.ordered; starts = boundary-append texts more span.start here.starts u; ends = boundary-append texts more span.end here.ends u }

texts-append : (texts more : List ℕ) (rows : List LineRow) → IsUtf8 more → AreTextsIn texts rows → AreTextsIn (texts ++ more) rows
texts-append texts more rows u fit k d l = text-append texts more (get_or rows k d).text (fit k d l) u

terminals-append : (texts more : List ℕ) (rows : List LineRow) → AreTextsIn texts rows → terminals_in (texts ++ more) rows ≡ terminals_in texts rows
terminals-append texts more rows fit = map-same (terminal_in (texts ++ more)) (terminal_in texts) rows (λ k d l. here (get_or rows k d) (fit k d l))
  where
    here : (row : LineRow) → IsTextIn texts row.text → terminal_in (texts ++ more) row ≡ terminal_in texts row
    here row h = let e = within-append texts more row.text h in rw e refl

fits-add : (texts text : List ℕ) (span : Span) → IsUtf8 text → span.start ≡ length texts → span.end ≡ length texts + length text → IsTextIn (texts ++ text) span
fits-add texts text span u s e =
    let long = length-append texts text in
    let end_is : length (texts ++ text) ≡ span.end = omega arith in
    record {
      ordered = omega arith;
      starts = subst (λ (i : ℕ). IsCharBoundary (texts ++ text) i) (sym s) (IsCharBoundary-at_seam (texts ++ text) texts text refl u);
      ends = subst (λ (i : ℕ). IsCharBoundary (texts ++ text) i) end_is (IsCharBoundary-end (texts ++ text));
    }

-- ---- the same, for what the code has at hand

pub on_err : {T E : Type 0} (r : Result T E) (P : Type 0) → P → OnErr r P
on_err (Ok x) P p = tt
on_err (Err e) P p = p

pub fit-grown : (texts texts' more : List ℕ) (rows rows' : List LineRow) → texts' ≡ texts ++ more → rows' ≡ rows → IsUtf8 more → AreTextsIn texts rows → AreTextsIn texts' rows'
fit-grown texts texts' more rows rows' te re u fit = rw (te, re) (texts-append texts more rows u fit)

pub terminals-grown : (texts texts' more : List ℕ) (rows rows' : List LineRow) (now : List Terminal) → texts' ≡ texts ++ more → rows' ≡ rows → AreTextsIn texts rows → terminals_in texts rows ≡ now → terminals_in texts' rows' ≡ now
terminals-grown texts texts' more rows rows' now te re fit e = rw (te, re) (terminals-append texts more rows fit ∙ e)

pub fit-add : (texts texts' text : List ℕ) (rows rows' : List LineRow) (row : LineRow) → texts' ≡ texts ++ text → rows' ≡ rows ++ row ∷ [] → IsUtf8 text → AreTextsIn texts rows → row.text.start ≡ length texts → row.text.end ≡ length texts + length text → AreTextsIn texts' rows'
fit-add texts texts' text rows rows' row te re u fit s e =
    rw (te, re) (All-push (λ (r : LineRow). IsTextIn (texts ++ text) r.text) rows row (texts-append texts text rows u fit) (fits-add texts text row.text u s e))

pub terminals-add : (texts texts' text : List ℕ) (rows rows' : List LineRow) (row : LineRow) (now : List Terminal) → texts' ≡ texts ++ text → rows' ≡ rows ++ row ∷ [] → AreTextsIn texts rows → row.text.start ≡ length texts → row.text.end ≡ length texts + length text → terminals_in texts rows ≡ now
    → terminals_in texts' rows' ≡ now ++ record { symbol = row.symbol; pos = row.pos; end_line = row.end_line; text = text } ∷ []
terminals-add texts texts' text rows rows' row now te re fit s e view =
    rw (te, re) (map-append (terminal_in (texts ++ text)) rows (row ∷ []) ∙ both (terminals-append texts text rows fit ∙ view) here)
  where
    here : terminal_in (texts ++ text) row ≡ record { symbol = row.symbol; pos = row.pos; end_line = row.end_line; text = text }
    here = let w = within-seam texts text row.text s e in rw w refl

    both : {xs ys : List Terminal} {x y : Terminal} → xs ≡ ys → x ≡ y → xs ++ x ∷ [] ≡ ys ++ y ∷ []
    both f g = rw (f, g) refl
