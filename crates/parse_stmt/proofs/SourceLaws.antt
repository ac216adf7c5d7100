-- What the rows of a source come to.
use Rattle.std.proofs.Common.{◌≡◌, ℕ, zero, suc, ◌+◌, ◌<◌, List, [], ◌∷◌, ◌++◌, Bool, true, false, length, get_or, map, Option, Some, None, inl, inr, refl, sym, ap, subst, ◌∙◌, arith}
use Rattle.std.specs.Prelude.{IfSome, MatchOption, slice_get}
use Rattle.std.proofs.lemmas.List.{length-map, get_or_default}
use Rattle.tree_nodes.specs.Trees.{Tree}
use Rattle.tree_nodes.specs.Rows.{Row as Built, tree_of}
use Rattle.lint_values.specs.declared.place.Pos.{Pos}
use Rattle.py_layout.specs.declared.logical.Logical.{Logical}
use Rattle.py_token.specs.Tokenized.{Tokenized}
use Rattle.py_terminals.specs.Lines.{no_line}
use Rattle.py_blocks.specs.declared.line.Line.{Line}
use Rattle.py_blocks.specs.declared.row.BlockRow.{BlockRow}
use Rattle.py_blocks.specs.declared.fault.BlockCause.{BlockCause}
use Rattle.py_blocks.specs.declared.fault.BlockFault.{BlockFault}
use Rattle.py_blocks.specs.Rows.{Row, row_of, map_row, line_of as seen}
use Rattle.py_blocks.specs.Rules.{AreRight, IsFirstFault}
use Rattle.py_blocks.specs.Spelling.{IsFirstAt, line_at}
use Rattle.py_blocks.specs.Taking.{grown}
use Rattle.py_blocks.proofs.ParseLaws.{line-mapped}
use Rattle.parse_stmt.specs.declared.fault.LineCause.{LineCause}
use Rattle.parse_stmt.specs.declared.fault.SyntaxCause.{SyntaxCause}
use Rattle.parse_stmt.specs.Places.{pos_of, first_pos}
use Rattle.parse_stmt.specs.Reading.{IsRowFault, IsStopFault}
use Rattle.parse_stmt.specs.Rows.{IsRow, AreRows}
use Rattle.parse_stmt.specs.Spelling.{cause_of, AreRead, IsFault}

-- ---- what the rules see

pub seen-rows : (rows : List BlockRow) → map seen (map row_of rows) ≡ map (λ row. seen (row_of row)) rows
seen-rows [] = refl
seen-rows (row ∷ rows) = ap (λ (ls : List Line). seen (row_of row) ∷ ls) (seen-rows rows)

seen-grown : (built : List Built) (rows : List (Row ℕ)) → map seen (grown built rows) ≡ map seen rows
seen-grown built [] = refl
seen-grown built (row ∷ rows) =
    let first = line-mapped (tree_of built) row in
    let others = seen-grown built rows in
    rw (first, others) refl

line-grown : (built : List Built) (rows : List (Row ℕ)) (place : ℕ) → line_at (grown built rows) place ≡ line_at rows place
line-grown built [] place = refl
line-grown built (row ∷ rows) zero = refl
line-grown built (row ∷ rows) (suc place) = line-grown built rows place

pub line-in-rows : (rows : List BlockRow) (place : ℕ) (d : BlockRow) → place < length rows → (get_or rows place d).pos.line ≡ line_at (map row_of rows) place
line-in-rows [] place d l = absurd (omega arith)
line-in-rows (row ∷ rows) zero d l = refl
line-in-rows (row ∷ rows) (suc place) d l = line-in-rows rows place d (omega arith)

-- ---- faults

pub first-row : (rows : List (Row Tree)) (line : ℕ) (cause : BlockCause) (given : SyntaxCause) → IsFirstAt rows line cause → given ≡ cause_of cause → IsRowFault true rows line given
first-row rows line cause given h e = record { fault = h.fault; is_first = h.is_first; line_is = h.line_is; cause_is = e ∙ ap cause_of h.cause_is }

pub row-fault-at : (rows : List BlockRow) (found : Option BlockFault) (fault : BlockFault) (at d : BlockRow) (given : SyntaxCause) → found ≡ Some fault
    → MatchOption found (AreRight false (map (λ row. seen (row_of row)) rows)) (IsFirstFault false (map (λ row. seen (row_of row)) rows)) → fault.place < length rows → at ≡ get_or rows fault.place d
    → given ≡ cause_of fault.cause → IsRowFault false (map row_of rows) at.pos.line given
row-fault-at rows found fault at d given e h l f g =
    let first : IsFirstFault false (map (λ row. seen (row_of row)) rows) fault = rw e at h in
    record {
      fault = fault;
      is_first = subst (λ (ls : List Line). IsFirstFault false ls fault) (sym (seen-rows rows)) first;
      line_is = ap (λ (r : BlockRow). r.pos.line) f ∙ line-in-rows rows fault.place d l;
      cause_is = g;
    }

pub place-within : (found : Option BlockFault) (fault : BlockFault) (count : ℕ) → IfSome found (λ f. f.place < count) → found ≡ Some fault → fault.place < count
place-within None fault count h e = absurd cc
place-within (Some given) fault count h e = let same : given.place ≡ fault.place = cc in omega arith

-- the line behind some rows
pub stop-line : (tokens : Tokenized) (lines : List Logical) (rows : List BlockRow) (d : Logical) (at : Pos) → lines ≡ tokens.lines → length rows < length tokens.lines
    → at ≡ pos_of (slice_get tokens.tokens (get_or lines (length rows) d).first) → at.line ≡ (first_pos tokens (length (map row_of rows))).line
stop-line tokens lines rows d at e l f =
    let there : get_or lines (length rows) d ≡ get_or tokens.lines (length rows) no_line = ap (λ (ls : List Logical). get_or ls (length rows) d) e ∙ get_or_default tokens.lines (length rows) d no_line l in
    ap (λ (p : Pos). p.line) (f ∙ ap (λ (x : Logical). pos_of (slice_get tokens.tokens x.first)) there) ∙ ap (λ (n : ℕ). (first_pos tokens n).line) (sym (length-map rows row_of))

pub rows-right : (rows : List BlockRow) (found : Option BlockFault) → found ≡ None → MatchOption found (AreRight false (map (λ row. seen (row_of row)) rows)) (IsFirstFault false (map (λ row. seen (row_of row)) rows))
    → AreRight false (map seen (map row_of rows))
rows-right rows found e h =
    let right : AreRight false (map (λ row. seen (row_of row)) rows) = rw e at h in
    subst (λ (ls : List Line). AreRight false ls) (sym (seen-rows rows)) right

-- the line of a row is that of its first token
line-of-row : (tokens : Tokenized) (rows : List (Row Tree)) (n place : ℕ) → ((i : ℕ) (d : Row Tree) → i < length rows → IsRow tokens (n + i) (get_or rows i d)) → place < length rows → line_at rows place ≡ (first_pos tokens (n + place)).line
line-of-row tokens [] n place h l = absurd (omega arith)
line-of-row tokens (row ∷ rows) n zero h l = ap (λ pos. pos.line) (h 0 row l).pos_is
line-of-row tokens (row ∷ rows) n (suc place) h l =
    let e : (n + 1) + place ≡ n + suc place = omega arith in
    line-of-row tokens rows (n + 1) place (λ i d k. let f : n + suc i ≡ (n + 1) + i = omega arith in subst (λ (m : ℕ). IsRow tokens m (get_or rows i d)) f (h (suc i) d (omega arith))) (omega arith)
    ∙ ap (λ (m : ℕ). (first_pos tokens m).line) e

pub row-line : (tokens : Tokenized) (rows : List (Row Tree)) (place : ℕ) → AreRows tokens rows → place < length rows → line_at rows place ≡ (first_pos tokens place).line
row-line tokens rows place h l =
    let e : 0 + place ≡ place = omega arith in
    line-of-row tokens rows 0 place (λ i d k. let f : i ≡ 0 + i = omega arith in subst (λ (m : ℕ). IsRow tokens m (get_or rows i d)) f (h i d k)) l ∙ ap (λ (m : ℕ). (first_pos tokens m).line) e

-- a fault stands at one of the lines
behind-front : {X : Type 0} (front later all : List X) (x : X) → all ≡ front ++ x ∷ later → length front < length all
behind-front [] later all x e = subst (λ ls. 0 < length ls) (sym e) (omega arith)
behind-front (y ∷ front) later [] x e = absurd cc
behind-front (y ∷ front) later (z ∷ all) x e = let inner = behind-front front later all x cc in omega arith

pub fault-within : (is_whole : Bool) (rows : List (Row Tree)) (fault : BlockFault) → IsFirstFault is_whole (map seen rows) fault → fault.place < length rows
fault-within is_whole rows fault h =
    let f = h.is_fault in
    let inner = behind-front f.front f.later (map seen rows) f.line f.lines_are in
    omega (arith, f.place_is, length-map rows (seen {X = Tree}))

-- the first line at fault is that of a row
pub fault-of-row : (tokens : Tokenized) (rows : List (Row Tree)) (line : ℕ) (cause : SyntaxCause) → AreRead tokens rows None → IsRowFault true rows line cause → IsFault tokens line cause
fault-of-row tokens rows line cause r h = record {
  rows = rows;
  stop = None;
  are_read = r;
  n = h.fault.place;
  is_first = inl (h.fault, h.is_first, refl, h.cause_is);
  line_is = h.line_is ∙ row-line tokens rows h.fault.place r.rows_are (fault-within true rows h.fault h.is_first);
}

grown-fault : (is_whole : Bool) (built : List Built) (rows : List (Row ℕ)) (line : ℕ) (cause : SyntaxCause) → IsRowFault is_whole rows line cause → IsRowFault is_whole (grown built rows) line cause
grown-fault is_whole built rows line cause h = record {
  fault = h.fault;
  is_first = subst (λ (ls : List Line). IsFirstFault is_whole ls h.fault) (sym (seen-grown built rows)) h.is_first;
  line_is = h.line_is ∙ sym (line-grown built rows h.fault.place);
  cause_is = h.cause_is;
}

-- or that of the line without a form
pub fault-at-stop : (tokens : Tokenized) (built : List Built) (rows : List (Row ℕ)) (stop : LineCause) (line : ℕ) (cause : SyntaxCause) → AreRead tokens (grown built rows) (Some stop) → IsStopFault tokens rows stop line cause
    → IsFault tokens line cause
fault-at-stop tokens built rows stop line cause r (inl h) =
    let g = grown-fault false built rows line cause h in
    record {
      rows = grown built rows;
      stop = Some stop;
      are_read = r;
      n = g.fault.place;
      is_first = inl (g.fault, g.is_first, refl, g.cause_is);
      line_is = g.line_is ∙ row-line tokens (grown built rows) g.fault.place r.rows_are (fault-within false (grown built rows) g.fault g.is_first);
    }
fault-at-stop tokens built rows stop line cause r (inr h) = record {
  rows = grown built rows;
  stop = Some stop;
  are_read = r;
  n = length (grown built rows);
  is_first = inr (stop, refl, subst (λ (ls : List Line). AreRight false ls) (sym (seen-grown built rows)) h.0, refl, h.2);
  line_is = h.1 ∙ ap (λ (m : ℕ). (first_pos tokens m).line) (sym (length-map rows (map_row (tree_of built))));
}
