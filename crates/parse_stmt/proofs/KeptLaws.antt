-- Lines that were read stay so while rows are added.
use Rattle.std.proofs.Common.{◌≡◌, ℕ, zero, suc, ◌+◌, ◌<◌, ◌≤◌, List, [], ◌∷◌, ◌++◌, length, get_or, map, drop, Option, Some, refl, sym, ap, subst, ◌∙◌, arith}
use Rattle.std.specs.Prelude.{All}
use Rattle.std.proofs.Math.Seq.{drop-cons}
use Rattle.std.proofs.lemmas.List.{append-nil, append_assoc, map-append}
use Rattle.std.proofs.lemmas.List.Elements.{All-weaker}
use Rattle.tree_nodes.specs.Trees.{Tree}
use Rattle.tree_nodes.specs.Rows.{Row as Built, tree_of}
use Rattle.py_token.specs.Tokenized.{Tokenized}
use Rattle.py_blocks.specs.declared.row.BlockRow.{BlockRow}
use Rattle.py_blocks.specs.Building.{IsMade, Keeps}
use Rattle.py_blocks.specs.Docstrings.{docstring_of}
use Rattle.py_blocks.specs.Rows.{Row, row_of, map_row}
use Rattle.py_blocks.specs.Taking.{grown}
use Rattle.py_blocks.proofs.BuildingLaws.{map-kept}
use Rattle.py_blocks.proofs.TakingLaws.{row-kept, made-more}
use Rattle.read_lines.specs.Spelling.{Spells, form_over}
use Rattle.read_lines.specs.declared.form.LineForm.{LineForm}
use Rattle.parse_stmt.specs.declared.fault.LineCause.{LineCause}
use Rattle.parse_stmt.specs.declared.kept.Found.{Found}
use Rattle.parse_stmt.specs.declared.kept.Found.TheVariants.{Line, Stop}
use Rattle.parse_stmt.specs.declared.kept.KeptLine.{KeptLine}
use Rattle.parse_stmt.specs.Reading.{row_at, rows_from, IsKept, AreKept, IsDocstringMade, IsFound, AreReadAll}
use Rattle.parse_stmt.specs.Rows.{IsRow, AreRows}
use Rattle.parse_stmt.specs.Spelling.{LacksForm}

-- ---- a line

pub is-kept : (tokens : Tokenized) (n : ℕ) (old new : List Built) (form : LineForm) (docstring : Option ℕ) → Spells tokens n (form_over old form) → All (λ k. k < length old) form.nodes.items → All (λ k. k < length old) form.body.items
    → IsDocstringMade old new form.body.items docstring → IsKept tokens n new (record { head = form.head; nodes = form.nodes; body = form.body; docstring = docstring })
is-kept tokens n old new form docstring s nodes body d =
    let more = d.keeps.more in
    let nodes_are : map (tree_of new) form.nodes.items ≡ map (tree_of old) form.nodes.items = map-kept old new d.keeps form.nodes.items nodes in
    let body_are : map (tree_of new) form.body.items ≡ map (tree_of old) form.body.items = map-kept old new d.keeps form.body.items body in
    record {
      made = record {
        nodes = All-weaker (λ k. k < length old) (λ k. k < length new) (λ k l. omega (arith, more)) form.nodes.items nodes;
        body = All-weaker (λ k. k < length old) (λ k. k < length new) (λ k l. omega (arith, more)) form.body.items body;
        docstring = d.number;
      };
      is_row = record {
        form = rw (nodes_are, body_are) s;
        level_is = refl;
        pos_is = refl;
        end_is = refl;
        name_is = refl;
        documented = d.is ∙ ap docstring_of (sym body_are);
      };
    }

-- and further rows
kept-on : (tokens : Tokenized) (n : ℕ) (old new : List Built) (kept : KeptLine) → Keeps old new → IsKept tokens n old kept → IsKept tokens n new kept
kept-on tokens n old new kept k h = record {
  made = made-more (length old) (length new) k.more (row_at tokens n kept) h.made;
  is_row = subst (λ (r : Row Tree). IsRow tokens n r) (sym (row-kept old new k (row_at tokens n kept) h.made)) h.is_row;
}

all-kept-on : (tokens : Tokenized) (old new : List Built) (n : ℕ) (lines : List KeptLine) → Keeps old new → AreKept tokens old n lines → AreKept tokens new n lines
all-kept-on tokens old new n [] k h = tt
all-kept-on tokens old new n (kept ∷ lines) k h = (kept-on tokens n old new kept k h.0, all-kept-on tokens old new (n + 1) lines k h.1)

one-more : (tokens : Tokenized) (built : List Built) (n : ℕ) (lines : List KeptLine) (kept : KeptLine) → AreKept tokens built n lines → IsKept tokens (n + length lines) built kept → AreKept tokens built n (lines ++ kept ∷ [])
one-more tokens built n [] kept h k = let e : n + 0 ≡ n = omega arith in (subst (λ (m : ℕ). IsKept tokens m built kept) e k, tt)
one-more tokens built n (line ∷ lines) kept h k =
    let e : n + suc (length lines) ≡ (n + 1) + length lines = omega arith in
    (h.0, one-more tokens built (n + 1) lines kept h.1 (subst (λ (m : ℕ). IsKept tokens m built kept) e k))

-- a line behind those that were read
pub read-on : (tokens : Tokenized) (old new : List Built) (n : ℕ) (lines now : List KeptLine) (kept : KeptLine) → Keeps old new → length lines ≡ n → AreKept tokens old 0 lines → IsKept tokens n new kept → now ≡ lines ++ kept ∷ []
    → (length now ≡ n + 1) × AreKept tokens new 0 now
read-on tokens old new n lines now kept k l h g e =
    let from_zero : 0 + length lines ≡ length lines = omega arith in
    let there : AreKept tokens new 0 (lines ++ kept ∷ []) = one-more tokens new 0 lines kept (all-kept-on tokens old new 0 lines k h) (subst (λ (m : ℕ). IsKept tokens m new kept) (sym l ∙ sym from_zero) g) in
    (ap length e ∙ counted lines ∙ ap (λ (m : ℕ). m + 1) l, subst (λ (ls : List KeptLine). AreKept tokens new 0 ls) (sym e) there)
  where
    counted : (ls : List KeptLine) → length (ls ++ kept ∷ []) ≡ length ls + 1
    counted [] = refl
    counted (x ∷ ls) = let rest = counted ls in omega arith

-- behind those that were read stands a line without a form
pub stopped-at : (tokens : Tokenized) (old new : List Built) (n : ℕ) (lines : List KeptLine) (cause : LineCause) → Keeps old new → length lines ≡ n → AreKept tokens old 0 lines → n < length tokens.lines → LacksForm tokens n cause
    → AreReadAll tokens new lines (Some cause)
stopped-at tokens old new n lines cause k l h b g = record { kept = all-kept-on tokens old new 0 lines k h; stops = (omega (arith, l), subst (λ (m : ℕ). LacksForm tokens m cause) (sym l) g) }

pub found-line : (tokens : Tokenized) (n : ℕ) (built : List Built) (found : Found) (kept : KeptLine) → found ≡ Line kept → IsFound tokens n built found → IsKept tokens n built kept
found-line tokens n built found kept e h = subst (IsFound tokens n built) e h

pub found-stop : (tokens : Tokenized) (n : ℕ) (built : List Built) (found : Found) (cause : LineCause) → found ≡ Stop cause → IsFound tokens n built found → LacksForm tokens n cause
found-stop tokens n built found cause e h = subst (IsFound tokens n built) e h

-- ---- rows

pub rows-on : (tokens : Tokenized) (lines : List KeptLine) (rows new : List BlockRow) (row : BlockRow) (n m : ℕ) (d : KeptLine) → n < length lines → m ≡ suc n → row_of row ≡ row_at tokens n (get_or lines n d) → new ≡ rows ++ row ∷ []
    → map row_of rows ++ rows_from tokens n (drop n lines) ≡ rows_from tokens 0 lines → map row_of new ++ rows_from tokens m (drop m lines) ≡ rows_from tokens 0 lines
rows-on tokens lines rows new row n m d l e r f h =
    let next : n + 1 ≡ suc n = omega arith in
    let front : map row_of new ≡ map row_of rows ++ row_at tokens n (get_or lines n d) ∷ [] = ap (map row_of) f ∙ map-append row_of rows (row ∷ []) ∙ ap (λ (r : Row ℕ). map row_of rows ++ r ∷ []) r in
    let back : rows_from tokens n (drop n lines) ≡ row_at tokens n (get_or lines n d) ∷ rows_from tokens (suc n) (drop (suc n) lines) =
    ap (rows_from tokens n) (drop-cons lines n d l) ∙ ap (λ (k : ℕ). row_at tokens n (get_or lines n d) ∷ rows_from tokens k (drop (suc n) lines)) next in
    ap (λ (rs : List (Row ℕ)). rs ++ rows_from tokens m (drop m lines)) front ∙ append_assoc (map row_of rows) (row_at tokens n (get_or lines n d) ∷ []) (rows_from tokens m (drop m lines))
    ∙ ap (λ (k : ℕ). map row_of rows ++ row_at tokens n (get_or lines n d) ∷ rows_from tokens k (drop k lines)) e ∙ ap (λ (rs : List (Row ℕ)). map row_of rows ++ rs) (sym back) ∙ h

past : (n : ℕ) (lines : List KeptLine) → length lines ≤ n → drop n lines ≡ []
past zero [] l = refl
past zero (x ∷ lines) l = absurd (omega arith)
past (suc n) [] l = refl
past (suc n) (x ∷ lines) l = past n lines (omega arith)

pub rows-end : (tokens : Tokenized) (lines : List KeptLine) (rows : List BlockRow) (n : ℕ) → length lines ≤ n → map row_of rows ++ rows_from tokens n (drop n lines) ≡ rows_from tokens 0 lines → map row_of rows ≡ rows_from tokens 0 lines
rows-end tokens lines rows n l h = sym (append-nil (map row_of rows)) ∙ ap (λ (ls : List KeptLine). map row_of rows ++ rows_from tokens n ls) (sym (past n lines l)) ∙ h

pub rows-length : (tokens : Tokenized) (n : ℕ) (lines : List KeptLine) → length (rows_from tokens n lines) ≡ length lines
rows-length tokens n [] = refl
rows-length tokens n (x ∷ lines) = ap suc (rows-length tokens (n + 1) lines)

-- ---- the rows of what was read

pub rows-made : (tokens : Tokenized) (built : List Built) (n : ℕ) (lines : List KeptLine) → AreKept tokens built n lines → All (IsMade (length built)) (rows_from tokens n lines)
rows-made tokens built n [] h i d l = absurd (omega arith)
rows-made tokens built n (x ∷ lines) h zero d l = h.0.made
rows-made tokens built n (x ∷ lines) h (suc i) d l = rows-made tokens built (n + 1) lines h.1 i d (omega arith)

rows-behind : (tokens : Tokenized) (built : List Built) (n : ℕ) (lines : List KeptLine) → AreKept tokens built n lines → (i : ℕ) (d : Row Tree) → i < length (grown built (rows_from tokens n lines)) → IsRow tokens (n + i) (get_or (grown built (rows_from tokens n lines)) i d)
rows-behind tokens built n [] h i d l = absurd (omega arith)
rows-behind tokens built n (x ∷ lines) h zero d l = let e : n + 0 ≡ n = omega arith in subst (λ (m : ℕ). IsRow tokens m (map_row (tree_of built) (row_at tokens n x))) (sym e) h.0.is_row
rows-behind tokens built n (x ∷ lines) h (suc i) d l =
    let e : n + suc i ≡ (n + 1) + i = omega arith in
    subst (λ (m : ℕ). IsRow tokens m (get_or (grown built (rows_from tokens (n + 1) lines)) i d)) (sym e) (rows-behind tokens built (n + 1) lines h.1 i d (omega arith))

pub rows-are : (tokens : Tokenized) (built : List Built) (lines : List KeptLine) → AreKept tokens built 0 lines → AreRows tokens (grown built (rows_from tokens 0 lines))
rows-are tokens built lines h i d l = let e : 0 + i ≡ i = omega arith in subst (λ (m : ℕ). IsRow tokens m (get_or (grown built (rows_from tokens 0 lines)) i d)) e (rows-behind tokens built 0 lines h i d l)
