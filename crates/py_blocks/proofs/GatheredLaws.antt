-- The decorators right before a row, read from the rows in their order.
use Rattle.std.proofs.Common.{◌≡◌, ℕ, suc, ◌+◌, ◌<◌, List, [], ◌∷◌, ◌++◌, Bool, true, false, if◌then◌else◌, length, get_or, take, drop, map, reverse, refl, sym, ap, ◌∙◌, arith, append_assoc}
use Rattle.std.specs.Prelude.{flat_map}
use Rattle.std.proofs.Math.Seq.{take-suc, drop-cons, take-length}
use Rattle.std.proofs.lemmas.List.{reverse-append, append-nil}
use Rattle.py_blocks.specs.declared.row.BlockRow.{BlockRow}
use Rattle.py_blocks.specs.Heads.{is_decorator}
use Rattle.py_blocks.specs.Rows.{Row, row_of}
use Rattle.py_blocks.specs.Statements.{gathered}

-- what rows with decorators make
abbrev pub nodes_of : List BlockRow → List ℕ
nodes_of rows = flat_map (λ row. (row_of row).nodes) rows

-- those right before a place
abbrev pub gathered_to : ℕ → List BlockRow → List ℕ
gathered_to place rows = gathered (map row_of (reverse (take place rows)))

pub gathered-next : (rows : List BlockRow) (place : ℕ) (d : BlockRow) → place < length rows
    → gathered_to (suc place) rows ≡ (if is_decorator (get_or rows place d).head then gathered_to place rows ++ (get_or rows place d).nodes.now else [])
gathered-next rows place d l =
    let e : reverse (take (suc place) rows) ≡ get_or rows place d ∷ reverse (take place rows) =
    ap reverse (take-suc rows place d l) ∙ reverse-append (take place rows) (get_or rows place d ∷ []) in
    ap (λ (rs : List BlockRow). gathered (map row_of rs)) e

-- one more from the back
pub further : (rows : List BlockRow) (place : ℕ) (d : BlockRow) → place < length rows → is_decorator (get_or rows place d).head ≡ true
    → gathered_to (suc place) rows ++ nodes_of (drop (suc place) rows) ≡ gathered_to place rows ++ nodes_of (drop place rows)
further rows place d l e =
    rw (gathered-next rows place d l, e, drop-cons rows place d) (append_assoc (gathered_to place rows) (get_or rows place d).nodes.now (nodes_of (drop (suc place) rows)))

-- the front
pub at_front : (rows : List BlockRow) → gathered_to 0 rows ++ nodes_of (drop 0 rows) ≡ nodes_of (drop 0 rows)
at_front rows = refl

-- no decorator
pub stopped : (rows : List BlockRow) (place : ℕ) (d : BlockRow) → place < length rows → is_decorator (get_or rows place d).head ≡ false
    → gathered_to (suc place) rows ++ nodes_of (drop (suc place) rows) ≡ nodes_of (drop (suc place) rows)
stopped rows place d l e = rw (gathered-next rows place d l, e) refl

-- a row more
pub one_more : (kids new : List ℕ) (rows : List BlockRow) (place : ℕ) (d : BlockRow) → place < length rows → new ≡ kids ++ (get_or rows place d).nodes.now
    → new ++ nodes_of (drop (place + 1) rows) ≡ kids ++ nodes_of (drop place rows)
one_more kids new rows place d l e =
    let k : place + 1 ≡ suc place = omega arith in
    rw (e, k, drop-cons rows place d) (append_assoc kids (get_or rows place d).nodes.now (nodes_of (drop (suc place) rows)))
