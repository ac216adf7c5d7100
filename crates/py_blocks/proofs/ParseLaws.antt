-- What is read is what the rows spell, and what is found is where the first fault stands.
use Rattle.std.proofs.Common.{◌≡◌, ℕ, zero, suc, ◌+◌, ◌<◌, ◌≤◌, List, [], ◌∷◌, ◌++◌, Bool, true, false, nat_lt, nat_eq, not, ◌&&◌, length, get_or, map, Option, Some, None, Result, Ok, Err, refl, sym, ap, subst, ◌∙◌, arith}
use Rattle.std.specs.Prelude.{IfOk, IfErr, IfSome}
use Rattle.std.proofs.lemmas.List.{length-map}
use Rattle.std.proofs.lemmas.Bool.Decides.{nat_tests}
use Rattle.tree_nodes.specs.Trees.{Tree}
use Rattle.tree_nodes.specs.Rows.{Row as Built, tree_of}
use Rattle.py_blocks.specs.declared.line.Line.{Line}
use Rattle.py_blocks.specs.declared.row.BlockRow.{BlockRow}
use Rattle.py_blocks.specs.declared.fault.BlockCause.{BlockCause}
use Rattle.py_blocks.specs.declared.fault.BlockCause.TheVariants as causes
use Rattle.py_blocks.specs.declared.fault.BlockFault.{BlockFault}
use Rattle.py_blocks.specs.declared.fault.BlockError.{BlockError}
use Rattle.py_blocks.specs.declared.fault.BlockError.TheVariants.{At, Memory}
use Rattle.py_blocks.specs.Heads.{is_header}
use Rattle.py_blocks.specs.Rows.{Row, row_of, map_row, is_empty, line_of}
use Rattle.py_blocks.specs.Rules.{level_of, nearest, opens, fault_behind, first_fault, AreRight, IsFirstFault}
use Rattle.py_blocks.specs.Statements.{Level, nothing, Lines, flat, AreAt, all_decorated, with_line, made_by, module_over}
use Rattle.py_blocks.specs.Stack.{stack, first_or}
use Rattle.py_blocks.specs.Spelling.{Spells, line_at, IsFirstAt, OnFault, GivesOnly, FaultsOnly}
use Rattle.py_blocks.specs.Taking.{grown, made_of, tree_by, IsRead, IsFoundAt}
use Rattle.py_blocks.proofs.FaultLaws.{is-first, are-right, is-found, none-found}
use Rattle.py_blocks.proofs.FreeLines.{free}
use Rattle.py_blocks.proofs.NestLaws.{StepByOne, made-on-top, Nested, nested, height, steps-decorated, height-decorated}

-- ---- what the rules see

empty-map : {X Y : Type 0} (f : X → Y) (xs : List X) → is_empty (map f xs) ≡ is_empty xs
empty-map f [] = refl
empty-map f (x ∷ xs) = refl

pub line-mapped : {X Y : Type 0} (f : X → Y) (row : Row X) → line_of (map_row f row) ≡ line_of row
line-mapped f row = ap (λ (b : Bool). record { head = row.head; level = row.level; is_open = is_header row.head && b }) (empty-map f row.body)

pub lines-grown : (built : List Built) (rows : List BlockRow) → map line_of (grown built (map row_of rows)) ≡ map (λ row. line_of (row_of row)) rows
lines-grown built [] = refl
lines-grown built (row ∷ rows) =
    let first = line-mapped (tree_of built) (row_of row) in
    let others = lines-grown built rows in
    rw (first, others) refl

pub line-at : (built : List Built) (rows : List BlockRow) (place : ℕ) (d : BlockRow) → place < length rows → (get_or rows place d).pos.line ≡ line_at (grown built (map row_of rows)) place
line-at built [] place d l = absurd (omega arith)
line-at built (row ∷ rows) zero d l = refl
line-at built (row ∷ rows) (suc place) d l = line-at built rows place d (omega arith)

-- ---- what the code finds

pub is-read : (built : List Built) (rows : List BlockRow) (lines : List Line) (found : Option BlockFault) (tree : Tree) → lines ≡ map (λ row. line_of (row_of row)) rows
    → found ≡ first_fault true lines → found ≡ None → tree ≡ tree_by (grown built (map row_of rows)) → IsRead (grown built (map row_of rows)) tree
is-read built rows lines found tree e f g t = record { none_found = ap (first_fault true) (lines-grown built rows ∙ sym e) ∙ sym f ∙ g; tree_is = t }

place-of : (found : Option BlockFault) (fault : BlockFault) (count : ℕ) → IfSome found (λ f. f.place < count) → found ≡ Some fault → fault.place < count
place-of None fault count h e = absurd (cc)
place-of (Some found) fault count h e = let same : found.place ≡ fault.place = cc in omega arith

found-place : (rows : List BlockRow) (lines : List Line) (found : Option BlockFault) (fault : BlockFault) → lines ≡ map (λ row. line_of (row_of row)) rows
    → IfSome found (λ f. f.place < length lines) → found ≡ Some fault → fault.place < length rows
found-place rows lines found fault e h g =
    let l : length lines ≡ length rows = ap length e ∙ length-map rows (λ row. line_of (row_of row)) in
    let p = place-of found fault (length lines) h g in
    omega arith

pub is-found-at : (built : List Built) (rows : List BlockRow) (lines : List Line) (found : Option BlockFault) (fault : BlockFault) (d : BlockRow) → lines ≡ map (λ row. line_of (row_of row)) rows
    → found ≡ first_fault true lines → IfSome found (λ f. f.place < length lines) → found ≡ Some fault → IsFoundAt (grown built (map row_of rows)) (get_or rows fault.place d).pos.line fault.cause
is-found-at built rows lines found fault d e f p g = record {
  fault = fault;
  is_found = ap (first_fault true) (lines-grown built rows ∙ sym e) ∙ sym f ∙ g;
  line_is = line-at built rows fault.place d (found-place rows lines found fault e p g);
  cause_is = refl;
}

-- ---- the tree

-- a line that is deeper than the line before is one level deeper
steps-right : (before : List Line) (rows : List (Row Tree)) → fault_behind true before (map line_of rows) ≡ None → StepByOne (level_of (nearest before)) rows
steps-right before [] e = tt
steps-right before (row ∷ rows) e =
    let f = free before (line_of row) (map line_of rows) e in
    (by_test (nat_lt (level_of (nearest before)) row.level) refl f.0.expected, steps-right (line_of row ∷ before) rows f.1)
  where
    begins : (block one : Bool) → (true && not (block && one)) ≡ false → one ≡ true
    begins true true h = refl
    begins true false h = absurd cc
    begins false one h = absurd cc

    by_test : (b : Bool) → nat_lt (level_of (nearest before)) row.level ≡ b → (b && not (opens (nearest before) && nat_eq row.level (level_of (nearest before) + 1))) ≡ false → row.level ≤ level_of (nearest before) + 1
    by_test false g h = grind (arith, nat_tests)
    by_test true g h = let one = begins (opens (nearest before)) (nat_eq row.level (level_of (nearest before) + 1)) h in grind (arith, nat_tests)

-- the first line of a file stands at the margin
at-margin : (rows : List (Row Tree)) → AreRight true (map line_of rows) → height rows ≤ 1
at-margin [] h = omega arith
at-margin (row ∷ rows) h = by_test (nat_lt 0 row.level) refl
  where
    by_test : (b : Bool) → nat_lt 0 row.level ≡ b → row.level + 1 ≤ 1
    by_test false e = grind (arith, nat_tests)
    by_test true e =
        absurd (h (record { place = 0; cause = causes.Unexpected })
        (record { front = []; line = line_of row; later = map line_of rows; lines_are = refl; place_is = refl; breaks_it = rw e refl }))

pub spells : (rows : List (Row Tree)) (tree : Tree) → IsRead rows tree → Spells rows tree
spells rows tree h =
    let s = steps-right [] rows h.none_found in
    let right = are-right true (map line_of rows) h.none_found in
    let low : height (all_decorated [] rows) ≤ 1 = omega (arith, at-margin rows right, height-decorated rows) in
    let n = nested (all_decorated [] rows) (steps-decorated [] rows 0 s) low in
    record {
      lines = n.lines;
      in_order = n.in_order;
      at_levels = n.at_levels;
      right = right;
      tree_is = h.tree_is ∙ ap (λ (rs : List (Row Tree)). module_over (first_or nothing (stack nothing with_line rs))) n.in_order ∙ ap module_over (made-on-top n.lines n.at_levels);
    }

tree-spelled : (rows : List (Row Tree)) (tree : Tree) → Spells rows tree → tree_by rows ≡ tree
tree-spelled rows tree h =
    ap (λ (rs : List (Row Tree)). module_over (first_or nothing (stack nothing with_line rs))) h.in_order ∙ ap module_over (made-on-top h.lines h.at_levels) ∙ sym h.tree_is

-- ---- the four clauses

pub tree-clause : (rows : List (Row Tree)) (result : Result Tree BlockError) → IfOk result (IsRead rows) → IfOk result (Spells rows)
tree-clause rows (Ok tree) h = spells rows tree h
tree-clause rows (Err fault) h = tt

none-some : {A : Type 0} (x : A) (found : Option A) → found ≡ None → found ≡ Some x → ⊥
none-some x found e f = cc

pub every-clause : (rows : List (Row Tree)) (result : Result Tree BlockError) → IfOk result (IsRead rows) → IfErr result (OnFault (IsFoundAt rows)) → (tree : Tree) → Spells rows tree
    → GivesOnly result tree
every-clause rows (Ok given) h k tree s = h.tree_is ∙ tree-spelled rows tree s
every-clause rows (Err Memory) h k tree s = tt
every-clause rows (Err (At line cause)) h k tree s = none-some k.fault (first_fault true (map line_of rows)) (none-found true (map line_of rows) s.right) k.is_found

first-at : (rows : List (Row Tree)) (line : ℕ) (cause : BlockCause) → IsFoundAt rows line cause → IsFirstAt rows line cause
first-at rows line cause h = record { fault = h.fault; is_first = is-first true (map line_of rows) h.fault h.is_found; line_is = h.line_is; cause_is = h.cause_is }

pub fault-clause : (rows : List (Row Tree)) (result : Result Tree BlockError) → IfErr result (OnFault (IsFoundAt rows)) → IfErr result (OnFault (IsFirstAt rows))
fault-clause rows (Ok tree) h = tt
fault-clause rows (Err Memory) h = tt
fault-clause rows (Err (At line cause)) h = first-at rows line cause h

one-fault : (a b : BlockFault) (found : Option BlockFault) → found ≡ Some a → found ≡ Some b → a ≡ b
one-fault a b found e f = cc

pub every-fault-clause : (rows : List (Row Tree)) (result : Result Tree BlockError) → IfOk result (IsRead rows) → IfErr result (OnFault (IsFoundAt rows)) → (line : ℕ) (cause : BlockCause)
    → IsFirstAt rows line cause → FaultsOnly result line cause
every-fault-clause rows (Ok tree) h k line cause f = none-some f.fault (first_fault true (map line_of rows)) h.none_found (is-found true (map line_of rows) f.fault f.is_first)
every-fault-clause rows (Err Memory) h k line cause f = tt
every-fault-clause rows (Err (At at other)) h k line cause f =
    let same = one-fault k.fault f.fault (first_fault true (map line_of rows)) k.is_found (is-found true (map line_of rows) f.fault f.is_first) in
    (k.line_is ∙ ap (λ (x : BlockFault). line_at rows x.place) same ∙ sym f.line_is, k.cause_is ∙ ap (λ (x : BlockFault). x.cause) same ∙ sym f.cause_is)

-- ---- one tree, exactly where no fault stands

pub one-tree : (rows : List (Row Tree)) (a b : Tree) → Spells rows a → Spells rows b → a ≡ b
one-tree rows a b h k = sym (tree-spelled rows a h) ∙ tree-spelled rows b k

pub some-tree : (rows : List (Row Tree)) → AreRight true (map line_of rows) → (tree : Tree) × Spells rows tree
some-tree rows h = (tree_by rows, spells rows (tree_by rows) (record { none_found = none-found true (map line_of rows) h; tree_is = refl }))
