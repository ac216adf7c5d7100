-- The rows are taken one by one.
use Rattle.std.proofs.Common.{◌≡◌, ℕ, zero, suc, ◌+◌, ◌-◌, ◌<◌, ◌≤◌, List, [], ◌∷◌, ◌++◌, Bool, true, false, if◌then◌else◌, length, get_or, take, drop, map, reverse, Option, Some, None, refl, sym, ap, subst, ◌∙◌, arith}
use Rattle.std.specs.Prelude.{All, IfSome, option_map}
use Rattle.std.proofs.Math.Seq.{take-suc, drop-cons}
use Rattle.std.proofs.lemmas.List.{map-append, length-map, reverse-append, get_or-map, take-map}
use Rattle.std.proofs.lemmas.List.Elements.{All-append, All-tail, All-nil, All-take, All-weaker}
use Rattle.tree_nodes.specs.Trees.{Tree}
use Rattle.tree_nodes.specs.Rows.{Row as Built, tree_of}
use Rattle.py_blocks.specs.Heads.{is_decorator, is_definition}
use Rattle.py_blocks.specs.declared.row.BlockRow.{BlockRow}
use Rattle.py_blocks.specs.Rows.{Row, row_of, map_row}
use Rattle.py_blocks.specs.Statements.{Level, nothing, gathered, decorated, all_decorated, with_line}
use Rattle.py_blocks.specs.Stack.{stack, taken, first_or}
use Rattle.py_blocks.specs.Building.{map_level, IsMade, IsHeld, Keeps, Takes, trees_in}
use Rattle.py_blocks.specs.Taking.{grown, made_of, IsTaking, IsTaken}
use Rattle.py_blocks.proofs.BuildingLaws.{some-more, map-kept, option-kept, first-held, map-first}

-- ---- decorators

module _ {X Y : Type 0} (f : X → Y) where
  gathered-if : (b : Bool) (xs : List X) → map f (if b then xs else []) ≡ (if b then map f xs else [])
  gathered-if true xs = refl
  gathered-if false xs = refl

  map-gathered : (before : List (Row X)) → map f (gathered before) ≡ gathered (map (map_row f) before)
  map-gathered [] = refl
  map-gathered (row ∷ before) =
      let e = map-append f (gathered before) row.nodes in
      let others = map-gathered before in
      gathered-if (is_decorator row.head) (gathered before ++ row.nodes) ∙ rw (e, others) refl

  pub map-decorated : (before : List (Row X)) (row : Row X) → map_row f (decorated (gathered before) row) ≡ decorated (gathered (map (map_row f) before)) (map_row f row)
  map-decorated before row =
      let e = map-append f (if is_definition row.head then gathered before else []) row.nodes in
      let d = gathered-if (is_definition row.head) (gathered before) in
      let g = map-gathered before in
      rw (e, d, g) refl

-- ---- numbers that were made

module _ (n : ℕ) where
  if-made : (b : Bool) (xs : List ℕ) → All (λ k. k < n) xs → All (λ k. k < n) (if b then xs else [])
  if-made true xs h = h
  if-made false xs h = All-nil (λ k. k < n)

  gathered-made : (before : List (Row ℕ)) → All (IsMade n) before → All (λ k. k < n) (gathered before)
  gathered-made [] h = All-nil (λ k. k < n)
  gathered-made (row ∷ before) h =
      if-made (is_decorator row.head) (gathered before ++ row.nodes) (All-append (λ k. k < n) (gathered before) row.nodes (gathered-made before (All-tail (IsMade n) row before h)) (h 0 row (omega arith)).nodes)

  pub decorated-made : (before : List (Row ℕ)) (row : Row ℕ) → All (IsMade n) before → IsMade n row → IsMade n (decorated (gathered before) row)
  decorated-made before row h k = record {
    nodes = All-append (λ i. i < n) (if is_definition row.head then gathered before else []) row.nodes (if-made (is_definition row.head) (gathered before) (gathered-made before h)) k.nodes;
    body = k.body;
    docstring = k.docstring;
  }

  reverse-all : (rows : List (Row ℕ)) → All (IsMade n) rows → All (IsMade n) (reverse rows)
  reverse-all [] h = h
  reverse-all (row ∷ rows) h =
      subst (λ (rs : List (Row ℕ)). All (IsMade n) rs) (sym (reverse-append (row ∷ []) rows))
      (All-append (IsMade n) (reverse rows) (row ∷ []) (reverse-all rows (All-tail (IsMade n) row rows h)) (λ i d l. one i d l))
    where
      one : (i : ℕ) (d : Row ℕ) → i < length (row ∷ []) → IsMade n (get_or (row ∷ []) i d)
      one zero d l = h 0 row (omega arith)
      one (suc i) d l = absurd (omega arith)

-- a row's trees stay
pub row-kept : (old new : List Built) → Keeps old new → (row : Row ℕ) → IsMade (length old) row → map_row (tree_of new) row ≡ map_row (tree_of old) row
row-kept old new keeps row h =
    let a = map-kept old new keeps row.nodes h.nodes in
    let b = map-kept old new keeps row.body h.body in
    let d = option-kept old new keeps row.docstring h.docstring in
    rw (a, b, d) refl

-- ---- the search

keeps-on : (first old new : List Built) → Keeps first old → Keeps old new → Keeps first new
keeps-on first old new h k = record { more = omega (arith, h.more, k.more); same = λ n l. k.same n (omega (arith, h.more)) ∙ h.same n l }

-- the row at a place, with its decorators, was made
pub row-made : (n : ℕ) (rows : List (Row ℕ)) (place : ℕ) (d : Row ℕ) → All (IsMade n) rows → place < length rows
    → IsMade n (decorated (gathered (reverse (take place rows))) (get_or rows place d))
row-made n rows place d h l =
    decorated-made n (reverse (take place rows)) (get_or rows place d) (reverse-all n (take place rows) (All-take (IsMade n) place rows h)) (h place d l)

map-reverse : {A B : Type 0} (f : A → B) (xs : List A) → map f (reverse xs) ≡ reverse (map f xs)
map-reverse f [] = refl
map-reverse f (x ∷ xs) =
    let others = map-reverse f xs in
    ap (map f) (reverse-append (x ∷ []) xs) ∙ map-append f (reverse xs) (x ∷ []) ∙ ap (λ (ys : List _). ys ++ f x ∷ []) others ∙ sym (reverse-append (f x ∷ []) (map f xs))

-- a function of each goes through a place
module _ {A B : Type 0} (f : A → B) (rows : List A) (place : ℕ) where
  reversed-front : map f (reverse (take place rows)) ≡ reverse (take place (map f rows))
  reversed-front = map-reverse f (take place rows) ∙ ap reverse (sym (take-map f place rows))

-- one more in front of those before
front-more : {A : Type 0} (rows : List A) (place : ℕ) (d : A) → place < length rows → reverse (take (suc place) rows) ≡ get_or rows place d ∷ reverse (take place rows)
front-more rows place d l = ap reverse (take-suc rows place d l) ∙ reverse-append (take place rows) (get_or rows place d ∷ [])

-- the row as the code has it
pub code-row : (rows front : List BlockRow) (place : ℕ) (d : BlockRow) → place < length rows → front ≡ take place rows
    → decorated (gathered (map row_of (reverse front))) (row_of (get_or rows place d)) ≡ decorated (gathered (reverse (take place (map row_of rows)))) (get_or (map row_of rows) place (row_of d))
code-row rows front place d l e =
    let a : map row_of (reverse front) ≡ reverse (take place (map row_of rows)) = ap (λ (rs : List BlockRow). map row_of (reverse rs)) e ∙ reversed-front row_of rows place in
    let b : get_or (map row_of rows) place (row_of d) ≡ row_of (get_or rows place d) = get_or-map row_of rows place d (row_of d) l in
    rw (a, b) refl

pub made-more : (n more : ℕ) → n ≤ more → (row : Row ℕ) → IsMade n row → IsMade more row
made-more n more l row h = record {
  nodes = All-weaker (λ k. k < n) (λ k. k < more) (λ k m. omega arith) row.nodes h.nodes;
  body = All-weaker (λ k. k < n) (λ k. k < more) (λ k m. omega arith) row.body h.body;
  docstring = some-more n more l row.docstring h.docstring;
}

-- the row that the code takes was made
pub code-row-made : (first old : List Built) (rows front : List BlockRow) (place : ℕ) (d : BlockRow) (levels : List (Level ℕ)) → All (IsMade (length first)) (map row_of rows)
    → IsTaking first old (map row_of rows) (suc place) levels → front ≡ take place rows → IsMade (length old) (decorated (gathered (map row_of (reverse front))) (row_of (get_or rows place d)))
code-row-made first old rows front place d levels h t e =
    let l : place < length rows = omega (arith, t.place_is, length-map rows row_of) in
    let l2 : place < length (map row_of rows) = omega (arith, t.place_is) in
    subst (λ (r : Row ℕ). IsMade (length old) r) (sym (code-row rows front place d l e))
    (made-more (length first) (length old) t.keeps.more (decorated (gathered (reverse (take place (map row_of rows)))) (get_or (map row_of rows) place (row_of d))) (row-made (length first) (map row_of rows) place (row_of d) h l2))

-- with the trees
tree-row : (first old : List Built) (rows : List (Row ℕ)) (place : ℕ) (d : Row ℕ) → All (IsMade (length first)) rows → Keeps first old → place < length rows
    → map_row (tree_of old) (decorated (gathered (reverse (take place rows))) (get_or rows place d)) ≡ decorated (gathered (reverse (take place (grown first rows)))) (get_or (grown first rows) place (map_row (tree_of first) d))
tree-row first old rows place d h k l =
    let f = map_row (tree_of first) in
    let row = decorated (gathered (reverse (take place rows))) (get_or rows place d) in
    let a = reversed-front f rows place in
    let b : get_or (map f rows) place (f d) ≡ f (get_or rows place d) = get_or-map f rows place d (f d) l in
    row-kept first old k row (row-made (length first) rows place d h l) ∙ map-decorated (tree_of first) (reverse (take place rows)) (get_or rows place d)
    ∙ ap (λ (rs : List (Row Tree)). decorated (gathered rs) (f (get_or rows place d))) a ∙ ap (decorated (gathered (reverse (take place (map f rows))))) (sym b)

pub taking-on : (first old new : List Built) (rows : List (Row ℕ)) (place : ℕ) (levels now : List (Level ℕ)) (d : Row ℕ) → All (IsMade (length first)) rows
    → IsTaking first old rows (suc place) levels → Takes old new (decorated (gathered (reverse (take place rows))) (get_or rows place d)) levels now → IsTaking first new rows place now
taking-on first old new rows place levels now d h t k =
    let made = grown first rows in
    let dm = map_row (tree_of first) d in
    let l : place < length rows = omega (arith, t.place_is) in
    let lm : place < length made = omega (arith, t.place_is, length-map rows (map_row (tree_of first))) in
    let rest = stack nothing with_line (all_decorated (reverse (take (suc place) made)) (drop (suc place) made)) in
    let row = decorated (gathered (reverse (take place made))) (get_or made place dm) in
    let there : trees_in new now ≡ taken nothing with_line row rest =
    k.trees ∙ ap (λ (r : Row Tree). taken nothing with_line r (trees_in old levels)) (tree-row first old rows place d h t.keeps l) ∙ ap (taken nothing with_line row) t.trees in
    let here : stack nothing with_line (all_decorated (reverse (take place made)) (drop place made)) ≡ taken nothing with_line row rest =
    ap (λ (rs : List (Row Tree)). stack nothing with_line (all_decorated (reverse (take place made)) rs)) (drop-cons made place dm lm)
    ∙ ap (λ (rs : List (Row Tree)). taken nothing with_line row (stack nothing with_line (all_decorated rs (drop (suc place) made)))) (sym (front-more made place dm lm)) in
    record {
      place_is = omega (arith, t.place_is);
      keeps = keeps-on first old new t.keeps k.keeps;
      held = k.held;
      trees = there ∙ sym here;
    }

-- the same of the row that the code takes
pub code-taking-on : (first old new : List Built) (rows front : List BlockRow) (place : ℕ) (d : BlockRow) (levels now : List (Level ℕ)) → All (IsMade (length first)) (map row_of rows)
    → IsTaking first old (map row_of rows) (suc place) levels → front ≡ take place rows
    → Takes old new (decorated (gathered (map row_of (reverse front))) (row_of (get_or rows place d))) levels now → IsTaking first new (map row_of rows) place now
code-taking-on first old new rows front place d levels now h t e k =
    let l : place < length rows = omega (arith, t.place_is, length-map rows row_of) in
    taking-on first old new (map row_of rows) place levels now (row_of d) h t (subst (λ (r : Row ℕ). Takes old new r levels now) (code-row rows front place d l e) k)

pub taking-all : (first now : List Built) (rows : List (Row ℕ)) (levels : List (Level ℕ)) (level : Level ℕ) → IsTaking first now rows 0 levels → level ≡ first_or nothing levels
    → IsTaken first now rows level
taking-all first now rows levels level t e =
    subst (λ (l : Level ℕ). IsTaken first now rows l) (sym e) (record {
      keeps = t.keeps;
      held = first-held (length now) levels t.held;
      trees = map-first (map_level (tree_of now)) nothing nothing refl levels ∙ ap (first_or nothing) t.trees;
    })
