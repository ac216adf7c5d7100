-- The trees of a forest, as a node is made of the last of them.
use Rattle.std.proofs.Common.{◌≡◌, ℕ, zero, suc, ◌+◌, ◌-◌, ◌<◌, ◌≤◌, Bool, true, false, if◌then◌else◌, List, [], ◌∷◌, ◌++◌, length, map, get_or, take, drop, refl, sym, ap, ◌∙◌, arith}
use Rattle.std.specs.Prelude.{All}
use Rattle.std.proofs.lemmas.List.{drop_all, map-append, take-map, drop-map, length-drop, take-append-drop}
use Rattle.std.proofs.lemmas.List.Elements.{All-push, All-take}
use Rattle.tree_nodes.specs.Trees.{Node, Tree, pack}
use Rattle.tree_nodes.specs.Rows.{Row, tree_of}
use Rattle.tree_nodes.specs.declared.kind.Kind.{Kind}
use Rattle.py_language.specs.Languages.{row}
use Rattle.py_forest.specs.declared.top.Top.{Top}
use Rattle.py_forest.specs.Tops.{IsTop}
use Rattle.py_forest.specs.Forests.{row_of, tree_at}

-- rows that were there stand for the trees for which they stood
abbrev pub Stay : List Row → List Row → Type 0
Stay rows rows' = (n : ℕ) → n < length rows → tree_of rows' n ≡ tree_of rows n

map-same : {X Y : Type 0} (f g : X → Y) (xs : List X) → ((k : ℕ) (d : X) → k < length xs → f (get_or xs k d) ≡ g (get_or xs k d)) → map f xs ≡ map g xs
map-same f g [] h = refl
map-same f g (x ∷ xs) h =
    let first : f x ≡ g x = h 0 x (omega arith) in
    let others = map-same f g xs (λ k d l. h (suc k) d (omega arith)) in
    rw (first, others) refl

map-map : (rows : List Row) (tops : List Top) → map (tree_of rows) (map row_of tops) ≡ map (tree_at rows) tops
map-map rows [] = refl
map-map rows (t ∷ tops) = ap (λ (ts : List Tree). tree_of rows t.row ∷ ts) (map-map rows tops)

pub trees_stay : (rows rows' : List Row) (tops : List Top) → Stay rows rows' → All (IsTop rows) tops → map (tree_at rows') tops ≡ map (tree_at rows) tops
trees_stay rows rows' tops stay made = map-same (tree_at rows') (tree_at rows) tops (λ k d l. stay (get_or tops k d).row (made k d l).made)

pub tops_stay : (rows rows' : List Row) (tops : List Top) → Stay rows rows' → length rows ≤ length rows' → All (IsTop rows) tops → All (IsTop rows') tops
tops_stay rows rows' tops stay long made k d l =
    let here = made k d l in
    let low = here.made in
    let same = stay (get_or tops k d).row low in
    record { made = omega arith; kind = here.kind ∙ ap (λ (t : Tree). t.node.kind) (sym same) }

All-drop : {X : Type 0} (P : X → Type 0) (n : ℕ) (xs : List X) → All P xs → All P (drop n xs)
All-drop P zero xs h = h
All-drop P (suc n) [] h = h
All-drop P (suc n) (x ∷ xs) h = All-drop P n xs (λ k d l. h (suc k) d (omega arith))

rows_made : (rows : List Row) (tops : List Top) → All (IsTop rows) tops → All (λ k. k < length rows) (map row_of tops)
rows_made rows [] made k d l = absurd (omega arith)
rows_made rows (t ∷ tops) made zero d l = (made 0 t (omega arith)).made
rows_made rows (t ∷ tops) made (suc k) d l = rows_made rows tops (λ i e m. made (suc i) e (omega arith)) k d (omega arith)

-- the rows of the kids are rows
pub kids_made : (rows : List Row) (tops : List Top) (mark : ℕ) (kids : List ℕ) → All (IsTop rows) tops → kids ≡ map row_of (drop mark tops) → All (λ k. k < length rows) kids
kids_made rows tops mark kids made e = rw e (rows_made rows (drop mark tops) (All-drop (IsTop rows) mark tops made))

pub node_tops : (rows rows' : List Row) (tops tops' : List Top) (mark n : ℕ) (kind : Kind) (t : Tree) → Stay rows rows' → length rows' ≡ length rows + 1 → All (IsTop rows) tops
    → tops' ≡ take mark tops ++ record { row = n; kind = kind } ∷ [] → n ≡ length rows → tree_of rows' n ≡ t → t.node.kind ≡ kind → All (IsTop rows') tops'
node_tops rows rows' tops tops' mark n kind t stay long made e en et ek =
    rw e (All-push (IsTop rows') (take mark tops) (record { row = n; kind = kind }) (All-take (IsTop rows') mark tops (tops_stay rows rows' tops stay (omega arith) made)) (record { made = omega arith; kind = sym (ap (λ (u : Tree). u.node.kind) et ∙ ek) }))

-- the same, where the top may have been refused
pub node_tops_or : (rows rows' : List Row) (tops cut tops' : List Top) (mark n : ℕ) (kind : Kind) (t : Tree) (b : Bool) → Stay rows rows' → length rows' ≡ length rows + 1 → All (IsTop rows) tops → cut ≡ take mark tops
    → tops' ≡ (if b then cut ++ record { row = n; kind = kind } ∷ [] else cut) → n ≡ length rows → tree_of rows' n ≡ t → t.node.kind ≡ kind → All (IsTop rows') tops'
node_tops_or rows rows' tops cut tops' mark n kind t true stay long made ec e en et ek =
    node_tops rows rows' tops tops' mark n kind t stay long made (e ∙ ap (λ (ts : List Top). ts ++ record { row = n; kind = kind } ∷ []) ec) en et ek
node_tops_or rows rows' tops cut tops' mark n kind t false stay long made ec e en et ek = rw (e, ec) (All-take (IsTop rows') mark tops (tops_stay rows rows' tops stay (omega arith) made))

pub node_trees : (rows rows' : List Row) (tops tops' : List Top) (mark n : ℕ) (kind : Kind) (node : Node) (kids : List ℕ) → Stay rows rows' → All (IsTop rows) tops
    → tops' ≡ take mark tops ++ record { row = n; kind = kind } ∷ [] → tree_of rows' n ≡ record { node = node; kids = pack (map (tree_of rows) kids) } → kids ≡ map row_of (drop mark tops)
    → map (tree_at rows') tops' ≡ take mark (map (tree_at rows) tops) ++ record { node = node; kids = pack (drop mark (map (tree_at rows) tops)) } ∷ []
node_trees rows rows' tops tops' mark n kind node kids stay made e et ek =
    let front : map (tree_at rows') (take mark tops) ≡ take mark (map (tree_at rows) tops) = trees_stay rows rows' (take mark tops) stay (All-take (IsTop rows) mark tops made) ∙ sym (take-map (tree_at rows) mark tops) in
    let below : map (tree_of rows) kids ≡ drop mark (map (tree_at rows) tops) = ap (map (tree_of rows)) ek ∙ map-map rows (drop mark tops) ∙ sym (drop-map (tree_at rows) mark tops) in
    let last : tree_of rows' n ≡ record { node = node; kids = pack (drop mark (map (tree_at rows) tops)) } = et ∙ ap (λ (ts : List Tree). record { node = node; kids = pack ts }) below in
    rw e (map-append (tree_at rows') (take mark tops) (record { row = n; kind = kind } ∷ []) ∙ both front last)
  where
    both : {xs ys : List Tree} {x y : Tree} → xs ≡ ys → x ≡ y → xs ++ x ∷ [] ≡ ys ++ y ∷ []
    both f g = rw (f, g) refl

-- fewer than two trees from mark on are a row themselves
pub row_of_few : {T : Type 0} (node_over : List T → Node) (ts : List T) (xs : List Tree) (mark : ℕ) → length xs - mark ≤ 1 → xs ≡ take mark xs ++ row node_over ts (drop mark xs)
row_of_few node_over ts xs mark few = sym (ap (λ (ys : List Tree). take mark xs ++ ys) (itself (drop mark xs) (omega (arith, length-drop mark xs))) ∙ take-append-drop mark xs)
  where
    itself : (ys : List Tree) → length ys ≤ 1 → row node_over ts ys ≡ ys
    itself [] l = refl
    itself (y ∷ []) l = refl
    itself (y ∷ z ∷ ys) l = absurd (omega arith)

-- two or more are one node
pub row_of_many : {T : Type 0} (node_over : List T → Node) (ts : List T) (ys : List Tree) → 2 ≤ length ys → row node_over ts ys ≡ record { node = node_over ts; kids = pack ys } ∷ []
row_of_many node_over ts [] l = absurd (omega arith)
row_of_many node_over ts (y ∷ []) l = absurd (omega arith)
row_of_many node_over ts (y ∷ z ∷ ys) l = refl

pub cut_tops : (rows : List Row) (tops cut : List Top) (mark : ℕ) → cut ≡ take mark tops → All (IsTop rows) tops → All (IsTop rows) cut
cut_tops rows tops cut mark e made = rw e (All-take (IsTop rows) mark tops made)

pub drop_past : (mark : ℕ) (tops : List Top) → length tops ≤ mark → drop mark tops ≡ []
drop_past mark tops l = drop_all mark tops l
