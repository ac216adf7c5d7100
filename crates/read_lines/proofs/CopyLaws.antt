-- Rows of one builder behind those of another: what their numbers stand for.
use Rattle.std.proofs.Common.{◌≡◌, ℕ, ◌+◌, ◌<◌, ◌≤◌, List, [], ◌∷◌, length, map, take, drop, refl, sym, ap, ◌∙◌, ⊎_elim, arith}
use Rattle.std.specs.Prelude.{All, Option}
use Rattle.std.proofs.lemmas.Bool.Decides.{leb_tells}
use Rattle.std.proofs.lemmas.List.{take-map, drop-map}
use Rattle.std.proofs.lemmas.List.Elements.{All-nil, All-cons, All-head, All-tail, All-take, All-drop}
use Rattle.lint_values.specs.declared.place.Pos.{Pos}
use Rattle.tree_nodes.specs.declared.kind.Kind.{Kind}
use Rattle.tree_nodes.specs.Trees.{Trees, Tree, pack}
use Rattle.tree_nodes.specs.Rows.{Row, tree_of}
use Rattle.py_forest.specs.declared.top.Top.{Top}
use Rattle.py_forest.specs.Forests.{tree_at}
use Rattle.py_forest.specs.Tops.{IsTop}
use Rattle.py_grammar.specs.declared.head.Head.{Head}
use Rattle.read_lines.specs.Copies.{AreCopied, number_from}
use Rattle.read_lines.specs.Found.{form_with}

-- ---- one row

-- earlier kids stand for the same trees behind the others
pub kids_copied : (new other : List Row) (by row : ℕ) (kids : List ℕ) → ((k : ℕ) → k < row → tree_of new (by + k) ≡ tree_of other k) → All (λ k. k < row) kids → map (tree_of new) (map (λ k. by + k) kids) ≡ map (tree_of other) kids
kids_copied new other by row [] same all = refl
kids_copied new other by row (k ∷ ks) same all =
    let head = same k (All-head (λ k. k < row) k ks all) in
    let tail = kids_copied new other by row ks same (All-tail (λ k. k < row) k ks all) in
    ap (λ (t : Tree). t ∷ map (tree_of new) (map (λ k. by + k) ks)) head ∙ ap (λ (ts : List Tree). tree_of other k ∷ ts) tail

-- their numbers are those of rows
pub kids_below : (by row : ℕ) (kids : List ℕ) → All (λ k. k < row) kids → All (λ k. k < by + row) (map (λ k. by + k) kids)
kids_below by row [] all = All-nil (λ k. k < by + row)
kids_below by row (k ∷ ks) all =
    let head = All-head (λ k. k < row) k ks all in
    All-cons (λ k. k < by + row) (by + k) (map (λ k. by + k) ks) (omega (arith, head)) (kids_below by row ks (All-tail (λ k. k < row) k ks all))

-- the same, behind so many rows
pub numbers_of_rows : (by row count : ℕ) (kids below : List ℕ) → below ≡ map (λ k. by + k) kids → count ≡ by + row → All (λ k. k < row) kids → All (λ k. k < count) below
numbers_of_rows by row count kids below e f all = rw (e, f) (kids_below by row kids all)

-- a row of the parts of another, over the trees of its kids
parts_copied : (t new : Tree) (kind : Kind) (pos : Pos) (end_line : ℕ) (name : Option (List ℕ)) (kids : Trees) → new ≡ record { node = record { kind = kind; pos = pos; end_line = end_line; name = name }; kids = kids } → kind ≡ t.node.kind → pos ≡ t.node.pos → end_line ≡ t.node.end_line → name ≡ t.node.name → kids ≡ t.kids → new ≡ t
parts_copied t new kind pos end_line name kids e k p l n ks = e ∙ rw (k, p, l, n, ks) refl

pub row_copied : (old new other : List Row) (by row n : ℕ) (kind : Kind) (pos : Pos) (end_line : ℕ) (name : Option (List ℕ)) (kids below : List ℕ)
    → tree_of new n ≡ record { node = record { kind = kind; pos = pos; end_line = end_line; name = name }; kids = pack (map (tree_of old) below) } → n ≡ by + row
    → kind ≡ (tree_of other row).node.kind → pos ≡ (tree_of other row).node.pos → end_line ≡ (tree_of other row).node.end_line → name ≡ (tree_of other row).node.name
    → below ≡ map (λ k. by + k) kids → (tree_of other row).kids ≡ pack (map (tree_of other) kids) → All (λ k. k < row) kids → ((k : ℕ) → k < row → tree_of old (by + k) ≡ tree_of other k)
    → tree_of new (by + row) ≡ tree_of other row
row_copied old new other by row n kind pos end_line name kids below tree at k p l m e kids_are all same =
    let trees : map (tree_of old) below ≡ map (tree_of other) kids = ap (map (tree_of old)) e ∙ kids_copied old other by row kids same all in
    ap (tree_of new) (sym at) ∙ parts_copied (tree_of other row) (tree_of new n) kind pos end_line name (pack (map (tree_of old) below)) tree k p l m (ap pack trees ∙ sym kids_are)

-- ---- rows in order

pub copied_none : (by : ℕ) (old other : List Row) → length old ≡ by → AreCopied by old old other 0
copied_none by old other e = record { begins = e; counted = omega (arith, e); earlier = λ n l. refl; same = λ k l. absurd (omega (arith, l)) }

pub copied_more : (by : ℕ) (old cur new other : List Row) (row : ℕ) → AreCopied by old cur other row → length new ≡ length cur + 1 → ((n : ℕ) → n < length cur → tree_of new n ≡ tree_of cur n) → tree_of new (by + row) ≡ tree_of other row → AreCopied by old new other (row + 1)
copied_more by old cur new other row c count earlier tree = record {
  begins = c.begins;
  counted = omega (arith, c.counted, count);
  earlier = λ n l. earlier n (omega (arith, l, c.counted, c.begins)) ∙ c.earlier n l;
  same = λ k l. ⊎_elim (λ p. last k (omega (arith, p.1, l))) (λ p. earlier (by + k) (omega (arith, p.1, c.counted)) ∙ c.same k p.1) (leb_tells row k);
}
  where
    last : (k : ℕ) → k ≡ row → tree_of new (by + k) ≡ tree_of other k
    last k e = rw e tree

-- earlier rows are left as they are
pub copied_longer : (by : ℕ) (old new other : List Row) (count : ℕ) → AreCopied by old new other count → length old ≤ length new
copied_longer by old new other count c = omega (arith, c.begins, c.counted)

-- ---- the rows of a form

pub trees_copied : (by : ℕ) (old new other : List Row) (tops : List Top) → AreCopied by old new other (length other) → All (IsTop other) tops → map (tree_of new) (map (number_from by) tops) ≡ map (tree_at other) tops
trees_copied by old new other [] c all = refl
trees_copied by old new other (t ∷ ts) c all =
    let head : tree_of new (by + t.row) ≡ tree_of other t.row = c.same t.row (All-head (IsTop other) t ts all).made in
    ap (λ (x : Tree). x ∷ map (tree_of new) (map (number_from by) ts)) head ∙ ap (λ (xs : List Tree). tree_of other t.row ∷ xs) (trees_copied by old new other ts c (All-tail (IsTop other) t ts all))

numbers_below : (by : ℕ) (old new other : List Row) (tops : List Top) → AreCopied by old new other (length other) → All (IsTop other) tops → All (λ n. n < length new) (map (number_from by) tops)
numbers_below by old new other [] c all = All-nil (λ n. n < length new)
numbers_below by old new other (t ∷ ts) c all =
    let head = (All-head (IsTop other) t ts all).made in
    All-cons (λ n. n < length new) (by + t.row) (map (number_from by) ts) (omega (arith, head, c.counted)) (numbers_below by old new other ts c (All-tail (IsTop other) t ts all))

pub nodes_below : (by : ℕ) (old new other : List Row) (n : ℕ) (tops : List Top) (nodes : List ℕ) → AreCopied by old new other (length other) → All (IsTop other) tops → nodes ≡ map (number_from by) (take n tops) → All (λ n. n < length new) nodes
nodes_below by old new other n tops nodes c all e = rw e (numbers_below by old new other (take n tops) c (All-take (IsTop other) n tops all))

pub body_below : (by : ℕ) (old new other : List Row) (n : ℕ) (tops : List Top) (body : List ℕ) → AreCopied by old new other (length other) → All (IsTop other) tops → body ≡ map (number_from by) (drop n tops) → All (λ n. n < length new) body
body_below by old new other n tops body c all e = rw e (numbers_below by old new other (drop n tops) c (All-drop (IsTop other) n tops all))

pub form_copied : (by : ℕ) (old new other : List Row) (n : ℕ) (tops : List Top) (nodes body : List ℕ) (head : Head) → AreCopied by old new other (length other) → All (IsTop other) tops → nodes ≡ map (number_from by) (take n tops) → body ≡ map (number_from by) (drop n tops)
    → form_with head (map (tree_of new) nodes) (map (tree_of new) body) ≡ form_with head (take n (map (tree_at other) tops)) (drop n (map (tree_at other) tops))
form_copied by old new other n tops nodes body head c all en eb =
    let front : map (tree_of new) nodes ≡ take n (map (tree_at other) tops) = ap (map (tree_of new)) en ∙ trees_copied by old new other (take n tops) c (All-take (IsTop other) n tops all) ∙ sym (take-map (tree_at other) n tops) in
    let back : map (tree_of new) body ≡ drop n (map (tree_at other) tops) = ap (map (tree_of new)) eb ∙ trees_copied by old new other (drop n tops) c (All-drop (IsTop other) n tops all) ∙ sym (drop-map (tree_at other) n tops) in
    rw (front, back) refl
