-- Nodes in preorder, out of the rows of a builder: what is still to be given out, as nodes are taken from a stack.
use Rattle.std.proofs.Common.{◌≡◌, ℕ, zero, suc, ◌+◌, ◌<◌, ◌≤◌, List, [], ◌∷◌, ◌++◌, length, map, get_or, reverse, refl, sym, ap, subst, ◌∙◌, append_assoc, add-one, arith, length-append, lit<, Option, Some, None}
use Rattle.std.specs.Prelude.{All}
use Rattle.std.proofs.lemmas.List.{append-nil, map-append, length-map, get_or-map, reverse-append}
use Rattle.std.proofs.lemmas.List.Elements.{All-append, All-push, All-map}
use Rattle.lint_values.specs.declared.place.NodeId.{NodeId}
use Rattle.tree_nodes.specs.declared.builder.BuiltRow.{BuiltRow}
use Rattle.tree_nodes.specs.declared.finish.Open.{Open}
use Rattle.tree_nodes.specs.declared.tree.TreeRow.{TreeRow}
use Rattle.tree_nodes.specs.Trees.{Tree, pack, size, count_of, numbers, Entry, entry_of, entries_from, entries_at, entries}
use Rattle.tree_nodes.specs.Back.{no_tree, tree_from, tree_from-entries}
use Rattle.tree_nodes.specs.Rows.{Row, picked, tree_over, trees_of, tree_of}
use Rattle.tree_nodes.specs.Kept.{within, node_in, number_of, parent_in}
use Rattle.tree_nodes.specs.Built.{row_in, rows_in, RowFits, AreEarlier, IsBuilt}
use Rattle.tree_nodes.specs.Finished.{entry_in, entries_in, NodeFits, IsFinished}
use Rattle.tree_nodes.specs.Finishing.{numbers_by, opened, pending, AreLinked, GivesOut, IsFinishing}
use Rattle.tree_nodes.proofs.KeptLaws.{map-same, all_of_one, within-append, within-seam, fits-append}
use Rattle.tree_nodes.proofs.RowLaws.{length-trees_of, tree_at}

-- ---- numbers

-- the sizes of the kids give their numbers
pub numbers_by-is : (made : List Tree) (n : ℕ) (kids : List ℕ) → All (λ k. k < length made) kids → numbers_by (map count_of made) n kids ≡ numbers n (pack (picked made kids))
numbers_by-is made n [] below = refl
numbers_by-is made n (k ∷ ks) below =
    let here : k < length made = below 0 k (omega arith) in
    let first : get_or (map count_of made) k 0 ≡ count_of (get_or made k no_tree) = get_or-map count_of made k no_tree 0 here in
    ap (λ (m : ℕ). n ∷ numbers_by (map count_of made) (n + m) ks) first
    ∙ ap (λ (ns : List ℕ). n ∷ ns) (numbers_by-is made (n + count_of (get_or made k no_tree)) ks (λ i d l. below (suc i) d (omega arith)))

-- ---- what is still to be given out

-- kids before what is open
pending-opened : (made : List Tree) (n above : ℕ) (p : Option ℕ) (kids : List ℕ) (open_ : List Open) → parent_in above ≡ p
    → pending made n (opened above kids ++ open_) ≡ entries_from n p (pack (picked made kids)) ++ pending made (n + size (pack (picked made kids))) open_
pending-opened made n above p [] open_ e = ap (λ (m : ℕ). pending made m open_) (omega arith)
pending-opened made n above p (k ∷ ks) open_ e =
    let t = get_or made k no_tree in
    let others = pack (picked made ks) in
    let inner = entries_from (n + 1) (Some n) t.kids in
    let later = pending-opened made (n + count_of t) above p ks open_ e in
    let far : n + count_of t + size others ≡ n + (1 + size t.kids + size others) = omega arith in
    let rest = entries_from (n + (1 + size t.kids)) p others in
    let end_ = pending made (n + (1 + size t.kids + size others)) open_ in
    let step : pending made (n + count_of t) (opened above ks ++ open_) ≡ rest ++ end_ = later ∙ ap (λ (m : ℕ). rest ++ pending made m open_) far in
    ap (λ (q : Option ℕ). entry_of n q t.node t.kids ∷ (inner ++ pending made (n + count_of t) (opened above ks ++ open_))) e
    ∙ ap (λ (es : List Entry). entry_of n p t.node t.kids ∷ (inner ++ es)) step
    ∙ ap (λ (es : List Entry). entry_of n p t.node t.kids ∷ es) (sym (append_assoc inner rest end_))

-- a node is taken, and its kids are opened
pub pending-taken : (made : List Tree) (n : ℕ) (next : Open) (open_ : List Open) (row : Row) → get_or made next.row no_tree ≡ tree_over made row
    → pending made n (next ∷ open_) ≡ record { node = row.node; kids = numbers (n + 1) (pack (picked made row.kids)); parent = parent_in next.above } ∷ pending made (n + 1) (opened (n + 1) row.kids ++ open_)
pending-taken made n next open_ row e =
    let below = pack (picked made row.kids) in
    let p = parent_in next.above in
    let above_is : parent_in (n + 1) ≡ Some n = rw add-one refl in
    let far : n + count_of (tree_over made row) ≡ n + 1 + size below = omega arith in
    let kids = pending-opened made (n + 1) (n + 1) (Some n) row.kids open_ above_is in
    ap (λ (t : Tree). entries_at n p t ++ pending made (n + count_of t) open_) e
    ∙ ap (λ (m : ℕ). entry_of n p row.node below ∷ (entries_from (n + 1) (Some n) below ++ pending made m open_)) far
    ∙ ap (λ (es : List Entry). entry_of n p row.node below ∷ es) (sym kids)

pub pending-root : (rows : List Row) (root : ℕ) → pending (trees_of rows) 0 (record { row = root; above = 0 } ∷ []) ≡ entries (tree_of rows root)
unfolding entries tree_of
pending-root rows root = append-nil (entries_at 0 None (get_or (trees_of rows) root no_tree))

-- ---- nodes as they are kept

entry-kept : (names : List ℕ) (kids further : List NodeId) (row : TreeRow) → NodeFits names kids row → entry_in names (kids ++ further) row ≡ entry_in names kids row
entry-kept names kids further row fits = rw (within-append kids further row.kids fits.kids_fit) refl

pub entries-kept : (names : List ℕ) (kids further : List NodeId) (rows : List TreeRow) → All (NodeFits names kids) rows → entries_in names (kids ++ further) rows ≡ entries_in names kids rows
entries-kept names kids further rows fit = map-same (entry_in names (kids ++ further)) (entry_in names kids) rows (λ k d l. entry-kept names kids further (get_or rows k d) (fit k d l))

pub nodes-fit-kept : (names : List ℕ) (kids further : List NodeId) (rows : List TreeRow) → All (NodeFits names kids) rows → All (NodeFits names (kids ++ further)) rows
nodes-fit-kept names kids further rows fit k d l =
    let here = fit k d l in
    record { name_fits = here.name_fits; kids_fit = fits-append kids further (get_or rows k d).kids here.kids_fit }

-- ---- rows of a builder

earlier-at : (n : ℕ) (rows : List Row) (i : ℕ) (d : Row) → AreEarlier n rows → i < length rows → All (λ k. k < n + i) (get_or rows i d).kids
earlier-at n [] i d earlier l = absurd (omega arith)
earlier-at n (row ∷ rows) zero d earlier l = let same : n ≡ n + 0 = omega arith in subst (λ (b : ℕ). All (λ k. k < b) row.kids) same earlier.0
earlier-at n (row ∷ rows) (suc i) d earlier l = let same : n + 1 + i ≡ n + suc i = omega arith in subst (λ (b : ℕ). All (λ k. k < b) (get_or rows i d).kids) same (earlier-at (n + 1) rows i d earlier.1 (omega arith))

all-weaker : (a b : ℕ) (ks : List ℕ) → a ≤ b → All (λ k. k < a) ks → All (λ k. k < b) ks
all-weaker a b ks le h k d l = omega (arith, h k d l)

kids-made : (names kids : List ℕ) (rows : List BuiltRow) → IsBuilt names kids rows → (i : ℕ) (d : BuiltRow) → i < length rows → All (λ k. k < length rows) (within kids (get_or rows i d).kids)
kids-made names kids rows built i d l =
    let many : length (rows_in names kids rows) ≡ length rows = length-map rows (row_in names kids) in
    let at_ : get_or (rows_in names kids rows) i (row_in names kids d) ≡ row_in names kids (get_or rows i d) = get_or-map (row_in names kids) rows i d (row_in names kids d) l in
    let earlier = earlier-at 0 (rows_in names kids rows) i (row_in names kids d) built.earlier (omega arith) in
    all-weaker (0 + i) (length rows) (within kids (get_or rows i d).kids) (omega arith) (subst (λ (r : Row). All (λ k. k < 0 + i) r.kids) at_ earlier)

pub linked : (names kids : List ℕ) (rows : List BuiltRow) → IsBuilt names kids rows → AreLinked kids rows
linked names kids rows built = record { fit = λ i d l. (built.fit i d l).kids_fit; made = kids-made names kids rows built }

below-made : (names kids : List ℕ) (rows : List BuiltRow) → IsBuilt names kids rows → (i : ℕ) (row : BuiltRow) → i < length rows → get_or rows i row ≡ row → All (λ k. k < length (trees_of (rows_in names kids rows))) (within kids row.kids)
below-made names kids rows built i row l e =
    let many : length (rows_in names kids rows) ≡ length rows = length-map rows (row_in names kids) in
    let trees_many : length (trees_of (rows_in names kids rows)) ≡ length (rows_in names kids rows) = length-trees_of (rows_in names kids rows) in
    subst (λ (r : BuiltRow). All (λ k. k < length (trees_of (rows_in names kids rows))) (within kids r.kids)) e
    (all-weaker (length rows) (length (trees_of (rows_in names kids rows))) (within kids (get_or rows i row).kids) (omega arith) (kids-made names kids rows built i row l))

row-fits : (names kids : List ℕ) (rows : List BuiltRow) → IsBuilt names kids rows → (i : ℕ) (row : BuiltRow) → i < length rows → get_or rows i row ≡ row → RowFits names kids row
row-fits names kids rows built i row l e = subst (λ (r : BuiltRow). RowFits names kids r) e (built.fit i row l)

pub row-of-tree : (names kids : List ℕ) (rows : List BuiltRow) (n : ℕ) → n < length (trees_of (rows_in names kids rows)) → n < length rows
row-of-tree names kids rows n l =
    let many : length (rows_in names kids rows) ≡ length rows = length-map rows (row_in names kids) in
    let trees_many : length (trees_of (rows_in names kids rows)) ≡ length (rows_in names kids rows) = length-trees_of (rows_in names kids rows) in
    omega arith

-- ---- one step

waiting-step : (bound n : ℕ) (below : List ℕ) (stack stack' : List Open) → reverse stack' ≡ opened n below ++ reverse stack → All (λ k. k < bound) below → All (λ next. next.row < bound) (reverse stack) → All (λ next. next.row < bound) (reverse stack')
waiting-step bound n below stack stack' e earlier waiting =
    let P : Open → Type 0 = λ next. next.row < bound in
    subst (λ (os : List Open). All P os) (sym e) (All-append P (opened n below) (reverse stack) (All-map P (λ (k : ℕ). record { row = k; above = n }) below earlier) waiting)

rest-waits : (bound : ℕ) (next : Open) (stack : List Open) → All (λ o. o.row < bound) (next ∷ stack) → All (λ o. o.row < bound) stack
rest-waits bound next stack h k d l = h (suc k) d (omega arith)

reverse-pushed : (stack : List Open) (next : Open) → reverse (stack ++ next ∷ []) ≡ next ∷ reverse stack
reverse-pushed stack next = reverse-append stack (next ∷ [])

-- what the stack held, with the next one taken
pub pending-step : (names kids : List ℕ) (rows : List BuiltRow) (next : Open) (out out' : List TreeRow) (numbered numbered' : List NodeId) (stack stack' : List Open)
    → IsBuilt names kids rows → next.row < length rows → (g : GivesOut rows kids next out out' numbered numbered' stack stack')
    → pending (trees_of (rows_in names kids rows)) (length out) (reverse (stack ++ next ∷ []))
    ≡ record { node = node_in names g.row.label; kids = map number_of g.ids; parent = parent_in next.above } ∷ pending (trees_of (rows_in names kids rows)) (length out') (reverse stack')
pending-step names kids rows next out out' numbered numbered' stack stack' built here g =
    let seen = rows_in names kids rows in
    let made = trees_of seen in
    let row = row_in names kids g.row in
    let many : length seen ≡ length rows = length-map rows (row_in names kids) in
    let there : next.row < length seen = omega arith in
    let row_is : get_or seen next.row row ≡ row = get_or-map (row_in names kids) rows next.row g.row row here ∙ ap (row_in names kids) g.is_row in
    let tree_is : get_or made next.row no_tree ≡ tree_over made row = tree_at seen next.row row built.earlier there ∙ ap (tree_over made) row_is in
    let below : All (λ k. k < length made) row.kids = below-made names kids rows built next.row g.row here g.is_row in
    let ids : map number_of g.ids ≡ numbers (length out + 1) (pack (picked made row.kids)) =
    g.ids_are ∙ ap (λ (s : List ℕ). numbers_by s (length out + 1) row.kids) built.sizes ∙ numbers_by-is made (length out + 1) row.kids below in
    let longer : length out' ≡ length out + 1 = ap length g.out_is ∙ length-append out (record { label = g.row.label; kids = g.span; above = next.above } ∷ []) in
    ap (pending made (length out)) (reverse-pushed stack next)
    ∙ pending-taken made (length out) next (reverse stack) row tree_is
    ∙ ap (λ (ks : List ℕ). record { node = row.node; kids = ks; parent = parent_in next.above } ∷ pending made (length out + 1) (opened (length out + 1) row.kids ++ reverse stack)) (sym ids)
    ∙ ap (λ (os : List Open). record { node = row.node; kids = map number_of g.ids; parent = parent_in next.above } ∷ pending made (length out + 1) os) (sym g.stack_is)
    ∙ ap (λ (n : ℕ). record { node = row.node; kids = map number_of g.ids; parent = parent_in next.above } ∷ pending made n (reverse stack')) (sym longer)

pub finishing-step : (names kids : List ℕ) (rows : List BuiltRow) (root : Tree) (next : Open) (out out' : List TreeRow) (numbered numbered' : List NodeId) (all stack stack' : List Open)
    → IsBuilt names kids rows → all ≡ stack ++ next ∷ [] → GivesOut rows kids next out out' numbered numbered' stack stack'
    → IsFinishing (trees_of (rows_in names kids rows)) root names numbered out all → IsFinishing (trees_of (rows_in names kids rows)) root names numbered' out' stack'
finishing-step names kids rows root next out out' numbered numbered' all stack stack' built all_is g so_far =
    let seen = rows_in names kids rows in
    let made = trees_of seen in
    let new : TreeRow = record { label = g.row.label; kids = g.span; above = next.above } in
    let waits : All (λ o. o.row < length made) (next ∷ reverse stack) = subst (λ (os : List Open). All (λ o. o.row < length made) os) (ap reverse all_is ∙ reverse-pushed stack next) so_far.waiting in
    let here : next.row < length rows = row-of-tree names kids rows next.row (waits 0 next (omega arith)) in
    let below : All (λ k. k < length made) (within kids g.row.kids) = below-made names kids rows built next.row g.row here g.is_row in
    let kids_are : within (numbered ++ g.ids) g.span ≡ g.ids = within-seam numbered g.ids g.span g.starts g.ends in
    let x : Entry = record { node = node_in names g.row.label; kids = map number_of g.ids; parent = parent_in next.above } in
    let rest = pending made (length out') (reverse stack') in
    let x_is : entry_in names (numbered ++ g.ids) new ≡ x = ap (λ (ns : List NodeId). record { node = node_in names g.row.label; kids = map number_of ns; parent = parent_in next.above }) kids_are in
    let given : entries_in names (numbered ++ g.ids) (out ++ new ∷ []) ≡ entries_in names numbered out ++ x ∷ [] =
    map-append (entry_in names (numbered ++ g.ids)) out (new ∷ []) ∙ pushed (entries-kept names numbered g.ids out so_far.fit) x_is in
    let given' : entries_in names numbered' out' ≡ entries_in names numbered out ++ x ∷ [] = same_in g.numbered_is g.out_is ∙ given in
    let fit_new : NodeFits names (numbered ++ g.ids) new = record { name_fits = (row-fits names kids rows built next.row g.row here g.is_row).name_fits; kids_fit = record { ordered = omega (arith, g.starts, g.ends); ends = omega (arith, g.ends, length-append numbered g.ids) } } in
    let longer : length out' ≡ length out + 1 = ap length g.out_is ∙ length-append out (new ∷ []) in
    let few = g.few in
    record {
      fit = fit_in g.numbered_is g.out_is (All-push (NodeFits names (numbered ++ g.ids)) out new (nodes-fit-kept names numbered g.ids out so_far.fit) fit_new);
      waiting = waiting-step (length made) (length out + 1) (within kids g.row.kids) stack stack' g.stack_is below (rest-waits (length made) next (reverse stack) waits);
      preorder = ap (λ (es : List Entry). es ++ rest) given' ∙ append_assoc (entries_in names numbered out) (x ∷ []) rest
          ∙ ap (λ (es : List Entry). entries_in names numbered out ++ es) (sym (pending-step names kids rows next out out' numbered numbered' stack stack' built here g))
          ∙ ap (λ (os : List Open). entries_in names numbered out ++ pending made (length out) (reverse os)) (sym all_is) ∙ so_far.preorder;
      few = omega arith;
    }
  where
    pushed : {xs ys : List Entry} {a b : Entry} → xs ≡ ys → a ≡ b → xs ++ a ∷ [] ≡ ys ++ b ∷ []
    pushed e f = rw (e, f) refl

    same_in : {ns ns' : List NodeId} {rs rs' : List TreeRow} → ns ≡ ns' → rs ≡ rs' → entries_in names ns rs ≡ entries_in names ns' rs'
    same_in e f = rw (e, f) refl

    fit_in : {ns ns' : List NodeId} {rs rs' : List TreeRow} → ns ≡ ns' → rs ≡ rs' → All (NodeFits names ns') rs' → All (NodeFits names ns) rs
    fit_in e f h = rw (e, f) h

-- ---- the beginning and the end

pub finishing-start : (names kids : List ℕ) (rows : List BuiltRow) (root : ℕ) (numbered : List NodeId) (out : List TreeRow) (stack : List Open) → numbered ≡ [] → out ≡ [] → stack ≡ record { row = root; above = 0 } ∷ [] → root < length (rows_in names kids rows)
    → IsFinishing (trees_of (rows_in names kids rows)) (tree_of (rows_in names kids rows) root) names numbered out stack
finishing-start names kids rows root numbered out stack ne oe se l =
    let many : length (trees_of (rows_in names kids rows)) ≡ length (rows_in names kids rows) = length-trees_of (rows_in names kids rows) in
    let first : IsFinishing (trees_of (rows_in names kids rows)) (tree_of (rows_in names kids rows) root) names [] [] (record { row = root; above = 0 } ∷ []) =
    record { fit = λ k d h. absurd (omega arith); waiting = all_of_one (λ o. o.row < length (trees_of (rows_in names kids rows))) (record { row = root; above = 0 }) (omega arith); preorder = pending-root (rows_in names kids rows) root; few = lit< tt } in
    rw (ne, oe, se) first

pub finished-preorder : (made : List Tree) (root : Tree) (names : List ℕ) (numbered : List NodeId) (out : List TreeRow) (stack : List Open) → stack ≡ [] → IsFinishing made root names numbered out stack → entries_in names numbered out ≡ entries root
finished-preorder made root names numbered out stack e so_far =
    sym (append-nil (entries_in names numbered out)) ∙ ap (λ (os : List Open). entries_in names numbered out ++ pending made (length out) (reverse os)) (sym e) ∙ so_far.preorder

pub finished-tree : (made : List Tree) (root : Tree) (names : List ℕ) (numbered : List NodeId) (out : List TreeRow) (stack : List Open) → stack ≡ [] → IsFinishing made root names numbered out stack → tree_from (entries_in names numbered out) ≡ root
finished-tree made root names numbered out stack e so_far = ap tree_from (finished-preorder made root names numbered out stack e so_far) ∙ tree_from-entries root

pub finished : (made : List Tree) (root : Tree) (names : List ℕ) (numbered : List NodeId) (out : List TreeRow) (stack : List Open) → stack ≡ [] → IsFinishing made root names numbered out stack → IsFinished names numbered out
finished made root names numbered out stack e so_far =
    record { fit = so_far.fit; preorder = finished-preorder made root names numbered out stack e so_far ∙ ap entries (sym (finished-tree made root names numbered out stack e so_far)); few = so_far.few }

-- ---- the same, for what the code has at hand

pub linked-by : (names kids kids' : List ℕ) (rows rows' : List BuiltRow) → IsBuilt names kids rows → kids' ≡ kids → rows' ≡ rows → AreLinked kids' rows'
linked-by names kids kids' rows rows' built ke re = rw (ke, re) (linked names kids rows built)

pub made-by : (names kids : List ℕ) (rows rows' : List BuiltRow) (root : Tree) (next : Open) (out : List TreeRow) (numbered : List NodeId) (all stack : List Open)
    → rows' ≡ rows → all ≡ stack ++ next ∷ [] → IsFinishing (trees_of (rows_in names kids rows)) root names numbered out all → next.row < length rows'
made-by names kids rows rows' root next out numbered all stack re all_is so_far =
    let made = trees_of (rows_in names kids rows) in
    let waits : All (λ o. o.row < length made) (next ∷ reverse stack) = subst (λ (os : List Open). All (λ o. o.row < length made) os) (ap reverse all_is ∙ reverse-pushed stack next) so_far.waiting in
    subst (λ (rs : List BuiltRow). next.row < length rs) (sym re) (row-of-tree names kids rows next.row (waits 0 next (omega arith)))

pub step-by : (names kids kids' : List ℕ) (rows rows' : List BuiltRow) (root : Tree) (next : Open) (out out' : List TreeRow) (numbered numbered' : List NodeId) (all stack stack' : List Open)
    → IsBuilt names kids rows → kids' ≡ kids → rows' ≡ rows → all ≡ stack ++ next ∷ [] → GivesOut rows' kids' next out out' numbered numbered' stack stack'
    → IsFinishing (trees_of (rows_in names kids rows)) root names numbered out all → IsFinishing (trees_of (rows_in names kids rows)) root names numbered' out' stack'
step-by names kids kids' rows rows' root next out out' numbered numbered' all stack stack' built ke re all_is g so_far =
    let g' : GivesOut rows kids next out out' numbered numbered' stack stack' = subst (λ (ks : List ℕ). GivesOut rows ks next out out' numbered numbered' stack stack') ke (subst (λ (rs : List BuiltRow). GivesOut rs kids' next out out' numbered numbered' stack stack') re g) in
    finishing-step names kids rows root next out out' numbered numbered' all stack stack' built all_is g' so_far

pub smaller-by : (names kids kids' : List ℕ) (rows rows' : List BuiltRow) (root : Tree) (next : Open) (out out' : List TreeRow) (numbered numbered' : List NodeId) (all stack stack' : List Open)
    → IsBuilt names kids rows → kids' ≡ kids → rows' ≡ rows → all ≡ stack ++ next ∷ [] → GivesOut rows' kids' next out out' numbered numbered' stack stack'
    → IsFinishing (trees_of (rows_in names kids rows)) root names numbered out all
    → length (pending (trees_of (rows_in names kids rows)) (length out') (reverse stack')) < length (pending (trees_of (rows_in names kids rows)) (length out) (reverse all))
smaller-by names kids kids' rows rows' root next out out' numbered numbered' all stack stack' built ke re all_is g so_far =
    let made = trees_of (rows_in names kids rows) in
    let g' : GivesOut rows kids next out out' numbered numbered' stack stack' = subst (λ (ks : List ℕ). GivesOut rows ks next out out' numbered numbered' stack stack') ke (subst (λ (rs : List BuiltRow). GivesOut rs kids' next out out' numbered numbered' stack stack') re g) in
    let here : next.row < length rows = subst (λ (rs : List BuiltRow). next.row < length rs) re (made-by names kids rows rows' root next out numbered all stack re all_is so_far) in
    let x : Entry = record { node = node_in names g'.row.label; kids = map number_of g'.ids; parent = parent_in next.above } in
    let rest = pending made (length out') (reverse stack') in
    let step : length (pending made (length out) (reverse all)) ≡ length (x ∷ rest) =
    ap (λ (os : List Open). length (pending made (length out) (reverse os))) all_is ∙ ap length (pending-step names kids rows next out out' numbered numbered' stack stack' built here g') in
    let one : length rest < length (x ∷ rest) = omega arith in
    subst (λ (n : ℕ). length rest < n) (sym step) one
