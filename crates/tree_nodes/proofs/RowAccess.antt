-- What a builder's rows say, and rows that say what others say.
use Rattle.std.proofs.Common.{◌≡◌, ℕ, zero, suc, ◌+◌, ◌<◌, List, [], ◌∷◌, ◌++◌, length, map, get_or, refl, sym, ap, subst, ◌∙◌, arith, length-append, Bool, true, false, Option, Some, None, cond}
use Rattle.std.specs.Prelude.{All}
use Rattle.std.proofs.lemmas.Str.{IsUtf8-nil}
use Rattle.std.proofs.lemmas.List.{append-nil, map-append, length-map, get_or-map}
use Rattle.tree_nodes.specs.declared.builder.BuiltRow.{BuiltRow}
use Rattle.tree_nodes.specs.declared.kind.Kind.{Kind}
use Rattle.tree_nodes.specs.declared.label.Label.{Label}
use Rattle.tree_nodes.specs.declared.label.Span.{Span}
use Rattle.tree_nodes.specs.Trees.{Node, Trees, Tree, pack, size, count_of}
use Rattle.tree_nodes.specs.Back.{no_tree}
use Rattle.tree_nodes.specs.Rows.{Row, picked, tree_over, trees_of, tree_of, with_kind}
use Rattle.tree_nodes.specs.Kept.{within, name_in, node_in, FitsIn}
use Rattle.tree_nodes.specs.Built.{row_in, rows_in, RowFits, AreEarlier, sizes_in, total, IsBuilt}
use Rattle.tree_nodes.proofs.RowLaws.{tree_at, length-trees_of, built-push, built-add, tree_of-earlier, tree_of-pushed, total-is, built-grown, rows-kept}
use Rattle.tree_nodes.proofs.KeptLaws.{within-seam, fits-append}

picked-is : (rows : List Row) (kids : List ℕ) → map (λ k. get_or (trees_of rows) k no_tree) kids ≡ map (tree_of rows) kids
unfolding tree_of
picked-is rows kids = refl

-- a row's tree, over those of its kids
pub tree_of-row : (rows : List Row) (n : ℕ) (d : Row) → AreEarlier 0 rows → n < length rows → tree_of rows n ≡ record { node = (get_or rows n d).node; kids = pack (map (tree_of rows) (get_or rows n d).kids) }
unfolding tree_of
tree_of-row rows n d earlier l = tree_at rows n d earlier l

row-at : (names kids : List ℕ) (rows : List BuiltRow) (now : List Row) (n : ℕ) (row : BuiltRow) → rows_in names kids rows ≡ now → n < length now → row ≡ get_or rows n row → get_or now n (row_in names kids row) ≡ row_in names kids row
row-at names kids rows now n row view l e =
    let many : length now ≡ length rows = ap length (sym view) ∙ length-map rows (row_in names kids) in
    ap (λ (rs : List Row). get_or rs n (row_in names kids row)) (sym view) ∙ get_or-map (row_in names kids) rows n row (row_in names kids row) (omega arith) ∙ ap (row_in names kids) (sym e)

pub node-is : (names kids : List ℕ) (rows : List BuiltRow) (now : List Row) (n : ℕ) (row : BuiltRow) → rows_in names kids rows ≡ now → IsBuilt names kids rows → n < length now → row ≡ get_or rows n row
    → tree_of now n ≡ record { node = node_in names row.label; kids = pack (map (tree_of now) (within kids row.kids)) }
node-is names kids rows now n row view built l e =
    let here = row-at names kids rows now n row view l e in
    tree_of-row now n (row_in names kids row) (subst (λ (rs : List Row). AreEarlier 0 rs) view built.earlier) l ∙ ap (λ (r : Row). record { node = r.node; kids = pack (map (tree_of now) r.kids) }) here

pub kind-is : (names kids : List ℕ) (rows : List BuiltRow) (now : List Row) (n : ℕ) (row : BuiltRow) → rows_in names kids rows ≡ now → IsBuilt names kids rows → n < length now → row ≡ get_or rows n row → row.label.kind ≡ (tree_of now n).node.kind
kind-is names kids rows now n row view built l e = sym (ap (λ (t : Tree). t.node.kind) (node-is names kids rows now n row view built l e))

pub pos-is : (names kids : List ℕ) (rows : List BuiltRow) (now : List Row) (n : ℕ) (row : BuiltRow) → rows_in names kids rows ≡ now → IsBuilt names kids rows → n < length now → row ≡ get_or rows n row → row.label.pos ≡ (tree_of now n).node.pos
pos-is names kids rows now n row view built l e = sym (ap (λ (t : Tree). t.node.pos) (node-is names kids rows now n row view built l e))

pub end-line-is : (names kids : List ℕ) (rows : List BuiltRow) (now : List Row) (n : ℕ) (row : BuiltRow) → rows_in names kids rows ≡ now → IsBuilt names kids rows → n < length now → row ≡ get_or rows n row
    → row.label.end_line ≡ (tree_of now n).node.end_line
end-line-is names kids rows now n row view built l e = sym (ap (λ (t : Tree). t.node.end_line) (node-is names kids rows now n row view built l e))

pub row-name-is : (names kids : List ℕ) (rows : List BuiltRow) (now : List Row) (n : ℕ) (row : BuiltRow) → rows_in names kids rows ≡ now → IsBuilt names kids rows → n < length now → row ≡ get_or rows n row → name_in names row.label ≡ (tree_of now n).node.name
row-name-is names kids rows now n row view built l e = sym (ap (λ (t : Tree). t.node.name) (node-is names kids rows now n row view built l e))

pub row-kids-are : (names kids all ids : List ℕ) (rows : List BuiltRow) (now : List Row) (n : ℕ) (row : BuiltRow) → rows_in names kids rows ≡ now → IsBuilt names kids rows → n < length now → row ≡ get_or rows n row → ids ≡ within all row.kids → all ≡ kids
    → (tree_of now n).kids ≡ pack (map (tree_of now) ids)
row-kids-are names kids all ids rows now n row view built l e f g =
    ap (λ (t : Tree). t.kids) (node-is names kids rows now n row view built l e) ∙ ap (λ (xs : List ℕ). pack (map (tree_of now) xs)) (sym (f ∙ ap (λ (ys : List ℕ). within ys row.kids) g))

earlier-at : (m : ℕ) (rows : List Row) (n : ℕ) (d : Row) → AreEarlier m rows → n < length rows → All (λ k. k < m + n) (get_or rows n d).kids
earlier-at m [] n d h l = absurd (omega arith)
earlier-at m (row ∷ rows) zero d h l = let e : m + 0 ≡ m = omega arith in rw e h.0
earlier-at m (row ∷ rows) (suc n) d h l = let e : m + suc n ≡ (m + 1) + n = omega arith in rw e (earlier-at (m + 1) rows n d h.1 (omega arith))

pub row-kids-earlier : (names kids all ids : List ℕ) (rows : List BuiltRow) (now : List Row) (n : ℕ) (row : BuiltRow) → rows_in names kids rows ≡ now → IsBuilt names kids rows → n < length now → row ≡ get_or rows n row → ids ≡ within all row.kids → all ≡ kids
    → All (λ k. k < n) ids
row-kids-earlier names kids all ids rows now n row view built l e f g =
    let here = row-at names kids rows now n row view l e in
    let zero_is : 0 + n ≡ n = omega arith in
    let old : All (λ k. k < n) (get_or now n (row_in names kids row)).kids = subst (λ (b : ℕ). All (λ k. k < b) (get_or now n (row_in names kids row)).kids) zero_is (earlier-at 0 now n (row_in names kids row) (subst (λ (rs : List Row). AreEarlier 0 rs) view built.earlier) l) in
    subst (λ (xs : List ℕ). All (λ k. k < n) xs) (sym (f ∙ ap (λ (ys : List ℕ). within ys row.kids) g)) (subst (λ (r : Row). All (λ k. k < n) r.kids) here old)

-- ---- a row that says what another says

-- a row of another kind, and of other kids
abbrev pub tagged : Kind → BuiltRow → BuiltRow
tagged kind row = record { label = record { kind = kind; is_named = row.label.is_named; pos = row.label.pos; end_line = row.label.end_line; name = row.label.name }; kids = row.kids; size = row.size }

size-at : (names kids : List ℕ) (rows : List BuiltRow) (n : ℕ) (row : BuiltRow) → IsBuilt names kids rows → n < length rows → row ≡ get_or rows n row → All (λ k. k < length rows) (within kids row.kids) → row.size ≡ 1 + total (sizes_in rows) (within kids row.kids)
size-at names kids rows n row built l e below =
    let seen = rows_in names kids rows in
    let many : length seen ≡ length rows = length-map rows (row_in names kids) in
    let trees_many : length (trees_of seen) ≡ length seen = length-trees_of seen in
    let under : All (λ k. k < length (trees_of seen)) (within kids row.kids) = subst (λ (b : ℕ). All (λ k. k < b) (within kids row.kids)) (sym (trees_many ∙ many)) below in
    let here : get_or seen n (row_in names kids row) ≡ row_in names kids row = get_or-map (row_in names kids) rows n row (row_in names kids row) l ∙ ap (row_in names kids) (sym e) in
    let tree_is : get_or (trees_of seen) n no_tree ≡ tree_over (trees_of seen) (row_in names kids row) = tree_at seen n (row_in names kids row) built.earlier (omega arith) ∙ ap (tree_over (trees_of seen)) here in
    let size_is : get_or (sizes_in rows) n row.size ≡ row.size = get_or-map (λ (r : BuiltRow). r.size) rows n row row.size l ∙ ap (λ (r : BuiltRow). r.size) (sym e) in
    let count_is : get_or (map count_of (trees_of seen)) n row.size ≡ count_of (get_or (trees_of seen) n no_tree) = get_or-map count_of (trees_of seen) n no_tree row.size (omega arith) in
    let summed : total (sizes_in rows) (within kids row.kids) ≡ size (pack (picked (trees_of seen) (within kids row.kids))) = ap (λ (s : List ℕ). total s (within kids row.kids)) built.sizes ∙ total-is (trees_of seen) (within kids row.kids) under in
    sym size_is ∙ ap (λ (s : List ℕ). get_or s n row.size) built.sizes ∙ count_is ∙ ap count_of tree_is ∙ ap (λ (s : ℕ). 1 + s) (sym summed)

fits-at : (names kids : List ℕ) (rows : List BuiltRow) (n : ℕ) (row : BuiltRow) → IsBuilt names kids rows → n < length rows → row ≡ get_or rows n row → RowFits names kids row
fits-at names kids rows n row built l e = subst (λ (r : BuiltRow). RowFits names kids r) (sym e) (built.fit n row l)

below-row : (names kids : List ℕ) (rows : List BuiltRow) (n : ℕ) (row : BuiltRow) → IsBuilt names kids rows → n < length rows → row ≡ get_or rows n row → All (λ k. k < length rows) (within kids row.kids)
below-row names kids rows n row built l e i d m =
    let many : length (rows_in names kids rows) ≡ length rows = length-map rows (row_in names kids) in
    omega (arith, row-kids-earlier names kids kids (within kids row.kids) rows (rows_in names kids rows) n row refl built (omega arith) e refl refl i d m)

pub retag-built : (names kids : List ℕ) (rows rows' : List BuiltRow) (now : List Row) (n : ℕ) (row : BuiltRow) (kind : Kind) → rows' ≡ rows ++ tagged kind row ∷ [] → rows_in names kids rows ≡ now → IsBuilt names kids rows → n < length now → row ≡ get_or rows n row → IsBuilt names kids rows'
retag-built names kids rows rows' now n row kind re view built l e =
    let many : length now ≡ length rows = ap length (sym view) ∙ length-map rows (row_in names kids) in
    let l' : n < length rows = omega arith in
    let fits = fits-at names kids rows n row built l' e in
    let below = below-row names kids rows n row built l' e in
    rw re (built-push names kids rows (tagged kind row) built (record { name_fits = fits.name_fits; kids_fit = fits.kids_fit }) below (size-at names kids rows n row built l' e below))

pub added-rows : (names kids : List ℕ) (rows rows' : List BuiltRow) (now : List Row) (new : BuiltRow) → rows' ≡ rows ++ new ∷ [] → rows_in names kids rows ≡ now → rows_in names kids rows' ≡ now ++ row_in names kids new ∷ []
added-rows names kids rows rows' now new re view = rw re (map-append (row_in names kids) rows (new ∷ []) ∙ ap (λ (rs : List Row). rs ++ row_in names kids new ∷ []) view)

pub longer : (seen now : List Row) (row : Row) → seen ≡ now ++ row ∷ [] → length seen ≡ length now + 1
longer seen now row e = ap length e ∙ length-append now (row ∷ [])

pub retag-tree : (names kids : List ℕ) (rows : List BuiltRow) (now seen : List Row) (n m : ℕ) (row : BuiltRow) (kind : Kind) → rows_in names kids rows ≡ now → IsBuilt names kids rows → n < length now → row ≡ get_or rows n row
    → seen ≡ now ++ row_in names kids (tagged kind row) ∷ [] → m ≡ length now → tree_of seen m ≡ with_kind kind (tree_of now n).kids (tree_of now n)
retag-tree names kids rows now seen n m row kind view built l e se me =
    let old = node-is names kids rows now n row view built l e in
    ap (λ (rs : List Row). tree_of rs m) se ∙ ap (tree_of (now ++ row_in names kids (tagged kind row) ∷ [])) me ∙ tree_of-pushed now (row_in names kids (tagged kind row))
    ∙ ap (λ (t : Tree). with_kind kind t.kids t) (sym old)

-- ---- the same over other kids

abbrev pub regrown : Kind → BuiltRow → Span → ℕ → BuiltRow
regrown kind row span size = record { label = record { kind = kind; is_named = row.label.is_named; pos = row.label.pos; end_line = row.label.end_line; name = row.label.name }; kids = span; size = size }

pub rebuild-built : (names kids kids' below : List ℕ) (rows rows' : List BuiltRow) (now : List Row) (n : ℕ) (row : BuiltRow) (kind : Kind) (span : Span) (size : ℕ) → kids' ≡ kids ++ below → rows' ≡ rows ++ regrown kind row span size ∷ []
    → rows_in names kids rows ≡ now → IsBuilt names kids rows → n < length now → row ≡ get_or rows n row → span.start ≡ length kids → span.end ≡ length kids + length below → All (λ k. k < length now) below → size ≡ 1 + total (sizes_in rows) below → IsBuilt names kids' rows'
rebuild-built names kids kids' below rows rows' now n row kind span size ke re view built l e ks ke2 earlier sized =
    let many : length now ≡ length rows = ap length (sym view) ∙ length-map rows (row_in names kids) in
    let fits = fits-at names kids rows n row built (omega arith) e in
    let long = length-append kids below in
    let here : within (kids ++ below) span ≡ below = within-seam kids below span ks ke2 in
    let grown = grow names kids below rows built in
    let earlier' : All (λ k. k < length rows) below = subst (λ (b : ℕ). All (λ k. k < b) below) many earlier in
    rw (ke, re)
    (built-push names (kids ++ below) rows (regrown kind row span size) grown (record { name_fits = fits.name_fits; kids_fit = record { ordered = omega arith; ends = omega arith } })
    (subst (λ (xs : List ℕ). All (λ k. k < length rows) xs) (sym here) earlier') (subst (λ (xs : List ℕ). size ≡ 1 + total (sizes_in rows) xs) (sym here) sized))
  where
    grow : (names kids below : List ℕ) (rows : List BuiltRow) → IsBuilt names kids rows → IsBuilt names (kids ++ below) rows
    grow names kids below rows built = subst (λ (ns : List ℕ). IsBuilt ns (kids ++ below) rows) (append-nil names) (built-grown names [] kids below rows IsUtf8-nil built)

kept-rows : (names kids below : List ℕ) (rows : List BuiltRow) → IsBuilt names kids rows → rows_in names (kids ++ below) rows ≡ rows_in names kids rows
kept-rows names kids below rows built = ap (λ (ns : List ℕ). rows_in ns (kids ++ below) rows) (sym (append-nil names)) ∙ rows-kept names [] kids below rows built.fit

-- kids that were added before a refusal change no row
pub refused-rows : (names kids kids' below : List ℕ) (rows rows' : List BuiltRow) (now : List Row) → kids' ≡ kids ++ below → rows' ≡ rows → rows_in names kids rows ≡ now → IsBuilt names kids rows → rows_in names kids' rows' ≡ now
refused-rows names kids kids' below rows rows' now ke re view built = rw (ke, re) (kept-rows names kids below rows built ∙ view)

pub refused-built : (names kids kids' below : List ℕ) (rows rows' : List BuiltRow) → kids' ≡ kids ++ below → rows' ≡ rows → IsBuilt names kids rows → IsBuilt names kids' rows'
refused-built names kids kids' below rows rows' ke re built =
    rw (ke, re) (subst (λ (ns : List ℕ). IsBuilt ns (kids ++ below) rows) (append-nil names) (built-grown names [] kids below rows IsUtf8-nil built))

pub rebuild-rows : (names kids kids' below : List ℕ) (rows rows' : List BuiltRow) (now : List Row) (row : BuiltRow) (kind : Kind) (span : Span) (size : ℕ) → kids' ≡ kids ++ below → rows' ≡ rows ++ regrown kind row span size ∷ []
    → rows_in names kids rows ≡ now → IsBuilt names kids rows → span.start ≡ length kids → span.end ≡ length kids + length below
    → rows_in names kids' rows' ≡ now ++ record { node = node_in names (regrown kind row span size).label; kids = below } ∷ []
rebuild-rows names kids kids' below rows rows' now row kind span size ke re view built ks ke2 =
    let here : within (kids ++ below) span ≡ below = within-seam kids below span ks ke2 in
    rw (ke, re)
    (map-append (row_in names (kids ++ below)) rows (regrown kind row span size ∷ []) ∙ ap (λ (rs : List Row). rs ++ row_in names (kids ++ below) (regrown kind row span size) ∷ []) (kept-rows names kids below rows built ∙ view)
    ∙ ap (λ (xs : List ℕ). now ++ record { node = node_in names (regrown kind row span size).label; kids = xs } ∷ []) here)

pub rebuild-tree : (names kids below : List ℕ) (rows : List BuiltRow) (now seen : List Row) (n m : ℕ) (row : BuiltRow) (kind : Kind) (span : Span) (size : ℕ) → rows_in names kids rows ≡ now → IsBuilt names kids rows → n < length now → row ≡ get_or rows n row
    → seen ≡ now ++ record { node = node_in names (regrown kind row span size).label; kids = below } ∷ [] → m ≡ length now → tree_of seen m ≡ with_kind kind (pack (map (tree_of now) below)) (tree_of now n)
rebuild-tree names kids below rows now seen n m row kind span size view built l e se me =
    let old = node-is names kids rows now n row view built l e in
    let new : Row = record { node = node_in names (regrown kind row span size).label; kids = below } in
    ap (λ (rs : List Row). tree_of rs m) se ∙ ap (tree_of (now ++ new ∷ [])) me ∙ tree_of-pushed now new ∙ ap (λ (t : Tree). with_kind kind (pack (map (tree_of now) below)) t) (sym old)

pub fits-row : (names kids : List ℕ) (rows : List BuiltRow) (now : List Row) (n : ℕ) (row : BuiltRow) → rows_in names kids rows ≡ now → IsBuilt names kids rows → n < length now → row ≡ get_or rows n row → RowFits names kids row
fits-row names kids rows now n row view built l e =
    let many : length now ≡ length rows = ap length (sym view) ∙ length-map rows (row_in names kids) in
    fits-at names kids rows n row built (omega arith) e
