-- The trees of rows, as rows are added.
use Rattle.std.proofs.Common.{◌≡◌, ℕ, zero, suc, ◌+◌, ◌<◌, List, [], ◌∷◌, ◌++◌, length, map, get_or, refl, sym, ap, subst, ◌∙◌, arith, length-append, Bool, Option, Some, None, cond, unwrap_or, Result, Ok, Err, OnErr, Bor, option_copied}
use Rattle.std.specs.Prelude.{All}
use Rattle.std.specs.Prelude.{is_some}
use Rattle.std.specs.Str.{IsUtf8, IsCharBoundary}
use Rattle.std.proofs.lemmas.Str.{IsCharBoundary-at_seam, IsCharBoundary-end}
use Rattle.std.proofs.lemmas.List.{append-nil, map-append, length-map, get_or-map, get_or_append_left}
use Rattle.std.proofs.lemmas.List.Elements.{All-push}
use Rattle.std.proofs.Math.Seq.{get_or-append_seam}
use Rattle.tree_nodes.specs.declared.builder.BuiltRow.{BuiltRow}
use Rattle.tree_nodes.specs.Trees.{Tree, pack, size, count_of}
use Rattle.tree_nodes.specs.Back.{no_tree}
use Rattle.tree_nodes.specs.Rows.{Row, row_with, picked, tree_over, trees_from, trees_of, tree_of}
use Rattle.tree_nodes.specs.Kept.{within, name_in}
use Rattle.tree_nodes.specs.Built.{row_in, rows_in, RowFits, AreEarlier, sizes_in, total, IsBuilt}
use Rattle.tree_nodes.proofs.KeptLaws.{map-same, within-append, within-seam, fits-append, text-append, node-kept}

-- ---- trees

trees_from-push : (made : List Tree) (rows : List Row) (row : Row) → trees_from made (rows ++ row ∷ []) ≡ trees_from made rows ++ tree_over (trees_from made rows) row ∷ []
trees_from-push made [] row = refl
trees_from-push made (r ∷ rows) row = trees_from-push (made ++ tree_over made r ∷ []) rows row

pub trees_of-push : (rows : List Row) (row : Row) → trees_of (rows ++ row ∷ []) ≡ trees_of rows ++ tree_over (trees_of rows) row ∷ []
unfolding trees_of
trees_of-push rows row = trees_from-push [] rows row

length-trees_from : (made : List Tree) (rows : List Row) → length (trees_from made rows) ≡ length made + length rows
length-trees_from made [] = omega arith
length-trees_from made (r ∷ rows) = omega (arith, length-trees_from (made ++ tree_over made r ∷ []) rows, length-append made (tree_over made r ∷ []))

pub length-trees_of : (rows : List Row) → length (trees_of rows) ≡ length rows
unfolding trees_of
length-trees_of rows = omega (arith, length-trees_from [] rows)

trees_from-stay : (made : List Tree) (rows : List Row) (n : ℕ) → n < length made → get_or (trees_from made rows) n no_tree ≡ get_or made n no_tree
trees_from-stay made [] n l = refl
trees_from-stay made (r ∷ rows) n l =
    trees_from-stay (made ++ tree_over made r ∷ []) rows n (omega (arith, length-append made (tree_over made r ∷ []))) ∙ get_or_append_left made (tree_over made r ∷ []) no_tree n l

picked-same : (made others : List Tree) (kids : List ℕ) → All (λ k. get_or made k no_tree ≡ get_or others k no_tree) kids → picked made kids ≡ picked others kids
picked-same made others kids h = map-same (λ k. get_or made k no_tree) (λ k. get_or others k no_tree) kids h

tree_over-stays : (made : List Tree) (rows : List Row) (row : Row) → All (λ k. k < length made) row.kids → tree_over made row ≡ tree_over (trees_from made rows) row
tree_over-stays made rows row below =
    let same = picked-same made (trees_from made rows) row.kids (λ k d l. sym (trees_from-stay made rows (get_or row.kids k d) (below k d l))) in
    ap (λ (ts : List Tree). record { node = row.node; kids = pack ts }) same

tree_at-from : (made : List Tree) (rows : List Row) (n : ℕ) (d : Row) → AreEarlier (length made) rows → n < length rows
    → get_or (trees_from made rows) (length made + n) no_tree ≡ tree_over (trees_from made rows) (get_or rows n d)
tree_at-from made [] n d earlier l = absurd (omega arith)
tree_at-from made (r ∷ rows) zero d earlier l =
    let t = tree_over made r in
    let here : length made + 0 ≡ length made = omega arith in
    let final = trees_from (made ++ t ∷ []) rows in
    rw here (trees_from-stay (made ++ t ∷ []) rows (length made) (omega (arith, length-append made (t ∷ []))) ∙ get_or-append_seam made t [] no_tree ∙ tree_over-stays made (r ∷ rows) r earlier.0)
tree_at-from made (r ∷ rows) (suc n) d earlier l =
    let t = tree_over made r in
    let longer : length (made ++ t ∷ []) ≡ length made + 1 = length-append made (t ∷ []) in
    let same : length made + suc n ≡ length (made ++ t ∷ []) + n = omega arith in
    let others : AreEarlier (length (made ++ t ∷ [])) rows = subst (λ (m : ℕ). AreEarlier m rows) (sym longer) earlier.1 in
    rw same (tree_at-from (made ++ t ∷ []) rows n d others (omega arith))

-- a row's tree stands over the trees of its kids
pub tree_at : (rows : List Row) (n : ℕ) (d : Row) → AreEarlier 0 rows → n < length rows → get_or (trees_of rows) n no_tree ≡ tree_over (trees_of rows) (get_or rows n d)
unfolding trees_of
tree_at rows n d earlier l =
    let same : n ≡ 0 + n = omega arith in
    ap (λ (m : ℕ). get_or (trees_from [] rows) m no_tree) same ∙ tree_at-from [] rows n d earlier l

-- rows that are added leave the trees of earlier rows
pub tree_of-earlier : (rows : List Row) (row : Row) (n : ℕ) → n < length rows → tree_of (rows ++ row ∷ []) n ≡ tree_of rows n
unfolding tree_of
tree_of-earlier rows row n l =
    let many = length-trees_of rows in
    ap (λ (ts : List Tree). get_or ts n no_tree) (trees_of-push rows row) ∙ get_or_append_left (trees_of rows) (tree_over (trees_of rows) row ∷ []) no_tree n (omega arith)

-- a row stands for the tree over those of its kids
pub tree_of-pushed : (rows : List Row) (row : Row) → tree_of (rows ++ row ∷ []) (length rows) ≡ record { node = row.node; kids = pack (map (tree_of rows) row.kids) }
unfolding tree_of
tree_of-pushed rows row =
    let t = tree_over (trees_of rows) row in
    ap (λ (ts : List Tree). get_or ts (length rows) no_tree) (trees_of-push rows row) ∙ ap (λ (n : ℕ). get_or (trees_of rows ++ t ∷ []) n no_tree) (sym (length-trees_of rows)) ∙ get_or-append_seam (trees_of rows) t [] no_tree

-- ---- sizes

pub total-is : (made : List Tree) (kids : List ℕ) → All (λ k. k < length made) kids → total (map count_of made) kids ≡ size (pack (picked made kids))
total-is made [] below = refl
total-is made (k ∷ ks) below =
    let here : k < length made = below 0 k (omega arith) in
    let first : get_or (map count_of made) k 0 ≡ count_of (get_or made k no_tree) = get_or-map count_of made k no_tree 0 here in
    let others = total-is made ks (λ i d l. below (suc i) d (omega arith)) in
    omega arith

-- ---- rows as they are kept

row-kept : (names more : List ℕ) (kids further : List ℕ) (row : BuiltRow) → RowFits names kids row → row_in (names ++ more) (kids ++ further) row ≡ row_in names kids row
row-kept names more kids further row fits = rw (node-kept names more row.label fits.name_fits, within-append kids further row.kids fits.kids_fit) refl

pub rows-kept : (names more : List ℕ) (kids further : List ℕ) (rows : List BuiltRow) → All (RowFits names kids) rows → rows_in (names ++ more) (kids ++ further) rows ≡ rows_in names kids rows
rows-kept names more kids further rows fit = map-same (row_in (names ++ more) (kids ++ further)) (row_in names kids) rows (λ k d l. row-kept names more kids further (get_or rows k d) (fit k d l))

pub fit-kept : (names more : List ℕ) (kids further : List ℕ) (rows : List BuiltRow) → IsUtf8 more → All (RowFits names kids) rows → All (RowFits (names ++ more) (kids ++ further)) rows
fit-kept names more kids further rows u fit k d l =
    let here = fit k d l in
    record { name_fits = text-append names more (get_or rows k d).label.name here.name_fits u; kids_fit = fits-append kids further (get_or rows k d).kids here.kids_fit }

-- more names and kids alone change nothing
pub built-grown : (names more : List ℕ) (kids further : List ℕ) (rows : List BuiltRow) → IsUtf8 more → IsBuilt names kids rows → IsBuilt (names ++ more) (kids ++ further) rows
built-grown names more kids further rows u built =
    let same = sym (rows-kept names more kids further rows built.fit) in
    record {
      fit = fit-kept names more kids further rows u built.fit;
      earlier = subst (λ (rs : List Row). AreEarlier 0 rs) same built.earlier;
      sizes = subst (λ (rs : List Row). sizes_in rows ≡ map count_of (trees_of rs)) same built.sizes;
    }

pub earlier-push : (n m : ℕ) (rows : List Row) (row : Row) → m ≡ n + length rows → AreEarlier n rows → All (λ k. k < m) row.kids → AreEarlier n (rows ++ row ∷ [])
earlier-push n m [] row e earlier below = let same : m ≡ n = omega arith in (subst (λ (b : ℕ). All (λ k. k < b) row.kids) same below, tt)
earlier-push n m (r ∷ rows) row e earlier below = (earlier.0, earlier-push (n + 1) m rows row (omega arith) earlier.1 below)

pub built-push : (names kids : List ℕ) (rows : List BuiltRow) (row : BuiltRow) → IsBuilt names kids rows → RowFits names kids row → All (λ k. k < length rows) (within kids row.kids)
    → row.size ≡ 1 + total (sizes_in rows) (within kids row.kids) → IsBuilt names kids (rows ++ row ∷ [])
built-push names kids rows row built fits below sized =
    let seen = rows_in names kids rows in
    let new = row_in names kids row in
    let many : length seen ≡ length rows = length-map rows (row_in names kids) in
    let trees_many : length (trees_of seen) ≡ length seen = length-trees_of seen in
    let longer : rows_in names kids (rows ++ row ∷ []) ≡ seen ++ new ∷ [] = map-append (row_in names kids) rows (row ∷ []) in
    let under : All (λ k. k < length (trees_of seen)) (within kids row.kids) = subst (λ (b : ℕ). All (λ k. k < b) (within kids row.kids)) (sym (trees_many ∙ many)) below in
    let summed : total (sizes_in rows) (within kids row.kids) ≡ size (pack (picked (trees_of seen) (within kids row.kids))) = ap (λ (s : List ℕ). total s (within kids row.kids)) built.sizes ∙ total-is (trees_of seen) (within kids row.kids) under in
    let size_is : row.size ≡ count_of (tree_over (trees_of seen) new) = sized ∙ ap (λ (s : ℕ). 1 + s) summed in
    record {
      fit = All-push (RowFits names kids) rows row built.fit fits;
      earlier = subst (λ (rs : List Row). AreEarlier 0 rs) (sym longer) (earlier-push 0 (length rows) seen new (omega arith) built.earlier below);
      sizes = map-append (λ (r : BuiltRow). r.size) rows (row ∷ []) ∙ both (sizes_in rows) (map count_of (trees_of seen)) row.size (count_of (tree_over (trees_of seen) new)) built.sizes size_is
          ∙ sym (map-append count_of (trees_of seen) (tree_over (trees_of seen) new ∷ [])) ∙ ap (map count_of) (sym (trees_of-push seen new)) ∙ ap (λ (rs : List Row). map count_of (trees_of rs)) (sym longer);
    }
  where
    both : (xs ys : List ℕ) (x y : ℕ) → xs ≡ ys → x ≡ y → xs ++ x ∷ [] ≡ ys ++ y ∷ []
    both xs ys x y e f = rw (e, f) refl

-- ---- what the builder's functions do

pub built-none : (names kids : List ℕ) (rows : List BuiltRow) → rows ≡ [] → IsBuilt names kids rows
unfolding trees_of
built-none names kids rows e = subst (λ (rs : List BuiltRow). IsBuilt names kids rs) (sym e) empty
  where
    empty : IsBuilt names kids []
    empty = record { fit = λ k d l. absurd (omega arith); earlier = tt; sizes = refl }

-- a row behind the others, over a name and kids behind the others
pub fits-add : (names text kids below : List ℕ) (row : BuiltRow) → IsUtf8 text → row.label.name.start ≡ length names → row.label.name.end ≡ length names + length text
    → row.kids.start ≡ length kids → row.kids.end ≡ length kids + length below → RowFits (names ++ text) (kids ++ below) row
fits-add names text kids below row u ns ne ks ke =
    let names_long = length-append names text in
    let kids_long = length-append kids below in
    let end_is : length (names ++ text) ≡ row.label.name.end = omega arith in
    record {
      name_fits = record {
        ordered = omega arith;
        starts = subst (λ (i : ℕ). IsCharBoundary (names ++ text) i) (sym ns) (IsCharBoundary-at_seam (names ++ text) names text refl u);
        ends = subst (λ (i : ℕ). IsCharBoundary (names ++ text) i) end_is (IsCharBoundary-end (names ++ text));
      };
      kids_fit = record { ordered = omega arith; ends = omega arith };
    }

pub built-add : (names text kids below : List ℕ) (rows : List BuiltRow) (row : BuiltRow) → IsBuilt names kids rows → IsUtf8 text → row.label.name.start ≡ length names → row.label.name.end ≡ length names + length text
    → row.kids.start ≡ length kids → row.kids.end ≡ length kids + length below → All (λ k. k < length rows) below → row.size ≡ 1 + total (sizes_in rows) below
    → IsBuilt (names ++ text) (kids ++ below) (rows ++ row ∷ [])
built-add names text kids below rows row built u ns ne ks ke earlier sized =
    let here : within (kids ++ below) row.kids ≡ below = within-seam kids below row.kids ks ke in
    built-push (names ++ text) (kids ++ below) rows row (built-grown names text kids below rows u built) (fits-add names text kids below row u ns ne ks ke)
    (subst (λ (xs : List ℕ). All (λ k. k < length rows) xs) (sym here) earlier) (subst (λ (xs : List ℕ). row.size ≡ 1 + total (sizes_in rows) xs) (sym here) sized)

pub rows-add : (names text kids below : List ℕ) (rows : List BuiltRow) (row : BuiltRow) (name : Option (List ℕ)) → IsBuilt names kids rows → row.label.name.start ≡ length names → row.label.name.end ≡ length names + length text
    → row.kids.start ≡ length kids → row.kids.end ≡ length kids + length below → text ≡ unwrap_or name [] → row.label.is_named ≡ is_some name
    → rows_in (names ++ text) (kids ++ below) (rows ++ row ∷ []) ≡ rows_in names kids rows ++ row_with row.label.kind row.label.pos row.label.end_line name below ∷ []
rows-add names text kids below rows row name built ns ne ks ke te named =
    let here : within (kids ++ below) row.kids ≡ below = within-seam kids below row.kids ks ke in
    let said : within (names ++ text) row.label.name ≡ text = within-seam names text row.label.name ns ne in
    let name_is : name_in (names ++ text) row.label ≡ name = ap (λ (b : Bool). cond b (Some (within (names ++ text) row.label.name)) None) named ∙ ap (λ (s : List ℕ). cond (is_some name) (Some s) None) (said ∙ te) ∙ rebuilt name in
    map-append (row_in (names ++ text) (kids ++ below)) rows (row ∷ []) ∙ joined (rows-kept names text kids below rows built.fit) (made name_is here)
  where
    rebuilt : (o : Option (List ℕ)) → cond (is_some o) (Some (unwrap_or o [])) None ≡ o
    rebuilt None = refl
    rebuilt (Some s) = refl

    made : {o : Option (List ℕ)} {xs : List ℕ} → name_in (names ++ text) row.label ≡ o → within (kids ++ below) row.kids ≡ xs → row_in (names ++ text) (kids ++ below) row ≡ row_with row.label.kind row.label.pos row.label.end_line o xs
    made e f = rw (e, f) refl

    joined : {xs ys : List Row} {x y : Row} → xs ≡ ys → x ≡ y → xs ++ x ∷ [] ≡ ys ++ y ∷ []
    joined e f = rw (e, f) refl

-- ---- the same, for what the code has at hand

pub on_err : {T E : Type 0} (r : Result T E) (P : Type 0) → P → OnErr r P
on_err (Ok x) P p = tt
on_err (Err e) P p = p

pub built-grown-by : (names names' more kids kids' further : List ℕ) (rows rows' : List BuiltRow) → names' ≡ names ++ more → kids' ≡ kids ++ further → rows' ≡ rows → IsUtf8 more → IsBuilt names kids rows → IsBuilt names' kids' rows'
built-grown-by names names' more kids kids' further rows rows' ne ke re u built = rw (ne, ke, re) (built-grown names more kids further rows u built)

pub rows-grown-by : (names names' more kids kids' further : List ℕ) (rows rows' : List BuiltRow) (now : List Row) → names' ≡ names ++ more → kids' ≡ kids ++ further → rows' ≡ rows → IsBuilt names kids rows → rows_in names kids rows ≡ now → rows_in names' kids' rows' ≡ now
rows-grown-by names names' more kids kids' further rows rows' now ne ke re built e = rw (ne, ke, re) (rows-kept names more kids further rows built.fit ∙ e)

pub nothing_more : (kids kids' : List ℕ) → kids' ≡ kids → kids' ≡ kids ++ []
nothing_more kids kids' e = e ∙ sym (append-nil kids)

pub is_some-copied : (o : Option (Bor (List ℕ))) → is_some o ≡ is_some (option_copied o)
is_some-copied None = refl
is_some-copied (Some s) = refl

pub below-length : (bound : ℕ) (seen : List Row) (kids : List ℕ) → length seen ≡ bound → All (λ k. k < length seen) kids → All (λ k. k < bound) kids
below-length bound seen kids e h = subst (λ (b : ℕ). All (λ k. k < b) kids) e h

pub built-add-by : (names names' text kids kids' below : List ℕ) (rows rows' : List BuiltRow) (row : BuiltRow) (now : List Row) → names' ≡ names ++ text → kids' ≡ kids ++ below → rows' ≡ rows ++ row ∷ [] → rows_in names kids rows ≡ now
    → IsBuilt names kids rows → IsUtf8 text → row.label.name.start ≡ length names → row.label.name.end ≡ length names + length text
    → row.kids.start ≡ length kids → row.kids.end ≡ length kids + length below → All (λ k. k < length now) below → row.size ≡ 1 + total (sizes_in rows) below
    → IsBuilt names' kids' rows'
built-add-by names names' text kids kids' below rows rows' row now ne ke re view built u s1 s2 s3 s4 earlier sized =
    let many : length now ≡ length rows = ap length (sym view) ∙ length-map rows (row_in names kids) in
    rw (ne, ke, re) (built-add names text kids below rows row built u s1 s2 s3 s4 (below-length (length rows) now below many earlier) sized)

pub rows-add-by : (names names' text kids kids' below : List ℕ) (rows rows' : List BuiltRow) (row : BuiltRow) (name : Option (List ℕ)) (now : List Row) → names' ≡ names ++ text → kids' ≡ kids ++ below → rows' ≡ rows ++ row ∷ [] → rows_in names kids rows ≡ now
    → IsBuilt names kids rows → row.label.name.start ≡ length names → row.label.name.end ≡ length names + length text
    → row.kids.start ≡ length kids → row.kids.end ≡ length kids + length below → text ≡ unwrap_or name [] → row.label.is_named ≡ is_some name
    → rows_in names' kids' rows' ≡ now ++ row_with row.label.kind row.label.pos row.label.end_line name below ∷ []
rows-add-by names names' text kids kids' below rows rows' row name now ne ke re view built s1 s2 s3 s4 te named =
    rw (ne, ke, re) (rows-add names text kids below rows row name built s1 s2 s3 s4 te named ∙ ap (λ (rs : List Row). rs ++ row_with row.label.kind row.label.pos row.label.end_line name below ∷ []) view)

pub length-view : (names kids : List ℕ) (rows : List BuiltRow) (now : List Row) → rows_in names kids rows ≡ now → length now ≡ length rows
length-view names kids rows now e = ap length (sym e) ∙ length-map rows (row_in names kids)

pub same-tree : (seen now : List Row) (n : ℕ) → seen ≡ now → tree_of seen n ≡ tree_of now n
same-tree seen now n e = ap (λ (rs : List Row). tree_of rs n) e

pub earlier-tree : (seen now : List Row) (row : Row) (n : ℕ) → seen ≡ now ++ row ∷ [] → n < length now → tree_of seen n ≡ tree_of now n
earlier-tree seen now row n e l = same-tree seen (now ++ row ∷ []) n e ∙ tree_of-earlier now row n l

pub new-tree : (seen now : List Row) (row : Row) (n : ℕ) → seen ≡ now ++ row ∷ [] → n ≡ length now → tree_of seen n ≡ record { node = row.node; kids = pack (map (tree_of now) row.kids) }
new-tree seen now row n e f = same-tree seen (now ++ row ∷ []) n e ∙ ap (tree_of (now ++ row ∷ [])) f ∙ tree_of-pushed now row
