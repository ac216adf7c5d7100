-- What the rows of a finished tree say of its nodes.
use Rattle.std.proofs.Common.{◌≡◌, ℕ, ◌<◌, List, [], length, map, get_or, sym, ap, subst, ◌∙◌, arith, Option, Some, None, Bool, true, false, cond}
use Rattle.std.specs.Prelude.{All}
use Rattle.std.proofs.lemmas.List.{length-map, get_or-map}
use Rattle.lint_values.specs.declared.place.NodeId.{NodeId}
use Rattle.tree_nodes.specs.declared.label.Label.{Label}
use Rattle.tree_nodes.specs.declared.label.Span.{Span}
use Rattle.tree_nodes.specs.declared.tree.TreeRow.{TreeRow}
use Rattle.tree_nodes.specs.Trees.{Tree, Entry, count_of, entries, entry_at, node_at, kids_at}
use Rattle.tree_nodes.specs.Back.{tree_from}
use Rattle.tree_nodes.specs.Kept.{within, name_in, number_of}
use Rattle.tree_nodes.specs.Finished.{entry_in, entries_in, NodeFits, IsFinished, IsRowOf}
use Rattle.tree_nodes.proofs.EntryLaws.{length-entries}

entries-are : (names : List ℕ) (kids : List NodeId) (rows : List TreeRow) (t : Tree) → tree_from (entries_in names kids rows) ≡ t → IsFinished names kids rows → entries t ≡ entries_in names kids rows
entries-are names kids rows t view done_ = sym (done_.preorder ∙ ap entries view)

pub count-is : (names : List ℕ) (kids : List NodeId) (rows : List TreeRow) (t : Tree) → tree_from (entries_in names kids rows) ≡ t → IsFinished names kids rows → length rows ≡ count_of t
count-is names kids rows t view done_ =
    sym (length-map rows (entry_in names kids)) ∙ ap length (sym (entries-are names kids rows t view done_)) ∙ length-entries t

pub entry-is : (names : List ℕ) (kids : List NodeId) (rows : List TreeRow) (t : Tree) (n : ℕ) (row : TreeRow) → tree_from (entries_in names kids rows) ≡ t → IsFinished names kids rows → n < count_of t → row ≡ get_or rows n row → entry_at t n ≡ entry_in names kids row
unfolding entry_at
entry-is names kids rows t n row view done_ l e =
    let d : Entry = record { node = t.node; kids = []; parent = None } in
    let many = count-is names kids rows t view done_ in
    ap (λ (es : List Entry). get_or es n d) (entries-are names kids rows t view done_) ∙ get_or-map (entry_in names kids) rows n row d (omega arith) ∙ ap (entry_in names kids) (sym e)

pub row-is : (names : List ℕ) (kids : List NodeId) (rows : List TreeRow) (t : Tree) (n : ℕ) (row : TreeRow) → tree_from (entries_in names kids rows) ≡ t → IsFinished names kids rows → n < count_of t → row ≡ get_or rows n row → IsRowOf t n row
row-is names kids rows t n row view done_ l e =
    let same = sym (entry-is names kids rows t n row view done_ l e) in
    record { kind = ap (λ (x : Entry). x.node.kind) same; pos = ap (λ (x : Entry). x.node.pos) same; end_line = ap (λ (x : Entry). x.node.end_line) same; parent = ap (λ (x : Entry). x.parent) same }

pub fits-is : (names : List ℕ) (kids : List NodeId) (rows : List TreeRow) (t : Tree) (n : ℕ) (row : TreeRow) → tree_from (entries_in names kids rows) ≡ t → IsFinished names kids rows → n < count_of t → row ≡ get_or rows n row → NodeFits names kids row
fits-is names kids rows t n row view done_ l e =
    let many = count-is names kids rows t view done_ in
    subst (λ (r : TreeRow). NodeFits names kids r) (sym e) (done_.fit n row (omega arith))

-- the numbers of a row's kids are those of the node's
pub kids-is : (names : List ℕ) (kids : List NodeId) (rows : List TreeRow) (t : Tree) (n : ℕ) (row : TreeRow) → tree_from (entries_in names kids rows) ≡ t → IsFinished names kids rows → n < count_of t → row ≡ get_or rows n row → map number_of (within kids row.kids) ≡ kids_at t n
kids-is names kids rows t n row view done_ l e = sym (ap (λ (x : Entry). x.kids) (entry-is names kids rows t n row view done_ l e))

-- what holds of the numbers of some nodes, at each node
pub all-of_numbers : (P : ℕ → Type 0) (ids : List NodeId) (ks : List ℕ) → map number_of ids ≡ ks → All P ks → All (λ (id : NodeId). P id.0) ids
all-of_numbers P ids ks e h i d l =
    let many : length ks ≡ length ids = ap length (sym e) ∙ length-map ids number_of in
    let here : get_or ks i d.0 ≡ (get_or ids i d).0 = ap (λ (xs : List ℕ). get_or xs i d.0) (sym e) ∙ get_or-map number_of ids i d d.0 l in
    subst P here (h i d.0 (omega arith))

pub name-is : (names : List ℕ) (kids : List NodeId) (rows : List TreeRow) (t : Tree) (n : ℕ) (row : TreeRow) → tree_from (entries_in names kids rows) ≡ t → IsFinished names kids rows → n < count_of t → row ≡ get_or rows n row → name_in names row.label ≡ (node_at t n).name
name-is names kids rows t n row view done_ l e = sym (ap (λ (x : Entry). x.node.name) (entry-is names kids rows t n row view done_ l e))

-- the numbers of a part of a list
pub all_kids : (ids kids all : List NodeId) (span : Span) (ks : List ℕ) → ids ≡ within kids span → kids ≡ all → map number_of (within all span) ≡ ks → map number_of ids ≡ ks
all_kids ids kids all span ks e f g = ap (map number_of) e ∙ ap (λ (xs : List NodeId). map number_of (within xs span)) f ∙ g

-- a name that is there, and none
pub name-there : (text names said : List ℕ) (label : Label) (name : Option (List ℕ)) → text ≡ within said label.name → said ≡ names → label.is_named ≡ true → name_in names label ≡ name → Some text ≡ name
name-there text names said label name e f named g =
    ap (λ (s : List ℕ). Some s) e ∙ ap (λ (s : List ℕ). Some (within s label.name)) f ∙ ap (λ (b : Bool). cond b (Some (within names label.name)) None) (sym named) ∙ g

pub name-none : (names : List ℕ) (label : Label) (name : Option (List ℕ)) → label.is_named ≡ false → name_in names label ≡ name → None ≡ name
name-none names label name named g = ap (λ (b : Bool). cond b (Some (within names label.name)) None) (sym named) ∙ g
