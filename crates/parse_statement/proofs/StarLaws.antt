-- Stars among targets, one kid after the other.
use Rattle.std.proofs.Common.{◌≡◌, ℕ, suc, ◌+◌, ◌<◌, ◌≤◌, Bool, true, false, ◌&&◌, if◌then◌else◌, List, [], ◌∷◌, length, map, get_or, drop, refl, sym, ap, ◌∙◌, arith}
use Rattle.std.proofs.lemmas.List.{drop_all}
use Rattle.std.proofs.Math.Seq.{drop-cons}
use Rattle.tree_nodes.specs.Trees.{none, tree, Tree, pack}
use Rattle.tree_nodes.specs.Rows.{Row, tree_of}
use Rattle.tree_nodes.specs.declared.kind.Kind.{Kind}
use Rattle.tree_nodes.specs.declared.kind.Kind.TheVariants as kinds
use Rattle.py_grammar.specs.Tests.{is_group, are_unstarred}
use Rattle.parse_statement.specs.Stars.{is_starred}

and_true : (c : Bool) → (c && true) ≡ c
and_true true = refl
and_true false = refl

-- one tree
pub unstarred_is : (t : Tree) → are_unstarred (pack (t ∷ [])) ≡ (if is_starred t.node.kind then false else (if is_group t.node.kind then are_unstarred t.kids else true))
unstarred_is t = go t.node.kind
  where
    go : (kind : Kind) → are_unstarred (tree (record { kind = kind; pos = t.node.pos; end_line = t.node.end_line; name = t.node.name }) t.kids none) ≡ (if is_starred kind then false else (if is_group kind then are_unstarred t.kids else true))
    go kinds.Starred = refl
    go kind = and_true (if is_group kind then are_unstarred t.kids else true)

regroup : (a b c : Bool) → (a && (b && c)) ≡ ((a && (b && true)) && c)
regroup true true c = refl
regroup true false c = refl
regroup false b c = refl

kid_next : (t : Tree) (ts : List Tree) → are_unstarred (pack (t ∷ ts)) ≡ (are_unstarred (pack (t ∷ [])) && are_unstarred (pack ts))
kid_next t ts = go t.node.kind
  where
    go : (kind : Kind)
        → are_unstarred (tree (record { kind = kind; pos = t.node.pos; end_line = t.node.end_line; name = t.node.name }) t.kids (pack ts))
        ≡ (are_unstarred (tree (record { kind = kind; pos = t.node.pos; end_line = t.node.end_line; name = t.node.name }) t.kids none) && are_unstarred (pack ts))
    go kinds.Starred = refl
    go kind = regroup true (if is_group kind then are_unstarred t.kids else true) (are_unstarred (pack ts))

pub unstarred_next : (rows : List Row) (ids : List ℕ) (i id : ℕ) → i < length ids → id ≡ get_or ids i id
    → are_unstarred (pack (map (tree_of rows) (drop i ids))) ≡ (are_unstarred (pack (tree_of rows id ∷ [])) && are_unstarred (pack (map (tree_of rows) (drop (i + 1) ids))))
unstarred_next rows ids i id l e =
    let n : suc i ≡ i + 1 = omega arith in
    let here : drop i ids ≡ id ∷ drop (i + 1) ids = drop-cons ids i id l ∙ ap (λ (k : ℕ). k ∷ drop (suc i) ids) (sym e) ∙ ap (λ (m : ℕ). id ∷ drop m ids) n in
    ap (λ (xs : List ℕ). are_unstarred (pack (map (tree_of rows) xs))) here ∙ kid_next (tree_of rows id) (map (tree_of rows) (drop (i + 1) ids))

pub unstarred_end : (rows : List Row) (ids : List ℕ) (i : ℕ) → length ids ≤ i → are_unstarred (pack (map (tree_of rows) (drop i ids))) ≡ true
unstarred_end rows ids i l = let e = drop_all i ids l in rw e refl
