-- A tree out of its nodes in preorder: each node takes as many of the trees behind it as it has kids.
use Rattle.std.specs.Prelude.{◌≡◌, ℕ, ◌+◌, List, [], ◌∷◌, ◌++◌, Option, Some, None, refl}
use Rattle.std.proofs.Common.{ap, sym, ◌∙◌, append_assoc}
use Rattle.std.proofs.lemmas.List.{append-nil}
use Rattle.tree_nodes.specs.declared.kind.Kind.TheVariants as kinds
use Rattle.tree_nodes.specs.Trees.{Node, Trees, none, tree, Tree, Entry, entries_from, entries_at, entries, numbers, size}

-- one tree for each of some numbers
abbrev pub taken : List ℕ → Trees → Trees
taken [] ts = none
taken (k ∷ ks) none = none
taken (k ∷ ks) (tree node kids rest) = tree node kids (taken ks rest)

-- the others
abbrev pub left_over : List ℕ → Trees → Trees
left_over [] ts = ts
left_over (k ∷ ks) none = none
left_over (k ∷ ks) (tree node kids rest) = left_over ks rest

-- the trees whose nodes in preorder these are
abbrev pub back : List Entry → Trees
back [] = none
back (e ∷ es) = tree e.node (taken e.kids (back es)) (left_over e.kids (back es))

-- what stands where there is no tree
abbrev pub no_node : Node
no_node = record { kind = kinds.Module; pos = record { line = 0; col = 0 }; end_line = 0; name = None }

-- a tree of that
abbrev pub no_tree : Tree
no_tree = record { node = no_node; kids = none }

-- the first of some trees
abbrev pub first_of : Trees → Tree
first_of none = no_tree
first_of (tree node kids rest) = record { node = node; kids = kids }

-- the tree whose nodes in preorder these are
unfoldable pub tree_from : List Entry → Tree
tree_from es = first_of (back es)

-- ---- it undoes the preorder

-- trees behind others
abbrev pub joined : Trees → Trees → Trees
joined none us = us
joined (tree node kids rest) us = tree node kids (joined rest us)

taken-joined : (ts us : Trees) (n : ℕ) → taken (numbers n ts) (joined ts us) ≡ ts
taken-joined none us n = refl
taken-joined (tree node kids rest) us n = ap (λ (r : Trees). tree node kids r) (taken-joined rest us (n + (1 + size kids)))

left_over-joined : (ts us : Trees) (n : ℕ) → left_over (numbers n ts) (joined ts us) ≡ us
left_over-joined none us n = refl
left_over-joined (tree node kids rest) us n = left_over-joined rest us (n + (1 + size kids))

grafted : (node : Node) (kids rest us : Trees) (n : ℕ) (all : Trees) → all ≡ joined kids us
    → tree node (taken (numbers n kids) all) (left_over (numbers n kids) all) ≡ tree node kids us
grafted node kids rest us n all e = rw (e, taken-joined kids us n, left_over-joined kids us n) refl

pub back-entries_from : (ts : Trees) (n : ℕ) (parent : Option ℕ) (es : List Entry) → back (entries_from n parent ts ++ es) ≡ joined ts (back es)
back-entries_from none n parent es = refl
back-entries_from (tree node kids rest) n parent es =
    let below = entries_from (n + 1) (Some n) kids in
    let behind = entries_from (n + (1 + size kids)) parent rest in
    grafted node kids rest (joined rest (back es)) (n + 1) (back ((below ++ behind) ++ es))
    (ap back (append_assoc below behind es) ∙ back-entries_from kids (n + 1) (Some n) (behind ++ es) ∙ ap (joined kids) (back-entries_from rest (n + (1 + size kids)) parent es))

back-entries_at : (t : Tree) (n : ℕ) (parent : Option ℕ) → back (entries_at n parent t) ≡ tree t.node t.kids none
back-entries_at t n parent =
    let below = entries_from (n + 1) (Some n) t.kids in
    grafted t.node t.kids none none (n + 1) (back below)
    (ap back (sym (append-nil below)) ∙ back-entries_from t.kids (n + 1) (Some n) [])

pub tree_from-entries : (t : Tree) → tree_from (entries t) ≡ t
unfolding tree_from entries
tree_from-entries t = ap first_of (back-entries_at t 0 None)
