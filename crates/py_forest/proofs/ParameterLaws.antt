-- Lists of parameters from a mark on, one after the other.
use Rattle.std.proofs.Common.{◌≡◌, ℕ, zero, suc, ◌+◌, ◌-◌, ◌<◌, ◌≤◌, Bool, true, false, not, if◌then◌else◌, ◌||◌, Option, Some, None, List, [], ◌∷◌, ◌++◌, length, map, get_or, set, take, drop, refl, sym, ap, subst, ◌∙◌, append_assoc, arith, length-append}
use Rattle.std.proofs.lemmas.List.{drop_all, take_all, length-map, append-nil, length-set, take-set}
use Rattle.tree_nodes.specs.Trees.{Node, Trees, none, tree, Tree, pack}
use Rattle.tree_nodes.specs.Back.{no_tree}
use Rattle.tree_nodes.specs.Rows.{Row, tree_of, with_kind}
use Rattle.tree_nodes.specs.declared.kind.Kind.{Kind}
use Rattle.tree_nodes.specs.declared.kind.Kind.TheVariants as kinds
use Rattle.py_grammar.specs.declared.stage.Stage.{Stage}
use Rattle.py_grammar.specs.Tests.{kind_of, ends_with_default, next_stage, may_end, parameters_from, keyword_only, is_star, with_keyword_only}
use Rattle.py_forest.specs.Annotations.{is_annotation}
use Rattle.py_forest.proofs.KindLaws.{drop_next}

last_kid : (t : Tree) → ends_with_default (pack (t ∷ [])) ≡ not (is_annotation t.node.kind)
last_kid t = go t.node t.kids t.node.kind
  where
    go : (node : Node) (kids : Trees) (kind : Kind) → ends_with_default (tree (record { kind = kind; pos = node.pos; end_line = node.end_line; name = node.name }) kids none) ≡ not (is_annotation kind)
    go node kids kinds.Annotation = refl
    go node kids kind = refl

default_of : (rows : List Row) (ids : List ℕ) (place d : ℕ) → place + 1 ≡ length ids → ends_with_default (pack (map (tree_of rows) ids)) ≡ not (is_annotation (tree_of rows (get_or ids place d)).node.kind)
default_of rows [] place d e = absurd (omega arith)
default_of rows (i ∷ []) zero d e = last_kid (tree_of rows i)
default_of rows (i ∷ []) (suc n) d e = absurd (omega arith)
default_of rows (i ∷ j ∷ ids) zero d e = absurd (omega arith)
default_of rows (i ∷ j ∷ ids) (suc n) d e = default_of rows (j ∷ ids) n d (omega arith)

pub default_last : (rows : List Row) (kids : Trees) (ids : List ℕ) (place d : ℕ) → kids ≡ pack (map (tree_of rows) ids) → place + 1 ≡ length ids → ends_with_default kids ≡ not (is_annotation (tree_of rows (get_or ids place d)).node.kind)
default_last rows kids ids place d e l = ap ends_with_default e ∙ default_of rows ids place d l

pub default_none : (rows : List Row) (kids : Trees) (ids : List ℕ) → kids ≡ pack (map (tree_of rows) ids) → length ids ≡ 0 → ends_with_default kids ≡ false
default_none rows kids [] e l = ap ends_with_default e
default_none rows kids (i ∷ ids) e l = absurd (omega arith)

pub stage_next : (stage : Stage) (xs : List Tree) (place : ℕ) → place < length xs → parameters_from (Some stage) (drop place xs) ≡ parameters_from (next_stage stage (get_or xs place no_tree)) (drop (place + 1) xs)
stage_next stage xs place l = let e = drop_next xs place l in rw e refl

pub stage_end : (stage : Stage) (xs : List Tree) (place : ℕ) → length xs ≤ place → parameters_from (Some stage) (drop place xs) ≡ may_end stage
stage_end stage xs place l = let e = drop_all place xs l in rw e refl

pub keyword_only_is : (t : Tree) → t.node.kind ≡ kinds.Parameter → keyword_only t ≡ with_kind kinds.KeywordOnlyParameter t.kids t
keyword_only_is t e = rw e refl

-- ---- parameters behind a star

pub keyword_start : (xs : List Tree) (mark : ℕ) → take mark xs ++ with_keyword_only false (drop mark xs) ≡ take mark xs ++ with_keyword_only false (drop mark xs)
keyword_start xs mark = refl

pub keyword_turn : (xs ys : List Tree) (behind next : Bool) (place : ℕ) (all : List Tree) → all ≡ take place xs ++ with_keyword_only behind (drop place xs) → place < length xs
    → ys ≡ set xs place (if behind then keyword_only (get_or xs place no_tree) else get_or xs place no_tree) → next ≡ (behind || is_star (get_or xs place no_tree).node.kind)
    → all ≡ take (place + 1) ys ++ with_keyword_only next (drop (place + 1) ys)
keyword_turn xs ys behind next place all e l ey en = e ∙ rw (ey, en) (go xs behind place l)
  where
    go : (xs : List Tree) (behind : Bool) (place : ℕ) → place < length xs
        → take place xs ++ with_keyword_only behind (drop place xs)
        ≡ take (place + 1) (set xs place (if behind then keyword_only (get_or xs place no_tree) else get_or xs place no_tree))
        ++ with_keyword_only (behind || is_star (get_or xs place no_tree).node.kind) (drop (place + 1) (set xs place (if behind then keyword_only (get_or xs place no_tree) else get_or xs place no_tree)))
    go [] behind place l = absurd (omega arith)
    go (x ∷ xs) behind zero l = refl
    go (x ∷ xs) behind (suc n) l = let e : suc n + 1 ≡ suc (n + 1) = omega arith in rw e (ap (λ (ts : List Tree). x ∷ ts) (go xs behind n (omega arith)))

pub keyword_end : (xs : List Tree) (behind : Bool) (place : ℕ) (all : List Tree) → all ≡ take place xs ++ with_keyword_only behind (drop place xs) → length xs ≤ place → all ≡ xs
keyword_end xs behind place all e l =
    let e1 = take_all place xs l in
    let e2 = drop_all place xs l in
    e ∙ rw (e1, e2) (append-nil xs)

pub set_itself : (xs : List Tree) (place : ℕ) (d : Tree) → set xs place (get_or xs place d) ≡ xs
set_itself [] zero d = refl
set_itself [] (suc n) d = refl
set_itself (x ∷ xs) zero d = refl
set_itself (x ∷ xs) (suc n) d = ap (λ (ts : List Tree). x ∷ ts) (set_itself xs n d)
