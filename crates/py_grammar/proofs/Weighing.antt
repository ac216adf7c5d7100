-- No nesting is lost where nodes are made of parts, or where an expression is bound as a target.
use Rattle.std.proofs.Common.{◌≡◌, ◌≤◌, ◌+◌, ℕ, Bool, true, false, cond, ◌||◌, List, [], ◌∷◌, Option, refl, arith}
use Rattle.lint_values.specs.declared.place.Pos.{Pos}
use Rattle.tree_nodes.specs.Trees.{Node, Trees, none, tree, Tree}
use Rattle.tree_nodes.specs.declared.kind.Kind.{Kind}
use Rattle.tree_nodes.specs.declared.kind.Kind.TheVariants as kinds
use Rattle.py_language.specs.Languages.{whole}
use Rattle.py_language.specs.Nesting.{nesting_in, nesting, nesting_of}
use Rattle.py_language.proofs.NestingLaws.{whole_keeps}
use Rattle.py_grammar.specs.Terminals.{Terminal}
use Rattle.py_grammar.specs.Nodes.{spanning, called, second_text}
use Rattle.py_grammar.specs.Tests.{kind_of, keyword_only, is_star, with_keyword_only, is_group, target_node, as_targets, as_target}
use Rattle.py_grammar.specs.Expressions.{is_comprehension, ends_with_comma, has_own_comma, in_parentheses, in_brackets, is_of_dict, in_braces, call_arguments, star_parameter, keyword_only_behind_star, bound}
use Rattle.py_grammar.specs.Patterns.{pattern_in_parentheses}
use Rattle.py_grammar.specs.Statements.{bound_before_last, bound_first, all_bound, assigned, augmented, annotated, deleted}
use Rattle.py_grammar.specs.Weights.{weight}

-- ---- what brackets hold

-- one of two lists of trees, neither of less nesting
one_or_other : (b : Bool) (n : ℕ) (u v : List Tree) → n ≤ nesting_of weight u → n ≤ nesting_of weight v → n ≤ nesting_of weight (cond b u v)
one_or_other true n u v h g = h
one_or_other false n u v h g = g

-- one node of a kind
over_all : (kind : Kind) (ts : List Terminal) (parts : List Tree) → nesting_of weight parts ≤ nesting_of weight (whole (spanning kind) ts parts)
over_all kind ts parts = whole_keeps weight (spanning kind) ts parts

pub parentheses_keep : (ts : List Terminal) (parts : List Tree) → nesting_of weight parts ≤ nesting_of weight (in_parentheses ts parts)
parentheses_keep ts [] = over_all kinds.Tuple ts []
parentheses_keep ts (t ∷ []) = one_or_other (has_own_comma ts) _ _ _ (over_all kinds.Tuple ts (t ∷ [])) (omega arith)
parentheses_keep ts (t ∷ u ∷ parts) = one_or_other (is_comprehension (t ∷ u ∷ parts)) _ _ _ (over_all kinds.GeneratorExpression ts (t ∷ u ∷ parts)) (over_all kinds.Tuple ts (t ∷ u ∷ parts))

pub brackets_keep : (ts : List Terminal) (parts : List Tree) → nesting_of weight parts ≤ nesting_of weight (in_brackets ts parts)
brackets_keep ts parts = one_or_other (is_comprehension parts) _ _ _ (over_all kinds.ListComprehension ts parts) (over_all kinds.List ts parts)

pub braces_keep : (ts : List Terminal) (parts : List Tree) → nesting_of weight parts ≤ nesting_of weight (in_braces ts parts)
braces_keep ts [] = over_all kinds.Dict ts []
braces_keep ts (t ∷ parts) =
    one_or_other (is_of_dict (kind_of t)) _ _ _
    (one_or_other (is_comprehension (t ∷ parts)) _ _ _ (over_all kinds.DictComprehension ts (t ∷ parts)) (over_all kinds.Dict ts (t ∷ parts)))
    (one_or_other (is_comprehension (t ∷ parts)) _ _ _ (over_all kinds.SetComprehension ts (t ∷ parts)) (over_all kinds.Set ts (t ∷ parts)))

pub call_keeps : (ts : List Terminal) (parts : List Tree) → nesting_of weight parts ≤ nesting_of weight (call_arguments ts parts)
call_keeps ts parts = one_or_other (is_comprehension parts) _ _ _ (over_all kinds.GeneratorExpression ts parts) (omega arith)

pub pattern_parentheses_keep : (ts : List Terminal) (parts : List Tree) → nesting_of weight parts ≤ nesting_of weight (pattern_in_parentheses ts parts)
pattern_parentheses_keep ts [] = over_all kinds.MatchSequence ts []
pattern_parentheses_keep ts (t ∷ []) = one_or_other (ends_with_comma ts) _ _ _ (over_all kinds.MatchSequence ts (t ∷ [])) (omega arith)
pattern_parentheses_keep ts (t ∷ u ∷ parts) = over_all kinds.MatchSequence ts (t ∷ u ∷ parts)

-- ---- parameters

pub star_keeps : (t : Terminal) (ts : List Terminal) (parts : List Tree) → nesting_of weight parts ≤ nesting_of weight (star_parameter (t ∷ ts) parts)
star_keeps t [] parts = over_all kinds.KeywordOnlyMark (t ∷ []) parts
star_keeps t (u ∷ ts) parts = whole_keeps weight (called kinds.StarParameter second_text) (t ∷ u ∷ ts) parts

keyword_kind_keeps : (kind : Kind) (pos : Pos) (end_line : ℕ) (name : Option (List ℕ)) (kids : Trees)
    → nesting weight (keyword_only (record { node = record { kind = kind; pos = pos; end_line = end_line; name = name }; kids = kids })) ≡ weight kind + nesting_in weight kids
keyword_kind_keeps kinds.Parameter pos end_line name kids = refl
keyword_kind_keeps kind pos end_line name kids = refl

keyword_keeps : (t : Tree) → nesting weight (keyword_only t) ≡ nesting weight t
keyword_keeps t = keyword_kind_keeps t.node.kind t.node.pos t.node.end_line t.node.name t.kids

one_tree : (b : Bool) (t : Tree) → nesting weight (cond b (keyword_only t) t) ≡ nesting weight t
one_tree true t = keyword_keeps t
one_tree false t = refl

keywords_from : (behind : Bool) (parts : List Tree) → nesting_of weight (with_keyword_only behind parts) ≡ nesting_of weight parts
keywords_from behind [] = refl
keywords_from behind (t ∷ parts) = let e1 = one_tree behind t in let e2 = keywords_from (behind || is_star (kind_of t)) parts in rw (e1, e2) refl

pub keywords_keep : (ts : List Terminal) (parts : List Tree) → nesting_of weight parts ≤ nesting_of weight (keyword_only_behind_star ts parts)
keywords_keep ts parts = let e = keywords_from false parts in omega (arith, e)

-- ---- targets

target_kind_keeps : (kind : Kind) (pos : Pos) (end_line : ℕ) (name : Option (List ℕ)) → weight (target_node (record { kind = kind; pos = pos; end_line = end_line; name = name })).kind ≡ weight kind
target_kind_keeps kinds.Name pos end_line name = refl
target_kind_keeps kind pos end_line name = refl

-- a target weighs as the expression does
target_node_keeps : (node : Node) → weight (target_node node).kind ≡ weight node.kind
target_node_keeps node = target_kind_keeps node.kind node.pos node.end_line node.name

kids_keep : (b : Bool) (kids kids' : Trees) → nesting_in weight kids' ≡ nesting_in weight kids → nesting_in weight (cond b kids' kids) ≡ nesting_in weight kids
kids_keep true kids kids' e = e
kids_keep false kids kids' e = refl

targets_keep : (ts : Trees) → nesting_in weight (as_targets ts) ≡ nesting_in weight ts
targets_keep none = refl
targets_keep (tree node kids rest) =
    let e1 = target_node_keeps node in let e2 = kids_keep (is_group node.kind) kids (as_targets kids) (targets_keep kids) in let e3 = targets_keep rest in rw (e1, e2, e3) refl

target_keeps : (t : Tree) → nesting weight (as_target t) ≡ nesting weight t
target_keeps t = let e1 = target_node_keeps t.node in let e2 = kids_keep (is_group (kind_of t)) t.kids (as_targets t.kids) (targets_keep t.kids) in rw (e1, e2) refl

pub bound_keeps : (ts : List Terminal) (parts : List Tree) → nesting_of weight parts ≤ nesting_of weight (bound ts parts)
bound_keeps ts [] = omega arith
bound_keeps ts (t ∷ parts) = let e = target_keeps t in omega (arith, e)

-- ---- statements

before_last_keeps : (parts : List Tree) → nesting_of weight (bound_before_last parts) ≡ nesting_of weight parts
before_last_keeps [] = refl
before_last_keeps (t ∷ []) = refl
before_last_keeps (t ∷ u ∷ parts) = let e1 = target_keeps t in let e2 = before_last_keeps (u ∷ parts) in omega (arith, e1, e2)

first_keeps : (parts : List Tree) → nesting_of weight (bound_first parts) ≡ nesting_of weight parts
first_keeps [] = refl
first_keeps (t ∷ parts) = let e = target_keeps t in omega (arith, e)

all_keep : (parts : List Tree) → nesting_of weight (all_bound parts) ≡ nesting_of weight parts
all_keep [] = refl
all_keep (t ∷ parts) = let e1 = target_keeps t in let e2 = all_keep parts in omega (arith, e1, e2)

pub assigned_keeps : (ts : List Terminal) (parts : List Tree) → nesting_of weight parts ≤ nesting_of weight (assigned ts parts)
assigned_keeps ts parts = let e1 = before_last_keeps parts in let e2 = over_all kinds.Assign ts (bound_before_last parts) in omega (arith, e1, e2)

pub augmented_keeps : (ts : List Terminal) (parts : List Tree) → nesting_of weight parts ≤ nesting_of weight (augmented ts parts)
augmented_keeps ts parts = let e1 = first_keeps parts in let e2 = over_all kinds.AugAssign ts (bound_first parts) in omega (arith, e1, e2)

pub annotated_keeps : (ts : List Terminal) (parts : List Tree) → nesting_of weight parts ≤ nesting_of weight (annotated ts parts)
annotated_keeps ts parts = let e1 = first_keeps parts in let e2 = over_all kinds.AnnAssign ts (bound_first parts) in omega (arith, e1, e2)

pub deleted_keeps : (ts : List Terminal) (parts : List Tree) → nesting_of weight parts ≤ nesting_of weight (deleted ts parts)
deleted_keeps ts parts = let e1 = all_keep parts in let e2 = over_all kinds.Delete ts (all_bound parts) in omega (arith, e1, e2)
