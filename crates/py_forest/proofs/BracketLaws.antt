-- What brackets hold, by how many trees stand from a mark on.
use Rattle.std.proofs.Common.{◌≡◌, ℕ, zero, suc, ◌+◌, ◌-◌, ◌<◌, ◌≤◌, Bool, true, false, if◌then◌else◌, List, [], ◌∷◌, ◌++◌, length, get_or, take, drop, refl, sym, ap, ◌∙◌, arith}
use Rattle.std.proofs.lemmas.List.{drop_all, take-append-drop, length-drop}
use Rattle.tree_nodes.specs.Trees.{Tree, pack}
use Rattle.tree_nodes.specs.Back.{no_tree}
use Rattle.tree_nodes.specs.declared.kind.Kind.TheVariants as kinds
use Rattle.py_language.specs.Languages.{whole}
use Rattle.py_grammar.specs.Terminals.{Terminal}
use Rattle.py_grammar.specs.Nodes.{spanning, called, second_text}
use Rattle.py_grammar.specs.Expressions.{is_comprehension, is_of_dict, has_own_comma, in_parentheses, in_braces, star_parameter}
use Rattle.py_forest.proofs.KindLaws.{drop_next}

pub as_it_was : (mark : ℕ) (xs : List Tree) → take mark xs ++ drop mark xs ≡ xs
as_it_was mark xs = take-append-drop mark xs

pub parentheses_none : (ts : List Terminal) (xs : List Tree) (mark : ℕ) → length xs ≤ mark → in_parentheses ts (drop mark xs) ≡ whole (spanning kinds.Tuple) ts (drop mark xs)
parentheses_none ts xs mark l = let e = drop_all mark xs l in rw e refl

pub parentheses_one : (ts : List Terminal) (xs : List Tree) (mark : ℕ) → length xs ≡ mark + 1 → in_parentheses ts (drop mark xs) ≡ (if has_own_comma ts then whole (spanning kinds.Tuple) ts (drop mark xs) else drop mark xs)
parentheses_one ts xs mark l = let e1 = drop_next xs mark (omega arith) in let e2 = drop_all (mark + 1) xs (omega arith) in rw (e1, e2) refl

pub parentheses_more : (ts : List Terminal) (xs : List Tree) (mark : ℕ) → mark + 1 < length xs
    → in_parentheses ts (drop mark xs) ≡ (if is_comprehension (drop mark xs) then whole (spanning kinds.GeneratorExpression) ts (drop mark xs) else whole (spanning kinds.Tuple) ts (drop mark xs))
parentheses_more ts xs mark l = let e1 = drop_next xs mark (omega arith) in let e2 = drop_next xs (mark + 1) l in rw (e1, e2) refl

pub braces_none : (ts : List Terminal) (xs : List Tree) (mark : ℕ) → length xs ≤ mark → in_braces ts (drop mark xs) ≡ whole (spanning kinds.Dict) ts (drop mark xs)
braces_none ts xs mark l = let e = drop_all mark xs l in rw e refl

pub braces_some : (ts : List Terminal) (xs : List Tree) (mark : ℕ) → mark < length xs
    → in_braces ts (drop mark xs)
    ≡ (if is_of_dict (get_or xs mark no_tree).node.kind then (if is_comprehension (drop mark xs) then whole (spanning kinds.DictComprehension) ts (drop mark xs) else whole (spanning kinds.Dict) ts (drop mark xs))
    else (if is_comprehension (drop mark xs) then whole (spanning kinds.SetComprehension) ts (drop mark xs) else whole (spanning kinds.Set) ts (drop mark xs)))
braces_some ts xs mark l = let e = drop_next xs mark l in rw e refl

pub star_none : (ts : List Terminal) (parts : List Tree) → length ts ≡ 0 → star_parameter ts parts ≡ []
star_none [] parts l = refl
star_none (t ∷ ts) parts l = absurd (omega arith)

pub star_one : (ts : List Terminal) (parts : List Tree) → length ts ≡ 1 → star_parameter ts parts ≡ whole (spanning kinds.KeywordOnlyMark) ts parts
star_one [] parts l = absurd (omega arith)
star_one (t ∷ []) parts l = refl
star_one (t ∷ u ∷ ts) parts l = absurd (omega arith)

pub star_more : (ts : List Terminal) (parts : List Tree) → 2 ≤ length ts → star_parameter ts parts ≡ whole (called kinds.StarParameter second_text) ts parts
star_more [] parts l = absurd (omega arith)
star_more (t ∷ []) parts l = absurd (omega arith)
star_more (t ∷ u ∷ ts) parts l = refl
