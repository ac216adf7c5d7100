-- Small programs, and the scope in which each node stands. Expected values
-- are those of Python's `symtable` and `ast`; tools/scope_choice.py writes this file.
use Rattle.tree_nodes.specs.declared.kind.Kind.TheVariants as kinds
use Rattle.std.specs.Prelude.{◌≡◌, [], ◌∷◌, map, codes}
use Rattle.tree_nodes.specs.Trees.{none, tree, Tree}
use Rattle.scope_rules.specs.Places.{around}
use Rattle.scope_rows.specs.Questions.{plain, named}

-- class C:
--     "doc"
--     pass
--     break
--     continue
--     return
abbrev pub program1 : Tree
program1 = record { node = plain kinds.Module; kids = (tree (named kinds.ClassDef (codes "C")) (tree (named kinds.Docstring (codes "'doc'")) none (tree (plain kinds.Pass) none (tree (plain kinds.Break) none (tree (plain kinds.Continue) none (tree (plain kinds.Return) none none))))) none) }

abbrev pub Row1 : Type 0
Row1 = map (around program1) (0 ∷ 1 ∷ 2 ∷ 3 ∷ 4 ∷ 5 ∷ 6 ∷ []) ≡ 0 ∷ 0 ∷ 1 ∷ 1 ∷ 1 ∷ 1 ∷ 1 ∷ []

-- class C:
--     a += b
--     c: d
--     e
--     raise f
--     assert g
abbrev pub program2 : Tree
program2 = record { node = plain kinds.Module; kids = (tree (named kinds.ClassDef (codes "C")) (tree (plain kinds.AugAssign) (tree (named kinds.NameTarget (codes "a")) none (tree (plain kinds.Add) none (tree (named kinds.Name (codes "b")) none none))) (tree (plain kinds.AnnAssign) (tree (named kinds.NameTarget (codes "c")) none (tree (plain kinds.Annotation) (tree (named kinds.Name (codes "d")) none none) none)) (tree (plain kinds.ExpressionStatement) (tree (named kinds.Name (codes "e")) none none) (tree (plain kinds.Raise) (tree (named kinds.Name (codes "f")) none none) (tree (plain kinds.Assert) (tree (named kinds.Name (codes "g")) none none) none))))) none) }

abbrev pub Row2 : Type 0
Row2 = map (around program2) (0 ∷ 1 ∷ 2 ∷ 3 ∷ 4 ∷ 5 ∷ 6 ∷ 7 ∷ 8 ∷ 9 ∷ 10 ∷ 11 ∷ 12 ∷ 13 ∷ 14 ∷ 15 ∷ []) ≡ 0 ∷ 0 ∷ 1 ∷ 1 ∷ 1 ∷ 1 ∷ 1 ∷ 1 ∷ 1 ∷ 1 ∷ 1 ∷ 1 ∷ 1 ∷ 1 ∷ 1 ∷ 1 ∷ []

-- class C:
--     if a:
--         pass
--     while b:
--         pass
--     for c in d:
--         pass
abbrev pub program5 : Tree
program5 = record { node = plain kinds.Module; kids = (tree (named kinds.ClassDef (codes "C")) (tree (plain kinds.If) (tree (named kinds.Name (codes "a")) none (tree (plain kinds.Pass) none none)) (tree (plain kinds.While) (tree (named kinds.Name (codes "b")) none (tree (plain kinds.Pass) none none)) (tree (plain kinds.For) (tree (named kinds.NameTarget (codes "c")) none (tree (named kinds.Name (codes "d")) none (tree (plain kinds.Pass) none none))) none))) none) }

abbrev pub Row5 : Type 0
Row5 = map (around program5) (0 ∷ 1 ∷ 2 ∷ 3 ∷ 4 ∷ 5 ∷ 6 ∷ 7 ∷ 8 ∷ 9 ∷ 10 ∷ 11 ∷ []) ≡ 0 ∷ 0 ∷ 1 ∷ 1 ∷ 1 ∷ 1 ∷ 1 ∷ 1 ∷ 1 ∷ 1 ∷ 1 ∷ 1 ∷ []

-- all of them
pub record PlacesHold : Type 0 where
  pub row1 : Row1
  pub row2 : Row2
  pub row5 : Row5
