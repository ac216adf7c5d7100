-- The kids of a header's node: its parts, its statements, and the clauses behind it.
use Rattle.std.proofs.Common.{◌≡◌, List, [], ◌∷◌, ◌++◌, Bool, true, false, if◌then◌else◌, Option, Some, inl, inr, refl}
use Rattle.tree_nodes.specs.declared.kind.Kind.{Kind}
use Rattle.tree_nodes.specs.Sorts.{statement, elif_clause, else_clause, case_clause, decorator, with_item, annotation, as_name, pattern, only, expression, value, any_target}
use Rattle.tree_nodes.specs.Shapes.{Part, Fits, FitsOneOf, one, maybe, many, some, arguments, behind_parameters, before_each, documented, block, sole, leaf, shape}
use Rattle.py_language.proofs.KindLaws.{fits_append, fits_left, fits_right, fits_before, each_before, fits_behind}
use Rattle.py_grammar.specs.declared.head.Head.{Head}
use Rattle.py_grammar.specs.declared.head.Head.TheVariants as heads
use Rattle.py_grammar.specs.HeaderParts.{parts_of}
use Rattle.py_blocks.specs.Heads.{is_header, is_clause, is_definition, kind_of}
use Rattle.py_blocks.proofs.ClauseForms.{forms_behind, sole_of}

-- the forms of the parts of a line with its decorators
abbrev pub full_parts : Head → List (List Part)
full_parts head = if is_definition head then before_each (many (only decorator)) (parts_of head) else parts_of head

-- the forms of the statements behind a header
abbrev pub suite_forms : Head → List (List Part)
suite_forms heads.FunctionDef = documented ∷ block ∷ []
suite_forms heads.AsyncFunctionDef = documented ∷ block ∷ []
suite_forms heads.ClassDef = documented ∷ block ∷ []
suite_forms heads.Match = sole (some (only case_clause))
suite_forms head = sole block

module _ (xs ys zs : List Kind) where
  -- one form of each
  joined : (parts suite clauses : List Part) → FitsOneOf (parts ∷ []) xs → FitsOneOf (suite ∷ []) ys → FitsOneOf (clauses ∷ []) zs → FitsOneOf (sole ((parts ++ suite) ++ clauses)) ((xs ++ ys) ++ zs)
  joined parts suite clauses p s c =
      inl (fits_append (parts ++ suite) clauses (xs ++ ys) zs (fits_append parts suite xs ys (sole_of parts xs p) (sole_of suite ys s)) (sole_of clauses zs c))

  -- several forms of the parts, a body with a docstring or without, and no clauses
  abbrev with_body : List (List Part) → List (List Part)
  with_body forms = each_before (each_before forms documented) [] ++ each_before (each_before forms block) []

  defined : (forms : List (List Part)) → FitsOneOf forms xs → FitsOneOf (documented ∷ block ∷ []) ys → FitsOneOf leaf zs → FitsOneOf (with_body forms) ((xs ++ ys) ++ zs)
  defined forms p s c =
      let first = each_before (each_before forms documented) [] in
      let second = each_before (each_before forms block) [] in
      let none = sole_of [] zs c in
      elim s [
        | inl d ↦ fits_left first second ((xs ++ ys) ++ zs) (fits_behind (each_before forms documented) [] (xs ++ ys) zs (fits_behind forms documented xs ys p d) none)
        | inr g ↦ fits_right first second ((xs ++ ys) ++ zs) (fits_behind (each_before forms block) [] (xs ++ ys) zs (fits_behind forms block xs ys p (sole_of block ys g)) none)
      ]

  -- a statement with the clauses behind it
  pub statement_fits : (head : Head) (elder : Option Head) → is_header head ≡ true → is_clause head ≡ false → FitsOneOf (full_parts head) xs → FitsOneOf (suite_forms head) ys → FitsOneOf (forms_behind head elder) zs
      → FitsOneOf (shape (kind_of head)) ((xs ++ ys) ++ zs)
  unfolding shape
  statement_fits heads.If elder h n p s c = joined (one expression) block (many (only elif_clause) ++ maybe (only else_clause)) p s c
  statement_fits heads.While elder h n p s c = joined (one expression) block (maybe (only else_clause)) p s c
  statement_fits heads.For elder h n p s c = joined (one any_target ++ one value) block (maybe (only else_clause)) p s c
  statement_fits heads.AsyncFor elder h n p s c = joined (one any_target ++ one value) block (maybe (only else_clause)) p s c
  statement_fits heads.Try elder h n p s c = fits_before block (forms_behind heads.Try elder) (xs ++ ys) zs (fits_append [] block xs ys (sole_of [] xs p) (sole_of block ys s)) c
  statement_fits heads.With elder h n p s c = joined (some (only with_item)) block [] p s c
  statement_fits heads.AsyncWith elder h n p s c = joined (some (only with_item)) block [] p s c
  statement_fits heads.FunctionDef elder h n p s c = defined (full_parts heads.FunctionDef) p s c
  statement_fits heads.AsyncFunctionDef elder h n p s c = defined (full_parts heads.AsyncFunctionDef) p s c
  statement_fits heads.ClassDef elder h n p s c = defined (full_parts heads.ClassDef) p s c
  statement_fits heads.Match elder h n p s c = joined (one expression) (some (only case_clause)) [] p s c
  statement_fits head elder h n p s c = absurd cc

module _ (xs ys : List Kind) where
  alone : (parts : List Part) → FitsOneOf (parts ∷ []) xs → FitsOneOf (block ∷ []) ys → FitsOneOf (sole (parts ++ block)) (xs ++ ys)
  alone parts p s = inl (fits_append parts block xs ys (sole_of parts xs p) (sole_of block ys s))

  -- a clause
  pub clause_fits : (head : Head) → is_clause head ≡ true → FitsOneOf (full_parts head) xs → FitsOneOf (suite_forms head) ys → FitsOneOf (shape (kind_of head)) (xs ++ ys)
  unfolding shape
  clause_fits heads.Elif c p s = alone (one expression) p s
  clause_fits heads.Else c p s = alone [] p s
  clause_fits heads.Except c p s = fits_behind (parts_of heads.Except) block xs ys p (sole_of block ys s)
  clause_fits heads.ExceptStar c p s = alone (one expression ++ maybe (only as_name)) p s
  clause_fits heads.Finally c p s = alone [] p s
  clause_fits heads.Case c p s = alone (one (only pattern) ++ maybe expression) p s
  clause_fits head c p s = absurd cc
