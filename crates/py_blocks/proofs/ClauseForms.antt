-- The clauses that may stand behind a header at its level.
use Rattle.std.proofs.Common.{◌≡◌, List, [], ◌∷◌, ◌++◌, Bool, true, false, ◌&&◌, ◌||◌, if◌then◌else◌, Option, Some, None, inl, inr, refl, ap, ◌∙◌}
use Rattle.tree_nodes.specs.declared.kind.Kind.{Kind}
use Rattle.tree_nodes.specs.declared.kind.Kind.TheVariants as kinds
use Rattle.tree_nodes.specs.Sorts.{Sort, sort_of, elif_clause, else_clause, handler, star_handler, finally_clause, case_clause, IsOf, only}
use Rattle.tree_nodes.specs.Shapes.{Part, a_row, Fits, FitsOneOf, one, maybe, many, some, sole, leaf}
use Rattle.py_grammar.specs.declared.head.Head.{Head}
use Rattle.py_grammar.specs.declared.head.Head.TheVariants as heads
use Rattle.py_blocks.specs.Heads.{is_clause, is_case, is_match, is_conditional, is_loop, is_opened_try, is_except, is_except_star, is_else, has_opener, kind_of}

-- behind the last of some clauses of a `try`
abbrev ends : List Part
ends = maybe (only else_clause) ++ maybe (only finally_clause)

-- the forms of the clauses behind a line of a kind, by its elder
abbrev pub forms_behind : Head → Option Head → List (List Part)
forms_behind heads.If elder = sole (many (only elif_clause) ++ maybe (only else_clause))
forms_behind heads.Elif elder = sole (many (only elif_clause) ++ maybe (only else_clause))
forms_behind heads.While elder = sole (maybe (only else_clause))
forms_behind heads.For elder = sole (maybe (only else_clause))
forms_behind heads.AsyncFor elder = sole (maybe (only else_clause))
forms_behind heads.Try elder = (some (only handler) ++ ends) ∷ (some (only star_handler) ++ ends) ∷ one (only finally_clause) ∷ []
forms_behind heads.Except elder = sole (many (only handler) ++ ends)
forms_behind heads.ExceptStar elder = sole (many (only star_handler) ++ ends)
forms_behind heads.Else (Some heads.Except) = sole (maybe (only finally_clause))
forms_behind heads.Else (Some heads.ExceptStar) = sole (maybe (only finally_clause))
forms_behind head elder = leaf

-- the same where there may be no such line
abbrev pub forms_from : Option Head → Option Head → List (List Part)
forms_from None older = leaf
forms_from (Some elder) older = forms_behind elder older

-- in the block of a `match` all lines are clauses
abbrev pub clause_forms : Option Head → Option Head → Option Head → List (List Part)
clause_forms above elder older = if is_match above then sole (many (only case_clause)) else forms_from elder older

-- one more in front
row_more : (sorts : List Sort) (parts : List Part) (kind : Kind) (ks : List Kind) → IsOf sorts kind → Fits (a_row sorts ∷ parts) ks → Fits (a_row sorts ∷ parts) (kind ∷ ks)
row_more sorts parts kind ks h k =
    let (front, back, e, of, fit) = k in
    (kind ∷ front, back, ap (λ (xs : List Kind). kind ∷ xs) e, (h, of), fit)

row_none : (sorts : List Sort) (parts : List Part) (ks : List Kind) → Fits parts ks → Fits (a_row sorts ∷ parts) ks
row_none sorts parts ks h = ([], ks, refl, tt, h)

pub sole_of : (form : List Part) (ks : List Kind) → FitsOneOf (form ∷ []) ks → Fits form ks
sole_of form ks h = elim h [ inl g ↦ g | inr g ↦ absurd g ]

-- ---- one clause more

elif_more : (elder older : Option Head) (ks : List Kind) → is_conditional elder ≡ true → FitsOneOf (forms_behind heads.Elif elder) ks → FitsOneOf (forms_from elder older) (kinds.Elif ∷ ks)
unfolding sort_of
elif_more None older ks e h = absurd cc
elif_more (Some heads.If) older ks e h = inl (row_more (only elif_clause) (maybe (only else_clause)) kinds.Elif ks (inl refl) (sole_of (many (only elif_clause) ++ maybe (only else_clause)) ks h))
elif_more (Some heads.Elif) older ks e h = inl (row_more (only elif_clause) (maybe (only else_clause)) kinds.Elif ks (inl refl) (sole_of (many (only elif_clause) ++ maybe (only else_clause)) ks h))
elif_more (Some head) older ks e h = absurd cc

else_more : (elder older : Option Head) (ks : List Kind) → (is_conditional elder || is_loop elder || is_except elder || is_except_star elder) ≡ true → FitsOneOf (forms_behind heads.Else elder) ks
    → FitsOneOf (forms_from elder older) (kinds.Else ∷ ks)
unfolding sort_of
else_more None older ks e h = absurd cc
else_more (Some heads.If) older ks e h = inl (row_none (only elif_clause) (maybe (only else_clause)) (kinds.Else ∷ ks) (inr (inl refl, sole_of [] ks h)))
else_more (Some heads.Elif) older ks e h = inl (row_none (only elif_clause) (maybe (only else_clause)) (kinds.Else ∷ ks) (inr (inl refl, sole_of [] ks h)))
else_more (Some heads.While) older ks e h = inl (inr (inl refl, sole_of [] ks h))
else_more (Some heads.For) older ks e h = inl (inr (inl refl, sole_of [] ks h))
else_more (Some heads.AsyncFor) older ks e h = inl (inr (inl refl, sole_of [] ks h))
else_more (Some heads.Except) older ks e h = inl (row_none (only handler) ends (kinds.Else ∷ ks) (inr (inl refl, sole_of (maybe (only finally_clause)) ks h)))
else_more (Some heads.ExceptStar) older ks e h = inl (row_none (only star_handler) ends (kinds.Else ∷ ks) (inr (inl refl, sole_of (maybe (only finally_clause)) ks h)))
else_more (Some head) older ks e h = absurd cc

except_more : (elder older : Option Head) (ks : List Kind) → (is_opened_try elder || is_except elder) ≡ true → FitsOneOf (forms_behind heads.Except elder) ks → FitsOneOf (forms_from elder older) (kinds.ExceptHandler ∷ ks)
unfolding sort_of
except_more None older ks e h = absurd cc
except_more (Some heads.Try) older ks e h = inl (inl refl, sole_of (many (only handler) ++ ends) ks h)
except_more (Some heads.Except) older ks e h = inl (row_more (only handler) ends kinds.ExceptHandler ks (inl refl) (sole_of (many (only handler) ++ ends) ks h))
except_more (Some head) older ks e h = absurd cc

star_more : (elder older : Option Head) (ks : List Kind) → (is_opened_try elder || is_except_star elder) ≡ true → FitsOneOf (forms_behind heads.ExceptStar elder) ks
    → FitsOneOf (forms_from elder older) (kinds.ExceptStarHandler ∷ ks)
unfolding sort_of
star_more None older ks e h = absurd cc
star_more (Some heads.Try) older ks e h = inr (inl (inl refl, sole_of (many (only star_handler) ++ ends) ks h))
star_more (Some heads.ExceptStar) older ks e h = inl (row_more (only star_handler) ends kinds.ExceptStarHandler ks (inl refl) (sole_of (many (only star_handler) ++ ends) ks h))
star_more (Some head) older ks e h = absurd cc

finally_more : (elder older : Option Head) (ks : List Kind) → (is_opened_try elder || is_except elder || is_except_star elder || (is_else elder && (is_except older || is_except_star older))) ≡ true
    → FitsOneOf (forms_behind heads.Finally elder) ks → FitsOneOf (forms_from elder older) (kinds.Finally ∷ ks)
unfolding sort_of
finally_more None older ks e h = absurd cc
finally_more (Some heads.Try) older ks e h = inr (inr (inl (inl refl, sole_of [] ks h)))
finally_more (Some heads.Except) older ks e h = inl (row_none (only handler) ends (kinds.Finally ∷ ks) (inl (inr (inl refl, sole_of [] ks h))))
finally_more (Some heads.ExceptStar) older ks e h = inl (row_none (only star_handler) ends (kinds.Finally ∷ ks) (inl (inr (inl refl, sole_of [] ks h))))
finally_more (Some heads.Else) None ks e h = absurd cc
finally_more (Some heads.Else) (Some heads.Except) ks e h = inl (inr (inl refl, sole_of [] ks h))
finally_more (Some heads.Else) (Some heads.ExceptStar) ks e h = inl (inr (inl refl, sole_of [] ks h))
finally_more (Some heads.Else) (Some head) ks e h = absurd cc
finally_more (Some head) older ks e h = absurd cc

outside_match : (head : Head) (elder older : Option Head) (ks : List Kind) → is_clause head ≡ true → is_case head ≡ false → has_opener head elder older ≡ true → FitsOneOf (forms_behind head elder) ks
    → FitsOneOf (forms_from elder older) (kind_of head ∷ ks)
outside_match heads.Elif elder older ks c n o h = elif_more elder older ks o h
outside_match heads.Else elder older ks c n o h = else_more elder older ks o h
outside_match heads.Except elder older ks c n o h = except_more elder older ks o h
outside_match heads.ExceptStar elder older ks c n o h = star_more elder older ks o h
outside_match heads.Finally elder older ks c n o h = finally_more elder older ks o h
outside_match head elder older ks c n o h = absurd cc

case_more : (head : Head) (ks : List Kind) → is_case head ≡ true → FitsOneOf (sole (many (only case_clause))) ks → FitsOneOf (sole (many (only case_clause))) (kind_of head ∷ ks)
unfolding sort_of
case_more heads.Case ks e h = inl (row_more (only case_clause) [] kinds.Case ks (inl refl) (sole_of (many (only case_clause)) ks h))
case_more head ks e h = absurd cc

-- a clause before those behind it
pub clause_more : (head : Head) (elder older above : Option Head) (ks : List Kind) → is_clause head ≡ true → has_opener head elder older ≡ true → is_match above ≡ is_case head → FitsOneOf (clause_forms above (Some head) elder) ks
    → FitsOneOf (clause_forms above elder older) (kind_of head ∷ ks)
clause_more head elder older above ks c o m h = by_test (is_match above) refl
  where
    by_test : (b : Bool) → is_match above ≡ b → FitsOneOf (clause_forms above elder older) (kind_of head ∷ ks)
    by_test true e =
        let there : FitsOneOf (sole (many (only case_clause))) ks = rw e at h in
        let case : is_case head ≡ true = cc in
        rw e (case_more head ks case there)
    by_test false e =
        let there : FitsOneOf (forms_behind head elder) ks = rw e at h in
        let other : is_case head ≡ false = cc in
        rw e (outside_match head elder older ks c other o there)

-- ---- no clause

none_from : (elder older : Option Head) → is_opened_try elder ≡ false → FitsOneOf (forms_from elder older) []
none_from None older e = inl refl
none_from (Some heads.Try) older e = absurd cc
none_from (Some heads.If) older e = inl (row_none (only elif_clause) (maybe (only else_clause)) [] refl)
none_from (Some heads.Elif) older e = inl (row_none (only elif_clause) (maybe (only else_clause)) [] refl)
none_from (Some heads.Except) older e = inl (row_none (only handler) ends [] refl)
none_from (Some heads.ExceptStar) older e = inl (row_none (only star_handler) ends [] refl)
none_from (Some heads.Else) None e = inl refl
none_from (Some heads.Else) (Some heads.Except) e = inl refl
none_from (Some heads.Else) (Some heads.ExceptStar) e = inl refl
none_from (Some heads.Else) (Some head) e = inl refl
none_from (Some head) older e = inl refl

pub no_clauses : (elder older above : Option Head) → is_opened_try elder ≡ false → FitsOneOf (clause_forms above elder older) []
no_clauses elder older above e = by_test (is_match above) refl
  where
    by_test : (b : Bool) → is_match above ≡ b → FitsOneOf (clause_forms above elder older) []
    by_test true f = rw f (inl (row_none (only case_clause) [] [] refl))
    by_test false f = rw f (none_from elder older e)

-- outside the block of a `match`
pub behind_line : (head : Head) (elder above : Option Head) (ks : List Kind) → is_match above ≡ false → FitsOneOf (clause_forms above (Some head) elder) ks → FitsOneOf (forms_behind head elder) ks
behind_line head elder above ks e h = rw e at h
