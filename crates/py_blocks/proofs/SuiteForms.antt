-- The statements of a header, and its node, are in shape.
use Rattle.std.proofs.Common.{◌≡◌, List, [], ◌∷◌, ◌++◌, Bool, true, false, ◌&&◌, if◌then◌else◌, Option, Some, None, inl, inr, refl, sym, ap, subst, ◌∙◌}
use Rattle.std.specs.Prelude.{IfSome}
use Rattle.std.proofs.lemmas.List.{append-nil}
use Rattle.tree_nodes.specs.declared.kind.Kind.{Kind}
use Rattle.tree_nodes.specs.Trees.{Node, Tree, pack}
use Rattle.tree_nodes.specs.Sorts.{sort_of, statement, case_clause, docstring, AreOf, only}
use Rattle.tree_nodes.specs.Shapes.{Part, Fits, FitsOneOf, many, some, documented as documented_form, block as block_form, sole, shape}
use Rattle.tree_nodes.specs.Shaped.{kinds_of, HasShape, AreShaped}
use Rattle.py_language.proofs.KindLaws.{kinds_append, shaped_append, row_fits, fits_row}
use Rattle.py_grammar.specs.declared.head.Head.{Head}
use Rattle.py_grammar.specs.declared.head.Head.TheVariants as heads
use Rattle.py_grammar.specs.HeaderParts.{body_of}
use Rattle.py_blocks.specs.Heads.{is_header, is_clause, is_definition, is_match, kind_of}
use Rattle.py_blocks.specs.Rows.{Row, is_empty, line_of}
use Rattle.py_blocks.specs.Statements.{Lines, none as no_lines, line, Level, nothing, all_of, documented, either, suite, parts, headed, made_by}
use Rattle.py_blocks.proofs.ClauseForms.{forms_behind, sole_of}
use Rattle.py_blocks.proofs.NodeForms.{full_parts, suite_forms, statement_fits, clause_fits}
use Rattle.py_blocks.proofs.RightLines.{AreSome}
use Rattle.py_blocks.proofs.RowForms.{IsFullRow}
use Rattle.py_blocks.proofs.LevelForms.{IsDocstring, docstring-is, either-is, docstring-shaped, HasSome, a-block, kinds-some, no-trees, body-statements, IsGood}

-- trees in shape, of one of some forms
pub record AreOneOf (forms : List (List Part)) (trees : List Tree) : Type 0 where
  pub shaped : AreShaped (pack trees)
  pub fit : FitsOneOf forms (kinds_of (pack trees))

-- the statements of a header, a docstring among them: those of a `match` are its clauses
abbrev plain_form : Head → List Part
plain_form head = if is_match (Some head) then some (only case_clause) else block_form

-- those of a block
some-cases : (ks : List Kind) → HasSome ks → Fits (many (only case_clause)) ks → Fits (some (only case_clause)) ks
some-cases [] h f = absurd h
some-cases (k ∷ ks) h f = let of = fits_row (only case_clause) (k ∷ ks) f in (of.0, row_fits (only case_clause) ks of.1)

block-level : (head : Head) (level : Level Tree) → IsGood None None (Some head) level → HasSome (all_of level) → AreOneOf (plain_form head ∷ []) (all_of level)
block-level head level g s = by_test (is_match (Some head)) refl
  where
    cases : level.statements ≡ [] → Fits (many (only case_clause)) (kinds_of (pack level.clauses)) → AreOneOf (some (only case_clause) ∷ []) (all_of level)
    cases e f =
        let same : all_of level ≡ level.clauses = ap (λ (ts : List Tree). level.clauses ++ ts) e ∙ append-nil level.clauses in
        let there = subst (λ (ts : List Tree). HasSome ts) same s in
        subst (λ (ts : List Tree). AreOneOf (some (only case_clause) ∷ []) ts) (sym same)
        (record { shaped = g.clauses_shaped; fit = inl (some-cases (kinds_of (pack level.clauses)) (kinds-some level.clauses there) f) })

    statements : level.clauses ≡ [] → AreOneOf (block_form ∷ []) (all_of level)
    statements e =
        let same : all_of level ≡ level.statements = ap (λ (ts : List Tree). ts ++ level.statements) e in
        let there = subst (λ (ts : List Tree). HasSome ts) same s in
        subst (λ (ts : List Tree). AreOneOf (block_form ∷ []) ts) (sym same)
        (record { shaped = g.statements_shaped; fit = inl (a-block (kinds_of (pack level.statements)) (kinds-some level.statements there) g.statements_are) })

    by_test : (b : Bool) → is_match (Some head) ≡ b → AreOneOf (plain_form head ∷ []) (all_of level)
    by_test true e =
        let fit : FitsOneOf (sole (many (only case_clause))) (kinds_of (pack level.clauses)) = let f = g.clauses_fit in rw e at f in
        rw e (cases (g.all_clauses e) (sole_of (many (only case_clause)) (kinds_of (pack level.clauses)) fit))
    by_test false e =
        let fit : FitsOneOf (sole []) (kinds_of (pack level.clauses)) = let f = g.clauses_fit in rw e at f in
        rw e (statements (no-trees level.clauses (sole_of [] (kinds_of (pack level.clauses)) fit)))

-- those behind the `:`
same-line : (head : Head) (body : List Tree) → is_header head ≡ true → is_empty body ≡ false → AreShaped (pack body) → Fits (body_of head) (kinds_of (pack body)) → AreOneOf (plain_form head ∷ []) body
same-line head [] h e s f = absurd cc
same-line head (t ∷ ts) h e s f = record { shaped = s; fit = inl (by_head head h f) }
  where
    by_head : (head : Head) → is_header head ≡ true → Fits (body_of head) (kinds_of (pack (t ∷ ts))) → Fits (plain_form head) (kinds_of (pack (t ∷ ts)))
    by_head heads.Simple h f = absurd cc
    by_head heads.Decorator h f = absurd cc
    by_head heads.Match h f = absurd cc
    by_head head h f = a-block (kinds_of (pack (t ∷ ts))) tt (fits_row (only statement) (kinds_of (pack (t ∷ ts))) f)

-- a line with its block
pub record HasBlock (row : Row Tree) (block : Lines) : Type 0 where
  pub made : IsGood None None (Some row.head) (made_by block)
  pub has : (line_of row).is_open ≡ true → HasSome (all_of (made_by block))
  pub has_none : (line_of row).is_open ≡ false → block ≡ no_lines

plain-suite : (row : Row Tree) (block : Lines) → IsFullRow row → is_header row.head ≡ true → HasBlock row block → AreOneOf (plain_form row.head ∷ []) (row.body ++ all_of (made_by block))
plain-suite row block f h b = by_test (is_empty row.body) refl
  where
    empty-is : (body : List Tree) → is_empty body ≡ true → body ≡ []
    empty-is [] e = refl
    empty-is (t ∷ ts) e = absurd cc

    by_test : (e : Bool) → is_empty row.body ≡ e → AreOneOf (plain_form row.head ∷ []) (row.body ++ all_of (made_by block))
    by_test true e =
        subst (λ (ts : List Tree). AreOneOf (plain_form row.head ∷ []) (ts ++ all_of (made_by block))) (sym (empty-is row.body e)) (block-level row.head (made_by block) b.made (b.has (rw (h, e) refl)))
    by_test false e =
        let none_is : block ≡ no_lines = b.has_none (rw (h, e) refl) in
        subst (λ (ls : Lines). AreOneOf (plain_form row.head ∷ []) (row.body ++ all_of (made_by ls))) (sym none_is)
        (subst (λ (ts : List Tree). AreOneOf (plain_form row.head ∷ []) ts) (sym (append-nil row.body)) (same-line row.head row.body h e f.body_shaped f.body_fits))

-- with a docstring
documented-suite : (d : Option Tree) (ts : List Tree) → IfSome d IsDocstring → AreOneOf (block_form ∷ []) ts → AreOneOf (documented_form ∷ block_form ∷ []) (documented d ts)
unfolding sort_of
documented-suite None ts h k = record { shaped = k.shaped; fit = inr k.fit }
documented-suite (Some d) [] h k = absurd (sole_of block_form [] k.fit)
documented-suite (Some d) (t ∷ ts) h k =
    let kind = h.kind in
    let fit = sole_of block_form (kinds_of (pack (t ∷ ts))) k.fit in
    record { shaped = docstring-shaped d ts h k.shaped.2; fit = rw kind (inl (inl refl, fit.1)) }

-- the statements of a header
pub suite-fits : (row : Row Tree) (block : Lines) → IsFullRow row → is_header row.head ≡ true → HasBlock row block → AreOneOf (suite_forms row.head) (suite row (made_by block))
suite-fits row block f h b = by_test (is_definition row.head) refl
  where
    definition : (head : Head) → is_definition head ≡ true → AreOneOf (plain_form head ∷ []) (row.body ++ all_of (made_by block))
        → AreOneOf (suite_forms head) (documented (either row.docstring (made_by block).docstring) (row.body ++ all_of (made_by block)))
    definition heads.FunctionDef e k = documented-suite (either row.docstring (made_by block).docstring) (row.body ++ all_of (made_by block)) (either-is row.docstring (made_by block).docstring (subst (λ (d : Option Tree). IfSome d IsDocstring) (sym f.documented) (docstring-is row.body)) b.made.docstring_is) k
    definition heads.AsyncFunctionDef e k = documented-suite (either row.docstring (made_by block).docstring) (row.body ++ all_of (made_by block)) (either-is row.docstring (made_by block).docstring (subst (λ (d : Option Tree). IfSome d IsDocstring) (sym f.documented) (docstring-is row.body)) b.made.docstring_is) k
    definition heads.ClassDef e k = documented-suite (either row.docstring (made_by block).docstring) (row.body ++ all_of (made_by block)) (either-is row.docstring (made_by block).docstring (subst (λ (d : Option Tree). IfSome d IsDocstring) (sym f.documented) (docstring-is row.body)) b.made.docstring_is) k
    definition head e k = absurd cc

    other : (head : Head) → is_definition head ≡ false → AreOneOf (plain_form head ∷ []) (row.body ++ all_of (made_by block)) → AreOneOf (suite_forms head) (row.body ++ all_of (made_by block))
    other heads.FunctionDef e k = absurd cc
    other heads.AsyncFunctionDef e k = absurd cc
    other heads.ClassDef e k = absurd cc
    other heads.Match e k = k
    other head e k = k

    by_test : (d : Bool) → is_definition row.head ≡ d → AreOneOf (suite_forms row.head) (suite row (made_by block))
    by_test true e = rw e (definition row.head e (plain-suite row block f h b))
    by_test false e = rw e (other row.head e (plain-suite row block f h b))
