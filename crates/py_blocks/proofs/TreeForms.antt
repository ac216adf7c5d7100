-- The tree of rows in shape is in shape.
use Rattle.std.proofs.Common.{◌≡◌, List, [], ◌∷◌, ◌++◌, Bool, true, false, ◌&&◌, if◌then◌else◌, map, Option, Some, None, inl, inr, refl, sym, ap, subst, ◌∙◌}
use Rattle.std.specs.Prelude.{All, IfSome}
use Rattle.std.proofs.lemmas.List.{append-nil}
use Rattle.tree_nodes.specs.declared.kind.Kind.{Kind}
use Rattle.tree_nodes.specs.declared.kind.Kind.TheVariants as kinds
use Rattle.tree_nodes.specs.Trees.{Node, Tree, pack}
use Rattle.tree_nodes.specs.Sorts.{sort_of, statement, docstring, AreOf, is_named, only}
use Rattle.tree_nodes.specs.Shapes.{Part, Fits, FitsOneOf, maybe, many, sole, shape}
use Rattle.tree_nodes.specs.Shaped.{kinds_of, HasShape, AreShaped, IsShaped}
use Rattle.py_language.proofs.KindLaws.{kinds_append, shaped_append, of_append, row_fits}
use Rattle.py_grammar.specs.declared.head.Head.{Head}
use Rattle.py_grammar.specs.declared.head.Head.TheVariants as heads
use Rattle.py_blocks.specs.declared.line.Line.{Line}
use Rattle.py_blocks.specs.Heads.{is_header, is_clause, is_case, is_handling, is_match, is_opened_try, is_try, kind_of}
use Rattle.py_blocks.specs.Rows.{Row, line_of}
use Rattle.py_blocks.specs.RowShapes.{IsRowShaped}
use Rattle.py_blocks.specs.Rules.{first_fault}
use Rattle.py_blocks.specs.Spelling.{Spells}
use Rattle.py_blocks.specs.Statements.{Lines, none as no_lines, line, Level, nothing, all_of, documented, all_decorated, decorated, gathered, suite, parts, headed, end_of, with_simple, with_clause, with_statement, with_line, made_by, module_over}
use Rattle.py_blocks.proofs.ClauseForms.{forms_behind, clause_forms, sole_of, clause_more, no_clauses, behind_line}
use Rattle.py_blocks.proofs.FaultLaws.{none-found}
use Rattle.py_blocks.proofs.LevelForms.{IsDocstring, docstring-is, docstring-shaped, HasSome, no-trees, body-statements, makes-some, IsGood}
use Rattle.py_blocks.proofs.NodeForms.{statement_fits, clause_fits}
use Rattle.py_blocks.proofs.RightLines.{AreSome, IsRight, AreRightLines, seen}
use Rattle.py_blocks.proofs.RightNests.{right-lines}
use Rattle.py_blocks.proofs.RowForms.{IsFullRow, AreFull, rows-full}
use Rattle.py_blocks.proofs.SuiteForms.{AreOneOf, HasBlock, suite-fits}

-- ---- kinds of lines

try-opened : (head : Head) → is_opened_try (Some head) ≡ true → is_try head ≡ true
try-opened heads.Try e = refl
try-opened head e = absurd cc

no-clause-no-case : (head : Head) → is_clause head ≡ false → is_case head ≡ false
no-clause-no-case heads.Case e = absurd cc
no-clause-no-case head e = refl

handling-is-clause : (head : Head) → is_handling head ≡ true → is_clause head ≡ true
handling-is-clause heads.Except e = refl
handling-is-clause heads.ExceptStar e = refl
handling-is-clause heads.Finally e = refl
handling-is-clause head e = absurd cc

simple-has-none : (head : Head) (elder : Option Head) (ks : List Kind) → is_header head ≡ false → FitsOneOf (forms_behind head elder) ks → ks ≡ []
simple-has-none heads.Simple elder ks e f = sole_of [] ks f
simple-has-none heads.Decorator elder ks e f = sole_of [] ks f
simple-has-none head elder ks e f = absurd cc

simple-is-no-clause : (head : Head) → is_header head ≡ false → is_clause head ≡ false
simple-is-no-clause heads.Simple e = refl
simple-is-no-clause heads.Decorator e = refl
simple-is-no-clause head e = absurd cc

clause-kind : (head : Head) → is_header head ≡ true → is_clause head ≡ false → AreOf (only statement) (kind_of head ∷ [])
unfolding sort_of
clause-kind heads.If e f = (inl refl, tt)
clause-kind heads.While e f = (inl refl, tt)
clause-kind heads.For e f = (inl refl, tt)
clause-kind heads.AsyncFor e f = (inl refl, tt)
clause-kind heads.Try e f = (inl refl, tt)
clause-kind heads.With e f = (inl refl, tt)
clause-kind heads.AsyncWith e f = (inl refl, tt)
clause-kind heads.FunctionDef e f = (inl refl, tt)
clause-kind heads.AsyncFunctionDef e f = (inl refl, tt)
clause-kind heads.ClassDef e f = (inl refl, tt)
clause-kind heads.Match e f = (inl refl, tt)
clause-kind head e f = absurd cc

-- ---- a line with its block and what is behind

module _ (elder older above : Option Head) (row : Row Tree) (block behind : Lines) (r : IsRight elder older above row block behind) (f : IsFullRow row) where
  -- outside a `match`, and behind no `try`
  record IsPlain : Type 0 where
    outside : is_match above ≡ false
    settled : is_opened_try elder ≡ false

  plain : is_clause row.head ≡ false → IsPlain
  plain e = record { outside = r.in_match ∙ no-clause-no-case row.head e; settled = by_test (is_opened_try elder) refl }
    where
      by_test : (b : Bool) → is_opened_try elder ≡ b → is_opened_try elder ≡ false
      by_test false g = g
      by_test true g = let clause : is_clause row.head ≡ true = handling-is-clause row.head (r.handled g) in absurd cc

  module _ (inside : HasBlock row block) (beside : IsGood (Some row.head) elder above (made_by behind)) where
    clause-good : is_header row.head ≡ true → is_clause row.head ≡ true → IsGood elder older above (with_clause row (made_by block) (made_by behind))
    clause-good h c =
        let s = suite-fits row block f h inside in
        record {
          clauses_shaped = (
            record {
              fits = subst (λ (ks : List Kind). FitsOneOf (shape (kind_of row.head)) ks) (sym (kinds_append row.nodes (suite row (made_by block)))) (clause_fits (kinds_of (pack row.nodes)) (kinds_of (pack (suite row (made_by block)))) row.head c f.nodes_fit s.fit);
              named = f.named;
            },
            shaped_append row.nodes (suite row (made_by block)) f.nodes_shaped s.shaped,
            beside.clauses_shaped,
          );
          clauses_fit = clause_more row.head elder older above (kinds_of (pack (made_by behind).clauses)) c r.opener r.in_match beside.clauses_fit;
          statements_shaped = beside.statements_shaped;
          statements_are = beside.statements_are;
          all_clauses = beside.all_clauses;
          docstring_is = tt;
        }

    statement-good : is_header row.head ≡ true → is_clause row.head ≡ false → IsGood elder older above (with_statement row (made_by block) (made_by behind))
    statement-good h c =
        let s = suite-fits row block f h inside in
        let p = plain c in
        let outside = p.outside in
        let front = row.nodes ++ suite row (made_by block) in
        let clauses = (made_by behind).clauses in
        let behind_it = behind_line row.head elder above (kinds_of (pack clauses)) p.outside beside.clauses_fit in
        let kinds_are : kinds_of (pack (front ++ clauses)) ≡ (kinds_of (pack row.nodes) ++ kinds_of (pack (suite row (made_by block)))) ++ kinds_of (pack clauses) =
        kinds_append front clauses ∙ ap (λ (ks : List Kind). ks ++ kinds_of (pack clauses)) (kinds_append row.nodes (suite row (made_by block))) in
        record {
          clauses_shaped = tt;
          clauses_fit = no_clauses elder older above p.settled;
          statements_shaped = (
            record {
              fits = subst (λ (ks : List Kind). FitsOneOf (shape (kind_of row.head)) ks) (sym kinds_are)
                  (statement_fits (kinds_of (pack row.nodes)) (kinds_of (pack (suite row (made_by block)))) (kinds_of (pack clauses)) row.head elder h c f.nodes_fit s.fit behind_it);
              named = f.named;
            },
            shaped_append front clauses (shaped_append row.nodes (suite row (made_by block)) f.nodes_shaped s.shaped) beside.clauses_shaped,
            beside.statements_shaped,
          );
          statements_are = ((clause-kind row.head h c).0, beside.statements_are);
          all_clauses = λ m. absurd (cc);
          docstring_is = tt;
        }

    simple-good : is_header row.head ≡ false → IsGood elder older above (with_simple row (made_by block) (made_by behind))
    simple-good h =
        let p = plain (simple-is-no-clause row.head h) in
        let outside = p.outside in
        let clauses = (made_by behind).clauses in
        let none_is : kinds_of (pack clauses) ≡ [] = simple-has-none row.head elder (kinds_of (pack clauses)) h (behind_line row.head elder above (kinds_of (pack clauses)) p.outside beside.clauses_fit) in
        record {
          clauses_shaped = beside.clauses_shaped;
          clauses_fit = subst (λ (ks : List Kind). FitsOneOf (clause_forms above elder older) ks) (sym none_is) (no_clauses elder older above p.settled);
          statements_shaped = shaped_append row.body (made_by behind).statements f.body_shaped beside.statements_shaped;
          statements_are = subst (λ (ks : List Kind). AreOf (only statement) ks) (sym (kinds_append row.body (made_by behind).statements))
              (of_append (only statement) (kinds_of (pack row.body)) (kinds_of (pack (made_by behind).statements)) (body-statements row.head (kinds_of (pack row.body)) f.body_fits) beside.statements_are);
          all_clauses = λ m. absurd (cc);
          docstring_is = subst (λ (d : Option Tree). IfSome d IsDocstring) (sym f.documented) (docstring-is row.body);
        }

    line-good : IsGood elder older above (with_line row (made_by block) (made_by behind))
    unfolding with_line
    line-good = by_tests (is_header row.head) (is_clause row.head) refl refl
      where
        by_tests : (h c : Bool) → is_header row.head ≡ h → is_clause row.head ≡ c → IsGood elder older above (with_line row (made_by block) (made_by behind))
        by_tests true true e g = rw (e, g) (clause-good e g)
        by_tests true false e g = rw (e, g) (statement-good e g)
        by_tests false c e g = rw e (simple-good e)

-- ---- all lines

good : (lines : Lines) (elder older above : Option Head) → AreRightLines elder older above lines → AreFull lines → (is_opened_try elder ≡ true → AreSome lines) → IsGood elder older above (made_by lines)
good no_lines elder older above r f t = record {
  clauses_shaped = tt;
  clauses_fit = no_clauses elder older above (settled (is_opened_try elder) t);
  statements_shaped = tt;
  statements_are = tt;
  all_clauses = λ m. refl;
  docstring_is = tt;
}
  where
    settled : (b : Bool) → (b ≡ true → ⊥) → b ≡ false
    settled false h = refl
    settled true h = absurd (h refl)
good (line row block behind) elder older above r f t =
    line-good elder older above row block behind r.0 f.0
    (record { made = good block None None (Some row.head) r.1 f.1 (λ e. absurd cc); has = λ o. makes-some block None None (Some row.head) r.1 f.1 (r.0.has_block o); has_none = r.0.no_block })
    (good behind (Some row.head) elder above r.2 f.2 (λ e. r.0.tried (try-opened row.head e)))

-- ---- the root

abbrev AreRootKids : List Tree → Type 0
AreRootKids ts = AreShaped (pack ts) × Fits (maybe (only docstring) ++ many (only statement)) (kinds_of (pack ts))

root-shaped : (d : Option Tree) (ts : List Tree) → IfSome d IsDocstring → AreShaped (pack ts) → AreOf (only statement) (kinds_of (pack ts)) → AreRootKids (documented d ts)
unfolding sort_of
root-shaped None [] h s o = (tt, row_fits (only statement) [] tt)
root-shaped None (t ∷ ts) h s o = (s, inl (row_fits (only statement) (kinds_of (pack (t ∷ ts))) o))
root-shaped (Some d) [] h s o = let kind = h.kind in (docstring-shaped d [] h tt, rw kind (inr (inl refl, row_fits (only statement) [] tt)))
root-shaped (Some d) (t ∷ ts) h s o = let kind = h.kind in (docstring-shaped d ts h s.2, rw kind (inr (inl refl, row_fits (only statement) (kinds_of (pack ts)) o.1)))

module-shaped : (level : Level Tree) → IsGood None None None level → IsShaped (module_over level)
unfolding shape is_named
module-shaped level g =
    let none_is : level.clauses ≡ [] = no-trees level.clauses (sole_of [] (kinds_of (pack level.clauses)) g.clauses_fit) in
    let kids = root-shaped level.docstring level.statements g.docstring_is g.statements_shaped g.statements_are in
    let root : AreRootKids (documented level.docstring (all_of level)) = subst (λ (ts : List Tree). AreRootKids (documented level.docstring (ts ++ level.statements))) (sym none_is) kids in
    record { root = refl; node = record { fits = inl root.1; named = refl }; below = root.0 }

-- ---- of a file

seen-decorated : (before rows : List (Row Tree)) → map line_of (all_decorated before rows) ≡ map line_of rows
seen-decorated before [] = refl
seen-decorated before (row ∷ rows) = ap (λ (ls : List Line). line_of row ∷ ls) (seen-decorated (row ∷ before) rows)

pub tree-shaped : (rows : List (Row Tree)) (tree : Tree) → All IsRowShaped rows → Spells rows tree → IsShaped tree
tree-shaped rows tree h s =
    let order : seen s.lines ≡ map line_of rows = ap (map line_of) (sym s.in_order) ∙ seen-decorated [] rows in
    let free : first_fault true (seen s.lines) ≡ None = ap (first_fault true) order ∙ none-found true (map line_of rows) s.right in
    let level = good s.lines None None None (right-lines s.lines s.at_levels free) (rows-full rows s.lines s.in_order h) (λ e. absurd cc) in
    subst IsShaped (sym s.tree_is) (module-shaped (made_by s.lines) level)
