-- What the lines of a level make is in shape.
use Rattle.std.proofs.Common.{◌≡◌, List, [], ◌∷◌, ◌++◌, Bool, true, false, ◌&&◌, if◌then◌else◌, Option, Some, None, inl, inr, refl, sym, ap, subst, ◌∙◌, is_some}
use Rattle.std.specs.Prelude.{IfSome, option_map}
use Rattle.std.proofs.lemmas.List.{append-nil}
use Rattle.tree_nodes.specs.declared.kind.Kind.{Kind}
use Rattle.tree_nodes.specs.declared.kind.Kind.TheVariants as kinds
use Rattle.tree_nodes.specs.Trees.{Node, Tree, Trees, none, tree, pack}
use Rattle.tree_nodes.specs.Sorts.{sort_of, statement, case_clause, docstring, AreOf, is_named, only}
use Rattle.tree_nodes.specs.Shapes.{Part, Fits, FitsOneOf, one, maybe, many, some, documented as documented_form, block as block_form, sole, leaf, shape}
use Rattle.tree_nodes.specs.Shaped.{kinds_of, HasShape, AreShaped}
use Rattle.py_language.proofs.KindLaws.{kinds_append, shaped_append, of_append, row_fits, fits_row}
use Rattle.py_grammar.specs.declared.head.Head.{Head}
use Rattle.py_grammar.specs.declared.head.Head.TheVariants as heads
use Rattle.py_grammar.specs.HeaderParts.{body_of}
use Rattle.py_blocks.specs.Docstrings.{docstring_at, docstring_of, statement_text, IsDocumented}
use Rattle.py_blocks.specs.Heads.{is_header, is_clause, is_case, is_decorator, is_definition, is_handling, is_match, is_opened_try, is_try, kind_of}
use Rattle.py_blocks.specs.Rows.{Row, is_empty, line_of}
use Rattle.py_blocks.specs.Statements.{Lines, none as no_lines, line, Level, nothing, all_of, documented, either, suite, parts, headed, end_of, with_simple, with_clause, with_statement, with_line, made_by}
use Rattle.py_blocks.proofs.ClauseForms.{forms_behind, clause_forms, sole_of, clause_more, no_clauses, behind_line}
use Rattle.py_blocks.proofs.NodeForms.{full_parts, suite_forms, statement_fits, clause_fits}
use Rattle.py_blocks.proofs.RightLines.{AreSome, AreDecorated, IsRight, AreRightLines}
use Rattle.py_blocks.proofs.RowForms.{IsFullRow, AreFull}

-- ---- docstrings

pub record IsDocstring (t : Tree) : Type 0 where
  pub kind : t.node.kind ≡ kinds.Docstring
  pub named : is_some t.node.name ≡ true
  pub kids : t.kids ≡ none

made-docstring : (node : Node) (text : Option (List _)) → IfSome (option_map (docstring_at node) text) IsDocstring
made-docstring node None = tt
made-docstring node (Some text) = record { kind = refl; named = refl; kids = refl }

pub docstring-is : (body : List Tree) → IfSome (docstring_of body) IsDocstring
docstring-is [] = tt
docstring-is (t ∷ body) = made-docstring t.node (statement_text t.node.kind t.kids)

pub either-is : (d e : Option Tree) → IfSome d IsDocstring → IfSome e IsDocstring → IfSome (either d e) IsDocstring
either-is None e h k = k
either-is (Some d) e h k = h

pub docstring-shaped : (t : Tree) (ts : List Tree) → IsDocstring t → AreShaped (pack ts) → AreShaped (pack (t ∷ ts))
unfolding shape is_named
docstring-shaped t ts h k =
    let kind = h.kind in
    let kids = h.kids in
    (record { fits = rw (kind, kids) (inl refl); named = rw kind h.named }, rw kids tt, k)

-- ---- lists that are not empty

abbrev pub HasSome : {X : Type 0} → List X → Type 0
HasSome [] = ⊥
HasSome (x ∷ xs) = Unit {0}

some-before : {X : Type 0} (xs ys : List X) → HasSome xs → HasSome (xs ++ ys)
some-before [] ys h = absurd h
some-before (x ∷ xs) ys h = tt

some-behind : {X : Type 0} (xs ys : List X) → HasSome ys → HasSome (xs ++ ys)
some-behind [] ys h = h
some-behind (x ∷ xs) ys h = tt

some-between : {X : Type 0} (xs ys zs : List X) → HasSome (xs ++ zs) → HasSome (xs ++ (ys ++ zs))
some-between [] ys zs h = some-behind ys zs h
some-between (x ∷ xs) ys zs h = tt

-- statements, at least one
pub a-block : (ks : List Kind) → HasSome ks → AreOf (only statement) ks → Fits block_form ks
a-block [] h k = absurd h
a-block (x ∷ xs) h k = (k.0, row_fits (only statement) xs k.1)

pub kinds-some : (ts : List Tree) → HasSome ts → HasSome (kinds_of (pack ts))
kinds-some [] h = h
kinds-some (t ∷ ts) h = tt

pub no-trees : (ts : List Tree) → kinds_of (pack ts) ≡ [] → ts ≡ []
no-trees [] e = refl
no-trees (t ∷ ts) e = absurd cc

-- ---- the statements of a line

pub body-statements : (head : Head) (ks : List Kind) → Fits (body_of head) ks → AreOf (only statement) ks
body-statements heads.Simple [] h = absurd h
body-statements heads.Simple (k ∷ ks) h = (h.0, fits_row (only statement) ks h.1)
body-statements heads.Decorator ks h = rw h tt
body-statements heads.Match ks h = rw h tt
body-statements head ks h = fits_row (only statement) ks h

-- ---- a level

pub record IsGood (elder older above : Option Head) (level : Level Tree) : Type 0 where
  pub clauses_shaped : AreShaped (pack level.clauses)
  pub clauses_fit : FitsOneOf (clause_forms above elder older) (kinds_of (pack level.clauses))
  pub statements_shaped : AreShaped (pack level.statements)
  pub statements_are : AreOf (only statement) (kinds_of (pack level.statements))
  pub all_clauses : is_match above ≡ true → level.statements ≡ []
  pub docstring_is : IfSome level.docstring IsDocstring

-- ---- a line makes something

simple-some : (row : Row Tree) (block behind : Level Tree) → is_header row.head ≡ false → Fits (body_of row.head) (kinds_of (pack row.body)) → (is_decorator row.head ≡ true → HasSome (all_of behind))
    → HasSome (all_of (with_simple row block behind))
simple-some row block behind e g d = by_head row.head e g d
  where
    body-some : (body : List Tree) → Fits (body_of heads.Simple) (kinds_of (pack body)) → HasSome body
    body-some [] h = absurd h
    body-some (t ∷ ts) h = tt

    by_head : (head : Head) → is_header head ≡ false → Fits (body_of head) (kinds_of (pack row.body)) → (is_decorator head ≡ true → HasSome (all_of behind)) → HasSome (all_of (with_simple row block behind))
    by_head heads.Simple e g d = some-behind behind.clauses (row.body ++ behind.statements) (some-before row.body behind.statements (body-some row.body g))
    by_head heads.Decorator e g d = some-between behind.clauses row.body behind.statements (d refl)
    by_head head e g d = absurd cc

line-some : (row : Row Tree) (block behind : Level Tree) → Fits (body_of row.head) (kinds_of (pack row.body)) → (is_decorator row.head ≡ true → HasSome (all_of behind)) → HasSome (all_of (with_line row block behind))
unfolding with_line
line-some row block behind g d = by_tests (is_header row.head) (is_clause row.head) refl refl
  where
    by_tests : (h c : Bool) → is_header row.head ≡ h → is_clause row.head ≡ c → HasSome (all_of (with_line row block behind))
    by_tests true true e f = rw (e, f) tt
    by_tests true false e f = rw (e, f) tt
    by_tests false c e f = rw e (simple-some row block behind e g d)

are-some : (lines : Lines) → AreDecorated lines → AreSome lines
are-some no_lines h = absurd h
are-some (line row block behind) h = tt

-- lines make something
pub makes-some : (lines : Lines) (elder older above : Option Head) → AreRightLines elder older above lines → AreFull lines → AreSome lines → HasSome (all_of (made_by lines))
makes-some no_lines elder older above r f s = absurd s
makes-some (line row block behind) elder older above r f s =
    line-some row (made_by block) (made_by behind) f.0.body_fits (λ d. makes-some behind (Some row.head) elder above r.2 f.2 (are-some behind (r.0.decorates d)))
