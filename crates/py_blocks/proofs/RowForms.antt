-- Rows in shape, with their decorators.
use Rattle.std.proofs.Common.{◌≡◌, ℕ, zero, suc, ◌<◌, List, [], ◌∷◌, ◌++◌, Bool, true, false, if◌then◌else◌, length, Option, Some, None, inl, inr, refl, sym, ap, subst, arith, is_some}
use Rattle.std.specs.Prelude.{All, IfSome, option_map}
use Rattle.std.proofs.lemmas.List.Elements.{All-tail}
use Rattle.tree_nodes.specs.declared.kind.Kind.{Kind}
use Rattle.tree_nodes.specs.declared.kind.Kind.TheVariants as kinds
use Rattle.tree_nodes.specs.Trees.{Tree, Trees, none, pack}
use Rattle.tree_nodes.specs.Sorts.{decorator, AreOf, is_named, only}
use Rattle.tree_nodes.specs.Shapes.{Part, Fits, FitsOneOf, one, many, before_each}
use Rattle.tree_nodes.specs.Shaped.{kinds_of, AreShaped}
use Rattle.py_language.proofs.KindLaws.{kinds_append, shaped_append, of_append, row_fits, fits_single, fits_before}
use Rattle.py_grammar.specs.declared.head.Head.{Head}
use Rattle.py_grammar.specs.declared.head.Head.TheVariants as heads
use Rattle.py_grammar.specs.HeaderParts.{parts_of, body_of}
use Rattle.py_blocks.specs.Docstrings.{IsDocumented}
use Rattle.py_blocks.specs.Heads.{is_decorator, is_definition, kind_of}
use Rattle.py_blocks.specs.Rows.{Row}
use Rattle.py_blocks.specs.RowShapes.{IsRowShaped}
use Rattle.py_blocks.specs.Statements.{Lines, none as no_lines, line, flat, gathered, decorated, all_decorated}
use Rattle.py_blocks.proofs.ClauseForms.{sole_of}
use Rattle.py_blocks.proofs.NodeForms.{full_parts}

-- a row whose parts begin with its decorators
pub record IsFullRow (row : Row Tree) : Type 0 where
  pub nodes_shaped : AreShaped (pack row.nodes)
  pub nodes_fit : FitsOneOf (full_parts row.head) (kinds_of (pack row.nodes))
  pub body_shaped : AreShaped (pack row.body)
  pub body_fits : Fits (body_of row.head) (kinds_of (pack row.body))
  pub named : is_some row.name ≡ is_named (kind_of row.head)
  pub documented : IsDocumented row

-- each row of some lines
abbrev pub AreFull : Lines → Type 0
AreFull no_lines = Unit {0}
AreFull (line row block behind) = IsFullRow row × AreFull block × AreFull behind

abbrev AllFull : List (Row Tree) → Type 0
AllFull [] = Unit {0}
AllFull (row ∷ rows) = IsFullRow row × AllFull rows

abbrev AllShaped : List (Row Tree) → Type 0
AllShaped [] = Unit {0}
AllShaped (row ∷ rows) = IsRowShaped row × AllShaped rows

-- ---- decorators

-- trees that are decorators in shape
record AreDecorators (trees : List Tree) : Type 0 where
  shaped : AreShaped (pack trees)
  of : AreOf (only decorator) (kinds_of (pack trees))

some-or-none : (b : Bool) (trees : List Tree) → (b ≡ true → AreDecorators trees) → AreDecorators (if b then trees else [])
some-or-none true trees h = h refl
some-or-none false trees h = record { shaped = tt; of = tt }

row-decorators : (row : Row Tree) → IsRowShaped row → is_decorator row.head ≡ true → AreDecorators row.nodes
row-decorators row h d = record { shaped = h.line.nodes_shaped; of = go row.head d h.line.nodes_fit }
  where
    go : (head : Head) → is_decorator head ≡ true → FitsOneOf (parts_of head) (kinds_of (pack row.nodes)) → AreOf (only decorator) (kinds_of (pack row.nodes))
    go heads.Decorator e f = fits_single (only decorator) (kinds_of (pack row.nodes)) (sole_of (one (only decorator)) (kinds_of (pack row.nodes)) f)
    go head e f = absurd cc

gathered-are : (before : List (Row Tree)) → AllShaped before → AreDecorators (gathered before)
gathered-are [] h = record { shaped = tt; of = tt }
gathered-are (row ∷ before) h =
    let others = gathered-are before h.1 in
    some-or-none (is_decorator row.head) (gathered before ++ row.nodes) (λ d.
    let here = row-decorators row h.0 d in
    record {
      shaped = shaped_append (gathered before) row.nodes others.shaped here.shaped;
      of = subst (λ (ks : List Kind). AreOf (only decorator) ks) (sym (kinds_append (gathered before) row.nodes)) (of_append (only decorator) (kinds_of (pack (gathered before))) (kinds_of (pack row.nodes)) others.of here.of);
    })

-- parts that fit, where there may be decorators before them
abbrev Fitting : Head → List Tree → List Tree → Bool → Type 0
Fitting head decorators nodes b =
    AreShaped (pack ((if b then decorators else []) ++ nodes))
    × FitsOneOf (if b then before_each (many (only decorator)) (parts_of head) else parts_of head) (kinds_of (pack ((if b then decorators else []) ++ nodes)))

fitting : (head : Head) (decorators nodes : List Tree) → AreDecorators decorators → AreShaped (pack nodes) → FitsOneOf (parts_of head) (kinds_of (pack nodes)) → (b : Bool) → Fitting head decorators nodes b
fitting head decorators nodes d s f false = (s, f)
fitting head decorators nodes d s f true = (
  shaped_append decorators nodes d.shaped s,
  subst (λ (ks : List Kind). FitsOneOf (before_each (many (only decorator)) (parts_of head)) ks) (sym (kinds_append decorators nodes))
      (fits_before (many (only decorator)) (parts_of head) (kinds_of (pack decorators)) (kinds_of (pack nodes)) (row_fits (only decorator) (kinds_of (pack decorators)) d.of) f),
)

full-row : (decorators : List Tree) (row : Row Tree) → AreDecorators decorators → IsRowShaped row → IsFullRow (decorated decorators row)
full-row decorators row d h =
    let parts = fitting row.head decorators row.nodes d h.line.nodes_shaped h.line.nodes_fit (is_definition row.head) in
    record { nodes_shaped = parts.0; nodes_fit = parts.1; body_shaped = h.line.body_shaped; body_fits = h.line.body_fits; named = h.named; documented = h.documented }

-- ---- all rows

all-full : (before rows : List (Row Tree)) → AllShaped before → AllShaped rows → AllFull (all_decorated before rows)
all-full before [] h k = tt
all-full before (row ∷ rows) h k = (full-row (gathered before) row (gathered-are before h) k.0, all-full (row ∷ before) rows (k.0, h) k.1)

full-front : (xs ys : List (Row Tree)) → AllFull (xs ++ ys) → AllFull xs × AllFull ys
full-front [] ys h = (tt, h)
full-front (x ∷ xs) ys h = let parts = full-front xs ys h.1 in ((h.0, parts.0), parts.1)

full-lines : (lines : Lines) → AllFull (flat lines) → AreFull lines
full-lines no_lines h = tt
full-lines (line row block behind) h = let parts = full-front (flat block) (flat behind) h.1 in (h.0, full-lines block parts.0, full-lines behind parts.1)

each-shaped : (rows : List (Row Tree)) → All IsRowShaped rows → AllShaped rows
each-shaped [] h = tt
each-shaped (row ∷ rows) h = (h 0 row (omega arith), each-shaped rows (All-tail IsRowShaped row rows h))

-- the rows of a file as they nest
pub rows-full : (rows : List (Row Tree)) (lines : Lines) → all_decorated [] rows ≡ flat lines → All IsRowShaped rows → AreFull lines
rows-full rows lines e h = full-lines lines (subst (λ (rs : List (Row Tree)). AllFull rs) e (all-full [] rows tt (each-shaped rows h)))
