-- Tokens are read in one way: they spell one tree, or have one first fault.
use Rattle.std.proofs.Common.{◌≡◌, ℕ, suc, ◌+◌, ◌<◌, ◌≤◌, List, [], ◌∷◌, Bool, true, false, length, get_or, map, Option, Some, None, Result, Ok, Err, inl, inr, refl, sym, ap, subst, ◌∙◌, arith}
use Rattle.std.specs.Prelude.{IfOk, IfErr}
use Rattle.lint_values.specs.declared.place.Pos.{Pos}
use Rattle.tree_nodes.specs.Trees.{Tree}
use Rattle.py_token.specs.Tokenized.{Tokenized}
use Rattle.py_grammar.specs.declared.head.Head.{Head}
use Rattle.py_grammar.specs.Terminals.{Terminal}
use Rattle.py_grammar.specs.Lines.{LineForm, IsLine as IsForm}
use Rattle.py_grammar.proofs.WholeLines.{line_unique}
use Rattle.py_terminals.proofs.UniqueLaws.{line_one}
use Rattle.py_terminals.specs.Lines.{IsLine}
use Rattle.py_blocks.specs.declared.line.Line.{Line}
use Rattle.py_blocks.specs.declared.fault.BlockFault.{BlockFault}
use Rattle.py_blocks.specs.Docstrings.{docstring_of}
use Rattle.py_blocks.specs.Rows.{Row, line_of as seen}
use Rattle.py_blocks.specs.Rules.{AreRight, IsFirstFault, first_fault}
use Rattle.py_blocks.specs.Spelling.{Spells as SpellsTree}
use Rattle.py_blocks.proofs.FaultLaws.{is-found}
use Rattle.py_blocks.proofs.ParseLaws.{one-tree}
use Rattle.read_lines.specs.Spelling.{Spells as SpellsLine}
use Rattle.parse_stmt.specs.declared.fault.LineCause.{LineCause}
use Rattle.parse_stmt.specs.declared.fault.LineCause.TheVariants.{NoForm, Field}
use Rattle.parse_stmt.specs.declared.fault.SyntaxCause.{SyntaxCause}
use Rattle.parse_stmt.specs.declared.fault.SyntaxCause.TheVariants as causes
use Rattle.parse_stmt.specs.declared.fault.SyntaxFault.{SyntaxFault}
use Rattle.parse_stmt.specs.declared.fault.SyntaxFault.TheVariants.{At, Memory}
use Rattle.parse_stmt.specs.Answers.{OnFault, GivesOnly, FaultsOnly}
use Rattle.parse_stmt.specs.Places.{first_pos, name_in}
use Rattle.parse_stmt.specs.Rows.{IsRow, AreRows}
use Rattle.parse_stmt.specs.Spelling.{LacksForm, StopsAt, AreRead, Spells, IsFirst, IsFault, is_whole, cause_of}

-- ---- a line

same-terminals : (tokens : Tokenized) (n : ℕ) (a b : List Terminal) → IsLine tokens n (Ok a) → IsLine tokens n (Ok b) → a ≡ b
same-terminals tokens n a b h k = let same : Ok a ≡ Ok b = line_one tokens n (Ok a) (Ok b) h k in cc same

same-form : (tokens : Tokenized) (n : ℕ) (a b : LineForm) → SpellsLine tokens n a → SpellsLine tokens n b → a ≡ b
same-form tokens n a b h k =
    let same = same-terminals tokens n h.terminals k.terminals h.come k.come in
    line_unique k.terminals a b (subst (λ (ts : List Terminal). IsForm ts a) same h.form_is) k.form_is

row-with : Head → ℕ → Pos → ℕ → Option (List ℕ) → List Tree → List Tree → Option Tree → Row Tree
row-with head level pos end_line name nodes body docstring =
    record { head = head; level = level; pos = pos; end_line = end_line; name = name; nodes = nodes; body = body; docstring = docstring }

same-row : (tokens : Tokenized) (n : ℕ) (a b : Row Tree) → IsRow tokens n a → IsRow tokens n b → a ≡ b
unfolding row-with
same-row tokens n a b h k =
    let form = same-form tokens n (record { head = a.head; nodes = a.nodes; body = a.body }) (record { head = b.head; nodes = b.nodes; body = b.body }) h.form k.form in
    let head : a.head ≡ b.head = ap (λ (f : LineForm). f.head) form in
    let nodes : a.nodes ≡ b.nodes = ap (λ (f : LineForm). f.nodes) form in
    let body : a.body ≡ b.body = ap (λ (f : LineForm). f.body) form in
    let level : a.level ≡ b.level = h.level_is ∙ sym k.level_is in
    let pos : a.pos ≡ b.pos = h.pos_is ∙ sym k.pos_is in
    let end_line : a.end_line ≡ b.end_line = h.end_is ∙ sym k.end_is in
    let name : a.name ≡ b.name = h.name_is ∙ ap (name_in tokens n) head ∙ sym k.name_is in
    let docstring : a.docstring ≡ b.docstring = h.documented ∙ ap docstring_of body ∙ sym k.documented in
    ap (λ (x : Head). row-with x a.level a.pos a.end_line a.name a.nodes a.body a.docstring) head
    ∙ ap (λ (x : ℕ). row-with b.head x a.pos a.end_line a.name a.nodes a.body a.docstring) level
    ∙ ap (λ (x : Pos). row-with b.head b.level x a.end_line a.name a.nodes a.body a.docstring) pos
    ∙ ap (λ (x : ℕ). row-with b.head b.level b.pos x a.name a.nodes a.body a.docstring) end_line
    ∙ ap (λ (x : Option (List ℕ)). row-with b.head b.level b.pos b.end_line x a.nodes a.body a.docstring) name
    ∙ ap (λ (x : List Tree). row-with b.head b.level b.pos b.end_line b.name x a.body a.docstring) nodes
    ∙ ap (λ (x : List Tree). row-with b.head b.level b.pos b.end_line b.name b.nodes x a.docstring) body
    ∙ ap (λ (x : Option Tree). row-with b.head b.level b.pos b.end_line b.name b.nodes b.body x) docstring

has-form : (tokens : Tokenized) (n : ℕ) (cause : LineCause) (form : LineForm) → LacksForm tokens n cause → SpellsLine tokens n form → ⊥
has-form tokens n NoForm form h k = h.none form (subst (λ (ts : List Terminal). IsForm ts form) (same-terminals tokens n k.terminals h.terminals k.come h.come) k.form_is)
has-form tokens n (Field fault) form h k = let same : Err fault ≡ Ok k.terminals = line_one tokens n (Err fault) (Ok k.terminals) h k.come in cc same

same-cause : (tokens : Tokenized) (n : ℕ) (a b : LineCause) → LacksForm tokens n a → LacksForm tokens n b → a ≡ b
same-cause tokens n NoForm NoForm h k = refl
same-cause tokens n NoForm (Field fault) h k = let same : Err fault ≡ Ok h.terminals = line_one tokens n (Err fault) (Ok h.terminals) k h.come in absurd (cc same)
same-cause tokens n (Field fault) NoForm h k = let same : Err fault ≡ Ok k.terminals = line_one tokens n (Err fault) (Ok k.terminals) h k.come in absurd (cc same)
same-cause tokens n (Field fault) (Field other) h k = let same : Err fault ≡ Err other = line_one tokens n (Err fault) (Err other) h k in cc same

-- ---- the lines

-- rows from a number on
abbrev AreFrom : Tokenized → ℕ → List (Row Tree) → Type 0
AreFrom tokens n rows = (i : ℕ) (d : Row Tree) → i < length rows → IsRow tokens (n + i) (get_or rows i d)

from-first : (tokens : Tokenized) (rows : List (Row Tree)) → AreRows tokens rows → AreFrom tokens 0 rows
from-first tokens rows h i d l = let e : i ≡ 0 + i = omega arith in subst (λ (m : ℕ). IsRow tokens m (get_or rows i d)) e (h i d l)

from-next : (tokens : Tokenized) (n : ℕ) (row : Row Tree) (rows : List (Row Tree)) → AreFrom tokens n (row ∷ rows) → AreFrom tokens (n + 1) rows
from-next tokens n row rows h i d l = let e : n + suc i ≡ (n + 1) + i = omega arith in subst (λ (m : ℕ). IsRow tokens m (get_or rows i d)) e (h (suc i) d (omega arith))

same-rows : (tokens : Tokenized) (n : ℕ) (a b : List (Row Tree)) → AreFrom tokens n a → AreFrom tokens n b → length a ≡ length b → a ≡ b
same-rows tokens n [] [] h k l = refl
same-rows tokens n [] (y ∷ b) h k l = absurd (omega (arith, l))
same-rows tokens n (x ∷ a) [] h k l = absurd (omega (arith, l))
same-rows tokens n (x ∷ a) (y ∷ b) h k l =
    let first = same-row tokens (n + 0) x y (h 0 x (omega arith)) (k 0 y (omega arith)) in
    let others = same-rows tokens (n + 1) a b (from-next tokens n x a h) (from-next tokens n y b k) (omega (arith, l)) in
    ap (λ (r : Row Tree). r ∷ a) first ∙ ap (λ (rs : List (Row Tree)). y ∷ rs) others

stops-within : (tokens : Tokenized) (n : ℕ) (stop : Option LineCause) → StopsAt tokens n stop → n ≤ length tokens.lines
stops-within tokens n None h = omega (arith, h)
stops-within tokens n (Some cause) h = omega (arith, h.0)

-- a reading does not end before another
not-shorter : (tokens : Tokenized) (a b : List (Row Tree)) (stop other : Option LineCause) → AreRead tokens a stop → AreRead tokens b other → length a < length b → ⊥
not-shorter tokens a [] stop other h k l = absurd (omega arith)
not-shorter tokens a (y ∷ b) None other h k l = let s = h.stops in let w = stops-within tokens (length (y ∷ b)) other k.stops in absurd (omega (arith, s, w))
not-shorter tokens a (y ∷ b) (Some cause) other h k l = has-form tokens (length a) cause _ h.stops.1 (k.rows_are (length a) y l).form

same-length : (tokens : Tokenized) (a b : List (Row Tree)) (stop other : Option LineCause) → AreRead tokens a stop → AreRead tokens b other → length a ≡ length b
same-length tokens a b stop other h k = go (length a) (length b) (not-shorter tokens a b stop other h k) (not-shorter tokens b a other stop k h)
  where
    go : (m n : ℕ) → (m < n → ⊥) → (n < m → ⊥) → m ≡ n
    go m n f g = omega (arith, f, g)

same-stop : (tokens : Tokenized) (n : ℕ) (stop other : Option LineCause) → StopsAt tokens n stop → StopsAt tokens n other → stop ≡ other
same-stop tokens n None None h k = refl
same-stop tokens n None (Some cause) h k = absurd (omega (arith, h, k.0))
same-stop tokens n (Some cause) None h k = absurd (omega (arith, k, h.0))
same-stop tokens n (Some cause) (Some other) h k = ap (λ (c : LineCause). Some c) (same-cause tokens n cause other h.1 k.1)

-- lines are read in one way
record IsOneReading (a b : List (Row Tree)) (stop other : Option LineCause) : Type 0 where
  rows : a ≡ b
  stops : stop ≡ other

one-reading : (tokens : Tokenized) (a b : List (Row Tree)) (stop other : Option LineCause) → AreRead tokens a stop → AreRead tokens b other → IsOneReading a b stop other
one-reading tokens a b stop other h k =
    let l = same-length tokens a b stop other h k in
    record {
      rows = same-rows tokens 0 a b (from-first tokens a h.rows_are) (from-first tokens b k.rows_are) l;
      stops = same-stop tokens (length b) stop other (subst (λ (n : ℕ). StopsAt tokens n stop) l h.stops) k.stops;
    }

-- ---- trees and faults

pub tree-one : (tokens : Tokenized) (a b : Tree) → Spells tokens a → Spells tokens b → a ≡ b
tree-one tokens a b h k =
    let one = one-reading tokens h.rows k.rows None None h.are_read k.are_read in
    one-tree k.rows a b (subst (λ (rs : List (Row Tree)). SpellsTree rs a) one.rows h.spelled) k.spelled

none-some : {A : Type 0} (x : A) → None ≡ Some x → ⊥
none-some x e = cc

no-first : (rows : List (Row Tree)) (n : ℕ) (cause : SyntaxCause) → AreRight true (map seen rows) → IsFirst None rows n cause → ⊥
no-first rows n cause h (inl f) = h f.0 f.1.is_fault
no-first rows n cause h (inr f) = none-some f.0 f.1

pub tree-or-fault : (tokens : Tokenized) (tree : Tree) (line : ℕ) (cause : SyntaxCause) → Spells tokens tree → IsFault tokens line cause → ⊥
tree-or-fault tokens tree line cause h k =
    let one = one-reading tokens k.rows h.rows k.stop None k.are_read h.are_read in
    no-first h.rows k.n cause h.spelled.right (subst (λ (s : Option LineCause). IsFirst s h.rows k.n cause) one.stops (subst (λ (rs : List (Row Tree)). IsFirst k.stop rs k.n cause) one.rows k.is_first))

same-found : (lines : List Line) (whole : Bool) (a b : BlockFault) → IsFirstFault whole lines a → IsFirstFault whole lines b → a ≡ b
same-found lines whole a b h k = both (first_fault whole lines) (is-found whole lines a h) (is-found whole lines b k)
  where
    both : (found : Option BlockFault) → found ≡ Some a → found ≡ Some b → a ≡ b
    both found e f = cc

not-whole : (stop : Option LineCause) (line : LineCause) → stop ≡ Some line → is_whole stop ≡ false
not-whole None line e = absurd cc
not-whole (Some cause) line e = refl

same-some : (stop : Option LineCause) (a b : LineCause) → stop ≡ Some a → stop ≡ Some b → a ≡ b
same-some stop a b e f = cc

first-one : (stop : Option LineCause) (rows : List (Row Tree)) (n m : ℕ) (cause other : SyntaxCause) → IsFirst stop rows n cause → IsFirst stop rows m other → (n ≡ m) × (cause ≡ other)
first-one stop rows n m cause other (inl h) (inl k) =
    let same = same-found (map seen rows) (is_whole stop) h.0 k.0 h.1 k.1 in
    (h.2 ∙ ap (λ (f : BlockFault). f.place) same ∙ sym k.2, h.3 ∙ ap (λ (f : BlockFault). cause_of f.cause) same ∙ sym k.3)
first-one stop rows n m cause other (inl h) (inr k) = absurd (k.2 h.0 (subst (λ (w : Bool). IsFirstFault w (map seen rows) h.0) (not-whole stop k.0 k.1) h.1).is_fault)
first-one stop rows n m cause other (inr h) (inl k) = absurd (h.2 k.0 (subst (λ (w : Bool). IsFirstFault w (map seen rows) k.0) (not-whole stop h.0 h.1) k.1).is_fault)
first-one stop rows n m cause other (inr h) (inr k) =
    (h.3 ∙ sym k.3, h.4 ∙ ap (λ (c : LineCause). causes.Line c) (same-some stop h.0 k.0 h.1 k.1) ∙ sym k.4)

pub fault-one : (tokens : Tokenized) (line at : ℕ) (cause other : SyntaxCause) → IsFault tokens line cause → IsFault tokens at other → (line ≡ at) × (cause ≡ other)
fault-one tokens line at cause other h k =
    let one = one-reading tokens h.rows k.rows h.stop k.stop h.are_read k.are_read in
    let there = subst (λ (s : Option LineCause). IsFirst s k.rows h.n cause) one.stops (subst (λ (rs : List (Row Tree)). IsFirst h.stop rs h.n cause) one.rows h.is_first) in
    let same = first-one k.stop k.rows h.n k.n cause other there k.is_first in
    (h.line_is ∙ ap (λ (n : ℕ). (first_pos tokens n).line) same.0 ∙ sym k.line_is, same.1)

-- ---- the answers

pub every-tree : (tokens : Tokenized) (result : Result Tree SyntaxFault) → IfOk result (Spells tokens) → IfErr result (OnFault (IsFault tokens)) → (tree : Tree) → Spells tokens tree → GivesOnly result tree
every-tree tokens (Ok given) h k tree s = tree-one tokens given tree h s
every-tree tokens (Err Memory) h k tree s = tt
every-tree tokens (Err (At line cause)) h k tree s = tree-or-fault tokens tree line cause s k

pub every-fault : (tokens : Tokenized) (result : Result Tree SyntaxFault) → IfOk result (Spells tokens) → IfErr result (OnFault (IsFault tokens)) → (line : ℕ) (cause : SyntaxCause) → IsFault tokens line cause
    → FaultsOnly result line cause
every-fault tokens (Ok given) h k line cause f = tree-or-fault tokens given line cause h f
every-fault tokens (Err Memory) h k line cause f = tt
every-fault tokens (Err (At at other)) h k line cause f = fault-one tokens at line other cause k f
