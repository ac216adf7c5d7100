-- What a line of terminals was found to spell.
use Rattle.std.proofs.Common.{◌≡◌, ℕ, ◌+◌, ◌≤◌, List, [], ◌++◌, length, take, drop, Result, Ok, Err, refl, sym, ap, subst, ◌∙◌, length-append, arith}
use Rattle.std.specs.Prelude.{IfErr}
use Rattle.std.proofs.lemmas.List.{take_at, drop_at}
use Rattle.tree_nodes.specs.Trees.{Tree}
use Rattle.py_language.specs.Brackets.{peak}
use Rattle.py_grammar.specs.Lines.{IsLine, LineForm}
use Rattle.py_grammar.specs.ReadingLines.{line_at, phrase_at}
use Rattle.py_grammar.specs.Terminals.{Terminal, code}
use Rattle.py_grammar.specs.Words.{closes, opens}
use Rattle.py_grammar.proofs.WholeLines.{line_is_read, no_line}
use Rattle.py_forest.specs.declared.fault.Fault.{Fault}
use Rattle.py_forest.specs.declared.fault.Fault.TheVariants as faults
use Rattle.parse_line.specs.Found.{IsFound, Finds}
use Rattle.parse_line.specs.declared.found.Found.{Found}
use Rattle.read_lines.specs.Found.{FitsIn, SpellsNothing, OnNone, form_with}

-- as many descents as are needed
abbrev pub enough : List Terminal → ℕ
enough ts = 201 + peak code opens closes 0 ts

pub found_fits : (ts : List Terminal) (old new : List Tree) (found : Found) (depth : ℕ) → old ≡ [] → depth ≡ enough ts → IsFound old new found (line_at (phrase_at depth) ts) → FitsIn ts new found
found_fits ts old new found depth e d f =
    let b = peak code opens closes 0 ts in
    let read = ap (λ (n : ℕ). line_at (phrase_at n) ts) (sym d) ∙ f.form_is in
    record {
      nodes = f.nodes;
      body = f.body;
      spelled = (line_is_read b ts (form_with found.head f.nodes f.body) (omega arith)).0 read;
      trees = f.trees ∙ ap (λ (o : List Tree). o ++ (f.nodes ++ f.body)) e;
      count = f.count;
    }

pub nothing_found : (ts : List Terminal) (old new : List Tree) (e : Fault) (depth : ℕ) → depth ≡ enough ts → Finds old new (Err e) (line_at (phrase_at depth) ts) → OnNone (SpellsNothing ts) e
nothing_found ts old new faults.Memory depth d f = tt
nothing_found ts old new faults.NoForm depth d f = (no_line (peak code opens closes 0 ts) ts (omega arith)).0 (ap (λ (n : ℕ). line_at (phrase_at n) ts) (sym d) ∙ f)

-- the trees of a form, in two parts
pub form_spelled : (ts : List Terminal) (all : List Tree) (found : Found) → FitsIn ts all found → IsLine ts (form_with found.head (take found.nodes all) (drop found.nodes all))
form_spelled ts all found f =
    let front : take found.nodes all ≡ f.nodes = ap (take found.nodes) f.trees ∙ take_at f.nodes f.body found.nodes (sym f.count) in
    let back : drop found.nodes all ≡ f.body = ap (drop found.nodes) f.trees ∙ drop_at f.nodes f.body found.nodes (sym f.count) in
    let same : form_with found.head f.nodes f.body ≡ form_with found.head (take found.nodes all) (drop found.nodes all) = rw (front, back) refl in
    subst (λ (form : LineForm). IsLine ts form) same f.spelled

pub found_within : (ts : List Terminal) (all : List Tree) (found : Found) → FitsIn ts all found → found.nodes ≤ length all
found_within ts all found f = omega (arith, f.count, ap length f.trees, length-append f.nodes f.body)

pub not_found : (ts : List Terminal) (old new : List Tree) (answer : Result Found Fault) (depth : ℕ) → depth ≡ enough ts → Finds old new answer (line_at (phrase_at depth) ts) → IfErr answer (OnNone (SpellsNothing ts))
not_found ts old new (Ok found) depth d f = tt
not_found ts old new (Err e) depth d f = nothing_found ts old new e depth d f
