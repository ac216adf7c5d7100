-- What a function of the parser gives: the forest grows by the trees that were read.
use Rattle.std.specs.Prelude.{◌≡◌, ℕ, List, Result, Ok, Err, drop}
use Rattle.std.specs.Borrow.{MutBor}
use Rattle.tree_nodes.specs.Trees.{Tree}
use Rattle.py_language.specs.Readers.{Read, got, fails, behind}
use Rattle.py_grammar.specs.Terminals.{Terminal}
use Rattle.py_grammar.specs.declared.entry.Entry.{Entry}
use Rattle.py_grammar.specs.Reading.{LineReader}
use Rattle.py_grammar.specs.ReadingLines.{phrase_at}
use Rattle.py_forest.specs.declared.fault.Fault.{Fault}
use Rattle.py_forest.specs.declared.fault.Fault.TheVariants as faults
use Rattle.py_forest.specs.declared.forest.Forest.{Forest}
use Rattle.py_forest.specs.Forests.{trees}

-- nothing is read, unless memory ran out
abbrev pub Failed : Fault → Read Terminal → Type 0
Failed faults.Memory read = Unit {0}
Failed faults.NoForm read = read ≡ fails

-- the trees grow by those that were read, up to the place that is given
abbrev pub Reads : List Terminal → List Tree → List Tree → Result ℕ Fault → Read Terminal → Type 0
Reads line old new (Ok rest) read = behind old read ≡ got new (drop rest line)
Reads line old new (Err e) read = Failed e (behind old read)

-- what a call gives that reads phrases of a depth
abbrev pub GivesPhrases : (MutBor Forest → Entry → ℕ → Result ℕ Fault → MutBor Forest → Type 0) → List Terminal → ℕ → Type 0
GivesPhrases post line depth =
    (w : MutBor Forest) (x : Entry) (n : ℕ) (r : Result ℕ Fault) (w' : MutBor Forest) → post w x n r w' → Reads line (trees w.now) (trees w'.now) r (phrase_at depth x (drop n line))

-- what a call gives that reads by a reader
abbrev pub GivesReader : (MutBor Forest → ℕ → Result ℕ Fault → MutBor Forest → Type 0) → List Terminal → LineReader → Type 0
GivesReader post line p = (w : MutBor Forest) (n : ℕ) (r : Result ℕ Fault) (w' : MutBor Forest) → post w n r w' → Reads line (trees w.now) (trees w'.now) r (p (drop n line))
