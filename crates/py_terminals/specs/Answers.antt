-- What the calls answer. Want of memory is free.
use Rattle.std.specs.Prelude.{◌≡◌, List, ◌++◌, Result, Ok, Err}
use Rattle.fstr_parse.specs.declared.fault.FieldFault.{FieldFault}
use Rattle.py_grammar.specs.Terminals.{Terminal}
use Rattle.py_terminals.specs.Outcomes.{Outcome}
use Rattle.py_terminals.specs.declared.fault.LineFault.{LineFault}
use Rattle.py_terminals.specs.declared.fault.LineFault.TheVariants.{Field, Memory}

-- what holds of a fault
abbrev pub OnField : (FieldFault → Type 0) → LineFault → Type 0
OnField P (Field fault) = P fault
OnField P Memory = Unit {0}

-- the answer is these terminals, or memory ran out
abbrev pub GivesOnly : Result (List Terminal) LineFault → List Terminal → Type 0
GivesOnly (Ok given) terminals = given ≡ terminals
GivesOnly (Err fault) terminals = OnField (λ _. ⊥) fault

-- the answer is this fault, or memory ran out
abbrev pub FaultsOnly : Result (List Terminal) LineFault → FieldFault → Type 0
FaultsOnly (Ok given) fault = ⊥
FaultsOnly (Err given) fault = OnField (λ other. other ≡ fault) given

-- terminals that something comes to stand behind those that stood before
pub record AreAdded (ComesTo : Outcome → Type 0) (old new : List Terminal) : Type 0 where
  pub terminals : List Terminal
  pub come : ComesTo (Ok terminals)
  pub behind : new ≡ old ++ terminals

-- what something comes to is added, or its fault answered
abbrev pub Adds : (Outcome → Type 0) → List Terminal → List Terminal → Result (Unit {0}) LineFault → Type 0
Adds ComesTo old new (Ok u) = AreAdded ComesTo old new
Adds ComesTo old new (Err fault) = OnField (λ found. ComesTo (Err found)) fault
