-- What a part of a line comes to: its terminals, or the fault of the first string in it whose pieces are refused.
use Rattle.std.specs.Prelude.{◌≡◌, List, ◌++◌, Result, Ok, Err}
use Rattle.fstr_parse.specs.declared.fault.FieldFault.{FieldFault}
use Rattle.py_grammar.specs.Terminals.{Terminal}

abbrev pub Outcome : Type 0
Outcome = Result (List Terminal) FieldFault

-- terminals, and then what comes behind them
abbrev pub onto : List Terminal → Outcome → Outcome
onto front (Ok behind) = Ok (front ++ behind)
onto front (Err fault) = Err fault

-- what comes first, and then terminals
abbrev pub before : Outcome → List Terminal → Outcome
before (Ok front) behind = Ok (front ++ behind)
before (Err fault) behind = Err fault

-- what comes first, and then, where that has no fault, what comes behind it
abbrev pub Behind : Outcome → (Outcome → Type 0) → Outcome → Type 0
Behind (Ok front) Rest out = (behind : Outcome) × Rest behind × (out ≡ onto front behind)
Behind (Err fault) Rest out = out ≡ Err fault
