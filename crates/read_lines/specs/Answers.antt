-- What the call answers. Want of memory is free.
use Rattle.std.specs.Prelude.{◌≡◌, List, Result, Ok, Err}
use Rattle.fstr_parse.specs.declared.fault.FieldFault.{FieldFault}
use Rattle.py_grammar.specs.Lines as grammar
use Rattle.tree_nodes.specs.Rows.{Row}
use Rattle.read_lines.specs.Spelling.{form_over}
use Rattle.read_lines.specs.declared.fault.LineFault.{LineFault}
use Rattle.read_lines.specs.declared.fault.LineFault.TheVariants.{NoForm, Field, Memory}
use Rattle.read_lines.specs.declared.form.LineForm.{LineForm}

-- what holds where no form fits
abbrev pub OnNoForm : Type 0 → LineFault → Type 0
OnNoForm P NoForm = P
OnNoForm P (Field fault) = Unit {0}
OnNoForm P Memory = Unit {0}

-- what holds of the fault of a string
abbrev pub OnField : (FieldFault → Type 0) → LineFault → Type 0
OnField P NoForm = Unit {0}
OnField P (Field fault) = P fault
OnField P Memory = Unit {0}

-- what holds of every refusal but want of memory
abbrev pub OnRefusal : Type 0 → LineFault → Type 0
OnRefusal P NoForm = P
OnRefusal P (Field fault) = P
OnRefusal P Memory = Unit {0}

-- the answer is this form over these rows, or memory ran out
abbrev pub GivesOnly : List Row → Result LineForm LineFault → grammar.LineForm → Type 0
GivesOnly rows (Ok given) form = form_over rows given ≡ form
GivesOnly rows (Err fault) form = OnRefusal ⊥ fault

-- the answer is that no form fits, or memory ran out
abbrev pub NoFormOnly : Result LineForm LineFault → Type 0
NoFormOnly (Ok given) = ⊥
NoFormOnly (Err fault) = OnField (λ _. ⊥) fault

-- the answer is this fault of a string, or memory ran out
abbrev pub FaultsOnly : Result LineForm LineFault → FieldFault → Type 0
FaultsOnly (Ok given) fault = ⊥
FaultsOnly (Err NoForm) fault = ⊥
FaultsOnly (Err (Field other)) fault = other ≡ fault
FaultsOnly (Err Memory) fault = Unit {0}
