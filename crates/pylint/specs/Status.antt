-- The exit status of the program, and the words that it hands on.
use Rattle.std.specs.Prelude.{ℕ, List, drop}
use Rattle.lint_report.specs.declared.outcome.Answer.{Answer}
use Rattle.lint_report.specs.declared.outcome.Answer.TheVariants.{Ran, Memory, SinkFault}

-- by how the command ended: its own status where it ran, 70 for want of memory, 74 where output could not be written
abbrev pub status_of : Answer → ℕ
status_of (Ran status) = status
status_of Memory = 70
status_of SinkFault = 74

-- all arguments but the first, which is the program's name
abbrev pub words_of : List (List ℕ) → List (List ℕ)
words_of = drop 1
