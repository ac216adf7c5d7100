-- Facts by the answer of a command.
use Rattle.std.specs.Prelude.{ℕ}
use Rattle.lint_report.specs.declared.outcome.Answer.{Answer}
use Rattle.lint_report.specs.declared.outcome.Answer.TheVariants.{Ran, Memory, SinkFault}

-- of the status, where the command ran
abbrev pub OnRan : Answer → (ℕ → Type 0) → Type 0
OnRan (Ran status) P = P status
OnRan Memory P = Unit {0}
OnRan SinkFault P = Unit {0}

-- where a sink failed
abbrev pub OnSinkFault : Answer → Type 0 → Type 0
OnSinkFault (Ran status) P = Unit {0}
OnSinkFault Memory P = Unit {0}
OnSinkFault SinkFault P = P

-- where memory ran out
abbrev pub OnMemory : Answer → Type 0 → Type 0
OnMemory (Ran status) P = Unit {0}
OnMemory Memory P = P
OnMemory SinkFault P = Unit {0}

-- where the command ran, or a sink failed
abbrev pub OnWritten : Answer → Type 0 → Type 0
OnWritten (Ran status) P = P
OnWritten Memory P = Unit {0}
OnWritten SinkFault P = P
