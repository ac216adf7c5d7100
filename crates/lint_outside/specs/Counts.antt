-- How a device counts its faults: the count stands still at the end of its type.
use Rattle.std.specs.Prelude.{ℕ, ◌+◌, ◌-◌, ◌^◌, min, Result, Ok, Err}
use Rattle.lint_outside.specs.declared.outside.FilesFault.{FilesFault}
use Rattle.lint_outside.specs.declared.outside.FilesFault.TheVariants.{Failed, Memory}

-- a count after one more
abbrev pub one_more : ℕ → ℕ
one_more before = min (before + 1) (2 ^ 64 - 1)

-- a count of faults after this fault: want of memory is none
abbrev pub count_after_fault : ℕ → FilesFault → ℕ
count_after_fault before Failed = one_more before
count_after_fault before Memory = before

-- a count of faults after this answer
abbrev pub count_after : {T : Type 0} → ℕ → Result T FilesFault → ℕ
count_after before (Ok answer) = before
count_after before (Err fault) = count_after_fault before fault
