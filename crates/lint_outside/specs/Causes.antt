-- When a device may say that it failed: only where its count of faults rose in this call.
use Rattle.std.specs.Prelude.{ℕ, ◌+◌, ◌-◌, ◌^◌, ◌≤◌, min, ◌++◌, List, [], ◌∷◌, Result, IsErrOf, Ok, Err}
use Rattle.lint_outside.specs.declared.outside.FilesFault.{FilesFault}
use Rattle.lint_outside.specs.declared.outside.FilesFault.TheVariants.{Failed, Memory}
use Rattle.lint_outside.specs.declared.outside.Question.{Question}

-- The count has risen. It stands still at 2^64 - 1, and counts as risen there.
abbrev pub Rose : ℕ → ℕ → Type 0
Rose before now = min (before + 1) (2 ^ 64 - 1) ≤ now

-- the count has risen so often at least
abbrev pub RoseBy : ℕ → ℕ → ℕ → Type 0
RoseBy times before now = min (before + times) (2 ^ 64 - 1) ≤ now

-- the count has not fallen, and has risen where the answer is Failed
pub record HasCause {T : Type 0} (before now : ℕ) (result : Result T FilesFault) : Type 0 where
  pub later : before ≤ now
  pub failed : IsErrOf result Failed → Rose before now

-- A question that failed stands last in the list, and any other leaves the list.
abbrev pub after_fault : List Question → Question → FilesFault → List Question
after_fault before question Failed = before ++ question ∷ []
after_fault before question Memory = before

-- the questions that have failed after this one, by its answer
abbrev pub failed_after : {T : Type 0} → List Question → Question → Result T FilesFault → List Question
failed_after before question (Ok answer) = before
failed_after before question (Err fault) = after_fault before question fault
