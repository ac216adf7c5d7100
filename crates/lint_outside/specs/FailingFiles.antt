-- What files that fail at chosen calls show.
use Rattle.std.specs.Prelude.{◌≡◌, ℕ, List, Contains}
use Rattle.lint_outside.specs.Counts.{one_more}
use Rattle.lint_outside.specs.MemFiles.{PlacedMap}
use Rattle.lint_outside.specs.declared.outside.Question.{Question}
use Rattle.lint_outside.specs.declared.failing_files.FailingFiles.{FailingFiles}

-- the files in memory that answer the calls that do not fail
abbrev pub inner_files : FailingFiles → PlacedMap
inner_files files = files.inner

-- the numbers of the calls that fail, counted from 1
abbrev pub failing_calls : FailingFiles → List ℕ
failing_calls files = files.fail

-- how many calls there were so far
abbrev pub calls_made : FailingFiles → ℕ
calls_made files = files.made

-- the questions that failed so far, in order
abbrev pub failed_questions : FailingFiles → List Question
failed_questions files = files.failed.items

-- how often it has failed
abbrev pub files_faults : FailingFiles → ℕ
files_faults files = files.faults

-- the next call is one that fails
abbrev pub FailsNext : FailingFiles → Type 0
FailsNext files = Contains (failing_calls files) (one_more (calls_made files))

-- the call was counted, and which calls fail stays
pub record CountsCall (old new : FailingFiles) : Type 0 where
  pub made : calls_made new ≡ one_more (calls_made old)
  pub calls : failing_calls new ≡ failing_calls old
