-- The reading of all arguments: a function of what is held, and of the questions that failed.
use Rattle.std.specs.Prelude.{◌≡◌, ℕ, ◌+◌, Bool, List, [], ◌∷◌, ◌++◌, length, fold, Option, None, Some, nat_le, if◌then◌else◌}
use Rattle.std.specs.List.{sum_by}
use Rattle.lint_outside.specs.Causes.{RoseBy}
use Rattle.lint_outside.specs.FileTree.{FileTree}
use Rattle.lint_outside.specs.declared.outside.Content.{Content}
use Rattle.lint_outside.specs.declared.outside.Content.TheVariants as content
use Rattle.lint_outside.specs.declared.outside.Question.{Question}
use Rattle.options.specs.Settings.{Settings}
use Rattle.file_list.specs.declared.entry.Entry.{Entry}
use Rattle.file_list.specs.declared.entry.Entry.TheVariants as entry
use Rattle.file_list.specs.declared.entry.Listed.{Listed}
use Rattle.file_list.specs.declared.found.Finding.{Finding}
use Rattle.file_list.specs.declared.found.Finding.TheVariants as finding
use Rattle.file_list.specs.declared.found.Found.{Found}
use Rattle.file_list.specs.Answers.{Answers, answers_of}
use Rattle.file_list.specs.Walked.{found_of}

-- the most bytes of all sources together
abbrev pub most_bytes_in_all : ℕ
most_bytes_in_all = 67108864

abbrev pub source_length : Entry → ℕ
source_length (entry.Source bytes) = length bytes
source_length entry.Missing = 0
source_length entry.NoPackage = 0
source_length entry.Failed = 0
source_length entry.TooLarge = 0
source_length entry.TooMany = 0
source_length entry.TooDeep = 0
source_length entry.TooMuch = 0

-- the bytes of all sources so far
abbrev pub bytes_in_all : List Listed → ℕ
bytes_in_all reading = sum_by (λ listed. source_length listed.entry) reading

-- what a file turns out to be, by the bytes so far and what its read answers
abbrev pub file_entry : ℕ → Option Content → Entry
file_entry so_far None = entry.Failed
file_entry so_far (Some content.TooLarge) = entry.TooLarge
file_entry so_far (Some (content.Whole bytes)) = if nat_le (so_far + length bytes) most_bytes_in_all then entry.Source bytes else entry.TooMuch

-- the entry of a finding, where a file's is this one
abbrev pub settled : Entry → Finding → Entry
settled read finding.File = read
settled read finding.Missing = entry.Missing
settled read finding.NoPackage = entry.NoPackage
settled read finding.Failed = entry.Failed
settled read finding.TooMany = entry.TooMany
settled read finding.TooDeep = entry.TooDeep

abbrev pub entry_of : Answers → ℕ → Found → Entry
entry_of answers so_far found = settled (file_entry so_far (answers.read found.path)) found.finding

abbrev pub with_read : Answers → List Listed → Found → List Listed
with_read answers reading found =
    reading ++ record { path = found.path; module_name = found.module_name; is_package = found.is_package; entry = entry_of answers (bytes_in_all reading) found } ∷ []

-- what was found, with its files read in order
abbrev pub read_all : Answers → List Found → List Listed
read_all answers found = fold (with_read answers) [] found

-- the reading of these arguments
abbrev pub reading_of : FileTree → List Question → Settings → List (List ℕ) → List Listed
reading_of tree fails options arguments =
    let answers = answers_of tree fails in
    read_all answers (found_of answers options.ignore options.recursive arguments)

-- The reading is that of what the files hold and of the questions that failed meanwhile, which are no more than the
-- rise of the count.
pub record IsReadingOf (tree : FileTree) (before now : List Question) (count_before count_now : ℕ) (options : Settings) (arguments : List (List ℕ)) (reading : List Listed) : Type 0 where
  pub fails : List Question
  pub grown : now ≡ before ++ fails
  pub rose : RoseBy (length fails) count_before count_now
  pub is : reading ≡ reading_of tree fails options arguments
