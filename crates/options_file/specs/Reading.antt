-- What an options file is read as: a function of what is held, and of the questions that failed.
use Rattle.std.specs.Prelude.{◌≡◌, ℕ, List, ◌++◌, Bool, false, true, length, codes, Option, None, Some}
use Rattle.lint_outside.specs.Causes.{RoseBy}
use Rattle.lint_outside.specs.FileTree.{FileTree}
use Rattle.lint_outside.specs.declared.outside.Kind.{Kind}
use Rattle.lint_outside.specs.declared.outside.Kind.TheVariants as kind
use Rattle.lint_outside.specs.declared.outside.Content.{Content}
use Rattle.lint_outside.specs.declared.outside.Content.TheVariants as content
use Rattle.lint_outside.specs.declared.outside.Question.{Question}
use Rattle.file_list.specs.Answers.{answers_of}
use Rattle.lint_report.specs.declared.outcome.OptionsRead.{OptionsRead}
use Rattle.lint_report.specs.declared.outcome.OptionsRead.TheVariants.{NotLooked, Absent, Failed, TooLarge, Source}

-- the path of the options file: the one that the words name, else `pyproject.toml`
abbrev pub options_path : Option (List ℕ) → List ℕ
options_path None = codes "pyproject.toml"
options_path (Some path) = path

-- by what a read of the file answers
abbrev pub read_as : Option Content → OptionsRead
read_as None = Failed
read_as (Some content.TooLarge) = TooLarge
read_as (Some (content.Whole bytes)) = Source bytes

-- by what a look at the path answers: a folder is no options file
abbrev pub looked_as : Option Kind → OptionsRead → OptionsRead
looked_as None read = Failed
looked_as (Some kind.Missing) read = Absent
looked_as (Some kind.Folder) read = Absent
looked_as (Some kind.File) read = read

-- what the options file at a path is read as, where these questions fail
abbrev pub options_at : FileTree → List Question → List ℕ → OptionsRead
options_at tree fails path =
    let answers = answers_of tree fails in
    looked_as (answers.look path) (read_as (answers.read path))

-- What is read is that of what the files hold and of the questions that failed meanwhile, which are no more than the
-- rise of the count.
pub record IsOptionsReadOf (tree : FileTree) (before now : List Question) (count_before count_now : ℕ) (path : List ℕ) (read : OptionsRead) : Type 0 where
  pub fails : List Question
  pub grown : now ≡ before ++ fails
  pub rose : RoseBy (length fails) count_before count_now
  pub is : read ≡ options_at tree fails path

-- how many questions about the options file have failed
abbrev pub count_failed : OptionsRead → ℕ
count_failed NotLooked = 0
count_failed Absent = 0
count_failed Failed = 1
count_failed TooLarge = 0
count_failed (Source bytes) = 0
