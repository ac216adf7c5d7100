-- What a command promises, by its answer. `said` is what the words say: the line, or the first fault.
use Rattle.std.specs.Prelude.{◌≡◌, ℕ, ◌+◌, ◌↔◌, List, [], ◌++◌, length, Bool, true, ◌||◌, Option, None, Some, is_some, Result, Ok, Err, IsErr, is_err, count_by}
use Rattle.std.specs.List.{concat}
use Rattle.lint_outside.specs.Causes.{RoseBy}
use Rattle.lint_outside.specs.Sinks.{Appends, AppendsPrefix}
use Rattle.lint_outside.specs.FileTree.{FileTree}
use Rattle.lint_outside.specs.declared.outside.Question.{Question}
use Rattle.options.specs.declared.line.Line.{Line}
use Rattle.options.specs.declared.usage.UsageFault.{UsageFault}
use Rattle.options.specs.Settings.{Settings}
use Rattle.file_list.specs.declared.entry.Listed.{Listed}
use Rattle.file_list.specs.Entries.{is_failed}
use Rattle.file_list.specs.Gathered.{reading_of}
use Rattle.options_file.specs.Reading.{count_failed, options_at, options_path}
use Rattle.options_file.specs.Settings.{SettingsRead, settings_of}
use Rattle.lint_report.specs.declared.outcome.OptionsRead.{OptionsRead}
use Rattle.lint_report.specs.declared.outcome.OptionsRead.TheVariants.{NotLooked}
use Rattle.lint_report.specs.declared.outcome.Whole.{Whole}
use Rattle.lint_report.specs.declared.findings.Findings.{Findings}
use Rattle.lint_report.specs.Score.{status_of}
use Rattle.lint_engine.specs.Shown.{IsShown}
use Rattle.lint_engine.specs.Output.{IsShownBy, linted, lines_by, output_by, error_text_by, status_by}

abbrev pub Said : Type 0
Said = Result Line UsageFault

-- the number of classes of a made text, where the words ask for one
abbrev pub generate_of : Said → Option ℕ
generate_of (Err fault) = None
generate_of (Ok line) = line.generate

-- The command ran: the sinks grew by the stated texts of these options or of their fault, of what was read or made and of what is
-- shown, where they tell, and the status is the stated one.
pub record IsRunBy (generate : Option ℕ) (settled : SettingsRead) (reading : List Listed) (out_before out_now err_before err_now : Option (List ℕ)) (status : ℕ) : Type 0 where
  pub found : Findings
  pub shown : IsShownBy generate settled reading found
  pub printed : Appends out_before out_now (output_by generate settled reading found)
  pub reported : Appends err_before err_now (error_text_by settled)
  pub status_is : status ≡ status_by settled found

-- the same of what the words say and of all that was read
abbrev pub IsRun : Said → Whole → Option (List ℕ) → Option (List ℕ) → Option (List ℕ) → Option (List ℕ) → ℕ → Type 0
IsRun said read out_before out_now err_before err_now status = IsRunBy (generate_of said) (settings_of said read.options) read.list out_before out_now err_before err_now status

-- what is shown is one, so what is printed and the status are a function of words and reading
abbrev pub IsDetermined : Said → Whole → Type 0
IsDetermined said read =
    (one other : Findings) → IsShownBy (generate_of said) (settings_of said read.options) read.list one
    → IsShownBy (generate_of said) (settings_of said read.options) read.list other → one ≡ other

-- the status is 32 exactly where the words or the options file are refused
abbrev pub IsRefused : Said → Whole → ℕ → Type 0
IsRefused said read status = (status ≡ 32) ↔ IsErr (settings_of said read.options)

-- A sink failed: each sink holds a first part of its stated text, where it tells.
pub record IsStoppedBy (generate : Option ℕ) (settled : SettingsRead) (reading : List Listed) (out_before out_now err_before err_now : Option (List ℕ)) : Type 0 where
  pub found : Findings
  pub shown : IsShownBy generate settled reading found
  pub printed : AppendsPrefix out_before out_now (output_by generate settled reading found)
  pub reported : AppendsPrefix err_before err_now (error_text_by settled)

abbrev pub IsStopped : Said → Whole → Option (List ℕ) → Option (List ℕ) → Option (List ℕ) → Option (List ℕ) → Type 0
IsStopped said read out_before out_now err_before err_now = IsStoppedBy (generate_of said) (settings_of said read.options) read.list out_before out_now err_before err_now

-- Memory ran out: nothing was written.
pub record IsUnwritten (out_before out_now err_before err_now : Option (List ℕ)) : Type 0 where
  pub printed : out_now ≡ out_before
  pub reported : err_now ≡ err_before

-- a made text has no options file
abbrev pub options_for : Option ℕ → OptionsRead → OptionsRead
options_for None read = read
options_for (Some classes) read = NotLooked

-- what the options file is read as: it is not looked at where the words are refused or ask for a made text
abbrev pub options_by : Said → FileTree → List Question → OptionsRead
options_by (Err fault) tree fails = NotLooked
options_by (Ok line) tree fails = options_for line.generate (options_at tree fails (options_path line.rcfile))

-- the files of the words
abbrev pub files_of : Said → List (List ℕ)
files_of (Err fault) = []
files_of (Ok line) = line.files

-- the reading of these files: it is empty for a made text, and where words or options file are refused
abbrev pub list_by : Option ℕ → SettingsRead → FileTree → List Question → List (List ℕ) → List Listed
list_by (Some classes) settled tree fails files = []
list_by None (Err fault) tree fails files = []
list_by None (Ok options) tree fails files = reading_of tree fails options files

-- the options file is not looked at
abbrev pub is_unlooked : Said → Bool
is_unlooked (Err fault) = true
is_unlooked (Ok line) = is_some line.generate

-- no file is asked
abbrev pub is_unlisted : Said → SettingsRead → Bool
is_unlisted said settled = is_unlooked said || is_err settled

-- What was read, where the files tell what they hold: it is that of what they hold and of the questions that failed in this call,
-- first those of the options file and then those of the list, which are no more than the rise of the count. Nothing is asked
-- behind a refusal, nor for a made text.
pub record IsReadFrom (said : Said) (tree : FileTree) (before now : List Question) (count_before count_now : ℕ) (read : Whole) : Type 0 where
  pub options_fails : List Question
  pub list_fails : List Question
  pub grown : now ≡ before ++ (options_fails ++ list_fails)
  pub rose : RoseBy (length options_fails + length list_fails) count_before count_now
  pub options : read.options ≡ options_by said tree options_fails
  pub list : read.list ≡ list_by (generate_of said) (settings_of said read.options) tree list_fails (files_of said)
  pub not_looked : is_unlooked said ≡ true → options_fails ≡ []
  pub not_listed : is_unlisted said (settings_of said read.options) ≡ true → list_fails ≡ []

-- The options file is looked at exactly where the words are read and ask for no made text, and files are where it is read too.
pub record IsInOrder (said : Said) (read : Whole) : Type 0 where
  pub looked : (is_unlooked said ≡ true) ↔ (read.options ≡ NotLooked)
  pub listed : is_unlisted said (settings_of said read.options) ≡ true → read.list ≡ []

-- not read, or all of it, by the questions that failed
pub data IsPartOf {X : Type 0} (nothing : X) (whole : List Question → X) (read : X) : Type 0 where
  unread : read ≡ nothing → IsPartOf nothing whole read
  whole_read : (fails : List Question) → read ≡ whole fails → IsPartOf nothing whole read

-- At any moment, where the files tell what they hold: the options file was not looked at, or it is read as what they hold; and the
-- list is empty, or that of what they hold.
pub record IsPartRead (said : Said) (tree : FileTree) (read : Whole) : Type 0 where
  pub options : IsPartOf NotLooked (options_by said tree) read.options
  pub list : IsPartOf [] (λ fails. list_by (generate_of said) (settings_of said read.options) tree fails (files_of said)) read.list

-- how much of what was read has failed
abbrev pub failures : Whole → ℕ
failures read = count_failed read.options + count_by is_failed read.list

-- as much has failed as the count of the files rose, or less
abbrev pub HasReadCauses : ℕ → ℕ → Whole → Type 0
HasReadCauses count_before count_now read = RoseBy (failures read) count_before count_now

-- A report of a reading or of a made text: its lines and its status are those of what is shown.
pub record IsReport (generate : Option ℕ) (options : Settings) (reading : List Listed) (lines : List (List ℕ)) (status : ℕ) : Type 0 where
  pub found : Findings
  pub shown : IsShown options (linted generate reading) found
  pub lines_are : lines ≡ lines_by generate options reading found
  pub status_is : status ≡ status_of found options

-- Such a report was printed whole.
pub record IsPrinted (generate : Option ℕ) (options : Settings) (reading : List Listed) (before now : Option (List ℕ)) (status : ℕ) : Type 0 where
  pub lines : List (List ℕ)
  pub made : IsReport generate options reading lines status
  pub printed : Appends before now (concat lines)

-- A first part of such a report was printed.
pub record IsPartPrinted (generate : Option ℕ) (options : Settings) (reading : List Listed) (before now : Option (List ℕ)) : Type 0 where
  pub lines : List (List ℕ)
  pub status : ℕ
  pub made : IsReport generate options reading lines status
  pub printed : AppendsPrefix before now (concat lines)
