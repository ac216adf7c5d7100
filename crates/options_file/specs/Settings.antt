-- The options that words and an options file give, or the first fault of the two.
use Rattle.std.specs.Prelude.{ℕ, List, [], Bool, true, false, Option, None, Some, Result, Ok, Err}
use Rattle.options.specs.declared.line.Line.{Line}
use Rattle.options.specs.declared.usage.UsageFault.{UsageFault}
use Rattle.options.specs.declared.usage.UsageFault.TheVariants as fault
use Rattle.options.specs.declared.edits.Edit.{Edit}
use Rattle.options.specs.File.{EditsRead, file_edits}
use Rattle.options.specs.Settings.{Settings, options_of}
use Rattle.lint_report.specs.declared.outcome.OptionsRead.{OptionsRead}
use Rattle.lint_report.specs.declared.outcome.OptionsRead.TheVariants.{NotLooked, Absent, Failed, TooLarge, Source}
use Rattle.options_file.specs.Reading.{options_path}

-- no options file: a fault where the words name one
abbrev pub absent : Option (List ℕ) → EditsRead
absent None = Ok []
absent (Some path) = Err (fault.NoRcFile path)

-- what an options file says, by the path that the words name and by what it was read as
abbrev pub edits_read : Option (List ℕ) → OptionsRead → EditsRead
edits_read named NotLooked = Ok []
edits_read named Absent = absent named
edits_read named Failed = Err (fault.ReadFault (options_path named))
edits_read named TooLarge = Err (fault.TooLarge (options_path named))
edits_read named (Source bytes) = file_edits (options_path named) bytes

abbrev pub SettingsRead : Type 0
SettingsRead = Result Settings UsageFault

-- the options of a line, where the options file has these edits
abbrev pub with_line : List Edit → EditsRead → SettingsRead
with_line line (Err fault) = Err fault
with_line line (Ok file) = Ok (options_of file line)

-- the options of a line and its options file, or the file's fault
abbrev pub settings_by : Line → OptionsRead → SettingsRead
settings_by line read = with_line line.edits (edits_read line.rcfile read)

-- the options of words and options file, or the first fault: that of the words comes first
abbrev pub settings_of : Result Line UsageFault → OptionsRead → SettingsRead
settings_of (Err fault) read = Err fault
settings_of (Ok line) read = settings_by line read
