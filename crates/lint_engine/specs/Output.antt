-- What is printed, and the status, by the number of a made text, the options or the fault of words and options file, what was
-- read, and what is shown of it.
use Rattle.std.specs.Prelude.{◌≡◌, ℕ, List, [], ◌∷◌, Option, None, Some, Ok, Err}
use Rattle.std.specs.List.{concat}
use Rattle.file_list.specs.declared.entry.Listed.{Listed}
use Rattle.options.specs.Settings.{Settings}
use Rattle.options_file.specs.Settings.{SettingsRead}
use Rattle.made_text.specs.MadeText.{made_reading}
use Rattle.lint_report.specs.declared.findings.Findings.{Findings}
use Rattle.lint_report.specs.Score.{whole_report, status_of}
use Rattle.lint_report.specs.Summary.{summary}
use Rattle.lint_report.specs.Usage.{usage_line}
use Rattle.lint_engine.specs.Shown.{IsShown, nothing}

-- what is linted: a made text of so many classes, where one is asked for, and else what was read
abbrev pub linted : Option ℕ → List Listed → List Listed
linted None reading = reading
linted (Some classes) reading = made_reading classes

-- what is shown of it: nothing where words or options file are refused
abbrev pub IsShownBy : Option ℕ → SettingsRead → List Listed → Findings → Type 0
IsShownBy generate (Err fault) reading found = found ≡ nothing
IsShownBy generate (Ok options) reading found = IsShown options (linted generate reading) found

-- the lines that are printed: the report with its score, and of a made text one line alone, which counts what is shown
abbrev pub lines_by : Option ℕ → Settings → List Listed → Findings → List (List ℕ)
lines_by None options reading found = whole_report reading found options
lines_by (Some classes) options reading found = summary found (status_of found options) ∷ []

-- what is printed on standard output: nothing where words or options file are refused, and else those lines
abbrev pub output_by : Option ℕ → SettingsRead → List Listed → Findings → List ℕ
output_by generate (Err fault) reading found = []
output_by generate (Ok options) reading found = concat (lines_by generate options reading found)

-- what is printed on standard error: the refusal, and else nothing
abbrev pub error_text_by : SettingsRead → List ℕ
error_text_by (Err fault) = usage_line fault
error_text_by (Ok options) = []

-- the exit status: 32 for a refusal, and else that of what is shown
abbrev pub status_by : SettingsRead → Findings → ℕ
status_by (Err fault) found = 32
status_by (Ok options) found = status_of found options
