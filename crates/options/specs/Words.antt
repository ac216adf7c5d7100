-- What a word of the command line is.
use Rattle.std.specs.Prelude.{ℕ, List, [], ◌∷◌, Bool, ◌==◌, Option, None, Some, drop, length, take, if◌then◌else◌}
use Rattle.std.specs.List.{before_first, after_first}
use Rattle.option_words.specs.declared.option_name.OptionName.{OptionName}
use Rattle.option_words.specs.OptionNames.{kind, lettered, named_option}
use Rattle.options.specs.Edits.{is_flag}

-- what a word is by itself
pub data Form : Type 0 where
  -- `--`, behind which every word is a file
  Ends : Form
  -- a file
  File : Form
  -- no option that there is
  Unknown : Form
  -- an option by its name alone
  Alone : OptionName → Form
  -- an option with its value in the same word
  Attached : OptionName → List ℕ → Form

-- what stands behind the dash at the front, where there is one
abbrev pub behind_dash : List ℕ → Option (List ℕ)
behind_dash [] = None
behind_dash (c ∷ cs) = if c == 45 then Some cs else None

abbrev pub is_equals : ℕ → Bool
is_equals c = c == 61

abbrev pub alone : Option OptionName → Form
alone None = Unknown
alone (Some option) = Alone option

abbrev pub attached : Option OptionName → List ℕ → Form
attached None value = Unknown
attached (Some option) value = Attached option value

-- behind two dashes: a long name, or a long name, `=` and a value
abbrev pub long_form : List ℕ → Form
long_form text =
    if length (before_first is_equals text) == length text then alone (named_option text)
    else attached (named_option (before_first is_equals text)) (after_first is_equals text)

-- a letter alone, or with its value attached, which a flag does not take
abbrev pub lettered_form : Option OptionName → List ℕ → Form
lettered_form None value = Unknown
lettered_form (Some option) [] = Alone option
lettered_form (Some option) (c ∷ cs) = if is_flag (kind option) then Unknown else Attached option (c ∷ cs)

-- behind one dash: a short letter, and maybe its value
abbrev pub short_form : List ℕ → Form
short_form text = lettered_form (lettered (take 1 text)) (drop 1 text)

-- behind two dashes, where `--` itself is the end of the options
abbrev pub double_dashed : List ℕ → Form
double_dashed [] = Ends
double_dashed (c ∷ cs) = long_form (c ∷ cs)

abbrev pub dashed : Option (List ℕ) → List ℕ → Form
dashed None text = short_form text
dashed (Some long) text = double_dashed long

abbrev pub form_by : Option (List ℕ) → Form
form_by None = File
form_by (Some text) = dashed (behind_dash text) text

abbrev pub form_of : List ℕ → Form
form_of word = form_by (behind_dash word)
