-- What the words of a command line say: the edits and the files, or a made text, or the first fault from the left.
use Rattle.std.specs.Prelude.{ℕ, List, [], ◌∷◌, ◌==◌, Option, None, Some, Result, Ok, Err, codes, length, if◌then◌else◌}
use Rattle.std.specs.List.{before_first, after_first}
use Rattle.std.specs.Str.{bytes_eq}
use Rattle.option_words.specs.declared.option_name.OptionName.{OptionName}
use Rattle.option_words.specs.declared.option_name.OptionName.TheVariants.{Rcfile}
use Rattle.option_words.specs.OptionNames.{kind}
use Rattle.option_words.specs.Values.{fits, is_within, number_of}
use Rattle.options.specs.declared.edits.Edit.{Edit}
use Rattle.options.specs.declared.line.Line.{Line}
use Rattle.options.specs.declared.usage.UsageFault.{UsageFault}
use Rattle.options.specs.declared.usage.UsageFault.TheVariants.{UnknownOption, NeedsValue, BadValue, NoFile}
use Rattle.options.specs.declared.words.Said.{Said}
use Rattle.options.specs.Edits.{edit_of, is_flag, last_value}
use Rattle.options.specs.Words.{Form, Ends, File, Unknown, Alone, Attached, form_of, is_equals}

abbrev pub Reading : Type 0
Reading = Result Said UsageFault

-- a file before what the words behind it say
abbrev pub with_file : List ℕ → Reading → Reading
with_file word (Ok said) = Ok (record { edits = said.edits; files = word ∷ said.files })
with_file word (Err fault) = Err fault

-- an edit before what the words behind it say
abbrev pub with_edit : Edit → Reading → Reading
with_edit edit (Ok said) = Ok (record { edits = edit ∷ said.edits; files = said.files })
with_edit edit (Err fault) = Err fault

-- an option with its value, where it may have that value; `word` is the word in which the value stands
abbrev pub with_value : OptionName → List ℕ → List ℕ → Reading → Reading
with_value option value word said =
    if fits (kind option) value then with_edit (edit_of option value) said else Err (BadValue word)

-- a word that says all by itself, before the words behind it and what these say
abbrev pub by_itself : Form → List ℕ → List (List ℕ) → Reading → Reading
by_itself Ends word words said = Ok (record { edits = []; files = words })
by_itself File word words said = with_file word said
by_itself Unknown word words said = Err (UnknownOption word)
by_itself (Alone option) word words said = with_edit (edit_of option []) said
by_itself (Attached option value) word words said = with_value option value word said

-- the option whose value is the next word
abbrev pub awaiting : Form → Option OptionName
awaiting Ends = None
awaiting File = None
awaiting Unknown = None
awaiting (Alone option) = if is_flag (kind option) then None else Some option
awaiting (Attached option value) = None

-- the last word
abbrev pub by_last : Option OptionName → List ℕ → Reading
by_last None word = by_itself (form_of word) word [] (Ok (record { edits = []; files = [] }))
by_last (Some option) word = Err (NeedsValue word)

-- a word before another one: what the words behind the first say, and what those behind the second say
abbrev pub by_next : Option OptionName → List ℕ → List ℕ → List (List ℕ) → Reading → Reading → Reading
by_next None word next words behind_first behind_second = by_itself (form_of word) word (next ∷ words) behind_first
by_next (Some option) word next words behind_first behind_second = with_value option next next behind_second

-- what words say
abbrev pub said_by : List (List ℕ) → Reading
said_by [] = Ok (record { edits = []; files = [] })
said_by (word ∷ []) = by_last (awaiting (form_of word)) word
said_by (word ∷ next ∷ words) = by_next (awaiting (form_of word)) word next words (said_by (next ∷ words)) (said_by words)

-- there must be a file. The options file is the last that is named.
abbrev pub line_by : Reading → Result Line UsageFault
line_by (Err fault) = Err fault
line_by (Ok said) =
    if length said.files == 0 then Err NoFile
    else Ok (record { edits = said.edits; files = said.files; rcfile = last_value Rcfile said.edits; generate = None })

-- the line of edits and files that words are
abbrev pub words_line : List (List ℕ) → Result Line UsageFault
words_line words = line_by (said_by words)

-- ---- a made text, which `--generate=N` asks for where it is the only word

-- a number of classes, from 1 to 20000
abbrev pub made_line : List ℕ → List ℕ → Result Line UsageFault
made_line word value =
    if is_within 1 20000 value then Ok (record { edits = []; files = []; rcfile = None; generate = Some (number_of value) }) else Err (BadValue word)

-- the only word, where no `=` stands in it
abbrev pub sole_name : List ℕ → Result Line UsageFault
sole_name word = if bytes_eq word (codes "--generate") then Err (NeedsValue word) else words_line (word ∷ [])

-- the only word, by what stands before its first `=` and behind it
abbrev pub sole_value : List ℕ → List ℕ → List ℕ → Result Line UsageFault
sole_value word name value = if bytes_eq name (codes "--generate") then made_line word value else words_line (word ∷ [])

abbrev pub sole_line : List ℕ → Result Line UsageFault
sole_line word =
    if length (before_first is_equals word) == length word then sole_name word
    else sole_value word (before_first is_equals word) (after_first is_equals word)

-- the line that words are, or the first fault
abbrev pub line_of : List (List ℕ) → Result Line UsageFault
line_of [] = words_line []
line_of (word ∷ []) = sole_line word
line_of (word ∷ next ∷ words) = words_line (word ∷ next ∷ words)
