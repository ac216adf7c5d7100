-- Which messages a source's lines have: line-too-long, too-many-lines, trailing-whitespace and missing-final-newline.
use Rattle.std.specs.Prelude.{ℕ, ◌+◌, ◌-◌, List, [], ◌∷◌, ◌++◌, Bool, if◌then◌else◌, ◌==◌, ◌&&◌, ◌||◌, not, nat_lt, nat_eq, length, take, drop, codes, None}
use Rattle.std.specs.Fmt.{decimal}
use Rattle.std.specs.List.{starts_with, list_all, suffix_len}
use Rattle.lint_values.specs.declared.place.FileId.{FileId}
use Rattle.lint_messages.specs.declared.code.Code.{Code}
use Rattle.lint_messages.specs.declared.code.Code.TheVariants.{LineTooLong, TooManyLines, TrailingWhitespace, MissingFinalNewline}
use Rattle.lint_messages.specs.declared.message.Message.{Message}
use Rattle.lint_messages.specs.Order.{in_order}
use Rattle.options.specs.declared.settings.Options.{Options}
use Rattle.check_basic.specs.Lines.{lines_of, ends_line, char_count, source_of}

-- what counts as white space at a line's end: blanks, tabs and vertical tabs
abbrev pub is_trailing : ℕ → Bool
is_trailing b = b == 32 || b == 9 || b == 11

-- how many of them end a line
abbrev pub trailing_len : List ℕ → ℕ
trailing_len line = suffix_len is_trailing line

abbrev pub is_blank : ℕ → Bool
is_blank b = b == 32 || b == 9

abbrev pub without_blanks : List ℕ → List ℕ
without_blanks [] = []
without_blanks (b ∷ bs) = if is_blank b then without_blanks bs else b ∷ bs

-- the rest behind a text that may stand in front
abbrev pub behind : List ℕ → List ℕ → List ℕ
behind front line = if starts_with nat_eq line front then drop (length front) line else line

abbrev pub begins_as_address : List ℕ → Bool
begins_as_address rest = starts_with nat_eq rest (codes "http://") || starts_with nat_eq rest (codes "https://")

abbrev pub has_no_blank : List ℕ → Bool
has_no_blank rest = list_all (λ b. not (is_blank b)) rest

abbrev pub is_address : List ℕ → Bool
is_address rest = begins_as_address rest && has_no_blank rest

-- blanks, maybe `# `, maybe `<`, and from `http://` or `https://` on no blank
abbrev pub is_address_line : List ℕ → Bool
is_address_line line = is_address (behind (codes "<") (behind (codes "# ") (without_blanks line)))

-- a message of no node
abbrev pub message : FileId → ℕ → ℕ → Code → List (List ℕ) → Message
message file line col code args = record { file = file; node = None; pos = record { line = line; col = col }; code = code; args = args }

-- line-too-long: more characters than allowed, and no line that is an address
abbrev pub line_too_long : ℕ → FileId → ℕ → List ℕ → List Message
line_too_long most file number line = if nat_lt most (char_count line) && not (is_address_line line)
    then message file number 0 LineTooLong (decimal (char_count line) ∷ decimal most ∷ []) ∷ []
    else []

-- trailing-whitespace: where the white space at the line's end begins, in characters
abbrev pub trailing_whitespace : FileId → ℕ → List ℕ → List Message
trailing_whitespace file number line = if trailing_len line == 0 then []
    else message file number (char_count (take (length line - trailing_len line) line)) TrailingWhitespace [] ∷ []

abbrev pub line_messages : ℕ → FileId → ℕ → List ℕ → List Message
line_messages most file number line = line_too_long most file number line ++ trailing_whitespace file number line

-- the messages of these lines, the first of which has this number
abbrev pub numbered_messages : ℕ → FileId → ℕ → List (List ℕ) → List Message
numbered_messages most file number [] = []
numbered_messages most file number (line ∷ lines) = line_messages most file number line ++ numbered_messages most file (number + 1) lines

-- missing-final-newline: a last line that no line end ends
abbrev pub missing_final_newline : FileId → List ℕ → List Message
missing_final_newline file text = if length text == 0 || ends_line text then [] else message file (length (lines_of text)) 0 MissingFinalNewline [] ∷ []

-- too-many-lines: more physical lines than allowed
abbrev pub too_many_lines : ℕ → FileId → ℕ → List Message
too_many_lines most file count = if nat_lt most count then message file 1 0 TooManyLines (decimal count ∷ decimal most ∷ []) ∷ [] else []

-- the messages of a source without its byte order mark, as they are found
abbrev pub found_messages : Options → FileId → List ℕ → List Message
found_messages options file text =
    (numbered_messages options.max_line_length file 1 (lines_of text) ++ too_many_lines options.max_module_lines file (length (lines_of text)))
    ++ missing_final_newline file text

-- the messages of a source's lines, in their order
abbrev pub source_messages : Options → FileId → List ℕ → List Message
source_messages options file bytes = in_order (found_messages options file (source_of bytes))
