-- The report of a reading and its messages, and the exit status.
use Rattle.std.specs.Prelude.{ℕ, List, [], ◌∷◌, ◌++◌, Option, None, Some, if◌then◌else◌, ◌==◌, codes, slice_get, bit_or}
use Rattle.std.specs.List.{fold}
use Rattle.std.specs.Fmt.{decimal}
use Rattle.lint_messages.specs.declared.message.Message.{Message}
use Rattle.lint_messages.specs.Codes.{letters, symbol, bit}
use Rattle.lint_messages.specs.Templates.{text_of}
use Rattle.file_list.specs.declared.entry.Listed.{Listed}

-- the line that stands before the first message of a file
abbrev pub module_line : List ℕ → List ℕ
module_line name = codes "************* Module " ++ (name ++ codes "\n")

-- the line of a message: `path:line:column: code: text (symbol)`
abbrev pub message_line : List ℕ → Message → List ℕ
message_line path m = path ++ (codes ":" ++ (decimal m.pos.line ++ (codes ":" ++ (decimal m.pos.col ++ (codes ": " ++ (letters m.code ++ (codes ": " ++ (text_of m ++ (codes " (" ++ (symbol m.code ++ codes ")\n"))))))))))

-- the line of a message of this entry
abbrev pub line_of_message : Option Listed → Message → List (List ℕ)
line_of_message None m = []
line_of_message (Some listed) m = message_line listed.path m ∷ []

-- the module line where the file is another than the last
abbrev pub heading : Option ℕ → ℕ → Option Listed → List (List ℕ)
heading last file None = []
heading None file (Some listed) = module_line listed.module_name ∷ []
heading (Some last) file (Some listed) = if last == file then [] else module_line listed.module_name ∷ []

-- the lines that a message adds behind one of the last file
abbrev pub lines_of_message : List Listed → Option ℕ → Message → List (List ℕ)
lines_of_message reading last m = heading last m.file.0 (slice_get reading m.file.0) ++ line_of_message (slice_get reading m.file.0) m

-- the lines of these messages, behind a message of the last file
abbrev pub report_from : List Listed → Option ℕ → List Message → List (List ℕ)
report_from reading last [] = []
report_from reading last (m ∷ messages) = lines_of_message reading last m ++ report_from reading (Some m.file.0) messages

abbrev pub report : List Listed → List Message → List (List ℕ)
report reading messages = report_from reading None messages

-- the union of the messages' bits
abbrev pub bits : List Message → ℕ
bits messages = fold (λ all m. bit_or all (bit m.code)) 0 messages
