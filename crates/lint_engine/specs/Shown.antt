-- What is found and shown of a reading, its messages and its statements: a relation, since where a source's first fault stands
-- is one, and so is which tree its tokens spell.
use Rattle.std.specs.Prelude.{◌≡◌, ℕ, ◌+◌, List, [], ◌∷◌, ◌++◌, Bool, true, false, not, ◌&&◌, ◌||◌, ◌==◌, codes, filter, map, Option, None, Some}
use Rattle.std.specs.Fmt.{decimal}
use Rattle.lint_values.specs.declared.place.FileId.{FileId}
use Rattle.lint_values.specs.declared.place.Pos.{Pos}
use Rattle.lint_messages.specs.declared.code.Code.{Code}
use Rattle.lint_messages.specs.declared.code.Code.TheVariants.{SyntaxError, Fatal, ParseError, UnknownOptionValue}
use Rattle.lint_messages.specs.declared.message.Message.{Message}
use Rattle.lint_messages.specs.Codes.{category}
use Rattle.lint_messages.specs.Order.{in_order}
use Rattle.options.specs.Settings.{Settings}
use Rattle.options.specs.Switches.{is_on}
use Rattle.file_list.specs.declared.entry.Entry.{Entry}
use Rattle.file_list.specs.declared.entry.Entry.TheVariants as entry
use Rattle.file_list.specs.declared.entry.Listed.{Listed}
use Rattle.py_token.specs.declared.fault.TokenCause.{TokenCause}
use Rattle.py_token.specs.declared.fault.TokenCause.TheVariants.{NotUtf8, NulByte, Coding, BadChar, OpenString, OpenBracket, CloseBracket, Dedent, TabMix, TooDeep, BadNumber, Continuation}
use Rattle.py_token.specs.FirstFault.{IsFirstFault}
use Rattle.py_token.specs.Tokenized.{Tokenized, IsTokenized}
use Rattle.tree_nodes.specs.Trees.{Tree}
use Rattle.parse_stmt.specs.declared.fault.LineCause.TheVariants.{NoForm, Field}
use Rattle.parse_stmt.specs.declared.fault.SyntaxCause.{SyntaxCause}
use Rattle.parse_stmt.specs.declared.fault.SyntaxCause.TheVariants as syntax
use Rattle.parse_stmt.specs.Spelling.{Spells, IsFault}
use Rattle.pragma_scope.specs.declared.row.BadName.{BadName}
use Rattle.pragma_scope.specs.declared.row.Row.{Row}
use Rattle.pragma_scope.specs.Pragmas.{pragmas_of, skips_file, state_of}
use Rattle.check_basic.specs.LineRules.{message, source_messages}
use Rattle.check_basic.specs.TreeRules.{tree_messages, statement_count}
use Rattle.check_names.specs.NameRules.{is_package_file, name_messages}
use Rattle.lint_report.specs.declared.findings.Findings.{Findings}

-- why a source can't be read as tokens
abbrev pub reason_of : TokenCause → List ℕ
reason_of NotUtf8 = codes "source is not UTF-8"
reason_of NulByte = codes "source has a NUL byte"
reason_of Coding = codes "another encoding is named"
reason_of BadChar = codes "invalid character"
reason_of OpenString = codes "string is not closed"
reason_of OpenBracket = codes "bracket is not closed"
reason_of CloseBracket = codes "unmatched closing bracket"
reason_of Dedent = codes "indentation matches no outer level"
reason_of TabMix = codes "inconsistent tabs and spaces"
reason_of TooDeep = codes "too many levels"
reason_of BadNumber = codes "invalid number"
reason_of Continuation = codes "nothing may follow a backslash"

-- why the tokens of a source spell no tree
abbrev pub syntax_reason : SyntaxCause → List ℕ
syntax_reason (syntax.Line NoForm) = codes "invalid syntax"
syntax_reason (syntax.Line (Field fault)) = codes "invalid f-string field"
syntax_reason syntax.Follows = codes "clause without its opener"
syntax_reason syntax.NeedsBlock = codes "expected an indented block"
syntax_reason syntax.Unexpected = codes "unexpected indentation"

-- syntax-error at a place, with its reason
abbrev pub syntax_error : FileId → Pos → List ℕ → Message
syntax_error file pos reason = message file pos.line pos.col SyntaxError (reason ∷ decimal pos.line ∷ [])

-- the head of a line
abbrev pub head_of : ℕ → Pos
head_of line = record { line = line; col = 0 }

-- ---- what is found

-- nothing
abbrev pub nothing : Findings
nothing = record { messages = []; statements = 0 }

-- one message alone, and no statements
abbrev pub alone : Message → Findings
alone message = record { messages = message ∷ []; statements = 0 }

-- what the one part has and then what the other has
abbrev pub together : Findings → Findings → Findings
together one other = record { messages = one.messages ++ other.messages; statements = one.statements + other.statements }

-- unknown-option-value for a name in a pragma that no message can have, at the head of its line
abbrev pub bad_name_message : FileId → BadName → Message
bad_name_message file bad = message file bad.line 0 UnknownOptionValue (bad.action ∷ bad.word ∷ [])

abbrev pub bad_name_messages : FileId → List BadName → List Message
bad_name_messages file names = map (bad_name_message file) names

-- the messages of a source's lines, of its tokens and tree, and of its names
abbrev pub rule_messages : Settings → List Listed → FileId → List ℕ → Tokenized → Tree → List Message
rule_messages options reading file bytes tokens tree =
    (source_messages options file bytes ++ tree_messages options file tokens tree) ++ name_messages options file (is_package_file reading file) tree

-- those messages and those of its pragmas, in their order, and its statements
abbrev pub found_in : Settings → List Listed → FileId → List ℕ → Tokenized → Tree → Findings
found_in options reading file bytes tokens tree = record {
  messages = in_order (rule_messages options reading file bytes tokens tree ++ bad_name_messages file (pragmas_of tokens tree).bad_names);
  statements = statement_count tree;
}

-- the one message of an entry that was not read, at the head of its file
abbrev pub unread : FileId → Code → List ℕ → Findings
unread file code arg = alone (message file 1 0 code (arg ∷ []))

-- ---- what is shown

-- an error, or a fatal message
abbrev pub is_error : Code → Bool
is_error code = category code == 69 || category code == 70

-- what pragmas say, and where they say nothing, the options
abbrev pub first_said : Option Bool → Bool → Bool
first_said None by_options = by_options
first_said (Some by_pragmas) by_options = by_pragmas

-- the message is on, by the pragmas at its line and then by the options
abbrev pub is_on_there : Settings → List Row → Message → Bool
is_on_there options pragmas message = first_said (state_of pragmas message.code message.pos.line) (is_on options.switches message.code)

-- the message is shown: it is on, and an error where errors alone are shown
abbrev pub is_shown : Settings → List Row → Message → Bool
is_shown options pragmas message = is_on_there options pragmas message && (not options.errors_only || is_error message.code)

-- what pragmas and options show of what is found
abbrev pub shown_by : Settings → List Row → Findings → Findings
shown_by options pragmas found = record { messages = filter (is_shown options pragmas) found.messages; statements = found.statements }

-- what options alone show of what is found
abbrev pub shown_of : Settings → Findings → Findings
shown_of options found = shown_by options [] found

-- What is shown of a file's bytes: one message alone at the first fault of its tokens; nothing where a pragma skips the file; where
-- no tree is spelled, one message at the head of the first line at fault; and else of what is found in the source, what its pragmas
-- and the options show.
pub data IsSourceShown (options : Settings) (reading : List Listed) (file : FileId) (bytes : List ℕ) (shown : Findings) : Type 0 where
  faulty : (pos : Pos) (cause : TokenCause) → IsFirstFault bytes pos cause → shown ≡ shown_of options (alone (syntax_error file pos (reason_of cause))) → IsSourceShown options reading file bytes shown
  skipped : (tokens : Tokenized) → IsTokenized bytes tokens → skips_file tokens ≡ true → shown ≡ nothing → IsSourceShown options reading file bytes shown
  formless : (tokens : Tokenized) (line : ℕ) (cause : SyntaxCause) → IsTokenized bytes tokens → skips_file tokens ≡ false → IsFault tokens line cause
      → shown ≡ shown_of options (alone (syntax_error file (head_of line) (syntax_reason cause))) → IsSourceShown options reading file bytes shown
  read : (tokens : Tokenized) (tree : Tree) → IsTokenized bytes tokens → skips_file tokens ≡ false → Spells tokens tree
      → shown ≡ shown_by options (pragmas_of tokens tree).rows (found_in options reading file bytes tokens tree) → IsSourceShown options reading file bytes shown

-- what is shown of an entry: fatal where nothing is there to be linted, parse-error where it can't be read
abbrev pub IsEntryShown : Settings → List Listed → FileId → List ℕ → Entry → Findings → Type 0
IsEntryShown options reading file path (entry.Source bytes) shown = IsSourceShown options reading file bytes shown
IsEntryShown options reading file path entry.Missing shown = shown ≡ shown_of options (unread file Fatal path)
IsEntryShown options reading file path entry.NoPackage shown = shown ≡ shown_of options (unread file Fatal path)
IsEntryShown options reading file path entry.Failed shown = shown ≡ shown_of options (unread file ParseError (codes "read failed"))
IsEntryShown options reading file path entry.TooLarge shown = shown ≡ shown_of options (unread file ParseError (codes "file too large"))
IsEntryShown options reading file path entry.TooMany shown = shown ≡ shown_of options (unread file ParseError (codes "too many files"))
IsEntryShown options reading file path entry.TooDeep shown = shown ≡ shown_of options (unread file ParseError (codes "folders too deep"))
IsEntryShown options reading file path entry.TooMuch shown = shown ≡ shown_of options (unread file ParseError (codes "sources too large"))

-- a first part meets one fact and the rest another
pub record InTwo (First Rest : Findings → Type 0) (found : Findings) : Type 0 where
  pub first : Findings
  pub rest : Findings
  pub is : found ≡ together first rest
  pub of_first : First first
  pub of_rest : Rest rest

-- what is shown of these entries of a reading, the first of which has this number
abbrev pub IsShownFrom : Settings → List Listed → ℕ → List Listed → Findings → Type 0
IsShownFrom options reading number [] found = found ≡ nothing
IsShownFrom options reading number (listed ∷ left) found =
    InTwo (IsEntryShown options reading (record { 0 = number }) listed.path listed.entry) (IsShownFrom options reading (number + 1) left) found

-- what is shown of a reading, in the order of its entries
abbrev pub IsShown : Settings → List Listed → Findings → Type 0
IsShown options reading found = IsShownFrom options reading 0 reading found
