-- Which messages a logical line has: multiple-statements and unnecessary-semicolon.
use Rattle.std.specs.Prelude.{ℕ, ◌-◌, Bool, ◌&&◌, ◌||◌, ◌==◌, nat_lt, if◌then◌else◌, List, [], ◌∷◌, drop, Option, None, Some, codes, filter, map, slice_get}
use Rattle.std.specs.List.{flat_map, take_while, prefix_len}
use Rattle.std.specs.Str.{bytes_eq}
use Rattle.lint_values.specs.declared.place.FileId.{FileId}
use Rattle.lint_values.specs.declared.place.Pos.{Pos}
use Rattle.lint_messages.specs.declared.code.Code.TheVariants.{MultipleStatements, UnnecessarySemicolon}
use Rattle.lint_messages.specs.declared.message.Message.{Message}
use Rattle.py_layout.specs.declared.logical.Logical.{Logical}
use Rattle.py_source.specs.Spans.{bytes_of}
use Rattle.py_token.specs.declared.token.Token.{Token}
use Rattle.py_token.specs.Spans.{span_of}
use Rattle.py_token.specs.Tokenized.{Tokenized}
use Rattle.tree_nodes.specs.Trees.{Tree, node_at, kids_at}
use Rattle.scope_rules.specs.Nodes.{kind_of, nodes_of}
use Rattle.rule_nodes.specs.Kinds.{is_statement, is_expression_statement, is_ellipsis}
use Rattle.rule_nodes.specs.Nodes.{message_at}
use Rattle.check_basic.specs.LineRules.{message}
use Rattle.check_basic.specs.Kinds.{has_header}
use Rattle.check_basic.specs.Nodes.{is_sole}

-- ---- multiple-statements

-- a statement, or the header of a statement or clause: what a logical line holds
abbrev pub is_on_line : Tree → ℕ → Bool
is_on_line t n = is_statement (kind_of t n) || has_header (kind_of t n)

-- the statements and headers, in the order of the source
abbrev pub on_lines : Tree → List ℕ → List ℕ
on_lines t ns = filter (is_on_line t) ns

-- a place before another
abbrev pub is_before : Pos → Pos → Bool
is_before a b = nat_lt a.line b.line || (a.line == b.line && nat_lt a.col b.col)

-- the node begins before this place
abbrev pub begins_before : Tree → Pos → ℕ → Bool
begins_before t start n = is_before (node_at t n).pos start

-- where a token begins; where there is none, before all others
abbrev pub begin_of : Option Token → Pos
begin_of None = record { line = 0; col = 0 }
begin_of (Some token) = token.pos

-- where a logical line begins
abbrev pub start_of : Tokenized → Logical → Pos
start_of read line = begin_of (slice_get read.tokens line.first)

-- the statements and headers cut at the starts of the logical lines: those of each line begin before the next
abbrev pub cut : Tree → List Pos → List ℕ → List (List ℕ)
cut t [] ns = ns ∷ []
cut t (start ∷ starts) ns = take_while (begins_before t start) ns ∷ cut t starts (drop (prefix_len (begins_before t start) ns) ns)

-- the statement `...`
abbrev pub is_ellipsis_statement : Tree → ℕ → Bool
is_ellipsis_statement t n = is_expression_statement (kind_of t n) && is_sole (λ k. is_ellipsis (kind_of t k)) (kids_at t n)

-- a header, and `...` alone behind it
abbrev pub is_stub : Tree → ℕ → ℕ → Bool
is_stub t first second = has_header (kind_of t first) && is_ellipsis_statement t second

abbrev pub second_message : FileId → Tree → ℕ → Message
second_message file t second = message_at file t second MultipleStatements []

-- what stands on a line: the second is reported, unless the line is a stub
abbrev pub second_on_line : FileId → Tree → List ℕ → List Message
second_on_line file t [] = []
second_on_line file t (first ∷ []) = []
second_on_line file t (first ∷ second ∷ []) = if is_stub t first second then [] else second_message file t second ∷ []
second_on_line file t (first ∷ second ∷ third ∷ ns) = second_message file t second ∷ []

-- where all logical lines begin
abbrev pub starts : Tokenized → List Logical → List Pos
starts read lines = map (start_of read) lines

abbrev pub seconds : FileId → Tree → List (List ℕ) → List Message
seconds file t lines = flat_map (second_on_line file t) lines

-- the second statement of each logical line
abbrev pub multiple_statements : FileId → Tokenized → Tree → List Message
multiple_statements file read t = seconds file t (cut t (starts read read.lines) (on_lines t (nodes_of t)))

-- ---- unnecessary-semicolon

-- the token is a semicolon
abbrev pub is_semicolon : Tokenized → Token → Bool
is_semicolon read token = bytes_eq (bytes_of read.text (span_of token)) (codes ";")

-- a semicolon ends the logical line: a message on its own line
abbrev pub semicolon_message : FileId → Tokenized → Option Token → List Message
semicolon_message file read None = []
semicolon_message file read (Some token) = if is_semicolon read token then message file token.pos.line 0 UnnecessarySemicolon [] ∷ [] else []

-- the last token of a logical line
abbrev pub last_of : Tokenized → Logical → Option Token
last_of read line = slice_get read.tokens (line.end - 1)

abbrev pub semicolons : FileId → Tokenized → List Logical → List Message
semicolons file read lines = flat_map (λ line. semicolon_message file read (last_of read line)) lines

abbrev pub unnecessary_semicolons : FileId → Tokenized → List Message
unnecessary_semicolons file read = semicolons file read read.lines
