-- The lines on which a comment behind code acts: those of its logical line, and where that is the header of an indented
-- block, those of the block too.
use Rattle.std.specs.Prelude.{ℕ, ◌+◌, ◌-◌, Bool, nat_lt, List, length, drop, take, slice_get, Option, None, Some}
use Rattle.std.specs.List.{prefix_len, take_while}
use Rattle.py_layout.specs.declared.logical.Logical.{Logical}
use Rattle.py_source.specs.Places.{pos_of}
use Rattle.py_source.specs.Spans.{bytes_of}
use Rattle.py_token.specs.declared.token.Comment.{Comment}
use Rattle.py_token.specs.declared.token.Token.{Token}
use Rattle.py_token.specs.Spans.{span_of}
use Rattle.py_token.specs.Tokenized.{Tokenized}
use Rattle.pragma_scope.specs.declared.region.Region.{Region}

-- the byte place where a token begins
abbrev pub place_of : Option Token → ℕ
place_of None = 0
place_of (Some token) = token.start

-- the line where a token begins
abbrev pub line_of : Option Token → ℕ
line_of None = 0
line_of (Some token) = token.pos.line

-- the line where a text ends that begins on this line
abbrev pub end_line : ℕ → List ℕ → ℕ
end_line line text = line + ((pos_of text (length text - 1)).line - 1)

-- the line where a token ends
abbrev pub end_of : List ℕ → Option Token → ℕ
end_of text None = 0
end_of text (Some token) = end_line token.pos.line (bytes_of text (span_of token))

-- the first line of a logical line
abbrev pub first_line : Tokenized → Logical → ℕ
first_line read line = line_of (slice_get read.tokens line.first)

-- the last line of a logical line
abbrev pub last_line : Tokenized → Logical → ℕ
last_line read line = end_of read.text (slice_get read.tokens (line.end - 1))

-- the last of some logical lines
abbrev pub last_of : List Logical → Option Logical
last_of lines = slice_get lines (length lines - 1)

-- a logical line begins before a place
abbrev pub begins_before : Tokenized → ℕ → Logical → Bool
begins_before read place line = nat_lt (place_of (slice_get read.tokens line.first)) place

-- how many logical lines begin before a place: that of a comment there is the last of them
abbrev pub begun : Tokenized → ℕ → ℕ
begun read place = prefix_len (begins_before read place) read.lines

-- the logical lines that are indented deeper, up to the first that is not: behind a header, its indented block
abbrev pub deeper : ℕ → List Logical → List Logical
deeper level lines = take_while (λ line. nat_lt level line.level) lines

-- the last line of some logical lines behind one, or its own
abbrev pub last_line_or : Tokenized → Logical → Option Logical → ℕ
last_line_or read line None = last_line read line
last_line_or read line (Some last) = last_line read last

-- a logical line with what is indented deeper behind it
abbrev pub region_from : Tokenized → Logical → List Logical → Region
region_from read line lines = record { first = first_line read line; last = last_line_or read line (last_of (deeper line.level lines)) }

-- the region of a logical line, where there is one, with those behind it
abbrev pub region_or : Tokenized → Comment → Option Logical → List Logical → Region
region_or read comment None lines = record { first = comment.pos.line; last = comment.pos.line }
region_or read comment (Some line) lines = region_from read line lines

-- the region of a comment behind code
abbrev pub line_region : Tokenized → Comment → Region
line_region read comment = region_or read comment (last_of (take (begun read comment.start) read.lines)) (drop (begun read comment.start) read.lines)
