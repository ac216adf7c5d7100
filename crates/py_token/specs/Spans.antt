-- The part of the text that a token is.
use Rattle.std.specs.Prelude.{ℕ, ◌+◌, ◌-◌, ◌^◌, ◌<◌, ◌≤◌, List, length, slice_index_or}
use Rattle.py_source.specs.declared.span.Span.{Span}
use Rattle.py_source.specs.Spans.{IsPart}
use Rattle.py_token.specs.declared.token.Token.{Token}

abbrev pub span_of : Token → Span
span_of token = record { start = token.start; end = token.end }

-- each token is a part of the text
abbrev pub AreParts : List ℕ → List Token → Type 0
AreParts text tokens = (k : ℕ) (d : Token) → k < length tokens → IsPart text (span_of (slice_index_or tokens k d))

-- each byte of the token has a line and a column below 2^32
pub record IsRoomy (token : Token) : Type 0 where
  pub lines : token.pos.line + (token.end - token.start) ≤ 2 ^ 32
  pub columns : token.pos.col + (token.end - token.start) ≤ 2 ^ 32

abbrev pub AreRoomy : List Token → Type 0
AreRoomy tokens = (k : ℕ) (d : Token) → k < length tokens → IsRoomy (slice_index_or tokens k d)
