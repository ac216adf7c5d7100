-- Parts of a text, by byte places at which characters begin or the text ends.
use Rattle.std.specs.Prelude.{◌-◌, ◌≤◌, ℕ, List, take, drop}
use Rattle.std.specs.Str.{IsCharBoundary}
use Rattle.py_source.specs.declared.span.Span.{Span}

-- the span lies within the text and parts no character
pub record IsPart (text : List ℕ) (span : Span) : Type 0 where
  pub ordered : span.start ≤ span.end
  pub from_boundary : IsCharBoundary text span.start
  pub to_boundary : IsCharBoundary text span.end

-- the bytes of the span
abbrev pub bytes_of : List ℕ → Span → List ℕ
bytes_of text span = take (span.end - span.start) (drop span.start text)
