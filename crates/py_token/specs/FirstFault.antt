-- The first fault of a source: that of the file as a whole, or else the first in text order, lexical or of the layout.
use Rattle.std.specs.Prelude.{◌≡◌, ℕ, zero, suc, List, [], ◌∷◌, drop, chars, Option, Some, None, ◌⊎◌}
use Rattle.lint_values.specs.declared.place.Pos.{Pos}
use Rattle.py_source.specs.declared.decoding.SourceCause.{SourceCause}
use Rattle.py_source.specs.declared.decoding.SourceCause.TheVariants as source
use Rattle.py_source.specs.Decoding.{IsSourceFault, IsFaultless, without_mark}
use Rattle.py_source.specs.Places.{pos_from, pos_of}
use Rattle.py_lexeme.specs.declared.piece.Cause.{Cause}
use Rattle.py_lexeme.specs.declared.piece.Cause.TheVariants as lexical
use Rattle.py_lexeme.specs.declared.piece.Piece.{Piece}
use Rattle.py_lexeme.specs.declared.piece.Stop.{Stop}
use Rattle.py_lexeme.specs.Faults.{IsCut}
use Rattle.py_layout.specs.declared.fault.IndentationCause.{IndentationCause}
use Rattle.py_layout.specs.declared.fault.IndentationCause.TheVariants as indentation
use Rattle.py_layout.specs.declared.fault.ItemCause.TheVariants as item
use Rattle.py_layout.specs.declared.fault.LayoutCause.{LayoutCause}
use Rattle.py_layout.specs.declared.fault.LayoutCause.TheVariants.{AtLine, AtItem, OpenBracket as open_bracket}
use Rattle.py_layout.specs.FirstFault as layout
use Rattle.py_token.specs.declared.fault.TokenCause.{TokenCause}
use Rattle.py_token.specs.declared.fault.TokenCause.TheVariants as cause
use Rattle.py_token.specs.Items.{all_items}
use Rattle.py_token.specs.Scanned.{start_of}
use Rattle.py_token.specs.Settings.{seen, whole}
use Rattle.py_token.specs.declared.setting.Setting.{Setting}

abbrev pub source_cause : SourceCause → TokenCause
source_cause source.NotUtf8 = cause.NotUtf8
source_cause source.NulByte = cause.NulByte
source_cause source.Coding = cause.Coding

abbrev pub lexical_cause : Cause → TokenCause
lexical_cause lexical.BadChar = cause.BadChar
lexical_cause lexical.OpenString = cause.OpenString
lexical_cause lexical.BadNumber = cause.BadNumber
lexical_cause lexical.Continuation = cause.Continuation

abbrev pub line_cause : IndentationCause → TokenCause
line_cause indentation.Dedent = cause.Dedent
line_cause indentation.TabMix = cause.TabMix
line_cause indentation.TooDeep = cause.TooDeep

-- the cause of a fault that the layout tells, where a stop is the cut's
abbrev pub text_cause : Option Stop → LayoutCause → TokenCause
text_cause stop (AtLine found) = line_cause found
text_cause stop (AtItem item.CloseBracket) = cause.CloseBracket
text_cause stop (AtItem item.TooDeep) = cause.TooDeep
text_cause None (AtItem item.Stopped) = cause.BadChar
text_cause (Some stop) (AtItem item.Stopped) = lexical_cause stop.cause
text_cause stop open_bracket = cause.OpenBracket

-- the characters from item n on
abbrev pub rest_at : List ℕ → List Piece → ℕ → List ℕ
rest_at cs pieces zero = cs
rest_at cs [] (suc n) = cs
rest_at cs (piece ∷ pieces) (suc n) = rest_at (drop piece.len cs) pieces n

-- the characters from the stop of the cut on, where it has one
abbrev pub stop_rest : List ℕ → List ℕ → Option Stop → List ℕ
stop_rest cs rest None = rest
stop_rest cs rest (Some stop) = drop stop.place cs

-- the characters from the fault on: a stop stands where the cut says, and another fault at its item
abbrev pub fault_rest : List ℕ → List Piece → Option Stop → ℕ → LayoutCause → List ℕ
fault_rest cs pieces stop n (AtItem item.Stopped) = stop_rest cs (rest_at cs pieces n) stop
fault_rest cs pieces stop n (AtItem item.CloseBracket) = rest_at cs pieces n
fault_rest cs pieces stop n (AtItem item.TooDeep) = rest_at cs pieces n
fault_rest cs pieces stop n (AtLine found) = rest_at cs pieces n
fault_rest cs pieces stop n open_bracket = rest_at cs pieces n

-- the first fault of a text that stands so: that of the items of its pieces, with a stop behind them where no piece could be read
pub record IsTextFault (setting : Setting) (text : List ℕ) (pos : Pos) (cause : TokenCause) : Type 0 where
  pub pieces : List Piece
  pub stop : Option Stop
  pub place : ℕ
  pub found : LayoutCause
  pub cut : IsCut (chars text) pieces stop
  pub first : layout.IsFirstFault (seen setting.inside (all_items (chars text) pieces stop)) place found
  pub here : pos ≡ pos_from setting.from (start_of text (fault_rest (chars text) pieces stop place found)) text
  pub told : cause ≡ text_cause stop found

-- the fault of the file as a whole
pub record IsFileFault (bytes : List ℕ) (pos : Pos) (cause : TokenCause) : Type 0 where
  pub place : ℕ
  pub found : SourceCause
  pub fault : IsSourceFault bytes place found
  pub here : pos ≡ pos_of (without_mark bytes) place
  pub told : cause ≡ source_cause found

-- the first fault of a source, where it stands and why
abbrev pub IsFirstFault : List ℕ → Pos → TokenCause → Type 0
IsFirstFault bytes pos cause = IsFileFault bytes pos cause ⊎ (IsFaultless bytes × IsTextFault whole (without_mark bytes) pos cause)
