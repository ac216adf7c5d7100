-- The tokens of a source: its pieces cover the text, each bracket is closed, and each logical line has a level.
use Rattle.std.specs.Prelude.{◌≡◌, ℕ, not, List, chars, None, Result, Ok, Err}
use Rattle.lint_values.specs.declared.place.Pos.{Pos}
use Rattle.py_source.specs.declared.span.Span.{Span}
use Rattle.py_source.specs.Decoding.{IsFaultless, without_mark}
use Rattle.py_source.specs.Physical.{ArePhysical}
use Rattle.py_lexeme.specs.declared.piece.Piece.{Piece}
use Rattle.py_lexeme.specs.Faults.{IsCut}
use Rattle.py_layout.specs.declared.logical.Logical.{Logical}
use Rattle.py_layout.specs.FirstFault.{IsLaidOut}
use Rattle.py_token.specs.declared.fault.TokenCause.{TokenCause}
use Rattle.py_token.specs.declared.fault.TokenFault.{TokenFault}
use Rattle.py_token.specs.declared.fault.TokenFault.TheVariants.{At, Memory}
use Rattle.py_token.specs.declared.token.Comment.{Comment}
use Rattle.py_token.specs.declared.token.Token.{Token}
use Rattle.py_token.specs.Items.{items_of}
use Rattle.py_token.specs.Scanned.{comments_from, tokens_from}
use Rattle.py_token.specs.Settings.{seen, whole}
use Rattle.py_token.specs.declared.setting.Setting.{Setting}

-- what a source is read as
pub record Tokenized : Type 0 where
  pub text : List ℕ
  pub tokens : List Token
  pub lines : List Logical
  pub comments : List Comment
  pub physical : List Span

-- a text that stands so is read as this: its pieces cover it, and their items have a layout; behind what stands before
-- brackets no comment of the first line is alone
pub record IsRead (setting : Setting) (text : List ℕ) (read : Tokenized) : Type 0 where
  pub pieces : List Piece
  pub cut : IsCut (chars text) pieces None
  pub same : read.text ≡ text
  pub tokens : read.tokens ≡ tokens_from setting.from text (chars text) pieces
  pub lines : IsLaidOut (seen setting.inside (items_of (chars text) pieces)) read.lines
  pub comments : read.comments ≡ comments_from setting.from text (not setting.inside) (chars text) pieces
  pub physical : ArePhysical text read.physical

-- the source is read as this
pub record IsTokenized (bytes : List ℕ) (read : Tokenized) : Type 0 where
  pub faultless : IsFaultless bytes
  pub text : IsRead whole (without_mark bytes) read

-- what holds of a fault; want of memory is free
abbrev pub OnFault : (Pos → TokenCause → Type 0) → TokenFault → Type 0
OnFault P (At pos cause) = P pos cause
OnFault P Memory = Unit {0}

-- the answer is this, or memory ran out
abbrev pub GivesOnly : Result Tokenized TokenFault → Tokenized → Type 0
GivesOnly (Ok found) read = found ≡ read
GivesOnly (Err fault) read = OnFault (λ _ _. ⊥) fault

-- the answer is this fault, or memory ran out
abbrev pub FaultsOnly : Result Tokenized TokenFault → Pos → TokenCause → Type 0
FaultsOnly (Ok found) pos cause = ⊥
FaultsOnly (Err fault) pos cause = OnFault (λ at other. (at ≡ pos) × (other ≡ cause)) fault
