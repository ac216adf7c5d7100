-- Identifiers are compared by their normal form NFKC, as Python's reference says under "Identifiers and keywords".
use Rattle.std.specs.Prelude.{◌≡◌, ℕ, List, chars, encode_utf8_all}
use Rattle.std.specs.Str.{IsAscii, IsNotAscii}
use Rattle.unicode_normalization.specs.Forms.{nfkc}

-- the normal form of a text, both as their UTF-8 bytes
abbrev pub normal_form_of : List ℕ → List ℕ
normal_form_of name = encode_utf8_all (nfkc (chars name))

-- a text that is ASCII is its own normal form
pub record IsItsOwn (name : List ℕ) : Type 0 where
  pub ascii : IsAscii name
  pub own : normal_form_of name ≡ name

-- another text has this one
pub record IsNormalForm (name : List ℕ) (form : List ℕ) : Type 0 where
  pub wide : IsNotAscii name
  pub told : form ≡ normal_form_of name
