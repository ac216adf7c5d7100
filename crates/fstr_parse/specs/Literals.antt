-- Literal parts: the text of an f-string outside its fields. Doubled braces stand for braces outside formats, and
-- a backslash keeps no brace, but for the braces of `\N{NAME}` where escapes are read.
use Rattle.std.specs.Prelude.{◌≡◌, ◌≢◌, ℕ, Bool, true, false, not, ◌&&◌, ◌==◌, ◌⊎◌, List, [], ◌∷◌, ◌++◌, length}
use Rattle.std.specs.List.{concat, list_all}
use Rattle.fstr_parse.specs.Bytes.{Text, byte, is_brace}
use Rattle.fstr_parse.specs.Rows.{Row}

-- no `}`
abbrev pub is_in_name : ℕ → Bool
is_in_name b = not (b == 125)

-- behind the first byte stands `N{`, and escapes are read
abbrev pub names_character : Bool → Text → Bool
names_character raw text = not raw && (byte text 1 == 78 && byte text 2 == 123)

-- a unit of a literal part, under so many formats and before the text behind it: a byte that is neither a brace nor
-- a backslash; outside formats a doubled brace; `\N{NAME}`, which the text's end may cut off; a backslash with the byte
-- behind it; and a backslash alone, before a brace and at the end
pub data IsUnit (raw : Bool) (depth : ℕ) (unit behind : Text) : Type 0 where
  plain : (b : ℕ) → is_brace b ≡ false → b ≢ 92 → unit ≡ b ∷ [] → IsUnit raw depth unit behind
  doubled : (b : ℕ) → is_brace b ≡ true → depth ≡ 0 → unit ≡ b ∷ b ∷ [] → IsUnit raw depth unit behind
  named : (name : Text) → raw ≡ false → list_all is_in_name name ≡ true → unit ≡ 92 ∷ 78 ∷ 123 ∷ (name ++ 125 ∷ []) → IsUnit raw depth unit behind
  cut_off : (name : Text) → raw ≡ false → list_all is_in_name name ≡ true → behind ≡ [] → unit ≡ 92 ∷ 78 ∷ 123 ∷ name → IsUnit raw depth unit behind
  escape : (b : ℕ) → is_brace b ≡ false → names_character raw (92 ∷ b ∷ behind) ≡ false → unit ≡ 92 ∷ b ∷ [] → IsUnit raw depth unit behind
  alone : (behind ≡ []) ⊎ (is_brace (byte behind 0) ≡ true) → unit ≡ 92 ∷ [] → IsUnit raw depth unit behind

-- a literal part ends here: at the text's end, or at a brace, which outside formats is not doubled
abbrev pub EndsLiteral : ℕ → Text → Type 0
EndsLiteral depth text = (text ≡ []) ⊎ ((is_brace (byte text 0) ≡ true) × (depth ≡ 0 → byte text 1 ≢ byte text 0))

-- a unit opens and closes no format
abbrev pub same_depth : ℕ → Text → ℕ
same_depth depth text = depth

-- the text's first bytes, so many, are a row of units, as far as literal parts go
pub record IsLiteral (raw : Bool) (depth : ℕ) (text : Text) (len : ℕ) : Type 0 where
  pub units : List Text
  pub rest : Text
  pub is : text ≡ concat units ++ rest
  pub size : len ≡ length (concat units)
  pub row : Row (IsUnit raw) same_depth depth units depth rest
  pub ends : EndsLiteral depth rest
