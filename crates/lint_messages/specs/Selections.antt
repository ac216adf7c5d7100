-- What a message name in an option or a pragma names.
use Rattle.std.specs.Prelude.{ℕ, List, [], ◌∷◌, Bool, false, not, ◌&&◌, ◌||◌, ◌==◌, if◌then◌else◌, nat_le, length, codes, find, Option, None, Some}
use Rattle.std.specs.List.{list_all}
use Rattle.std.specs.Str.{bytes_eq}
use Rattle.lint_messages.specs.declared.code.Code.{Code}
use Rattle.lint_messages.specs.declared.code.TheConstants.{ALL_CODES}
use Rattle.lint_messages.specs.declared.selection.Selection.{Selection}
use Rattle.lint_messages.specs.declared.selection.Selection.TheVariants.{One, Category, All, Unknown, BadName}
use Rattle.lint_messages.specs.Codes.{letters, symbol}

abbrev pub is_between : ℕ → ℕ → ℕ → Bool
is_between low high c = nat_le low c && nat_le c high

abbrev pub is_digit : ℕ → Bool
is_digit c = is_between 48 57 c

-- F, E, W, R or C
abbrev pub is_category : ℕ → Bool
is_category c = c == 70 || c == 69 || c == 87 || c == 82 || c == 67

abbrev pub is_symbol_byte : ℕ → Bool
is_symbol_byte c = is_between 97 122 c || is_digit c || c == 45

-- lower-case letters, digits and dashes
abbrev pub has_symbol_form : List ℕ → Bool
has_symbol_form name = not (length name == 0) && list_all is_symbol_byte name

-- a capital and four digits
abbrev pub has_code_form : List ℕ → Bool
has_code_form [] = false
has_code_form (c ∷ cs) = is_between 65 90 c && length cs == 4 && list_all is_digit cs

-- the letters or the symbol of the code
abbrev pub is_named : List ℕ → Code → Bool
is_named name code = bytes_eq name (letters code) || bytes_eq name (symbol code)

abbrev pub named_code : List ℕ → Option Code
named_code name = find (is_named name) ALL_CODES

-- the code that was found, or a name of the form that messages have
abbrev pub selection_by : List ℕ → Option Code → Selection
selection_by name (Some code) = One code
selection_by name None = if has_symbol_form name || has_code_form name then Unknown else BadName

-- a category by its letter; the letter I names none of those that are here
abbrev pub letter_or : List ℕ → Selection → Selection
letter_or (c ∷ []) other = if is_category c then Category c else (if c == 73 then Unknown else other)
letter_or _ other = other

abbrev pub selection_of : List ℕ → Selection
selection_of name = if bytes_eq name (codes "all") then All else letter_or name (selection_by name (named_code name))
