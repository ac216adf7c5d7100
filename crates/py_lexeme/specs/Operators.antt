-- Operators and delimiters, as Python's reference lists them under "Operators" and "Delimiters".
use Rattle.std.specs.Prelude.{Bool, List, [], ◌∷◌, codes}
use Rattle.std.specs.Str.{bytes_eq}
use Rattle.std.specs.List.{list_any}
use Rattle.py_lexeme.specs.Characters.{Text}

unfoldable pub operators : List Text
operators =
    codes "+" ∷ codes "-" ∷ codes "*" ∷ codes "**" ∷ codes "/" ∷ codes "//" ∷ codes "%" ∷ codes "@" ∷
    codes "<<" ∷ codes ">>" ∷ codes "&" ∷ codes "|" ∷ codes "^" ∷ codes "~" ∷ codes ":=" ∷ codes "<" ∷
    codes ">" ∷ codes "<=" ∷ codes ">=" ∷ codes "==" ∷ codes "!=" ∷ codes "(" ∷ codes ")" ∷ codes "[" ∷
    codes "]" ∷ codes "{" ∷ codes "}" ∷ codes "," ∷ codes ":" ∷ codes "." ∷ codes ";" ∷ codes "=" ∷
    codes "->" ∷ codes "+=" ∷ codes "-=" ∷ codes "*=" ∷ codes "/=" ∷ codes "//=" ∷ codes "%=" ∷ codes "@=" ∷
    codes "&=" ∷ codes "|=" ∷ codes "^=" ∷ codes ">>=" ∷ codes "<<=" ∷ codes "**=" ∷ codes "..." ∷
    []

abbrev pub is_operator : Text → Bool
is_operator t = list_any (bytes_eq t) operators
