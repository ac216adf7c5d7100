-- Brackets: a closing bracket closes the innermost open one, which is of its kind, and at most 200 are open at a time.
use Rattle.std.specs.Prelude.{ℕ, ◌+◌, ◌==◌, Bool, true, false, if◌then◌else◌, List, [], ◌∷◌, length, Result, Ok, Err}
use Rattle.py_layout.specs.declared.item.Bracket.{Bracket}
use Rattle.py_layout.specs.declared.item.Bracket.TheVariants.{Round, Square, Curly}
use Rattle.py_layout.specs.declared.item.Item.{Item}
use Rattle.py_layout.specs.declared.item.Item.TheVariants.{Blank, Comment, Join, LineEnd, Open, Close, Plain, Stop}
use Rattle.py_layout.specs.declared.bracket.Opened.{Opened}
use Rattle.py_layout.specs.declared.fault.ItemCause.{ItemCause}
use Rattle.py_layout.specs.declared.fault.ItemCause.TheVariants.{CloseBracket, TooDeep, Stopped}

abbrev pub is_same : Bracket → Bracket → Bool
is_same Round Round = true
is_same Square Square = true
is_same Curly Curly = true
is_same _ _ = false

-- The brackets that stand open behind the items, the innermost first, where these stand open before them and so many items
-- come before; or the first item that may not stand there, and why.
abbrev pub open_behind : List Opened → ℕ → List Item → Result (List Opened) (ℕ × ItemCause)
open_behind opened place [] = Ok opened
open_behind opened place (Open bracket ∷ items) =
    if length opened == 200 then Err (place, TooDeep) else open_behind (record { bracket = bracket; place = place } ∷ opened) (place + 1) items
open_behind [] place (Close bracket ∷ items) = Err (place, CloseBracket)
open_behind (innermost ∷ opened) place (Close bracket ∷ items) =
    if is_same innermost.bracket bracket then open_behind opened (place + 1) items else Err (place, CloseBracket)
open_behind opened place (Stop ∷ items) = Err (place, Stopped)
open_behind opened place (Blank widths ∷ items) = open_behind opened (place + 1) items
open_behind opened place (Comment ∷ items) = open_behind opened (place + 1) items
open_behind opened place (Join ∷ items) = open_behind opened (place + 1) items
open_behind opened place (LineEnd ∷ items) = open_behind opened (place + 1) items
open_behind opened place (Plain ∷ items) = open_behind opened (place + 1) items

-- the brackets that the items leave open, or the first item that may not stand where it does
abbrev pub left_open : List Item → Result (List Opened) (ℕ × ItemCause)
left_open items = open_behind [] 0 items
