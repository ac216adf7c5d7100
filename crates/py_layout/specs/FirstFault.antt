-- The layout of a text, or its first fault: the first in text order, a line's indentation before what stands on the line,
-- and a bracket that stays open only where there is no other fault.
use Rattle.std.specs.Prelude.{◌≡◌, ℕ, ◌<◌, ◌≤◌, List, [], ◌∷◌, ◌++◌, Result, Ok, Err}
use Rattle.std.specs.Global.{Vec}
use Rattle.py_layout.specs.declared.item.Item.{Item}
use Rattle.py_layout.specs.declared.bracket.Opened.{Opened}
use Rattle.py_layout.specs.declared.logical.Logical.{Logical}
use Rattle.py_layout.specs.declared.fault.IndentationCause.{IndentationCause}
use Rattle.py_layout.specs.declared.fault.ItemCause.{ItemCause}
use Rattle.py_layout.specs.declared.fault.LayoutCause.{LayoutCause}
use Rattle.py_layout.specs.declared.fault.LayoutCause.TheVariants.{AtLine, AtItem, OpenBracket}
use Rattle.py_layout.specs.declared.fault.LayoutFault.{LayoutFault}
use Rattle.py_layout.specs.declared.fault.LayoutFault.TheVariants.{At, Memory}
use Rattle.py_layout.specs.Brackets.{left_open}
use Rattle.py_layout.specs.LogicalLines.{lines_of}
use Rattle.py_layout.specs.Indentation.{ground, levelled}

-- the first line that has no level begins at this item
abbrev pub IsLineFault : List Item → ℕ → IndentationCause → Type 0
IsLineFault items n cause = levelled ground (lines_of items) ≡ Err (n, cause)

-- this is the first item that may not stand where it does: a bracket, or a place where no token could be read
abbrev pub IsItemFault : List Item → ℕ → ItemCause → Type 0
IsItemFault items n cause = left_open items ≡ Err (n, cause)

-- this item is the outermost of the brackets that stay open
pub record IsOpenBracket (items : List Item) (n : ℕ) : Type 0 where
  pub inner : List Opened
  pub outermost : Opened
  pub stays : left_open items ≡ Ok (inner ++ outermost ∷ [])
  pub here : n ≡ outermost.place

-- the first fault of the items, by the item where it stands
abbrev pub IsFirstFault : List Item → ℕ → LayoutCause → Type 0
IsFirstFault items n (AtLine cause) = IsLineFault items n cause × ((m : ℕ) (other : ItemCause) → IsItemFault items m other → n ≤ m)
IsFirstFault items n (AtItem cause) = IsItemFault items n cause × ((m : ℕ) (other : IndentationCause) → IsLineFault items m other → n < m)
IsFirstFault items n OpenBracket = IsOpenBracket items n × ((m : ℕ) (other : IndentationCause) → IsLineFault items m other → ⊥)

-- every bracket is closed, every place could be read, and these are the logical lines with their levels
pub record IsLaidOut (items : List Item) (lines : List Logical) : Type 0 where
  pub closed : left_open items ≡ Ok []
  pub levels : levelled ground (lines_of items) ≡ Ok lines

-- what holds of a fault; want of memory is free
abbrev pub OnFault : (ℕ → LayoutCause → Type 0) → LayoutFault → Type 0
OnFault P (At n cause) = P n cause
OnFault P Memory = Unit {0}

-- the answer is these lines, or memory ran out
abbrev pub GivesOnly : Result (Vec Logical) LayoutFault → List Logical → Type 0
GivesOnly (Ok found) lines = found.items ≡ lines
GivesOnly (Err fault) lines = OnFault (λ _ _. ⊥) fault

-- the answer is this fault, or memory ran out
abbrev pub FaultsOnly : Result (Vec Logical) LayoutFault → ℕ → LayoutCause → Type 0
FaultsOnly (Ok found) n cause = ⊥
FaultsOnly (Err fault) n cause = OnFault (λ m other. (m ≡ n) × (other ≡ cause)) fault
