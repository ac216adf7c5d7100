-- What the parts of the layout answer, as the code goes from part to part. Want of memory is free.
use Rattle.std.specs.Prelude.{◌≡◌, ℕ, ◌<◌, length, slice_index_or, nat_lt, if◌then◌else◌, List, [], ◌∷◌, ◌++◌, reverse, Result, Ok, Err}
use Rattle.std.specs.Global.{Vec}
use Rattle.py_layout.specs.declared.bracket.Opened.{Opened}
use Rattle.py_layout.specs.declared.bracket.BracketFault.{BracketFault}
use Rattle.py_layout.specs.declared.bracket.BracketFault.TheVariants as bracket_fault
use Rattle.py_layout.specs.declared.indentation.EnterFault.{EnterFault}
use Rattle.py_layout.specs.declared.indentation.EnterFault.TheVariants as enter_fault
use Rattle.py_layout.specs.declared.logical.Logical.{Logical}
use Rattle.py_layout.specs.declared.logical.LineFault.{LineFault}
use Rattle.py_layout.specs.declared.logical.LineFault.TheVariants as line_fault
use Rattle.py_layout.specs.declared.fault.IndentationCause.{IndentationCause}
use Rattle.py_layout.specs.declared.fault.ItemCause.{ItemCause}
use Rattle.py_layout.specs.declared.fault.LayoutFault.{LayoutFault}
use Rattle.py_layout.specs.declared.fault.LayoutFault.TheVariants.{At, Memory}
use Rattle.py_layout.specs.declared.fault.LayoutCause.TheVariants.{AtLine, AtItem}
use Rattle.py_layout.specs.Indentation.{Stack, enter, logical_of}
use Rattle.py_layout.specs.LogicalLines.{Line}

-- the brackets that are left open, in the order in which they were opened
abbrev pub IsBracketFault : BracketFault → Result (List Opened) (ℕ × ItemCause) → Type 0
IsBracketFault (bracket_fault.At n cause) right = right ≡ Err (n, cause)
IsBracketFault bracket_fault.Memory right = Unit {0}

abbrev pub LeavesOpen : Result (Vec Opened) BracketFault → Result (List Opened) (ℕ × ItemCause) → Type 0
LeavesOpen (Ok opened) right = right ≡ Ok (reverse opened.items)
LeavesOpen (Err fault) right = IsBracketFault fault right

-- each of these brackets is one of the first n items
abbrev pub AllWithin : ℕ → List Opened → Type 0
AllWithin n opened = (k : ℕ) (d : Opened) → k < length opened → (slice_index_or opened k d).place < n

abbrev pub IsBracketWithin : ℕ → BracketFault → Type 0
IsBracketWithin n (bracket_fault.At place cause) = place < n
IsBracketWithin n bracket_fault.Memory = Unit {0}

-- what is answered are some of the first n items
abbrev pub AreWithin : Result (Vec Opened) BracketFault → ℕ → Type 0
AreWithin (Ok opened) n = AllWithin n opened.items
AreWithin (Err fault) n = IsBracketWithin n fault

-- the stack behind one line
abbrev pub IsEnterFault : EnterFault → Result Stack IndentationCause → Type 0
IsEnterFault (enter_fault.Cause cause) right = right ≡ Err cause
IsEnterFault enter_fault.Memory right = Unit {0}

abbrev pub Enters : Result (Unit {0}) EnterFault → Result Stack IndentationCause → Stack → Type 0
Enters (Ok u) right stack = right ≡ Ok stack
Enters (Err fault) right stack = IsEnterFault fault right

-- the line begins at one of the first n items
abbrev pub IsLineWithin : ℕ → LineFault → Type 0
IsLineWithin n (line_fault.At place cause) = place < n
IsLineWithin n line_fault.Memory = Unit {0}

-- the fault of a line that begins here
abbrev pub line_fault_at : ℕ → EnterFault → LineFault
line_fault_at place (enter_fault.Cause cause) = line_fault.At place cause
line_fault_at place enter_fault.Memory = line_fault.Memory

-- The part's line is added with its level and the stack is that behind it, or the line has no level. Stacks stand with the
-- innermost entry first.
abbrev pub IsLineAdded : Stack → List Line → Stack → List Logical → List Logical → Type 0
IsLineAdded before [] behind old new = (before ≡ behind) × (old ≡ new)
IsLineAdded before (line ∷ lines) behind old new = (enter before line.widths ≡ Ok behind) × (new ≡ old ++ logical_of line behind ∷ [])

abbrev pub HasNoLevel : Stack → List Line → ℕ → IndentationCause → Type 0
HasNoLevel before [] n cause = ⊥
HasNoLevel before (line ∷ lines) n cause = (enter before line.widths ≡ Err cause) × (n ≡ line.place)

abbrev pub IsAddFault : LineFault → Stack → List Line → Type 0
IsAddFault (line_fault.At n cause) before lines = HasNoLevel before lines n cause
IsAddFault line_fault.Memory before lines = Unit {0}

abbrev pub AddsLine : Result ℕ LineFault → Stack → List Line → Stack → List Logical → List Logical → Type 0
AddsLine (Ok n) before lines behind old new = IsLineAdded before lines behind old new
AddsLine (Err fault) before lines behind old new = IsAddFault fault before lines

-- lines, and then what is right for those behind them
abbrev pub onto_all : List Logical → Result (List Logical) (ℕ × IndentationCause) → Result (List Logical) (ℕ × IndentationCause)
onto_all lines (Ok more) = Ok (lines ++ more)
onto_all lines (Err fault) = Err fault

abbrev pub IsLinesFault : LineFault → Result (List Logical) (ℕ × IndentationCause) → Type 0
IsLinesFault (line_fault.At n cause) right = right ≡ Err (n, cause)
IsLinesFault line_fault.Memory right = Unit {0}

abbrev pub GivesLines : Result (Vec Logical) LineFault → Result (List Logical) (ℕ × IndentationCause) → Type 0
GivesLines (Ok lines) right = right ≡ Ok lines.items
GivesLines (Err fault) right = IsLinesFault fault right

-- a fault of an item, as one of the layout
abbrev pub item_fault : BracketFault → LayoutFault
item_fault (bracket_fault.At n cause) = At n (AtItem cause)
item_fault bracket_fault.Memory = Memory

-- a line's fault, where it comes no later than the other
abbrev pub earlier : ℕ → IndentationCause → LayoutFault → LayoutFault
earlier place cause (At n found) = if nat_lt n place then At n found else At place (AtLine cause)
earlier place cause Memory = Memory
