-- Indentation levels by a stack of widths, which begins with (0, 0). Equal first widths need equal second ones, and a greater
-- first width a greater second one. A smaller first width stands on the stack, with its second width. 100 entries at most.
use Rattle.std.specs.Prelude.{ℕ, ◌-◌, ◌==◌, nat_lt, if◌then◌else◌, List, [], ◌∷◌, length, Result, Ok, Err}
use Rattle.py_layout.specs.declared.item.Widths.{Widths}
use Rattle.py_layout.specs.declared.fault.IndentationCause.{IndentationCause}
use Rattle.py_layout.specs.declared.fault.IndentationCause.TheVariants.{Dedent, TabMix, TooDeep}
use Rattle.py_layout.specs.declared.logical.Logical.{Logical}
use Rattle.py_layout.specs.Blanks.{no_widths}
use Rattle.py_layout.specs.LogicalLines.{Line}

-- the entries, the innermost first
abbrev pub Stack : Type 0
Stack = List Widths

-- the stack that a text begins with
abbrev pub ground : Stack
ground = no_widths ∷ []

-- back to the entry with the line's first width, which has its second width too
abbrev pub leave : Stack → Widths → Result Stack IndentationCause
leave [] line = Err Dedent
leave (top ∷ stack) line =
    if line.wide == top.wide then (if line.narrow == top.narrow then Ok (top ∷ stack) else Err TabMix)
    else (if nat_lt top.wide line.wide then Err Dedent else leave stack line)

-- the stack behind the next line's indentation, or why it has none
abbrev pub enter : Stack → Widths → Result Stack IndentationCause
enter [] line = Err Dedent
enter (top ∷ stack) line =
    if nat_lt top.wide line.wide
    then (if nat_lt top.narrow line.narrow then (if length (top ∷ stack) == 100 then Err TooDeep else Ok (line ∷ top ∷ stack)) else Err TabMix)
    else leave (top ∷ stack) line

-- the line with its level: how many entries stand below its own
abbrev pub logical_of : Line → Stack → Logical
logical_of line stack = record { first = line.first; end = line.end; level = length stack - 1 }

-- a line, and then the others
abbrev pub onto_lines : Logical → Result (List Logical) (ℕ × IndentationCause) → Result (List Logical) (ℕ × IndentationCause)
onto_lines line (Ok lines) = Ok (line ∷ lines)
onto_lines line (Err fault) = Err fault

-- what follows a line's indentation, or its fault, which stands where the line begins
abbrev pub behind_line : Line → Result Stack IndentationCause → (Stack → Result (List Logical) (ℕ × IndentationCause)) → Result (List Logical) (ℕ × IndentationCause)
behind_line line (Ok stack) rest = onto_lines (logical_of line stack) (rest stack)
behind_line line (Err cause) rest = Err (line.place, cause)

-- the lines with their levels, or the first line that has none, and why
abbrev pub levelled : Stack → List Line → Result (List Logical) (ℕ × IndentationCause)
levelled stack [] = Ok []
levelled stack (line ∷ lines) = behind_line line (enter stack line.widths) (λ next. levelled next lines)
