-- The rules of blocks: where a logical line may stand, by the kinds and levels of the lines around it. The lines before one
-- are listed from the nearest back to the first of the file, the lines behind it to the last.
use Rattle.std.specs.Prelude.{◌≡◌, ℕ, suc, ◌+◌, ◌<◌, Bool, true, false, not, ◌&&◌, ◌||◌, nat_lt, nat_eq, if◌then◌else◌, List, [], ◌∷◌, ◌++◌, length, reverse, Option, Some, None, is_some}
use Rattle.std.specs.List.{list_all}
use Rattle.py_grammar.specs.declared.head.Head.{Head}
use Rattle.py_grammar.specs.declared.head.Head.TheVariants as heads
use Rattle.py_blocks.specs.declared.line.Line.{Line}
use Rattle.py_blocks.specs.declared.standing.Around.{Around}
use Rattle.py_blocks.specs.declared.fault.BlockCause.{BlockCause}
use Rattle.py_blocks.specs.declared.fault.BlockCause.TheVariants as causes
use Rattle.py_blocks.specs.declared.fault.BlockFault.{BlockFault}
use Rattle.py_blocks.specs.Heads.{is_decorator, is_decorated, is_try, is_case, is_handling, is_match, is_opened_try, has_opener}

-- ---- the lines around a line

-- the kinds of the lines of this level that stand before, back to a line of a lower level, the nearest first
abbrev pub elders : ℕ → List Line → List Head
elders level [] = []
elders level (line ∷ before) = if nat_lt line.level level then [] else (if nat_lt level line.level then elders level before else line.head ∷ elders level before)

-- the first of some kinds
abbrev pub first : List Head → Option Head
first [] = None
first (head ∷ heads) = Some head

-- the second of them
abbrev pub second : List Head → Option Head
second [] = None
second (head ∷ heads) = first heads

-- the kind of the line that a line of this level stands under
abbrev pub under : ℕ → List Line → Option Head
under level [] = None
under level (line ∷ before) = if nat_lt line.level level then Some line.head else under level before

-- a `try` stands before whose block a line of this lower level ends: behind it all lines are deeper. The limit is the lowest
-- level of the lines that were passed on the way back
abbrev pub leaves_try : ℕ → ℕ → List Line → Bool
leaves_try level limit [] = false
leaves_try level limit (line ∷ before) =
    if nat_lt level line.level then (if nat_lt line.level limit then is_try line.head || leaves_try level line.level before else leaves_try level limit before) else false

-- the line before
abbrev pub nearest : List Line → Option Line
nearest [] = None
nearest (line ∷ before) = Some line

-- its level; the first line stands behind the margin
abbrev pub level_of : Option Line → ℕ
level_of None = 0
level_of (Some line) = line.level

-- what a line of this level has around it: the line before; the kinds of its elder, the line before it at its level, and of
-- the elder's elder; the kind of the line that it stands under; whether it ends the block of a deeper `try`
abbrev pub around : ℕ → List Line → Around
around level before = record {
  previous = nearest before;
  elder = first (elders level before);
  behind = second (elders level before);
  under = under level before;
  leaves_try = leaves_try level (suc (level_of (nearest before))) before;
}

-- the line before is a header without statements, which opens a block
abbrev pub opens : Option Line → Bool
opens None = false
opens (Some line) = line.is_open

-- the line before is a decorator
abbrev pub decorates : Option Line → Bool
decorates None = false
decorates (Some line) = is_decorator line.head

-- ---- the rules

-- it is deeper than the line before
abbrev pub is_deeper : Around → Line → Bool
is_deeper around line = nat_lt (level_of around.previous) line.level

-- it is one level deeper, and the line before opens a block
abbrev pub begins_block : Around → Line → Bool
begins_block around line = opens around.previous && nat_eq line.level (level_of around.previous + 1)

-- a line that is deeper, though it begins no block
abbrev pub is_unexpected : Around → Line → Bool
is_unexpected around line = is_deeper around line && not (begins_block around line)

-- a block was opened, and this line is not in it
abbrev pub misses_block : Around → Line → Bool
misses_block around line = opens around.previous && not (is_deeper around line)

-- a line in the block of a `match` that is no `case`
abbrev pub is_no_case : Around → Line → Bool
is_no_case around line = is_match around.under && not (is_case line.head)

-- a header that opens a block, and no line behind it
abbrev pub ends_open : Line → List Line → Bool
ends_open line [] = line.is_open
ends_open line (next ∷ later) = false

-- a clause without its opener
abbrev pub lacks_opener : Around → Line → Bool
lacks_opener around line = not (has_opener line.head around.elder around.behind)

-- a `case` elsewhere than in the block of a `match`
abbrev pub is_stray_case : Around → Line → Bool
is_stray_case around line = is_case line.head && not (is_match around.under)

-- a decorator of this level right before
abbrev pub is_behind_decorator : Around → Line → Bool
is_behind_decorator around line = decorates around.previous && nat_eq (level_of around.previous) line.level

-- the line before is a decorator, and this is no decorator, `def` or `class` of its level
abbrev pub leaves_decorator : Around → Line → Bool
leaves_decorator around line = decorates around.previous && not (is_behind_decorator around line && is_decorated line.head)

-- the line ends the block of a `try`, and is no `except` or `finally` of its level
abbrev pub leaves_lone_try : Around → Line → Bool
leaves_lone_try around line = around.leaves_try || (is_opened_try around.elder && not (is_handling line.head))

-- a `try` with no line behind it but those of its block
abbrev pub ends_try : Line → List Line → Bool
ends_try line later = is_try line.head && list_all (λ next. nat_lt line.level next.level) later

-- the first of some decorators, with no line behind them
abbrev pub ends_decorators : Around → Line → List Line → Bool
ends_decorators around line later =
    is_decorator line.head && not (is_behind_decorator around line) && list_all (λ next. is_decorator next.head && nat_eq next.level line.level) later

-- the line stands against a rule, for this cause. Where more text comes behind the lines, the rules on the end wait for it
abbrev pub breaks : Bool → BlockCause → Around → Line → List Line → Bool
breaks is_whole causes.Unexpected around line later = is_unexpected around line
breaks is_whole causes.NeedsBlock around line later = misses_block around line || is_no_case around line || (is_whole && ends_open line later)
breaks is_whole causes.Follows around line later =
    lacks_opener around line || is_stray_case around line || leaves_decorator around line || leaves_lone_try around line || (is_whole && (ends_try line later || ends_decorators around line later))

-- ---- the first fault

-- the first of the causes that a line has
abbrev pub cause_at : Bool → Around → Line → List Line → Option BlockCause
cause_at is_whole around line later =
    if breaks is_whole causes.Unexpected around line later then Some causes.Unexpected
    else (if breaks is_whole causes.NeedsBlock around line later then Some causes.NeedsBlock
    else (if breaks is_whole causes.Follows around line later then Some causes.Follows else None))

-- a fault with its line's number, or what else there is
abbrev pub or_later : Option BlockCause → ℕ → Option BlockFault → Option BlockFault
or_later None place later = later
or_later (Some cause) place later = Some (record { place = place; cause = cause })

-- the first fault of lines that stand behind others
abbrev pub fault_behind : Bool → List Line → List Line → Option BlockFault
fault_behind is_whole before [] = None
fault_behind is_whole before (line ∷ later) = or_later (cause_at is_whole (around line.level before) line later) (length before) (fault_behind is_whole (line ∷ before) later)

-- the first fault of a file's lines
abbrev pub first_fault : Bool → List Line → Option BlockFault
first_fault is_whole lines = fault_behind is_whole [] lines

-- ---- faults, one by one

-- the line of this number stands against a rule for this cause
pub record IsFault (is_whole : Bool) (lines : List Line) (fault : BlockFault) : Type 0 where
  pub front : List Line
  pub line : Line
  pub later : List Line
  pub lines_are : lines ≡ front ++ line ∷ later
  pub place_is : length front ≡ fault.place
  pub breaks_it : breaks is_whole fault.cause (around line.level (reverse front)) line later ≡ true

-- the order of causes at one line
abbrev pub rank : BlockCause → ℕ
rank causes.Unexpected = 0
rank causes.NeedsBlock = 1
rank causes.Follows = 2

-- no fault stands at an earlier line, nor one of an earlier cause at this line
pub record IsFirstFault (is_whole : Bool) (lines : List Line) (fault : BlockFault) : Type 0 where
  pub is_fault : IsFault is_whole lines fault
  pub no_earlier : (other : BlockFault) → IsFault is_whole lines other → other.place < fault.place → ⊥
  pub no_other : (other : BlockFault) → IsFault is_whole lines other → other.place ≡ fault.place → rank other.cause < rank fault.cause → ⊥

-- no line stands against a rule
abbrev pub AreRight : Bool → List Line → Type 0
AreRight is_whole lines = (fault : BlockFault) → IsFault is_whole lines fault → ⊥
