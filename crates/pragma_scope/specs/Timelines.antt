-- The state of a code by line, in steps: each says from which line on the code is on, off or neither, up to the next step.
use Rattle.std.specs.Prelude.{◌≡◌, ℕ, ◌+◌, Bool, nat_le, if◌then◌else◌, ◌&&◌, List, [], ◌∷◌, ◌≤◌, fold, length, map, Option, None, Some}
use Rattle.lint_messages.specs.declared.code.Code.{Code}
use Rattle.pragma_scope.specs.declared.row.Row.{Row}
use Rattle.pragma_scope.specs.declared.step.Next.{Next}
use Rattle.pragma_scope.specs.declared.step.Pair.{Pair}
use Rattle.pragma_scope.specs.declared.step.Step.{Step}
use Rattle.pragma_scope.specs.Pragmas.{selects, state_of}

-- the state behind a step, at a line
abbrev pub state_by : ℕ → Option Bool → Step → Option Bool
state_by line state step = if nat_le step.line line then step.state else state

-- the state at a line: that of the last step at or before it
abbrev pub state_at : List Step → ℕ → Option Bool
state_at steps line = fold (state_by line) None steps

-- no step stands before a line, and each stands at or behind the one before it
abbrev pub AscendFrom : ℕ → List Step → Type 0
AscendFrom line [] = Unit {0}
AscendFrom line (step ∷ steps) = (line ≤ step.line) × AscendFrom step.line steps

-- ---- one state over another

-- what is said later counts
abbrev pub over : Option Bool → Option Bool → Option Bool
over earlier None = earlier
over earlier (Some is_on) = Some is_on

-- a step of the later steps, over a state of the earlier ones
abbrev pub step_over : Option Bool → Step → Step
step_over earlier step = record { line = step.line; state = over earlier step.state }

-- a step of the earlier steps, under a state of the later ones
abbrev pub step_under : Step → Option Bool → Step
step_under step later = record { line = step.line; state = over step.state later }

-- the later steps that stand before a step of the earlier ones, over a state, then that step, then the rest
abbrev pub before_step : Option Bool → Step → (Option Bool → List Step → List Step) → Option Bool → List Step → List Step
before_step state step rest later [] = step_under step later ∷ rest later []
before_step state step rest later (next ∷ steps) =
    if nat_le step.line next.line then step_under step later ∷ rest later (next ∷ steps) else step_over state next ∷ before_step state step rest next.state steps

-- earlier steps and later ones by line, from the states that stand before them
abbrev pub merged : Option Bool → List Step → Option Bool → List Step → List Step
merged state [] later steps = map (step_over state) steps
merged state (step ∷ earlier) later steps = before_step state step (merged step.state earlier) later steps

abbrev pub merged_pair : Pair → List Step
merged_pair pair = merged pair.state pair.earlier.now pair.later_state pair.later.now

-- how many steps are not merged yet
abbrev pub steps_left : Pair → ℕ
steps_left pair = length pair.earlier.now + length pair.later.now

-- the next step and all behind it
abbrev pub steps_from : Option Next → List Step
steps_from None = []
steps_from (Some next) = next.step ∷ merged_pair next.left

-- ---- rows in steps

-- the row says something of the code
abbrev pub concerns : Code → Row → Bool
concerns code row = selects row.selection code && nat_le row.region.first row.region.last

-- on the lines of a row a code is on, or off
abbrev pub steps_of_row : Code → Row → List Step
steps_of_row code row =
    if concerns code row then record { line = row.region.first; state = Some row.is_on } ∷ record { line = row.region.last + 1; state = None } ∷ [] else []

-- steps that say what the rows say of the code
pub record IsTimeline (rows : List Row) (code : Code) (steps : List Step) : Type 0 where
  pub ascending : AscendFrom 0 steps
  pub same : (line : ℕ) → state_at steps line ≡ state_of rows code line
