-- What merged steps say at a line.
use Rattle.std.proofs.Common.{◌≡◌, ℕ, ◌+◌, ◌<◌, ◌≤◌, Bool, true, false, cond, leb, List, [], ◌∷◌, ◌++◌, take, drop, subst, length, get_or, Option, None, Some, refl, sym, ap, ◌∙◌, arith}
use Rattle.std.proofs.lemmas.Bool.Decides.{nat_tests}
use Rattle.std.proofs.lemmas.List.{take-append-drop}
use Rattle.std.proofs.lemmas.List.Sums.{fold-append}
use Rattle.std.specs.Prelude.{fold, map}
use Rattle.lint_messages.specs.declared.code.Code.{Code}
use Rattle.pragma_scope.specs.declared.row.Row.{Row}
use Rattle.pragma_scope.specs.declared.step.Step.{Step}
use Rattle.pragma_scope.specs.Pragmas.{decides, selects, state_of}
use Rattle.pragma_scope.specs.Timelines.{AscendFrom, IsTimeline, before_step, concerns, merged, over, state_at, state_by, step_over, step_under, steps_of_row}

-- ---- the state that some steps give, from one before them

-- a step behind the line changes nothing
later_same : (line : ℕ) (state : Option Bool) (step : Step) → line < step.line → state_by line state step ≡ state
later_same line state step lt = let misses : leb step.line line ≡ false = grind (arith, nat_tests) in simp misses refl

-- a step at or before the line decides
reached : (line : ℕ) (state : Option Bool) (step : Step) → step.line ≤ line → state_by line state step ≡ step.state
reached line state step le = let hits : leb step.line line ≡ true = grind (arith, nat_tests) in simp hits refl

-- steps behind the line change nothing
pub all_later : (line low : ℕ) (state : Option Bool) (steps : List Step) → line < low → AscendFrom low steps → fold (state_by line) state steps ≡ state
all_later line low state [] lt up = refl
all_later line low state (step ∷ steps) lt up =
    let le = up.0 in
    ap (λ s. fold (state_by line) s steps) (later_same line state step (omega arith)) ∙ all_later line step.line state steps (omega arith) up.1

lower : (low line : ℕ) (steps : List Step) → low ≤ line → AscendFrom line steps → AscendFrom low steps
lower low line [] le up = tt
lower low line (step ∷ steps) le up = let lo = up.0 in (omega arith, up.1)

-- ---- merged steps ascend

over_up : (state : Option Bool) (low : ℕ) (steps : List Step) → AscendFrom low steps → AscendFrom low (map (step_over state) steps)
over_up state low [] up = tt
over_up state low (step ∷ steps) up = (up.0, over_up state step.line steps up.1)

-- what the later half asks of the earlier one's rest
abbrev Ascends : ℕ → (Option Bool → List Step → List Step) → Type 0
Ascends low rest = (later : Option Bool) (steps : List Step) → AscendFrom low steps → AscendFrom low (rest later steps)

before_up_by : (state : Option Bool) (step : Step) (rest : Option Bool → List Step → List Step) (later : Option Bool) (low : ℕ) (next : Step) (steps : List Step) (is : Bool) → leb step.line next.line ≡ is
    → low ≤ step.line → low ≤ next.line → AscendFrom next.line steps → Ascends step.line rest
    → (next.line ≤ step.line → AscendFrom next.line (before_step state step rest next.state steps))
    → AscendFrom low (cond is (step_under step later ∷ rest later (next ∷ steps)) (step_over state next ∷ before_step state step rest next.state steps))
before_up_by state step rest later low next steps true e lo hi up ascends more =
    let under : step.line ≤ next.line = grind (arith, nat_tests) in
    (lo, ascends later (next ∷ steps) (under, up))
before_up_by state step rest later low next steps false e lo hi up ascends more =
    let above : next.line ≤ step.line = grind (arith, nat_tests) in
    (hi, more above)

before_up : (state : Option Bool) (step : Step) (rest : Option Bool → List Step → List Step) (later : Option Bool) (low : ℕ) (steps : List Step) → low ≤ step.line → AscendFrom low steps → Ascends step.line rest
    → AscendFrom low (before_step state step rest later steps)
before_up state step rest later low [] lo up ascends = (lo, ascends later [] tt)
before_up state step rest later low (next ∷ steps) lo up ascends =
    before_up_by state step rest later low next steps (leb step.line next.line) refl lo up.0 up.1 ascends (λ above. before_up state step rest next.state next.line steps above up.1 ascends)

pub merged_up : (state : Option Bool) (earlier : List Step) (later : Option Bool) (steps : List Step) (low : ℕ) → AscendFrom low earlier → AscendFrom low steps → AscendFrom low (merged state earlier later steps)
merged_up state [] later steps low first second = over_up state low steps second
merged_up state (step ∷ earlier) later steps low first second =
    before_up state step (merged step.state earlier) later low steps first.0 second (λ l s up. merged_up step.state earlier l s step.line first.1 up)

-- ---- what merged steps say

over_by : (line : ℕ) (state later : Option Bool) (step : Step) (is : Bool) → leb step.line line ≡ is → state_by line (over state later) (step_over state step) ≡ over state (state_by line later step)
over_by line state later step true e = simp e refl
over_by line state later step false e = simp e refl

-- the steps that stand over a state say what they said, over it
over_said : (line : ℕ) (state later : Option Bool) (steps : List Step) → fold (state_by line) (over state later) (map (step_over state) steps) ≡ over state (fold (state_by line) later steps)
over_said line state later [] = refl
over_said line state later (step ∷ steps) =
    ap (λ s. fold (state_by line) s (map (step_over state) steps)) (over_by line state later step (leb step.line line) refl) ∙ over_said line state (state_by line later step) steps

-- merged steps say what the later ones say, over the earlier ones
abbrev pub Says : ℕ → Option Bool → List Step → Option Bool → List Step → Type 0
Says line state earlier later steps = fold (state_by line) (over state later) (merged state earlier later steps) ≡ over (fold (state_by line) state earlier) (fold (state_by line) later steps)

-- a step of the earlier ones stands first
step_says : (line : ℕ) (state : Option Bool) (step : Step) (earlier : List Step) (later : Option Bool) (steps : List Step) (is : Bool) → leb step.line line ≡ is
    → AscendFrom step.line earlier → AscendFrom step.line steps → Says line step.state earlier later steps
    → fold (state_by line) (over state later) (step_under step later ∷ merged step.state earlier later steps) ≡ over (fold (state_by line) state (step ∷ earlier)) (fold (state_by line) later steps)
step_says line state step earlier later steps true e first second says =
    let le : step.line ≤ line = grind (arith, nat_tests) in
    ap (λ s. fold (state_by line) s (merged step.state earlier later steps)) (reached line (over state later) (step_under step later) le)
    ∙ says ∙ ap (λ s. over (fold (state_by line) s earlier) (fold (state_by line) later steps)) (sym (reached line state step le))
step_says line state step earlier later steps false e first second says =
    let lt : line < step.line = grind (arith, nat_tests) in
    let same = ap (λ s. fold (state_by line) s (merged step.state earlier later steps)) (later_same line (over state later) (step_under step later) lt) in
    let all = all_later line step.line (over state later) (merged step.state earlier later steps) lt (merged_up step.state earlier later steps step.line first second) in
    let left = all_later line step.line state (step ∷ earlier) lt (omega arith, first) in
    let right = all_later line step.line later steps lt second in
    same ∙ all ∙ ap (λ s. over s later) (sym left) ∙ ap (λ s. over (fold (state_by line) state (step ∷ earlier)) s) (sym right)

-- a step of the later ones stands first
next_says : (line : ℕ) (state : Option Bool) (step : Step) (earlier : List Step) (later : Option Bool) (next : Step) (steps : List Step) (is : Bool) → leb next.line line ≡ is
    → next.line ≤ step.line → AscendFrom step.line earlier → AscendFrom next.line steps
    → fold (state_by line) (over state next.state) (before_step state step (merged step.state earlier) next.state steps) ≡ over (fold (state_by line) state (step ∷ earlier)) (fold (state_by line) next.state steps)
    → fold (state_by line) (over state later) (step_over state next ∷ before_step state step (merged step.state earlier) next.state steps) ≡ over (fold (state_by line) state (step ∷ earlier)) (fold (state_by line) later (next ∷ steps))
next_says line state step earlier later next steps true e le first second says =
    let here : next.line ≤ line = grind (arith, nat_tests) in
    ap (λ s. fold (state_by line) s (before_step state step (merged step.state earlier) next.state steps)) (reached line (over state later) (step_over state next) here)
    ∙ says ∙ ap (λ s. over (fold (state_by line) state (step ∷ earlier)) (fold (state_by line) s steps)) (sym (reached line later next here))
next_says line state step earlier later next steps false e le first second says =
    let lt : line < next.line = grind (arith, nat_tests) in
    let same = ap (λ s. fold (state_by line) s (before_step state step (merged step.state earlier) next.state steps)) (later_same line (over state later) (step_over state next) lt) in
    let rest = before_up state step (merged step.state earlier) next.state next.line steps le second (λ l s up. merged_up step.state earlier l s step.line first up) in
    let all = all_later line next.line (over state later) (before_step state step (merged step.state earlier) next.state steps) lt rest in
    let left = all_later line next.line state (step ∷ earlier) lt (le, first) in
    let right = all_later line next.line later (next ∷ steps) lt (omega arith, second) in
    same ∙ all ∙ ap (λ s. over s later) (sym left) ∙ ap (λ s. over (fold (state_by line) state (step ∷ earlier)) s) (sym right)

before_says_by : (line : ℕ) (state : Option Bool) (step : Step) (earlier : List Step) (later : Option Bool) (next : Step) (steps : List Step) (is : Bool) → leb step.line next.line ≡ is
    → AscendFrom step.line earlier → AscendFrom next.line steps → ((l : Option Bool) (s : List Step) → AscendFrom step.line s → Says line step.state earlier l s)
    → fold (state_by line) (over state next.state) (before_step state step (merged step.state earlier) next.state steps) ≡ over (fold (state_by line) state (step ∷ earlier)) (fold (state_by line) next.state steps)
    → fold (state_by line) (over state later) (before_step state step (merged step.state earlier) later (next ∷ steps)) ≡ over (fold (state_by line) state (step ∷ earlier)) (fold (state_by line) later (next ∷ steps))
before_says_by line state step earlier later next steps true e first second says more =
    let under : step.line ≤ next.line = grind (arith, nat_tests) in
    simp e (step_says line state step earlier later (next ∷ steps) (leb step.line line) refl first (under, second) (says later (next ∷ steps) (under, second)))
before_says_by line state step earlier later next steps false e first second says more =
    let above : next.line ≤ step.line = grind (arith, nat_tests) in
    simp e (next_says line state step earlier later next steps (leb next.line line) refl above first second more)

before_says : (line : ℕ) (state : Option Bool) (step : Step) (earlier : List Step) (later : Option Bool) (steps : List Step) (low : ℕ) → AscendFrom step.line earlier → AscendFrom low steps
    → ((l : Option Bool) (s : List Step) → AscendFrom step.line s → Says line step.state earlier l s)
    → fold (state_by line) (over state later) (before_step state step (merged step.state earlier) later steps) ≡ over (fold (state_by line) state (step ∷ earlier)) (fold (state_by line) later steps)
before_says line state step earlier later [] low first second says = step_says line state step earlier later [] (leb step.line line) refl first tt (says later [] tt)
before_says line state step earlier later (next ∷ steps) low first second says =
    before_says_by line state step earlier later next steps (leb step.line next.line) refl first second.1 says (before_says line state step earlier next.state steps next.line first second.1 says)

pub merged_says : (line : ℕ) (state : Option Bool) (earlier : List Step) (later : Option Bool) (steps : List Step) (low : ℕ) → AscendFrom low earlier → AscendFrom low steps → Says line state earlier later steps
merged_says line state [] later steps low first second = over_said line state later steps
merged_says line state (step ∷ earlier) later steps low first second =
    before_says line state step earlier later steps low first.1 second (λ l s up. merged_says line step.state earlier l s step.line first.1 up)

-- ---- rows

abbrev decided : Code → ℕ → Option Bool → Row → Option Bool
decided code line state row = cond (decides code line row) (Some row.is_on) state

over_decided : (code : Code) (line : ℕ) (state later : Option Bool) (row : Row) (is : Bool) → decides code line row ≡ is → decided code line (over state later) row ≡ over state (decided code line later row)
over_decided code line state later row true e = simp e refl
over_decided code line state later row false e = simp e refl

-- what rows say, over a state
over_rows : (code : Code) (line : ℕ) (state later : Option Bool) (rows : List Row) → fold (decided code line) (over state later) rows ≡ over state (fold (decided code line) later rows)
over_rows code line state later [] = refl
over_rows code line state later (row ∷ rows) =
    ap (λ s. fold (decided code line) s rows) (over_decided code line state later row (decides code line row) refl) ∙ over_rows code line state (decided code line later row) rows

rows_joined : (code : Code) (line : ℕ) (first second : List Row) → state_of (first ++ second) code line ≡ over (state_of first code line) (state_of second code line)
rows_joined code line first second = fold-append (decided code line) None first second ∙ over_rows code line (fold (decided code line) None first) None second

-- a timeline of rows and one of the rows behind them
pub timelines_merged : (code : Code) (first second : List Row) (earlier later : List Step) → IsTimeline first code earlier → IsTimeline second code later → IsTimeline (first ++ second) code (merged None earlier None later)
timelines_merged code first second earlier later one two = record {
  ascending = merged_up None earlier None later 0 one.ascending two.ascending;
  same = λ line. merged_says line None earlier None later 0 one.ascending two.ascending ∙ ap (λ s. over s (state_at later line)) (one.same line) ∙ ap (λ s. over (state_of first code line) s) (two.same line) ∙ sym (rows_joined code line first second);
}

-- the same, where the rows are cut in two
pub timelines_joined : (code : Code) (rows first second : List Row) (n : ℕ) (earlier later e l steps : List Step) → first ≡ take n rows → second ≡ drop n rows → IsTimeline first code earlier → IsTimeline second code later → e ≡ earlier → l ≡ later → steps ≡ merged None e None l → IsTimeline rows code steps
timelines_joined code rows first second n earlier later e l steps front back one two same other is =
    let whole : first ++ second ≡ rows = ap (λ f. f ++ second) front ∙ ap (λ b. take n rows ++ b) back ∙ take-append-drop n rows in
    let all : merged None earlier None later ≡ steps = ap (λ x. merged None x None later) (sym same) ∙ ap (λ x. merged None e None x) (sym other) ∙ sym is in
    subst (λ s. IsTimeline rows code s) all (subst (λ rs. IsTimeline rs code (merged None earlier None later)) whole (timelines_merged code first second earlier later one two))

-- no rows, no steps
pub timeline_none : (code : Code) → IsTimeline [] code []
timeline_none code = record { ascending = tt; same = λ line. refl }

-- the three places of a line, before a row's lines, in them and behind them
row_said : (code : Code) (row : Row) (line : ℕ) (below above : Bool) → leb row.region.first line ≡ below → leb line row.region.last ≡ above → selects row.selection code ≡ true → row.region.first ≤ row.region.last
    → state_at (record { line = row.region.first; state = Some row.is_on } ∷ record { line = row.region.last + 1; state = None } ∷ []) line ≡ state_of (row ∷ []) code line
row_said code row line false above e f names le =
    let misses : leb (row.region.last + 1) line ≡ false = grind (arith, nat_tests) in
    simp (e, misses) refl
row_said code row line true true e f names le =
    let misses : leb (row.region.last + 1) line ≡ false = grind (arith, nat_tests) in
    simp (e, f, misses, names) refl
row_said code row line true false e f names le =
    let hits : leb (row.region.last + 1) line ≡ true = grind (arith, nat_tests) in
    simp (e, f, hits) refl

never : (code : Code) (row : Row) (line : ℕ) → concerns code row ≡ false → decides code line row ≡ false
never code row line misses = grind (arith, nat_tests)

row_by : (code : Code) (row : Row) (is : Bool) → concerns code row ≡ is → IsTimeline (row ∷ []) code (cond is (record { line = row.region.first; state = Some row.is_on } ∷ record { line = row.region.last + 1; state = None } ∷ []) [])
row_by code row true e =
    let names : selects row.selection code ≡ true = grind (arith, nat_tests) in
    let le : row.region.first ≤ row.region.last = grind (arith, nat_tests) in
    record {
      ascending = (omega arith, (omega arith, tt));
      same = λ line. row_said code row line (leb row.region.first line) (leb line row.region.last) refl refl names le;
    }
row_by code row false e = record {
  ascending = tt;
  same = λ line. ap (λ b. cond b (Some row.is_on) None) (sym (never code row line e));
}

pub timeline_of_row : (code : Code) (row : Row) → IsTimeline (row ∷ []) code (steps_of_row code row)
timeline_of_row code row = row_by code row (concerns code row) refl

-- the same, where it is the one row of some rows
pub timeline_of_one : (code : Code) (rows : List Row) (d : Row) (steps : List Step) → 1 ≤ length rows → length rows < 2 → steps ≡ steps_of_row code (get_or rows 0 d) → IsTimeline rows code steps
timeline_of_one code [] d steps lo hi is = absurd (omega arith)
timeline_of_one code (row ∷ []) d steps lo hi is = subst (λ s. IsTimeline (row ∷ []) code s) (sym is) (timeline_of_row code row)
timeline_of_one code (row ∷ x ∷ xs) d steps lo hi is = absurd (omega arith)
