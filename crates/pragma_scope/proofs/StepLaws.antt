-- A search by halves among steps.
use Rattle.std.proofs.Common.{◌≡◌, ℕ, zero, suc, ◌<◌, ◌≤◌, Bool, true, false, leb, List, [], ◌∷◌, length, get_or, Option, None, refl, sym, ◌∙◌, arith}
use Rattle.std.specs.Prelude.{fold}
use Rattle.std.specs.List.Sorted.{IsNonDecreasingBy, IsPartitionPoint}
use Rattle.pragma_scope.specs.declared.step.Step.{Step}
use Rattle.pragma_scope.specs.Timelines.{AscendFrom, state_at, state_by}

-- the steps in order of their lines
over : (low : ℕ) (steps : List Step) (k : ℕ) (d : Step) → AscendFrom low steps → k < length steps → low ≤ (get_or steps k d).line
over low [] k d up lt = absurd (omega arith)
over low (step ∷ steps) zero d up lt = up.0
over low (step ∷ steps) (suc k) d up lt = let lo = up.0 in let there = over step.line steps k d up.1 (omega arith) in omega arith

pub never_falls : (low : ℕ) (steps : List Step) → AscendFrom low steps → IsNonDecreasingBy (λ (step : Step). step.line) steps
never_falls low [] up i j d le lt = absurd (omega arith)
never_falls low (step ∷ steps) up zero zero d le lt = omega arith
never_falls low (step ∷ steps) up zero (suc j) d le lt = over step.line steps j d up.1 (omega arith)
never_falls low (step ∷ steps) up (suc i) zero d le lt = absurd (omega arith)
never_falls low (step ∷ steps) up (suc i) (suc j) d le lt = never_falls step.line steps up.1 i j d (omega arith) (omega arith)

-- what the first n steps make of a state
abbrev behind_first : Option Bool → List Step → ℕ → Option Bool
behind_first state steps zero = state
behind_first state [] (suc n) = state
behind_first state (step ∷ steps) (suc n) = behind_first step.state steps n

passing : (line : ℕ) (state : Option Bool) (steps : List Step) (n : ℕ) → ((k : ℕ) (d : Step) → k < n → leb (get_or steps k d).line line ≡ true)
    → ((k : ℕ) (d : Step) → n ≤ k → k < length steps → leb (get_or steps k d).line line ≡ false) → n ≤ length steps → fold (state_by line) state steps ≡ behind_first state steps n
passing line state [] zero passes fails le = refl
passing line state [] (suc n) passes fails le = absurd (omega arith)
passing line state (step ∷ steps) zero passes fails le =
    let here : leb step.line line ≡ false = fails zero step (omega arith) (omega arith) in
    let rest = passing line state steps zero (λ k d lt. absurd (omega arith)) (λ k d lo lt. fails (suc k) d (omega arith) (omega arith)) (omega arith) in
    simp here rest
passing line state (step ∷ steps) (suc n) passes fails le =
    let here : leb step.line line ≡ true = passes zero step (omega arith) in
    let rest = passing line step.state steps n (λ k d lt. passes (suc k) d (omega arith)) (λ k d lo lt. fails (suc k) d (omega arith) (omega arith)) (omega arith) in
    simp here rest

last_first : (state : Option Bool) (steps : List Step) (n : ℕ) (d : Step) → n < length steps → behind_first state steps (suc n) ≡ (get_or steps n d).state
last_first state [] n d lt = absurd (omega arith)
last_first state (step ∷ steps) zero d lt = refl
last_first state (step ∷ steps) (suc n) d lt = last_first step.state steps n d (omega arith)

-- none is reached
pub found_none : (line : ℕ) (steps : List Step) (n : ℕ) → n ≡ 0 → IsPartitionPoint (λ (step : Step). leb step.line line ≡ true) (λ (step : Step). leb step.line line ≡ false) steps n → None ≡ state_at steps line
found_none line steps n is point = sym (passing line None steps zero (λ k d lt. absurd (omega arith)) (λ k d lo lt. point.1 k d (omega arith) lt) (omega arith))

-- the last that is reached
pub found_some : (line : ℕ) (steps : List Step) (n m : ℕ) (d : Step) → IsPartitionPoint (λ (step : Step). leb step.line line ≡ true) (λ (step : Step). leb step.line line ≡ false) steps n → n ≡ suc m → n ≤ length steps → (get_or steps m d).state ≡ state_at steps line
found_some line steps n m d point is le =
    sym (passing line None steps (suc m) (λ k d lt. point.0 k d (omega arith) (omega arith)) (λ k d lo lt. point.1 k d (omega arith) lt) (omega arith) ∙ last_first None steps m d (omega arith))
