-- Levels are opened, and rows join them.
use Rattle.std.proofs.Common.{◌≡◌, ℕ, zero, suc, ◌+◌, ◌-◌, ◌<◌, List, [], ◌∷◌, ◌++◌, length, map, reverse, refl, sym, ap, ◌∙◌, arith}
use Rattle.std.specs.Prelude.{replicate}
use Rattle.std.proofs.lemmas.List.{reverse-append, length-map, length-reverse}
use Rattle.py_blocks.specs.declared.waiting.Waiting.{Waiting}
use Rattle.py_blocks.specs.Statements.{Level, nothing}
use Rattle.py_blocks.specs.Stack.{deepened}
use Rattle.py_blocks.specs.Building.{level_of, levels_of}

replicate-behind : {P : Type 0} (k : ℕ) (x : P) (ys : List P) → replicate k x ++ x ∷ ys ≡ x ∷ (replicate k x ++ ys)
replicate-behind zero x ys = refl
replicate-behind (suc k) x ys = ap (λ (zs : List _). x ∷ zs) (replicate-behind k x ys)

-- a level more changes nothing where more are wanted
pub deepened-more : {P : Type 0} (none : P) (count : ℕ) (levels : List P) → length levels < count → deepened none count (none ∷ levels) ≡ deepened none count levels
deepened-more none count levels l =
    let k : count - length levels ≡ suc (count - suc (length levels)) = omega arith in
    rw k (replicate-behind (count - suc (length levels)) none levels)

-- the level behind the others is the deepest
pub levels-push : (waiting : List Waiting) (w : Waiting) → levels_of (waiting ++ w ∷ []) ≡ level_of w ∷ levels_of waiting
levels-push waiting w = ap (map level_of) (reverse-append waiting (w ∷ []))

pub deepened-push : (count : ℕ) (waiting new : List Waiting) (w : Waiting) → new ≡ waiting ++ w ∷ [] → level_of w ≡ nothing → length waiting < count
    → deepened nothing count (levels_of new) ≡ deepened nothing count (levels_of waiting)
deepened-push count waiting new w e f l =
    ap (λ (ws : List Waiting). deepened nothing count (levels_of ws)) e ∙ ap (deepened nothing count) (levels-push waiting w ∙ ap (λ (x : Level ℕ). x ∷ levels_of waiting) f)
    ∙ deepened-more nothing count (levels_of waiting) (omega (arith, length-map (reverse waiting) level_of, length-reverse waiting))
