-- The numbers that a walk has left.
use Rattle.std.proofs.Common.{◌≡◌, ℕ, suc, ◌+◌, ◌-◌, ◌<◌, List, ◌∷◌, sym, ap, ◌∙◌, arith}
use Rattle.lint_values.specs.declared.place.NodeId.{NodeId}
use Rattle.tree_nodes.specs.Walked.{ids_from}

pub ids-step : (next end : ℕ) (now : List NodeId) → ids_from next (end - next) ≡ now → next < end → now ≡ record { 0 = next } ∷ ids_from (next + 1) (end - (next + 1))
ids-step next end now view l =
    let e : end - next ≡ suc (end - (next + 1)) = omega arith in
    sym view ∙ ap (ids_from next) e
