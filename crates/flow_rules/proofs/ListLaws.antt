-- Lists that say something of each node: how they begin, grow and are read.
use Rattle.std.proofs.Common.{◌≡◌, ℕ, ◌+◌, ◌<◌, List, [], ◌∷◌, ◌++◌, length, get_or, map, refl, sym, ap, ◌∙◌, arith}
use Rattle.std.proofs.lemmas.List.{map-append, length-map, get_or-map}
use Rattle.scope_rules.specs.Nodes.{below}
use Rattle.scope_rules.proofs.Answering.{length-below, get-below}
use Rattle.rule_nodes.proofs.Below.{below_more}
use Rattle.flow_rules.specs.Tables.{IsListUpTo}

pub list_none : {X : Type 0} (f : ℕ → X) → IsListUpTo f 0 []
list_none f = record { is = refl }

pub list_more : {X : Type 0} (f : ℕ → X) (n : ℕ) (xs : List X) (y : X) → IsListUpTo f n xs → y ≡ f n → IsListUpTo f (n + 1) (xs ++ y ∷ [])
list_more {X} f n xs y h e =
    record { is = ap (λ (ys : List X). ys ++ y ∷ []) h.is ∙ ap (λ (z : X). map f (below n) ++ z ∷ []) e ∙ sym (map-append f (below n) (n ∷ [])) ∙ ap (map f) (sym (below_more n)) }

pub list_length : {X : Type 0} (f : ℕ → X) (n : ℕ) (xs : List X) → IsListUpTo f n xs → length xs ≡ n
list_length f n xs h = ap length h.is ∙ length-map (below n) f ∙ length-below n

pub list_get : {X : Type 0} (f : ℕ → X) (n : ℕ) (xs : List X) (k : ℕ) (d : X) → IsListUpTo f n xs → k < n → get_or xs k d ≡ f k
list_get {X} f n xs k d h low =
    let l = length-below n in
    ap (λ (ys : List X). get_or ys k d) h.is ∙ get_or-map f (below n) k 0 d (omega arith) ∙ ap f (get-below n k low)
