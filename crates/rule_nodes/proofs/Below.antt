-- One more node of a tree.
use Rattle.std.proofs.Common.{◌≡◌, ℕ, ◌+◌, List, [], ◌∷◌, ◌++◌, refl, sym, ap, ◌∙◌, append_assoc, add-one}
use Rattle.std.specs.List.{flat_map}
use Rattle.std.proofs.lemmas.Grind.{flat_map-append}
use Rattle.std.proofs.lemmas.List.{append-nil}
use Rattle.lint_messages.specs.declared.message.Message.{Message}
use Rattle.scope_rules.specs.Nodes.{below}

pub below_more : (n : ℕ) → below (n + 1) ≡ below n ++ n ∷ []
below_more n = rw add-one refl

-- what one more node adds
pub flat_more : {X : Type 0} (f : ℕ → List X) (n : ℕ) → flat_map f (below (n + 1)) ≡ flat_map f (below n) ++ f n
flat_more {X} f n = ap (flat_map f) (below_more n) ∙ flat_map-append f (below n) (n ∷ []) ∙ ap (λ (xs : List X). flat_map f (below n) ++ xs) (append-nil (f n))

-- what one more node has joins what was found
pub nodes_on : (f : ℕ → List Message) (n : ℕ) (start old new : List Message) → old ≡ start ++ flat_map f (below n) → new ≡ old ++ f n → new ≡ start ++ flat_map f (below (n + 1))
nodes_on f n start old new so_far e =
    e ∙ ap (λ (ms : List Message). ms ++ f n) so_far ∙ append_assoc start (flat_map f (below n)) (f n) ∙ ap (λ (ms : List Message). start ++ ms) (sym (flat_more f n))
