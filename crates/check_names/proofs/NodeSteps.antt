-- One more node: what it adds to a test of some node.
use Rattle.std.proofs.Common.{◌≡◌, ℕ, ◌+◌, Bool, true, false, ◌||◌, List, [], ◌∷◌, ◌++◌, refl, sym, ap, ◌∙◌}
use Rattle.std.specs.List.{list_any}
use Rattle.scope_rules.specs.Nodes.{below}
use Rattle.scope_bind.proofs.ListLaws.{below_more}

or-assoc : (a b c : Bool) → ((a || b) || c) ≡ (a || (b || c))
or-assoc true b c = refl
or-assoc false b c = refl

or-false : (b : Bool) → (b || false) ≡ b
or-false true = refl
or-false false = refl

any-append : (p : ℕ → Bool) (xs ys : List ℕ) → list_any p (xs ++ ys) ≡ (list_any p xs || list_any p ys)
any-append p [] ys = refl
any-append p (x ∷ xs) ys = ap (λ (b : Bool). p x || b) (any-append p xs ys) ∙ sym (or-assoc (p x) (list_any p xs) (list_any p ys))

-- one more node passes, or one before it did
pub any_on : (p : ℕ → Bool) (n : ℕ) (old one new : Bool) → old ≡ list_any p (below n) → one ≡ p n → new ≡ (old || one) → new ≡ list_any p (below (n + 1))
any_on p n old one new so_far here e =
    e ∙ ap (λ (b : Bool). b || one) so_far ∙ ap (λ (b : Bool). list_any p (below n) || b) (here ∙ sym (or-false (p n)))
    ∙ sym (any-append p (below n) (n ∷ [])) ∙ ap (list_any p) (sym (below_more n))
