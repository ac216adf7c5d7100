-- Cases that cannot be, and what tests say.
use Rattle.std.proofs.Common.{◌≡◌, ℕ, Bool, true, false, eqb, ◌&&◌, refl, sym, ◌∙◌, Some, None, ⊎_elim}
use Rattle.std.proofs.lemmas.Bool.Decides.{eqb_tells}

pub never : false ≡ true → ⊥
never e = cc

pub none_some : {X : Type 0} (x : X) → None ≡ Some x → ⊥
none_some x e = cc

pub eqb_same : (a b : ℕ) → eqb a b ≡ true → a ≡ b
eqb_same a b e = ⊎_elim (λ h. h.1) (λ h. absurd (never (sym h.0 ∙ e))) (eqb_tells a b)

pub left : (a b : Bool) → (a && b) ≡ true → a ≡ true
left true b e = refl
left false b e = absurd (never e)
