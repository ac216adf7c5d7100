-- What the loops count and find, in the words of the rule.
use Rattle.std.proofs.Common.{◌≡◌, ℕ, zero, suc, ◌+◌, ◌-◌, Bool, true, false, cond, ◌||◌, List, [], ◌∷◌, take, refl, sym, ap, ◌∙◌, arith}
use Rattle.std.proofs.lemmas.Bool.{ne_eqb}
use Rattle.std.specs.List.{list_any}
use Rattle.std.specs.Str.{bytes_eq}
use Rattle.scope_rules.specs.Nodes.{Name}
use Rattle.call_binding.specs.Parameters.{Parameter, takes_position, positions}
use Rattle.call_binding.specs.Counting.{counted, found}

counted-more : (n : ℕ) (p : Parameter) (ps : List Parameter) → counted (suc n) (p ∷ ps) ≡ cond (takes_position p.kind) 1 0 + counted (suc n - 1) ps
counted-more n p ps = ap (λ (b : Bool). cond b 0 (cond (takes_position p.kind) 1 0 + counted (suc n - 1) ps)) (ne_eqb (suc n) 0 (λ e. absurd (omega arith)))

pub positions_more : (p : Parameter) (ps : List Parameter) → positions (p ∷ ps) ≡ cond (takes_position p.kind) 1 0 + positions ps
positions_more p ps = by_test (takes_position p.kind) refl
  where
    by_test : (b : Bool) → takes_position p.kind ≡ b → positions (p ∷ ps) ≡ cond b 1 0 + positions ps
    by_test true e = rw e (omega arith)
    by_test false e = rw e (omega arith)

less-one : (n : ℕ) → n ≡ suc n - 1
less-one n = omega arith

pub counted_is : (n : ℕ) (ps : List Parameter) → positions (take n ps) ≡ counted n ps
counted_is zero [] = refl
counted_is zero (p ∷ ps) = refl
counted_is (suc n) [] = refl
counted_is (suc n) (p ∷ ps) =
    positions_more p (take n ps) ∙ ap (λ (m : ℕ). cond (takes_position p.kind) 1 0 + m) (counted_is n ps ∙ ap (λ (m : ℕ). counted m ps) (less-one n)) ∙ sym (counted-more n p ps)

found-more : (n : ℕ) (x y : Name) (ys : List Name) → found (suc n) x (y ∷ ys) ≡ (bytes_eq x y || found (suc n - 1) x ys)
found-more n x y ys = ap (λ (b : Bool). cond b false (bytes_eq x y || found (suc n - 1) x ys)) (ne_eqb (suc n) 0 (λ e. absurd (omega arith)))

pub found_is : (n : ℕ) (x : Name) (ys : List Name) → list_any (bytes_eq x) (take n ys) ≡ found n x ys
found_is zero x [] = refl
found_is zero x (y ∷ ys) = refl
found_is (suc n) x [] = refl
found_is (suc n) x (y ∷ ys) =
    ap (λ (b : Bool). bytes_eq x y || b) (found_is n x ys ∙ ap (λ (m : ℕ). found m x ys) (less-one n)) ∙ sym (found-more n x y ys)
