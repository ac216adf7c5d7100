-- Rows of steps: one step more, and that a row ends in one place.
use Rattle.std.proofs.Common.{◌≡◌, ℕ, zero, suc, ◌+◌, ◌-◌, ◌≤◌, ◌<◌, length, drop, get_or, refl, sym, ap, ◌∙◌, arith, ⊎_elim}
use Rattle.std.proofs.lemmas.Bool.{cases_lt}
use Rattle.std.proofs.lemmas.List.{length-drop, drop-drop, get_or_past}
use Rattle.fstr_parse.specs.Bytes.{Text}
use Rattle.fstr_parse.specs.Scan.{Leads}

-- the rest is what stands behind so many bytes of the text
pub record IsBehind (text rest : Text) : Type 0 where
  pub within : length rest ≤ length text
  pub is : rest ≡ drop (length text - length rest) text

pub IsBehind-start : (text : Text) → IsBehind text text
IsBehind-start text = record {
  within = omega arith;
  is = ap (λ n. drop n text) (let e : 0 ≡ length text - length text = omega arith in e);
}

pub IsBehind-more : (text rest : Text) (n : ℕ) → IsBehind text rest → n ≤ length rest → IsBehind text (drop n rest)
IsBehind-more text rest n behind within =
    let size : length (drop n rest) ≡ length rest - n = length-drop n rest in
    let far : (length text - length rest) + n ≡ length text - length (drop n rest) = omega (arith, behind.within) in
    record {
      within = omega (arith, behind.within);
      is = ap (drop n) behind.is ∙ (drop-drop n (length text - length rest) text ∙ ap (λ k. drop k text) far);
    }

-- a row and one step more
pub Leads-push : (len behind : ℕ → Text → ℕ) (steps level : ℕ) (text : Text) (level' : ℕ) (rest : Text) → Leads len behind steps level text level' rest → 0 < len level' rest → Leads len behind (suc steps) level text (behind level' rest) (drop (len level' rest) rest)
Leads-push len behind zero level text level' rest row some = rw (row.0, row.1) (some, (refl, refl))
Leads-push len behind (suc steps) level text level' rest row some =
    (row.0, Leads-push len behind steps (behind level text) (drop (len level text) text) level' rest row.1 some)

stays : (len : ℕ → Text → ℕ) (level level' : ℕ) (text rest : Text) → level ≡ level' → text ≡ rest → len level' rest ≡ 0 → 0 < len level text → ⊥
stays len level level' text rest e f none some =
    let same : len level text ≡ len level' rest = rw (e, f) refl in
    absurd (omega arith)

-- two rows from one place, behind which no step stands, end in one place
pub Leads-unique : (len behind : ℕ → Text → ℕ) (steps more level : ℕ) (text : Text) (levelA : ℕ) (a : Text) (levelB : ℕ) (b : Text) → Leads len behind steps level text levelA a → Leads len behind more level text levelB b → len levelA a ≡ 0 → len levelB b ≡ 0 → (levelA ≡ levelB) × (a ≡ b)
Leads-unique len behind zero zero level text levelA a levelB b one other no_a no_b = (sym one.0 ∙ other.0, sym one.1 ∙ other.1)
Leads-unique len behind zero (suc more) level text levelA a levelB b one other no_a no_b =
    absurd (stays len level levelA text a one.0 one.1 no_a other.0)
Leads-unique len behind (suc steps) zero level text levelA a levelB b one other no_a no_b =
    absurd (stays len level levelB text b other.0 other.1 no_b one.0)
Leads-unique len behind (suc steps) (suc more) level text levelA a levelB b one other no_a no_b =
    Leads-unique len behind steps more (behind level text) (drop (len level text) text) levelA a levelB b one.1 other.1 no_a no_b

-- a byte that is not 0 stands within the text
pub byte_within : (text : Text) (place b : ℕ) → get_or text place 0 ≡ suc b → place < length text
byte_within text place b e =
    ⊎_elim (λ lt. lt) (λ past. let none : get_or text place 0 ≡ 0 = get_or_past text place 0 past in absurd (omega arith)) (cases_lt place (length text))
