-- The physical lines of a text are one list.
use Rattle.std.proofs.Common.{◌≡◌, ℕ, ◌+◌, ◌<◌, List, [], ◌∷◌, ◌++◌, length, refl, sym, ap, ◌∙◌, subst, arith, append_assoc, append-nil}
use Rattle.py_source.specs.declared.span.Span.{Span}
use Rattle.py_source.specs.Physical.{ArePhysical, ArePhysicalFrom, behind_line, line_len, whole_line_len}

pub physical_unique : (place : ℕ) (text : List ℕ) (xs ys : List Span) → ArePhysicalFrom place text xs → ArePhysicalFrom place text ys → xs ≡ ys
physical_unique place text [] [] a b = refl
physical_unique place text [] (y ∷ ys) a b = let some : 0 < length text = b.0 in absurd (omega (arith, ap length a))
physical_unique place text (x ∷ xs) [] a b = let some : 0 < length text = a.0 in absurd (omega (arith, ap length b))
physical_unique place text (x ∷ xs) (y ∷ ys) a b =
    let first : x ≡ y = a.1 ∙ sym b.1 in
    let rest = physical_unique (place + whole_line_len text) (behind_line text) xs ys a.2 b.2 in
    λ i. first i ∷ rest i

-- one line more
pub lines_step : (text : List ℕ) (spans : List Span) (place : ℕ) (rest : List ℕ) → 0 < length rest → ((more : List Span) → ArePhysicalFrom place rest more → ArePhysical text (spans ++ more)) → (more : List Span) → ArePhysicalFrom (place + whole_line_len rest) (behind_line rest) more → ArePhysical text ((spans ++ record { start = place; end = place + line_len rest } ∷ []) ++ more)
lines_step text spans place rest some so_far more below =
    subst (ArePhysical text) (sym (append_assoc spans (record { start = place; end = place + line_len rest } ∷ []) more)) (so_far (record { start = place; end = place + line_len rest } ∷ more) (some, refl, below))

-- and none behind the text's end
pub lines_end : (text : List ℕ) (spans : List Span) (place : ℕ) (rest : List ℕ) → rest ≡ [] → ((more : List Span) → ArePhysicalFrom place rest more → ArePhysical text (spans ++ more)) → ArePhysical text spans
lines_end text spans place rest none so_far = subst (ArePhysical text) (append-nil spans) (so_far [] none)
