-- The first line, and the lines of what follows its end.
use Rattle.std.proofs.Common.{◌≡◌, ℕ, ◌+◌, Bool, true, false, cond, eqb, List, [], ◌∷◌, take, drop, length, suc, refl, ap, arith, ◌<◌}
use Rattle.std.specs.List.{position_or_len, onto_first}
use Rattle.std.proofs.lemmas.Bool.Decides.{nat_tests}
use Rattle.check_basic.specs.Lines.{lines_of, is_line_end, after_end, begins_with_lf}

-- the lines are the first n bytes, and the lines behind the end that follows
abbrev Splits : List ℕ → ℕ → Type 0
Splits text n = lines_of text ≡ take n text ∷ lines_of (after_end (drop n text))

-- a LF behind a CR, or none
cr_by : (c : ℕ) (bs : List ℕ) (b : Bool) → eqb c 10 ≡ b → cond (eqb c 10) (lines_of (c ∷ bs)) ([] ∷ lines_of (c ∷ bs)) ≡ [] ∷ lines_of (cond (eqb c 10) bs (c ∷ bs))
cr_by c bs true e = simp e
cr_by c bs false e = simp e

cr : (bs : List ℕ) → cond (begins_with_lf bs) (lines_of bs) ([] ∷ lines_of bs) ≡ [] ∷ lines_of (cond (begins_with_lf bs) (drop 1 bs) bs)
cr [] = refl
cr (c ∷ bs) = cr_by c bs (eqb c 10) refl

more : (b : ℕ) (bs : List ℕ) (n : ℕ) → Splits bs n → onto_first b (lines_of bs) ≡ take (1 + n) (b ∷ bs) ∷ lines_of (after_end (drop (1 + n) (b ∷ bs)))
more b bs n h = let one : 1 + n ≡ suc n = omega arith in rw one (ap (onto_first b) h)

none : (b : ℕ) → onto_first b [] ≡ take (1 + 0) (b ∷ []) ∷ lines_of (after_end (drop (1 + 0) (b ∷ [])))
none b = refl

not_both : (b : ℕ) → eqb b 10 ≡ true → eqb b 13 ≡ false
not_both b e = grind (arith, nat_tests)

by_tests : (b : ℕ) (bs : List ℕ) (is_lf is_cr : Bool) → eqb b 10 ≡ is_lf → eqb b 13 ≡ is_cr → onto_first b (lines_of bs) ≡ take (1 + position_or_len is_line_end bs) (b ∷ bs) ∷ lines_of (after_end (drop (1 + position_or_len is_line_end bs) (b ∷ bs))) → Splits (b ∷ bs) (position_or_len is_line_end (b ∷ bs))
by_tests b bs true is_cr lf cr_is rest = let other = not_both b lf in simp (lf, other)
by_tests b bs false true lf cr_is rest = simp (lf, cr_is) (cr bs)
by_tests b bs false false lf cr_is rest = simp (lf, cr_is) rest

step : (b : ℕ) (bs : List ℕ) → Splits (b ∷ bs) (position_or_len is_line_end (b ∷ bs))
step b [] = by_tests b [] (eqb b 10) (eqb b 13) refl refl (none b)
step b (c ∷ bs) = by_tests b (c ∷ bs) (eqb b 10) (eqb b 13) refl refl (more b (c ∷ bs) (position_or_len is_line_end (c ∷ bs)) (step c bs))

-- the first line, and what its end leaves
pub lines_step : (text : List ℕ) → 0 < length text → lines_of text ≡ take (position_or_len is_line_end text) text ∷ lines_of (after_end (drop (position_or_len is_line_end text) text))
lines_step [] some = absurd (omega arith)
lines_step (b ∷ bs) some = step b bs
