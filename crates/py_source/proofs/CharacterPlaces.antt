-- A step over a character is a step over its bytes.
use Rattle.std.proofs.Common.{◌≡◌, ℕ, zero, suc, ◌+◌, ◌-◌, ◌<◌, ◌≤◌, false, List, [], ◌∷◌, ◌++◌, length, get_or, take, drop, refl, sym, ap, ◌∙◌, subst, arith, eqb, encode_utf8, encode_utf8_all, append-nil, ⊎_elim, length-append, zero-add}
use Rattle.std.specs.Char.{len_utf8}
use Rattle.std.proofs.lemmas.Str.{encode_ascii, len_utf8_ascii, length-encode, byte_from_char, char_from_byte, inside_one}
use Rattle.std.proofs.lemmas.Bool.{cases_lt, cases_Bool, eqb-true}
use Rattle.lint_values.specs.declared.place.Pos.{Pos}
use Rattle.py_source.specs.Places.{pos_from, next_pos, ends_line}

not_same : (a b : ℕ) → (a ≡ b → ⊥) → eqb a b ≡ false
not_same a b apart = ⊎_elim (λ same. absurd (apart (eqb-true a b same))) (λ other. other) (cases_Bool (eqb a b))

-- the bytes of a character that is not ASCII are above 127
high_bytes : (c : ℕ) → 128 ≤ c → (k : ℕ) → k < length (encode_utf8 c) → 128 ≤ get_or (encode_utf8 c) k 0
high_bytes c high k within =
    ⊎_elim
    (λ low. let same : c ≡ get_or (encode_utf8 c) k 0 = inside_one c [] (encode_utf8 c) k (sym (append-nil (encode_utf8 c))) within low in absurd (omega arith))
    (λ high_byte. high_byte)
    (cases_lt (get_or (encode_utf8 c) k 0) 128)

-- a text begins with LF where its bytes do
first_lf : (cs : List ℕ) → eqb (get_or (encode_utf8_all cs) 0 0) 10 ≡ eqb (get_or cs 0 0) 10
first_lf [] = refl
first_lf (c ∷ cs) =
    ⊎_elim
    (λ low. ap (λ b. eqb b 10) (byte_from_char (encode_utf8_all (c ∷ cs)) (encode_utf8_all cs) c refl low))
    (λ high.
    let byte : get_or (encode_utf8_all (c ∷ cs)) 0 0 ≡ 10 → ⊥ =
    λ here. let some : 0 < length (encode_utf8_all (c ∷ cs)) = filled (encode_utf8_all (c ∷ cs)) here in
    let same : c ≡ get_or (encode_utf8_all (c ∷ cs)) 0 0 = char_from_byte (encode_utf8_all (c ∷ cs)) (encode_utf8_all cs) c refl (omega arith) some in omega arith in
    not_same _ 10 byte ∙ sym (not_same c 10 (λ here. omega arith)))
    (cases_lt c 128) where
      filled : (xs : List ℕ) → get_or xs 0 0 ≡ 10 → 0 < length xs
      filled [] here = absurd (omega arith)
      filled (x ∷ xs) here = omega arith

ends_alike : (c : ℕ) (cs : List ℕ) → ends_line c (encode_utf8_all cs) ≡ ends_line c cs
ends_alike c cs = rw (first_lf cs) refl

high_ends_none : (c : ℕ) (rest : List ℕ) → 128 ≤ c → ends_line c rest ≡ false
high_ends_none c rest high = rw (not_same c 10 (λ here. omega arith), not_same c 13 (λ here. omega arith)) refl

-- bytes above 127 stand in one line
high_run : (at : Pos) (xs rest : List ℕ) (k : ℕ) → ((i : ℕ) → i < length xs → 128 ≤ get_or xs i 0) → pos_from at (length xs + k) (xs ++ rest) ≡ pos_from (record { line = at.line; col = at.col + length xs }) k rest
high_run at [] rest k high = rw (zero-add k, add_none at.col) refl where
  add_none : (n : ℕ) → n + 0 ≡ n
  add_none n = omega arith
high_run at (x ∷ xs) rest k high =
    let plain : ends_line x (xs ++ rest) ≡ false = high_ends_none x (xs ++ rest) (high 0 (omega arith)) in
    let size : length (x ∷ xs) + k ≡ suc (length xs + k) = omega arith in
    let width : at.col + 1 + length xs ≡ at.col + length (x ∷ xs) = omega arith in
    let later = high_run (record { line = at.line; col = at.col + 1 }) xs rest k (λ i within. high (suc i) (omega arith)) in
    ap (λ n. pos_from at n (x ∷ (xs ++ rest))) size ∙ ap (λ ends. pos_from (next_pos at ends 1) (length xs + k) (xs ++ rest)) plain ∙ later ∙ ap (λ w. pos_from (record { line = at.line; col = w }) k rest) width

-- a step over one character
pub character_step : (at : Pos) (c : ℕ) (cs : List ℕ) (k : ℕ) → pos_from at (len_utf8 c + k) (encode_utf8 c ++ encode_utf8_all cs) ≡ pos_from (next_pos at (ends_line c cs) (len_utf8 c)) k (encode_utf8_all cs)
character_step at c cs k = ⊎_elim (λ low. low_step at c cs k low) (λ high. high_step at c cs k high) (cases_lt c 128) where
  low_step : (at : Pos) (c : ℕ) (cs : List ℕ) (k : ℕ) → c < 128 → pos_from at (len_utf8 c + k) (encode_utf8 c ++ encode_utf8_all cs) ≡ pos_from (next_pos at (ends_line c cs) (len_utf8 c)) k (encode_utf8_all cs)
  low_step at c cs k low =
      let one : len_utf8 c ≡ 1 = len_utf8_ascii c low in
      let size : 1 + k ≡ suc k = omega arith in
      rw (encode_ascii c low, one, size) (ap (λ ends. pos_from (next_pos at ends 1) k (encode_utf8_all cs)) (ends_alike c cs))

  high_step : (at : Pos) (c : ℕ) (cs : List ℕ) (k : ℕ) → 128 ≤ c → pos_from at (len_utf8 c + k) (encode_utf8 c ++ encode_utf8_all cs) ≡ pos_from (next_pos at (ends_line c cs) (len_utf8 c)) k (encode_utf8_all cs)
  high_step at c cs k high =
      let plain : ends_line c cs ≡ false = high_ends_none c cs high in
      rw (plain, ← length-encode c) (high_run at (encode_utf8 c) (encode_utf8_all cs) k (high_bytes c high))

-- how many bytes stand in front of the rest, and the place behind them, one character further
pub record IsStep (at : Pos) (left : ℕ) (c : ℕ) (rest : List ℕ) : Type 0 where
  pub size : length (encode_utf8_all (take left rest)) ≡ len_utf8 c + length (encode_utf8_all (take (left - 1) (drop 1 rest)))
  pub same : pos_from (next_pos at (ends_line c (drop 1 rest)) (len_utf8 c)) (length (encode_utf8_all (take (left - 1) (drop 1 rest)))) (encode_utf8_all (drop 1 rest)) ≡ pos_from at (length (encode_utf8_all (take left rest))) (encode_utf8_all rest)

pub advance_step : (at : Pos) (left : ℕ) (c : ℕ) (rest : List ℕ) → 0 < left → left ≤ length rest → c ≡ get_or rest 0 c → IsStep at left c rest
advance_step at zero c rest some within first = absurd (omega arith)
advance_step at (suc left) c [] some within first = absurd (omega arith)
advance_step at (suc left) c (d ∷ rest) some within first = subst (λ x. IsStep at (suc left) x (d ∷ rest)) (sym first) here where
  here : IsStep at (suc left) d (d ∷ rest)
  here =
      let less : suc left - 1 ≡ left = omega arith in
      let all : length (encode_utf8_all (d ∷ take left rest)) ≡ len_utf8 d + length (encode_utf8_all (take left rest)) =
      length-append (encode_utf8 d) (encode_utf8_all (take left rest)) ∙ ap (λ n. n + length (encode_utf8_all (take left rest))) (length-encode d) in
      record { size = rw less all; same = rw (less, all) (sym (character_step at d rest (length (encode_utf8_all (take left rest))))) }
