-- The inside of a closed string begins and ends between characters, since the quotes around it are ASCII.
use Rattle.std.proofs.Common.{◌≡◌, ℕ, suc, ◌+◌, ◌<◌, ◌≤◌, ◌==◌, ◌&&◌, Bool, true, false, not, List, [], ◌∷◌, length, drop, refl, sym, ap, ◌∙◌, subst, arith, ⊎_elim, IsUtf8, eqb-true}
use Rattle.std.specs.Str.{IsCharBoundary}
use Rattle.std.proofs.lemmas.Bool.{and_parts, cases_Bool, cond_both, leb-true}
use Rattle.std.proofs.lemmas.List.{get_or-drop}
use Rattle.std.proofs.lemmas.Str.{IsCharBoundary-after_ascii, IsCharBoundary-before_ascii}
use Rattle.fstr_parse.specs.Bytes.{byte, is_quote}
use Rattle.py_terminals.specs.Strings.{inside_end, inside_start, is_closed, is_letter, letters_len, quotes_at, quotes_len}

-- behind the letters stands a quote
quote_behind : (text : List ℕ) → letters_len text < length text → is_quote (byte text (letters_len text)) ≡ true
quote_behind [] within = absurd (omega arith)
quote_behind (b ∷ text) within =
    cond_both (is_letter b) (1 + letters_len text) 0 (λ n. n < length (b ∷ text) → is_quote (byte (b ∷ text) n) ≡ true)
    (λ letter less. let size : 1 + letters_len text ≡ suc (letters_len text) = omega arith in rw size (quote_behind text (omega arith)))
    (λ quote less. is_not_letter (is_quote b) quote)
    within where
      is_not_letter : (q : Bool) → not q ≡ false → q ≡ true
      is_not_letter true same = refl
      is_not_letter false same = cc same

quote_low : (b : ℕ) → is_quote b ≡ true → b < 128
quote_low b is =
    ⊎_elim
    (λ one. let same : b ≡ 39 = eqb-true b 39 one in omega arith)
    (λ other. let same : b ≡ 34 = eqb-true b 34 (rw other at is) in omega arith)
    (cases_Bool (b == 39))

-- a byte of the rest is one of the text
byte_drop : (text : List ℕ) (n k : ℕ) → byte (drop n text) k ≡ byte text (n + k)
byte_drop text n k = get_or-drop n text k 0

pub some_quotes : (text : List ℕ) → 0 < quotes_at text
some_quotes text = cond_both (byte text 1 == byte text 0 && byte text 2 == byte text 0) 3 1 (λ n. 0 < n) (λ _. omega arith) (λ _. omega arith)

-- behind one quote, or three of a kind, a character begins
behind_quotes : (text : List ℕ) (n : ℕ) → IsUtf8 text → byte text n < 128 → n + quotes_at (drop n text) ≤ length text → IsCharBoundary text (n + quotes_at (drop n text))
behind_quotes text n utf8 low within =
    cond_both (byte (drop n text) 1 == byte (drop n text) 0 && byte (drop n text) 2 == byte (drop n text) 0) 3 1 (λ q. n + q ≤ length text → IsCharBoundary text (n + q))
    (λ three inside.
    let both : (byte (drop n text) 1 == byte (drop n text) 0 ≡ true) × (byte (drop n text) 2 == byte (drop n text) 0 ≡ true) = and_parts _ _ three in
    let third : byte (drop n text) 2 ≡ byte (drop n text) 0 = eqb-true _ _ both.1 in
    let first : byte text (n + 0) ≡ byte text n = ap (byte text) (omega arith) in
    let same : byte text (n + 2) ≡ byte text n = sym (byte_drop text n 2) ∙ third ∙ byte_drop text n 0 ∙ first in
    let size : n + 2 + 1 ≡ n + 3 = omega arith in
    subst (IsCharBoundary text) size (IsCharBoundary-after_ascii text (n + 2) utf8 (omega arith) (omega (arith, same, low))))
    (λ one inside. IsCharBoundary-after_ascii text n utf8 (omega arith) low)
    within

-- where a closed string may be cut
pub record IsCutThere (text : List ℕ) : Type 0 where
  pub ordered : inside_start text ≤ inside_end text
  pub some : 0 < quotes_len text
  pub starts : IsCharBoundary text (inside_start text)
  pub ends : IsCharBoundary text (inside_end text)

pub closed_parts : (text : List ℕ) → IsUtf8 text → is_closed text ≡ true → IsCutThere text
closed_parts text utf8 closed =
    let both = and_parts _ _ closed in
    let ordered : inside_start text ≤ inside_end text = leb-true _ _ both.0 in
    let same : byte text (inside_end text) ≡ byte text (letters_len text) = eqb-true _ _ both.1 in
    let some : 0 < quotes_len text = some_quotes (drop (letters_len text) text) in
    let low : byte text (letters_len text) < 128 = quote_low _ (quote_behind text (omega arith)) in
    record {
      ordered = ordered;
      some = some;
      starts = behind_quotes text (letters_len text) utf8 low (omega arith);
      ends = IsCharBoundary-before_ascii text (inside_end text) (omega arith) (omega (arith, same, low));
    }
