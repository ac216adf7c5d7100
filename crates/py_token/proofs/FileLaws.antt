-- Where the fault of a file as a whole stands.
use Rattle.std.proofs.Common.{◌≡◌, ℕ, ◌+◌, ◌≤◌, ◌<◌, ◌==◌, ◌&&◌, nat_eq, true, List, [], ◌∷◌, length, drop, slice_index, arith, cond, ⊎_elim, inr, Some, None, length-drop, eqb-true}
use Rattle.std.specs.List.{prefix_len, starts_with}
use Rattle.std.proofs.lemmas.List.Sums.{prefix_len-le-length}
use Rattle.std.proofs.lemmas.List.{length-take-le}
use Rattle.std.proofs.lemmas.Bool.{and_parts, cases_lt, cond_both}
use Rattle.py_source.specs.declared.decoding.SourceCause.{SourceCause}
use Rattle.py_source.specs.declared.decoding.SourceCause.TheVariants.{NotUtf8, NulByte, Coding}
use Rattle.py_source.specs.Coding.{behind, has_no_code, is_comment_line, is_indent, names_other, other_encoding}
use Rattle.py_source.specs.Physical.{behind_line, behind_line_end, first_line, is_in_line, line_len, whole_line_len}
use Rattle.py_source.specs.Decoding.{IsFaultless, IsSourceFault, byte_order_mark, without_mark}
use Rattle.py_token.specs.declared.fault.TokenFault.{TokenFault}
use Rattle.py_token.specs.declared.fault.TokenFault.TheVariants.{At, Memory}
use Rattle.py_token.specs.FirstFault.{IsFirstFault, IsTextFault}
use Rattle.py_token.specs.Settings.{whole}
use Rattle.py_token.specs.Tokenized.{OnFault}

pub without_mark_le : (bytes : List ℕ) → length (without_mark bytes) ≤ length bytes
without_mark_le bytes =
    cond_both (starts_with nat_eq bytes byte_order_mark) (drop 3 bytes) bytes (λ body. length body ≤ length bytes) (λ _. omega (arith, length-drop 3 bytes)) (λ _. omega arith)

past_none : (xs : List ℕ) → length xs ≡ 0 → slice_index xs 0 ≡ 35 → ⊥
past_none [] none here = omega arith
past_none (x ∷ xs) none here = omega arith

-- a comment that is alone on its line begins before the line's end
comment_within : (line : List ℕ) → is_comment_line line ≡ true → prefix_len is_indent line < length line
comment_within line alone =
    ⊎_elim
    (λ less. less)
    (λ le. absurd (past_none (behind is_indent line) (omega (arith, length-drop (prefix_len is_indent line) line, le)) (eqb-true _ 35 alone)))
    (cases_lt (prefix_len is_indent line) (length line))

names_within : (line : List ℕ) → names_other line ≡ true → prefix_len is_indent line < length line
names_within line names = comment_within line (and_parts (is_comment_line line) _ names).0

first_line_le : (text : List ℕ) → length (first_line text) ≤ length text
first_line_le text = omega (arith, length-take-le (line_len text) text (prefix_len-le-length is_in_line text), prefix_len-le-length is_in_line text)

line_end_le : (text : List ℕ) → length (behind_line_end text) ≤ length text
line_end_le [] = omega arith
line_end_le (b ∷ []) = omega arith
line_end_le (b ∷ c ∷ text) = cond_both (b == 13 && c == 10) text (c ∷ text) (λ rest. length rest ≤ length (b ∷ c ∷ text)) (λ _. omega arith) (λ _. omega arith)

behind_line_le : (text : List ℕ) → length (behind_line text) ≤ length text
behind_line_le text = omega (arith, line_end_le (drop (line_len text) text), length-drop (line_len text) text)

-- the comment that names another encoding stands in the text
coding_within : (text : List ℕ) (n : ℕ) → other_encoding text ≡ Some n → n < length text
coding_within text n =
    cond_both (names_other (first_line text)) (Some (prefix_len is_indent (first_line text)))
    (cond (has_no_code (first_line text) && names_other (first_line (behind_line text))) (Some (whole_line_len text + prefix_len is_indent (first_line (behind_line text)))) None)
    (λ answer. answer ≡ Some n → n < length text)
    (λ names same. let here : prefix_len is_indent (first_line text) ≡ n = cc same in omega (arith, here, names_within (first_line text) names, first_line_le text))
    (λ _.
    cond_both (has_no_code (first_line text) && names_other (first_line (behind_line text))) (Some (whole_line_len text + prefix_len is_indent (first_line (behind_line text)))) None
    (λ answer. answer ≡ Some n → n < length text)
    (λ both same.
    let here : whole_line_len text + prefix_len is_indent (first_line (behind_line text)) ≡ n = cc same in
    omega (arith, here, names_within (first_line (behind_line text)) (and_parts (has_no_code (first_line text)) _ both).1, first_line_le (behind_line text), behind_line_le text))
    (λ _ same. absurd (cc same)))

-- the fault of a file as a whole stands in its text
pub source_within : (bytes : List ℕ) (n : ℕ) (cause : SourceCause) → IsSourceFault bytes n cause → n < length (without_mark bytes)
source_within bytes n NotUtf8 fault = fault.1.short
source_within bytes n NulByte fault = fault.1.within
source_within bytes n Coding fault = coding_within (without_mark bytes) n fault.3

-- the first fault of a text is that of its source, where the file as a whole has none
pub of_source : (bytes : List ℕ) (fault : TokenFault) → IsFaultless bytes → OnFault (IsTextFault whole (without_mark bytes)) fault → OnFault (IsFirstFault bytes) fault
of_source bytes (At pos cause) faultless first = inr (faultless, first)
of_source bytes Memory faultless first = tt
