-- Parts: what stands where no literal text does, how long a part is, and that a place has one part or one fault.
use Rattle.std.proofs.Common.{◌≡◌, ◌≢◌, ℕ, ◌+◌, ◌≤◌, ◌<◌, inr, Bool, true, false, ◌&&◌, ◌||◌, ◌==◌, min, cond, length, drop, refl, sym, ap, ◌∙◌, subst, arith, ⊎_elim}
use Rattle.std.proofs.lemmas.Bool.{cond_both, eqb-true, or_cases, ne_eqb, both_ways, cond-false, cases_Bool}
use Rattle.std.specs.List.{prefix_len}
use Rattle.fstr_parse.specs.Bytes.{Text, byte, is_brace}
use Rattle.fstr_parse.specs.Literals.{names_character, is_in_name, IsLiteral}
use Rattle.fstr_parse.specs.Scan.{unit_len, escape_len}
use Rattle.fstr_parse.proofs.UnitLaws.{row_of_literal, no_unit_ends}
use Rattle.fstr_parse.specs.Fields.{IsBadField}
use Rattle.fstr_parse.specs.Parts.{Opens, IsFaultAt}
use Rattle.fstr_parse.specs.declared.fault.FieldFault.{FieldFault}
use Rattle.fstr_parse.specs.declared.fault.FieldFault.TheVariants.{Backslash, Comment, Unclosed, EmptyField, BadConversion, LoneBrace, TooNested, Memory}

escape_some : (raw : Bool) (text : Text) → 0 < length text → 0 < escape_len raw text
unfolding escape_len
escape_some raw text some =
    cond_both (names_character raw text) (min (length text) (4 + prefix_len is_in_name (drop 3 text))) _ (λ n. 0 < n) (λ _. omega arith)
    (λ _. cond_both (length text == 1 || is_brace (byte text 1)) 1 2 (λ n. 0 < n) (λ _. omega arith) (λ _. omega arith))

-- where no literal text goes on, a brace stands
pub brace_stands : (raw : Bool) (depth : ℕ) (text : Text) → unit_len raw depth text ≡ 0 → 0 < length text → is_brace (byte text 0) ≡ true
unfolding unit_len
brace_stands raw depth text none some =
    let not_empty : (length text == 0) ≡ false = ne_eqb (length text) 0 (λ e. absurd (omega arith)) in
    let units : ℕ = cond (is_brace (byte text 0)) (cond (depth == 0 && byte text 1 == byte text 0) 2 0) (cond (byte text 0 == 92) (escape_len raw text) 1) in
    let left : units ≡ 0 = sym (cond-false (length text == 0) 0 units not_empty) ∙ none in
    ⊎_elim (λ yes. yes)
    (λ no.
    let plain : cond (byte text 0 == 92) (escape_len raw text) 1 ≡ 0 =
    sym (cond-false (is_brace (byte text 0)) (cond (depth == 0 && byte text 1 == byte text 0) 2 0) (cond (byte text 0 == 92) (escape_len raw text) 1) no) ∙ left in
    absurd (cond_both (byte text 0 == 92) (escape_len raw text) 1 (λ n. n ≡ 0 → ⊥)
    (λ _ e. let more : 0 < escape_len raw text = escape_some raw text some in absurd (omega arith)) (λ _ e. absurd (omega arith)) plain))
    (cases_Bool (is_brace (byte text 0)))

-- where no literal text goes on and no `}` stands, a field may begin
pub opens_from : (raw : Bool) (depth : ℕ) (text : Text) → unit_len raw depth text ≡ 0 → 0 < length text → byte text 0 ≢ 125 → byte text 0 ≡ 123
opens_from raw depth text none some other =
    ⊎_elim (λ opening. eqb-true (byte text 0) 123 opening) (λ closing. absurd (other (eqb-true (byte text 0) 125 closing)))
    (or_cases (byte text 0 == 123) (byte text 0 == 125) (brace_stands raw depth text none some))

-- a fault in the field that begins here
pub field_fault : (raw : Bool) (depth : ℕ) (text stop : Text) (fault : FieldFault) → Opens depth text → IsBadField (drop 1 text) stop fault → IsFaultAt depth text stop fault
field_fault raw depth text stop Backslash opens bad = (opens, bad)
field_fault raw depth text stop Comment opens bad = (opens, bad)
field_fault raw depth text stop Unclosed opens bad = inr (opens, bad)
field_fault raw depth text stop EmptyField opens bad = (opens, bad)
field_fault raw depth text stop BadConversion opens bad = (opens, bad)
field_fault raw depth text stop LoneBrace opens bad = absurd bad
field_fault raw depth text stop TooNested opens bad = absurd bad
field_fault raw depth text stop Memory opens bad = absurd bad

-- a brace that begins no unit is not doubled
pub apart : (raw : Bool) (depth : ℕ) (text : Text) (b : ℕ) → unit_len raw depth text ≡ 0 → byte text 0 ≡ b → is_brace b ≡ true → depth ≡ 0 → byte text 1 ≢ b
apart raw depth text b none here brace outside same =
    ⊎_elim
    (λ empty. both_ways (is_brace b) (ap is_brace (sym here ∙ ap (λ t. byte t 0) empty)) brace)
    (λ single. single.1 outside (same ∙ sym here))
    (no_unit_ends raw depth text none)

-- an empty literal part has no unit
pub no_unit : (raw : Bool) (depth : ℕ) (text : Text) (len : ℕ) → IsLiteral raw depth text len → len ≤ 0 → unit_len raw depth text ≡ 0
no_unit raw depth text len literal none =
    let is : len ≡ 0 = omega arith in
    subst (λ n. unit_len raw depth (drop n text) ≡ 0) is (row_of_literal raw depth text len literal).ends

-- the field that the code finds may begin here
pub opens_here : (raw : Bool) (depth : ℕ) (text : Text) (len : ℕ) → IsLiteral raw depth text len → len ≤ 0 → 0 < length text → byte text 0 ≢ 125 → depth < 2 → Opens depth text
opens_here raw depth text len literal none some other nested =
    let single : unit_len raw depth text ≡ 0 = no_unit raw depth text len literal none in
    let brace = opens_from raw depth text single some other in
    record { brace = brace; single = λ outside. apart raw depth text 123 single brace refl outside; nested = nested }
