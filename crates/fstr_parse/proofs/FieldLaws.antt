-- What the code finds in a field is what stands there.
use Rattle.std.proofs.Common.{◌≡◌, ◌≢◌, ℕ, ◌+◌, ◌-◌, ◌<◌, ◌⊎◌, inl, inr, false, ◌==◌, cond, length, drop, refl, sym, ap, ◌∙◌, subst, arith, ⊎_elim}
use Rattle.std.proofs.lemmas.Bool.{ne_eqb, cases_lt, lt-ltb, le-ltb}
use Rattle.std.proofs.lemmas.List.{length-drop, drop_all}
use Rattle.std.specs.List.{prefix_len}
use Rattle.fstr_parse.specs.Bytes.{Text, byte, is_blank}
use Rattle.fstr_parse.specs.Expressions.{IsExpression, IsHalted, Halts, equals_len, is_end}
use Rattle.fstr_parse.specs.Fields.{IsField, IsBadField, IsMisconverted, behind_equals, closing_of, right_len, conversion_len, conversion_of}
use Rattle.fstr_parse.specs.Heads.{halt_fault, wrong_at, IsWrongConversion}
use Rattle.fstr_parse.specs.declared.fault.FieldFault.{FieldFault}
use Rattle.fstr_parse.specs.declared.fault.FieldFault.TheVariants.{Backslash, Comment, Unclosed, BadConversion}
use Rattle.fstr_parse.proofs.ExpressionLaws.{halts_where, mark_closes}
use Rattle.fstr_parse.proofs.StepLaws.{row_of_expression, row_of_halted}

-- the fault where an expression halts
pub halted_fault : (text stop : Text) → IsHalted text stop → IsBadField text stop (halt_fault stop)
halted_fault text stop halted =
    let row = row_of_halted text stop halted in
    let where_it_is : Halts stop = subst Halts (sym row.here) (halts_where row.brackets row.rest row.halts row.unended) in
    ⊎_elim
    (λ empty. let nothing : byte stop 0 ≡ 0 = ap (λ t. byte t 0) empty in
    subst (IsBadField text stop) (let e : Unclosed ≡ halt_fault stop = rw nothing refl in e) (inl halted, empty))
    (⊎_elim
    (λ backslash. subst (IsBadField text stop) (let e : Backslash ≡ halt_fault stop = rw backslash refl in e) (halted, backslash))
    (λ comment. subst (IsBadField text stop) (let e : Comment ≡ halt_fault stop = rw comment refl in e) (halted, comment)))
    where_it_is

-- the fault where a conversion goes wrong
pub misconverted_fault : (text : Text) (expression : ℕ) (fault : FieldFault) → IsExpression text expression → prefix_len is_blank text < expression → byte (behind_equals expression text) 0 ≡ 33 → IsWrongConversion (behind_equals expression text) fault → (stop : Text) × IsBadField text stop fault
misconverted_fault text expression fault is some marked wrong =
    let behind = behind_equals expression text in
    let stop = drop (right_len behind) behind in
    let misconverted : IsMisconverted text stop = record {
      len = expression;
      expression = is;
      some = some;
      marked = marked;
      wrong = wrong.0;
      here = λ _. stop;
    } in
    let size : length stop ≡ length behind - right_len behind = length-drop (right_len behind) behind in (
      stop,
      subst (IsBadField text stop) (sym wrong.1)
          (⊎_elim
          (λ within. subst (IsBadField text stop) (let e : BadConversion ≡ wrong_at behind (right_len behind) = sym (ap (λ b. cond b BadConversion Unclosed) (lt-ltb (right_len behind) (length behind) within)) in e)
          (misconverted, omega arith))
          (λ past. subst (IsBadField text stop) (let e : Unclosed ≡ wrong_at behind (right_len behind) = sym (ap (λ b. cond b BadConversion Unclosed) (le-ltb (right_len behind) (length behind) past)) in e)
          (inr misconverted, drop_all (right_len behind) behind past))
          (cases_lt (right_len behind) (length behind))),
    )

-- the byte that ends a head, by whether it is a `:`
closing_is : (b : ℕ) → (b ≡ 125) ⊎ (b ≡ 58) → b ≡ closing_of (b == 58)
closing_is b which =
    ⊎_elim (λ brace. rw brace refl) (λ colon. rw colon refl) which

-- a head without a conversion
pub plain_field : (text : Text) (expression equals closing : ℕ) → IsExpression text expression → prefix_len is_blank text < expression → equals ≡ equals_len (drop expression text) → closing ≡ byte (behind_equals expression text) 0 → closing ≢ 33 → IsField text (record { expression = expression; len = expression + equals + 1; convert = 0; formatted = closing == 58 })
unfolding is_end
plain_field text expression equals closing is some equals_is closing_at other =
    let behind = behind_equals expression text in
    let not_bang : byte behind 0 ≢ 33 = λ bang. other (closing_at ∙ bang) in
    let no_mark : (byte behind 0 == 33) ≡ false = ne_eqb (byte behind 0) 33 not_bang in
    let no_len : conversion_len behind ≡ 0 = ap (λ b. cond b 2 0) no_mark in
    let no_letter : conversion_of behind ≡ 0 = ap (λ b. cond b (byte behind 1) 0) no_mark in
    let closes : byte behind 0 ≡ closing_of (byte behind 0 == 58) = closing_is (byte behind 0) (mark_closes behind (row_of_expression text expression is).ends not_bang) in
    record {
      expression = is;
      some = some;
      conversion = sym no_letter;
      known = λ bang. absurd (not_bang bang);
      closed = ap (byte behind) no_len ∙ (closes ∙ ap (λ b. closing_of (b == 58)) (sym closing_at));
      size = omega (arith, equals_is, no_len);
    }

-- what stands behind the expression and its `=`, as the code comes there
pub behind_is : (text after behind : Text) (expression equals : ℕ) → after ≡ drop expression text → equals ≡ equals_len after → behind ≡ drop equals after → (equals ≡ equals_len (drop expression text)) × (behind ≡ behind_equals expression text)
behind_is text after behind expression equals is_after is_equals is_behind =
    let size : equals ≡ equals_len (drop expression text) = is_equals ∙ ap equals_len is_after in
    (size, is_behind ∙ (ap (drop equals) is_after ∙ ap (λ n. drop n (drop expression text)) size))
