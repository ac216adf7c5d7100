-- What stands at a place: the end, a part, or a fault; and that it is one of them alone.
use Rattle.std.proofs.Common.{◌≡◌, ◌≢◌, ℕ, zero, suc, ◌+◌, ◌-◌, ◌≤◌, ◌<◌, inr, Bool, true, false, ◌&&◌, ◌==◌, leb, ltb, cond, [], length, drop, refl, sym, ap, ◌∙◌, subst, arith, ⊎_elim}
use Rattle.std.proofs.lemmas.Bool.{cond_both, eqb-true, eq-eqb, ne_eqb, cond-true, cond-false, cases_Bool, le-leb, lt-leb, and_from, and_left, lt-ltb, le-ltb}
use Rattle.std.specs.List.{prefix_len}
use Rattle.std.proofs.lemmas.List.{length-drop}
use Rattle.fstr_parse.specs.Bytes.{Text, byte, is_brace, is_blank, is_conversion}
use Rattle.fstr_parse.specs.Scan.{Leads}
use Rattle.fstr_parse.specs.Literals.{same_depth, IsLiteral}
use Rattle.fstr_parse.specs.Expressions.{IsExpression, IsHalted, brackets_behind, ends_at, is_end, equals_len}
use Rattle.fstr_parse.specs.Scan.{unit_len, step_len, opened_len}
use Rattle.fstr_parse.specs.Fields.{IsField, IsBadField, IsMisconverted, behind_equals, conversion_len, conversion_of, closing_of, is_wrong, right_len, ends_head}
use Rattle.fstr_parse.specs.Heads.{halt_fault, wrong_at}
use Rattle.fstr_parse.specs.Parts.{Opens, IsPart, IsFaultAt, IsOver}
use Rattle.fstr_parse.specs.declared.field.Field.{Field}
use Rattle.fstr_parse.specs.declared.part.Part.{Part}
use Rattle.fstr_parse.specs.declared.part.Part.TheVariants.{Literal, Head, FormatEnd}
use Rattle.fstr_parse.specs.declared.fault.FieldFault.{FieldFault}
use Rattle.fstr_parse.specs.declared.fault.FieldFault.TheVariants.{Backslash, Comment, Unclosed, EmptyField, BadConversion, LoneBrace, TooNested, Memory}
use Rattle.fstr_parse.proofs.RowLaws.{Leads-unique}
use Rattle.fstr_parse.proofs.UnitLaws.{row_of_literal, ends_no_unit}
use Rattle.fstr_parse.proofs.StepLaws.{row_of_expression, row_of_halted}
use Rattle.fstr_parse.proofs.ExpressionLaws.{byte_in}

pub data Outcome : Type 0 where
  Over : Outcome
  Stands : Part → Outcome
  Faulty : Text → FieldFault → Outcome

-- the outcome is right here
abbrev pub Gives : Bool → ℕ → Text → Outcome → Type 0
Gives raw depth text Over = IsOver depth text
Gives raw depth text (Stands part) = IsPart raw depth text part
Gives raw depth text (Faulty stop fault) = IsFaultAt depth text stop fault

-- ---- within a field

-- an expression goes as far as here, and no further
pub record IsStop (text : Text) (brackets : ℕ) (rest : Text) : Type 0 where
  pub steps : ℕ
  pub row : Leads step_len brackets_behind steps 0 text brackets rest
  pub halts : step_len brackets rest ≡ 0

-- by what stands behind an expression of this length and its `=`
pub tail_outcome : ℕ → ℕ → Text → Outcome
tail_outcome len equals behind =
    cond (byte behind 0 == 33 && is_wrong behind) (Faulty (drop (right_len behind) behind) (wrong_at behind (right_len behind)))
    (Stands (Head (record { expression = len; len = len + equals + conversion_len behind + 1; convert = conversion_of behind; formatted = byte behind (conversion_len behind) == 58 })))

-- by where the expression stops
pub field_outcome : Text → ℕ → Text → Outcome
field_outcome text brackets rest =
    cond (ends_at brackets rest)
    (cond (leb (length text - length rest) (prefix_len is_blank text)) (Faulty rest EmptyField)
    (tail_outcome (length text - length rest) (equals_len rest) (drop (equals_len rest) rest)))
    (Faulty (drop (opened_len rest) rest) (halt_fault (drop (opened_len rest) rest)))

-- the outcome is what the stop of the expression says
pub record InField (text : Text) (outcome : Outcome) : Type 0 where
  pub brackets : ℕ
  pub rest : Text
  pub stop : IsStop text brackets rest
  pub is : outcome ≡ field_outcome text brackets rest

InField-unique : (text : Text) (one other : Outcome) → InField text one → InField text other → one ≡ other
InField-unique text one other a b =
    let same = Leads-unique step_len brackets_behind a.stop.steps b.stop.steps 0 text a.brackets a.rest b.brackets b.rest a.stop.row b.stop.row a.stop.halts b.stop.halts in
    a.is ∙ (ap (λ n. field_outcome text n a.rest) same.0 ∙ (ap (λ t. field_outcome text b.brackets t) same.1 ∙ sym b.is))

-- where an expression ends no step stands
end_halts : (rest : Text) → is_end rest ≡ true → step_len 0 rest ≡ 0
unfolding step_len
end_halts rest e = rw e refl

ended_stop : (text : Text) (len : ℕ) → IsExpression text len → IsStop text 0 (drop len text)
ended_stop text len is =
    let row = row_of_expression text len is in
    record { steps = row.steps; row = row.row; halts = end_halts (drop len text) row.ends }

size_back : (text : Text) (len : ℕ) → len ≤ length text → length text - length (drop len text) ≡ len
size_back text len within = omega (arith, length-drop len text)

field_parts : (f : Field) (e l c : ℕ) (b : Bool) → f.expression ≡ e → f.len ≡ l → f.convert ≡ c → f.formatted ≡ b → f ≡ record { expression = e; len = l; convert = c; formatted = b }
field_parts f e l c b pe pl pc pb = λ i. record { expression = pe i; len = pl i; convert = pc i; formatted = pb i }

-- an expression that is not blank leads to what stands behind it
head_outcome : (text : Text) (len : ℕ) → IsExpression text len → prefix_len is_blank text < len → field_outcome text 0 (drop len text) ≡ tail_outcome len (equals_len (drop len text)) (behind_equals len text)
unfolding field_outcome
head_outcome text len is some =
    let rest = drop len text in
    let size : length text - length rest ≡ len = size_back text len (row_of_expression text len is).within in
    let full : leb (length text - length rest) (prefix_len is_blank text) ≡ false = lt-leb (length text - length rest) (prefix_len is_blank text) (omega arith) in
    let ends : is_end rest ≡ true = (row_of_expression text len is).ends in
    rw (ends, full, size) refl

blank_outcome : (text : Text) (len : ℕ) → IsExpression text len → len ≤ prefix_len is_blank text → field_outcome text 0 (drop len text) ≡ Faulty (drop len text) EmptyField
unfolding field_outcome
blank_outcome text len is blank =
    let rest = drop len text in
    let size : length text - length rest ≡ len = size_back text len (row_of_expression text len is).within in
    let empty : leb (length text - length rest) (prefix_len is_blank text) ≡ true = le-leb (length text - length rest) (prefix_len is_blank text) (omega arith) in
    let ends : is_end rest ≡ true = (row_of_expression text len is).ends in
    rw (ends, empty) refl

halted_outcome : (text : Text) (brackets : ℕ) (rest : Text) → ends_at brackets rest ≡ false → field_outcome text brackets rest ≡ Faulty (drop (opened_len rest) rest) (halt_fault (drop (opened_len rest) rest))
unfolding field_outcome
halted_outcome text brackets rest e = cond-false (ends_at brackets rest) _ _ e

closing_ends : (formatted : Bool) → ends_head (closing_of formatted) ≡ true
closing_ends true = refl
closing_ends false = refl

closing_back : (formatted : Bool) → (closing_of formatted == 58) ≡ formatted
closing_back true = refl
closing_back false = refl

-- a field's conversion is not wrong
field_right : (text : Text) (field : Field) → IsField text field → (byte (behind_equals field.expression text) 0 == 33 && is_wrong (behind_equals field.expression text)) ≡ false
field_right text field is =
    let behind = behind_equals field.expression text in
    ⊎_elim
    (λ bang.
    let marked : byte behind 0 ≡ 33 = eqb-true (byte behind 0) 33 bang in
    let letter : field.convert ≡ byte behind 1 = is.conversion ∙ ap (λ b. cond b (byte behind 1) 0) bang in
    let known : is_conversion (byte behind 1) ≡ true = subst (λ b. is_conversion b ≡ true) letter (is.known marked) in
    let size : conversion_len behind ≡ 2 = ap (λ b. cond b 2 0) bang in
    let closing : byte behind 2 ≡ closing_of field.formatted = ap (byte behind) (sym size) ∙ is.closed in
    let ended : ends_head (byte behind 2) ≡ true = ap ends_head closing ∙ closing_ends field.formatted in
    let right : is_wrong behind ≡ false = rw (known, ended) refl in
    rw (bang, right) refl)
    (λ none. and_left (byte behind 0 == 33) (is_wrong behind) none)
    (cases_Bool (byte behind 0 == 33))

field_stands : (text : Text) (field : Field) → IsField text field → InField text (Stands (Head field))
unfolding tail_outcome
field_stands text field is =
    let len = field.expression in
    let behind = behind_equals len text in
    let equals = equals_len (drop len text) in
    let same : field ≡ record { expression = len; len = len + equals + conversion_len behind + 1; convert = conversion_of behind; formatted = byte behind (conversion_len behind) == 58 } =
    field_parts field len (len + equals + conversion_len behind + 1) (conversion_of behind) (byte behind (conversion_len behind) == 58)
    refl is.size is.conversion (sym (ap (λ b. b == 58) is.closed ∙ closing_back field.formatted)) in
    let tail : tail_outcome len equals behind ≡ Stands (Head field) =
    cond-false (byte behind 0 == 33 && is_wrong behind) _ _ (field_right text field is) ∙ ap (λ f. Stands (Head f)) (sym same) in
    record {
      brackets = 0;
      rest = drop len text;
      stop = ended_stop text len is.expression;
      is = sym (head_outcome text len is.expression is.some ∙ tail);
    }

halt_stands : (text stop : Text) (fault : FieldFault) → IsHalted text stop → halt_fault stop ≡ fault → InField text (Faulty stop fault)
halt_stands text stop fault halted is =
    let row = row_of_halted text stop halted in
    record {
      brackets = row.brackets;
      rest = row.rest;
      stop = record { steps = row.steps; row = row.row; halts = row.halts };
      is = sym (halted_outcome text row.brackets row.rest row.unended ∙ (ap (λ s. Faulty s (halt_fault s)) (sym row.here) ∙ ap (Faulty stop) is));
    }

conversion_stands : (text stop : Text) (fault : FieldFault) → (bad : IsMisconverted text stop) → wrong_at (behind_equals bad.len text) (right_len (behind_equals bad.len text)) ≡ fault → InField text (Faulty stop fault)
unfolding tail_outcome
conversion_stands text stop fault bad is =
    let behind = behind_equals bad.len text in
    let wrong : (byte behind 0 == 33 && is_wrong behind) ≡ true = and_from (byte behind 0 == 33) (is_wrong behind) (eq-eqb (byte behind 0) 33 bad.marked) bad.wrong in
    let tail : tail_outcome bad.len (equals_len (drop bad.len text)) behind ≡ Faulty stop fault =
    cond-true (byte behind 0 == 33 && is_wrong behind) _ _ wrong ∙ (ap (λ s. Faulty s (wrong_at behind (right_len behind))) (sym bad.here) ∙ ap (Faulty stop) is) in
    record {
      brackets = 0;
      rest = drop bad.len text;
      stop = ended_stop text bad.len bad.expression;
      is = sym (head_outcome text bad.len bad.expression bad.some ∙ tail);
    }

wrong_within : (behind : Text) (n : ℕ) → 0 < length (drop n behind) → wrong_at behind n ≡ BadConversion
wrong_within behind n some =
    let within : n < length behind = omega (arith, length-drop n behind) in
    ap (λ b. cond b BadConversion Unclosed) (lt-ltb n (length behind) within)

wrong_past : (behind : Text) (n : ℕ) → length (drop n behind) ≡ 0 → wrong_at behind n ≡ Unclosed
wrong_past behind n none =
    let past : length behind ≤ n = omega (arith, length-drop n behind) in
    ap (λ b. cond b BadConversion Unclosed) (le-ltb n (length behind) past)

-- each fault in a field is what the stop of its expression says
bad_stands : (text stop : Text) (fault : FieldFault) → IsBadField text stop fault → InField text (Faulty stop fault)
bad_stands text stop Backslash bad =
    let at = bad.1 in
    halt_stands text stop Backslash bad.0 (rw at refl)
bad_stands text stop Comment bad =
    let at = bad.1 in
    halt_stands text stop Comment bad.0 (rw at refl)
bad_stands text stop Unclosed bad =
    let nothing : byte stop 0 ≡ 0 = ap (λ t. byte t 0) bad.1 in
    ⊎_elim (λ halted. halt_stands text stop Unclosed halted (rw nothing refl))
    (λ wrong. conversion_stands text stop Unclosed wrong (wrong_past (behind_equals wrong.len text) (right_len (behind_equals wrong.len text)) (ap length (sym wrong.here) ∙ ap length bad.1)))
    bad.0
bad_stands text stop EmptyField bad = record {
  brackets = 0;
  rest = drop bad.len text;
  stop = ended_stop text bad.len bad.expression;
  is = sym (blank_outcome text bad.len bad.expression bad.blank ∙ ap (λ s. Faulty s EmptyField) (sym bad.here));
}
bad_stands text stop BadConversion bad =
    let wrong = bad.0 in
    conversion_stands text stop BadConversion wrong (wrong_within (behind_equals wrong.len text) (right_len (behind_equals wrong.len text)) (subst (λ t. 0 < length t) wrong.here bad.1))
bad_stands text stop LoneBrace bad = absurd bad
bad_stands text stop TooNested bad = absurd bad
bad_stands text stop Memory bad = absurd bad

-- ---- at any place

pub data Stage : Type 0 where
  InText : Stage
  InsideField : Stage
  Settled : Outcome → Stage

stage : Bool → ℕ → Text → Stage
stage raw depth text =
    cond (ltb 0 (unit_len raw depth text)) InText
    (cond (length text == 0) (Settled (cond (depth == 0) Over (Faulty [] Unclosed)))
    (cond (byte text 0 == 125) (Settled (cond (depth == 0) (Faulty text LoneBrace) (Stands FormatEnd)))
    (cond (leb 2 depth) (Settled (Faulty text TooNested)) InsideField)))

-- a literal part of the text
record InLiteral (raw : Bool) (depth : ℕ) (text : Text) (outcome : Outcome) : Type 0 where
  len : ℕ
  literal : IsLiteral raw depth text len
  is : outcome ≡ Stands (Literal len)

abbrev By : Stage → Bool → ℕ → Text → Outcome → Type 0
By InText raw depth text outcome = InLiteral raw depth text outcome
By InsideField raw depth text outcome = InField (drop 1 text) outcome
By (Settled settled) raw depth text outcome = outcome ≡ settled

literal_unique : (raw : Bool) (depth : ℕ) (text : Text) (a b : ℕ) → IsLiteral raw depth text a → IsLiteral raw depth text b → a ≡ b
literal_unique raw depth text a b one other =
    let x = row_of_literal raw depth text a one in
    let y = row_of_literal raw depth text b other in
    let same = Leads-unique (unit_len raw) same_depth x.units y.units depth text depth (drop a text) depth (drop b text) x.row y.row x.ends y.ends in
    omega (arith, ap length same.1, length-drop a text, length-drop b text, x.within, y.within)

By-unique : (s : Stage) (raw : Bool) (depth : ℕ) (text : Text) (one other : Outcome) → By s raw depth text one → By s raw depth text other → one ≡ other
By-unique InText raw depth text one other a b =
    a.is ∙ (ap (λ n. Stands (Literal n)) (literal_unique raw depth text a.len b.len a.literal b.literal) ∙ sym b.is)
By-unique InsideField raw depth text one other a b = InField-unique (drop 1 text) one other a b
By-unique (Settled settled) raw depth text one other a b = a ∙ sym b

leads_begin : (len behind : ℕ → Text → ℕ) (steps level : ℕ) (text : Text) (level' : ℕ) (rest : Text) → Leads len behind steps level text level' rest → length rest < length text → 0 < len level text
leads_begin len behind zero level text level' rest row shorter = absurd (omega (arith, ap length row.1))
leads_begin len behind (suc steps) level text level' rest row shorter = row.0

unit_begins : (raw : Bool) (depth : ℕ) (text : Text) (len : ℕ) → 0 < len → IsLiteral raw depth text len → 0 < unit_len raw depth text
unit_begins raw depth text len some literal =
    let row = row_of_literal raw depth text len literal in
    leads_begin (unit_len raw) same_depth row.units depth text depth (drop len text) row.row (omega (arith, length-drop len text, row.within))

-- in a format no brace is a unit
brace_no_unit : (raw : Bool) (depth : ℕ) (text : Text) → 0 < depth → is_brace (byte text 0) ≡ true → unit_len raw depth text ≡ 0
unfolding unit_len
brace_no_unit raw depth text nested brace =
    let inside : (depth == 0) ≡ false = ne_eqb depth 0 (λ e. absurd (omega arith)) in
    cond_both (length text == 0) 0 _ (λ n. n ≡ 0) (λ _. refl) (λ _. rw (brace, inside) refl)

stage_text : (raw : Bool) (depth : ℕ) (text : Text) → 0 < unit_len raw depth text → stage raw depth text ≡ InText
unfolding stage
stage_text raw depth text some = cond-true (ltb 0 (unit_len raw depth text)) _ _ (lt-ltb 0 (unit_len raw depth text) some)

stage_end : (raw : Bool) (depth : ℕ) → stage raw depth [] ≡ Settled (cond (depth == 0) Over (Faulty [] Unclosed))
unfolding stage unit_len
stage_end raw depth = refl

stage_byte : (raw : Bool) (depth : ℕ) (text : Text) → unit_len raw depth text ≡ 0 → 0 < length text → stage raw depth text ≡ cond (byte text 0 == 125) (Settled (cond (depth == 0) (Faulty text LoneBrace) (Stands FormatEnd))) (cond (leb 2 depth) (Settled (Faulty text TooNested)) InsideField)
unfolding stage
stage_byte raw depth text none some =
    let no_unit : ltb 0 (unit_len raw depth text) ≡ false = le-ltb 0 (unit_len raw depth text) (omega arith) in
    let not_empty : (length text == 0) ≡ false = ne_eqb (length text) 0 (λ e. absurd (omega arith)) in
    rw (no_unit, not_empty) refl

stage_closing : (raw : Bool) (depth : ℕ) (text : Text) → unit_len raw depth text ≡ 0 → byte text 0 ≡ 125 → stage raw depth text ≡ Settled (cond (depth == 0) (Faulty text LoneBrace) (Stands FormatEnd))
stage_closing raw depth text none closing =
    let some : 0 < length text = byte_in text 0 125 (omega arith) closing in
    stage_byte raw depth text none some ∙ cond-true (byte text 0 == 125) _ _ (eq-eqb (byte text 0) 125 closing)

stage_opening : (raw : Bool) (depth : ℕ) (text : Text) → unit_len raw depth text ≡ 0 → byte text 0 ≡ 123 → stage raw depth text ≡ cond (leb 2 depth) (Settled (Faulty text TooNested)) InsideField
stage_opening raw depth text none opening =
    let some : 0 < length text = byte_in text 0 123 (omega arith) opening in
    stage_byte raw depth text none some ∙ cond-false (byte text 0 == 125) _ _ (ap (λ b. b == 125) opening)

-- a single brace is no unit
single_no_unit : (raw : Bool) (depth : ℕ) (text : Text) (b : ℕ) → is_brace b ≡ true → byte text 0 ≡ b → (depth ≡ 0 → byte text 1 ≢ b) → unit_len raw depth text ≡ 0
single_no_unit raw depth text b brace here single =
    ends_no_unit raw depth text (inr (ap is_brace here ∙ brace, λ outside same. single outside (same ∙ here)))

opens_no_unit : (raw : Bool) (depth : ℕ) (text : Text) → Opens depth text → unit_len raw depth text ≡ 0
opens_no_unit raw depth text opens = single_no_unit raw depth text 123 refl opens.brace opens.single

stage_field : (raw : Bool) (depth : ℕ) (text : Text) → Opens depth text → stage raw depth text ≡ InsideField
stage_field raw depth text opens =
    stage_opening raw depth text (opens_no_unit raw depth text opens) opens.brace ∙ cond-false (leb 2 depth) _ _ (lt-leb 2 depth opens.nested)

in_field : (raw : Bool) (depth : ℕ) (text : Text) (outcome : Outcome) → Opens depth text → InField (drop 1 text) outcome → By (stage raw depth text) raw depth text outcome
in_field raw depth text outcome opens inside = subst (λ s. By s raw depth text outcome) (sym (stage_field raw depth text opens)) inside

-- what stands at a place is what its stage says
gives_by : (raw : Bool) (depth : ℕ) (text : Text) (outcome : Outcome) → Gives raw depth text outcome → By (stage raw depth text) raw depth text outcome
gives_by raw depth text Over over =
    let outside : (depth == 0) ≡ true = eq-eqb depth 0 over.0 in
    let at : stage raw depth text ≡ Settled Over =
    ap (stage raw depth) over.1 ∙ (stage_end raw depth ∙ ap (λ b. Settled (cond b Over (Faulty [] Unclosed))) outside) in
    subst (λ s. By s raw depth text Over) (sym at) (λ _. Over)
gives_by raw depth text (Stands (Literal len)) part =
    subst (λ s. By s raw depth text (Stands (Literal len))) (sym (stage_text raw depth text (unit_begins raw depth text len part.0 part.1)))
    (record { len = len; literal = part.1; is = λ _. Stands (Literal len) })
gives_by raw depth text (Stands (Head field)) part =
    in_field raw depth text (Stands (Head field)) part.0 (field_stands (drop 1 text) field part.1)
gives_by raw depth text (Stands FormatEnd) part =
    let inside : (depth == 0) ≡ false = ne_eqb depth 0 (λ e. absurd (omega arith)) in
    let closing = part.1 in
    let none : unit_len raw depth text ≡ 0 = brace_no_unit raw depth text part.0 (rw closing refl) in
    subst (λ s. By s raw depth text (Stands FormatEnd)) (sym (stage_closing raw depth text none closing ∙ ap (λ b. Settled (cond b (Faulty text LoneBrace) (Stands FormatEnd))) inside)) (λ _. Stands FormatEnd)
gives_by raw depth text (Faulty stop LoneBrace) fault =
    let outside : (depth == 0) ≡ true = eq-eqb depth 0 fault.0 in
    subst (λ s. By s raw depth text (Faulty stop LoneBrace)) (sym (stage_closing raw depth text (single_no_unit raw depth text 125 refl fault.1 (λ _. fault.2)) fault.1 ∙ ap (λ b. Settled (cond b (Faulty text LoneBrace) (Stands FormatEnd))) outside)) (ap (λ t. Faulty t LoneBrace) fault.3)
gives_by raw depth text (Faulty stop TooNested) fault =
    let opening = fault.1 in
    let none : unit_len raw depth text ≡ 0 = brace_no_unit raw depth text (omega (arith, fault.0)) (rw opening refl) in
    subst (λ s. By s raw depth text (Faulty stop TooNested)) (sym (stage_opening raw depth text none opening ∙ cond-true (leb 2 depth) _ _ (le-leb 2 depth fault.0))) (ap (λ t. Faulty t TooNested) fault.2)
gives_by raw depth text (Faulty stop Unclosed) fault =
    ⊎_elim
    (λ ended.
    let inside : (depth == 0) ≡ false = ne_eqb depth 0 (λ e. absurd (omega (arith, ended.0))) in
    let at : stage raw depth text ≡ Settled (Faulty [] Unclosed) =
    ap (stage raw depth) ended.1 ∙ (stage_end raw depth ∙ ap (λ b. Settled (cond b Over (Faulty [] Unclosed))) inside) in
    subst (λ s. By s raw depth text (Faulty stop Unclosed)) (sym at) (ap (λ t. Faulty t Unclosed) ended.2))
    (λ inner. in_field raw depth text (Faulty stop Unclosed) inner.0 (bad_stands (drop 1 text) stop Unclosed inner.1))
    fault
gives_by raw depth text (Faulty stop Backslash) fault =
    in_field raw depth text (Faulty stop Backslash) fault.0 (bad_stands (drop 1 text) stop Backslash fault.1)
gives_by raw depth text (Faulty stop Comment) fault =
    in_field raw depth text (Faulty stop Comment) fault.0 (bad_stands (drop 1 text) stop Comment fault.1)
gives_by raw depth text (Faulty stop EmptyField) fault =
    in_field raw depth text (Faulty stop EmptyField) fault.0 (bad_stands (drop 1 text) stop EmptyField fault.1)
gives_by raw depth text (Faulty stop BadConversion) fault =
    in_field raw depth text (Faulty stop BadConversion) fault.0 (bad_stands (drop 1 text) stop BadConversion fault.1)
gives_by raw depth text (Faulty stop Memory) fault = absurd fault

-- one outcome stands at a place
pub Gives-unique : (raw : Bool) (depth : ℕ) (text : Text) (one other : Outcome) → Gives raw depth text one → Gives raw depth text other → one ≡ other
Gives-unique raw depth text one other a b =
    By-unique (stage raw depth text) raw depth text one other (gives_by raw depth text one a) (gives_by raw depth text other b)
