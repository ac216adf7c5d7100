use Rattle.std.proofs.Common.{rules, ◌≡◌, ◌≢◌, ◌<◌, drop, arith, sym, ◌∙◌, ap, subst}
use Rattle.std.specs.List.{prefix_len}
use Rattle.std.proofs.lemmas.Result.{err_from_is_err_and}
use Rattle.fstr_parse.specs.Bytes.{byte, is_blank}
use Rattle.fstr_parse.specs.Fields.{behind_equals}
use Rattle.fstr_parse.specs.Heads.{IsWrongConversion}
use Rattle.fstr_parse.proofs.FieldLaws.{misconverted_fault, plain_field, behind_is}
use Rattle.fstr_parse.proofs.field.field_at.Goals as goal

pub returns-then-expression-blank_len : goal.returns-then-expression-blank_len
returns-then-expression-blank_len c =
    let text = c.args.text.now in
    let len = c.in_ok-expression.expression in
    let stop = drop len text in (
      stop,
      record {
        len = len;
        expression = c.in_ok-expression.ensures;
        blank = omega (arith, c.blank_len.ensures.value);
        here = λ _. stop;
      },
    )

pub returns-in_err-convert-in-33 : goal.returns-in_err-convert-in-33
returns-in_err-convert-in-33 c =
    let text = c.args.text.now in
    let len = c.in_ok-expression.expression in
    let some : prefix_len is_blank text < len = omega (arith, c.blank_len.ensures.value) in
    let behind = behind_is text c.split_at.result.1.now c.split_at-2.result.1.now len c.equals_len-equals.result c.split_at.ensures.back c.equals_len-equals.ensures.value c.split_at-2.ensures.back in
    let marked : byte (behind_equals len text) 0 ≡ 33 = ap (λ t. byte t 0) (sym behind.1) ∙ (sym c.byte_at.ensures ∙ c.in-33.is) in
    let p = err_from_is_err_and c.from_residual-in_err-convert-in-33.result c.from_residual-in_err-convert-in-33.ensures.1 in
    rw (p.1, p.2) (misconverted_fault text len c.in_err-convert-in-33.field-0.0 c.in_ok-expression.ensures some marked (subst (λ t. IsWrongConversion t c.in_err-convert-in-33.field-0.0) behind.1 c.in_err-convert-in-33.ensures))

pub returns-in_default : goal.returns-in_default
returns-in_default c =
    let text = c.args.text.now in
    let len = c.in_ok-expression.expression in
    let some : prefix_len is_blank text < len = omega (arith, c.blank_len.ensures.value) in
    let behind = behind_is text c.split_at.result.1.now c.split_at-2.result.1.now len c.equals_len-equals.result c.split_at.ensures.back c.equals_len-equals.ensures.value c.split_at-2.ensures.back in
    let other : c.byte_at.result ≢ 33 = search rules in
    plain_field text len c.equals_len-equals.result c.byte_at.result c.in_ok-expression.ensures some behind.0 (c.byte_at.ensures ∙ ap (λ t. byte t 0) behind.1) other
