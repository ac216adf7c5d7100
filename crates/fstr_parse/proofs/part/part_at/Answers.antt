use Rattle.std.proofs.Common.{rules, ◌≢◌, ◌<◌, ◌≤◌, length, arith, subst}
use Rattle.std.proofs.lemmas.Bool.Decides.{nat_tests}
use Rattle.std.proofs.lemmas.Result.{err_from_is_err_and}
use Rattle.fstr_parse.specs.Bytes.{byte}
use Rattle.fstr_parse.specs.Fields.{IsField, IsBadField}
use Rattle.fstr_parse.proofs.PartLaws.{no_unit, opens_from, opens_here, field_fault}
use Rattle.fstr_parse.proofs.part.part_at.Goals as goal

pub returns-in_err-field : goal.returns-in_err-field
returns-in_err-field c =
    let text = c.args.text.now in
    let none : c.literal_len-len.result ≤ 0 = omega arith in
    let some : 0 < length text = grind (arith, nat_tests) in
    let other : byte text 0 ≢ 125 = search rules in
    let nested : c.args.depth < 2 = omega arith in
    let opens = opens_here c.args.raw c.args.depth text c.literal_len-len.result c.literal_len-len.ensures none some other nested in
    let bad = c.in_err-field.ensures in
    let p = err_from_is_err_and c.from_residual.result c.from_residual.ensures.1 in
    rw (p.1, p.2) (bad.0, field_fault c.args.raw c.args.depth text bad.0 c.in_err-field.field-0.0 opens (subst (λ t. IsBadField t bad.0 c.in_err-field.field-0.0) c.split_at.ensures.back bad.1))

pub returns-then-depth-ge2 : goal.returns-then-depth-ge2
returns-then-depth-ge2 c =
    let text = c.args.text.now in
    let none : c.literal_len-len.result ≤ 0 = omega arith in
    let some : 0 < length text = grind (arith, nat_tests) in
    let other : byte text 0 ≢ 125 = search rules in
    let single = no_unit c.args.raw c.args.depth text c.literal_len-len.result c.literal_len-len.ensures none in
    (text, (omega arith, opens_from c.args.raw c.args.depth text single some other, λ _. text))

pub returns-in_ok-field : goal.returns-in_ok-field
returns-in_ok-field c =
    let text = c.args.text.now in
    let none : c.literal_len-len.result ≤ 0 = omega arith in
    let some : 0 < length text = grind (arith, nat_tests) in
    let other : byte text 0 ≢ 125 = search rules in
    let nested : c.args.depth < 2 = omega arith in
    (opens_here c.args.raw c.args.depth text c.literal_len-len.result c.literal_len-len.ensures none some other nested, subst (λ t. IsField t c.in_ok-field.field) c.split_at.ensures.back c.in_ok-field.ensures)
