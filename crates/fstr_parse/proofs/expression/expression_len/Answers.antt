use Rattle.std.proofs.lemmas.Bool.{and_parts, eqb-true}
use Rattle.std.proofs.Common.{suc, ◌-◌, ◌==◌, length, true, ◌<◌, ◌≡◌, false, arith, subst, sym, ◌∙◌, drop}
use Rattle.fstr_parse.specs.Expressions.{ends_at, is_end, brackets_behind}
use Rattle.fstr_parse.specs.Scan.{Leads, HaltRow, step_len, opened_len}
use Rattle.fstr_parse.specs.Fields.{IsBadField}
use Rattle.fstr_parse.proofs.RowLaws.{Leads-push, IsBehind-more}
use Rattle.fstr_parse.proofs.ExpressionLaws.{brackets_more}
use Rattle.fstr_parse.proofs.StepLaws.{expression_of_row, halted_of_row}
use Rattle.fstr_parse.proofs.FieldLaws.{halted_fault}
use Rattle.fstr_parse.proofs.expression.expression_len.Goals as goal

pub loop-len-preserved : goal.loop-len-preserved
loop-len-preserved c =
    let before = c.loop-len.invariant in
    let rest = c.loop-len.rest.now in
    let some : 0 < step_len c.loop-len.brackets rest = omega (arith, c.step_len-len.ensures.value) in
    record {
      steps = suc before.steps;
      row = rw (c.split_at.ensures.back, c.step_len-len.ensures.value, c.brackets_behind-brackets.ensures) (Leads-push step_len brackets_behind before.steps 0 c.args.text.now c.loop-len.brackets rest before.row some);
      behind = rw c.split_at.ensures.back (IsBehind-more c.args.text.now rest c.step_len-len.result before.behind c.step_len-len.ensures.within);
      room = omega (arith, before.room, c.step_len-len.ensures.value, c.step_len-len.ensures.within, c.split_at.ensures.back_len, c.brackets_behind-brackets.ensures, brackets_more c.loop-len.brackets rest);
    }

pub returns-else-ends_at : goal.returns-else-ends_at
returns-else-ends_at c =
    let before = c.loop-len.invariant in
    let rest = c.loop-len.rest.now in
    let brackets = c.loop-len.brackets in
    let halts : step_len brackets rest ≡ 0 = omega (arith, c.step_len-len.ensures.value) in
    let unended : ends_at brackets rest ≡ false = sym c.ends_at.ensures ∙ c.if-ends_at.false in
    let stop = drop (opened_len rest) rest in
    let halted : HaltRow c.args.text.now stop = record {
      steps = before.steps;
      brackets = brackets;
      rest = rest;
      row = before.row;
      halts = halts;
      unended = unended;
      here = λ _. stop;
    } in
    (stop, subst (IsBadField c.args.text.now stop) (sym c.fault_at.ensures) (halted_fault c.args.text.now stop (halted_of_row c.args.text.now stop halted)))

pub returns-then-ends_at : goal.returns-then-ends_at
returns-then-ends_at c =
    let before = c.loop-len.invariant in
    let text = c.args.text.now in
    let rest = c.loop-len.rest.now in
    let ended : (ends_at c.loop-len.brackets rest) ≡ true = sym c.ends_at.ensures ∙ c.if-ends_at.true in
    let parts = and_parts (c.loop-len.brackets == 0) (is_end rest) ended in
    let closed : c.loop-len.brackets ≡ 0 = eqb-true c.loop-len.brackets 0 parts.0 in
    let row = subst (λ n. Leads step_len brackets_behind before.steps 0 text n rest) closed before.row in
    expression_of_row text (length text - length rest) (record {
      steps = before.steps;
      within = omega arith;
      row = subst (λ t. Leads step_len brackets_behind before.steps 0 text 0 t) before.behind.is row;
      ends = subst (λ t. is_end t ≡ true) before.behind.is parts.1;
    })
