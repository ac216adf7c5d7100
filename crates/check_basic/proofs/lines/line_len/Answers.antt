use Rattle.std.proofs.Common.{sym, arith, rules}
use Rattle.std.proofs.lemmas.List.Sums.{position_or_len_is}
use Rattle.check_basic.specs.Lines.{is_line_end}
use Rattle.check_basic.proofs.lines.line_len.Goals as goal

pub returns-then-is_line_end-clause-len : goal.returns-then-is_line_end-clause-len
returns-then-is_line_end-clause-len c = sym (position_or_len_is is_line_end c.args.text.now c.loop-i.i 0 (omega arith) c.loop-i.invariant.1 (λ _. search rules))

pub returns-clause-len : goal.returns-clause-len
returns-clause-len c = sym (position_or_len_is is_line_end c.args.text.now _ 0 (omega arith) (λ k lt. c.loop-i.invariant.1 k (omega arith)) (λ lt. absurd (omega arith)))
