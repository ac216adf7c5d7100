use Rattle.std.proofs.Common.{◌∙◌, arith}
use Rattle.lint_engine.proofs.Written.{wrote_line, stopped_in_line, on_err}
use Rattle.lint_engine.proofs.writing.write_lines.Goals as goal

pub loop-line-preserved : goal.loop-line-preserved
loop-line-preserved g c = record {
  later = omega (arith, c.in_ok-write.ensures.later);
  so_far = wrote_line _ _ _ c.args.lines.now c.loop-line.line-index c.line-item.result _ (omega arith) c.line-item.is (c.as_bytes.ensures.value ∙ c.as_str.ensures) c.loop-line.invariant.so_far c.in_ok-write.ensures.ok;
}

pub returns-in_err-write-clause-prefix : goal.returns-in_err-write-clause-prefix
returns-in_err-write-clause-prefix g c =
    on_err _ (stopped_in_line _ _ _ c.args.lines.now c.loop-line.line-index c.line-item.result _ (omega arith) c.line-item.is (c.as_bytes.ensures.value ∙ c.as_str.ensures) c.loop-line.invariant.so_far c.in_err-write.ensures.prefix)
