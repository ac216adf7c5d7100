use Rattle.std.proofs.Common.{arith, max, drop, ◌+◌, ap, ◌∙◌}
use Rattle.py_grammar.specs.Terminals.{code}
use Rattle.py_grammar.specs.Words.{closes, opens}
use Rattle.py_language.specs.Brackets.{peak}
use Rattle.py_terminals.proofs.DepthLaws.{deeper}
use Rattle.py_terminals.proofs.line.depth.Goals as goal

pub loop-place-preserved : goal.loop-place-preserved
loop-place-preserved c = record {
  most =
      ap (λ n. max n (peak code opens closes c.level_behind-level.result (drop (c.loop-place.place + 1) c.args.line.now))) c.max-most.ensures
      ∙ deeper c.args.line.now c.loop-place.place c.loop-place.level c.level_behind-level.result c.loop-place.most (omega arith) c.loop-place.invariant.level c.level_behind-level.ensures.value
      ∙ c.loop-place.invariant.most;
  level = omega (arith, c.max-most.ensures);
  bound = omega (arith, c.level_behind-level.ensures.bound, c.loop-place.invariant.bound);
}
