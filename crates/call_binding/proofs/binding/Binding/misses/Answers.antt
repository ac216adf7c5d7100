use Rattle.std.proofs.Common.{◌≤◌, sym, ◌∙◌, arith}
use Rattle.call_binding.specs.Rule.{is_missing}
use Rattle.call_binding.proofs.ListLaws.{any_found, any_none, none_more}
use Rattle.call_binding.proofs.binding.Binding.misses.Goals as goal

pub returns-then-is_missing : goal.returns-then-is_missing
returns-then-is_missing c = any_found is_missing c.args.self.now.params c.loop-i.i c.param.result c.param.ensures (sym c.is_missing.ensures ∙ c.if-is_missing.true)

pub returns : goal.returns
returns c = let end = c.loop-i-test.false in let long = c.params-i-end.ensures in any_none is_missing c.args.self.now.params c.loop-i.i (omega arith) c.loop-i.invariant

pub loop-i-preserved : goal.loop-i-preserved
loop-i-preserved c = none_more is_missing c.args.self.now.params c.loop-i.i c.param.result c.loop-i.invariant c.param.ensures (sym c.is_missing.ensures ∙ c.if-is_missing.false)

pub loop-i-init : goal.loop-i-init
loop-i-init c = λ k u low e. absurd (omega arith)
