use Rattle.std.proofs.Common.{◌≤◌, sym, ◌∙◌, arith}
use Rattle.call_binding.specs.Rule.{is_refused}
use Rattle.call_binding.proofs.ListLaws.{any_found, any_none, none_more}
use Rattle.call_binding.proofs.binding.Binding.refuses.Goals as goal

pub returns-then-is_refused : goal.returns-then-is_refused
returns-then-is_refused c = any_found is_refused c.args.self.now.keywords c.loop-j.j c.keyword.result c.keyword.ensures (sym c.is_refused.ensures ∙ c.if-is_refused.true)

pub returns : goal.returns
returns c = let end = c.loop-j-test.false in let long = c.keywords-j-end.ensures in any_none is_refused c.args.self.now.keywords c.loop-j.j (omega arith) c.loop-j.invariant

pub loop-j-preserved : goal.loop-j-preserved
loop-j-preserved c = none_more is_refused c.args.self.now.keywords c.loop-j.j c.keyword.result c.loop-j.invariant c.keyword.ensures (sym c.is_refused.ensures ∙ c.if-is_refused.false)

pub loop-j-init : goal.loop-j-init
loop-j-init c = λ k u low e. absurd (omega arith)
