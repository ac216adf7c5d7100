use Rattle.std.proofs.Common.{◌≡◌, ap, subst}
use Rattle.std.specs.Prelude.{OnOk}
use Rattle.infer_lazy.specs.Worklist.{with_pair}
use Rattle.infer_lazy.proofs.worklist.pair_one.Goals as goal

pub returns-in-Some : goal.returns-in-Some
returns-in-Some c = subst (λ o. OnOk c.add.result (c.add.new.self ≡ with_pair o c.args.reader c.args.read c.args.pairs.now)) c.in-Some.ensures.value c.add.ensures

pub returns-in-None : goal.returns-in-None
returns-in-None c = ap (λ o. with_pair o c.args.reader c.args.read c.args.pairs.now) c.in-None.ensures.value
