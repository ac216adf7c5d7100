use Rattle.std.proofs.Common.{sym, ◌∙◌}
use Rattle.infer_equations.proofs.Shown.{put-given, put-ok, put-err, keeps-grown, all-given-grew}
use Rattle.infer_equations.proofs.view.View.put_empty.Goals as goal

pub invariant_of-self-2 : goal.invariant_of-self-2
invariant_of-self-2 c =
    put-given c.put.result _ _ _ _ _ c.args.var c.in_ok-id.id c.in_ok-id.ensures.ok.1.below c.put.ensures.ok c.put.ensures.err (all-given-grew _ _ _ _ _ c.number.ensures.grew c.self.invariant)

pub returns-clause-keeps : goal.returns-clause-keeps
returns-clause-keeps c = keeps-grown _ _ _ _ _ _ _ c.self.view_is c.number.ensures.grew c.self.invariant _ _

pub returns-clause-ok : goal.returns-clause-ok
returns-clause-ok c =
    put-ok c.put.result _ _ _ _ _ _ _ _ c.self.view_is c.number.ensures.grew c.self.invariant c.args.var c.in_ok-id.id _ (sym (c.in_ok-id.ensures.ok.1.is ∙ c.empty.ensures)) c.put.ensures.ok

pub returns-clause-err : goal.returns-clause-err
returns-clause-err c = put-err c.put.result _ _ _ _ _ _ _ _ c.self.view_is c.number.ensures.grew c.self.invariant c.args.var c.in_ok-id.id c.put.ensures.err
