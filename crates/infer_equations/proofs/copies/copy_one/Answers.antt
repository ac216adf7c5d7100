use Rattle.infer_equations.proofs.Copied.{put_given, put_valued, none_valued}
use Rattle.infer_equations.proofs.copies.copy_one.Goals as goal

pub returns-in-None-clause-ok : goal.returns-in-None-clause-ok
returns-in-None-clause-ok c = none_valued _ _ _ _ c.in-None.ensures

pub returns-in_ok-number-in-Some-clause-given : goal.returns-in_ok-number-in-Some-clause-given
returns-in_ok-number-in-Some-clause-given c = put_given c.put.result _ _ _ _ _ _ _ c.copy_set.ensures.grew c.in_ok-number-in-Some.ensures.ok c.requires.new c.put.ensures.ok c.put.ensures.err

pub returns-in_ok-number-in-Some-clause-ok : goal.returns-in_ok-number-in-Some-clause-ok
returns-in_ok-number-in-Some-clause-ok c = put_valued c.put.result _ _ _ _ _ _ _ _ _ c.copy_set.ensures.grew c.in-Some.ensures c.in_ok-number-in-Some.ensures.ok c.requires.new c.put.ensures.ok
