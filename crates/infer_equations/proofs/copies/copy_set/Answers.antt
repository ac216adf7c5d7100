use Rattle.std.proofs.Common.{sym, ◌∙◌}
use Rattle.infer_sets.proofs.Layers.{with_set-grew_by}
use Rattle.infer_equations.proofs.Copied.{copied-same, copied-more}
use Rattle.infer_equations.proofs.copies.copy_set.Goals as goal

pub returns-in_err-put-in-None-clause-grew : goal.returns-in_err-put-in-None-clause-grew
returns-in_err-put-in-None-clause-grew c = c.number_copy.ensures.grew

pub returns-in_err-put-in-None-clause-copied : goal.returns-in_err-put-in-None-clause-copied
returns-in_err-put-in-None-clause-copied c = copied-same _ _ _ _ _ _ c.in_ok-number-in-None.ensures.ok.0 c.requires.copied c.in_err-put-in-None.ensures.err

pub returns-in-Some-clause-ok : goal.returns-in-Some-clause-ok
returns-in-Some-clause-ok c = c.requires.copied.at c.args.id c.in-Some.number (sym c.in-Some.ensures)

pub returns-in_ok-put-in-None-clause-grew : goal.returns-in_ok-put-in-None-clause-grew
returns-in_ok-put-in-None-clause-grew c = c.number_copy.ensures.grew

pub returns-in_ok-put-in-None-clause-copied : goal.returns-in_ok-put-in-None-clause-copied
returns-in_ok-put-in-None-clause-copied c =
    copied-more _ _ _ _ _ _ _ _ c.in_ok-number-in-None.ensures.ok.0 c.in_ok-number-in-None.ensures.ok.1 c.get.ensures c.requires.copied c.in_ok-put-in-None.ensures.ok
