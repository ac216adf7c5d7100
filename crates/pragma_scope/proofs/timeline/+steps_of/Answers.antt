use Rattle.pragma_scope.proofs.MergeLaws.{timeline_of_one, timelines_joined}
use Rattle.pragma_scope.proofs.timeline.+steps_of.Goals as goal

pub returns-in_ok-steps-in-len1 : goal.returns-in_ok-steps-in-len1
returns-in_ok-steps-in-len1 t c = timeline_of_one c.args.code c.args.rows.now _ _ c.in-len1.len_at_least c.in-len1.len_below c.in_ok-steps-in-len1.ensures

pub returns-in_ok-steps-in_default : goal.returns-in_ok-steps-in_default
returns-in_ok-steps-in_default t c =
    timelines_joined c.args.code c.args.rows.now _ _ _ _ _ _ _ _ c.split_at.ensures.front c.split_at.ensures.back c.in_ok-earlier-in_default.ensures c.in_ok-later-in_default.ensures c.as_slice.ensures.value c.as_slice-in_default.ensures.value c.in_ok-steps-in_default.ensures
