use Rattle.std.proofs.Common.{◌∙◌, ap}
use Rattle.std.specs.Prelude.{is_some}
use Rattle.infer_equations.specs.Seen.{solved}
use Rattle.infer_equations.proofs.Overlay.{get-overlaid}
use Rattle.infer_reached.specs.Tables.{found}
use Rattle.infer_reached.proofs.reached.has.Goals as goal

pub returns : goal.returns
unfolding found
returns c = c.has.ensures ∙ ap is_some (get-overlaid (solved c.args.view.now) c.args.view.now.work c.args.var)
