use Rattle.std.proofs.Common.{refl}
use Rattle.infer_equations.proofs.Copied.{copies-none, copies-more}
use Rattle.infer_equations.proofs.copies.copy_all.Goals as goal

pub loop-var-init : goal.loop-var-init
loop-var-init c = copies-none _ _ _ _ _ _ c.new-copied.ensures c.requires.new
