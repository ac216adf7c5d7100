use Rattle.infer_systems.proofs.tests.solved_by.Goals as goal

pub new-solver-requires : goal.new-solver-requires
new-solver-requires g c = c.empty-base.ensures.right _ _ _
