use Rattle.std.proofs.Common.{ℕ, ◌<◌, length, ◌∙◌}
use Rattle.std.proofs.lemmas.List.Elements.{All-same}
use Rattle.py_blocks.specs.Building.{level_of}
use Rattle.py_blocks.proofs.BuildingLaws.{module-held, module-made, number-new}
use Rattle.py_blocks.proofs.taking.push_module.Goals as goal

pub push-requires : goal.push-requires
push-requires c =
    All-same (λ (n : ℕ). n < length c.args.builder.now) _ _ (c.as_slice.ensures.value ∙ c.in_ok-kids.ensures) (module-held _ (level_of c.args.level.now) c.requires)

pub returns : goal.returns
returns c =
    module-made _ _ (level_of c.args.level.now) _ _ _ (number-new _ _ _ _ c.in_ok-root.ensures.number c.in_ok-root.ensures.ok)
    c.later_of-end_line.ensures (c.as_slice.ensures.value ∙ c.in_ok-kids.ensures) c.in_ok-root.ensures.tree
