use Rattle.std.proofs.Common.{ℕ, List, length, ◌∙◌, ap, sym, subst}
use Rattle.py_blocks.specs.Statements.{Level, nothing}
use Rattle.py_blocks.specs.Stack.{first_or, others}
use Rattle.py_blocks.specs.Building.{IsHeld, levels_of}
use Rattle.py_blocks.proofs.StackLaws.{levels-push}
use Rattle.py_blocks.proofs.BuildingLaws.{first-held, others-held, deepened-held, takes}
use Rattle.py_blocks.proofs.building.take_row.Goals as goal

pub make-requires-clause-block : goal.make-requires-clause-block
make-requires-clause-block c =
    subst (λ (l : Level ℕ). IsHeld (length c.args.builder.now) l) (sym (c.take_level-block.ensures.level ∙ ap (first_or nothing) c.in_ok-deepen.ensures)) (first-held _ _ (deepened-held _ _ _ c.requires.held))

pub make-requires-clause-behind : goal.make-requires-clause-behind
make-requires-clause-behind c =
    subst (λ (l : Level ℕ). IsHeld (length c.args.builder.now) l) (sym (c.take_level-behind.ensures.level ∙ ap (first_or nothing) (c.take_level-block.ensures.rest ∙ ap others c.in_ok-deepen.ensures)))
    (first-held _ _ (others-held _ _ (deepened-held _ _ _ c.requires.held)))

pub returns : goal.returns
returns c =
    takes _ _ _ _ _ _ _ _ (levels_of c.take_level-block.new.levels.items) (levels_of c.take_level-behind.new.levels.items) c.requires.held
    (c.take_level-block.ensures.level ∙ ap (first_or nothing) c.in_ok-deepen.ensures) (c.take_level-block.ensures.rest ∙ ap others c.in_ok-deepen.ensures)
    c.take_level-behind.ensures.level c.take_level-behind.ensures.rest c.in_ok-made.ensures
    (ap levels_of c.in_ok-push.ensures.items ∙ levels-push c.take_level-behind.new.levels.items c.in_ok-made.made)
