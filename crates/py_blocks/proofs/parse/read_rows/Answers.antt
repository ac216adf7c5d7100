use Rattle.std.proofs.Common.{◌∙◌}
use Rattle.py_blocks.proofs.ParseLaws.{is-read, is-found-at}
use Rattle.py_blocks.proofs.parse.read_rows.Goals as goal

pub returns-in-Some-clause-fault : goal.returns-in-Some-clause-fault
returns-in-Some-clause-fault c =
    is-found-at c.args.builder c.args.rows.now c.as_slice.result.now c.in_ok-fault.field-0 c.in-Some.fault _ (c.as_slice.ensures.value ∙ c.in_ok-lines.ensures) c.in_ok-fault.ensures.fault c.in_ok-fault.ensures.place c.in-Some.is

pub returns-clause-tree : goal.returns-clause-tree
returns-clause-tree c =
    is-read c.args.builder c.args.rows.now c.as_slice.result.now c.in_ok-fault.field-0 c.in_ok-tree.tree (c.as_slice.ensures.value ∙ c.in_ok-lines.ensures) c.in_ok-fault.ensures.fault c.in_default.is c.in_ok-tree.ensures
