use Rattle.std.proofs.Common.{map, ap, ◌∙◌}
use Rattle.py_blocks.specs.Rows.{row_of}
use Rattle.parse_stmt.specs.Reading.{rows_from}
use Rattle.parse_stmt.proofs.WholeLaws.{made, few, tree-spelled, row-at-fault, line-at-fault}
use Rattle.parse_stmt.proofs.source.parse_lines.Goals as goal

pub whole-requires : goal.whole-requires
whole-requires c =
    made c.args.tokens.now c.read_all.new.builder c.in_ok-read.read.lines.items c.as_slice-in-None.result.now
    (ap (map row_of) c.as_slice-in-None.ensures.value ∙ c.in_ok-rows.ensures ∙ ap (rows_from c.args.tokens.now 0) c.as_slice.ensures.value) c.in_ok-read.ensures

pub stopped-requires : goal.stopped-requires
stopped-requires c =
    few c.args.tokens.now c.read_all.new.builder c.in_ok-read.read.lines.items c.as_slice-in-Some.result.now
    (ap (map row_of) c.as_slice-in-Some.ensures.value ∙ c.in_ok-rows.ensures ∙ ap (rows_from c.args.tokens.now 0) c.as_slice.ensures.value) c.in-Some.cause c.in-Some.is c.in_ok-read.ensures

pub returns-in-None-clause-tree : goal.returns-in-None-clause-tree
returns-in-None-clause-tree c =
    tree-spelled c.args.tokens.now c.read_all.new.builder c.in_ok-read.read.lines.items c.as_slice-in-None.result.now
    (ap (map row_of) c.as_slice-in-None.ensures.value ∙ c.in_ok-rows.ensures ∙ ap (rows_from c.args.tokens.now 0) c.as_slice.ensures.value) c.in_ok-read.read.stop c.whole.result c.in-None.is c.in_ok-read.ensures
    c.whole.ensures.tree

pub returns-in-None-clause-fault : goal.returns-in-None-clause-fault
returns-in-None-clause-fault c =
    row-at-fault c.args.tokens.now c.read_all.new.builder c.in_ok-read.read.lines.items c.as_slice-in-None.result.now
    (ap (map row_of) c.as_slice-in-None.ensures.value ∙ c.in_ok-rows.ensures ∙ ap (rows_from c.args.tokens.now 0) c.as_slice.ensures.value) c.in_ok-read.read.stop c.whole.result c.in-None.is c.in_ok-read.ensures
    c.whole.ensures.fault

pub returns-in-Some-clause-fault : goal.returns-in-Some-clause-fault
returns-in-Some-clause-fault c =
    line-at-fault c.args.tokens.now c.read_all.new.builder c.in_ok-read.read.lines.items c.as_slice-in-Some.result.now
    (ap (map row_of) c.as_slice-in-Some.ensures.value ∙ c.in_ok-rows.ensures ∙ ap (rows_from c.args.tokens.now 0) c.as_slice.ensures.value) c.in_ok-read.read.stop c.in-Some.cause c.stopped.result c.in-Some.is
    c.in_ok-read.ensures c.stopped.ensures
