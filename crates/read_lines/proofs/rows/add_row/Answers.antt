-- The kids of the row stand as far behind as the row itself.
use Rattle.std.proofs.Common.{◌∙◌, length}
use Rattle.read_lines.proofs.CopyLaws.{numbers_of_rows, row_copied}
use Rattle.read_lines.proofs.rows.add_row.Goals as goal

pub push-requires : goal.push-requires
push-requires c = numbers_of_rows c.args.by c.args.row (length c.args.builder.now) c.kids.result.now c.as_slice.result.now (c.as_slice.ensures.value ∙ c.in_ok-shift.ensures) c.requires.count c.kids.ensures.earlier

pub returns-clause-tree : goal.returns-clause-tree
returns-clause-tree c =
    row_copied c.args.builder.now c.push.new.self c.args.other.now c.args.by c.args.row c.in_ok-_row._row c.kind.result c.pos.result c.end_line.result _ c.kids.result.now c.as_slice.result.now
    c.in_ok-_row.ensures.tree (c.in_ok-_row.ensures.number ∙ c.requires.count) c.kind.ensures c.pos.ensures c.end_line.ensures c.name.ensures
    (c.as_slice.ensures.value ∙ c.in_ok-shift.ensures) c.kids.ensures.trees c.kids.ensures.earlier c.requires.copied
