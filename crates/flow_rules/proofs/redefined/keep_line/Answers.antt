use Rattle.std.proofs.Common.{Some}
use Rattle.flow_rules.proofs.RedefinedLaws.{line_after}
use Rattle.flow_rules.proofs.redefined.keep_line.Goals as goal

pub returns-clause-after : goal.returns-clause-after
returns-clause-after c =
    line_after c.args.lines.now c.insert.new.self c.in_ok-from_str.field-0 c.args.name.now (Some c.args.line) c.in_ok-insert.ensures.updates.0 c.in_ok-from_str.ensures
