use Rattle.std.proofs.Common.{ap}
use Rattle.lint_values.specs.declared.place.Pos.{Pos}
use Rattle.flow_rules.proofs.RedefinedLaws.{over_plain}
use Rattle.flow_rules.proofs.redefined.check_plain.Goals as goal

pub returns : goal.returns
returns c = λ before h.
    over_plain c.args.sort c.args.file c.args.tree.now c.args.n.0 before c.args.lines.now _ c.written.result.now c.pos.result.line c.in_ok-line.line c.args.found.now _ c.requires.plain
    c.written.ensures (ap (λ (p : Pos). p.line) c.pos.ensures) c.in_ok-line.ensures.before c.in_ok-line.ensures.after c.in_ok-check_before.ensures h
