use Rattle.std.proofs.Common.{◌∙◌, ap}
use Rattle.file_list.specs.Paths.{without_slashes}
use Rattle.file_list.specs.Walked.{with_argument}
use Rattle.file_list.proofs.Asking.{asks_then, right_so_far}
use Rattle.file_list.proofs.Walks.{argument_on}
use Rattle.file_list.proofs.walking.with_argument.Goals as goal

pub walk-requires-clause-right : goal.walk-requires-clause-right
walk-requires-clause-right g c = right_so_far c.at_argument.ensures.held c.requires c.in_ok-at_argument.ensures.asks

pub returns-then-branch-clause-asks : goal.returns-then-branch-clause-asks
returns-then-branch-clause-asks g c =
    asks_then (λ answers. with_argument answers c.args.ignore.now c.args.recursive c.args.findings.now c.args.argument.now) c.walk.new.findings
    c.at_argument.ensures.held c.in_ok-at_argument.ensures.asks c.in_ok-walk.ensures.asks
    (λ answers seen made. argument_on answers c.args.ignore.now c.args.recursive c.args.findings.now c.at_argument.new.findings c.walk.new.findings c.args.argument.now c.in_ok-path.path c.in_ok-at_argument.field-0 (c.in_ok-path.ensures ∙ c.without_slashes.ensures ∙ ap without_slashes c.as_str.ensures) seen c.if-branch.true made)
