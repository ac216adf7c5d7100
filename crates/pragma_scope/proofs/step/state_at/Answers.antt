use Rattle.std.proofs.Common.{leb, arith, rules, ◌-◌}
use Rattle.std.proofs.lemmas.List.Sorted.{IsPartitionPoint-from_clause, IsPartitionedBy-leb}
use Rattle.pragma_scope.specs.declared.step.Step.{Step}
use Rattle.pragma_scope.proofs.StepLaws.{never_falls, found_none, found_some}
use Rattle.pragma_scope.proofs.step.state_at.Goals as goal

pub returns-then-reached-eq0 : goal.returns-then-reached-eq0
returns-then-reached-eq0 c =
    let parted = IsPartitionedBy-leb (λ (step : Step). step.line) c.args.steps.now c.args.line (never_falls 0 c.args.steps.now c.requires) in
    let point = IsPartitionPoint-from_clause (λ (step : Step). leb step.line c.args.line) _ _ c.partition_point-reached.ensures.partitioned parted (λ a r q k. search rules) in
    found_none c.args.line c.args.steps.now _ c.if-reached-eq0.true point

pub returns-else-reached-eq0 : goal.returns-else-reached-eq0
returns-else-reached-eq0 c =
    let parted = IsPartitionedBy-leb (λ (step : Step). step.line) c.args.steps.now c.args.line (never_falls 0 c.args.steps.now c.requires) in
    let point = IsPartitionPoint-from_clause (λ (step : Step). leb step.line c.args.line) _ _ c.partition_point-reached.ensures.partitioned parted (λ a r q k. search rules) in
    found_some c.args.line c.args.steps.now _ (c.partition_point-reached.result - 1) _ point (omega arith) c.partition_point-reached.ensures.bound
