use Rattle.std.proofs.Common.{rules}
use Rattle.std.proofs.lemmas.List.Sorted.{IsPartitionPoint-from_clause}
use Rattle.pragma_scope.specs.Regions.{begins_by}
use Rattle.pragma_scope.proofs.NestingLaws.{parted}
use Rattle.pragma_scope.proofs.nesting.begun_len.Goals as goal

pub returns-clause-point : goal.returns-clause-point
returns-clause-point c = IsPartitionPoint-from_clause (begins_by c.args.token) _ _ c.partition_point.ensures.partitioned (parted c.args.token c.args.blocks.now c.requires) (λ a r q k. search rules)
