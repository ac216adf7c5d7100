use Rattle.std.proofs.Common.{ltb, arith, rules}
use Rattle.std.proofs.lemmas.Bool.{ltb-true, ltb-false}
use Rattle.std.proofs.lemmas.List.Sorted.{IsPartitionPoint-from_clause, IsPartitionedBy-ltb}
use Rattle.scope_bind.specs.Owned.{scope_rank}
use Rattle.scope_bind.proofs.NameLaws.{scope_ranks_rise}
use Rattle.scope_bind.proofs.name_table.first_in.Goals as goal

pub returns : goal.returns
returns c =
    let rise = scope_ranks_rise c.args.scope c.args.rows.now c.requires in
    let parted = IsPartitionedBy-ltb (scope_rank c.args.scope) c.args.rows.now c.args.least rise in
    let point = IsPartitionPoint-from_clause (λ r. ltb (scope_rank c.args.scope r) c.args.least) _ _ c.partition_point.ensures.partitioned parted (λ a r q k. search rules) in
    record {
      bound = c.partition_point.ensures.bound;
      lower = λ k d low. ltb-true _ _ (point.0 k d (omega arith) low);
      upper = λ k d low high. ltb-false _ _ (point.1 k d low high);
    }
