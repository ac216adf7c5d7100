use Rattle.std.proofs.Common.{length, ap, ◌∙◌}
use Rattle.tree_nodes.specs.Trees.{count_of}
use Rattle.scope_bind.proofs.ListLaws.{list_length}
use Rattle.unused_names.specs.Exports.{is_all_value}
use Rattle.unused_names.proofs.exports.under_values.Goals as goal

pub under_of-requires : goal.under_of-requires
under_of-requires c = ap length c.as_slice.ensures.value ∙ list_length (is_all_value c.args.tree.now) (count_of c.args.tree.now) c.in_ok-values.values.items c.in_ok-values.ensures
