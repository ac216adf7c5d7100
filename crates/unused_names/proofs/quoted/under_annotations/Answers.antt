use Rattle.std.proofs.Common.{length, ap, ◌∙◌}
use Rattle.tree_nodes.specs.Trees.{count_of}
use Rattle.scope_bind.proofs.ListLaws.{list_length}
use Rattle.unused_names.specs.AnnotationWords.{is_annotation_at}
use Rattle.unused_names.proofs.quoted.under_annotations.Goals as goal

pub under_of-requires : goal.under_of-requires
under_of-requires c = ap length c.as_slice.ensures.value ∙ list_length (is_annotation_at c.args.tree.now) (count_of c.args.tree.now) c.in_ok-annotations.annotations.items c.in_ok-annotations.ensures
