use Rattle.scope_bind.specs.Lists.{IsListUpTo}
use Rattle.unused_names.specs.AnnotationWords.{is_annotation_at}
use Rattle.unused_names.proofs.quoted.annotations.Given as goal

abbrev pub invariant-loop-n : goal.invariant-loop-n
invariant-loop-n l = IsListUpTo (is_annotation_at l.tree) l.n l.annotations.items
