-- What is known of a tree before its names are looked at.
use Rattle.tree_nodes.specs.Trees.{Tree}
use Rattle.scope_rules.specs.Nodes.{nodes_of}
use Rattle.scope_bind.specs.Lists.{IsListOf}
use Rattle.unused_names.specs.declared.known.Known.{Known}
use Rattle.unused_names.specs.Reads.{class_reads}
use Rattle.unused_names.specs.Sets.{HasNames, HasNumbers}
use Rattle.unused_names.specs.Exports.{exported}
use Rattle.unused_names.specs.AnnotationWords.{quoted}
use Rattle.unused_names.specs.Variables.{locals_among}
use Rattle.unused_names.specs.Arguments.{is_silent}

-- it is known of this tree
pub record IsKnown (t : Tree) (k : Known) : Type 0 where
  pub exports : HasNames k.exported (exported t)
  pub words : HasNames k.quoted (quoted t)
  pub falls : HasNames k.class_reads (class_reads t)
  pub locals : HasNumbers k.locals (locals_among t (nodes_of t))
  pub silent : IsListOf (is_silent t) t k.silent.items
