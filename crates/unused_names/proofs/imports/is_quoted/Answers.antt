use Rattle.unused_names.specs.AnnotationWords.{quoted}
use Rattle.unused_names.proofs.imports.is_quoted.Goals as goal

pub returns : goal.returns
returns c = c.has_name.ensures (quoted c.args.tree.now) c.requires.words
