use Rattle.unused_names.specs.Reads.{class_reads}
use Rattle.unused_names.proofs.reads.is_read_by_class.Goals as goal

pub returns : goal.returns
returns c = c.has_name.ensures (class_reads c.args.tree.now) c.requires.falls
