use Rattle.unused_names.specs.Exports.{exported}
use Rattle.unused_names.proofs.imports.is_exported.Goals as goal

pub returns : goal.returns
returns c = c.has_name.ensures (exported c.args.tree.now) c.requires.exports
