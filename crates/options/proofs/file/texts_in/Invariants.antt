use Rattle.std.proofs.Common.{◌≡◌, option_map, ◌++◌, drop}
use Rattle.toml.specs.View.{items_view}
use Rattle.options.specs.File.{texts_in}
use Rattle.options.proofs.file.texts_in.Given as goal

abbrev pub invariant-loop-value : goal.invariant-loop-value
invariant-loop-value l = texts_in (items_view l.array) ≡ option_map (λ more. l.texts ++ more) (texts_in (items_view (drop l.value-index l.array)))
