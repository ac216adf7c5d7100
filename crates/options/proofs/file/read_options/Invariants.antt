use Rattle.std.proofs.Common.{◌≡◌, drop}
use Rattle.std.specs.List.{flat_map}
use Rattle.toml.specs.View.{table_view}
use Rattle.options.specs.BehindEdits.{behind_edits}
use Rattle.options.specs.File.{edits_of, keys_of_option}
use Rattle.options.proofs.file.read_options.Given as goal

abbrev pub invariant-loop-option : goal.invariant-loop-option
invariant-loop-option l = behind_edits l.initial.edits (edits_of (flat_map (keys_of_option (table_view l.table)) l.options)) ≡ behind_edits l.edits (edits_of (flat_map (keys_of_option (table_view l.table)) (drop l.option-index l.options)))
