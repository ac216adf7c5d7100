use Rattle.std.proofs.Common.{◌≡◌, ◌++◌, List}
use Rattle.toml.specs.View.{members_view, table_view}
use Rattle.options.specs.BehindEdits.{behind_edits}
use Rattle.options.specs.File.{Key, edits_of, keys_in}
use Rattle.options.proofs.file.read_table.Given as goal

abbrev pub invariant-loop-key : goal.invariant-loop-key
invariant-loop-key l = record {
  can : (goal.iterator-loop-key).can_next l.key-iterator;
  finite : (goal.iterator-loop-key).is_finite l.key-iterator;
  so_far : (keys : List Key) → behind_edits l.initial.edits (edits_of (keys_in l.option (table_view l.table) ++ keys)) ≡ behind_edits l.edits (edits_of (keys_in l.option (members_view l.key-iterator) ++ keys));
}
