use Rattle.std.proofs.Common.{◌≡◌, ◌++◌, List}
use Rattle.toml.specs.View.{members_view, table_view}
use Rattle.options.specs.BehindEdits.{behind_edits}
use Rattle.options.specs.File.{Key, edits_of, keys_below}
use Rattle.options.proofs.file.read_below.Given as goal

abbrev pub invariant-loop-value : goal.invariant-loop-value
invariant-loop-value l = record {
  can : (goal.iterator-loop-value).can_next l.value-iterator;
  finite : (goal.iterator-loop-value).is_finite l.value-iterator;
  so_far : (keys : List Key) → behind_edits l.initial.edits (edits_of (keys_below l.option (table_view l.table) ++ keys)) ≡ behind_edits l.edits (edits_of (keys_below l.option (members_view l.value-iterator) ++ keys));
}
