use Rattle.std.proofs.Common.{◌≡◌, take}
use Rattle.std.specs.List.{flat_map}
use Rattle.pragma_scope.specs.Cursors.{IsWithin}
use Rattle.pragma_scope.specs.Pragmas.{rows_of_action}
use Rattle.pragma_scope.proofs.row.rows_of.Given as goal

abbrev pub invariant-loop-action : goal.invariant-loop-action
invariant-loop-action l = record {
  within : IsWithin l.tokens l.cursor;
  rows : l.rows.items ≡ flat_map (rows_of_action l.tokens l.blocks) (take l.action-index l.actions);
}
