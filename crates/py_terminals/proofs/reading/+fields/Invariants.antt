use Rattle.std.proofs.Common.{◌+◌, ◌*◌, ◌-◌, filter, drop, None}
use Rattle.py_terminals.specs.Cursors.{StandsAt}
use Rattle.py_terminals.specs.Fields.{AreFields, is_field}
use Rattle.py_terminals.specs.Lines.{AreRead, comes_within, tokens_between}
use Rattle.py_terminals.proofs.AddingLaws.{SoFar}
use Rattle.py_terminals.proofs.reading.+fields.Given as goal

abbrev pub decreases-push_tokens : goal.decreases-push_tokens
decreases-push_tokens l = 6 * l.left + 5

abbrev pub decreases-push_any : goal.decreases-push_any
decreases-push_any l = 6 * l.left + 4

abbrev pub decreases-push_string : goal.decreases-push_string
decreases-push_string l = 6 * l.left + 3

abbrev pub decreases-push_fields : goal.decreases-push_fields
decreases-push_fields l = 6 * l.left + 2

abbrev pub decreases-push_field : goal.decreases-push_field
decreases-push_field l = 6 * l.left + 1

abbrev pub decreases-push_expression : goal.decreases-push_expression
decreases-push_expression l = 6 * l.left

abbrev pub invariant-push_tokens-loop-i : goal.invariant-push_tokens-loop-i
invariant-push_tokens-loop-i l =
    SoFar (AreRead (comes_within l.left) l.tokens.text (tokens_between l.tokens l.fn.first l.end)) (AreRead (comes_within l.left) l.tokens.text (tokens_between l.tokens l.i l.end)) l.initial.line l.line

abbrev pub decreases-push_tokens-loop-i : goal.decreases-push_tokens-loop-i
decreases-push_tokens-loop-i l = l.end - l.i

abbrev pub invariant-push_fields-loop-piece : goal.invariant-push_fields-loop-piece
invariant-push_fields-loop-piece l = record {
  stands : StandsAt l.text l.pos l.cursor;
  so_far :
      SoFar (AreFields (comes_within l.left) (record { text = l.text; pos = l.pos }) None (filter is_field l.pieces)) (AreFields (comes_within l.left) (record { text = l.text; pos = l.pos }) l.outer (filter is_field (drop l.piece-index l.pieces))) l.initial.line l.line;
}
