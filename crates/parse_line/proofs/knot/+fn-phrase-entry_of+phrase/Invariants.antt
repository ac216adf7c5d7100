use Rattle.std.proofs.Common.{◌+◌, ◌*◌}
use Rattle.parse_line.proofs.knot.+fn-phrase-entry_of+phrase.Given as goal

abbrev pub decreases-entry_of : goal.decreases-entry_of
decreases-entry_of l = 2 * l.left + 1

abbrev pub decreases-phrase : goal.decreases-phrase
decreases-phrase l = 2 * l.depth
