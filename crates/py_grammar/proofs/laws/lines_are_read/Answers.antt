use Rattle.py_grammar.proofs.WholeLines.{line_is_read}
use Rattle.py_grammar.proofs.laws.lines_are_read.Goals as goal

pub returns : goal.returns
returns c b ts line few = line_is_read b ts line few
