use Rattle.py_grammar.proofs.WholeLines.{line_unique}
use Rattle.py_grammar.proofs.laws.lines_are_unique.Goals as goal

pub returns : goal.returns
returns c ts one other first second = line_unique ts one other first second
