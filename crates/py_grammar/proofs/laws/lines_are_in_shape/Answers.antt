use Rattle.py_grammar.proofs.Shapes.{shaped_line}
use Rattle.py_grammar.proofs.laws.lines_are_in_shape.Goals as goal

pub returns : goal.returns
returns c ts line spelled = shaped_line ts line spelled
