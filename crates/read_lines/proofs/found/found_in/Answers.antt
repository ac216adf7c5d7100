-- Where nothing was found, nothing is spelled.
use Rattle.py_forest.specs.Forests.{trees}
use Rattle.read_lines.proofs.FormLaws.{not_found}
use Rattle.read_lines.proofs.found.found_in.Goals as goal

pub returns-in-Some-clause-err : goal.returns-in-Some-clause-err
returns-in-Some-clause-err c = not_found c.args.line.now (trees c.args.forest.now) (trees c.read.new.forest) c.read.result c.in-Some.descents c.in-Some.ensures c.read.ensures
