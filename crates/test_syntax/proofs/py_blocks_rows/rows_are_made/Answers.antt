use Rattle.std.proofs.lemmas.List.Elements.{All-map}
use Rattle.py_blocks.specs.Rows.{row_of}
use Rattle.py_blocks.specs.Building.{IsMade}
use Rattle.test_syntax.proofs.py_blocks_rows.rows_are_made.Goals as goal

pub returns : goal.returns
returns c = λ made. All-map (IsMade c.args.count) row_of c.args.rows.now (c.are_made.ensures.0 made)
