use Rattle.test_syntax.proofs.read_lines_rows.+show.Given as goal

abbrev pub decreases-show : goal.decreases-show
decreases-show l = l.row
