use Rattle.read_lines.specs.Copies.{AreCopied}
use Rattle.read_lines.proofs.rows.add_rows.Given as goal

abbrev pub invariant-loop-number : goal.invariant-loop-number
invariant-loop-number l = AreCopied l.by l.initial.builder l.builder l.other l.number
