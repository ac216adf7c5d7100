use Rattle.std.proofs.Common.{arith, ◌≡◌, []}
use Rattle.std.proofs.lemmas.List.{nil_from_length}
use Rattle.std.proofs.lemmas.Bool.Decides.{nat_tests}
use Rattle.py_source.specs.Physical.{ArePhysical}
use Rattle.py_source.proofs.LineLaws.{lines_end, physical_unique}
use Rattle.py_source.proofs.lines.physical.Goals as goal

pub returns-clause-lines : goal.returns-clause-lines
returns-clause-lines c =
    let none : c.loop-rest.rest.now ≡ [] = nil_from_length c.loop-rest.rest.now (grind (arith, nat_tests)) in
    lines_end c.args.text.now c.loop-rest.spans.items c.loop-rest.start c.loop-rest.rest.now none c.loop-rest.invariant.lines

pub returns-clause-every : goal.returns-clause-every
returns-clause-every c =
    λ others are.
    let none : c.loop-rest.rest.now ≡ [] = nil_from_length c.loop-rest.rest.now (grind (arith, nat_tests)) in
    let found : ArePhysical c.args.text.now c.loop-rest.spans.items = lines_end c.args.text.now c.loop-rest.spans.items c.loop-rest.start c.loop-rest.rest.now none c.loop-rest.invariant.lines in
    physical_unique 0 c.args.text.now c.loop-rest.spans.items others found are
