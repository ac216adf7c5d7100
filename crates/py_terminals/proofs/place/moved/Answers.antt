use Rattle.std.proofs.Common.{arith, ◌-◌, ap, ◌∙◌}
use Rattle.py_source.specs.Places.{pos_from}
use Rattle.py_terminals.proofs.PlaceLaws.{moves}
use Rattle.py_terminals.proofs.place.moved.Goals as goal

pub returns-clause-stands : goal.returns-clause-stands
returns-clause-stands c = record {
  within = omega (arith, c.requires.within);
  here = moves c.args.text.now c.args.pos c.args.cursor c.args.place c.pos_behind-at-2.result c.requires.stands (omega arith) (c.pos_behind-at-2.ensures ∙ ap (pos_from c.args.cursor.at (c.args.place - c.args.cursor.place)) c.split_at.ensures.back);
}
