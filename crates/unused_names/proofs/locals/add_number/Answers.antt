use Rattle.unused_names.proofs.Sets.{numbers_more}
use Rattle.unused_names.proofs.locals.add_number.Goals as goal

pub returns : goal.returns
returns c = λ ns h. numbers_more c.args.numbers.now c.insert.new.self c.args.n ns c.in_ok-insert.ensures.updates.0 h
