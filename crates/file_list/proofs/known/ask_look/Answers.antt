use Rattle.file_list.proofs.Looking.{asked_look}
use Rattle.file_list.proofs.known.ask_look.Goals as goal

pub returns-clause-asks : goal.returns-clause-asks
returns-clause-asks g c =
    asked_look _ _ _ _ _ c.args.known.now c.keep_look.new.self c.args.path.now c.look-answer.result c.in_ok-found.found
    c.requires c.look-answer.ensures.cause c.look-answer.ensures.answer c.look-answer.ensures.failed c.in_ok-found.ensures c.in_ok-keep_look.ensures
