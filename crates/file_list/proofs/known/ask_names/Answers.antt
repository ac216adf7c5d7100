use Rattle.file_list.proofs.Listings.{asked_names}
use Rattle.file_list.proofs.known.ask_names.Goals as goal

pub returns-clause-asks : goal.returns-clause-asks
returns-clause-asks g c =
    rw c.in_ok-copy.ensures (asked_names _ _ _ _ _ c.args.known.now c.keep_names.new.self c.args.folder.now c.names-answer.result c.in_ok-found.found
    c.requires.absent c.names-answer.ensures.cause c.names-answer.ensures.answer c.names-answer.ensures.failed c.in_ok-found.ensures c.in_ok-keep_names.ensures)
