use Rattle.unused_names.proofs.Sets.{names_more}
use Rattle.unused_names.proofs.name_set.add_name.Goals as goal

pub returns : goal.returns
returns c = λ ns h. names_more c.args.names.now c.insert.new.self _ c.args.name.now ns c.in_ok-insert.ensures.keys c.in_ok-name.ensures.items h
