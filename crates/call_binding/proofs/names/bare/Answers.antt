use Rattle.call_binding.proofs.MangleLaws.{bare_trimmed}
use Rattle.call_binding.proofs.names.bare.Goals as goal

pub returns : goal.returns
returns c = bare_trimmed c.args.name.now c.trim_start_matches.result.now c.trim_start_matches.ensures.matches
