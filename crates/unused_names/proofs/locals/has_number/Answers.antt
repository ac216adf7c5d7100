use Rattle.std.proofs.Common.{◌∙◌}
use Rattle.unused_names.proofs.locals.has_number.Goals as goal

pub returns : goal.returns
returns c = λ ns h. c.contains.ensures ∙ h.has c.args.n
