use Rattle.std.proofs.Common.{◌≡◌, false, true}
use Rattle.options.proofs.WordLaws.{no_short_form}
use Rattle.options.proofs.form.short_form.Goals as goal

pub returns-in-None : goal.returns-in-None
returns-in-None c = no_short_form c.args.text.now c.utf8.text (λ boundary. let none : false ≡ true = c.in-None.ensures.variant.1 boundary in cc)
