use Rattle.std.proofs.Common.{◌≡◌, ◌∙◌, rules}
use Rattle.std.proofs.lemmas.Result.{err_from_is_err_and}
use Rattle.options.specs.Lines.{said_by}
use Rattle.options.specs.Words.{Attached, form_of}
use Rattle.options.proofs.LineLaws.{said_attached}
use Rattle.options.proofs.words.read_word.Goals as goal

pub returns-in_err-read_value-in-Attached-clause-refused : goal.returns-in_err-read_value-in-Attached-clause-refused
returns-in_err-read_value-in-Attached-clause-refused c =
    let p = err_from_is_err_and c.from_residual-in_err-read_value-in-Attached.result c.from_residual-in_err-read_value-in-Attached.ensures.1 in
    let form : form_of c.args.word.now ≡ Attached c.in-Attached.option c.in-Attached.value.now = search rules in
    rw (p.1, p.2) (λ honest. said_attached c.args.word.now c.in-Attached.value.now c.args.words.now c.in-Attached.option form ∙ c.in_err-read_value-in-Attached.ensures.refused honest (said_by c.args.words.now))
