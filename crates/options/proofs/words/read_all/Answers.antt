use Rattle.std.proofs.Common.{◌∙◌, ap}
use Rattle.std.proofs.lemmas.Result.{err_from_is_err_and}
use Rattle.options.proofs.LineLaws.{all_refused, all_said, behind_start, first_split}
use Rattle.options.specs.Lines.{said_by}
use Rattle.options.proofs.words.read_all.Goals as goal

pub loop-rest-init : goal.loop-rest-init
loop-rest-init c = behind_start (record { edits = c.new.result; files = c.new-2.result }) (said_by c.args.words.now) c.new.ensures c.new-2.ensures

pub returns-in_err-rest-clause-refused : goal.returns-in_err-rest-clause-refused
returns-in_err-rest-clause-refused c =
    let p = err_from_is_err_and c.from_residual.result c.from_residual.ensures.1 in
    let split = first_split c.loop-rest.rest.now c.word-item.result c.in-len1-up.len_at_least c.word-item.is in
    rw (p.1, p.2) (λ honest. all_refused c.args.words.now c.loop-rest.rest.now c.loop-rest.said c.in_err-rest.field-0.0 c.loop-rest.invariant (ap said_by split ∙ c.in_err-rest.ensures.refused honest))

pub returns-clause-said : goal.returns-clause-said
returns-clause-said c = all_said c.args.words.now c.loop-rest.rest.now c.loop-rest.said c.in_default.len_below c.loop-rest.invariant
