use Rattle.std.proofs.Common.{arith}
use Rattle.std.proofs.lemmas.Result.{err_from_is_err_and}
use Rattle.option_words.specs.declared.option_name.OptionName.TheVariants.{Disable}
use Rattle.toml.specs.View.{table_view}
use Rattle.options.specs.File.{keys_of_option}
use Rattle.options.proofs.FileLaws.{options_fault}
use Rattle.options.proofs.file.read_options.Goals as goal

pub returns-in_err-read_option-clause-refused : goal.returns-in_err-read_option-clause-refused
returns-in_err-read_option-clause-refused c =
    let p = err_from_is_err_and c.from_residual.result c.from_residual.ensures.1 in
    rw (p.1, p.2) (λ honest. options_fault (keys_of_option (table_view c.args.table.now)) c.args.options.now c.loop-option.option-index Disable c.args.edits.now c.loop-option.edits c.in_err-read_option.field-0.0 c.loop-option.invariant (omega arith) (c.in_err-read_option.ensures.refused honest))
