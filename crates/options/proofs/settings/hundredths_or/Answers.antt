use Rattle.std.proofs.Common.{◌≡◌, Some, rules}
use Rattle.option_words.specs.declared.option_name.OptionName.TheVariants.{FailUnder}
use Rattle.options.specs.Edits.{given}
use Rattle.options.proofs.EditLaws.{given_allowed, hundredths_allowed}
use Rattle.options.proofs.settings.hundredths_or.Goals as goal

pub hundredths-requires : goal.hundredths-requires
hundredths-requires c =
    let is : given FailUnder c.args.file.now c.args.line.now ≡ Some c.in-Some.value.now = search rules in
    hundredths_allowed c.in-Some.value.now (given_allowed FailUnder c.args.file.now c.args.line.now c.in-Some.value.now c.requires.file c.requires.line is)
