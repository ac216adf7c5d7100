use Rattle.std.proofs.Common.{◌≡◌, true, Some, rules, arith}
use Rattle.option_words.specs.OptionNames.{kind}
use Rattle.option_words.specs.Values.{number_of}
use Rattle.options.specs.Edits.{allows, given}
use Rattle.options.specs.Settings.{is_in_range}
use Rattle.options.proofs.EditLaws.{given_allowed, number_allowed, range_bound}
use Rattle.options.proofs.settings.number_or.Goals as goal

pub number-requires : goal.number-requires
number-requires c =
    let is : given c.args.option c.args.file.now c.args.line.now ≡ Some c.in-Some.value.now = search rules in
    let allowed : allows (kind c.args.option) c.in-Some.value.now ≡ true = given_allowed c.args.option c.args.file.now c.args.line.now c.in-Some.value.now c.requires.file c.requires.line is in
    let range : is_in_range (kind c.args.option) (number_of c.in-Some.value.now) ≡ true = number_allowed (kind c.args.option) c.args.default c.in-Some.value.now c.requires.default c.requires.whole allowed in
    omega (arith, range_bound c.args.option (number_of c.in-Some.value.now) range)

pub returns-in-Some-clause-range : goal.returns-in-Some-clause-range
returns-in-Some-clause-range c =
    let is : given c.args.option c.args.file.now c.args.line.now ≡ Some c.in-Some.value.now = search rules in
    let allowed : allows (kind c.args.option) c.in-Some.value.now ≡ true = given_allowed c.args.option c.args.file.now c.args.line.now c.in-Some.value.now c.requires.file c.requires.line is in
    rw c.number.ensures (number_allowed (kind c.args.option) c.args.default c.in-Some.value.now c.requires.default c.requires.whole allowed)
