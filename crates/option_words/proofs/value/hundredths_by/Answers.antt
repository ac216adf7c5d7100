use Rattle.std.proofs.Common.{◌≡◌, ◌<◌, min, rules, arith}
use Rattle.std.proofs.Math.Facts.{Fits-lt-pow}
use Rattle.std.proofs.lemmas.Bool.Decides.{nat_tests}
use Rattle.option_words.specs.Values.{number_of}
use Rattle.option_words.proofs.NumberLaws.{short_number}
use Rattle.option_words.proofs.value.hundredths_by.Goals as goal

pub returns-then-decimals-eq1 : goal.returns-then-decimals-eq1
returns-then-decimals-eq1 c =
    let small : number_of c.args.decimals.now < 10000000 = short_number c.args.decimals.now c.requires.decimals (λ k. Fits-lt-pow (c.type_inv.decimals k)) in
    let digits : c.number_up_to_bound-digits.result ≡ min (number_of c.args.decimals.now) 10000000 = search rules in
    grind (arith, nat_tests)

pub returns-else-decimals-eq1 : goal.returns-else-decimals-eq1
returns-else-decimals-eq1 c =
    let small : number_of c.args.decimals.now < 10000000 = short_number c.args.decimals.now c.requires.decimals (λ k. Fits-lt-pow (c.type_inv.decimals k)) in
    let digits : c.number_up_to_bound-digits.result ≡ min (number_of c.args.decimals.now) 10000000 = search rules in
    grind (arith, nat_tests)
