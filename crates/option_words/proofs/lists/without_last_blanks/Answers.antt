use Rattle.std.proofs.Common.{rules, ◌≡◌, arith}
use Rattle.std.proofs.lemmas.List.Sums.{suffix_len-le-length}
use Rattle.std.specs.List.{suffix_len}
use Rattle.option_words.specs.Values.{is_blank}
use Rattle.option_words.proofs.BlankLaws.{boundary_before_blanks}
use Rattle.option_words.proofs.lists.without_last_blanks.Goals as goal

pub overflow_sub-text : goal.overflow_sub-text
overflow_sub-text c =
    let is : c.last_blanks.result ≡ suffix_len is_blank c.args.text.now = search rules in
    omega (arith, suffix_len-le-length is_blank c.args.text.now)

pub range-requires-clause-end_boundary : goal.range-requires-clause-end_boundary
range-requires-clause-end_boundary c = boundary_before_blanks c.args.text.now c.last_blanks.result (search rules)
