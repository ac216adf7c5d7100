use Rattle.std.proofs.Common.{◌≡◌, true, drop, arith}
use Rattle.fstr_parse.specs.Expressions.{quotes_len, are_quotes}
use Rattle.fstr_parse.specs.Scan.{opened_len}
use Rattle.fstr_parse.specs.Bytes.{byte}
use Rattle.fstr_parse.proofs.ExpressionLaws.{string_within}
use Rattle.fstr_parse.proofs.expression.string_len.Goals as goal

pub returns-then-are_quotes-clause-within : goal.returns-then-are_quotes-clause-within
returns-then-are_quotes-clause-within c =
    let text = c.args.text.now in
    let opened = c.opened_len-opened.ensures.value in
    let count = c.quotes_len-count.ensures.value in
    let closed : are_quotes (byte text 0) (quotes_len text) (drop (opened_len text) text) ≡ true = cc (c.split_at.ensures.back) in
    omega (arith, opened, count, string_within text c.requires closed)
