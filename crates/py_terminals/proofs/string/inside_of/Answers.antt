use Rattle.std.proofs.Common.{◌≡◌, ◌-◌, true, sym, ap, ◌∙◌, subst, length}
use Rattle.std.specs.Str.{IsCharBoundary}
use Rattle.py_terminals.specs.Strings.{inside_end, inside_start, is_closed, quotes_len}
use Rattle.py_terminals.proofs.StringLaws.{closed_parts}
use Rattle.py_terminals.proofs.string.inside_of.Goals as goal

pub range-requires-clause-start_boundary : goal.range-requires-clause-start_boundary
range-requires-clause-start_boundary c = λ some.
    let same = c.as_bytes-bytes.ensures.value in
    let closed : is_closed c.args.text.now ≡ true = subst (λ b. is_closed b ≡ true) same (sym c.is_closed.ensures ∙ c.if-is_closed.true) in
    let place : inside_start c.args.text.now ≡ c.inside_start.result = sym (c.inside_start.ensures ∙ ap inside_start same) in
    subst (IsCharBoundary c.args.text.now) place (closed_parts c.args.text.now c.utf8.text closed).starts

pub range-requires-clause-end_boundary : goal.range-requires-clause-end_boundary
range-requires-clause-end_boundary c =
    let same = c.as_bytes-bytes.ensures.value in
    let closed : is_closed c.args.text.now ≡ true = subst (λ b. is_closed b ≡ true) same (sym c.is_closed.ensures ∙ c.if-is_closed.true) in
    let place : inside_end c.args.text.now ≡ length c.as_bytes-bytes.result.now - c.quotes_len.result =
    ap (λ b. length b - quotes_len b) (sym same) ∙ ap (λ n. length c.as_bytes-bytes.result.now - n) (sym c.quotes_len.ensures.value) in
    subst (IsCharBoundary c.args.text.now) place (closed_parts c.args.text.now c.utf8.text closed).ends
