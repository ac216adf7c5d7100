use Rattle.std.proofs.Common.{sym, arith, Some, None}
use Rattle.std.proofs.lemmas.Str.Pattern.{split_parts}
use Rattle.scope_bind.proofs.MangleLaws.{dot_found, dot_missing}
use Rattle.check_names.proofs.public.before_dot.Goals as goal

pub returns-in-Some : goal.returns-in-Some
returns-in-Some c =
    let parts = split_parts 46 c.args.name.now (Some (c.in-Some.front, c.in-Some.field-0-1)) c.in-Some.ensures.cases (omega arith) in
    sym (dot_found c.args.name.now c.in-Some.front.now c.in-Some.field-0-1.now parts.0 parts.1)

pub returns-in-None : goal.returns-in-None
returns-in-None c = sym (dot_missing c.args.name.now (split_parts 46 c.args.name.now None c.in-None.ensures.cases (omega arith)))
