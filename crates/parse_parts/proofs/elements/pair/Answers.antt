-- A phrase that is refused behind the name and the sign.
use Rattle.std.proofs.Common.{drop}
use Rattle.std.proofs.lemmas.Result.{err_from_is_err_and}
use Rattle.py_language.specs.Languages.{whole}
use Rattle.py_grammar.specs.Nodes.{called, first_text}
use Rattle.parse_steps.proofs.Loops.{failed_make, failed_behind}
use Rattle.parse_parts.proofs.elements.pair.Goals as goal

pub returns-in_err-rest-3 : goal.returns-in_err-rest-3
returns-in_err-rest-3 g c =
    let p = err_from_is_err_and c.from_residual-in_err-rest-3.result c.from_residual-in_err-rest-3.ensures.1 in
    rw (p.1, p.2) (failed_make _ _ (whole (called c.args.kind first_text)) (drop c.args.rest c.args.line.now) _ (failed_behind _ _ _ _ _ _ (c.in_ok-rest.ensures _) (failed_behind _ _ _ _ _ _ (c.in_ok-rest-2.ensures _) c.in_err-rest-3.ensures)))
