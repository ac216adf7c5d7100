-- A text that was added before a refusal changes no symbol; the symbol at the end has the text behind the others.
use Rattle.py_line.proofs.KeptLaws.{on_err, fit-grown, terminals-grown, fit-add, terminals-add}
use Rattle.py_line.proofs.line.Line.push.Goals as goal

pub invariant_of-self-in_err-push : goal.invariant_of-self-in_err-push
invariant_of-self-in_err-push c = fit-grown _ _ _ _ _ c.in_ok-text.ensures.ok c.in_err-push.ensures.items c.in_ok-text.ensures.utf8 c.self.invariant

pub returns-in_err-push-clause-err : goal.returns-in_err-push-clause-err
returns-in_err-push-clause-err c = on_err _ _ (terminals-grown _ _ _ _ _ _ c.in_ok-text.ensures.ok c.in_err-push.ensures.items c.self.invariant c.self.view_is)

pub invariant_of-self-2 : goal.invariant_of-self-2
invariant_of-self-2 c =
    fit-add _ _ _ _ _ _ c.in_ok-text.ensures.ok c.in_ok-push.ensures.items c.in_ok-text.ensures.utf8 c.self.invariant c.in_ok-text.ensures.span.0 c.in_ok-text.ensures.span.1

pub returns-clause-ok : goal.returns-clause-ok
returns-clause-ok c =
    terminals-add _ _ _ _ _ _ _ c.in_ok-text.ensures.ok c.in_ok-push.ensures.items c.self.invariant c.in_ok-text.ensures.span.0 c.in_ok-text.ensures.span.1 c.self.view_is
