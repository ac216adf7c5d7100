use Rattle.std.proofs.Common.{◌≡◌, map}
use Rattle.lint_messages.proofs.order.without_texts.Given as goal

abbrev pub invariant-loop-message : goal.invariant-loop-message
invariant-loop-message l = l.messages.items ≡ map (λ r. r.message) l.yielded
