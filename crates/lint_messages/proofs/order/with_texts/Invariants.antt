use Rattle.std.proofs.Common.{◌≡◌, map}
use Rattle.lint_messages.proofs.order.with_texts.Given as goal

abbrev pub invariant-loop-message : goal.invariant-loop-message
invariant-loop-message l = map (λ r. r.message) l.ranked.items ≡ l.yielded
