use Rattle.std.proofs.Common.{◌∙◌}
use Rattle.lint_messages.proofs.MessageOrder.{sorted_messages, rising_messages}
use Rattle.lint_messages.proofs.messages.Messages.into_order.Goals as goal

pub returns-clause-value : goal.returns-clause-value
returns-clause-value c =
    sorted_messages (λ r. r.message) c.in_ok-ranked.ranked.items c.sort_unstable.new.self.items c.args.self c.in_ok-messages.messages.items
    (c.in_ok-ranked.ensures ∙ c.self.view_is) c.in_ok-messages.ensures c.sort_unstable.ensures.permutation c.sort_unstable.ensures.sorted

pub returns-clause-sorted : goal.returns-clause-sorted
returns-clause-sorted c =
    rising_messages (λ r. r.message) c.in_ok-ranked.ranked.items c.sort_unstable.new.self.items c.args.self c.in_ok-messages.messages.items
    (c.in_ok-ranked.ensures ∙ c.self.view_is) c.in_ok-messages.ensures c.sort_unstable.ensures.permutation c.sort_unstable.ensures.sorted
