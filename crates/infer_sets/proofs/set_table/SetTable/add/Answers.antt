use Rattle.std.proofs.Common.{rules, ◌≡◌, ◌∷◌, [], ◌++◌, length, ◌∙◌, ap}
use Rattle.infer_sets.specs.Numbers.{has_number}
use Rattle.infer_sets.proofs.Growth.{apart-push, added}
use Rattle.infer_sets.proofs.Slots.{add-pair, add-set}
use Rattle.infer_sets.proofs.set_table.SetTable.add.Goals as goal

pub invariant_of-self-in_err-push : goal.invariant_of-self-in_err-push
invariant_of-self-in_err-push c =
    let n : c.len-id.result ≡ length c.self.inside.sets.items = search rules in
    rw c.in_err-push.ensures.items (c.self.invariant.0, add-pair _ _ _ _ _ _ n c.self.invariant.1 c.first_free-probe.ensures c.in_ok-insert.ensures.updates.0)

pub invariant_of-self-2 : goal.invariant_of-self-2
invariant_of-self-2 c =
    let n : c.len-id.result ≡ length c.self.inside.sets.items = search rules in
    rw c.in_ok-push.ensures.items (
      apart-push _ _ c.self.invariant.0 (ap (λ xs. has_number xs c.args.set) c.self.view_is ∙ c.requires),
      add-set _ _ _ _ _ _ n c.self.invariant.1 c.first_free-probe.ensures c.in_ok-insert.ensures.updates.0 c.args.set c.digest-digest.ensures,
    )

pub returns-clause-ok : goal.returns-clause-ok
returns-clause-ok c =
    let n : c.len-id.result ≡ length c.self.inside.sets.items = search rules in
    added c.args.self.now _ c.args.set c.len-id.result c.requires (c.in_ok-push.ensures.items ∙ ap (λ xs. xs ++ c.args.set ∷ []) c.self.view_is) (n ∙ ap length c.self.view_is)
