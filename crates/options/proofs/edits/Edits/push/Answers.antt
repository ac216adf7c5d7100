use Rattle.std.proofs.Common.{◌≡◌, true, rules, subst}
use Rattle.options.specs.declared.edits.Edit.{Edit}
use Rattle.options.specs.Edits.{edit_of, is_allowed}
use Rattle.options.proofs.EditLaws.{are_allowed-push, edit_of_allowed}
use Rattle.options.proofs.edits.Edits.push.Goals as goal

pub invariant_of-self-2 : goal.invariant_of-self-2
invariant_of-self-2 c =
    let made : Edit = record { name = c.in_ok-from_str.field-0; value = c.in_ok-from_str-2.field-0 } in
    let same : edit_of c.args.option c.args.value.now ≡ made = search rules in
    let one : is_allowed made ≡ true = subst (λ (e : Edit). is_allowed e ≡ true) same (edit_of_allowed c.args.option c.args.value.now c.requires) in
    rw c.in_ok-push.ensures.items (are_allowed-push c.self.inside.edits.items made c.self.invariant one)
