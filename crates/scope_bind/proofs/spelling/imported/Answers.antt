use Rattle.std.proofs.Common.{◌≡◌, ◌∙◌, subst, Option, IfOk}
use Rattle.scope_rules.specs.Nodes.{Name}
use Rattle.scope_bind.proofs.SpellLaws.{imported_as}
use Rattle.scope_bind.proofs.spelling.imported.Goals as goal

pub returns-in-len1-up : goal.returns-in-len1-up
returns-in-len1-up c =
    let same = c.name_at.ensures ∙ imported_as c.args.tree.now c.args.n.0 c.kids.result.now _ c.in-len1-up.len_at_least c.kids.ensures.value in
    subst (λ (x : Option Name). IfOk c.copied.result (λ copy. copy ≡ x)) same c.copied.ensures
