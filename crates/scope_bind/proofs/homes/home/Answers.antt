use Rattle.std.proofs.Common.{◌≡◌, ◌∙◌, sym}
use Rattle.scope_bind.proofs.HomeLaws.{home_global, home_nonlocal, home_here}
use Rattle.scope_bind.proofs.homes.home.Goals as goal

pub returns-then-declares_global : goal.returns-then-declares_global
returns-then-declares_global c =
    let t = c.args.tree.now in
    home_global t c.args.scope c.args.name.now (sym (c.declares_global.ensures t c.requires.declared) ∙ c.if-declares_global.true)

pub returns-then-declares_nonlocal : goal.returns-then-declares_nonlocal
returns-then-declares_nonlocal c =
    let t = c.args.tree.now in
    c.owner_outside.ensures
    ∙ home_nonlocal t c.args.scope c.args.name.now (sym (c.declares_global.ensures t c.requires.declared) ∙ c.if-declares_global.false) (sym (c.declares_nonlocal.ensures t c.requires.declared) ∙ c.if-declares_nonlocal.true)

pub returns-else-declares_nonlocal : goal.returns-else-declares_nonlocal
returns-else-declares_nonlocal c =
    let t = c.args.tree.now in
    home_here t c.args.scope c.args.name.now (sym (c.declares_global.ensures t c.requires.declared) ∙ c.if-declares_global.false) (sym (c.declares_nonlocal.ensures t c.requires.declared) ∙ c.if-declares_nonlocal.false)
