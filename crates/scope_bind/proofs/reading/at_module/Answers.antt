use Rattle.std.proofs.Common.{◌≡◌, ◌∙◌, sym, ap, Bool, cond}
use Rattle.scope_rules.specs.declared.scope.Where.TheVariants.{Global, Builtin, Nowhere}
use Rattle.scope_rules.specs.Reading.{is_builtin, at_module}
use Rattle.scope_bind.proofs.reading.at_module.Goals as goal

pub returns-then-in_module : goal.returns-then-in_module
unfolding at_module
returns-then-in_module c = λ t h b.
    let x = c.args.name.now in
    sym (ap (λ (v : Bool). cond v Global (cond (is_builtin x) Builtin Nowhere)) (sym (c.in_module.ensures t h b) ∙ c.if-in_module.true))

pub returns-else-in_module : goal.returns-else-in_module
unfolding at_module
returns-else-in_module c = λ t h b.
    let x = c.args.name.now in
    c.beyond_module.ensures ∙ sym (ap (λ (v : Bool). cond v Global (cond (is_builtin x) Builtin Nowhere)) (sym (c.in_module.ensures t h b) ∙ c.if-in_module.false))
