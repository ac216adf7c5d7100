use Rattle.std.proofs.Common.{◌≡◌, ◌∙◌, sym, ap, Bool, cond, ℕ, ◌||◌, eqb}
use Rattle.scope_rules.specs.declared.scope.Where.TheVariants.{Local, Free}
use Rattle.scope_rules.specs.Declaring.{declares_global}
use Rattle.scope_rules.specs.Reading.{at_module, is_near, end_of, answer_at}
use Rattle.scope_bind.proofs.reading.answer_at.Goals as goal

pub returns-then-goes_to_module : goal.returns-then-goes_to_module
unfolding answer_at
returns-then-goes_to_module c = λ t own h b e.
    let x = c.args.name.now in
    let s = c.args.end.scope in
    c.at_module.ensures t h b
    ∙ sym (ap (λ (v : Bool). cond v (at_module t x) (cond (is_near t own s) (Local (record { 0 = s })) (Free (record { 0 = s })))) (sym (c.goes_to_module.ensures t h) ∙ c.if-goes_to_module.true))

pub returns-else-goes_to_module : goal.returns-else-goes_to_module
unfolding answer_at
returns-else-goes_to_module c = λ t own h b e.
    let x = c.args.name.now in
    let s = c.args.end.scope in
    c.inside.ensures ∙ ap (λ (v : Bool). cond v (Local (record { 0 = s })) (Free (record { 0 = s }))) (e.near ∙ ap (is_near t own) (sym e.scope))
    ∙ sym (ap (λ (v : Bool). cond v (at_module t x) (cond (is_near t own s) (Local (record { 0 = s })) (Free (record { 0 = s })))) (sym (c.goes_to_module.ensures t h) ∙ c.if-goes_to_module.false))
