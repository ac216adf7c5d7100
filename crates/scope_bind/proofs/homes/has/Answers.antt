use Rattle.std.proofs.Common.{◌≡◌, ◌∙◌, ap, Bool, ◌&&◌, not}
use Rattle.scope_rules.specs.Marks.{some_node}
use Rattle.scope_rules.specs.Declaring.{local_mark, declares_global, declares_nonlocal, has}
use Rattle.scope_bind.proofs.TableLaws.{table_has}
use Rattle.scope_bind.proofs.homes.has.Goals as goal

pub returns : goal.returns
unfolding has
returns c = λ t h.
    let s = c.args.scope in
    let x = c.args.name.now in
    let g = declares_global t s x in
    c.both.ensures ∙ ap (λ (b : Bool). b && c.neither.result) (c.has-is_local.ensures ∙ table_has (local_mark t) t c.args.declared.now.locals s x h.locals)
    ∙ ap (λ (b : Bool). some_node (local_mark t) t s x && b) (c.neither.ensures ∙ ap (λ (b : Bool). not b && not c.declares_nonlocal-is_nonlocal.result) (c.declares_global-is_global.ensures t h) ∙ ap (λ (b : Bool). not g && not b) (c.declares_nonlocal-is_nonlocal.ensures t h))
