use Rattle.std.proofs.Common.{◌≡◌, ◌∙◌, ap, Bool, ◌||◌}
use Rattle.scope_rules.specs.Marks.{some_node}
use Rattle.scope_rules.specs.Declaring.{binder_mark, has, in_module}
use Rattle.scope_bind.proofs.TableLaws.{table_has}
use Rattle.scope_bind.proofs.reading.in_module.Goals as goal

pub returns : goal.returns
unfolding in_module
returns c = λ t h b.
    let x = c.args.name.now in
    c.either.ensures ∙ ap (λ (v : Bool). v || c.has-is_annotated.result) (c.has-is_bound.ensures ∙ table_has (binder_mark t) t c.args.binders.now 0 x b) ∙ ap (λ (v : Bool). some_node (binder_mark t) t 0 x || v) (c.has-is_annotated.ensures t h)
