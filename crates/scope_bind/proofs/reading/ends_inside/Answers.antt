use Rattle.std.proofs.Common.{◌≡◌, ◌∙◌, sym, ap, arith, Bool, ◌||◌, ◌&&◌, not, eqb}
use Rattle.std.proofs.lemmas.Bool.{ne_eqb}
use Rattle.scope_rules.specs.Kinds.{is_class}
use Rattle.scope_rules.specs.Nodes.{kind_of}
use Rattle.scope_rules.specs.Declaring.{declares_global, has}
use Rattle.scope_rules.specs.Reading.{ends_at}
use Rattle.scope_bind.proofs.reading.ends_inside.Goals as goal

pub returns : goal.returns
unfolding ends_at
returns c =
    let t = c.args.tree.now in
    let s = c.args.s in
    let x = c.args.name.now in
    let seen = (eqb s c.args.own || not (is_class (kind_of t s))) in
    let claimed = (declares_global t s x || has t s x) in
    c.both.ensures ∙ ap (λ (v : Bool). v && c.claims-is_claimed.result) c.is_seen-is_seen.ensures ∙ ap (λ (v : Bool). seen && v) (c.claims-is_claimed.ensures t c.requires.declared)
    ∙ sym (ap (λ (v : Bool). v || (seen && claimed)) (ne_eqb s 0 (λ e. absurd (omega (arith, c.requires.inside, e)))))
