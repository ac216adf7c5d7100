use Rattle.std.proofs.Common.{◌∙◌, ap, sym, Some}
use Rattle.scope_rules.specs.Nodes.{Name}
use Rattle.check_names.specs.Nodes.{public_of}
use Rattle.check_names.proofs.PublicLaws.{first_public, none_public}
use Rattle.check_names.proofs.public.first_part.Goals as goal

pub returns-in-Some : goal.returns-in-Some
returns-in-Some c =
    c.public_of.ensures ∙ ap (λ (x : Name). public_of (Some x)) c.before_dot.ensures ∙ first_public c.args.tree.now c.args.n.0 c.in-Some.name.now (sym c.in-Some.ensures)

pub returns-in-None : goal.returns-in-None
returns-in-None c = none_public c.args.tree.now c.args.n.0 (sym c.in-None.ensures)
