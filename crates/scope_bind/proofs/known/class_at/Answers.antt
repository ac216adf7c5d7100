use Rattle.std.proofs.Common.{◌≡◌, ◌∙◌, sym, arith, length}
use Rattle.scope_bind.proofs.ListLaws.{list_length, list_get}
use Rattle.scope_rules.specs.Mangling.{class_from}
use Rattle.std.proofs.Common.{ℕ, ◌<◌, None, Option, subst}
use Rattle.std.specs.Prelude.{IfSome}
use Rattle.tree_nodes.specs.Trees.{count_of}
use Rattle.scope_bind.proofs.OutwardLaws.{class_known}
use Rattle.scope_bind.proofs.known.class_at.Goals as goal

pub bounds-classes-s : goal.bounds-classes-s
bounds-classes-s c = omega (arith, list_length (class_from c.args.tree.now) _ c.args.classes.now c.requires.classes, c.requires.made)

pub returns-clause-value : goal.returns-clause-value
returns-clause-value c = list_get (class_from c.args.tree.now) _ c.args.classes.now c.args.s.0 None c.requires.classes c.requires.made

pub returns-clause-known : goal.returns-clause-known
returns-clause-known c =
    subst (λ (o : Option ℕ). IfSome o (λ k. k < count_of c.args.tree.now)) (sym (list_get (class_from c.args.tree.now) _ c.args.classes.now c.args.s.0 None c.requires.classes c.requires.made))
    (class_known c.args.tree.now c.args.s.0 c.requires.made)
