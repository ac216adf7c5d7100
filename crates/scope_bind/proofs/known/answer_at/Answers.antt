use Rattle.std.proofs.Common.{◌≡◌, ◌∙◌, sym, arith, length}
use Rattle.scope_bind.proofs.ListLaws.{list_length, list_get}
use Rattle.scope_rules.specs.Reading.{answer_of}
use Rattle.scope_rules.specs.declared.scope.Where.TheVariants.{Nowhere}
use Rattle.scope_bind.proofs.known.answer_at.Goals as goal

pub bounds-answers-n : goal.bounds-answers-n
bounds-answers-n c = omega (arith, list_length (answer_of c.args.tree.now) _ c.args.answers.now c.requires.answers, c.requires.made)

pub returns : goal.returns
returns c = list_get (answer_of c.args.tree.now) _ c.args.answers.now c.args.n.0 _ c.requires.answers c.requires.made
