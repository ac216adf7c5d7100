use Rattle.std.proofs.Common.{◌∙◌, ap}
use Rattle.std.specs.FinMap.{get}
use Rattle.infer_equations.proofs.Valued.{find_valued, find_none}
use Rattle.infer_equations.proofs.table.Table.find.Goals as goal

pub returns-in-Some : goal.returns-in-Some
returns-in-Some c = find_valued c.self.inside.sets c.self.inside.ids c.args.var _ c.in-Some.id c.in-Some.ensures c.get.ensures ∙ ap (λ m. get m c.args.var) c.self.view_is

pub returns-in-None : goal.returns-in-None
returns-in-None c = find_none c.self.inside.sets c.self.inside.ids c.args.var c.in-None.ensures ∙ ap (λ m. get m c.args.var) c.self.view_is
