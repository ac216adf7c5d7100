use Rattle.std.proofs.Common.{ap, sym, map, ◌∙◌}
use Rattle.std.proofs.lemmas.List.{take-map}
use Rattle.std.proofs.lemmas.List.Elements.{All-take}
use Rattle.py_forest.specs.Tops.{IsTop}
use Rattle.py_forest.specs.Forests.{trees, tree_at}
use Rattle.py_forest.proofs.TreeLaws.{cut_tops}
use Rattle.py_forest.proofs.forest.Forest.cut.Goals as goal

pub invariant_of-self : goal.invariant_of-self
invariant_of-self c = record { tops_are_made = cut_tops _ _ _ c.args.mark c.truncate.ensures.items c.args.self.now.tops_are_made }

pub returns : goal.returns
unfolding trees
returns c = ap (map (tree_at c.args.self.now.builder)) c.truncate.ensures.items ∙ sym (take-map (tree_at c.args.self.now.builder) c.args.mark c.args.self.now.tops.items)
