use Rattle.std.proofs.Common.{arith}
use Rattle.std.proofs.lemmas.List.{length-map}
use Rattle.py_forest.specs.Forests.{trees, tree_at}
use Rattle.py_forest.proofs.KindLaws.{top_kind}
use Rattle.py_forest.proofs.forest.Forest.kind.Goals as goal

pub index-requires : goal.index-requires
unfolding trees
index-requires c = omega (arith, c.requires, length-map c.args.self.now.tops.items (tree_at c.args.self.now.builder))

pub returns : goal.returns
unfolding trees
returns c = top_kind c.args.self.now.builder c.args.self.now.tops.items c.args.place _ c.args.self.now.tops_are_made (omega (arith, c.requires, length-map c.args.self.now.tops.items (tree_at c.args.self.now.builder))) c.index.ensures
