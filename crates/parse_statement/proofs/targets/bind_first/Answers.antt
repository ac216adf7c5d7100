-- No tokens are needed to say what is bound.
use Rattle.std.proofs.Common.{◌≡◌, List, [], ◌++◌, take, drop, OnOk, subst}
use Rattle.tree_nodes.specs.Trees.{Tree}
use Rattle.py_forest.specs.Forests.{trees}
use Rattle.parse_statement.proofs.TargetLaws.{bound_first_is}
use Rattle.parse_statement.proofs.targets.bind_first.Goals as goal

pub returns-clause-ok : goal.returns-clause-ok
returns-clause-ok c =
    let b = trees c.args.forest.now in
    subst (λ (xs : List Tree). OnOk c.bind.result (trees c.bind.new.self ≡ take c.args.mark b ++ xs)) (bound_first_is [] (drop c.args.mark b)) (c.bind.ensures.ok [])
