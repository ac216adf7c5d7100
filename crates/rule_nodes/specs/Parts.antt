-- What stands among the parts of a node: bases of a class, decorators.
use Rattle.std.specs.Prelude.{ℕ, Bool, List}
use Rattle.std.specs.List.{list_any}
use Rattle.tree_nodes.specs.Trees.{Tree}
use Rattle.scope_rules.specs.Nodes.{kind_of}
use Rattle.rule_nodes.specs.Kinds.{is_base, is_decorator}

-- one of a class's parts is a base: a plain or starred argument
abbrev pub has_base : Tree → List ℕ → Bool
has_base t kids = list_any (λ k. is_base (kind_of t k)) kids

-- one of these parts is a decorator
abbrev pub has_decorator : Tree → List ℕ → Bool
has_decorator t kids = list_any (λ k. is_decorator (kind_of t k)) kids
