-- The nodes of parameters and arguments, by the numbers that a binding gives them.
use Rattle.std.specs.Prelude.{ℕ, List, ◌++◌}
use Rattle.tree_nodes.specs.Trees.{Tree}
use Rattle.call_binding.specs.Reading.{plain_among, keywords_among, arguments_of}

-- the arguments of a call by number: first the plain ones, then those with a keyword
abbrev pub numbered_arguments : Tree → ℕ → List ℕ
numbered_arguments t c = plain_among t (arguments_of t c) ++ keywords_among t (arguments_of t c)
