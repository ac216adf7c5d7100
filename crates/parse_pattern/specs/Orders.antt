-- Conditions on the order of patterns, told from the front one by one.
use Rattle.std.specs.Prelude.{List, [], ◌∷◌, Option, Some, None, Bool, true, false, if◌then◌else◌}
use Rattle.tree_nodes.specs.Trees.{Tree}
use Rattle.tree_nodes.specs.declared.kind.Kind.{Kind}
use Rattle.py_grammar.specs.Tests.{kind_of}
use Rattle.py_grammar.specs.Patterns.{is_star_pattern, is_rest, is_keyword_pattern}
use Rattle.parse_pattern.specs.declared.order.Order.{Order}
use Rattle.parse_pattern.specs.declared.order.Order.TheVariants as orders

-- what is seen behind one more tree, where it may stand there
abbrev pub seen_behind : Order → Bool → Kind → Option Bool
seen_behind orders.OneStar seen kind = if is_star_pattern kind then (if seen then None else Some true) else Some seen
seen_behind orders.RestLast seen kind = if seen then None else Some (is_rest kind)
seen_behind orders.KeywordsLast seen kind = if is_keyword_pattern kind then Some true else (if seen then None else Some false)

-- each tree may stand behind those before it
abbrev pub in_order_from : Order → Option Bool → List Tree → Bool
in_order_from order None ts = false
in_order_from order (Some seen) [] = true
in_order_from order (Some seen) (t ∷ ts) = in_order_from order (seen_behind order seen (kind_of t)) ts
