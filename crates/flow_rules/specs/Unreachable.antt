-- unreachable: the statement directly behind `return`, `raise`, `break` or `continue` in a block.
use Rattle.std.specs.Prelude.{ℕ, Bool, false, not, ◌&&◌, List, [], ◌∷◌, ◌++◌}
use Rattle.lint_values.specs.declared.place.FileId.{FileId}
use Rattle.lint_messages.specs.declared.message.Message.{Message}
use Rattle.tree_nodes.specs.Trees.{Tree, kids_at}
use Rattle.scope_rules.specs.Nodes.{kind_of}
use Rattle.flow_rules.specs.declared.rule.Rule.TheVariants.{Unreachable}
use Rattle.rule_nodes.specs.Kinds.{is_expression_statement}
use Rattle.flow_rules.specs.Kinds.{is_jump, is_return, is_yield}
use Rattle.rule_nodes.specs.Nodes.{due}
use Rattle.flow_rules.specs.Nodes.{message_of, block}

-- there is one node, and it is `yield`
abbrev pub is_sole_yield : Tree → List ℕ → Bool
is_sole_yield t (k ∷ []) = is_yield (kind_of t k)
is_sole_yield t kids = false

-- `yield` as a statement
abbrev pub is_yield_statement : Tree → ℕ → Bool
is_yield_statement t n = is_expression_statement (kind_of t n) && is_sole_yield t (kids_at t n)

-- `yield` behind `return` is there to make the function a generator
abbrev pub is_empty_generator : Tree → ℕ → ℕ → Bool
is_empty_generator t jump n = is_return (kind_of t jump) && is_yield_statement t n

-- control does not go on from the one statement to the other
abbrev pub is_cut_off : Tree → ℕ → ℕ → Bool
is_cut_off t jump n = is_jump (kind_of t jump) && not (is_empty_generator t jump n)

-- a statement, and the one directly before it
abbrev pub unreachable_at : FileId → Tree → ℕ → ℕ → List Message
unreachable_at file t jump n = due (is_cut_off t jump n) (message_of file t n Unreachable [])

-- statements of a block behind another, each with the one before it
abbrev pub unreachable_behind : FileId → Tree → ℕ → List ℕ → List Message
unreachable_behind file t before [] = []
unreachable_behind file t before (s ∷ ss) = unreachable_at file t before s ++ unreachable_behind file t s ss

-- the statements of a block: nothing stands before the first
abbrev pub unreachable_among : FileId → Tree → List ℕ → List Message
unreachable_among file t [] = []
unreachable_among file t (s ∷ ss) = unreachable_behind file t s ss

-- unreachable, in the block of a node
abbrev pub unreachable : FileId → Tree → ℕ → List Message
unreachable file t n = unreachable_among file t (block t n)
