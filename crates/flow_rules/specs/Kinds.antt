-- What a node is, by its kind, as the rules on flow and on size ask for it.
use Rattle.std.specs.Prelude.{Bool, true, false}
use Rattle.tree_nodes.specs.declared.kind.Kind.{Kind}
use Rattle.tree_nodes.specs.declared.kind.Kind.TheVariants as kinds

-- a statement that control never goes on behind
unfoldable pub is_jump : Kind → Bool
is_jump kinds.Return = true
is_jump kinds.Raise = true
is_jump kinds.Break = true
is_jump kinds.Continue = true
is_jump kind = false

unfoldable pub is_return : Kind → Bool
is_return kinds.Return = true
is_return kind = false

unfoldable pub is_raise : Kind → Bool
is_raise kinds.Raise = true
is_raise kind = false

unfoldable pub is_break : Kind → Bool
is_break kinds.Break = true
is_break kind = false

unfoldable pub is_continue : Kind → Bool
is_continue kinds.Continue = true
is_continue kind = false

-- `yield` and `yield from`
unfoldable pub is_yield : Kind → Bool
is_yield kinds.Yield = true
is_yield kinds.YieldFrom = true
is_yield kind = false

-- an `except` clause
unfoldable pub is_handler : Kind → Bool
is_handler kinds.ExceptHandler = true
is_handler kind = false

-- `for`, with `async` before it or not, and `while`
unfoldable pub is_loop : Kind → Bool
is_loop kinds.For = true
is_loop kinds.AsyncFor = true
is_loop kinds.While = true
is_loop kind = false

unfoldable pub is_else : Kind → Bool
is_else kinds.Else = true
is_else kind = false

-- a parameter that takes one argument: neither `*args` nor `**options`
unfoldable pub is_single_parameter : Kind → Bool
is_single_parameter kinds.Parameter = true
is_single_parameter kinds.KeywordOnlyParameter = true
is_single_parameter kind = false

-- what begins a branch: `if`, `elif`, `for`, `while`, `else` of any statement, `except` and `case`
unfoldable pub is_branch : Kind → Bool
is_branch kinds.If = true
is_branch kinds.Elif = true
is_branch kinds.Else = true
is_branch kinds.For = true
is_branch kinds.AsyncFor = true
is_branch kinds.While = true
is_branch kinds.ExceptHandler = true
is_branch kinds.ExceptStarHandler = true
is_branch kinds.Case = true
is_branch kind = false

unfoldable pub is_finally : Kind → Bool
is_finally kinds.Finally = true
is_finally kind = false
