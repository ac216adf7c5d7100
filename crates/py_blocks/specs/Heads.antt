-- Kinds of lines: which open a block, which are clauses, and what a clause may go on.
use Rattle.std.specs.Prelude.{Bool, true, false, ◌&&◌, ◌||◌, Option, Some, None}
use Rattle.py_grammar.specs.declared.head.Head.{Head}
use Rattle.py_grammar.specs.declared.head.Head.TheVariants as heads
use Rattle.tree_nodes.specs.declared.kind.Kind.{Kind}
use Rattle.tree_nodes.specs.declared.kind.Kind.TheVariants as kinds

-- the header of a statement or of a clause
abbrev pub is_header : Head → Bool
is_header heads.Simple = false
is_header heads.Decorator = false
is_header head = true

abbrev pub is_decorator : Head → Bool
is_decorator heads.Decorator = true
is_decorator head = false

-- what may stand behind a decorator
abbrev pub is_decorated : Head → Bool
is_decorated heads.Decorator = true
is_decorated heads.FunctionDef = true
is_decorated heads.AsyncFunctionDef = true
is_decorated heads.ClassDef = true
is_decorated head = false

abbrev pub is_try : Head → Bool
is_try heads.Try = true
is_try head = false

abbrev pub is_case : Head → Bool
is_case heads.Case = true
is_case head = false

-- what may stand behind the block of a `try`
abbrev pub is_handling : Head → Bool
is_handling heads.Except = true
is_handling heads.ExceptStar = true
is_handling heads.Finally = true
is_handling head = false

-- ---- of the line that a line stands under, or behind at its level, where there is one

abbrev pub is_match : Option Head → Bool
is_match (Some heads.Match) = true
is_match head = false

abbrev pub is_conditional : Option Head → Bool
is_conditional (Some heads.If) = true
is_conditional (Some heads.Elif) = true
is_conditional head = false

abbrev pub is_loop : Option Head → Bool
is_loop (Some heads.While) = true
is_loop (Some heads.For) = true
is_loop (Some heads.AsyncFor) = true
is_loop head = false

abbrev pub is_opened_try : Option Head → Bool
is_opened_try (Some heads.Try) = true
is_opened_try head = false

abbrev pub is_except : Option Head → Bool
is_except (Some heads.Except) = true
is_except head = false

abbrev pub is_except_star : Option Head → Bool
is_except_star (Some heads.ExceptStar) = true
is_except_star head = false

abbrev pub is_else : Option Head → Bool
is_else (Some heads.Else) = true
is_else head = false

-- a clause goes on the line before it at its level, its elder; behind the elder stands the elder's own. Other lines need none
abbrev pub has_opener : Head → Option Head → Option Head → Bool
has_opener heads.Elif elder behind = is_conditional elder
has_opener heads.Else elder behind = is_conditional elder || is_loop elder || is_except elder || is_except_star elder
has_opener heads.Except elder behind = is_opened_try elder || is_except elder
has_opener heads.ExceptStar elder behind = is_opened_try elder || is_except_star elder
has_opener heads.Finally elder behind = is_opened_try elder || is_except elder || is_except_star elder || (is_else elder && (is_except behind || is_except_star behind))
has_opener head elder behind = true

-- ---- what a line makes in the tree

-- a clause of the statement whose header stands before it at its level
abbrev pub is_clause : Head → Bool
is_clause heads.Elif = true
is_clause heads.Else = true
is_clause heads.Except = true
is_clause heads.ExceptStar = true
is_clause heads.Finally = true
is_clause heads.Case = true
is_clause head = false

-- what has decorators and a docstring
abbrev pub is_definition : Head → Bool
is_definition heads.FunctionDef = true
is_definition heads.AsyncFunctionDef = true
is_definition heads.ClassDef = true
is_definition head = false

-- the kind of node that a header makes
abbrev pub kind_of : Head → Kind
kind_of heads.If = kinds.If
kind_of heads.Elif = kinds.Elif
kind_of heads.Else = kinds.Else
kind_of heads.While = kinds.While
kind_of heads.For = kinds.For
kind_of heads.AsyncFor = kinds.AsyncFor
kind_of heads.Try = kinds.Try
kind_of heads.Except = kinds.ExceptHandler
kind_of heads.ExceptStar = kinds.ExceptStarHandler
kind_of heads.Finally = kinds.Finally
kind_of heads.With = kinds.With
kind_of heads.AsyncWith = kinds.AsyncWith
kind_of heads.FunctionDef = kinds.FunctionDef
kind_of heads.AsyncFunctionDef = kinds.AsyncFunctionDef
kind_of heads.ClassDef = kinds.ClassDef
kind_of heads.Match = kinds.Match
kind_of heads.Case = kinds.Case
kind_of heads.Decorator = kinds.Decorator
kind_of heads.Simple = kinds.Pass
