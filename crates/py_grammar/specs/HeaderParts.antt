-- The sorts of the tree that a phrase spells, and the parts that a line of each kind gives its statement or clause: those
-- before the block.
use Rattle.std.specs.Prelude.{List, [], ◌∷◌, ◌++◌}
use Rattle.tree_nodes.specs.Trees.{pack}
use Rattle.tree_nodes.specs.Sorts.{Sort, statement, decorator, with_item, annotation, as_name, pattern, only, expression, value, any_target}
use Rattle.tree_nodes.specs.Shapes.{Part, Fits, FitsOneOf, one, maybe, many, some, arguments, behind_parameters, sole}
use Rattle.tree_nodes.specs.Shaped.{kinds_of, AreShaped}
use Rattle.py_grammar.specs.declared.entry.Entry.{Entry}
use Rattle.py_grammar.specs.declared.entry.Entry.TheVariants as e
use Rattle.py_grammar.specs.declared.head.Head.{Head}
use Rattle.py_grammar.specs.declared.head.Head.TheVariants as heads
use Rattle.py_grammar.specs.Lines.{LineForm}

-- a phrase is one expression or one pattern
abbrev pub sorts_of : Entry → List Sort
sorts_of e.Pattern = only pattern
sorts_of entry = expression

-- the forms of the parts of a header or of a decorator's line; simple statements have none
abbrev pub parts_of : Head → List (List Part)
parts_of heads.Simple = sole []
parts_of heads.Decorator = sole (one (only decorator))
parts_of heads.If = sole (one expression)
parts_of heads.Elif = sole (one expression)
parts_of heads.Else = sole []
parts_of heads.While = sole (one expression)
parts_of heads.For = sole (one any_target ++ one value)
parts_of heads.AsyncFor = sole (one any_target ++ one value)
parts_of heads.Try = sole []
parts_of heads.Except = [] ∷ (one expression ++ maybe (only as_name)) ∷ []
parts_of heads.ExceptStar = sole (one expression ++ maybe (only as_name))
parts_of heads.Finally = sole []
parts_of heads.With = sole (some (only with_item))
parts_of heads.AsyncWith = sole (some (only with_item))
parts_of heads.FunctionDef = behind_parameters (maybe (only annotation))
parts_of heads.AsyncFunctionDef = behind_parameters (maybe (only annotation))
parts_of heads.ClassDef = sole arguments
parts_of heads.Match = sole (one expression)
parts_of heads.Case = sole (one (only pattern) ++ maybe expression)

-- the parts of a line's simple statements: a decorator and the header of a `match` have none behind them
abbrev pub body_of : Head → List Part
body_of heads.Simple = some (only statement)
body_of heads.Decorator = []
body_of heads.Match = []
body_of head = many (only statement)

-- the trees of a line are in shape, and fit its kind
pub record IsLineShaped (line : LineForm) : Type 0 where
  pub nodes_shaped : AreShaped (pack line.nodes)
  pub nodes_fit : FitsOneOf (parts_of line.head) (kinds_of (pack line.nodes))
  pub body_shaped : AreShaped (pack line.body)
  pub body_fits : Fits (body_of line.head) (kinds_of (pack line.body))
