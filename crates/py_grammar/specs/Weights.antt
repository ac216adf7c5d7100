-- Which nodes count in the nesting of expressions and patterns: those of expressions, targets and patterns. Arguments,
-- parameters, slices, items, clauses, stars and fields do not, nor does a pattern that is one expression.
use Rattle.std.specs.Prelude.{ℕ}
use Rattle.tree_nodes.specs.declared.kind.Kind.{Kind}
use Rattle.tree_nodes.specs.declared.kind.Kind.TheVariants as kinds

-- 1 for a node that counts, and else 0
abbrev pub weight : Kind → ℕ
weight kinds.NameTarget = 1
weight kinds.AttributeTarget = 1
weight kinds.SubscriptTarget = 1
weight kinds.TupleTarget = 1
weight kinds.ListTarget = 1
weight kinds.NamedExpression = 1
weight kinds.Conditional = 1
weight kinds.Lambda = 1
weight kinds.BoolOr = 1
weight kinds.BoolAnd = 1
weight kinds.Not = 1
weight kinds.Comparison = 1
weight kinds.BitwiseOr = 1
weight kinds.BitwiseXor = 1
weight kinds.BitwiseAnd = 1
weight kinds.Shift = 1
weight kinds.Sum = 1
weight kinds.Product = 1
weight kinds.UnaryPlus = 1
weight kinds.UnaryMinus = 1
weight kinds.UnaryInvert = 1
weight kinds.Power = 1
weight kinds.Await = 1
weight kinds.Attribute = 1
weight kinds.Call = 1
weight kinds.Subscript = 1
weight kinds.Name = 1
weight kinds.NumberLiteral = 1
weight kinds.StringLiteral = 1
weight kinds.BytesLiteral = 1
weight kinds.FString = 1
weight kinds.NoneLiteral = 1
weight kinds.TrueLiteral = 1
weight kinds.FalseLiteral = 1
weight kinds.EllipsisLiteral = 1
weight kinds.Tuple = 1
weight kinds.List = 1
weight kinds.Set = 1
weight kinds.Dict = 1
weight kinds.ListComprehension = 1
weight kinds.SetComprehension = 1
weight kinds.DictComprehension = 1
weight kinds.GeneratorExpression = 1
weight kinds.Yield = 1
weight kinds.YieldFrom = 1
weight kinds.MatchOr = 1
weight kinds.MatchAs = 1
weight kinds.MatchCapture = 1
weight kinds.MatchWildcard = 1
weight kinds.MatchSequence = 1
weight kinds.MatchMapping = 1
weight kinds.MatchClass = 1
weight kind = 0
