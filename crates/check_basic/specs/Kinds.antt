-- What a node is, by its kind: what begins with a header, and the kinds that the rules ask for.
use Rattle.std.specs.Prelude.{Bool, true, false, ◌||◌}
use Rattle.tree_nodes.specs.declared.kind.Kind.{Kind}
use Rattle.tree_nodes.specs.declared.kind.Kind.TheVariants as kinds
use Rattle.rule_nodes.specs.Kinds.{is_counted_clause}

-- a statement with a block
unfoldable pub is_compound : Kind → Bool
is_compound kinds.If = true
is_compound kinds.While = true
is_compound kinds.For = true
is_compound kinds.AsyncFor = true
is_compound kinds.Try = true
is_compound kinds.With = true
is_compound kinds.AsyncWith = true
is_compound kinds.FunctionDef = true
is_compound kinds.AsyncFunctionDef = true
is_compound kinds.ClassDef = true
is_compound kinds.Match = true
is_compound kind = false

-- a clause that counts as none: `else`, `finally` and `case`
unfoldable pub is_other_clause : Kind → Bool
is_other_clause kinds.Else = true
is_other_clause kinds.Finally = true
is_other_clause kinds.Case = true
is_other_clause kind = false

-- what begins with a header: a statement with a block, or a clause
abbrev pub has_header : Kind → Bool
has_header kind = is_compound kind || (is_counted_clause kind || is_other_clause kind)

unfoldable pub is_import : Kind → Bool
is_import kinds.Import = true
is_import kind = false

unfoldable pub is_pass : Kind → Bool
is_pass kinds.Pass = true
is_pass kind = false

unfoldable pub is_attribute : Kind → Bool
is_attribute kinds.Attribute = true
is_attribute kind = false
