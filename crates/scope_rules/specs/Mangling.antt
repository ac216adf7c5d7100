-- Private names: how a name is read inside a class.
use Rattle.std.specs.Prelude.{ℕ, ◌-◌, Bool, true, false, not, ◌&&◌, ◌==◌, if◌then◌else◌, [], ◌∷◌, ◌++◌, length, drop, Option, Some, None, option_map}
use Rattle.std.specs.List.{find}
use Rattle.tree_nodes.specs.declared.kind.Kind.{Kind}
use Rattle.tree_nodes.specs.declared.kind.Kind.TheVariants as kinds
use Rattle.tree_nodes.specs.Trees.{Tree}
use Rattle.scope_rules.specs.Kinds.{is_class}
use Rattle.scope_rules.specs.Nodes.{Name, kind_of, name_of}
use Rattle.scope_rules.specs.Places.{around, chain}

-- the kinds whose name is a name or an attribute. Not read anew are dotted names of imports, keywords and literals
unfoldable pub is_read : Kind → Bool
is_read kinds.FunctionDef = true
is_read kinds.AsyncFunctionDef = true
is_read kinds.ClassDef = true
is_read kinds.AsName = true
is_read kinds.DeclaredName = true
is_read kinds.Parameter = true
is_read kinds.StarParameter = true
is_read kinds.KeywordOnlyParameter = true
is_read kinds.DoubleStarParameter = true
is_read kinds.NameTarget = true
is_read kinds.AttributeTarget = true
is_read kinds.NamedExpression = true
is_read kinds.Attribute = true
is_read kinds.Name = true
is_read kinds.MatchAs = true
is_read kinds.MatchCapture = true
is_read kinds.MatchStar = true
is_read kinds.MatchRest = true
is_read kind = false

-- begins with two underscores
unfoldable pub begins_private : Name → Bool
begins_private (c ∷ d ∷ cs) = c == 95 && d == 95
begins_private cs = false

-- ends with two underscores
unfoldable pub ends_special : Name → Bool
ends_special x = begins_private (drop (length x - 2) x)

-- begins with two underscores and does not end with two
unfoldable pub is_private : Name → Bool
is_private x = begins_private x && not (ends_special x)

-- without the underscores in front
unfoldable pub bare : Name → Name
bare [] = []
bare (c ∷ cs) = if c == 95 then bare cs else c ∷ cs

-- `_`, the class's name without underscores in front, the name; a class whose name is all underscores changes none
unfoldable pub prefixed : Name → Name → Name
prefixed [] x = x
prefixed (c ∷ cs) x = (95 ∷ c ∷ cs) ++ x

-- a name as it is read inside the class of that name, or outside classes
unfoldable pub mangled : Option Name → Name → Name
mangled None x = x
mangled (Some c) x = if is_private x then prefixed (bare c) x else x

-- the innermost class among a scope and those around it
unfoldable pub class_from : Tree → ℕ → Option ℕ
class_from t s = find (λ c. is_class (kind_of t c)) (chain t s)

-- the name of that class, if any
abbrev pub name_at : Tree → Option ℕ → Option Name
name_at t None = None
name_at t (Some c) = name_of t c

-- a name as it is read where a node stands
unfoldable pub read_at : Tree → ℕ → Name → Name
read_at t n x = mangled (name_at t (class_from t (around t n))) x

-- a node's name as it is read
unfoldable pub spelled : Tree → ℕ → Option Name
spelled t n = if is_read (kind_of t n) then option_map (read_at t n) (name_of t n) else name_of t n
