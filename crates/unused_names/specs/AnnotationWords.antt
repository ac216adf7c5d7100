-- The names in annotations that are written as strings.
use Rattle.std.specs.Prelude.{ℕ, Bool, ◌&&◌, if◌then◌else◌, List, []}
use Rattle.std.specs.List.{flat_map}
use Rattle.tree_nodes.specs.Trees.{Tree}
use Rattle.scope_rules.specs.Nodes.{Name, kind_of, nodes_of}
use Rattle.unused_names.specs.Kinds.{is_annotation, is_string}
use Rattle.rule_nodes.specs.Nodes.{written}
use Rattle.unused_names.specs.Nodes.{is_under}
use Rattle.unused_names.specs.Literals.{text_of, words_of}

-- an annotation of a parameter, a result or an assignment
abbrev pub is_annotation_at : Tree → ℕ → Bool
is_annotation_at t n = is_annotation (kind_of t n)

-- a string within one
unfoldable pub is_quoted : Tree → ℕ → Bool
is_quoted t n = is_string (kind_of t n) && is_under (is_annotation_at t) t n

-- the words of such a string
unfoldable pub quoted_by : Tree → ℕ → List Name
quoted_by t n = if is_quoted t n then words_of (text_of (written t n)) else []

abbrev pub quoted_among : Tree → List ℕ → List Name
quoted_among t ns = flat_map (quoted_by t) ns

-- the words of all strings within annotations
abbrev pub quoted : Tree → List Name
quoted t = quoted_among t (nodes_of t)
