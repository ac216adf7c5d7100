-- What a module exports: the names in the lists that are assigned to `__all__`.
use Rattle.std.specs.Prelude.{ℕ, Bool, not, ◌&&◌, ◌==◌, if◌then◌else◌, List, [], ◌∷◌, codes, length, ◌-◌, slice_get}
use Rattle.std.specs.List.{list_any, flat_map}
use Rattle.std.specs.Str.{bytes_eq}
use Rattle.tree_nodes.specs.Trees.{Tree, kids_at, parent_at}
use Rattle.scope_rules.specs.Nodes.{Name, kind_of, nodes_of, is_number}
use Rattle.scope_rules.specs.Places.{around}
use Rattle.unused_names.specs.Kinds.{is_assignment, is_name_target, is_annotation, is_string, is_display}
use Rattle.rule_nodes.specs.Nodes.{written}
use Rattle.unused_names.specs.Nodes.{asked_above, is_under}
use Rattle.unused_names.specs.Literals.{text_of}

-- the target `__all__`
unfoldable pub is_all_target : Tree → ℕ → Bool
is_all_target t k = is_name_target (kind_of t k) && bytes_eq (written t k) (codes "__all__")

-- one of these is
abbrev pub has_all_target : Tree → List ℕ → Bool
has_all_target t kids = list_any (is_all_target t) kids

-- the last of these
abbrev pub is_last : List ℕ → ℕ → Bool
is_last kids n = is_number (slice_get kids (length kids - 1)) n

-- a statement at module level that assigns to `__all__`
unfoldable pub is_all_assignment : Tree → ℕ → Bool
is_all_assignment t q = is_assignment (kind_of t q) && (around t q == 0 && has_all_target t (kids_at t q))

-- n is the last part of such a statement
unfoldable pub is_assigned_by : Tree → ℕ → ℕ → Bool
is_assigned_by t n q = is_last (kids_at t q) n && is_all_assignment t q

-- the value that is assigned to `__all__`
unfoldable pub is_all_value : Tree → ℕ → Bool
is_all_value t n = not (is_annotation (kind_of t n)) && asked_above (is_assigned_by t n) (parent_at t n)

-- a display anywhere in such a value
unfoldable pub is_export_list : Tree → ℕ → Bool
is_export_list t n = is_display (kind_of t n) && is_under (is_all_value t) t n

-- a string directly in one
unfoldable pub is_export : Tree → ℕ → Bool
is_export t n = is_string (kind_of t n) && asked_above (is_export_list t) (parent_at t n)

-- the name that it exports
unfoldable pub exported_by : Tree → ℕ → List Name
exported_by t n = if is_export t n then text_of (written t n) ∷ [] else []

abbrev pub exported_among : Tree → List ℕ → List Name
exported_among t ns = flat_map (exported_by t) ns

-- the names that a module exports
abbrev pub exported : Tree → List Name
exported t = exported_among t (nodes_of t)
