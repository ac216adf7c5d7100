-- What the rules ask of the nodes of a tree, by their numbers.
use Rattle.std.specs.Prelude.{ℕ, Bool, true, false, not, ◌&&◌, List, [], ◌∷◌, Option, None, Some, codes, count_by}
use Rattle.std.specs.List.{list_any}
use Rattle.std.specs.Str.{bytes_eq}
use Rattle.tree_nodes.specs.Trees.{Tree, kids_at}
use Rattle.scope_rules.specs.Kinds.{is_class, is_in_body}
use Rattle.scope_rules.specs.Nodes.{kind_of}
use Rattle.scope_rules.specs.Reading.{is_read_name}
use Rattle.rule_nodes.specs.Kinds.{is_statement, is_docstring, is_decorator}
use Rattle.rule_nodes.specs.Nodes.{written}
use Rattle.rule_nodes.specs.Parts.{has_base}
use Rattle.check_basic.specs.Kinds.{is_attribute}

-- ---- blocks

-- some of these nodes is a docstring
abbrev pub has_docstring : Tree → List ℕ → Bool
has_docstring t kids = list_any (λ k. is_docstring (kind_of t k)) kids

-- some of these nodes is a statement
abbrev pub has_statement : Tree → List ℕ → Bool
has_statement t kids = list_any (λ k. is_statement (kind_of t k)) kids

-- how many of these nodes stand in a block: statements, and a docstring
abbrev pub block_len : Tree → List ℕ → ℕ
block_len t kids = count_by (λ k. is_in_body (kind_of t k)) kids

-- ---- where a function stands

-- a class without bases
abbrev pub is_plain_class : Tree → ℕ → Bool
is_plain_class t n = is_class (kind_of t n) && not (has_base t (kids_at t n))

-- what stands in no function or class, or in a class without bases
abbrev pub is_open_to : Tree → Option ℕ → Bool
is_open_to t None = true
is_open_to t (Some p) = is_plain_class t p

-- ---- setters

-- there is one node, and it passes
abbrev pub is_sole : (ℕ → Bool) → List ℕ → Bool
is_sole test (k ∷ []) = test k
is_sole test kids = false

-- `NAME.setter`
abbrev pub is_setter_name : Tree → ℕ → Bool
is_setter_name t n = is_attribute (kind_of t n) && (bytes_eq (written t n) (codes "setter") && is_sole (λ k. is_read_name (kind_of t k)) (kids_at t n))

-- `@NAME.setter`
abbrev pub is_setter_mark : Tree → ℕ → Bool
is_setter_mark t n = is_decorator (kind_of t n) && is_sole (is_setter_name t) (kids_at t n)

-- one of a function's decorators makes it a property's setter
abbrev pub is_setter : Tree → List ℕ → Bool
is_setter t kids = list_any (is_setter_mark t) kids
