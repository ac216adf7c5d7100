-- The blocks of a tree: that of a statement or clause reaches from behind its header to the last line of its last statement,
-- or of its docstring where it has no statement. The module's block is the whole file.
use Rattle.std.specs.Prelude.{ℕ, ◌==◌, if◌then◌else◌, List, [], ◌∷◌, find, fold, option_map, Option, None, Some}
use Rattle.std.specs.List.{flat_map}
use Rattle.lint_values.specs.declared.place.Pos.{Pos}
use Rattle.tree_nodes.specs.Trees.{Tree, node_at, kids_at}
use Rattle.pragma_scope.specs.declared.block.Block.{Block}
use Rattle.scope_rules.specs.Nodes.{kind_of, nodes_of}
use Rattle.rule_nodes.specs.Kinds.{is_decorator}
use Rattle.pragma_scope.specs.Kinds.{is_in_block, is_of_block}

-- the last line that there can be
abbrev pub last_of_lines : ℕ
last_of_lines = 4294967295

-- where a node begins over these kids: at its first decorator, where it has one
abbrev pub begin_by : Tree → Pos → List ℕ → Pos
begin_by t own [] = own
begin_by t own (kid ∷ kids) = if is_decorator (kind_of t kid) then (node_at t kid).pos else own

-- where a statement begins
abbrev pub begin_of : Tree → ℕ → Pos
begin_of t n = begin_by t (node_at t n).pos (kids_at t n)

-- the first docstring or statement among these nodes
abbrev pub first_in_block : Tree → List ℕ → Option ℕ
first_in_block t kids = find (λ k. is_in_block (kind_of t k)) kids

abbrev pub first_statement : Tree → List ℕ → Option ℕ
first_statement t kids = find (λ k. is_of_block (kind_of t k)) kids

-- where the first statement among these nodes begins
abbrev pub statements_begin : Tree → List ℕ → Option Pos
statements_begin t kids = option_map (begin_of t) (first_statement t kids)

-- the last line of the last docstring or statement among these nodes
abbrev pub last_line_of : Tree → List ℕ → ℕ
last_line_of t kids = fold (λ last k. if is_in_block (kind_of t k) then (node_at t k).end_line else last) 0 kids

-- the block of a node that has such a first kid
abbrev pub block_from : Tree → ℕ → Option ℕ → List Block
block_from t n None = []
block_from t n (Some first) =
    record {
      header = (node_at t n).pos.line;
      start = begin_of t first;
      statements = statements_begin t (kids_at t n);
      last = last_line_of t (kids_at t n);
    } ∷ []

-- the whole file
abbrev pub module_block : Tree → Block
module_block t = record { header = 0; start = record { line = 0; col = 0 }; statements = statements_begin t (kids_at t 0); last = last_of_lines }

-- the block of a node, where it has one
abbrev pub block_at : Tree → ℕ → List Block
block_at t n = if n == 0 then module_block t ∷ [] else block_from t n (first_in_block t (kids_at t n))

-- the blocks of a tree: one inside another stands behind it
abbrev pub blocks_of : Tree → List Block
blocks_of t = flat_map (block_at t) (nodes_of t)
