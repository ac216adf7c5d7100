-- The statements that lines make. The lines of one level stand in a row, and each has the lines of its block below it; a clause
-- belongs to the statement whose header stands before it.
use Rattle.std.specs.Prelude.{◌≡◌, ℕ, ◌+◌, max, Bool, if◌then◌else◌, List, [], ◌∷◌, ◌++◌, map, Option, Some, None, option_map}
use Rattle.lint_values.specs.declared.place.Pos.{Pos}
use Rattle.tree_nodes.specs.declared.kind.Kind.{Kind}
use Rattle.tree_nodes.specs.declared.kind.Kind.TheVariants as kinds
use Rattle.tree_nodes.specs.Trees.{Node, Tree, pack}
use Rattle.py_blocks.specs.Heads.{is_header, is_clause, is_decorator, is_definition, kind_of}
use Rattle.py_blocks.specs.Rows.{Row}

-- ---- lines within lines

-- the lines of one level: none, or a line, the lines of its block, and the lines behind these
pub data Lines : Type 0 where
  none : Lines
  line : Row Tree → Lines → Lines → Lines

-- all of them in the order of the file
abbrev pub flat : Lines → List (Row Tree)
flat none = []
flat (line row block behind) = row ∷ (flat block ++ flat behind)

-- each line is of the level at which it stands
abbrev pub AreAt : ℕ → Lines → Type 0
AreAt level none = Unit {0}
AreAt level (line row block behind) = (row.level ≡ level) × AreAt (level + 1) block × AreAt level behind

-- ---- decorators

-- what the decorators right before a line make, where the lines before it are listed from the nearest back
abbrev pub gathered : {X : Type 0} → List (Row X) → List X
gathered [] = []
gathered (row ∷ before) = if is_decorator row.head then gathered before ++ row.nodes else []

-- the parts of a `def` or `class` begin with its decorators
abbrev pub decorated : {X : Type 0} → List X → Row X → Row X
decorated decorators row = record row { nodes = (if is_definition row.head then decorators else []) ++ row.nodes }

-- lines that stand behind others, with their decorators
abbrev pub all_decorated : {X : Type 0} → List (Row X) → List (Row X) → List (Row X)
all_decorated before [] = []
all_decorated before (row ∷ rows) = decorated (gathered before) row ∷ all_decorated (row ∷ before) rows

-- ---- what lines make

-- what the lines of a level make: the clauses at their front, whose header stands before them, and the line where the last of
-- these ends; the statements behind; the first of these as a docstring, where it can be one; the line where the last line ends
pub record Level (X : Type 0) : Type 0 where
  pub docstring : Option X
  pub clauses : List X
  pub reach : ℕ
  pub statements : List X
  pub last : ℕ

-- no lines
abbrev pub nothing : {X : Type 0} → Level X
nothing = record { docstring = None; clauses = []; reach = 0; statements = []; last = 0 }

-- all that they make
abbrev pub all_of : {X : Type 0} → Level X → List X
all_of level = level.clauses ++ level.statements

-- the first is the docstring, where there is one
abbrev pub documented : {X : Type 0} → Option X → List X → List X
documented None made = made
documented (Some docstring) [] = docstring ∷ []
documented (Some docstring) (first ∷ made) = docstring ∷ made

-- the one or the other
abbrev pub either : {X : Type 0} → Option X → Option X → Option X
either None other = other
either (Some x) other = Some x

-- the statements of a header: those behind its `:`, or those of its block
abbrev pub suite : {X : Type 0} → Row X → Level X → List X
suite row block =
    if is_definition row.head then documented (either row.docstring block.docstring) (row.body ++ all_of block) else row.body ++ all_of block

-- the parts of a header, then its statements
abbrev pub parts : {X : Type 0} → Row X → Level X → List X
parts row block = row.nodes ++ suite row block

-- the line where a line with its block ends
abbrev pub end_of : {X : Type 0} → Row X → Level X → ℕ
end_of row block = max row.end_line block.last

-- a header's node
abbrev pub headed : Row Tree → ℕ → List Tree → Tree
headed row end_line kids = record { node = record { kind = kind_of row.head; pos = row.pos; end_line = end_line; name = row.name }; kids = pack kids }

-- simple statements stand before the others; a decorator makes nothing here
abbrev pub with_simple : {X : Type 0} → Row X → Level X → Level X → Level X
with_simple row block behind =
    record { docstring = row.docstring; clauses = behind.clauses; reach = behind.reach; statements = row.body ++ behind.statements; last = max (end_of row block) behind.last }

-- a clause stands before the other clauses
abbrev pub with_clause : Row Tree → Level Tree → Level Tree → Level Tree
with_clause row block behind =
    record {
      docstring = None;
      clauses = headed row (end_of row block) (parts row block) ∷ behind.clauses;
      reach = max (end_of row block) behind.reach;
      statements = behind.statements;
      last = max (end_of row block) behind.last;
    }

-- a statement takes the clauses behind it
abbrev pub with_statement : Row Tree → Level Tree → Level Tree → Level Tree
with_statement row block behind =
    record {
      docstring = None;
      clauses = [];
      reach = 0;
      statements = headed row (max (end_of row block) behind.reach) (parts row block ++ behind.clauses) ∷ behind.statements;
      last = max (end_of row block) behind.last;
    }

-- what a line makes with the lines of its block and those behind
unfoldable pub with_line : Row Tree → Level Tree → Level Tree → Level Tree
with_line row block behind =
    if is_header row.head then (if is_clause row.head then with_clause row block behind else with_statement row block behind) else with_simple row block behind

-- what the lines of a level make
abbrev pub made_by : Lines → Level Tree
made_by none = nothing
made_by (line row block behind) = with_line row (made_by block) (made_by behind)

-- the tree of a file
abbrev pub module_over : Level Tree → Tree
module_over level = record {
  node = record { kind = kinds.Module; pos = record { line = 1; col = 0 }; end_line = max 1 level.last; name = None };
  kids = pack (documented level.docstring (all_of level));
}
