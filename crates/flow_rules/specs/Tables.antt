-- What the passes over a tree keep of each node, by its number. These definitions serve the proofs.
use Rattle.std.specs.Prelude.{◌≡◌, ℕ, ◌+◌, ◌<◌, List, ◌∷◌, ◌++◌, length, map, Option, Some, None, set, slice_index_or, sum_by}
use Rattle.std.specs.BTreeMap.{BTreeMap, get}
use Rattle.std.specs.Cmp.Lexicographic.{slice_cmp}
use Rattle.std.specs.Ordering.{nat_cmp}
use Rattle.lint_values.specs.declared.place.FileId.{FileId}
use Rattle.lint_messages.specs.declared.message.Message.{Message}
use Rattle.tree_nodes.specs.Trees.{Tree, count_of}
use Rattle.scope_rules.specs.Nodes.{Name, below}
use Rattle.flow_rules.specs.declared.definition.Definition.{Definition}
use Rattle.flow_rules.specs.declared.size.Size.{Size}
use Rattle.flow_rules.specs.declared.size.Size.TheVariants as sizes
use Rattle.flow_rules.specs.declared.tables.Tables.{Tables}
use Rattle.rule_nodes.specs.Outwards.{owner_of}
use Rattle.flow_rules.specs.Outwards.{in_loop}
use Rattle.flow_rules.specs.Redefined.{last_of, line_of, redefined_at}
use Rattle.flow_rules.specs.Sizes.{part_in, total}

-- what f says of each node below n
pub record IsListUpTo {X : Type 0} (f : ℕ → X) (n : ℕ) (xs : List X) : Type 0 where
  pub is : xs ≡ map f (below n)

-- what f says of each node
abbrev pub IsListOf : {X : Type 0} → (ℕ → X) → Tree → List X → Type 0
IsListOf f t xs = IsListUpTo f (count_of t) xs

-- what the nodes below n add to a size of the function d
abbrev pub total_up_to : Size → Tree → ℕ → ℕ → ℕ
total_up_to size t n d = sum_by (part_in size t d) (below n)

-- the sizes so far, by the number of the function
pub record AreTotalled (size : Size) (t : Tree) (n : ℕ) (totals : List ℕ) : Type 0 where
  pub all : length totals ≡ count_of t
  pub totalled : (d : ℕ) → d < count_of t → slice_index_or totals d 0 ≡ total_up_to size t n d

-- a part more for a node that is there
abbrev pub with_part : List ℕ → Option ℕ → ℕ → List ℕ
with_part totals None part = totals
with_part totals (Some d) part = set totals d (slice_index_or totals d 0 + part)

-- the sizes of each function
pub record AreTotals (size : Size) (t : Tree) (totals : List ℕ) : Type 0 where
  pub all : length totals ≡ count_of t
  pub totalled : (d : ℕ) → d < count_of t → slice_index_or totals d 0 ≡ total size t d

-- these are the tables of the tree
pub record AreTablesOf (t : Tree) (tables : Tables) : Type 0 where
  pub owners : IsListOf (owner_of t) t tables.owners.items
  pub loops : IsListOf (in_loop t) t tables.loops.items
  pub returns : AreTotals sizes.Returns t tables.returns.items
  pub branches : AreTotals sizes.Branches t tables.branches.items
  pub statements : AreTotals sizes.Statements t tables.statements.items

-- the line that is kept of a name
abbrev pub line_in : BTreeMap Name ℕ → Name → Option ℕ
line_in lines name = get (slice_cmp nat_cmp) lines name

-- of each name the line of the last of some statements that defines it
pub record HasLines (sort : Definition) (t : Tree) (before : List ℕ) (lines : BTreeMap Name ℕ) : Type 0 where
  pub has : (name : Name) → line_in lines name ≡ line_of t (last_of sort t name before)

-- the step over a statement: its line is kept, and its message was added
pub record IsOver (sort : Definition) (file : FileId) (t : Tree) (before : List ℕ) (n : ℕ) (lines : BTreeMap Name ℕ) (old new : List Message) : Type 0 where
  pub kept : HasLines sort t (n ∷ before) lines
  pub told : new ≡ old ++ redefined_at sort file t before n
