-- What a row asks of a program: what a definition says of each node of its tree, without the nodes of which it says nothing.
use Rattle.std.specs.Prelude.{ℕ, List, map, filter, Option, Some, None}
use Rattle.std.specs.List.{filter_map}
use Rattle.tree_nodes.specs.declared.kind.Kind.{Kind}
use Rattle.tree_nodes.specs.Trees.{Node, Tree}
use Rattle.scope_rules.specs.declared.scope.Where.{Where}
use Rattle.scope_rules.specs.declared.scope.Where.TheVariants.{Nowhere}
use Rattle.scope_rules.specs.Nodes.{Name, nodes_of}
use Rattle.scope_rules.specs.Marks.{Mark}
use Rattle.scope_rules.specs.Mangling.{spelled}
use Rattle.scope_rules.specs.Declaring.{binder_mark, is_local}
use Rattle.scope_rules.specs.Reading.{answer_of}
use Rattle.scope_rules.specs.Places.{outer}
use Rattle.scope_rules.specs.Answers.{store_mark, delete_mark, opened_by}

-- ---- programs

-- a node without a name
abbrev pub plain : Kind → Node
plain kind = record { kind = kind; pos = record { line = 0; col = 0 }; end_line = 0; name = None }

-- a node with a name
abbrev pub named : Kind → Name → Node
named kind name = record { kind = kind; pos = record { line = 0; col = 0 }; end_line = 0; name = Some name }

-- ---- answers

-- a node and its name as it is read
pub record Spelling : Type 0 where
  pub node : ℕ
  pub name : Name

abbrev pub read : ℕ → Name → Spelling
read n x = record { node = n; name = x }

-- a node that binds, stores or deletes a name, and the scope of that name
pub record Binding : Type 0 where
  pub node : ℕ
  pub scope : ℕ
  pub name : Name

abbrev pub mark : ℕ → ℕ → Name → Binding
mark n s x = record { node = n; scope = s; name = x }

-- a node that reads a name, and where the read leads
pub record Leading : Type 0 where
  pub node : ℕ
  pub answer : Where

abbrev pub leads : ℕ → Where → Leading
leads n w = record { node = n; answer = w }

-- a scope and the scope around it
pub record Opening : Type 0 where
  pub scope : ℕ
  pub around : Option ℕ

abbrev pub inside : ℕ → Option ℕ → Opening
inside s o = record { scope = s; around = o }

-- ---- questions

abbrev pub read_as : ℕ → Option Name → Option Spelling
read_as n None = None
read_as n (Some x) = Some (read n x)

-- the nodes that have a name
abbrev pub spellings : Tree → List Spelling
spellings t = filter_map (λ n. read_as n (spelled t n)) (nodes_of t)

abbrev pub marked_by : ℕ → Option Mark → Option Binding
marked_by n None = None
marked_by n (Some m) = Some (mark n m.scope m.name)

-- the nodes that bind a name
abbrev pub binders : Tree → List Binding
binders t = filter_map (λ n. marked_by n (binder_mark t n)) (nodes_of t)

-- the nodes that store an attribute
abbrev pub stores : Tree → List Binding
stores t = filter_map (λ n. marked_by n (store_mark t n)) (nodes_of t)

-- the nodes that delete one
abbrev pub deletes : Tree → List Binding
deletes t = filter_map (λ n. marked_by n (delete_mark t n)) (nodes_of t)

abbrev pub led_to : ℕ → Where → Option Leading
led_to n Nowhere = None
led_to n w = Some (leads n w)

-- the nodes that read a name which is found
abbrev pub reads : Tree → List Leading
reads t = filter_map (λ n. led_to n (answer_of t n)) (nodes_of t)

-- the scopes
abbrev pub openers : Tree → List ℕ
openers t = filter_map (opened_by t) (nodes_of t)

-- the scopes, each with the one around it
abbrev pub scopes : Tree → List Opening
scopes t = map (λ s. inside s (outer t s)) (openers t)

-- which of these names are local, scope by scope
abbrev pub locals : Tree → List Name → List (List Name)
locals t xs = map (λ s. filter (is_local t s) xs) (openers t)
