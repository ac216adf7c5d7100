-- The tables of what is local, and of what is declared.
use Rattle.std.specs.Prelude.{◌≡◌, ℕ}
use Rattle.tree_nodes.specs.Trees.{Tree}
use Rattle.scope_rules.specs.Nodes.{Name}
use Rattle.scope_rules.specs.Reading.{end_of, is_near}
use Rattle.scope_bind.specs.declared.reading.End.{End}
use Rattle.scope_rules.specs.Declaring.{local_mark, global_mark, nonlocal_mark}
use Rattle.scope_bind.specs.declared.declared.Declared.{Declared}
use Rattle.scope_bind.specs.Rows.{IsTableOf}

-- each table has its marks
pub record AreDeclared (t : Tree) (d : Declared) : Type 0 where
  pub locals : IsTableOf (local_mark t) t d.locals
  pub globals : IsTableOf (global_mark t) t d.globals
  pub nonlocals : IsTableOf (nonlocal_mark t) t d.nonlocals

-- where a read of the name from its own scope ends, and whether it left comprehensions alone
pub record Ends (t : Tree) (own : ℕ) (x : Name) (e : End) : Type 0 where
  pub scope : e.scope ≡ end_of t own x
  pub near : e.is_near ≡ is_near t own (end_of t own x)
