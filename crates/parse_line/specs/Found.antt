-- What a line was found to be.
use Rattle.std.specs.Prelude.{◌≡◌, List, ◌++◌, length, Option, Some, None, Result, Ok, Err}
use Rattle.tree_nodes.specs.Trees.{Tree}
use Rattle.py_grammar.specs.Lines.{LineForm}
use Rattle.py_forest.specs.declared.fault.Fault.{Fault}
use Rattle.py_forest.specs.declared.fault.Fault.TheVariants as faults
use Rattle.parse_line.specs.declared.found.Found.{Found}

-- the trees grow by the parts of the header and then by the statements
pub record IsFound (old new : List Tree) (found : Found) (form : Option LineForm) : Type 0 where
  pub nodes : List Tree
  pub body : List Tree
  pub form_is : form ≡ Some (record { head = found.head; nodes = nodes; body = body })
  pub trees : new ≡ old ++ (nodes ++ body)
  pub count : found.nodes ≡ length nodes

-- a line was found, or there is none, unless memory ran out
abbrev pub Finds : List Tree → List Tree → Result Found Fault → Option LineForm → Type 0
Finds old new (Ok found) form = IsFound old new found form
Finds old new (Err faults.NoForm) form = form ≡ None
Finds old new (Err faults.Memory) form = Unit {0}
