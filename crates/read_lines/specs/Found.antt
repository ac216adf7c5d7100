-- What the terminals of a line were found to spell.
use Rattle.std.specs.Prelude.{◌≡◌, List, ◌++◌, length}
use Rattle.tree_nodes.specs.Trees.{Tree}
use Rattle.py_grammar.specs.declared.head.Head.{Head}
use Rattle.py_grammar.specs.Lines.{IsLine, LineForm}
use Rattle.py_grammar.specs.Terminals.{Terminal}
use Rattle.py_forest.specs.declared.fault.Fault.{Fault}
use Rattle.py_forest.specs.declared.fault.Fault.TheVariants as faults
use Rattle.parse_line.specs.declared.found.Found.{Found}

-- a form of its parts
abbrev pub form_with : Head → List Tree → List Tree → LineForm
form_with head nodes body = record { head = head; nodes = nodes; body = body }

-- they spell a form of these trees, of which so many are parts of its header
pub record FitsIn (ts : List Terminal) (all : List Tree) (found : Found) : Type 0 where
  pub nodes : List Tree
  pub body : List Tree
  pub spelled : IsLine ts (form_with found.head nodes body)
  pub trees : all ≡ nodes ++ body
  pub count : found.nodes ≡ length nodes

-- they spell no form
abbrev pub SpellsNothing : List Terminal → Type 0
SpellsNothing ts = (form : LineForm) → IsLine ts form → ⊥

-- what holds where no form was found
abbrev pub OnNone : Type 0 → Fault → Type 0
OnNone P faults.NoForm = P
OnNone P faults.Memory = Unit {0}
