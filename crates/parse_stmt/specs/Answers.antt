-- What the call answers. Want of memory is free.
use Rattle.std.specs.Prelude.{◌≡◌, ℕ, Result, Ok, Err}
use Rattle.tree_nodes.specs.Trees.{Tree}
use Rattle.parse_stmt.specs.declared.fault.SyntaxCause.{SyntaxCause}
use Rattle.parse_stmt.specs.declared.fault.SyntaxFault.{SyntaxFault}
use Rattle.parse_stmt.specs.declared.fault.SyntaxFault.TheVariants.{At, Memory}

-- what holds of a fault
abbrev pub OnFault : (ℕ → SyntaxCause → Type 0) → SyntaxFault → Type 0
OnFault P (At line cause) = P line cause
OnFault P Memory = Unit {0}

-- the answer is this tree, or memory ran out
abbrev pub GivesOnly : Result Tree SyntaxFault → Tree → Type 0
GivesOnly (Ok given) tree = given ≡ tree
GivesOnly (Err fault) tree = OnFault (λ _ _. ⊥) fault

-- the answer is this fault, or memory ran out
abbrev pub FaultsOnly : Result Tree SyntaxFault → ℕ → SyntaxCause → Type 0
FaultsOnly (Ok given) line cause = ⊥
FaultsOnly (Err fault) line cause = OnFault (λ at other. (at ≡ line) × (other ≡ cause)) fault
