-- How far the search for a fault has come. It only serves the proofs.
use Rattle.std.specs.Prelude.{◌≡◌, ℕ, ◌+◌, Bool, List, [], length, Option}
use Rattle.py_blocks.specs.declared.line.Line.{Line}
use Rattle.py_blocks.specs.declared.standing.Standing.{Standing}
use Rattle.py_blocks.specs.Rules.{fault_behind, nearest}
use Rattle.py_blocks.specs.Standing.{standing_of}

-- the lines up to a place have no fault, and these are left
pub record IsLooking (is_whole : Bool) (lines : List Line) (place : ℕ) (previous : Option Line) (standing : List Standing) (rest : List Line) : Type 0 where
  pub before : List Line
  pub place_is : place ≡ length before
  pub previous_is : previous ≡ nearest before
  pub standing_is : standing ≡ standing_of before
  pub rest_is : fault_behind is_whole before rest ≡ fault_behind is_whole [] lines
  pub long : place + length rest ≡ length lines
