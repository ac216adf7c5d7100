-- What holds of a line where no fault stands.
use Rattle.std.proofs.Common.{◌≡◌, ℕ, List, ◌∷◌, Bool, true, false, not, ◌&&◌, ◌||◌, if◌then◌else◌, length, Option, Some, None, refl}
use Rattle.std.specs.List.{list_all}
use Rattle.std.proofs.lemmas.Bool.Decides.{nat_tests}
use Rattle.py_grammar.specs.declared.head.Head.{Head}
use Rattle.py_blocks.specs.declared.line.Line.{Line}
use Rattle.py_blocks.specs.declared.standing.Around.{Around}
use Rattle.py_blocks.specs.declared.fault.BlockCause.{BlockCause}
use Rattle.py_blocks.specs.declared.fault.BlockCause.TheVariants as causes
use Rattle.py_blocks.specs.declared.fault.BlockFault.{BlockFault}
use Rattle.py_blocks.specs.Heads.{is_decorator, is_decorated, is_try, is_case, is_handling, is_match, is_opened_try, has_opener}
use Rattle.py_blocks.specs.Rules.{around, is_unexpected, misses_block, is_no_case, ends_open, lacks_opener, is_stray_case, is_behind_decorator, leaves_decorator, leaves_lone_try, ends_try, ends_decorators, breaks, cause_at, or_later, fault_behind}

-- ---- answers of tests

pub neither : (a b : Bool) → (a || b) ≡ false → (a ≡ false) × (b ≡ false)
neither true b e = absurd cc
neither false b e = (refl, e)

pub then_holds : (a b : Bool) → (a && not b) ≡ false → a ≡ true → b ≡ true
then_holds a true e f = refl
then_holds true false e f = absurd cc
then_holds false false e f = absurd cc

pub then_fails : (a b : Bool) → (a && b) ≡ false → a ≡ true → b ≡ false
then_fails true b e f = e
then_fails false b e f = absurd cc

pub same_answers : (a b : Bool) → (a && not b) ≡ false → (b && not a) ≡ false → a ≡ b
same_answers true true e f = refl
same_answers false false e f = refl
same_answers true false e f = absurd cc
same_answers false true e f = absurd cc

-- ---- no cause

no_cause : (u n f : Bool) → (if u then Some causes.Unexpected else (if n then Some causes.NeedsBlock else (if f then Some causes.Follows else None))) ≡ None → (u ≡ false) × (n ≡ false) × (f ≡ false)
no_cause true n f e = absurd cc
no_cause false true f e = absurd cc
no_cause false false true e = absurd cc
no_cause false false false e = (refl, refl, refl)

none_later : (cause : Option BlockCause) (place : ℕ) (later : Option BlockFault) → or_later cause place later ≡ None → (cause ≡ None) × (later ≡ None)
none_later None place later e = (refl, e)
none_later (Some cause) place later e = absurd cc

-- no rule is broken
pub record IsFree (before : List Line) (line : Line) (later : List Line) : Type 0 where
  pub expected : is_unexpected (around line.level before) line ≡ false
  pub in_block : misses_block (around line.level before) line ≡ false
  pub no_case : is_no_case (around line.level before) line ≡ false
  pub end_open : ends_open line later ≡ false
  pub opener : lacks_opener (around line.level before) line ≡ false
  pub stray_case : is_stray_case (around line.level before) line ≡ false
  pub decorated : leaves_decorator (around line.level before) line ≡ false
  pub handled : leaves_lone_try (around line.level before) line ≡ false
  pub end_try : ends_try line later ≡ false
  pub end_decorators : ends_decorators (around line.level before) line later ≡ false

free_of : (before : List Line) (line : Line) (later : List Line) → cause_at true (around line.level before) line later ≡ None → IsFree before line later
free_of before line later e =
    let a = around line.level before in
    let causes_are = no_cause (breaks true causes.Unexpected a line later) (breaks true causes.NeedsBlock a line later) (breaks true causes.Follows a line later) e in
    let block_one = neither (misses_block a line || is_no_case a line) (ends_open line later) causes_are.1 in
    let block_two = neither (misses_block a line) (is_no_case a line) block_one.0 in
    let four = neither (lacks_opener a line || is_stray_case a line || leaves_decorator a line || leaves_lone_try a line) (ends_try line later || ends_decorators a line later) causes_are.2 in
    let three = neither (lacks_opener a line || is_stray_case a line || leaves_decorator a line) (leaves_lone_try a line) four.0 in
    let two = neither (lacks_opener a line || is_stray_case a line) (leaves_decorator a line) three.0 in
    let one = neither (lacks_opener a line) (is_stray_case a line) two.0 in
    let end = neither (ends_try line later) (ends_decorators a line later) four.1 in
    record {
      expected = causes_are.0;
      in_block = block_two.0;
      no_case = block_two.1;
      end_open = block_one.1;
      opener = one.0;
      stray_case = one.1;
      decorated = two.1;
      handled = three.1;
      end_try = end.0;
      end_decorators = end.1;
    }

-- the first of some lines without fault, and those behind it
pub free : (before : List Line) (line : Line) (later : List Line) → fault_behind true before (line ∷ later) ≡ None → IsFree before line later × (fault_behind true (line ∷ before) later ≡ None)
free before line later e =
    let parts = none_later (cause_at true (around line.level before) line later) (length before) (fault_behind true (line ∷ before) later) e in
    (free_of before line later parts.0, parts.1)
