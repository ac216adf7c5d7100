-- How what was found is kept beside the set of its paths.
use Rattle.std.specs.Prelude.{◌≡◌, ℕ, List}
use Rattle.std.specs.BTreeSet as set
use Rattle.std.specs.BTreeSet.{BTreeSet}
use Rattle.lint_messages.specs.Order.{text_cmp}
use Rattle.file_list.specs.declared.found.Found.{Found}
use Rattle.file_list.specs.declared.findings.Findings.TheInside.{Inside}
use Rattle.file_list.specs.Walked.{has_ended, is_taken}

-- the set has exactly the paths that were taken
abbrev pub HasPaths : List Found → BTreeSet (List ℕ) → Type 0
HasPaths found taken = (path : List ℕ) → set.contains text_cmp taken path ≡ is_taken found path

-- The paths and the end are those of the list.
pub record IsKept (inside : Inside) : Type 0 where
  pub paths : HasPaths inside.found.items inside.taken
  pub ended : inside.ended ≡ has_ended inside.found.items
