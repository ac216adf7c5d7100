-- How what was put at a path is kept as a value: a file by its bytes, a folder by nothing.
use Rattle.std.specs.Prelude.{◌≡◌, ℕ, List, Option, None, Some, refl}
use Rattle.std.specs.Coded.{Coded, code_by, coded_option, coded_list, coded_ℕ}
use Rattle.lint_outside.specs.declared.mem_files.Placed.{Placed}
use Rattle.lint_outside.specs.declared.mem_files.Placed.TheVariants.{File, Folder}

abbrev pub bytes_placed : Placed → Option (List ℕ)
bytes_placed (File bytes) = Some bytes
bytes_placed Folder = None

abbrev pub placed_by : Option (List ℕ) → Placed
placed_by (Some bytes) = File bytes
placed_by None = Folder

abbrev pub placed_by-bytes_placed : (placed : Placed) → placed_by (bytes_placed placed) ≡ placed
placed_by-bytes_placed (File bytes) = refl
placed_by-bytes_placed Folder = refl

-- the code by which contracts tell such values apart
abbrev pub placed_code : Coded Placed
placed_code = code_by (Option (List ℕ)) (coded_option (coded_list coded_ℕ)) bytes_placed placed_by placed_by-bytes_placed
