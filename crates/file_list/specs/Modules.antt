-- The file of a module name.
use Rattle.std.specs.Prelude.{◌≡◌, ℕ, List, ◌==◌, Bool, count_by, position, if◌then◌else◌, Option, None, Some}
use Rattle.std.specs.List.{list_any}
use Rattle.std.specs.Option.{option_map}
use Rattle.std.specs.Str.{bytes_eq}
use Rattle.lint_values.specs.declared.place.FileId.{FileId}
use Rattle.file_list.specs.declared.entry.Listed.{Listed}

abbrev pub is_module : List ℕ → Listed → Bool
is_module dotted listed = bytes_eq dotted listed.module_name

abbrev pub file_at : ℕ → FileId
file_at place = record { 0 = place }

-- the one file with this module name, where there is exactly one
abbrev pub file_of_module : List ℕ → List Listed → Option FileId
file_of_module dotted reading =
    if count_by (is_module dotted) reading == 1 then option_map file_at (position (is_module dotted) reading) else None

-- what the table of names has for a name: nothing where no entry bears it
abbrev pub indexed : List ℕ → List Listed → Option (Option FileId)
indexed dotted reading = if list_any (is_module dotted) reading then Some (file_of_module dotted reading) else None

-- The table has each name of the entries, and no other.
abbrev pub HasIndex : (List ℕ → Option (Option FileId)) → List Listed → Type 0
HasIndex index reading = (dotted : List ℕ) → index dotted ≡ indexed dotted reading
