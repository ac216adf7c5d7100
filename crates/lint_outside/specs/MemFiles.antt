-- What files in memory hold: a finite map from each path to what was put there last. A folder's names are the last parts
-- of the held paths directly below it, in ascending byte order. A folder is held only where it was put itself.
use Rattle.std.specs.Prelude.{ℕ, List, [], ◌∷◌, map, Option, None, Some, if◌then◌else◌, ◌==◌, nat_le, length}
use Rattle.std.specs.List.{filter_map, list_any}
use Rattle.std.specs.Option.{option_and_then}
use Rattle.std.specs.Ordering.{nat_cmp}
use Rattle.std.specs.Cmp.Lexicographic.{slice_cmp}
use Rattle.std.specs.FinMap.{FinMap, entries, keys, from_entries}
use Rattle.lint_outside.specs.declared.mem_files.Placed.{Placed}
use Rattle.lint_outside.specs.declared.mem_files.Placed.TheVariants.{File, Folder}
use Rattle.lint_outside.specs.declared.outside.Kind.{Kind}
use Rattle.lint_outside.specs.declared.outside.Kind.TheVariants as kind
use Rattle.lint_outside.specs.declared.outside.Content.{Content}
use Rattle.lint_outside.specs.declared.outside.Content.TheVariants as content
use Rattle.lint_outside.specs.declared.outside.Listing.{Listing}
use Rattle.lint_outside.specs.declared.outside.Listing.TheVariants as listing
use Rattle.lint_outside.specs.FileTree.{FileTree, Held, HeldFile, HeldFolder}

-- from each path to what was put there last
abbrev pub PlacedMap : Type 0
PlacedMap = FinMap (slice_cmp nat_cmp) Placed

-- a text without a slash, as a name is
abbrev pub if_no_slash : List ℕ → Option (List ℕ)
if_no_slash text = if list_any (λ b. b == 47) text then None else Some text

-- what follows a folder and a slash in a path, where the path begins so
abbrev pub below : List ℕ → List ℕ → Option (List ℕ)
below folder [] = None
below [] (b ∷ path) = if b == 47 then Some path else None
below (a ∷ folder) (b ∷ path) = if a == b then below folder path else None

-- the last part of a path that is directly below a folder
abbrev pub name_in : List ℕ → List ℕ → Option (List ℕ)
name_in folder path = option_and_then if_no_slash (below folder path)

-- the names in a folder, where these paths are held
abbrev pub names_in : List ℕ → List (List ℕ) → List (List ℕ)
names_in folder paths = filter_map (name_in folder) paths

-- what was put at a path as it is held, where these paths are held
abbrev pub as_held : List (List ℕ) → List ℕ → Placed → Held
as_held paths path (File bytes) = HeldFile bytes
as_held paths path Folder = HeldFolder (names_in path paths)

abbrev pub held_entry : List (List ℕ) → List ℕ × Placed → List ℕ × Held
held_entry paths entry = (entry.0, as_held paths entry.0 entry.1)

-- what is held, where this was put
abbrev pub tree_of : PlacedMap → FileTree
tree_of placed = from_entries (map (held_entry (keys placed)) (entries placed))

-- what a look answers where this was put
abbrev pub placed_kind : Option Placed → Kind
placed_kind None = kind.Missing
placed_kind (Some (File bytes)) = kind.File
placed_kind (Some Folder) = kind.Folder

-- what a read answers where this was put
abbrev pub placed_content : ℕ → Option Placed → Content
placed_content most None = content.Whole []
placed_content most (Some (File bytes)) = if nat_le (length bytes) most then content.Whole bytes else content.TooLarge
placed_content most (Some Folder) = content.Whole []

-- what a listing answers at a folder with these names
abbrev pub placed_names : ℕ → List (List ℕ) → Listing
placed_names most names = if nat_le (length names) most then listing.Names names else listing.TooMany
