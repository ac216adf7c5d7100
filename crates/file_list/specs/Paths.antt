-- The parts of a path: a text with `/` between them.
use Rattle.std.specs.Prelude.{ℕ, ◌-◌, ◌==◌, Bool, List, [], ◌∷◌, ◌++◌, length, take, codes, nat_eq, if◌then◌else◌}
use Rattle.std.specs.List.{list_all, list_any, ends_with}
use Rattle.std.specs.Str.{bytes_eq}

abbrev pub is_slash : ℕ → Bool
is_slash c = c == 47

-- a path without the slashes at its end
abbrev pub without_slashes : List ℕ → List ℕ
without_slashes [] = []
without_slashes (c ∷ path) = if list_all is_slash (c ∷ path) then [] else c ∷ without_slashes path

-- what stands before the last slash of a path: the folder that it writes out, empty where there is none
abbrev pub folder_of : List ℕ → List ℕ
folder_of [] = []
folder_of (c ∷ path) = if list_any is_slash path then c ∷ folder_of path else []

-- what stands behind the last slash of a path, or all of it
abbrev pub last_part : List ℕ → List ℕ
last_part [] = []
last_part (c ∷ path) = if list_any is_slash (c ∷ path) then last_part path else c ∷ path

-- the path of a name in a folder
abbrev pub joined : List ℕ → List ℕ → List ℕ
joined folder name = folder ++ 47 ∷ name

-- a file that is taken where a folder is walked
abbrev pub is_module_file : List ℕ → Bool
is_module_file path = ends_with nat_eq path (codes ".py")

-- a file's name without its ending
abbrev pub stem : List ℕ → List ℕ
stem name = if ends_with nat_eq name (codes ".py") then take (length name - 3) name else name

-- the name of the file that makes its folder a package
abbrev pub init_file : List ℕ
init_file = codes "__init__.py"

abbrev pub is_init_file : List ℕ → Bool
is_init_file path = bytes_eq (last_part path) init_file
