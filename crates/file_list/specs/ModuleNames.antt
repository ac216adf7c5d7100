-- The dotted module name of a file: from the topmost folder of the unbroken chain of packages above it.
use Rattle.std.specs.Prelude.{ℕ, zero, suc, ◌-◌, Bool, false, ◌&&◌, not, List, [], ◌++◌, codes, if◌then◌else◌}
use Rattle.std.specs.Str.{bytes_eq}
use Rattle.file_list.specs.Answers.{Answers, is_file}
use Rattle.file_list.specs.Paths.{folder_of, last_part, joined, stem, init_file, is_init_file}

-- the folder holds `__init__.py`
abbrev pub holds_init : Answers → List ℕ → Bool
holds_init answers folder = is_file (answers.look (joined folder init_file))

-- a folder that the path writes out: neither its start nor the current folder
abbrev pub is_written_out : List ℕ → Bool
is_written_out folder = not (bytes_eq (last_part folder) []) && not (bytes_eq (last_part folder) (codes "."))

abbrev pub is_package_folder : Answers → List ℕ → Bool
is_package_folder answers folder = if is_written_out folder then holds_init answers folder else false

-- the most folders that are looked at upwards
abbrev pub most_packages : ℕ
most_packages = 32

-- the names of the packages of the chain that ends with this folder, at most so many, a dot behind each
abbrev pub packages : Answers → ℕ → List ℕ → List ℕ
packages answers zero folder = []
packages answers (suc most) folder =
    if is_package_folder answers folder
    then packages answers most (folder_of folder) ++ (last_part folder ++ codes ".")
    else []

-- the file that makes its folder a package
abbrev pub is_package_file : Answers → List ℕ → Bool
is_package_file answers path = if is_init_file path then is_package_folder answers (folder_of path) else false

-- a package's own file has its folder's name, and any other file its own, behind the names of the packages above
abbrev pub module_name : Answers → List ℕ → List ℕ
module_name answers path =
    if is_package_file answers path
    then packages answers (most_packages - 1) (folder_of (folder_of path)) ++ last_part (folder_of path)
    else packages answers most_packages (folder_of path) ++ stem (last_part path)
