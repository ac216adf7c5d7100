-- Which entries the arguments give, in order: a function of what looks and listings answer. A file is still to be read.
use Rattle.std.specs.Prelude.{ℕ, zero, suc, Bool, true, false, ◌||◌, not, List, [], ◌∷◌, ◌++◌, length, map, filter, fold, Option, None, Some, nat_lt, if◌then◌else◌}
use Rattle.std.specs.List.{list_any}
use Rattle.std.specs.Str.{bytes_eq}
use Rattle.lint_outside.specs.declared.outside.Kind.{Kind}
use Rattle.lint_outside.specs.declared.outside.Kind.TheVariants as kind
use Rattle.lint_outside.specs.declared.outside.Listing.{Listing}
use Rattle.lint_outside.specs.declared.outside.Listing.TheVariants as listing
use Rattle.lint_messages.specs.Order.{text_cmp}
use Rattle.lint_messages.specs.Sorting.{sorted_by}
use Rattle.file_list.specs.declared.found.Finding.{Finding}
use Rattle.file_list.specs.declared.found.Finding.TheVariants as finding
use Rattle.file_list.specs.declared.found.Found.{Found}
use Rattle.file_list.specs.Answers.{Answers, most_entries}
use Rattle.file_list.specs.Paths.{joined, without_slashes, is_module_file, is_init_file}
use Rattle.file_list.specs.ModuleNames.{holds_init, module_name}

abbrev pub is_too_many : Finding → Bool
is_too_many finding.File = false
is_too_many finding.Missing = false
is_too_many finding.NoPackage = false
is_too_many finding.Failed = false
is_too_many finding.TooMany = true
is_too_many finding.TooDeep = false

-- gathering has ended
abbrev pub has_ended : List Found → Bool
has_ended found = list_any (λ f. is_too_many f.finding) found

-- a path that was taken before
abbrev pub is_taken : List Found → List ℕ → Bool
is_taken found path = list_any (λ f. bytes_eq path f.path) found

-- nothing more is taken at this path
abbrev pub is_closed : List Found → List ℕ → Bool
is_closed found path = has_ended found || is_taken found path

-- behind 20,000 entries any further one is TooMany
abbrev pub next_finding : ℕ → Finding → Finding
next_finding count next = if nat_lt count most_entries then next else finding.TooMany

-- one more entry
abbrev pub with_found : List Found → List ℕ → List ℕ → Bool → Finding → List Found
with_found found path module_name is_package next =
    found ++ record { path = path; module_name = module_name; is_package = is_package; finding = next_finding (length found) next } ∷ []

-- where no file was found the module name is the path
abbrev pub with_unread : List Found → List ℕ → Finding → List Found
with_unread found path next = with_found found path path false next

-- a file that is to be read
abbrev pub with_file : Answers → List Found → List ℕ → List Found
with_file answers found path = with_found found path (module_name answers path) (is_init_file path) finding.File

-- a folder is walked where it holds `__init__.py`, or where all are
abbrev pub is_walked : Answers → Bool → List ℕ → Bool
is_walked answers recursive folder = if recursive then true else holds_init answers folder

-- the paths of these names in a folder: in ascending byte order, without the ignored ones
abbrev pub paths_in : List (List ℕ) → List ℕ → List (List ℕ) → List (List ℕ)
paths_in ignore folder names =
    map (joined folder) (filter (λ name. not (list_any (bytes_eq name) ignore)) (sorted_by text_cmp names))

abbrev pub listed_in : List (List ℕ) → List ℕ → Option Listing → Option Listing
listed_in ignore folder None = None
listed_in ignore folder (Some listing.TooMany) = Some listing.TooMany
listed_in ignore folder (Some (listing.Names names)) = Some (listing.Names (paths_in ignore folder names))

-- what is found at a path, and whether it is a folder that is to be walked
abbrev pub Step : Type 0
Step = List Found × Bool

-- at a name in a walked folder, by what a look answers: a file is taken where it ends in `.py`
abbrev pub name_step : Answers → Bool → List Found → List ℕ → Option Kind → Step
name_step answers recursive found path None = (with_unread found path finding.Failed, false)
name_step answers recursive found path (Some kind.Missing) = (found, false)
name_step answers recursive found path (Some kind.File) = (if is_module_file path then with_file answers found path else found, false)
name_step answers recursive found path (Some kind.Folder) = (found, is_walked answers recursive path)

abbrev pub at_name : Answers → Bool → List Found → List ℕ → Step
at_name answers recursive found path = if is_closed found path then (found, false) else name_step answers recursive found path (answers.look path)

-- at an argument that is a folder
abbrev pub folder_step : Bool → List Found → List ℕ → Step
folder_step true found path = (found, true)
folder_step false found path = (with_unread found path finding.NoPackage, false)

-- at an argument, by what a look answers: a file is taken whatever its ending
abbrev pub argument_step : Answers → Bool → List Found → List ℕ → Option Kind → Step
argument_step answers recursive found path None = (with_unread found path finding.Failed, false)
argument_step answers recursive found path (Some kind.Missing) = (with_unread found path finding.Missing, false)
argument_step answers recursive found path (Some kind.File) = (with_file answers found path, false)
argument_step answers recursive found path (Some kind.Folder) = folder_step (is_walked answers recursive path) found path

abbrev pub at_argument : Answers → Bool → List Found → List ℕ → Step
at_argument answers recursive found path = if is_closed found path then (found, false) else argument_step answers recursive found path (answers.look path)

-- goes on into a folder that is to be walked
abbrev pub into : (List Found → List Found) → Step → List Found
into walk step = if step.1 then walk step.0 else step.0

-- the paths of a listing one behind the other, or the one entry of a folder that is not listed
abbrev pub through : (List Found → List ℕ → List Found) → List ℕ → List Found → Option Listing → List Found
through visit folder found None = with_unread found folder finding.Failed
through visit folder found (Some listing.TooMany) = with_unread found folder finding.TooMany
through visit folder found (Some (listing.Names paths)) = fold visit found paths

-- a folder walked, where folders are walked down to so many below each other
abbrev pub walked : Answers → List (List ℕ) → Bool → ℕ → List ℕ → List Found → List Found
walked answers ignore recursive zero folder found = with_unread found folder finding.TooDeep
walked answers ignore recursive (suc deeper) folder found =
    through (λ found path. into (walked answers ignore recursive deeper path) (at_name answers recursive found path))
    folder found (listed_in ignore folder (answers.names folder))

-- an argument's folder, and 32 below it
abbrev pub most_levels : ℕ
most_levels = 33

-- one argument
abbrev pub with_argument : Answers → List (List ℕ) → Bool → List Found → List ℕ → List Found
with_argument answers ignore recursive found argument =
    let path = without_slashes argument in
    into (walked answers ignore recursive most_levels path) (at_argument answers recursive found path)

-- all arguments, in order
abbrev pub found_of : Answers → List (List ℕ) → Bool → List (List ℕ) → List Found
found_of answers ignore recursive arguments = fold (with_argument answers ignore recursive) [] arguments
