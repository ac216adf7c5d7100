-- A step of the walk through a folder, by what was asked.
use Rattle.std.proofs.Common.{◌≡◌, ℕ, zero, suc, ◌+◌, ◌-◌, ◌<◌, Bool, true, false, cond, List, [], ◌∷◌, ◌++◌, length, take, get_or, fold, Option, None, Some, refl, sym, ap, ◌∙◌, arith}
use Rattle.std.proofs.lemmas.List.Sums.{fold_more}
use Rattle.std.proofs.lemmas.Grind.{common_steps}
use Rattle.std.proofs.Common.{◌≤◌}
use Rattle.lint_outside.specs.declared.outside.Kind.{Kind}
use Rattle.lint_outside.specs.declared.outside.Kind.TheVariants as kind
use Rattle.lint_outside.specs.declared.outside.Listing.{Listing}
use Rattle.lint_outside.specs.declared.outside.Listing.TheVariants as listing
use Rattle.file_list.specs.declared.found.Found.{Found}
use Rattle.file_list.specs.declared.found.Finding.{Finding}
use Rattle.file_list.specs.declared.found.Finding.TheVariants as finding
use Rattle.file_list.specs.Answers.{Answers}
use Rattle.file_list.specs.Paths.{without_slashes, is_module_file}
use Rattle.file_list.specs.Walked.{Step, is_closed, with_unread, with_file, is_walked, listed_in, name_step, at_name, folder_step, argument_step, at_argument, into, through, walked, with_argument, most_levels}

-- the state after one more path of a folder
abbrev pub visit : Answers → List (List ℕ) → Bool → ℕ → List Found → List ℕ → List Found
visit answers ignore recursive deeper found path = into (walked answers ignore recursive deeper path) (at_name answers recursive found path)

pub walked_by : (answers : Answers) (ignore : List (List ℕ)) (recursive : Bool) (levels : ℕ) (folder : List ℕ) (found z : List Found) (names paths : Option Listing) → (levels ≡ 0 → ⊥) → names ≡ answers.names folder → paths ≡ listed_in ignore folder names → z ≡ through (visit answers ignore recursive (levels - 1)) folder found paths → z ≡ walked answers ignore recursive levels folder found
walked_by answers ignore recursive zero folder found z names paths some asked listed made = absurd (some refl)
walked_by answers ignore recursive (suc levels) folder found z names paths some asked listed made =
    let fewer : suc levels - 1 ≡ levels = omega arith in
    made ∙ ap (λ n. through (visit answers ignore recursive n) folder found paths) fewer
    ∙ ap (through (visit answers ignore recursive levels) folder found) (listed ∙ ap (listed_in ignore folder) asked)

pub walked_none : (answers : Answers) (ignore : List (List ℕ)) (recursive : Bool) (levels : ℕ) (folder : List ℕ) (found : List Found) → levels ≡ 0 → with_unread found folder finding.TooDeep ≡ walked answers ignore recursive levels folder found
walked_none answers ignore recursive levels folder found none = sym (ap (λ n. walked answers ignore recursive n folder found) none)

module _ (answers : Answers) (ignore : List (List ℕ)) (recursive : Bool) (deeper : ℕ) (start : List Found) (paths : List (List ℕ)) (i : ℕ) (path : List ℕ) (low : i < length paths) (at : path ≡ get_or paths i path) where
  abbrev so_far : List Found
  so_far = fold (visit answers ignore recursive deeper) start (take i paths)

  more : visit answers ignore recursive deeper so_far path ≡ fold (visit answers ignore recursive deeper) start (take (i + 1) paths)
  more = ap (visit answers ignore recursive deeper so_far) at ∙ sym (fold_more (visit answers ignore recursive deeper) start paths i path low)

  -- a folder that was walked
  pub step_on : (mid now : List Found) (goes_on : Bool) → (mid, goes_on) ≡ at_name answers recursive so_far path → goes_on ≡ true → now ≡ walked answers ignore recursive deeper path mid → now ≡ fold (visit answers ignore recursive deeper) start (take (i + 1) paths)
  step_on mid now goes_on seen held_true made =
      made ∙ ap (λ b. cond b (walked answers ignore recursive deeper path mid) mid) (sym held_true) ∙ ap (into (walked answers ignore recursive deeper path)) seen ∙ more

  -- any other path
  pub step_past : (mid : List Found) (goes_on : Bool) → (mid, goes_on) ≡ at_name answers recursive so_far path → goes_on ≡ false → mid ≡ fold (visit answers ignore recursive deeper) start (take (i + 1) paths)
  step_past mid goes_on seen held_false =
      ap (λ b. cond b (walked answers ignore recursive deeper path mid) mid) (sym held_false) ∙ ap (into (walked answers ignore recursive deeper path)) seen ∙ more

-- at a closed path nothing is taken
pub name_closed : (answers : Answers) (recursive : Bool) (found : List Found) (path : List ℕ) (closed : Bool) → closed ≡ is_closed found path → closed ≡ true → (found, false) ≡ at_name answers recursive found path
name_closed answers recursive found path closed is held_true = sym (ap (λ b. cond b (found, false) (name_step answers recursive found path (answers.look path))) (sym is ∙ held_true))

pub name_open : (answers : Answers) (recursive : Bool) (found : List Found) (path : List ℕ) (closed : Bool) (looked : Option Kind) (z : Step) → closed ≡ is_closed found path → closed ≡ false → looked ≡ answers.look path → z ≡ name_step answers recursive found path looked → z ≡ at_name answers recursive found path
name_open answers recursive found path closed looked z is held_false look made =
    made ∙ ap (name_step answers recursive found path) look ∙ sym (ap (λ b. cond b (found, false) (name_step answers recursive found path (answers.look path))) (sym is ∙ held_false))

pub argument_closed : (answers : Answers) (recursive : Bool) (found : List Found) (path : List ℕ) (closed : Bool) → closed ≡ is_closed found path → closed ≡ true → (found, false) ≡ at_argument answers recursive found path
argument_closed answers recursive found path closed is held_true = sym (ap (λ b. cond b (found, false) (argument_step answers recursive found path (answers.look path))) (sym is ∙ held_true))

pub argument_open : (answers : Answers) (recursive : Bool) (found : List Found) (path : List ℕ) (closed : Bool) (looked : Option Kind) (z : Step) → closed ≡ is_closed found path → closed ≡ false → looked ≡ answers.look path → z ≡ argument_step answers recursive found path looked → z ≡ at_argument answers recursive found path
argument_open answers recursive found path closed looked z is held_false look made =
    made ∙ ap (argument_step answers recursive found path) look ∙ sym (ap (λ b. cond b (found, false) (argument_step answers recursive found path (answers.look path))) (sym is ∙ held_false))

-- an argument, and what is below it
pub argument_on : (answers : Answers) (ignore : List (List ℕ)) (recursive : Bool) (found mid now : List Found) (argument path : List ℕ) (goes_on : Bool) → path ≡ without_slashes argument → (mid, goes_on) ≡ at_argument answers recursive found path → goes_on ≡ true → now ≡ walked answers ignore recursive most_levels path mid → now ≡ with_argument answers ignore recursive found argument
argument_on answers ignore recursive found mid now argument path goes_on at seen held_true made =
    made ∙ ap (λ b. cond b (walked answers ignore recursive most_levels path mid) mid) (sym held_true)
    ∙ ap (into (walked answers ignore recursive most_levels path)) seen
    ∙ ap (λ p. into (walked answers ignore recursive most_levels p) (at_argument answers recursive found p)) at

pub argument_past : (answers : Answers) (ignore : List (List ℕ)) (recursive : Bool) (found mid : List Found) (argument path : List ℕ) (goes_on : Bool) → path ≡ without_slashes argument → (mid, goes_on) ≡ at_argument answers recursive found path → goes_on ≡ false → mid ≡ with_argument answers ignore recursive found argument
argument_past answers ignore recursive found mid argument path goes_on at seen held_false =
    ap (λ b. cond b (walked answers ignore recursive most_levels path mid) mid) (sym held_false)
    ∙ ap (into (walked answers ignore recursive most_levels path)) seen
    ∙ ap (λ p. into (walked answers ignore recursive most_levels p) (at_argument answers recursive found p)) at

-- a file in a walked folder that is taken
pub file_taken : (answers : Answers) (recursive : Bool) (found now : List Found) (path : List ℕ) → true ≡ is_module_file path → now ≡ with_file answers found path → (now, false) ≡ name_step answers recursive found path (Some kind.File)
file_taken answers recursive found now path is made =
    let pair : List Found → Step = λ f. (f, false) in
    ap pair (made ∙ ap (λ b. cond b (with_file answers found path) found) is)

-- a file that is an argument
pub file_argued : (answers : Answers) (recursive : Bool) (found now : List Found) (path : List ℕ) → now ≡ with_file answers found path → (now, false) ≡ argument_step answers recursive found path (Some kind.File)
file_argued answers recursive found now path made = let pair : List Found → Step = λ f. (f, false) in ap pair made

-- all paths of a folder were taken
pub walked_through : (answers : Answers) (ignore : List (List ℕ)) (recursive : Bool) (levels : ℕ) (folder : List ℕ) (found z : List Found) (names : Option Listing) (paths items : List (List ℕ)) (i : ℕ) → (levels ≡ 0 → ⊥) → names ≡ answers.names folder → Some (listing.Names paths) ≡ listed_in ignore folder names → items ≡ paths → length items ≤ i → z ≡ fold (visit answers ignore recursive (levels - 1)) found (take i items) → z ≡ walked answers ignore recursive levels folder found
walked_through answers ignore recursive levels folder found z names paths items i some asked listed same all made =
    let whole : take i items ≡ items = grind (arith, common_steps) in
    walked_by answers ignore recursive levels folder found z names (Some (listing.Names paths)) some asked listed
    (made ∙ ap (fold (visit answers ignore recursive (levels - 1)) found) (whole ∙ same))
