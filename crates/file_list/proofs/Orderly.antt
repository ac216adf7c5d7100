-- What the walk takes: each path once, and at most 20,001 entries; a file where a look answered one, and a failure where
-- a look or a listing failed.
use Rattle.std.proofs.Common.{◌≡◌, ℕ, zero, suc, ◌+◌, ◌≤◌, ◌<◌, Bool, true, false, cond, List, [], ◌∷◌, ◌++◌, length, map, fold, Option, None, Some, ◌⊎◌, inl, inr, refl, sym, ap, subst, ◌∙◌, arith, length-append}
use Rattle.std.specs.Prelude.{◌||◌, nat_lt}
use Rattle.std.specs.List.{list_any, IsDistinct, AllByRecursion}
use Rattle.std.specs.Str.{bytes_eq}
use Rattle.std.proofs.lemmas.Bool.Decides.{nat_tests}
use Rattle.std.proofs.lemmas.List.{map-append}
use Rattle.std.proofs.lemmas.List.Folds.{list_any-append}
use Rattle.std.proofs.lemmas.Map.Keys.{IsDistinct-push}
use Rattle.std.specs.Cmp.Lexicographic.{nat_list_eq_equiv}
use Rattle.lint_outside.specs.declared.outside.Kind.{Kind}
use Rattle.lint_outside.specs.declared.outside.Kind.TheVariants as kind
use Rattle.lint_outside.specs.declared.outside.Listing.{Listing}
use Rattle.lint_outside.specs.declared.outside.Listing.TheVariants as listing
use Rattle.file_list.specs.declared.found.Found.{Found}
use Rattle.file_list.specs.declared.found.Finding.{Finding}
use Rattle.file_list.specs.declared.found.Finding.TheVariants as finding
use Rattle.file_list.specs.Answers.{Answers, most_entries}
use Rattle.file_list.specs.Paths.{without_slashes, is_module_file, is_init_file}
use Rattle.file_list.specs.ModuleNames.{module_name}
use Rattle.file_list.specs.Contents.{paths_of}
use Rattle.file_list.specs.Walked.{Step, has_ended, is_taken, is_closed, is_too_many, next_finding, with_found, with_unread, with_file, is_walked, paths_in, listed_in, name_step, at_name, folder_step, argument_step, at_argument, into, through, walked, with_argument, found_of, most_levels}
use Rattle.file_list.proofs.Kept.{same_text}

-- why an entry is what it is, by the answers
abbrev pub HasReason : Answers → List ℕ → Finding → Type 0
HasReason answers path finding.File = answers.look path ≡ Some kind.File
HasReason answers path finding.Missing = Unit {0}
HasReason answers path finding.NoPackage = Unit {0}
HasReason answers path finding.Failed = (answers.look path ≡ None) ⊎ (answers.names path ≡ None)
HasReason answers path finding.TooMany = Unit {0}
HasReason answers path finding.TooDeep = Unit {0}

abbrev pub IsReasoned : Answers → Found → Type 0
IsReasoned answers found = HasReason answers found.path found.finding

pub record IsOrderly (answers : Answers) (found : List Found) : Type 0 where
  pub distinct : IsDistinct bytes_eq (paths_of found)
  pub few : length found ≤ most_entries + 1
  pub room : has_ended found ≡ false → length found ≤ most_entries
  pub reasons : AllByRecursion (IsReasoned answers) found

or_split : (a b : Bool) → (a || b) ≡ false → (a ≡ false) × (b ≡ false)
or_split true b e = absurd cc
or_split false b e = (refl, e)

or_last : (a b : Bool) → b ≡ true → (a || (b || false)) ≡ true
or_last true b e = refl
or_last false true e = refl
or_last false false e = absurd cc

pub all_more : {X : Type 0} (P : X → Type 0) (xs : List X) (x : X) → AllByRecursion P xs → P x → AllByRecursion P (xs ++ x ∷ [])
all_more P [] x all last = (last, tt)
all_more P (y ∷ xs) x all last = (all.0, all_more P xs x all.1 last)

-- the paths are looked for among what was taken
pub taken_is : (found : List Found) (path : List ℕ) → list_any (bytes_eq path) (paths_of found) ≡ is_taken found path
taken_is [] path = refl
taken_is (f ∷ found) path = ap (λ b. bytes_eq path f.path || b) (taken_is found path)

more_by : (answers : Answers) (found : List Found) (f : Found) → is_closed found f.path ≡ false → IsReasoned answers f → (length found < most_entries) ⊎ (is_too_many f.finding ≡ true) → IsOrderly answers found → IsOrderly answers (found ++ f ∷ [])
more_by answers found f closed reason space orderly =
    let apart = or_split (has_ended found) (is_taken found f.path) closed in
    let long : length (found ++ f ∷ []) ≡ length found + 1 = length-append found (f ∷ []) in
    let open_before : length found ≤ most_entries = orderly.room apart.0 in
    record {
      distinct = subst (IsDistinct bytes_eq) (sym (map-append (λ g. g.path) found (f ∷ []))) (IsDistinct-push nat_list_eq_equiv (paths_of found) f.path orderly.distinct (taken_is found f.path ∙ apart.1));
      few = omega arith;
      room = λ ends. elim space [
        | inl low ↦ omega arith
        | inr last ↦ absurd (let h : false ≡ true = sym ends ∙ list_any-append (λ g. is_too_many g.finding) found (f ∷ []) ∙ or_last (has_ended found) (is_too_many f.finding) last in cc)
      ];
      reasons = all_more (IsReasoned answers) found f orderly.reasons reason;
    }

-- one more entry
pub orderly_more : (answers : Answers) (found : List Found) (path name : List ℕ) (is_package : Bool) (next : Finding) → is_closed found path ≡ false → HasReason answers path next → IsOrderly answers found → IsOrderly answers (with_found found path name is_package next)
orderly_more answers found path name is_package next closed reason orderly = by_test (nat_lt (length found) most_entries) refl
  where
    by_test : (b : Bool) → nat_lt (length found) most_entries ≡ b → IsOrderly answers (found ++ record { path = path; module_name = name; is_package = is_package; finding = cond b next finding.TooMany } ∷ [])
    by_test true t = more_by answers found (record { path = path; module_name = name; is_package = is_package; finding = next }) closed reason (inl (grind (arith, nat_tests))) orderly
    by_test false t = more_by answers found (record { path = path; module_name = name; is_package = is_package; finding = finding.TooMany }) closed tt (inr refl) orderly

-- A step is orderly, and a folder that is to be walked was not taken.
abbrev pub IsOrderlyStep : Answers → List ℕ → Step → Type 0
IsOrderlyStep answers path step = IsOrderly answers step.0 × (step.1 ≡ true → is_closed step.0 path ≡ false)

ends_here : (found : List Found) (path : List ℕ) → false ≡ true → is_closed found path ≡ false
ends_here found path e = absurd cc

module _ (answers : Answers) (recursive : Bool) (found : List Found) (path : List ℕ) (orderly : IsOrderly answers found) where
  name_by_ending : (b : Bool) → is_closed found path ≡ false → answers.look path ≡ Some kind.File → IsOrderly answers (cond b (with_file answers found path) found)
  name_by_ending true closed looked = orderly_more answers found path (module_name answers path) (is_init_file path) finding.File closed looked orderly
  name_by_ending false closed looked = orderly

  name_by_look : (k : Option Kind) → answers.look path ≡ k → is_closed found path ≡ false → IsOrderlyStep answers path (name_step answers recursive found path k)
  name_by_look None looked closed = (orderly_more answers found path path false finding.Failed closed (inl looked) orderly, ends_here (with_unread found path finding.Failed) path)
  name_by_look (Some kind.Missing) looked closed = (orderly, ends_here found path)
  name_by_look (Some kind.File) looked closed = (name_by_ending (is_module_file path) closed looked, λ e. absurd cc)
  name_by_look (Some kind.Folder) looked closed = (orderly, λ e. closed)

  pub name_orderly : IsOrderlyStep answers path (at_name answers recursive found path)
  name_orderly = by_test (is_closed found path) refl
    where
      by_test : (b : Bool) → is_closed found path ≡ b → IsOrderlyStep answers path (cond b (found, false) (name_step answers recursive found path (answers.look path)))
      by_test true t = (orderly, ends_here found path)
      by_test false t = name_by_look (answers.look path) refl t

  folder_by : (b : Bool) → is_closed found path ≡ false → IsOrderlyStep answers path (folder_step b found path)
  folder_by true closed = (orderly, λ e. closed)
  folder_by false closed = (orderly_more answers found path path false finding.NoPackage closed tt orderly, ends_here (with_unread found path finding.NoPackage) path)

  argument_by_look : (k : Option Kind) → answers.look path ≡ k → is_closed found path ≡ false → IsOrderlyStep answers path (argument_step answers recursive found path k)
  argument_by_look None looked closed = (orderly_more answers found path path false finding.Failed closed (inl looked) orderly, ends_here (with_unread found path finding.Failed) path)
  argument_by_look (Some kind.Missing) looked closed = (orderly_more answers found path path false finding.Missing closed tt orderly, ends_here (with_unread found path finding.Missing) path)
  argument_by_look (Some kind.File) looked closed = (orderly_more answers found path (module_name answers path) (is_init_file path) finding.File closed looked orderly, ends_here (with_file answers found path) path)
  argument_by_look (Some kind.Folder) looked closed = folder_by (is_walked answers recursive path) closed

  pub argument_orderly : IsOrderlyStep answers path (at_argument answers recursive found path)
  argument_orderly = by_test (is_closed found path) refl
    where
      by_test : (b : Bool) → is_closed found path ≡ b → IsOrderlyStep answers path (cond b (found, false) (argument_step answers recursive found path (answers.look path)))
      by_test true t = (orderly, ends_here found path)
      by_test false t = argument_by_look (answers.look path) refl t

-- what a walk into a folder keeps orderly
abbrev pub KeepsOrder : Answers → (List ℕ → List Found → List Found) → Type 0
KeepsOrder answers walk = (path : List ℕ) (found : List Found) → is_closed found path ≡ false → IsOrderly answers found → IsOrderly answers (walk path found)

into_orderly : (answers : Answers) (walk : List ℕ → List Found → List Found) → KeepsOrder answers walk → (path : List ℕ) (step : Step) → IsOrderlyStep answers path step → IsOrderly answers (into (walk path) step)
into_orderly answers walk keeps path step ok = by_flag step.1 refl
  where
    by_flag : (b : Bool) → step.1 ≡ b → IsOrderly answers (cond b (walk path step.0) step.0)
    by_flag true t = keeps path step.0 (ok.1 t) ok.0
    by_flag false t = ok.0

all_orderly : (answers : Answers) (recursive : Bool) (walk : List ℕ → List Found → List Found) → KeepsOrder answers walk → (paths : List (List ℕ)) (found : List Found) → IsOrderly answers found → IsOrderly answers (fold (λ found path. into (walk path) (at_name answers recursive found path)) found paths)
all_orderly answers recursive walk keeps [] found orderly = orderly
all_orderly answers recursive walk keeps (path ∷ paths) found orderly =
    all_orderly answers recursive walk keeps paths (into (walk path) (at_name answers recursive found path))
    (into_orderly answers walk keeps path (at_name answers recursive found path) (name_orderly answers recursive found path orderly))

through_orderly : (answers : Answers) (ignore : List (List ℕ)) (recursive : Bool) (walk : List ℕ → List Found → List Found) → KeepsOrder answers walk → (folder : List ℕ) (found : List Found) → is_closed found folder ≡ false → IsOrderly answers found → (l : Option Listing) → answers.names folder ≡ l → IsOrderly answers (through (λ found path. into (walk path) (at_name answers recursive found path)) folder found (listed_in ignore folder l))
through_orderly answers ignore recursive walk keeps folder found closed orderly None listed = orderly_more answers found folder folder false finding.Failed closed (inr listed) orderly
through_orderly answers ignore recursive walk keeps folder found closed orderly (Some listing.TooMany) listed = orderly_more answers found folder folder false finding.TooMany closed tt orderly
through_orderly answers ignore recursive walk keeps folder found closed orderly (Some (listing.Names names)) listed = all_orderly answers recursive walk keeps (paths_in ignore folder names) found orderly

pub walked_orderly : (answers : Answers) (ignore : List (List ℕ)) (recursive : Bool) (levels : ℕ) → KeepsOrder answers (walked answers ignore recursive levels)
walked_orderly answers ignore recursive zero folder found closed orderly = orderly_more answers found folder folder false finding.TooDeep closed tt orderly
walked_orderly answers ignore recursive (suc deeper) folder found closed orderly =
    through_orderly answers ignore recursive (walked answers ignore recursive deeper) (walked_orderly answers ignore recursive deeper) folder found closed orderly (answers.names folder) refl

arguments_orderly : (answers : Answers) (ignore : List (List ℕ)) (recursive : Bool) (arguments : List (List ℕ)) (found : List Found) → IsOrderly answers found → IsOrderly answers (fold (with_argument answers ignore recursive) found arguments)
arguments_orderly answers ignore recursive [] found orderly = orderly
arguments_orderly answers ignore recursive (argument ∷ arguments) found orderly =
    arguments_orderly answers ignore recursive arguments (with_argument answers ignore recursive found argument)
    (into_orderly answers (walked answers ignore recursive most_levels) (walked_orderly answers ignore recursive most_levels) (without_slashes argument) (at_argument answers recursive found (without_slashes argument)) (argument_orderly answers recursive found (without_slashes argument) orderly))

none_twice : IsDistinct bytes_eq []
unfolding IsDistinct
none_twice = tt

-- whatever the answers, what is found is orderly
pub found_orderly : (answers : Answers) (ignore : List (List ℕ)) (recursive : Bool) (arguments : List (List ℕ)) → IsOrderly answers (found_of answers ignore recursive arguments)
found_orderly answers ignore recursive arguments =
    arguments_orderly answers ignore recursive arguments [] (record { distinct = none_twice; few = omega arith; room = λ ends. omega arith; reasons = tt })
