-- Findings that failed are no more than the failures that are kept.
use Rattle.std.proofs.Common.{◌≡◌, ℕ, ◌+◌, ◌≤◌, Bool, true, false, cond, List, [], ◌∷◌, length, map, filter, Option, None, Some, ◌⊎◌, inl, inr, refl, sym, ap, subst, ◌∙◌, arith, Contains}
use Rattle.std.specs.Prelude.{◌||◌, count_by}
use Rattle.std.specs.List.{list_any, IsDistinct, AllByRecursion}
use Rattle.std.specs.Str.{bytes_eq}
use Rattle.std.specs.Cmp.Lexicographic.{nat_list_eq_equiv}
use Rattle.std.proofs.lemmas.List.{length-map}
use Rattle.std.proofs.lemmas.List.Sums.{length-filter}
use Rattle.std.proofs.lemmas.Map.Keys.{IsDistinct-head, IsDistinct-tail, IsDistinct-cons}
use Rattle.std.proofs.lemmas.Map.Made.{length-le_from_is_member}
use Rattle.std.proofs.lemmas.Map.Views.{list_any-from_Contains}
use Rattle.lint_outside.specs.declared.outside.Kind.{Kind}
use Rattle.lint_outside.specs.declared.outside.Kind.TheVariants as kind
use Rattle.lint_outside.specs.declared.outside.Listing.{Listing}
use Rattle.lint_outside.specs.declared.outside.Listing.TheVariants as listing
use Rattle.file_list.specs.declared.found.Found.{Found}
use Rattle.file_list.specs.declared.found.Finding.{Finding}
use Rattle.file_list.specs.declared.found.Finding.TheVariants as finding
use Rattle.file_list.specs.declared.known.Known.{Known}
use Rattle.file_list.specs.Answers.{Answers}
use Rattle.file_list.specs.Asked.{kept_look, kept_names, failed_paths, Agrees, IsCounted}
use Rattle.file_list.specs.Contents.{has_failed, is_failed_finding, paths_of}
use Rattle.file_list.proofs.Kept.{same_text}
use Rattle.file_list.proofs.Orderly.{HasReason, IsReasoned, IsOrderly}

abbrev answer_by : {X : Type 0} → X → Option (Option X) → Option X
answer_by other None = Some other
answer_by other (Some kept) = kept

-- what is known, with other answers where nothing is
abbrev pub answers_by : Known → Answers
answers_by known = record {
  look = λ path. answer_by kind.Missing (kept_look known path);
  names = λ path. answer_by (listing.Names []) (kept_names known path);
  read = λ path. None;
}

pub agrees_by : (known : Known) → Agrees known (answers_by known)
agrees_by known = record {
  looks = λ path kept e. ap (answer_by kind.Missing) e;
  names = λ path kept e. ap (answer_by (listing.Names [])) e;
}

was_none : {X : Type 0} (other : X) (kept : Option (Option X)) → answer_by other kept ≡ None → kept ≡ Some None
was_none other None e = absurd cc
was_none other (Some None) e = refl
was_none other (Some (Some x)) e = absurd cc

-- the path of a finding that failed is among those that are kept
failed_there : (start count : ℕ) (known : Known) → IsCounted start count known → (path : List ℕ) (next : Finding) → HasReason (answers_by known) path next → is_failed_finding next ≡ true → Contains (failed_paths known) path
failed_there start count known counted path finding.Failed reason failed = elim reason [
  | inl looked ↦ counted.looks path (was_none kind.Missing (kept_look known path) looked)
  | inr listed ↦ counted.names path (was_none (listing.Names []) (kept_names known path) listed)
]
failed_there start count known counted path finding.File reason failed = absurd cc
failed_there start count known counted path finding.Missing reason failed = absurd cc
failed_there start count known counted path finding.NoPackage reason failed = absurd cc
failed_there start count known counted path finding.TooMany reason failed = absurd cc
failed_there start count known counted path finding.TooDeep reason failed = absurd cc

all_there : (start count : ℕ) (known : Known) → IsCounted start count known → (found : List Found) → AllByRecursion (IsReasoned (answers_by known)) found → AllByRecursion (λ f. has_failed f ≡ true → Contains (failed_paths known) f.path) found
all_there start count known counted [] reasons = tt
all_there start count known counted (f ∷ found) reasons = (failed_there start count known counted f.path f.finding reasons.0, all_there start count known counted found reasons.1)

-- the paths of the findings that failed
abbrev pub paths_failed : List Found → List (List ℕ)
paths_failed found = paths_of (filter has_failed found)

some_of_all : (P : List ℕ → Type 0) (found : List Found) → AllByRecursion P (paths_of found) → AllByRecursion P (paths_failed found)
some_of_all P [] all = tt
some_of_all P (f ∷ found) all = by_flag (has_failed f) (some_of_all P found all.1)
  where
    by_flag : (b : Bool) → AllByRecursion P (paths_failed found) → AllByRecursion P (paths_of (cond b (f ∷ filter has_failed found) (filter has_failed found)))
    by_flag true behind = (all.0, behind)
    by_flag false behind = behind

some_distinct : (found : List Found) → IsDistinct bytes_eq (paths_of found) → IsDistinct bytes_eq (paths_failed found)
some_distinct [] distinct = distinct
some_distinct (f ∷ found) distinct = by_flag (has_failed f) (some_distinct found (IsDistinct-tail bytes_eq f.path (paths_of found) distinct))
  where
    by_flag : (b : Bool) → IsDistinct bytes_eq (paths_failed found) → IsDistinct bytes_eq (paths_of (cond b (f ∷ filter has_failed found) (filter has_failed found)))
    by_flag true behind = IsDistinct-cons bytes_eq f.path (paths_failed found) (some_of_all (λ p. bytes_eq f.path p ≡ false) found (IsDistinct-head bytes_eq f.path (paths_of found) distinct)) behind
    by_flag false behind = behind

some_there : (paths : List (List ℕ)) (found : List Found) → AllByRecursion (λ f. has_failed f ≡ true → Contains paths f.path) found → (q : List ℕ) → list_any (bytes_eq q) (paths_failed found) ≡ true → list_any (bytes_eq q) paths ≡ true
some_there paths [] all q e = absurd cc
some_there paths (f ∷ found) all q e = by_flag (has_failed f) refl e (λ h. some_there paths found all.1 q h)
  where
    by_path : (b : Bool) → bytes_eq q f.path ≡ b → has_failed f ≡ true → (b || list_any (bytes_eq q) (paths_failed found)) ≡ true → (list_any (bytes_eq q) (paths_failed found) ≡ true → list_any (bytes_eq q) paths ≡ true) → list_any (bytes_eq q) paths ≡ true
    by_path true same t h behind = list_any-from_Contains nat_list_eq_equiv q paths (subst (Contains paths) (sym (same_text q f.path same)) (all.0 t))
    by_path false same t h behind = behind h

    by_flag : (b : Bool) → has_failed f ≡ b → list_any (bytes_eq q) (paths_of (cond b (f ∷ filter has_failed found) (filter has_failed found))) ≡ true → (list_any (bytes_eq q) (paths_failed found) ≡ true → list_any (bytes_eq q) paths ≡ true) → list_any (bytes_eq q) paths ≡ true
    by_flag true t h behind = by_path (bytes_eq q f.path) refl t h behind
    by_flag false t h behind = behind h

-- the findings that failed are no more than the failures that are kept
pub few_failed : (start count : ℕ) (known : Known) (found : List Found) → IsCounted start count known → IsOrderly (answers_by known) found → count_by has_failed found ≤ length (failed_paths known)
few_failed start count known found counted orderly =
    let long : length (paths_failed found) ≡ count_by has_failed found = length-map (filter has_failed found) (λ f. f.path) ∙ length-filter has_failed found in
    subst (λ n. n ≤ length (failed_paths known)) long
    (length-le_from_is_member nat_list_eq_equiv (paths_failed found) (failed_paths known) (some_distinct found orderly.distinct)
    (some_there (failed_paths known) found (all_there start count known counted found orderly.reasons)))
