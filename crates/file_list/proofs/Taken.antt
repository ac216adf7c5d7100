-- The set of taken paths, and the names of a folder in their order.
use Rattle.std.proofs.Common.{◌≡◌, ℕ, Bool, true, false, cond, List, [], ◌∷◌, ◌++◌, map, refl, sym, ap, ◌∙◌}
use Rattle.std.specs.Prelude.{◌||◌}
use Rattle.std.specs.List.{list_any}
use Rattle.std.specs.List.Sorted.{IsPermutation, IsSorted}
use Rattle.std.specs.Str.{bytes_eq}
use Rattle.std.specs.BTreeSet as set
use Rattle.std.specs.BTreeSet.{BTreeSet}
use Rattle.std.specs.Cmp.Lexicographic.{nat_list_cmp_total}
use Rattle.std.proofs.lemmas.List.Folds.{list_any-append}
use Rattle.std.proofs.lemmas.Map.Text.{is_eq-slice_cmp}
use Rattle.std.proofs.lemmas.Map.Lookups.{exact_bytes}
use Rattle.lint_messages.specs.Order.{text_cmp}
use Rattle.lint_messages.specs.Sorting.{sorted_by}
use Rattle.lint_messages.proofs.Sorted.{sorted_is}
use Rattle.file_list.specs.declared.found.Found.{Found}
use Rattle.file_list.specs.Walked.{has_ended, is_taken, is_too_many}
use Rattle.file_list.specs.Findings.{HasPaths}
use Rattle.file_list.proofs.Kept.{same_text, text_itself, text_turned}

text_eq_turned : (p q : List ℕ) → bytes_eq p q ≡ bytes_eq q p
text_eq_turned p q = by_test (bytes_eq p q) refl
  where
    by_test : (b : Bool) → bytes_eq p q ≡ b → bytes_eq p q ≡ bytes_eq q p
    by_test true t = let same : p ≡ q = same_text p q t in t ∙ sym (ap (λ x. bytes_eq x p) (sym same) ∙ text_itself p)
    by_test false t = t ∙ sym (text_turned p q t)

or_last : (a b : Bool) → cond b true a ≡ (a || (b || false))
or_last true true = refl
or_last true false = refl
or_last false true = refl
or_last false false = refl

-- the set has the paths of one more entry
pub paths_more : (found : List Found) (f : Found) (before now : BTreeSet (List ℕ)) (path : List ℕ) → path ≡ f.path → HasPaths found before → set.Updates text_cmp before now path true → HasPaths (found ++ f ∷ []) now
paths_more found f before now path at has updates = λ q.
    updates.0 q
    ∙ ap (λ t. cond t true (set.contains text_cmp before q)) (is_eq-slice_cmp path q ∙ text_eq_turned path q ∙ ap (bytes_eq q) at)
    ∙ ap (cond (bytes_eq q f.path) true) (has q)
    ∙ or_last (is_taken found q) (bytes_eq q f.path)
    ∙ sym (list_any-append (λ g. bytes_eq q g.path) found (f ∷ []))

or_false : (a b : Bool) → (a || b) ≡ (a || (b || false))
or_false true b = refl
or_false false true = refl
or_false false false = refl

-- the end after one more entry
pub ended_more : (found : List Found) (f : Found) (ended now more : Bool) → ended ≡ has_ended found → more ≡ is_too_many f.finding → now ≡ (ended || more) → now ≡ has_ended (found ++ f ∷ [])
ended_more found f ended now more was is e =
    e ∙ ap (λ b. b || more) was ∙ ap (λ b. has_ended found || b) is ∙ or_false (has_ended found) (is_too_many f.finding)
    ∙ sym (list_any-append (λ g. is_too_many g.finding) found (f ∷ []))

map_same : (xs : List (List ℕ)) → map (λ x. x) xs ≡ xs
map_same [] = refl
map_same (x ∷ xs) = ap (λ ys. x ∷ ys) (map_same xs)

-- what a sort of the names leaves is the names in their order
pub sorted_names : (names after : List (List ℕ)) → IsPermutation names after → IsSorted text_cmp after → after ≡ sorted_by text_cmp names
sorted_names names after moved up =
    sym (map_same after) ∙ sorted_is text_cmp nat_list_cmp_total exact_bytes (λ x. x) names after moved up ∙ ap (sorted_by text_cmp) (map_same names)
