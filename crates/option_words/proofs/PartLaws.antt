-- The parts of a list, one after another.
use Rattle.std.proofs.Common.{◌≡◌, ℕ, Bool, true, false, cond, not, ◌||◌, ◌&&◌, ◌==◌, List, [], ◌∷◌, ◌++◌, length, map, filter, refl, sym, ap, ◌∙◌}
use Rattle.std.proofs.lemmas.List.{map-append}
use Rattle.std.proofs.lemmas.List.Elements.{filter-append}
use Rattle.std.specs.List.{list_all}
use Rattle.option_words.specs.Values.{is_filled, trimmed}

-- one more part
pub kept_more : {A : Type 0} (now : A → List ℕ) (xs : List A) (x : A) (all : List (List ℕ)) → all ≡ filter is_filled (map trimmed (map now xs)) → all ++ filter is_filled (trimmed (now x) ∷ []) ≡ filter is_filled (map trimmed (map now (xs ++ x ∷ [])))
kept_more now xs x all is =
    ap (λ ys. ys ++ filter is_filled (trimmed (now x) ∷ [])) is
    ∙ sym (filter-append is_filled (map trimmed (map now xs)) (trimmed (now x) ∷ []))
    ∙ sym (ap (filter is_filled) (ap (map trimmed) (map-append now xs (x ∷ [])) ∙ map-append trimmed (map now xs) (now x ∷ [])))

empty_or : (test : List ℕ → Bool) (part : List ℕ) (rest : List (List ℕ)) (b : Bool) → ((b || test part) && list_all test rest) ≡ list_all test (cond (not b) (part ∷ rest) rest)
empty_or test part rest true = refl
empty_or test part rest false = refl

-- a test of the parts may pass over empty ones
pub all_kept : (test : List ℕ → Bool) (parts : List (List ℕ)) → list_all (λ part. length (trimmed part) == 0 || test (trimmed part)) parts ≡ list_all test (filter is_filled (map trimmed parts))
all_kept test [] = refl
all_kept test (part ∷ parts) =
    ap (λ b. (length (trimmed part) == 0 || test (trimmed part)) && b) (all_kept test parts)
    ∙ empty_or test (trimmed part) (filter is_filled (map trimmed parts)) (length (trimmed part) == 0)
