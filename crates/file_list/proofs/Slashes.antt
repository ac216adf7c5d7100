-- Where a path is cut at its last slash, and at the slashes at its end.
use Rattle.std.proofs.Common.{◌≡◌, ◌≢◌, ℕ, zero, suc, ◌+◌, ◌-◌, ◌<◌, Bool, true, false, cond, List, [], ◌∷◌, ◌++◌, length, get_or, take, drop, eqb, refl, sym, ap, ◌∙◌, arith, Option, None, Some}
use Rattle.std.proofs.Common.{lit<, subst}
use Rattle.std.proofs.lemmas.List.{take-append-drop}
use Rattle.std.proofs.lemmas.Str.Pattern.{drop_at_char, NoCharPasses-char}
use Rattle.std.specs.Str.{NoCharPasses}
use Rattle.std.specs.Str.Pattern.{RFindsChar, SplitsAroundMatch, FindsCharSuffix, CutsSuffixes, IsTrimEndMatches}
use Rattle.std.specs.Option.{IfSome}
use Rattle.std.proofs.lemmas.Grind.{common_steps}
use Rattle.std.specs.Prelude.{◌||◌, ◌&&◌}
use Rattle.std.specs.List.{list_any, list_all}
use Rattle.std.proofs.lemmas.List.Folds.{list_any-append}
use Rattle.file_list.specs.Paths.{is_slash, without_slashes, folder_of, last_part}

-- a text with no slash
pub no_slash : (text : List ℕ) → ((i : ℕ) → i < length text → get_or text i 0 ≢ 47) → list_any is_slash text ≡ false
no_slash [] lacks = refl
no_slash (c ∷ text) lacks = by_test (eqb c 47) refl (no_slash text (λ i h. lacks (suc i) (omega arith)))
  where
    by_test : (b : Bool) → eqb c 47 ≡ b → list_any is_slash text ≡ false → (eqb c 47 || list_any is_slash text) ≡ false
    by_test true e rest = absurd (lacks 0 (omega arith) (grind arith))
    by_test false e rest = ap (λ b. b || list_any is_slash text) e ∙ rest

some_slash : (front back : List ℕ) → list_any is_slash (front ++ 47 ∷ back) ≡ true
some_slash [] back = refl
some_slash (c ∷ front) back = ap (λ b. eqb c 47 || b) (some_slash front back) ∙ or_true (eqb c 47)
  where
    or_true : (b : Bool) → (b || true) ≡ true
    or_true true = refl
    or_true false = refl

pub folder_at : (front back : List ℕ) → list_any is_slash back ≡ false → folder_of (front ++ 47 ∷ back) ≡ front
folder_at [] back none = ap (λ b. cond b (47 ∷ folder_of back) []) none
folder_at (c ∷ front) back none = ap (λ b. cond b (c ∷ folder_of (front ++ 47 ∷ back)) []) (some_slash front back) ∙ ap (λ f. c ∷ f) (folder_at front back none)

pub whole_part : (path : List ℕ) → list_any is_slash path ≡ false → last_part path ≡ path
whole_part [] none = refl
whole_part (c ∷ path) none = ap (λ b. cond b (last_part path) (c ∷ path)) none

pub part_at : (front back : List ℕ) → list_any is_slash back ≡ false → last_part (front ++ 47 ∷ back) ≡ back
part_at [] back none = whole_part back none
part_at (c ∷ front) back none = ap (λ b. cond b (last_part (front ++ 47 ∷ back)) (c ∷ (front ++ 47 ∷ back))) (some_slash (c ∷ front) back) ∙ part_at front back none

or_parts : (a b : Bool) → (a || b) ≡ false → b ≡ false
or_parts true b e = cc
or_parts false b e = e

pub no_folder : (path : List ℕ) → list_any is_slash path ≡ false → folder_of path ≡ []
no_folder [] none = refl
no_folder (c ∷ path) none = ap (λ b. cond b (c ∷ folder_of path) []) (or_parts (eqb c 47) (list_any is_slash path) none)

all_with_slash : (path : List ℕ) → list_all is_slash (path ++ 47 ∷ []) ≡ list_all is_slash path
all_with_slash [] = refl
all_with_slash (c ∷ path) = ap (λ b. eqb c 47 && b) (all_with_slash path)

-- a slash at the end is dropped
pub slash_dropped : (path : List ℕ) → without_slashes (path ++ 47 ∷ []) ≡ without_slashes path
slash_dropped [] = refl
slash_dropped (c ∷ path) =
    ap (λ b. cond b [] (c ∷ without_slashes (path ++ 47 ∷ []))) (all_with_slash (c ∷ path))
    ∙ ap (λ p. cond (list_all is_slash (c ∷ path)) [] (c ∷ p)) (slash_dropped path)

-- a path that ends with no slash stays
pub no_slash_dropped : (path : List ℕ) → ((front : List ℕ) → path ≢ front ++ 47 ∷ []) → without_slashes path ≡ path
no_slash_dropped [] lacks = refl
no_slash_dropped (c ∷ []) lacks = by_test (eqb c 47) refl
  where
    by_test : (b : Bool) → eqb c 47 ≡ b → cond (eqb c 47 && true) [] (c ∷ []) ≡ c ∷ []
    by_test true e = absurd (lacks [] (let same : c ≡ 47 = grind arith in ap (λ x. x ∷ []) same))
    by_test false e = ap (λ b. cond (b && true) [] (c ∷ [])) e
no_slash_dropped (c ∷ d ∷ path) lacks = by_test (list_all is_slash (d ∷ path)) refl (no_slash_dropped (d ∷ path) (λ front is. lacks (c ∷ front) (ap (λ p. c ∷ p) is)))
  where
    by_whole : (a b : Bool) → b ≡ false → without_slashes (d ∷ path) ≡ d ∷ path → cond (a && b) [] (c ∷ without_slashes (d ∷ path)) ≡ c ∷ d ∷ path
    by_whole true b e rest = ap (λ t. cond t [] (c ∷ without_slashes (d ∷ path))) e ∙ ap (λ p. c ∷ p) rest
    by_whole false b e rest = ap (λ p. c ∷ p) rest

    by_test : (b : Bool) → list_all is_slash (d ∷ path) ≡ b → without_slashes (d ∷ path) ≡ d ∷ path → without_slashes (c ∷ d ∷ path) ≡ c ∷ d ∷ path
    by_test true e rest = absurd (let h : [] ≡ d ∷ path = sym (ap (λ b. cond b [] (d ∷ without_slashes path)) e) ∙ rest in cc)
    by_test false e rest = by_whole (eqb c 47) (list_all is_slash (d ∷ path)) e rest

-- the two parts around the last slash
pub split_parts_last : (path front back : List ℕ) → SplitsAroundMatch (RFindsChar 47) path front back → (path ≡ front ++ 47 ∷ back) × (list_any is_slash back ≡ false)
split_parts_last path front back split =
    let at = drop_at_char 47 path split.0 split.1 split.2.1 (lit< tt) in (
      sym (take-append-drop split.0 path) ∙ ap (λ t. t ++ drop split.0 path) (sym split.3) ∙ ap (λ d. front ++ d) (at ∙ ap (λ d. 47 ∷ d) (sym split.4)),
      no_slash back (λ i h. NoCharPasses-char 47 back i (subst (NoCharPasses (λ d. eqb d 47)) (sym split.4) split.2.0) (lit< tt) h),
    )

pub folder_split : (path front back : List ℕ) → SplitsAroundMatch (RFindsChar 47) path front back → front ≡ folder_of path
folder_split path front back split =
    let parts = split_parts_last path front back split in
    sym (ap folder_of parts.0 ∙ folder_at front back parts.1)

pub part_split : (path front back : List ℕ) → SplitsAroundMatch (RFindsChar 47) path front back → back ≡ last_part path
part_split path front back split =
    let parts = split_parts_last path front back split in
    sym (ap last_part parts.0 ∙ part_at front back parts.1)

-- a path that is not cut has no slash
pub not_split : (path : List ℕ) → RFindsChar 47 path None → list_any is_slash path ≡ false
not_split path none = no_slash path (λ i h. NoCharPasses-char 47 path i none (lit< tt) h)

cut_slash : (m r : List ℕ) (n : ℕ) → FindsCharSuffix 47 m (Some n) → r ≡ take (length m - n) m → m ≡ r ++ 47 ∷ []
cut_slash m r n finds is =
    let at = drop_at_char 47 m (length m - n) (length m) finds.1 (lit< tt) in
    sym (take-append-drop (length m - n) m) ∙ ap (λ t. t ++ drop (length m - n) m) (sym is) ∙ ap (λ d. r ++ d) (at ∙ ap (λ d. 47 ∷ d) (drop_whole m))
  where
    drop_whole : (m : List ℕ) → drop (length m) m ≡ []
    drop_whole m = grind (arith, common_steps)

cut_slashes : (path : List ℕ) (ns : List ℕ) (r : List ℕ) → CutsSuffixes (FindsCharSuffix 47) path ns r → without_slashes r ≡ without_slashes path
cut_slashes path [] r cuts = ap without_slashes cuts
cut_slashes path (n ∷ ns) r cuts =
    let m = cuts.0 in
    sym (slash_dropped r) ∙ ap without_slashes (sym (cut_slash m r n cuts.2 cuts.3)) ∙ cut_slashes path ns m cuts.1

trimmed : (r : List ℕ) (o : Option ℕ) → FindsCharSuffix 47 r o → IfSome o (λ n. n ≡ 0) → without_slashes r ≡ r
unfolding lib.Utf8.encode
trimmed r None finds zero_only = no_slash_dropped r finds
trimmed r (Some n) finds zero_only = absurd (let one : n ≡ 1 = finds.0 in omega arith)

-- what is left when each slash at the end is cut off
pub slashes_trimmed : (path r : List ℕ) → IsTrimEndMatches (FindsCharSuffix 47) path r → r ≡ without_slashes path
slashes_trimmed path r trim =
    sym (trimmed r trim.1.0 trim.1.1 trim.1.2) ∙ cut_slashes path trim.0.0 r trim.0.1
