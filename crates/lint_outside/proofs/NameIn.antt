-- The name by which a path stands directly in a folder.
use Rattle.std.proofs.Common.{◌≡◌, ◌≢◌, ℕ, Bool, true, false, cond, List, [], ◌∷◌, ◌++◌, None, Some, refl, sym, ap, ◌∙◌, eqb, eq-eqb, arith}
use Rattle.std.specs.Option.{option_and_then}
use Rattle.std.specs.List.{list_any}
use Rattle.lint_outside.specs.MemFiles.{below, name_in, if_no_slash}

slash_step : (b : ℕ) (path : List ℕ) (t : Bool) → eqb b 47 ≡ t → ((rest : List ℕ) → b ∷ path ≢ 47 ∷ rest) → cond t (Some path) None ≡ None
slash_step b path true e lacks = absurd (lacks path (let same : b ≡ 47 = grind arith in ap (λ x. x ∷ path) same))
slash_step b path false e lacks = refl

tail_lacks : (a b : ℕ) (folder path : List ℕ) (t : Bool) → eqb a b ≡ t → ((rest : List ℕ) → b ∷ path ≢ a ∷ (folder ++ rest)) → (((rest : List ℕ) → path ≢ folder ++ rest) → below folder path ≡ None) → cond t (below folder path) None ≡ None
tail_lacks a b folder path true e lacks rests = rests (λ rest is. lacks rest (let same : b ≡ a = grind arith in cc))
tail_lacks a b folder path false e lacks rests = refl

below_lacks : (folder path : List ℕ) → ((rest : List ℕ) → path ≢ folder ++ rest) → below folder path ≡ None
below_lacks folder [] lacks = refl
below_lacks [] (b ∷ path) lacks = absurd (lacks (b ∷ path) refl)
below_lacks (a ∷ folder) (b ∷ path) lacks = tail_lacks a b folder path (eqb a b) refl lacks (below_lacks folder path)

below_other : (folder rest : List ℕ) → ((name : List ℕ) → rest ≢ 47 ∷ name) → below folder (folder ++ rest) ≡ None
below_other [] [] lacks = refl
below_other [] (b ∷ rest) lacks = slash_step b rest (eqb b 47) refl lacks
below_other (a ∷ folder) rest lacks = ap (λ t. cond t (below folder (folder ++ rest)) None) (eq-eqb a a refl) ∙ below_other folder rest lacks

below-append : (folder name : List ℕ) → below folder (folder ++ 47 ∷ name) ≡ Some name
below-append [] name = refl
below-append (a ∷ folder) name = ap (λ t. cond t (below folder (folder ++ 47 ∷ name)) None) (eq-eqb a a refl) ∙ below-append folder name

named : (folder path name : List ℕ) → path ≡ folder ++ 47 ∷ name → name_in folder path ≡ if_no_slash name
named folder path name is = ap (name_in folder) is ∙ ap (option_and_then if_no_slash) (below-append folder name)

-- a path that does not begin with the folder
pub name_in_lacks : (folder path : List ℕ) → ((rest : List ℕ) → path ≢ folder ++ rest) → None ≡ name_in folder path
name_in_lacks folder path lacks = sym (ap (option_and_then if_no_slash) (below_lacks folder path lacks))

-- a path that goes on behind the folder with no slash
pub name_in_other : (folder path rest : List ℕ) → path ≡ folder ++ rest → ((name : List ℕ) → rest ≢ 47 ∷ name) → None ≡ name_in folder path
name_in_other folder path rest is lacks = sym (ap (name_in folder) is ∙ ap (option_and_then if_no_slash) (below_other folder rest lacks))

-- a path in a deeper folder
pub name_in_deeper : (folder path rest name : List ℕ) → path ≡ folder ++ rest → rest ≡ 47 ∷ name → true ≡ list_any (λ b. eqb b 47) name → None ≡ name_in folder path
name_in_deeper folder path rest name is slash has = sym (named folder path name (is ∙ ap (λ r. folder ++ r) slash) ∙ ap (λ t. cond t None (Some name)) (sym has))

-- a path directly in the folder
pub name_in_folder : (folder path rest name : List ℕ) → path ≡ folder ++ rest → rest ≡ 47 ∷ name → false ≡ list_any (λ b. eqb b 47) name → Some name ≡ name_in folder path
name_in_folder folder path rest name is slash has = sym (named folder path name (is ∙ ap (λ r. folder ++ r) slash) ∙ ap (λ t. cond t None (Some name)) (sym has))
