-- The module name of a file, by what was asked of the folders above it.
use Rattle.std.proofs.Common.{◌≡◌, ℕ, zero, suc, ◌+◌, ◌-◌, ◌<◌, Bool, true, false, cond, List, [], ◌∷◌, ◌++◌, refl, sym, ap, ◌∙◌, arith}
use Rattle.std.specs.Prelude.{codes}
use Rattle.file_list.specs.Answers.{Answers}
use Rattle.file_list.specs.Paths.{folder_of, last_part, stem}
use Rattle.file_list.specs.ModuleNames.{is_package_folder, is_package_file, packages, module_name}

pub packages_more : (answers : Answers) (most : ℕ) (folder rest above name z : List ℕ) (is_package : Bool) → (most ≡ 0 → ⊥) → is_package ≡ is_package_folder answers folder → is_package ≡ true → rest ≡ folder_of folder → above ≡ packages answers (most - 1) rest → name ≡ last_part folder ++ codes "." → z ≡ above ++ name → z ≡ packages answers most folder
packages_more answers zero folder rest above name z is_package some is held_true up chain named made = absurd (some refl)
packages_more answers (suc most) folder rest above name z is_package some is held_true up chain named made =
    let fewer : suc most - 1 ≡ most = omega arith in
    let front : above ≡ packages answers most (folder_of folder) = chain ∙ ap (λ n. packages answers n rest) fewer ∙ ap (packages answers most) up in
    made ∙ ap (λ a. a ++ name) front ∙ ap (λ n. packages answers most (folder_of folder) ++ n) named
    ∙ sym (ap (λ b. cond b (packages answers most (folder_of folder) ++ (last_part folder ++ codes ".")) []) (sym is ∙ held_true))

pub packages_end : (answers : Answers) (most : ℕ) (folder : List ℕ) (is_package : Bool) → is_package ≡ is_package_folder answers folder → is_package ≡ false → [] ≡ packages answers most folder
packages_end answers zero folder is_package is held_false = refl
packages_end answers (suc most) folder is_package is held_false =
    sym (ap (λ b. cond b (packages answers most (folder_of folder) ++ (last_part folder ++ codes ".")) []) (sym is ∙ held_false))

pub named_package : (answers : Answers) (path folder rest above name z : List ℕ) (is_package : Bool) → is_package ≡ is_package_file answers path → is_package ≡ true → folder ≡ folder_of path → rest ≡ folder_of folder → above ≡ packages answers 31 rest → name ≡ last_part folder → z ≡ above ++ name → z ≡ module_name answers path
named_package answers path folder rest above name z is_package is held_true at up chain named made =
    made ∙ ap (λ a. a ++ name) (chain ∙ ap (packages answers 31) (up ∙ ap folder_of at))
    ∙ ap (λ n. packages answers 31 (folder_of (folder_of path)) ++ n) (named ∙ ap last_part at)
    ∙ sym (ap (λ b. cond b (packages answers 31 (folder_of (folder_of path)) ++ last_part (folder_of path)) (packages answers 32 (folder_of path) ++ stem (last_part path))) (sym is ∙ held_true))

pub named_file : (answers : Answers) (path folder above last name z : List ℕ) (is_package : Bool) → is_package ≡ is_package_file answers path → is_package ≡ false → folder ≡ folder_of path → above ≡ packages answers 32 folder → last ≡ last_part path → name ≡ stem last → z ≡ above ++ name → z ≡ module_name answers path
named_file answers path folder above last name z is_package is held_false at chain last_is named made =
    made ∙ ap (λ a. a ++ name) (chain ∙ ap (packages answers 32) at)
    ∙ ap (λ n. packages answers 32 (folder_of path) ++ n) (named ∙ ap stem last_is)
    ∙ sym (ap (λ b. cond b (packages answers 31 (folder_of (folder_of path)) ++ last_part (folder_of path)) (packages answers 32 (folder_of path) ++ stem (last_part path))) (sym is ∙ held_false))
