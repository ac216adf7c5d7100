-- Which questions are among the failed ones after one more.
use Rattle.std.proofs.Common.{◌≡◌, ℕ, Bool, true, false, List, [], ◌∷◌, ◌++◌, refl, sym, ap, ◌∙◌}
use Rattle.std.specs.Prelude.{◌||◌}
use Rattle.std.specs.List.{list_any}
use Rattle.std.specs.Str.{bytes_eq}
use Rattle.std.proofs.lemmas.List.Folds.{list_any-append}
use Rattle.lint_outside.specs.declared.outside.Question.{Question}
use Rattle.lint_outside.specs.declared.outside.Question.TheVariants as question
use Rattle.file_list.specs.Entries.{is_look_at, is_read_of}
use Rattle.file_list.specs.Answers.{is_listing_of}
use Rattle.file_list.proofs.Kept.{text_itself, text_turned}

or_false : (b : Bool) → (b || false) ≡ b
or_false true = refl
or_false false = refl

or_true : (b : Bool) → (b || true) ≡ true
or_true true = refl
or_true false = refl

-- the question is there where it is the last one
pub last_there : (p : Question → Bool) (fails : List Question) (q : Question) → p q ≡ true → list_any p (fails ++ q ∷ []) ≡ true
last_there p fails q e = list_any-append p fails (q ∷ []) ∙ ap (λ b. list_any p fails || (b || false)) e ∙ or_true (list_any p fails)

-- another question behind changes nothing
pub other_behind : (p : Question → Bool) (fails : List Question) (q : Question) → p q ≡ false → list_any p (fails ++ q ∷ []) ≡ list_any p fails
other_behind p fails q e = list_any-append p fails (q ∷ []) ∙ ap (λ b. list_any p fails || (b || false)) e ∙ or_false (list_any p fails)

-- other questions behind change nothing
pub same_behind : (p : Question → Bool) (fails more : List Question) → list_any p more ≡ false → list_any p (fails ++ more) ≡ list_any p fails
same_behind p fails more e = list_any-append p fails more ∙ ap (λ b. list_any p fails || b) e ∙ or_false (list_any p fails)
