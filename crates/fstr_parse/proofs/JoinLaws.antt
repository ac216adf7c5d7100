-- Rows of texts and rows of lengths are the same rows.
use Rattle.std.proofs.Common.{◌≡◌, ℕ, zero, suc, ◌<◌, List, [], ◌∷◌, ◌++◌, length, take, drop, refl, sym, ap, ◌∙◌, subst, arith}
use Rattle.std.specs.List.{concat}
use Rattle.std.proofs.lemmas.List.{take-append-drop, drop_at, append_assoc}
use Rattle.fstr_parse.specs.Bytes.{Text}
use Rattle.fstr_parse.specs.Rows.{Row}
use Rattle.fstr_parse.specs.Scan.{Leads}

-- the lengths are those of the steps
pub record Joins (IsStep : ℕ → Text → Text → Type 0) (len behind : ℕ → Text → ℕ) : Type 0 where
  pub stands : (level : ℕ) (text : Text) → 0 < len level text → IsStep level (take (len level text) text) (drop (len level text) text)
  pub some : (level : ℕ) (step rest : Text) → IsStep level step rest → 0 < length step
  pub back : (level : ℕ) (step rest : Text) → IsStep level step rest → len level (step ++ rest) ≡ length step
  pub same_behind : (level : ℕ) (step rest : Text) → 0 < length step → behind level step ≡ behind level (step ++ rest)

-- the text is these steps, and then the rest
pub record IsRow (IsStep : ℕ → Text → Text → Type 0) (behind : ℕ → Text → ℕ) (level : ℕ) (text : Text) (level' : ℕ) (rest : Text) : Type 0 where
  pub steps : List Text
  pub is : text ≡ concat steps ++ rest
  pub row : Row IsStep behind level steps level' rest

-- lengths lead as far
pub record IsLed (len behind : ℕ → Text → ℕ) (level : ℕ) (text : Text) (level' : ℕ) (rest : Text) : Type 0 where
  pub steps : ℕ
  pub row : Leads len behind steps level text level' rest

pub row_of_leads : (IsStep : ℕ → Text → Text → Type 0) (len behind : ℕ → Text → ℕ) → Joins IsStep len behind → (steps level : ℕ) (text : Text) (level' : ℕ) (rest : Text) → Leads len behind steps level text level' rest → IsRow IsStep behind level text level' rest
row_of_leads IsStep len behind joins zero level text level' rest row = record { steps = []; is = row.1; row = row.0 }
row_of_leads IsStep len behind joins (suc more) level text level' rest row =
    let n = len level text in
    let step = take n text in
    let after = drop n text in
    let first : IsStep level step after = joins.stands level text row.0 in
    let some : 0 < length step = joins.some level step after first in
    let whole : step ++ after ≡ text = take-append-drop n text in
    let later = row_of_leads IsStep len behind joins more (behind level text) after level' rest row.1 in
    let same : behind level text ≡ behind level step = sym (joins.same_behind level step after some ∙ ap (behind level) whole) in
    record {
      steps = step ∷ later.steps;
      is = sym whole ∙ (ap (λ t. step ++ t) later.is ∙ sym (append_assoc step (concat later.steps) rest));
      row = (subst (IsStep level step) later.is first, subst (λ l. Row IsStep behind l later.steps level' rest) same later.row);
    }

pub leads_of_row : (IsStep : ℕ → Text → Text → Type 0) (len behind : ℕ → Text → ℕ) → Joins IsStep len behind → (steps : List Text) (level : ℕ) (text : Text) (level' : ℕ) (rest : Text) → text ≡ concat steps ++ rest → Row IsStep behind level steps level' rest → IsLed len behind level text level' rest
leads_of_row IsStep len behind joins [] level text level' rest is row = record { steps = 0; row = (row, is) }
leads_of_row IsStep len behind joins (step ∷ steps) level text level' rest is row =
    let after = concat steps ++ rest in
    let some : 0 < length step = joins.some level step after row.0 in
    let whole : text ≡ step ++ after = is ∙ append_assoc step (concat steps) rest in
    let size : len level text ≡ length step = ap (len level) whole ∙ joins.back level step after row.0 in
    let left : drop (len level text) text ≡ after = ap (λ n. drop n text) size ∙ (ap (drop (length step)) whole ∙ drop_at step after (length step) refl) in
    let same : behind level step ≡ behind level text = joins.same_behind level step after some ∙ ap (behind level) (sym whole) in
    let later = leads_of_row IsStep len behind joins steps (behind level text) (drop (len level text) text) level' rest left
    (subst (λ l. Row IsStep behind l steps level' rest) same row.1) in
    record { steps = suc later.steps; row = (omega arith, later.row) }
