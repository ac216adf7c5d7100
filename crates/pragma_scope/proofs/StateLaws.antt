-- Codes with the same letters have the same state.
use Rattle.std.proofs.Common.{◌≡◌, ℕ, Bool, true, cond, ◌&&◌, leb, List, [], ◌∷◌, Option, None, Some, refl, ap, ◌∙◌}
use Rattle.std.proofs.lemmas.Slice.Eq.{bytes_eq-Decides}
use Rattle.std.specs.Prelude.{fold, ◌==◌, slice_index}
use Rattle.std.specs.Str.{bytes_eq}
use Rattle.lint_messages.specs.declared.code.Code.{Code}
use Rattle.lint_messages.specs.declared.selection.Selection.{Selection}
use Rattle.lint_messages.specs.declared.selection.Selection.TheVariants.{One, Category, All, Unknown, BadName as bad}
use Rattle.lint_messages.specs.Codes.{letters}
use Rattle.pragma_scope.specs.declared.row.Row.{Row}
use Rattle.pragma_scope.specs.declared.step.Step.{Step}
use Rattle.pragma_scope.specs.Pragmas.{decides, selects, state_of}
use Rattle.pragma_scope.specs.Timelines.{IsTimeline, state_at}

selects_same : (selection : Selection) (a b : Code) → letters a ≡ letters b → selects selection a ≡ selects selection b
selects_same (One named) a b e = ap (bytes_eq (letters named)) e
selects_same (Category letter) a b e = ap (λ ls. letter == slice_index ls 0) e
selects_same All a b e = refl
selects_same Unknown a b e = refl
selects_same bad a b e = refl

abbrev decided : Code → ℕ → Option Bool → Row → Option Bool
decided code line state row = cond (decides code line row) (Some row.is_on) state

decided_same : (line : ℕ) (state : Option Bool) (row : Row) (a b : Code) → letters a ≡ letters b → decided a line state row ≡ decided b line state row
decided_same line state row a b e = ap (λ s. cond ((leb row.region.first line && leb line row.region.last) && s) (Some row.is_on) state) (selects_same row.selection a b e)

folded_same : (rows : List Row) (a b : Code) (line : ℕ) (state : Option Bool) → letters a ≡ letters b → fold (decided a line) state rows ≡ fold (decided b line) state rows
folded_same [] a b line state e = refl
folded_same (row ∷ rows) a b line state e = folded_same rows a b line (decided a line state row) e ∙ ap (λ s. fold (decided b line) s rows) (decided_same line state row a b e)

-- the steps of a code with the same letters tell
pub told_by : (rows : List Row) (a b : Code) (steps : List Step) (line : ℕ) → IsTimeline rows a steps → bytes_eq (letters a) (letters b) ≡ true → state_at steps line ≡ state_of rows b line
told_by rows a b steps line told same = told.same line ∙ folded_same rows a b line None ((bytes_eq-Decides (letters a) (letters b)).0 same)
