-- The report of a made text.
use Rattle.std.proofs.Common.{◌≡◌, ℕ, List, [], ◌∷◌, ◌++◌, Some, ap, subst, ◌∙◌}
use Rattle.options.specs.Settings.{Settings}
use Rattle.file_list.specs.declared.entry.Listed.{Listed}
use Rattle.made_text.specs.MadeText.{made_reading}
use Rattle.lint_report.specs.declared.findings.Findings.{Findings}
use Rattle.lint_report.specs.Score.{status_of}
use Rattle.lint_report.specs.Summary.{summary}
use Rattle.lint_engine.specs.Shown.{IsShown}
use Rattle.lint_engine.specs.Command.{IsReport}

pub is_made_report : (classes : ℕ) (options settled : Settings) (reading : List Listed) (found : Findings) (status : ℕ) (line : List ℕ) (before lines : List (List ℕ))
    → options ≡ settled → reading ≡ made_reading classes → IsShown options reading found → status ≡ status_of found options → line ≡ summary found status → before ≡ [] → lines ≡ before ++ (line ∷ [])
    → IsReport (Some classes) settled [] lines status
is_made_report classes options settled reading found status line before lines settles made shown ends counts none pushed =
    let as_settled = ends ∙ ap (status_of found) settles in
    record {
      found = found;
      shown = subst (λ r. IsShown settled r found) made (subst (λ o. IsShown o reading found) settles shown);
      lines_are = pushed ∙ ap (λ ls. ls ++ (line ∷ [])) none ∙ ap (λ l. l ∷ []) (counts ∙ ap (summary found) as_settled);
      status_is = as_settled;
    }
