-- The one line that counts what is shown of a made text.
use Rattle.std.specs.Prelude.{ℕ, List, ◌++◌, length, codes}
use Rattle.std.specs.Fmt.{decimal}
use Rattle.lint_report.specs.declared.findings.Findings.{Findings}

-- `files 1, statements S, messages M, status T`
abbrev pub summary : Findings → ℕ → List ℕ
summary found status =
    codes "files 1, statements " ++ (decimal found.statements ++ (codes ", messages " ++ (decimal (length found.messages) ++ (codes ", status " ++ (decimal status ++ codes "\n")))))
