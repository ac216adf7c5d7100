-- One more message of a report.
use Rattle.std.proofs.Common.{◌≡◌, ◌<◌, ◌+◌, ℕ, List, ◌∷◌, ◌++◌, Option, Some, length, drop, get_or, sym, ap, ◌∙◌, append_assoc}
use Rattle.std.specs.Prelude.{slice_get}
use Rattle.std.proofs.lemmas.List.{drop_more}
use Rattle.lint_messages.specs.declared.message.Message.{Message}
use Rattle.file_list.specs.declared.entry.Listed.{Listed}
use Rattle.lint_report.specs.Report.{report_from, lines_of_message, heading, line_of_message}

one_on : (reading : List Listed) (last : Option ℕ) (ms : List Message) (i : ℕ) (m : Message) → i < length ms → m ≡ get_or ms i m → report_from reading last (drop i ms) ≡ lines_of_message reading last m ++ report_from reading (Some m.file.0) (drop (i + 1) ms)
one_on reading last ms i m lt at = ap (report_from reading last) (drop_more ms i m lt ∙ ap (λ x. x ∷ drop (i + 1) ms) (sym at))

pub report_more : (reading : List Listed) (last : Option ℕ) (ms : List Message) (i : ℕ) (m : Message) (listed : Option Listed) (lines headed told whole : List (List ℕ)) → i < length ms → m ≡ get_or ms i m → listed ≡ slice_get reading m.file.0 → headed ≡ lines ++ heading last m.file.0 listed → told ≡ headed ++ line_of_message listed m → lines ++ report_from reading last (drop i ms) ≡ whole → told ++ report_from reading (Some m.file.0) (drop (i + 1) ms) ≡ whole
report_more reading last ms i m listed lines headed told whole lt at found heads tells so_far =
    let rest = report_from reading (Some m.file.0) (drop (i + 1) ms) in
    let here : told ≡ lines ++ lines_of_message reading last m =
    tells ∙ ap (λ h. h ++ line_of_message listed m) heads ∙ append_assoc lines (heading last m.file.0 listed) (line_of_message listed m)
    ∙ ap (λ l. lines ++ (heading last m.file.0 l ++ line_of_message l m)) found in
    ap (λ t. t ++ rest) here ∙ append_assoc lines (lines_of_message reading last m) rest ∙ ap (λ r. lines ++ r) (sym (one_on reading last ms i m lt at)) ∙ so_far
