-- The status of what is shown is below 32, the status of a refusal.
use Rattle.std.proofs.Common.{◌≡◌, ◌<◌, ◌↔◌, ◌^◌, ℕ, Bool, true, false, cond, List, [], ◌∷◌, subst, arith, bit_or}
use Rattle.std.specs.List.{fold}
use Rattle.std.specs.Prelude.{Ok, IsErr, Option, Some, None}
use Rattle.std.proofs.lemmas.Nat.{or_lt}
use Rattle.lint_messages.specs.Codes.{bit, bit_of, category}
use Rattle.lint_messages.specs.declared.message.Message.{Message}
use Rattle.options.specs.Settings.{Settings}
use Rattle.options_file.specs.Settings.{SettingsRead}
use Rattle.lint_report.specs.declared.findings.Findings.{Findings}
use Rattle.lint_report.specs.declared.scores.Quotient.{Quotient}
use Rattle.lint_report.specs.Report.{bits}
use Rattle.lint_report.specs.Score.{bits_or_one, exact_score, status_by_score, status_of}

either_small : (b : Bool) (x y : ℕ) → x < 2 ^ 5 → y < 2 ^ 5 → cond b x y < 2 ^ 5
either_small true x y p q = p
either_small false x y p q = q

bit_small : (letter : ℕ) → bit_of letter < 2 ^ 5
bit_small letter =
    either_small _ 1 _ (omega arith) (either_small _ 2 _ (omega arith) (either_small _ 4 _ (omega arith) (either_small _ 8 16 (omega arith) (omega arith))))

bits_from : (messages : List Message) (all : ℕ) → all < 2 ^ 5 → fold (λ all m. bit_or all (bit m.code)) all messages < 2 ^ 5
bits_from [] all small = small
bits_from (m ∷ messages) all small = bits_from messages (bit_or all (bit m.code)) (or_lt 5 all (bit m.code) small (bit_small (category m.code)))

bits_small : (messages : List Message) → bits messages < 2 ^ 5
bits_small messages = bits_from messages 0 (omega arith)

bits_or_one_small : (messages : List Message) → bits_or_one messages < 2 ^ 5
bits_or_one_small messages = either_small _ 1 _ (omega arith) (bits_small messages)

by_score_small : (least : ℕ) (messages : List Message) (q : Option Quotient) → status_by_score least messages q < 2 ^ 5
by_score_small least messages None = bits_small messages
by_score_small least messages (Some q) = either_small _ 0 _ (omega arith) (bits_or_one_small messages)

status_small : (found : Findings) (options : Settings) → status_of found options < 2 ^ 5
status_small found options =
    either_small _ 0 _ (omega arith)
    (either_small _ _ _ (bits_or_one_small found.messages) (by_score_small options.fail_under found.messages (exact_score found.messages found.statements)))

-- words and options file that are read never have the status 32
pub accepted : (settled : SettingsRead) (options : Settings) (found : Findings) (status : ℕ) → settled ≡ Ok options → status ≡ status_of found options → (status ≡ 32) ↔ IsErr settled
accepted settled options found status read is =
    (λ e. absurd (omega (arith, status_small found options)), λ bad. let never : false ≡ true = subst IsErr read bad in cc)
