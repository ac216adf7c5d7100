-- The score of what was found, the lines of the report that say it, and the exit status that goes by it.
use Rattle.std.specs.Prelude.{ℕ, ◌+◌, ◌-◌, ◌*◌, ◌/◌, ◌%◌, ◌^◌, ◌<◌, ◌≤◌, Bool, not, ◌&&◌, ◌||◌, ◌==◌, nat_lt, nat_le, if◌then◌else◌, List, [], ◌∷◌, ◌++◌, length, codes, count_by, Option, None, Some, option_map}
use Rattle.std.specs.List.{list_any, repeat}
use Rattle.std.specs.Fmt.{decimal}
use Rattle.file_list.specs.declared.entry.Listed.{Listed}
use Rattle.lint_messages.specs.declared.message.Message.{Message}
use Rattle.lint_messages.specs.Codes.{category}
use Rattle.lint_messages.specs.Selections.{selection_of}
use Rattle.options.specs.Settings.{Settings}
use Rattle.options.specs.Switches.{selects}
use Rattle.lint_report.specs.declared.findings.Findings.{Findings}
use Rattle.lint_report.specs.declared.scores.Quotient.{Quotient}
use Rattle.lint_report.specs.Report.{report, bits}

-- ---- the score

-- how many messages are of a category, by its letter
abbrev pub count_in : ℕ → List Message → ℕ
count_in letter messages = count_by (λ m. category m.code == letter) messages

-- what messages take off: an error 5, a warning, a refactoring and a convention 1 each
abbrev pub penalty : List Message → ℕ
penalty messages = 5 * count_in 69 messages + (count_in 87 messages + (count_in 82 messages + count_in 67 messages))

-- a fatal message, or more taken off than there are statements
abbrev pub is_worst : List Message → ℕ → Bool
is_worst messages statements = nat_lt 0 (count_in 70 messages) || nat_lt statements (penalty messages)

-- the score in hundredths, where there are statements
abbrev pub quotient_of : List Message → ℕ → Quotient
quotient_of messages statements =
    if is_worst messages statements then record { above = 0; below = statements } else record { above = 1000 * (statements - penalty messages); below = statements }

-- a number from 0 to 1000, of few statements
pub record IsScore (q : Quotient) : Type 0 where
  pub some : 0 < q.below
  pub few : q.below < 2 ^ 64
  pub range : q.above ≤ q.below * 1000

-- the score in hundredths, before it is rounded: without statements there is none
abbrev pub exact_score : List Message → ℕ → Option Quotient
exact_score messages statements = if statements == 0 then None else Some (quotient_of messages statements)

-- more than a half is left over, or just a half of an odd number
abbrev pub is_rounded_up : Quotient → Bool
is_rounded_up q = nat_lt q.below (2 * (q.above % q.below)) || (2 * (q.above % q.below) == q.below && (q.above / q.below) % 2 == 1)

-- to the nearest whole number, from a half to the even one
abbrev pub rounded : Quotient → ℕ
rounded q = if is_rounded_up q then q.above / q.below + 1 else q.above / q.below

abbrev pub score_of : Findings → Option ℕ
score_of found = option_map rounded (exact_score found.messages found.statements)

-- ---- its lines

-- the score in two decimals, as 8.12
abbrev pub rating : ℕ → List ℕ
rating n = codes "Your code has been rated at " ++ (decimal (n / 100) ++ (codes "." ++ (decimal (n / 10 % 10) ++ (decimal (n % 10) ++ codes "/10"))))

-- an empty line, as many dashes as the rating has characters, the rating, an empty line
abbrev pub rating_lines : ℕ → List (List ℕ)
rating_lines n = codes "\n" ∷ (repeat (length (rating n)) (codes "-") ++ codes "\n") ∷ (rating n ++ codes "\n") ∷ codes "\n" ∷ []

abbrev pub score_lines : Option ℕ → List (List ℕ)
score_lines None = []
score_lines (Some n) = rating_lines n

-- the score is to be printed: not where `--score` says no, nor where errors alone are shown
abbrev pub is_score_printed : Settings → Bool
is_score_printed options = options.score && not options.errors_only

-- the lines of the messages, and those of the score, where it is to be printed
abbrev pub whole_report : List Listed → Findings → Settings → List (List ℕ)
whole_report reading found options =
    report reading found.messages ++ (if is_score_printed options then score_lines (score_of found) else [])

-- ---- the exit status

-- one of these names names the message
abbrev pub is_named_in : List (List ℕ) → Message → Bool
is_named_in names m = list_any (λ name. selects (selection_of name) m.code) names

-- a message that makes the status fail, whatever the score is
abbrev pub has_failing : List (List ℕ) → List Message → Bool
has_failing names messages = list_any (is_named_in names) messages

-- the bits, or 1 where there are none
abbrev pub bits_or_one : List Message → ℕ
bits_or_one messages = if bits messages == 0 then 1 else bits messages

-- the score is so many hundredths at least
abbrev pub reaches : ℕ → Quotient → Bool
reaches least q = nat_le (least * q.below) q.above

abbrev pub status_by_score : ℕ → List Message → Option Quotient → ℕ
status_by_score least messages None = bits messages
status_by_score least messages (Some q) = if reaches least q then 0 else bits_or_one messages

-- the first case that holds: always 0; a message that makes it fail; a score that is high enough, or not; the bits
abbrev pub status_of : Findings → Settings → ℕ
status_of found options =
    if options.exit_zero then 0
    else (if has_failing options.fail_on found.messages then bits_or_one found.messages
    else status_by_score options.fail_under found.messages (exact_score found.messages found.statements))
