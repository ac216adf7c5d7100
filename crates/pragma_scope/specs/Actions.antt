-- The actions of pragmas: in a comment, behind a `#`, blanks, `pylint:` and blanks stands one action, up to `;`, the next
-- `#` or the comment's end.
use Rattle.std.specs.Prelude.{ℕ, ◌==◌, ◌&&◌, ◌||◌, nat_le, nat_lt, not, Bool, false, if◌then◌else◌, List, [], ◌∷◌, ◌++◌, take, drop, length, slice_index, codes, option_map, Option, Some, None}
use Rattle.std.specs.List.{before_first, flat_map, list_all, list_any, prefix_len, slice_split}
use Rattle.std.specs.Str.{bytes_eq}
use Rattle.py_source.specs.declared.span.Span.{Span}
use Rattle.py_source.specs.Spans.{bytes_of}
use Rattle.py_token.specs.declared.token.Comment.{Comment}
use Rattle.pragma_scope.specs.declared.action.Action.{Action}
use Rattle.pragma_scope.specs.declared.action.Verb.{Verb}
use Rattle.pragma_scope.specs.declared.action.Verb.TheVariants.{Disable, Enable, DisableNext}

-- ---- the text of a comment

-- a byte that goes on with a character
abbrev pub is_continuation : ℕ → Bool
is_continuation b = nat_le 128 b && nat_le b 191

-- a character begins at this place of a text, or the text ends there
abbrev pub is_boundary : List ℕ → ℕ → Bool
is_boundary text i = i == length text || (nat_lt i (length text) && not (is_continuation (slice_index text i)))

abbrev pub is_part : List ℕ → Span → Bool
is_part text span = nat_le span.start span.end && (is_boundary text span.start && is_boundary text span.end)

abbrev pub span_of : Comment → Span
span_of comment = record { start = comment.start; end = comment.end }

-- what stands between a comment's places; a place inside a character, which no comment of a source has, gives none
abbrev pub comment_text : List ℕ → Comment → List ℕ
comment_text text comment = if is_part text (span_of comment) then bytes_of text (span_of comment) else []

-- ---- what stands behind a `#`

-- a space or a tab
abbrev pub is_blank : ℕ → Bool
is_blank c = c == 32 || c == 9

abbrev pub without_blanks : List ℕ → List ℕ
without_blanks text = drop (prefix_len is_blank text) text

-- what stands behind a front, where the text begins with it
unfoldable pub behind : List ℕ → List ℕ → Option (List ℕ)
behind front text = if bytes_eq (take (length front) text) front then Some (drop (length front) text) else None

abbrev pub is_semicolon : ℕ → Bool
is_semicolon c = c == 59

-- the action behind `pylint:`, up to `;`
abbrev pub action_text : List ℕ → List ℕ
action_text text = before_first is_semicolon (without_blanks text)

-- the action of what stands behind a `#`, where that is a pragma
abbrev pub action_in : List ℕ → Option (List ℕ)
action_in part = option_map action_text (behind (codes "pylint:") (without_blanks part))

abbrev pub is_hash : ℕ → Bool
is_hash c = c == 35

-- what stands before the first `#` of a text and behind each
abbrev pub parts_at_hashes : List ℕ → List (List ℕ)
parts_at_hashes text = slice_split is_hash text

-- ---- `skip-file`

-- nothing but blanks
abbrev pub is_end : Option (List ℕ) → Bool
is_end None = false
is_end (Some rest) = list_all is_blank rest

-- the action `skip-file`, with nothing behind it
abbrev pub is_skip : Option (List ℕ) → Bool
is_skip None = false
is_skip (Some action) = is_end (behind (codes "skip-file") action)

abbrev pub skips_in : List ℕ → Bool
skips_in part = is_skip (action_in part)

-- one of a comment's actions is `skip-file`
abbrev pub skips_by : List ℕ → Comment → Bool
skips_by text comment = list_any skips_in (parts_at_hashes (comment_text text comment))

-- ---- actions with a list of message names

abbrev pub verb_name : Verb → List ℕ
verb_name Disable = codes "disable"
verb_name Enable = codes "enable"
verb_name DisableNext = codes "disable-next"

-- an action is its verb, `=` and its list
abbrev pub verb_front : Verb → List ℕ
verb_front Disable = codes "disable="
verb_front Enable = codes "enable="
verb_front DisableNext = codes "disable-next="

-- the action with this list, where there is one
abbrev pub action_with : Comment → Verb → Option (List ℕ) → List Action
action_with comment verb None = []
action_with comment verb (Some list) = record { comment = comment; verb = verb; list = list } ∷ []

-- the action, where it has this verb
abbrev pub action_by : Comment → List ℕ → Verb → List Action
action_by comment action verb = action_with comment verb (behind (verb_front verb) action)

-- the action, where it has one of the verbs
abbrev pub actions_by : Comment → List ℕ → List Action
actions_by comment action = action_by comment action Disable ++ (action_by comment action Enable ++ action_by comment action DisableNext)

abbrev pub actions_or_none : Comment → Option (List ℕ) → List Action
actions_or_none comment None = []
actions_or_none comment (Some action) = actions_by comment action

abbrev pub actions_in : Comment → List ℕ → List Action
actions_in comment part = actions_or_none comment (action_in part)

-- the actions of a comment, in their order
abbrev pub actions_of : List ℕ → Comment → List Action
actions_of text comment = flat_map (actions_in comment) (parts_at_hashes (comment_text text comment))

-- the actions of comments, by position
abbrev pub all_actions : List ℕ → List Comment → List Action
all_actions text comments = flat_map (actions_of text) comments
