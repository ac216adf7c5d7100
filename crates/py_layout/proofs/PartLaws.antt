-- Parts from the front, and their lines with levels.
use Rattle.std.proofs.Common.{◌≡◌, ℕ, suc, ◌+◌, ◌≤◌, ◌<◌, Bool, true, false, List, [], ◌∷◌, ◌++◌, length, take, drop, refl, sym, ap, ◌∙◌, subst, arith, ⊎_elim, append_assoc, Ok, Err, Result, ◌==◌}
use Rattle.std.proofs.lemmas.Bool.{cases_Bool, cond_both}
use Rattle.py_layout.specs.declared.item.Item.{Item}
use Rattle.py_layout.specs.declared.logical.Logical.{Logical}
use Rattle.py_layout.specs.declared.logical.LineFault.{LineFault}
use Rattle.py_layout.specs.declared.logical.LineFault.TheVariants as line_fault
use Rattle.py_layout.specs.declared.fault.IndentationCause.{IndentationCause}
use Rattle.py_layout.specs.LogicalLines.{depth_behind, ends_line, onto_first, parts_of, lines_from, line_of, token_count, indentation_of, Line}
use Rattle.py_layout.specs.Indentation.{Stack, levelled, onto_lines, logical_of}
use Rattle.py_layout.specs.Answers.{IsLineAdded, HasNoLevel, IsAddFault, IsLinesFault, IsLineWithin, onto_all}
use Rattle.py_layout.specs.Parts.{part_len}

-- the first part, and those of what follows it
pub parts_front : (depth : ℕ) (item : Item) (items : List Item) → parts_of depth (item ∷ items) ≡ take (part_len depth (item ∷ items)) (item ∷ items) ∷ parts_of 0 (drop (part_len depth (item ∷ items)) (item ∷ items))
parts_front depth item [] = at_end (ends_line depth item) refl where
  at_end : (b : Bool) → ends_line depth item ≡ b → parts_of depth (item ∷ []) ≡ take (part_len depth (item ∷ [])) (item ∷ []) ∷ parts_of 0 (drop (part_len depth (item ∷ [])) (item ∷ []))
  at_end true e = rw e refl
  at_end false e = rw e refl
parts_front depth item (next ∷ items) =
    let rest = parts_front (depth_behind depth item) next items in
    let n = part_len (depth_behind depth item) (next ∷ items) in
    let size : 1 + n ≡ suc n = omega arith in
    ⊎_elim
    (λ yes_end. let e : ends_line depth item ≡ true = yes_end in rw e refl)
    (λ not_end. let e : ends_line depth item ≡ false = not_end in rw (e, size) (ap (onto_first item) rest))
    (cases_Bool (ends_line depth item))

-- lines onto lines
onto_all-onto_lines : (out : List Logical) (line : Logical) (more : Result (List Logical) (ℕ × IndentationCause)) → onto_all out (onto_lines line more) ≡ onto_all (out ++ line ∷ []) more
onto_all-onto_lines out line (Ok lines) = ap Ok (sym (append_assoc out (line ∷ []) lines))
onto_all-onto_lines out line (Err fault) = refl

-- one part more, whose line got its level
added_step : (out new : List Logical) (before behind : Stack) (lines more : List Line) → length lines ≤ 1 → IsLineAdded before lines behind out new → onto_all new (levelled behind more) ≡ onto_all out (levelled before (lines ++ more))
added_step out new before behind [] more few added = rw (added.0, added.1) refl
added_step out new before behind (line ∷ []) more few added =
    let enters = added.0 in
    rw (added.1, enters) (sym (onto_all-onto_lines out (logical_of line behind) (levelled behind more)))
added_step out new before behind (line ∷ other ∷ lines) more few added = absurd (omega arith)

line_of-few : (place token : ℕ) (part : List Item) → length (line_of place token part) ≤ 1
line_of-few place token part =
    cond_both (token_count part == 0) [] (record { place = place; first = token; end = token + token_count part; widths = indentation_of part } ∷ []) (λ lines. length lines ≤ 1) (λ _. omega arith) (λ _. omega arith)

-- one part more, whose line has no level
no_level_step : (out : List Logical) (before : Stack) (lines more : List Line) (n : ℕ) (cause : IndentationCause) → HasNoLevel before lines n cause → onto_all out (levelled before (lines ++ more)) ≡ Err (n, cause)
no_level_step out before [] more n cause none = absurd none
no_level_step out before (line ∷ lines) more n cause none = let stops = none.0 in let here = none.1 in rw (stops, here) refl

add_fault_step : (out : List Logical) (before : Stack) (lines more : List Line) (fault : LineFault) → IsAddFault fault before lines → IsLinesFault fault (onto_all out (levelled before (lines ++ more)))
add_fault_step out before lines more (line_fault.At n cause) none = no_level_step out before lines more n cause none
add_fault_step out before lines more line_fault.Memory none = tt

-- the lines of what is left, cut behind its first part
pub lines_front : (place token n : ℕ) (rest part behind : List Item) → 0 < length rest → n ≡ part_len 0 rest → part ≡ take n rest → behind ≡ drop n rest → lines_from place token (parts_of 0 rest) ≡ line_of place token part ++ lines_from (place + length part) (token + token_count part) (parts_of 0 behind)
lines_front place token n [] part behind some en ep eb = absurd (omega arith)
lines_front place token n (item ∷ items) part behind some en ep eb =
    let front : part ≡ take (part_len 0 (item ∷ items)) (item ∷ items) = ep ∙ ap (λ k. take k (item ∷ items)) en in
    let back : behind ≡ drop (part_len 0 (item ∷ items)) (item ∷ items) = eb ∙ ap (λ k. drop k (item ∷ items)) en in
    rw (front, back) (ap (lines_from place token) (parts_front 0 item items))

-- a turn of the loop over the parts, whose line got its level
pub turn : (out new : List Logical) (before behind : Stack) (place token n count : ℕ) (rest part later : List Item) (right : Result (List Logical) (ℕ × IndentationCause)) → 0 < length rest → n ≡ part_len 0 rest → part ≡ take n rest → later ≡ drop n rest → count ≡ token_count part → IsLineAdded before (line_of place token part) behind out new → onto_all out (levelled before (lines_from place token (parts_of 0 rest))) ≡ right → onto_all new (levelled behind (lines_from (place + length part) (token + count) (parts_of 0 later))) ≡ right
turn out new before behind place token n count rest part later right some en ep el ec added so_far =
    let front = lines_front place token n rest part later some en ep el in
    let more = lines_from (place + length part) (token + token_count part) (parts_of 0 later) in
    ap (λ k. onto_all new (levelled behind (lines_from (place + length part) (token + k) (parts_of 0 later)))) ec ∙ added_step out new before behind (line_of place token part) more (line_of-few place token part) added ∙ ap (λ lines. onto_all out (levelled before lines)) (sym front) ∙ so_far

-- a turn whose line has no level
pub turn_fails : (out : List Logical) (before : Stack) (place token n : ℕ) (rest part later : List Item) (right : Result (List Logical) (ℕ × IndentationCause)) (fault : LineFault) → 0 < length rest → n ≡ part_len 0 rest → part ≡ take n rest → later ≡ drop n rest → IsAddFault fault before (line_of place token part) → onto_all out (levelled before (lines_from place token (parts_of 0 rest))) ≡ right → IsLinesFault fault right
turn_fails out before place token n rest part later right fault some en ep el none so_far =
    let front = lines_front place token n rest part later some en ep el in
    let more = lines_from (place + length part) (token + token_count part) (parts_of 0 later) in
    subst (IsLinesFault fault) (ap (λ lines. onto_all out (levelled before lines)) (sym front) ∙ so_far) (add_fault_step out before (line_of place token part) more fault none)

pub line_within_wider : (n m : ℕ) (fault : LineFault) → n ≤ m → IsLineWithin n fault → IsLineWithin m fault
line_within_wider n m (line_fault.At place cause) le within = omega arith
line_within_wider n m line_fault.Memory le within = tt
