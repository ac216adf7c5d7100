-- Where a comment's text may be cut, and what stands behind a front.
use Rattle.std.proofs.Common.{◌≡◌, ℕ, ◌+◌, ◌-◌, ◌<◌, Bool, true, false, cond, ◌&&◌, List, ◌++◌, take, drop, length, get_or, Option, None, Some, Bor, refl, sym, ap, ◌∙◌, subst, arith}
use Rattle.std.proofs.lemmas.Bool.Decides.{nat_tests}
use Rattle.std.proofs.lemmas.List.{take_all, take-append-drop, take-append-le}
use Rattle.std.proofs.lemmas.List.Sums.{prefix_len_passes, prefix_len-le-length}
use Rattle.std.proofs.lemmas.Slice.Eq.{bytes_eq-Decides}
use Rattle.std.proofs.lemmas.Str.{IsCharBoundary-after_ascii}
use Rattle.std.specs.Prelude.{nat_le}
use Rattle.std.specs.List.{prefix_len}
use Rattle.std.specs.Option.{MatchOption, option_copied}
use Rattle.std.specs.Str.{IsUtf8, IsCharBoundary, bytes_eq}
use Rattle.std.specs.Str.Pattern.{FindsTextPrefix, StripsPrefix}
use Rattle.py_source.specs.declared.span.Span.{Span}
use Rattle.py_source.specs.Spans.{IsPart}
use Rattle.pragma_scope.specs.Actions.{behind, is_blank, is_boundary, is_part}

-- ---- where a text may be cut

first_true : (a b : Bool) → (a && b) ≡ true → a ≡ true
first_true true b e = refl
first_true false b e = e

second_true : (a b : Bool) → (a && b) ≡ true → b ≡ true
second_true true b e = e
second_true false b e = cc

boundary : (text : List ℕ) (i : ℕ) → is_boundary text i ≡ true → IsCharBoundary text i
boundary text i is = (grind (arith, nat_tests), λ below high. grind (arith, nat_tests))

-- the test says so
pub is_part_of : (text : List ℕ) (span : Span) → is_part text span ≡ true → IsPart text span
is_part_of text span is =
    let ends : (is_boundary text span.start && is_boundary text span.end) ≡ true = second_true (nat_le span.start span.end) (is_boundary text span.start && is_boundary text span.end) is in
    let ordered : nat_le span.start span.end ≡ true = first_true (nat_le span.start span.end) (is_boundary text span.start && is_boundary text span.end) is in
    record {
      ordered = grind (arith, nat_tests);
      from_boundary = boundary text span.start (first_true (is_boundary text span.start) (is_boundary text span.end) ends);
      to_boundary = boundary text span.end (second_true (is_boundary text span.start) (is_boundary text span.end) ends);
    }

blank_is_ascii : (c : ℕ) → is_blank c ≡ true → c < 128
blank_is_ascii c blank = grind (arith, nat_tests)

-- behind the first blanks
pub boundary_behind_blanks : (bs : List ℕ) (n : ℕ) → IsUtf8 bs → n ≡ prefix_len is_blank bs → 0 < n → IsCharBoundary bs n
boundary_behind_blanks bs n utf8 is some =
    let at : n - 1 < prefix_len is_blank bs = omega arith in
    let within : n - 1 < length bs = omega (arith, prefix_len-le-length is_blank bs) in
    let ascii : get_or bs (n - 1) 0 < 128 = blank_is_ascii (get_or bs (n - 1) 0) (prefix_len_passes is_blank bs (n - 1) 0 at) in
    let same : n - 1 + 1 ≡ n = omega arith in
    subst (IsCharBoundary bs) same (IsCharBoundary-after_ascii bs (n - 1) utf8 within ascii)

-- ---- fronts

take_front : (front rest : List ℕ) → take (length front) (front ++ rest) ≡ front
take_front front rest = take-append-le (length front) front rest (omega arith) ∙ take_all (length front) front (omega arith)

begun : (front text rest : List ℕ) → text ≡ front ++ rest → bytes_eq (take (length front) text) front ≡ true
begun front text rest is = (bytes_eq-Decides (take (length front) text) front).1 (ap (take (length front)) is ∙ take_front front rest)

none : (front text : List ℕ) (b : Bool) → bytes_eq (take (length front) text) front ≡ b → ((rest : List ℕ) → text ≡ front ++ rest → ⊥) → None ≡ cond b (Some (drop (length front) text)) None
none front text false e never = refl
none front text true e never = absurd (never (drop (length front) text) (sym (take-append-drop (length front) text) ∙ ap (λ f. f ++ drop (length front) text) ((bytes_eq-Decides (take (length front) text) front).0 e)))

some_rest : (front text rest : List ℕ) (n : ℕ) → n ≡ length front → bytes_eq (take (length front) text) front ≡ true → rest ≡ drop n text → Some rest ≡ cond (bytes_eq (take (length front) text) front) (Some (drop (length front) text)) None
some_rest front text rest n at e is = simp e (ap Some (is ∙ ap (λ k. drop k text) at))

-- a text is stripped of its front
pub stripped : (front text : List ℕ) (r : Option (Bor (List ℕ))) → MatchOption r (FindsTextPrefix front text None) (λ x. StripsPrefix (FindsTextPrefix front) text x.now) → option_copied r ≡ behind front text
unfolding behind
stripped front text None never = none front text (bytes_eq (take (length front) text) front) refl never
stripped front text (Some x) h = some_rest front text x.now h.0 h.1.0 (begun front text (drop h.0 text) h.1.1) h.2
