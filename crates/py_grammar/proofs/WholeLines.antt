-- A line is read exactly where its tokens spell it: with brackets b deep at most, phrases within the depth 201 + b are all
-- that is to be looked at. So tokens spell at most one line.
use Rattle.std.proofs.Common.{◌≡◌, ℕ, ◌+◌, ◌≤◌, ◌↔◌, List, inl, inr, Option, Some, None, refl, sym, ◌∙◌, arith}
use Rattle.tree_nodes.specs.Trees.{Tree}
use Rattle.py_language.specs.Brackets.{peak}
use Rattle.py_grammar.specs.declared.entry.Entry.{Entry}
use Rattle.py_grammar.specs.declared.head.Head.{Head}
use Rattle.py_grammar.specs.declared.head.Head.TheVariants as heads
use Rattle.py_grammar.specs.Terminals.{Terminal, Form, code}
use Rattle.py_grammar.specs.Words.{opens, closes, elif_word, else_word, finally_word, if_word, try_word, while_word}
use Rattle.py_grammar.specs.Headers.{PlainWith, ParenthesizedWith, MatchHeader, CaseHeader}
use Rattle.py_grammar.specs.Lines.{LineForm, PhraseWithin, Row, Fits, FitsNowhere, headed, bare, simple, alone, with_test, async, with_items, IsLine, Reads as SpellsLine}
use Rattle.py_grammar.specs.ReadingLines.{phrase_at, line_at}
use Rattle.py_grammar.proofs.Phrases.{agree_phrase, name_is_test, name_is_pattern}
use Rattle.py_grammar.proofs.DepthLines.{RowCarries, carries_alone, carries_with_test, headed_carries, simple_carries, decorator_carries, fits_within, for_carries, async_for_carries, except_carries, except_star_carries, plain_with_carries, parenthesized_with_carries, async_plain_with_carries, async_parenthesized_with_carries, function_carries, async_function_carries, class_carries, match_carries, case_carries}
use Rattle.py_grammar.proofs.LineParts.{Nowhere}
use Rattle.py_grammar.proofs.LineRows.{FitsWith, with_items_of, IsSpelled}
use Rattle.py_grammar.proofs.Lines.{line_sound, line_complete}

-- ---- with phrases of one depth

-- what is read is spelled with phrases of the reader's depth
pub read_is_spelled : (depth : ℕ) (ts : List Terminal) (line : LineForm) → line_at (phrase_at depth) ts ≡ Some line → IsSpelled (PhraseWithin depth) line.head ts line.nodes line.body
read_is_spelled depth ts line given =
    let known = agree_phrase depth in
    line_sound (phrase_at depth) (PhraseWithin depth) known (name_is_test depth known) (name_is_pattern depth known) ts line given

-- what is spelled with phrases of the reader's depth is read
pub spelled_is_read : (depth : ℕ) (ts : List Terminal) (line : LineForm) → IsSpelled (PhraseWithin depth) line.head ts line.nodes line.body → line_at (phrase_at depth) ts ≡ Some line
spelled_is_read depth ts line h =
    let known = agree_phrase depth in
    line_complete (phrase_at depth) (PhraseWithin depth) known (name_is_test depth known) (name_is_pattern depth known) ts line h

-- ---- with phrases of any depth

module _ (b : ℕ) (ts : List Terminal) (few : peak code opens closes 0 ts ≤ b) where
  -- what fits with phrases of some depth fits with those within 201 + b
  within : (row : Row) → RowCarries row → (nodes body : List Tree) → Fits row ts nodes body → FitsWith (PhraseWithin (201 + b)) row ts nodes body
  within row C nodes body h = (fits_within row C b ts nodes body few h, h.2)

  somewhere : (row : Row) (nodes body : List Tree) → FitsWith (PhraseWithin (201 + b)) row ts nodes body → Fits row ts nodes body
  somewhere row nodes body h = (201 + b, h.0, h.1)

  nowhere_within : (row : Row) → FitsNowhere row ts → Nowhere (FitsWith (PhraseWithin (201 + b)) row) ts
  nowhere_within row none nodes body h = none nodes body (somewhere row nodes body h)

  nowhere_at_all : (row : Row) → RowCarries row → Nowhere (FitsWith (PhraseWithin (201 + b)) row) ts → FitsNowhere row ts
  nowhere_at_all row C none nodes body h = none nodes body (within row C nodes body h)

  module _ (behind : ((Entry → Form) → Form) → (Entry → Form) → Form) (C : RowCarries (headed (behind ParenthesizedWith))) (D : RowCarries (headed (behind PlainWith))) where
    items_within : (nodes body : List Tree) → with_items behind ts nodes body → with_items_of (PhraseWithin (201 + b)) behind ts nodes body
    items_within nodes body h =
        elim h [
          | inl g ↦ inl (within (headed (behind ParenthesizedWith)) C nodes body g)
          | inr g ↦ inr (within (headed (behind PlainWith)) D nodes body g.0, nowhere_within (headed (behind ParenthesizedWith)) g.1)
        ]

    items_somewhere : (nodes body : List Tree) → with_items_of (PhraseWithin (201 + b)) behind ts nodes body → with_items behind ts nodes body
    items_somewhere nodes body h =
        elim h [
          | inl g ↦ inl (somewhere (headed (behind ParenthesizedWith)) nodes body g)
          | inr g ↦ inr (somewhere (headed (behind PlainWith)) nodes body g.0, nowhere_at_all (headed (behind ParenthesizedWith)) C g.1)
        ]

  to_depth : (head : Head) (nodes body : List Tree) → SpellsLine head ts nodes body → IsSpelled (PhraseWithin (201 + b)) head ts nodes body
  unfolding SpellsLine IsSpelled
  to_depth heads.Simple nodes body h = (within simple simple_carries nodes body h.0, nowhere_within (bare MatchHeader) h.1, nowhere_within (headed CaseHeader) h.2)
  to_depth heads.Decorator nodes body h = within _ decorator_carries nodes body h
  to_depth heads.If nodes body h = within _ (headed_carries (with_test if_word) (carries_with_test if_word refl refl)) nodes body h
  to_depth heads.Elif nodes body h = within _ (headed_carries (with_test elif_word) (carries_with_test elif_word refl refl)) nodes body h
  to_depth heads.Else nodes body h = within _ (headed_carries (alone else_word) (carries_alone else_word refl refl)) nodes body h
  to_depth heads.While nodes body h = within _ (headed_carries (with_test while_word) (carries_with_test while_word refl refl)) nodes body h
  to_depth heads.For nodes body h = within _ for_carries nodes body h
  to_depth heads.AsyncFor nodes body h = within _ async_for_carries nodes body h
  to_depth heads.Try nodes body h = within _ (headed_carries (alone try_word) (carries_alone try_word refl refl)) nodes body h
  to_depth heads.Except nodes body h = within _ except_carries nodes body h
  to_depth heads.ExceptStar nodes body h = within _ except_star_carries nodes body h
  to_depth heads.Finally nodes body h = within _ (headed_carries (alone finally_word) (carries_alone finally_word refl refl)) nodes body h
  to_depth heads.With nodes body h = items_within (λ header. header) parenthesized_with_carries plain_with_carries nodes body h
  to_depth heads.AsyncWith nodes body h = items_within async async_parenthesized_with_carries async_plain_with_carries nodes body h
  to_depth heads.FunctionDef nodes body h = within _ function_carries nodes body h
  to_depth heads.AsyncFunctionDef nodes body h = within _ async_function_carries nodes body h
  to_depth heads.ClassDef nodes body h = within _ class_carries nodes body h
  to_depth heads.Match nodes body h = within _ match_carries nodes body h
  to_depth heads.Case nodes body h = within _ case_carries nodes body h

  from_depth : (head : Head) (nodes body : List Tree) → IsSpelled (PhraseWithin (201 + b)) head ts nodes body → SpellsLine head ts nodes body
  unfolding SpellsLine IsSpelled
  from_depth heads.Simple nodes body h = (somewhere simple nodes body h.0, nowhere_at_all (bare MatchHeader) match_carries h.1, nowhere_at_all (headed CaseHeader) case_carries h.2)
  from_depth heads.With nodes body h = items_somewhere (λ header. header) parenthesized_with_carries plain_with_carries nodes body h
  from_depth heads.AsyncWith nodes body h = items_somewhere async async_parenthesized_with_carries async_plain_with_carries nodes body h
  from_depth head nodes body h = (201 + b, h.0, h.1)

-- a line is read exactly where its tokens spell it, by a reader of this depth
pub line_is_read : (b : ℕ) (ts : List Terminal) (line : LineForm) → peak code opens closes 0 ts ≤ b → line_at (phrase_at (201 + b)) ts ≡ Some line ↔ IsLine ts line
line_is_read b ts line few = (
  λ given. from_depth b ts few line.head line.nodes line.body (read_is_spelled (201 + b) ts line given),
  λ h. spelled_is_read (201 + b) ts line (to_depth b ts few line.head line.nodes line.body h),
)

same_line : (line line' : LineForm) → Some line ≡ Some line' → line ≡ line'
same_line line line' e = cc

-- tokens spell at most one line
pub line_unique : (ts : List Terminal) (line line' : LineForm) → IsLine ts line → IsLine ts line' → line ≡ line'
line_unique ts line line' h h' =
    let b = peak code opens closes 0 ts in
    let few : b ≤ b = omega arith in
    same_line line line' (sym ((line_is_read b ts line few).1 h) ∙ (line_is_read b ts line' few).1 h')

-- where no line is read, tokens spell none
pub no_line : (b : ℕ) (ts : List Terminal) → peak code opens closes 0 ts ≤ b → line_at (phrase_at (201 + b)) ts ≡ None ↔ ((line : LineForm) → IsLine ts line → ⊥)
no_line b ts few = (
  λ none line h. differ (line_at (phrase_at (201 + b)) ts) line none ((line_is_read b ts line few).1 h),
  λ nowhere. none_of (line_at (phrase_at (201 + b)) ts) (λ line given. nowhere line ((line_is_read b ts line few).0 given)),
)
  where
    differ : (o : Option LineForm) (line : LineForm) → o ≡ None → o ≡ Some line → ⊥
    differ o line e e' = cc

    none_of : (o : Option LineForm) → ((line : LineForm) → o ≡ Some line → ⊥) → o ≡ None
    none_of None no' = refl
    none_of (Some line) no' = absurd (no' line refl)
