-- How deep lines lead back. A line of trees nested 200 deep at most, whose brackets go b deep at most, is read by phrases
-- within the depth 201 + b where it is read by phrases of any depth.
use Rattle.std.proofs.Common.{◌≡◌, ◌≤◌, ◌<◌, ◌+◌, ℕ, true, List, [], ◌∷◌, ◌++◌, refl, ap, arith}
use Rattle.tree_nodes.specs.Trees.{Tree}
use Rattle.py_language.specs.Sets.{are_apart}
use Rattle.py_language.specs.Brackets.{peak}
use Rattle.py_language.specs.Nesting.{nesting_of}
use Rattle.py_language.proofs.BracketLaws.{even_token, peak_both}
use Rattle.py_language.proofs.NestingLaws.{nesting_append}
use Rattle.py_grammar.specs.declared.entry.Entry.{Entry}
use Rattle.py_grammar.specs.Terminals.{Terminal, Form, code}
use Rattle.py_grammar.specs.Words.{opens, closes, async_word, colon}
use Rattle.py_grammar.specs.Weights.{weight}
use Rattle.py_grammar.specs.Headers.{ForHeader, ExceptHeader, ExceptStarHeader, PlainWith, ParenthesizedWith, FunctionHeader, ClassHeader, MatchHeader, CaseHeader}
use Rattle.py_grammar.specs.Lines.{PhraseWithin, Row, Fits, headed, bare, decorator, simple, alone, with_test, async}
use Rattle.py_grammar.proofs.DepthBuilding.{Carries, Leads, carry_token, carry_then, carry_behind, carry_maybe}
use Rattle.py_grammar.proofs.DepthExpressions.{carries_named}
use Rattle.py_grammar.proofs.DepthStatements.{carries_statements}
use Rattle.py_grammar.proofs.DepthHeaders.{carries_for, carries_except, carries_except_star, carries_plain_with, carries_parenthesized_with, carries_function, carries_class, carries_match, carries_case, carries_decorator}
use Rattle.py_grammar.proofs.Depth.{phrase_carries}

-- a header leads back no deeper than its phrases do
abbrev pub HeaderCarries : ((Entry → Form) → Form) → Type 1
HeaderCarries header = (L M : Entry → Form) (k : ℕ) → Leads k L M → Carries k (header L) (header M)

-- the same of a row of lines
abbrev pub RowCarries : Row → Type 1
RowCarries row = (L M : Entry → Form) (k : ℕ) → Leads k L M → (ts : List Terminal) (nodes body : List Tree) → nesting_of weight (nodes ++ body) + peak code opens closes 0 ts < k → row L ts nodes body → row M ts nodes body

-- ---- headers

pub carries_alone : (word : List ℕ) → are_apart opens word ≡ true → are_apart closes word ≡ true → HeaderCarries (alone word)
carries_alone word o c L M k known = carry_token word o c

pub carries_with_test : (word : List ℕ) → are_apart opens word ≡ true → are_apart closes word ≡ true → HeaderCarries (with_test word)
carries_with_test word o c L M k known = carry_behind word o c (carries_named L M k known)

pub carries_async : (header : (Entry → Form) → Form) → HeaderCarries header → HeaderCarries (async header)
carries_async header H L M k known = carry_behind async_word refl refl (H L M k known)

-- ---- rows

pub headed_carries : (header : (Entry → Form) → Form) → HeaderCarries header → RowCarries (headed header)
headed_carries header H L M k known ts nodes body l h =
    let C = H L M k known in
    let S = carry_maybe (carries_statements L M k known) in
    let e1 = nesting_append weight nodes body in
    let e2 = peak_both code opens closes h.front (h.mark ∷ h.back) (C.even h.front nodes h.header_is) in
    let e3 = peak_both code opens closes (h.mark ∷ []) h.back (even_token code opens closes colon h.mark h.mark_is refl refl) in
    let e4 = ap (peak code opens closes 0) h.tokens in
    record {
      front = h.front;
      mark = h.mark;
      back = h.back;
      header_is = C.carries h.front nodes h.header_is (omega (arith, l, e1, e2, e4));
      mark_is = h.mark_is;
      body_is = S.carries h.back body h.body_is (omega (arith, l, e1, e2, e3, e4));
      tokens = h.tokens;
    }

pub bare_carries : (header : (Entry → Form) → Form) → HeaderCarries header → RowCarries (bare header)
bare_carries header H L M k known ts nodes body l h =
    let e = nesting_append weight nodes body in ((carry_then (H L M k known) (carry_token colon refl refl)).carries ts nodes h.0 (omega (arith, l, e)), h.1)

pub decorator_carries : RowCarries decorator
decorator_carries L M k known ts nodes body l h = let e = nesting_append weight nodes body in ((carries_decorator L M k known).carries ts nodes h.0 (omega (arith, l, e)), h.1)

pub simple_carries : RowCarries simple
simple_carries L M k known ts nodes body l h = let e = nesting_append weight nodes body in ((carries_statements L M k known).carries ts body h.0 (omega (arith, l, e)), h.1)

-- ---- lines

-- what fits a row is read by phrases within this depth
pub fits_within : (row : Row) → RowCarries row → (b : ℕ) (ts : List Terminal) (nodes body : List Tree) → peak code opens closes 0 ts ≤ b → Fits row ts nodes body → row (PhraseWithin (201 + b)) ts nodes body
fits_within row C b ts nodes body deep h = C (PhraseWithin h.0) (PhraseWithin (201 + b)) (201 + b) (phrase_carries h.0 (201 + b)) ts nodes body (let shallow = h.2 in omega (arith, deep, shallow)) h.1

pub for_carries : RowCarries (headed ForHeader)
for_carries = headed_carries ForHeader carries_for

pub async_for_carries : RowCarries (headed (async ForHeader))
async_for_carries = headed_carries (async ForHeader) (carries_async ForHeader carries_for)

pub except_carries : RowCarries (headed ExceptHeader)
except_carries = headed_carries ExceptHeader carries_except

pub except_star_carries : RowCarries (headed ExceptStarHeader)
except_star_carries = headed_carries ExceptStarHeader carries_except_star

pub plain_with_carries : RowCarries (headed PlainWith)
plain_with_carries = headed_carries PlainWith carries_plain_with

pub parenthesized_with_carries : RowCarries (headed ParenthesizedWith)
parenthesized_with_carries = headed_carries ParenthesizedWith carries_parenthesized_with

pub async_plain_with_carries : RowCarries (headed (async PlainWith))
async_plain_with_carries = headed_carries (async PlainWith) (carries_async PlainWith carries_plain_with)

pub async_parenthesized_with_carries : RowCarries (headed (async ParenthesizedWith))
async_parenthesized_with_carries = headed_carries (async ParenthesizedWith) (carries_async ParenthesizedWith carries_parenthesized_with)

pub function_carries : RowCarries (headed FunctionHeader)
function_carries = headed_carries FunctionHeader carries_function

pub async_function_carries : RowCarries (headed (async FunctionHeader))
async_function_carries = headed_carries (async FunctionHeader) (carries_async FunctionHeader carries_function)

pub class_carries : RowCarries (headed ClassHeader)
class_carries = headed_carries ClassHeader carries_class

pub match_carries : RowCarries (bare MatchHeader)
match_carries = bare_carries MatchHeader carries_match

pub case_carries : RowCarries (headed CaseHeader)
case_carries = headed_carries CaseHeader carries_case
