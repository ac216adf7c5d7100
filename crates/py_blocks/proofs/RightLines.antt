-- Nested lines without fault: which lines may stand around each.
use Rattle.std.proofs.Common.{◌≡◌, ℕ, zero, suc, ◌+◌, ◌<◌, ◌≤◌, List, [], ◌∷◌, ◌++◌, Bool, true, false, not, ◌&&◌, ◌||◌, nat_lt, nat_eq, if◌then◌else◌, length, map, reverse, Option, Some, None, refl, sym, ap, subst, ◌∙◌, arith, append_assoc}
use Rattle.std.specs.List.{list_all}
use Rattle.std.proofs.lemmas.Bool.Decides.{nat_tests}
use Rattle.std.proofs.lemmas.List.{map-append, reverse-append, append-nil}
use Rattle.tree_nodes.specs.Trees.{Tree}
use Rattle.py_grammar.specs.declared.head.Head.{Head}
use Rattle.py_grammar.specs.declared.head.Head.TheVariants as heads
use Rattle.py_blocks.specs.declared.line.Line.{Line}
use Rattle.py_blocks.specs.Heads.{is_header, is_decorator, is_decorated, is_try, is_case, is_handling, is_match, is_opened_try, has_opener}
use Rattle.py_blocks.specs.Rows.{Row, line_of}
use Rattle.py_blocks.specs.Rules.{elders, first, second, under, leaves_try, nearest, level_of, around, decorates, opens, is_deeper, ends_open, ends_try, is_behind_decorator, fault_behind}
use Rattle.py_blocks.specs.Statements.{Lines, none, line, flat, AreAt}
use Rattle.py_blocks.proofs.FreeLines.{IsFree, free, then_holds, then_fails, same_answers}

-- ---- what stands around a line

-- there are lines
abbrev pub AreSome : Lines → Type 0
AreSome none = ⊥
AreSome (line row block behind) = Unit {0}

-- there are lines, and the first may stand behind a decorator
abbrev pub AreDecorated : Lines → Type 0
AreDecorated none = ⊥
AreDecorated (line row block behind) = is_decorated row.head ≡ true

-- a line between its elder, the elder's elder, what it stands under, its block, and what is behind
pub record IsRight (elder older above : Option Head) (row : Row Tree) (block behind : Lines) : Type 0 where
  pub opener : has_opener row.head elder older ≡ true
  pub in_match : is_match above ≡ is_case row.head
  pub handled : is_opened_try elder ≡ true → is_handling row.head ≡ true
  pub has_block : (line_of row).is_open ≡ true → AreSome block
  pub no_block : (line_of row).is_open ≡ false → block ≡ none
  pub tried : is_try row.head ≡ true → AreSome behind
  pub decorates : is_decorator row.head ≡ true → AreDecorated behind

-- each line of a level
abbrev pub AreRightLines : Option Head → Option Head → Option Head → Lines → Type 0
AreRightLines elder older above none = Unit {0}
AreRightLines elder older above (line row block behind) =
    IsRight elder older above row block behind × AreRightLines None None (Some row.head) block × AreRightLines (Some row.head) elder above behind

-- ---- lines in the order of the file

-- what the rules see
abbrev pub seen : Lines → List Line
seen lines = map line_of (flat lines)

pub seen-order : (row : Row Tree) (block behind : Lines) (after : List Line) → seen (line row block behind) ++ after ≡ line_of row ∷ (seen block ++ (seen behind ++ after))
seen-order row block behind after =
    ap (λ (ls : List Line). line_of row ∷ (ls ++ after)) (map-append line_of (flat block) (flat behind)) ∙ ap (λ (ls : List Line). line_of row ∷ ls) (append_assoc (seen block) (seen behind) after)

pub seen-reversed : (row : Row Tree) (block behind : Lines) (before : List Line) → reverse (seen behind) ++ (reverse (seen block) ++ (line_of row ∷ before)) ≡ reverse (seen (line row block behind)) ++ before
seen-reversed row block behind before =
    let b = seen block in
    let c = seen behind in
    let one : seen (line row block behind) ≡ (line_of row ∷ []) ++ (b ++ c) = ap (λ (ls : List Line). line_of row ∷ ls) (map-append line_of (flat block) (flat behind)) in
    let two : reverse (seen (line row block behind)) ≡ (reverse c ++ reverse b) ++ (line_of row ∷ []) =
    ap reverse one ∙ reverse-append (line_of row ∷ []) (b ++ c) ∙ ap (λ (ls : List Line). ls ++ (line_of row ∷ [])) (reverse-append b c) in
    sym (ap (λ (ls : List Line). ls ++ before) two ∙ append_assoc (reverse c ++ reverse b) (line_of row ∷ []) before ∙ append_assoc (reverse c) (reverse b) (line_of row ∷ before))

-- ---- levels

-- all lines are of this level or deeper
abbrev pub AllFrom : ℕ → List Line → Type 0
AllFrom level [] = Unit {0}
AllFrom level (x ∷ lines) = (level ≤ x.level) × AllFrom level lines

pub from-append : (level : ℕ) (xs ys : List Line) → AllFrom level xs → AllFrom level ys → AllFrom level (xs ++ ys)
from-append level [] ys h k = k
from-append level (x ∷ xs) ys h k = (h.0, from-append level xs ys h.1 k)

from-lower : (level lower : ℕ) (xs : List Line) → lower ≤ level → AllFrom level xs → AllFrom lower xs
from-lower level lower [] l h = tt
from-lower level lower (x ∷ xs) l h = (omega (arith, h.0), from-lower level lower xs l h.1)

pub from-reversed : (level : ℕ) (xs : List Line) → AllFrom level xs → AllFrom level (reverse xs)
from-reversed level [] h = tt
from-reversed level (x ∷ xs) h = subst (λ (ls : List Line). AllFrom level ls) (sym (reverse-append (x ∷ []) xs)) (from-append level (reverse xs) (x ∷ []) (from-reversed level xs h.1) (h.0, tt))

pub seen-from : (level : ℕ) (lines : Lines) → AreAt level lines → AllFrom level (seen lines)
seen-from level none a = tt
seen-from level (line row block behind) a =
    let inside = from-lower (level + 1) level (seen block) (omega arith) (seen-from (level + 1) block a.1) in
    let all = from-append level (seen block) (seen behind) inside (seen-from level behind a.2) in
    (omega (arith, a.0), subst (λ (ls : List Line). AllFrom level ls) (sym (map-append line_of (flat block) (flat behind))) all)

-- the text goes on with a line of a lower level, or ends
abbrev pub Leaves : ℕ → List Line → Type 0
Leaves level [] = Unit {0}
Leaves level (x ∷ lines) = x.level < level

pub leaves-behind : (level : ℕ) (behind : Lines) (after : List Line) → AreAt level behind → Leaves level after → Leaves (level + 1) (seen behind ++ after)
leaves-behind level none [] a l = tt
leaves-behind level none (x ∷ after) a l = omega arith
leaves-behind level (line row block behind) after a l = omega (arith, a.0)

-- ---- what deeper lines leave as it is

pub elders-behind : (level : ℕ) (xs before : List Line) → AllFrom (level + 1) xs → elders level (xs ++ before) ≡ elders level before
elders-behind level [] before h = refl
elders-behind level (x ∷ xs) before h =
    let a : nat_lt x.level level ≡ false = grind (arith, nat_tests, h.0) in
    let b : nat_lt level x.level ≡ true = grind (arith, nat_tests, h.0) in
    rw (a, b) (elders-behind level xs before h.1)

pub under-behind : (level : ℕ) (xs before : List Line) → AllFrom (level + 1) xs → under level (xs ++ before) ≡ under level before
under-behind level [] before h = refl
under-behind level (x ∷ xs) before h = let a : nat_lt x.level level ≡ false = grind (arith, nat_tests, h.0) in rw a (under-behind level xs before h.1)

-- a `try` is left by a line of a lower level
either-true : (a b : Bool) → b ≡ true → (a || b) ≡ true
either-true true b e = refl
either-true false b e = e

both-ways : (a p q : Bool) → p ≡ true → q ≡ true → (if a then p else q) ≡ true
both-ways true p q e f = e
both-ways false p q e f = f

pub try-left : (level limit : ℕ) (xs before : List Line) (opener : Line) → AllFrom (opener.level + 1) xs → level < opener.level → opener.level < limit → is_try opener.head ≡ true
    → leaves_try level limit (xs ++ (opener ∷ before)) ≡ true
try-left level limit [] before opener h l m e =
    let a : nat_lt level opener.level ≡ true = grind (arith, nat_tests) in
    let b : nat_lt opener.level limit ≡ true = grind (arith, nat_tests) in
    rw (a, b, e) refl
try-left level limit (x ∷ xs) before opener h l m e =
    let a : nat_lt level x.level ≡ true = grind (arith, nat_tests, h.0) in
    let rest = xs ++ (opener ∷ before) in
    rw a (both-ways (nat_lt x.level limit) (is_try x.head || leaves_try level x.level rest) (leaves_try level limit rest)
    (either-true (is_try x.head) (leaves_try level x.level rest) (try-left level x.level xs before opener h.1 l (omega (arith, h.0)) e)) (try-left level limit xs before opener h.1 l m e))

pub nearest-deep : (xs before : List Line) (opener : Line) → AllFrom (opener.level + 1) xs → opener.level < suc (level_of (nearest (xs ++ (opener ∷ before))))
nearest-deep [] before opener h = omega arith
nearest-deep (x ∷ xs) before opener h = omega (arith, h.0)
