-- Where no fault stands, each line has around it what its kind wants.
use Rattle.std.proofs.Common.{◌≡◌, ℕ, zero, suc, ◌+◌, ◌<◌, ◌≤◌, List, [], ◌∷◌, ◌++◌, Bool, true, false, not, ◌&&◌, ◌||◌, nat_lt, nat_eq, reverse, Option, Some, None, refl, sym, ap, subst, ◌∙◌, arith}
use Rattle.std.specs.List.{list_all}
use Rattle.std.proofs.lemmas.Bool.Decides.{nat_tests}
use Rattle.std.proofs.lemmas.List.{append-nil}
use Rattle.tree_nodes.specs.Trees.{Tree}
use Rattle.py_grammar.specs.declared.head.Head.{Head}
use Rattle.py_grammar.specs.declared.head.Head.TheVariants as heads
use Rattle.py_blocks.specs.declared.line.Line.{Line}
use Rattle.py_blocks.specs.Heads.{is_header, is_decorator, is_decorated, is_try, is_case, is_handling, is_match, is_opened_try, has_opener}
use Rattle.py_blocks.specs.Rows.{Row, is_empty, line_of}
use Rattle.py_blocks.specs.Rules.{elders, first, second, under, leaves_try, nearest, level_of, around, decorates, begins_block, is_behind_decorator, ends_open, fault_behind}
use Rattle.py_blocks.specs.Statements.{Lines, none, line, AreAt}
use Rattle.py_blocks.proofs.FreeLines.{IsFree, free, neither, then_holds, then_fails, same_answers}
use Rattle.py_blocks.proofs.RightLines.{AreSome, AreDecorated, IsRight, AreRightLines, seen, seen-order, seen-reversed, AllFrom, from-append, from-reversed, seen-from, Leaves, leaves-behind, elders-behind, under-behind, try-left, nearest-deep}

second-holds : (a b : Bool) → (a && b) ≡ true → b ≡ true
second-holds true b e = e
second-holds false b e = absurd cc

-- ---- the block

-- what opens a block has one
needs : (opener : Line) (before rest : List Line) → Leaves (opener.level + 1) rest → ends_open opener rest ≡ false → fault_behind true (opener ∷ before) rest ≡ None → opener.is_open ≡ true → ⊥
needs opener before [] l e n o = cc
needs opener before (x ∷ rest) l e n o =
    let f = (free (opener ∷ before) x rest n).0 in
    let deeper : nat_lt opener.level x.level ≡ true = then_holds opener.is_open (nat_lt opener.level x.level) f.in_block o in
    let higher : nat_lt opener.level x.level ≡ false = grind (arith, nat_tests) in
    cc

has-block : (row : Row Tree) (block : Lines) (before rest : List Line) → Leaves (row.level + 1) rest → ends_open (line_of row) (seen block ++ rest) ≡ false → fault_behind true (line_of row ∷ before) (seen block ++ rest) ≡ None
    → (line_of row).is_open ≡ true → AreSome block
has-block row none before rest l e n o = absurd (needs (line_of row) before rest l e n o)
has-block row (line next inner behind) before rest l e n o = tt

-- and nothing else has
no-block : (row : Row Tree) (block : Lines) (before rest : List Line) → AreAt (row.level + 1) block → fault_behind true (line_of row ∷ before) (seen block ++ rest) ≡ None → (line_of row).is_open ≡ false → block ≡ none
no-block row none before rest a n o = refl
no-block row (line next inner behind) before rest a n o =
    let f = (free (line_of row ∷ before) (line_of next) _ n).0 in
    let deeper : nat_lt row.level next.level ≡ true = grind (arith, nat_tests, a.0) in
    let begins : ((line_of row).is_open && nat_eq next.level (row.level + 1)) ≡ true = then_holds (nat_lt row.level next.level) ((line_of row).is_open && nat_eq next.level (row.level + 1)) f.expected deeper in
    let none_begins : ((line_of row).is_open && nat_eq next.level (row.level + 1)) ≡ false = rw o refl in
    absurd cc

-- ---- a `try`

all-deeper : (level : ℕ) (xs : List Line) → AllFrom (level + 1) xs → list_all (λ next. nat_lt level next.level) xs ≡ true
all-deeper level [] h = refl
all-deeper level (x ∷ xs) h = let a : nat_lt level x.level ≡ true = grind (arith, nat_tests, h.0) in rw a (all-deeper level xs h.1)

-- a `try` has a line of its level behind it
goes-on : (row : Row Tree) (block behind : Lines) (before after : List Line) → AreAt (row.level + 1) block → Leaves row.level after → IsFree before (line_of row) (seen block ++ (seen behind ++ after))
    → fault_behind true (reverse (seen block) ++ (line_of row ∷ before)) (seen behind ++ after) ≡ None → is_try row.head ≡ true → AreSome behind
goes-on row block (line next inner behind) before after a l f n t = tt
goes-on row block none before [] a l f n t =
    let deep = all-deeper row.level (seen block ++ []) (from-append (row.level + 1) (seen block) [] (seen-from (row.level + 1) block a) tt) in
    let shallow = then_fails (is_try row.head) (list_all (λ next. nat_lt row.level next.level) (seen block ++ [])) f.end_try t in
    absurd cc
goes-on row block none before (x ∷ after) a l f n t =
    let lines = reverse (seen block) ++ (line_of row ∷ before) in
    let g = (free lines x after n).0 in
    let deep = from-reversed (row.level + 1) (seen block) (seen-from (row.level + 1) block a) in
    let stays = (neither (leaves_try x.level (suc (level_of (nearest lines))) lines) (is_opened_try (first (elders x.level lines)) && not (is_handling x.head)) g.handled).0 in
    let left = try-left x.level (suc (level_of (nearest lines))) (reverse (seen block)) before (line_of row) deep l (nearest-deep (reverse (seen block)) before (line_of row) deep) t in
    absurd cc

-- ---- decorators

-- a decorator of the level right before has something else behind it
abbrev Awaits : ℕ → List Line → List Line → Type 0
Awaits level before rest =
    (decorates (nearest before) && nat_eq (level_of (nearest before)) level) ≡ true → list_all (λ next. is_decorator next.head && nat_eq next.level level) rest ≡ false

decorator-goes-on : (before : List Line) (decorator : Line) (later : List Line) → IsFree before decorator later → Awaits decorator.level before (decorator ∷ later) → is_decorator decorator.head ≡ true
    → list_all (λ next. is_decorator next.head && nat_eq next.level decorator.level) later ≡ false
decorator-goes-on before decorator later f w d = by_test (is_behind_decorator (around decorator.level before) decorator) refl
  where
    alike : nat_eq decorator.level decorator.level ≡ true
    alike = grind (arith, nat_tests)

    by_test : (b : Bool) → is_behind_decorator (around decorator.level before) decorator ≡ b → list_all (λ next. is_decorator next.head && nat_eq next.level decorator.level) later ≡ false
    by_test true e =
        then_fails (is_decorator decorator.head && nat_eq decorator.level decorator.level) (list_all (λ next. is_decorator next.head && nat_eq next.level decorator.level) later) (w e) (rw (d, alike) refl)
    by_test false e =
        then_fails (is_decorator decorator.head && not (is_behind_decorator (around decorator.level before) decorator)) (list_all (λ next. is_decorator next.head && nat_eq next.level decorator.level) later) f.end_decorators
        (rw (d, e) refl)

-- what stands behind it
decorated : (row : Row Tree) (behind : Lines) (before after : List Line) → AreAt row.level behind → Leaves row.level after → fault_behind true (line_of row ∷ before) (seen behind ++ after) ≡ None
    → list_all (λ next. is_decorator next.head && nat_eq next.level row.level) (seen behind ++ after) ≡ false → is_decorator row.head ≡ true → AreDecorated behind
decorated row none before [] a l n g d = absurd cc
decorated row none before (x ∷ after) a l n g d =
    let f = (free (line_of row ∷ before) x after n).0 in
    let on = then_holds (is_decorator row.head) (is_decorator row.head && nat_eq row.level x.level && is_decorated x.head) f.decorated d in
    let apart : nat_eq row.level x.level ≡ false = grind (arith, nat_tests) in
    let off : (is_decorator row.head && nat_eq row.level x.level && is_decorated x.head) ≡ false = rw (d, apart) refl in
    absurd cc
decorated row (line next inner behind) before after a l n g d =
    let f = (free (line_of row ∷ before) (line_of next) _ n).0 in
    let on = then_holds (is_decorator row.head) (is_decorator row.head && nat_eq row.level next.level && is_decorated next.head) f.decorated d in
    second-holds (is_decorator row.head && nat_eq row.level next.level) (is_decorated next.head) on

decorator-opens-none : (head : Head) (empty : Bool) → is_decorator head ≡ true → (is_header head && empty) ≡ false
decorator-opens-none heads.Decorator empty e = refl
decorator-opens-none head empty e = absurd cc

-- the nearest line before is no decorator of the level
no-decorator : (xs before : List Line) (opener : Line) → AllFrom (opener.level + 1) xs → is_decorator opener.head ≡ false
    → (decorates (nearest (xs ++ (opener ∷ before))) && nat_eq (level_of (nearest (xs ++ (opener ∷ before)))) opener.level) ≡ true → ⊥
no-decorator [] before opener h d e =
    let f : (is_decorator opener.head && nat_eq opener.level opener.level) ≡ false = rw d refl in
    cc
no-decorator (x ∷ xs) before opener h d e =
    let alike = second-holds (is_decorator x.head) (nat_eq x.level opener.level) e in
    let apart : nat_eq x.level opener.level ≡ false = grind (arith, nat_tests, h.0) in
    cc

-- ---- lines within lines

-- a line of a level
line-right : (row : Row Tree) (block behind : Lines) (before after : List Line) → AreAt (row.level + 1) block → AreAt row.level behind → Leaves row.level after
    → Awaits row.level before (line_of row ∷ (seen block ++ (seen behind ++ after))) → IsFree before (line_of row) (seen block ++ (seen behind ++ after))
    → fault_behind true (line_of row ∷ before) (seen block ++ (seen behind ++ after)) ≡ None → fault_behind true (reverse (seen block) ++ (line_of row ∷ before)) (seen behind ++ after) ≡ None
    → IsRight (first (elders row.level before)) (second (elders row.level before)) (under row.level before) row block behind
line-right row block behind before after a b l w f n m = record {
  opener = then_holds true (has_opener row.head (first (elders row.level before)) (second (elders row.level before))) f.opener refl;
  in_match = same_answers (is_match (under row.level before)) (is_case row.head) f.no_case f.stray_case;
  handled = then_holds (is_opened_try (first (elders row.level before))) (is_handling row.head) (neither (leaves_try row.level (suc (level_of (nearest before))) before) (is_opened_try (first (elders row.level before)) && not (is_handling row.head)) f.handled).1;
  has_block = has-block row block before (seen behind ++ after) (leaves-behind row.level behind after b l) f.end_open n;
  no_block = no-block row block before (seen behind ++ after) a n;
  tried = goes-on row block behind before after a l f m;
  decorates = λ d.
      let none_is : block ≡ none = no-block row block before (seen behind ++ after) a n (decorator-opens-none row.head (is_empty row.body) d) in
      let on = decorator-goes-on before (line_of row) (seen block ++ (seen behind ++ after)) f w d in
      decorated row behind before after b l (subst (λ (ls : Lines). fault_behind true (line_of row ∷ before) (seen ls ++ (seen behind ++ after)) ≡ None) none_is n)
      (subst (λ (ls : Lines). list_all (λ next. is_decorator next.head && nat_eq next.level row.level) (seen ls ++ (seen behind ++ after)) ≡ false) none_is on) d;
}

-- a decorator before what is behind a line with its block
awaits-behind : (row : Row Tree) (block behind : Lines) (before after : List Line) → AreAt (row.level + 1) block → Awaits row.level before (line_of row ∷ (seen block ++ (seen behind ++ after)))
    → IsFree before (line_of row) (seen block ++ (seen behind ++ after)) → fault_behind true (line_of row ∷ before) (seen block ++ (seen behind ++ after)) ≡ None
    → Awaits row.level (reverse (seen block) ++ (line_of row ∷ before)) (seen behind ++ after)
awaits-behind row block behind before after a w f n e = by_test (is_decorator row.head) refl
  where
    by_test : (b : Bool) → is_decorator row.head ≡ b → list_all (λ next. is_decorator next.head && nat_eq next.level row.level) (seen behind ++ after) ≡ false
    by_test false d = absurd (no-decorator (reverse (seen block)) before (line_of row) (from-reversed (row.level + 1) (seen block) (seen-from (row.level + 1) block a)) d e)
    by_test true d =
        let none_is : block ≡ none = no-block row block before (seen behind ++ after) a n (decorator-opens-none row.head (is_empty row.body) d) in
        subst (λ (ls : Lines). list_all (λ next. is_decorator next.head && nat_eq next.level row.level) (seen ls ++ (seen behind ++ after)) ≡ false) none_is
        (decorator-goes-on before (line_of row) (seen block ++ (seen behind ++ after)) f w d)

-- all lines of a level
record IsNest (level : ℕ) (before after : List Line) (lines : Lines) : Type 0 where
  right : AreRightLines (first (elders level before)) (second (elders level before)) (under level before) lines
  behind : fault_behind true (reverse (seen lines) ++ before) after ≡ None

abbrev Nests : Lines → ℕ → Type 0
Nests lines level = (before after : List Line) → AreAt level lines → Leaves level after → Awaits level before (seen lines ++ after) → fault_behind true before (seen lines ++ after) ≡ None → IsNest level before after lines

nests-on : (row : Row Tree) (block behind : Lines) → ((level : ℕ) → Nests block level) → ((level : ℕ) → Nests behind level) → AreAt (row.level + 1) block → AreAt row.level behind → (before after : List Line)
    → Leaves row.level after → Awaits row.level before (seen (line row block behind) ++ after) → fault_behind true before (seen (line row block behind) ++ after) ≡ None → IsNest row.level before after (line row block behind)
nests-on row block behind inside beside a b before after l w n =
    let opener = line_of row in
    let order = seen-order row block behind after in
    let w2 : Awaits row.level before (opener ∷ (seen block ++ (seen behind ++ after))) = subst (λ (ls : List Line). Awaits row.level before ls) order w in
    let here = free before opener (seen block ++ (seen behind ++ after)) (subst (λ (ls : List Line). fault_behind true before ls ≡ None) order n) in
    let one = inside (row.level + 1) (opener ∷ before) (seen behind ++ after) a (leaves-behind row.level behind after b l) (λ e. absurd (apart e)) here.1 in
    let deep = from-reversed (row.level + 1) (seen block) (seen-from (row.level + 1) block a) in
    let now = reverse (seen block) ++ (opener ∷ before) in
    let two = beside row.level now after b l (awaits-behind row block behind before after a w2 here.0 here.1) one.behind in
    let elders_are : elders row.level now ≡ row.head ∷ elders row.level before = elders-behind row.level (reverse (seen block)) (opener ∷ before) deep ∙ elders-same in
    let under_is : under row.level now ≡ under row.level before = under-behind row.level (reverse (seen block)) (opener ∷ before) deep ∙ under-same in
    record {
      right = (
        line-right row block behind before after a b l w2 here.0 here.1 one.behind,
        subst (λ (h : List Head). AreRightLines (first h) (second h) (Some row.head) block) elders-inside (subst (λ (h : Option Head). AreRightLines (first (elders (row.level + 1) (opener ∷ before))) (second (elders (row.level + 1) (opener ∷ before))) h block) under-inside one.right),
        subst (λ (h : List Head). AreRightLines (first h) (second h) (under row.level before) behind) elders_are (subst (λ (h : Option Head). AreRightLines (first (elders row.level now)) (second (elders row.level now)) h behind) under_is two.right),
      );
      behind = subst (λ (ls : List Line). fault_behind true ls after ≡ None) (seen-reversed row block behind before) two.behind;
    }
  where
    apart : (is_decorator row.head && nat_eq row.level (row.level + 1)) ≡ true → ⊥
    apart e =
        let alike = second-holds (is_decorator row.head) (nat_eq row.level (row.level + 1)) e in
        let other : nat_eq row.level (row.level + 1) ≡ false = grind (arith, nat_tests) in
        cc

    not_lower : nat_lt row.level row.level ≡ false
    not_lower = grind (arith, nat_tests)

    lower : nat_lt row.level (row.level + 1) ≡ true
    lower = grind (arith, nat_tests)

    elders-same : elders row.level (line_of row ∷ before) ≡ row.head ∷ elders row.level before
    elders-same = rw not_lower refl

    under-same : under row.level (line_of row ∷ before) ≡ under row.level before
    under-same = rw not_lower refl

    elders-inside : elders (row.level + 1) (line_of row ∷ before) ≡ []
    elders-inside = rw lower refl

    under-inside : under (row.level + 1) (line_of row ∷ before) ≡ Some row.head
    under-inside = rw lower refl

nests : (lines : Lines) (level : ℕ) → Nests lines level
nests none level before after a l w n = record { right = tt; behind = n }
nests (line row block behind) level before after a l w n =
    subst (λ (k : ℕ). AreAt (k + 1) block → AreAt k behind → Leaves k after → Awaits k before (seen (line row block behind) ++ after) → IsNest k before after (line row block behind)) a.0
    (λ a1 a2 l2 w2. nests-on row block behind (nests block) (nests behind) a1 a2 before after l2 w2 n) a.1 a.2 l w

-- the lines of a file
pub right-lines : (lines : Lines) → AreAt 0 lines → fault_behind true [] (seen lines) ≡ None → AreRightLines None None None lines
right-lines lines a n =
    (nests lines 0 [] [] a tt (λ e. absurd cc) (subst (λ (ls : List Line). fault_behind true [] ls ≡ None) (sym (append-nil (seen lines))) n)).right
