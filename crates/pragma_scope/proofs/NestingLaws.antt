-- What the blocks that were dropped from the end do not change.
use Rattle.std.proofs.Common.{◌≡◌, ℕ, zero, suc, ◌+◌, ◌-◌, ◌≤◌, ◌<◌, Bool, true, false, cond, ◌&&◌, leb, ltb, List, [], ◌∷◌, length, take, get_or, Option, None, Some, refl, sym, ap, ◌∙◌, arith}
use Rattle.std.proofs.lemmas.Bool.Decides.{nat_tests}
use Rattle.std.proofs.lemmas.List.{get_or_default}
use Rattle.std.proofs.lemmas.List.Sums.{fold_more}
use Rattle.std.specs.Prelude.{fold}
use Rattle.std.specs.List.Sorted.{IsPartitionedBy, IsPartitionPoint}
use Rattle.lint_values.specs.declared.place.Pos.{Pos}
use Rattle.py_token.specs.declared.token.Comment.{Comment}
use Rattle.py_token.specs.declared.token.Token.{Token}
use Rattle.pragma_scope.specs.declared.block.Block.{Block}
use Rattle.pragma_scope.specs.Nestings.{Ascend, IsSkip, reaching}
use Rattle.pragma_scope.specs.Regions.{begins_by, holds, innermost, is_before}

-- ---- the last that reaches a line

reached_more : (line : ℕ) (blocks : List Block) (n : ℕ) (d : Block) → n < length blocks → reaching line (take (n + 1) blocks) ≡ cond (leb line (get_or blocks n d).last) (Some (get_or blocks n d)) (reaching line (take n blocks))
reached_more line blocks n d lt = fold_more _ None blocks n d lt

-- the last one reaches the line
pub reaches : (line : ℕ) (blocks : List Block) (n : ℕ) (d : Block) → n < length blocks → line ≤ (get_or blocks n d).last → Some (get_or blocks n d) ≡ reaching line (take (n + 1) blocks)
reaches line blocks n d lt le =
    let here : leb line (get_or blocks n d).last ≡ true = grind (arith, nat_tests) in
    sym (reached_more line blocks n d lt ∙ ap (λ b. cond b (Some (get_or blocks n d)) (reaching line (take n blocks))) here)

-- the last one does not
misses : (line : ℕ) (blocks : List Block) (n : ℕ) (d : Block) → n < length blocks → (get_or blocks n d).last < line → reaching line (take (n + 1) blocks) ≡ reaching line (take n blocks)
misses line blocks n d lt below =
    let here : leb line (get_or blocks n d).last ≡ false = grind (arith, nat_tests) in
    reached_more line blocks n d lt ∙ ap (λ b. cond b (Some (get_or blocks n d)) (reaching line (take n blocks))) here

-- some at the end do not
all_miss : (line : ℕ) (blocks : List Block) (m n : ℕ) (d : Block) → m + n ≤ length blocks → ((k : ℕ) → m ≤ k → k < m + n → (get_or blocks k d).last < line) → reaching line (take (m + n) blocks) ≡ reaching line (take m blocks)
all_miss line blocks m zero d le below = let same : m + 0 ≡ m = omega arith in ap (λ k. reaching line (take k blocks)) same
all_miss line blocks m (suc n) d le below =
    let next : m + suc n ≡ m + n + 1 = omega arith in
    ap (λ k. reaching line (take k blocks)) next
    ∙ misses line blocks (m + n) d (omega arith) (below (m + n) (omega arith) (omega arith))
    ∙ all_miss line blocks m n d (omega arith) (λ k lo lt. below k lo (omega arith))

-- neither the last one nor any that it stands behind
pub skipped : (line : ℕ) (blocks : List Block) (n skip : ℕ) (d : Block) → n < length blocks → IsSkip blocks n skip → (get_or blocks n d).last < line → reaching line (take skip blocks) ≡ reaching line (take (n + 1) blocks)
skipped line blocks n skip d lt is below =
    let back = is.back in
    let sum : skip + (n - skip) ≡ n = omega arith in
    sym (misses line blocks n d lt below ∙ ap (λ k. reaching line (take k blocks)) (sym sum)
    ∙ all_miss line blocks skip (n - skip) d (omega arith) (λ k lo hi. let e = is.ended k d lo (omega arith) in omega arith))

-- ---- the way on from one more block

skip_at : (blocks : List Block) (n m left k : ℕ) (d e : Block) (is : Bool) → ltb m k ≡ is → m + 1 ≡ left → m ≤ k → left ≤ n → n < length blocks → (get_or blocks m e).last ≤ (get_or blocks n e).last → (left ≤ k → (get_or blocks k d).last ≤ (get_or blocks n d).last)
    → (get_or blocks k d).last ≤ (get_or blocks n d).last
skip_at blocks n m left k d e true high next behind le lt last rest =
    let above : left ≤ k = grind (arith, nat_tests) in
    rest above
skip_at blocks n m left k d e false high next behind le lt last rest =
    let here : k ≡ m = grind (arith, nat_tests) in
    let there = ap (λ i. (get_or blocks i d).last) here in
    let same = ap (λ (b : Block). b.last) (get_or_default blocks m d e (omega arith)) in
    let other = ap (λ (b : Block). b.last) (get_or_default blocks n d e lt) in
    omega arith

skip_by : (blocks : List Block) (n m left skip k : ℕ) (d e : Block) (is : Bool) → ltb k m ≡ is → m + 1 ≡ left → left ≤ n → n < length blocks → IsSkip blocks m skip → (get_or blocks m e).last ≤ (get_or blocks n e).last → (left ≤ k → (get_or blocks k d).last ≤ (get_or blocks n d).last)
    → skip ≤ k → k < n → (get_or blocks k d).last ≤ (get_or blocks n d).last
skip_by blocks n m left skip k d e true low next le lt one last rest lo hi =
    let before : k < m = grind (arith, nat_tests) in
    let first = one.ended k d lo before in
    let same = ap (λ (b : Block). b.last) (get_or_default blocks m d e (omega arith)) in
    let other = ap (λ (b : Block). b.last) (get_or_default blocks n d e lt) in
    omega arith
skip_by blocks n m left skip k d e false low next le lt one last rest lo hi =
    let behind : m ≤ k = grind (arith, nat_tests) in
    skip_at blocks n m left k d e (ltb m k) refl next behind le lt last rest

-- two ways one behind the other
pub skip_on : (blocks : List Block) (n m left skip : ℕ) (e : Block) → m + 1 ≡ left → n < length blocks → IsSkip blocks n left → IsSkip blocks m skip → (get_or blocks m e).last ≤ (get_or blocks n e).last → IsSkip blocks n skip
skip_on blocks n m left skip e next lt is one last =
    let back = is.back in
    let further = one.back in
    record {
      back = omega arith;
      ended = λ k d lo hi. skip_by blocks n m left skip k d e (ltb k m) refl next back lt one last (λ low. is.ended k d low hi) lo hi;
    }

-- no way yet
pub skip_start : (blocks : List Block) (n : ℕ) → IsSkip blocks n n
skip_start blocks n = record { back = omega arith; ended = λ k d lo hi. absurd (omega arith) }

-- ---- the blocks that begin by a token

by_begun : (token : Option Token) (comment : Comment) (found : Option Block) (blocks : List Block) (n : ℕ) → ((k : ℕ) (d : Block) → k < n → begins_by token (get_or blocks k d) ≡ true) → ((k : ℕ) (d : Block) → n ≤ k → k < length blocks → begins_by token (get_or blocks k d) ≡ false) → n ≤ length blocks
    → fold (λ f block. cond (holds token comment block) (Some block) f) found blocks ≡ fold (λ f block. cond (leb comment.pos.line block.last) (Some block) f) found (take n blocks)
by_begun token comment found [] zero early late le = refl
by_begun token comment found [] (suc n) early late le = absurd (omega arith)
by_begun token comment found (block ∷ blocks) zero early late le =
    let here : begins_by token block ≡ false = late zero block (omega arith) (omega arith) in
    let rest = by_begun token comment found blocks zero (λ k d lt. absurd (omega arith)) (λ k d lo lt. late (suc k) d (omega arith) (omega arith)) (omega arith) in
    ap (λ b. fold (λ f x. cond (holds token comment x) (Some x) f) (cond (b && leb comment.pos.line block.last) (Some block) found) blocks) here ∙ rest
by_begun token comment found (block ∷ blocks) (suc n) early late le =
    let here : begins_by token block ≡ true = early zero block (omega arith) in
    let rest = by_begun token comment (cond (leb comment.pos.line block.last) (Some block) found) blocks n (λ k d lt. early (suc k) d (omega arith)) (λ k d lo lt. late (suc k) d (omega arith) (omega arith)) (omega arith) in
    ap (λ b. fold (λ f x. cond (holds token comment x) (Some x) f) (cond (b && leb comment.pos.line block.last) (Some block) found) blocks) here ∙ rest

-- the innermost is the last of them that reaches the comment's line
pub by_reaching : (token : Option Token) (comment : Comment) (blocks : List Block) (n : ℕ) → IsPartitionPoint (λ block. begins_by token block ≡ true) (λ block. begins_by token block ≡ false) blocks n → n ≤ length blocks → reaching comment.pos.line (take n blocks) ≡ innermost token comment blocks
by_reaching token comment blocks n point le = sym (by_begun token comment None blocks n (λ k d lt. point.0 k d (omega arith) lt) (λ k d lo lt. point.1 k d lo lt) le)

-- ---- blocks in their order

not_before : (a b c : Pos) → is_before b a ≡ false → is_before c b ≡ false → is_before c a ≡ false
not_before a b c e f = grind (arith, nat_tests)

begins_on : (token : Option Token) (a b : Block) → is_before b.start a.start ≡ false → begins_by token b ≡ true → begins_by token a ≡ true
begins_on None a b e f = refl
begins_on (Some token) a b e f = grind (arith, nat_tests, not_before a.start b.start token.pos e)

not_itself : (a : Pos) → is_before a a ≡ false
not_itself a = grind (arith, nat_tests)

ascend_to : (blocks : List Block) (i m : ℕ) (d : Block) → Ascend blocks → i + m < length blocks → is_before (get_or blocks (i + m) d).start (get_or blocks i d).start ≡ false
ascend_to blocks i zero d up lt =
    let same : i + 0 ≡ i = omega arith in
    ap (λ k. is_before (get_or blocks k d).start (get_or blocks i d).start) same ∙ not_itself (get_or blocks i d).start
ascend_to blocks i (suc m) d up lt =
    let next : i + suc m ≡ i + m + 1 = omega arith in
    ap (λ k. is_before (get_or blocks k d).start (get_or blocks i d).start) next
    ∙ not_before (get_or blocks i d).start (get_or blocks (i + m) d).start (get_or blocks (i + m + 1) d).start (ascend_to blocks i m d up (omega arith)) (up (i + m) d (omega arith))

-- what a search by halves asks
pub parted : (token : Option Token) (blocks : List Block) → Ascend blocks → IsPartitionedBy (begins_by token) blocks
parted token blocks up i j d le lt passes =
    let sum : i + (j - i) ≡ j = omega arith in
    let order = sym (ap (λ k. is_before (get_or blocks k d).start (get_or blocks i d).start) sum) ∙ ascend_to blocks i (j - i) d up (omega arith) in
    begins_on token (get_or blocks i d) (get_or blocks j d) order passes
