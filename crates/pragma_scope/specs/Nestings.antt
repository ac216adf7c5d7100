-- Blocks in preorder, with the way from each to the nearest before it that ends behind it.
use Rattle.std.specs.Prelude.{ℕ, ◌≡◌, ◌≤◌, ◌<◌, ◌+◌, nat_le, false, if◌then◌else◌, List, fold, length, slice_index_or, Option, None, Some}
use Rattle.pragma_scope.specs.declared.block.Block.{Block}
use Rattle.pragma_scope.specs.Regions.{is_before}

-- the last of some blocks that ends on a line or behind it
abbrev pub reaching : ℕ → List Block → Option Block
reaching line blocks = fold (λ found block. if nat_le line block.last then Some block else found) None blocks

-- no block begins before the one in front of it does
abbrev pub Ascend : List Block → Type 0
Ascend blocks = (k : ℕ) (d : Block) → k + 1 < length blocks → is_before (slice_index_or blocks (k + 1) d).start (slice_index_or blocks k d).start ≡ false

-- between so many blocks at the front and the block with this number none ends behind it
pub record IsSkip (blocks : List Block) (n skip : ℕ) : Type 0 where
  pub back : skip ≤ n
  pub ended : (k : ℕ) (d : Block) → skip ≤ k → k < n → (slice_index_or blocks k d).last ≤ (slice_index_or blocks n d).last

abbrev pub AreSkips : List Block → List ℕ → Type 0
AreSkips blocks skips = (n d : ℕ) → n < length skips → IsSkip blocks n (slice_index_or skips n d)

pub record IsNesting (blocks : List Block) (skips : List ℕ) : Type 0 where
  pub whole : length skips ≡ length blocks
  pub right : AreSkips blocks skips
