use Rattle.std.proofs.Common.{◌≡◌, ◌+◌, ◌-◌, ◌<◌, ap, ◌∙◌, length, take, arith}
use Rattle.std.specs.Prelude.{slice_index_or}
use Rattle.pragma_scope.specs.Nestings.{IsSkip, reaching}
use Rattle.pragma_scope.proofs.NestingLaws.{skipped}
use Rattle.pragma_scope.proofs.nesting.reaching.Goals as goal

pub loop-left-preserved : goal.loop-left-preserved
loop-left-preserved c =
    let n = c.loop-left.left - 1 in
    let whole = c.requires.nesting.whole in
    let within : n < length c.args.blocks.now = omega arith in
    let is : IsSkip c.args.blocks.now n (slice_index_or c.args.skips.now n 0) = c.requires.nesting.right n 0 (omega arith) in
    let back = is.back in
    let next : n + 1 ≡ c.loop-left.left = omega arith in
    record {
      within = omega arith;
      same = skipped c.args.line c.args.blocks.now n _ _ within is c.if-line-block.false ∙ ap (λ k. reaching c.args.line (take k c.args.blocks.now)) next ∙ c.loop-left.invariant.same;
    }
