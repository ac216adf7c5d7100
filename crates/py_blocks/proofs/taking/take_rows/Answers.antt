use Rattle.std.proofs.Common.{ℕ, suc, ◌-◌, ◌≡◌, map, subst, sym, arith}
use Rattle.py_blocks.specs.Rows.{row_of}
use Rattle.py_blocks.specs.Building.{levels_of}
use Rattle.py_blocks.specs.Taking.{IsTaking}
use Rattle.py_blocks.proofs.TakingLaws.{code-row-made, code-taking-on}
use Rattle.py_blocks.proofs.taking.take_rows.Goals as goal

pub take_row-requires-clause-made : goal.take_row-requires-clause-made
take_row-requires-clause-made c =
    let e : suc (c.loop-left.left - 1) ≡ c.loop-left.left = omega arith in
    code-row-made c.args.builder.now _ c.args.rows.now _ (c.loop-left.left - 1) _ (levels_of c.loop-left.levels.items) c.requires
    (subst (λ (n : ℕ). IsTaking c.args.builder.now c.loop-left.builder (map row_of c.args.rows.now) n (levels_of c.loop-left.levels.items)) (sym e) c.loop-left.invariant) c.split_at.ensures.front

pub loop-left-preserved : goal.loop-left-preserved
loop-left-preserved c =
    let e : suc (c.loop-left.left - 1) ≡ c.loop-left.left = omega arith in
    code-taking-on c.args.builder.now _ _ c.args.rows.now _ (c.loop-left.left - 1) _ (levels_of c.loop-left.levels.items) _ c.requires
    (subst (λ (n : ℕ). IsTaking c.args.builder.now c.loop-left.builder (map row_of c.args.rows.now) n (levels_of c.loop-left.levels.items)) (sym e) c.loop-left.invariant) c.split_at.ensures.front c.in_ok-take_row.ensures
