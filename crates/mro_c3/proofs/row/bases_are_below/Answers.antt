use Rattle.std.proofs.Common.{◌≡◌, ◌<◌, ◌∙◌, true, false}
use Rattle.std.specs.Bool.{IsTrue}
use Rattle.std.proofs.lemmas.List.Elements.{All-same}
use Rattle.mro_c3.specs.Order.{bases}
use Rattle.mro_c3.proofs.MarkLaws.{row_is}
use Rattle.mro_c3.proofs.row.bases_are_below.Goals as goal

pub returns-then-not-are_below : goal.returns-then-not-are_below
returns-then-not-are_below c = (
  λ h. let e : false ≡ true = h in absurd (cc),
  λ below.
      let row : c.as_slice.result.now ≡ bases c.args.rows.now c.loop-class.class =
      c.as_slice.ensures ∙ row_is c.args.rows.now c.loop-class.class c.index-rows-class.result c.loop-class-test.true c.index-rows-class.is in
      let passed : IsTrue c.are_below.result =
      c.are_below.ensures.1 (All-same (λ base. base < c.loop-class.class) c.as_slice.result.now (bases c.args.rows.now c.loop-class.class) row (below c.loop-class.class c.loop-class-test.true)) in
      let failed : c.are_below.result ≡ false = c.if-not-are_below.true in
      let told : c.are_below.result ≡ true = passed in
      absurd (cc),
)
