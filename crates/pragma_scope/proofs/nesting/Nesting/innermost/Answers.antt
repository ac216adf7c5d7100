use Rattle.std.proofs.Common.{◌≡◌, ◌∙◌, ap}
use Rattle.pragma_scope.specs.Regions.{innermost}
use Rattle.pragma_scope.proofs.NestingLaws.{by_reaching}
use Rattle.pragma_scope.proofs.nesting.Nesting.innermost.Goals as goal

pub returns-then-self : goal.returns-then-self
returns-then-self c =
    let whole : c.as_slice-blocks.result.now ≡ c.args.self.now = cc in
    c.reaching.ensures ∙ by_reaching c.args.token c.args.comment c.as_slice-blocks.result.now c.begun_len-begun.result c.begun_len-begun.ensures.point c.begun_len-begun.ensures.within ∙ ap (innermost c.args.token c.args.comment) whole
