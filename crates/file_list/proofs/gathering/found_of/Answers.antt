use Rattle.std.proofs.Common.{◌≡◌, ◌+◌, ◌∙◌, fold, take, length, [], sym, ap, arith}
use Rattle.std.proofs.lemmas.Grind.{common_steps}
use Rattle.std.proofs.lemmas.List.Sums.{fold_more}
use Rattle.file_list.specs.Walked.{with_argument, found_of}
use Rattle.file_list.proofs.Asking.{asks_to, asks_then, right_so_far}
use Rattle.file_list.proofs.gathering.found_of.Goals as goal

pub with_argument-requires : goal.with_argument-requires
with_argument-requires g c = right_so_far c.loop-argument.invariant.held c.requires c.loop-argument.invariant.asks

pub loop-argument-preserved : goal.loop-argument-preserved
loop-argument-preserved g c =
    let so_far = c.loop-argument.invariant in
    record {
      asks = asks_then (λ answers. fold (with_argument answers c.args.ignore.now c.args.recursive) [] (take (c.loop-argument.argument-index + 1) c.args.args.now)) c.with_argument.new.findings
          so_far.held so_far.asks c.in_ok-with_argument.ensures.asks
          (λ answers first second. second ∙ ap (λ f. with_argument answers c.args.ignore.now c.args.recursive f c.argument-item.result) first
          ∙ ap (with_argument answers c.args.ignore.now c.args.recursive (fold (with_argument answers c.args.ignore.now c.args.recursive) [] (take c.loop-argument.argument-index c.args.args.now))) c.argument-item.is
          ∙ sym (fold_more (with_argument answers c.args.ignore.now c.args.recursive) [] c.args.args.now c.loop-argument.argument-index c.argument-item.result (omega arith)));
      held = c.with_argument.ensures.held ∙ so_far.held;
    }

pub returns-clause-asks : goal.returns-clause-asks
returns-clause-asks g c =
    let whole : take c.loop-argument.argument-index c.args.args.now ≡ c.args.args.now = grind (arith, common_steps) in
    asks_to (λ answers. found_of answers c.args.ignore.now c.args.recursive c.args.args.now) c.loop-argument.findings c.loop-argument.invariant.asks
    (λ answers made. made ∙ ap (fold (with_argument answers c.args.ignore.now c.args.recursive) []) whole)
