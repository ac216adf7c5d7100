use Rattle.std.proofs.Common.{◌≡◌, ◌-◌, ◌+◌, ◌∙◌, fold, take, sym, ap, arith, rules, Some, Bool}
use Rattle.std.specs.Option.{ForSome}
use Rattle.lint_outside.specs.declared.outside.Listing.TheVariants as listing
use Rattle.file_list.specs.Asked.{Asks, IsRightSoFar}
use Rattle.file_list.specs.Walked.{Step, at_name, walked}
use Rattle.file_list.proofs.Asking.{asks_to, asks_then, right_so_far}
use Rattle.file_list.proofs.Walks.{visit, step_on, step_past, walked_through}
use Rattle.file_list.proofs.walking.+walk.Goals as goal
use Rattle.file_list.proofs.walking.+walk.Goals.{then-branch+in_ok-walk-in-Some-Names, else-branch}

pub at_name-requires : goal.at_name-requires
at_name-requires g t c = right_so_far c.loop-path.invariant.held (right_so_far c.names.ensures.held c.requires.right c.in_ok-listing.ensures.asks) c.loop-path.invariant.asks

pub walk-requires : goal.walk-requires
walk-requires g t c κs within =
    let before = right_so_far c.loop-path.invariant.held (right_so_far c.names.ensures.held c.requires.right c.in_ok-listing.ensures.asks) c.loop-path.invariant.asks in
    let seen = c.in_ok-at_name-in-Some-Names.ensures in
    (omega arith, (search rules, (right_so_far c.at_name.ensures.held before seen.asks, λ tree told. seen.folder tree (sym c.at_name.ensures.held ∙ told) c.if-branch.true)))

pub loop-path-preserved : goal.loop-path-preserved
loop-path-preserved g t c =
    let so_far = c.loop-path.invariant in
    let seen = c.in_ok-at_name-in-Some-Names.ensures in
    let both = asks_then (λ answers. at_name answers c.args.recursive (fold (visit answers c.args.ignore.now c.args.recursive (c.args.levels - 1)) c.args.findings.now (take c.loop-path.path-index c.as_slice-path-items.result.now)) c.path-item.result) (c.at_name.new.findings, c.in_ok-at_name-in-Some-Names.field-0)
    so_far.held so_far.asks seen.asks (λ answers first second. second ∙ ap (λ f. at_name answers c.args.recursive f c.path-item.result) first) in
    elim c.if-branch.branch [
      | then-branch+in_ok-walk-in-Some-Names w ↦ rw (w.known-is, w.findings-is, w.files-is) record {
        asks = asks_then (λ answers. fold (visit answers c.args.ignore.now c.args.recursive (c.args.levels - 1)) c.args.findings.now (take (c.loop-path.path-index + 1) c.as_slice-path-items.result.now)) w.walk.new.findings
            (c.at_name.ensures.held ∙ so_far.held) both w.in_ok-walk-in-Some-Names.ensures.asks
            (λ answers first second. step_on answers c.args.ignore.now c.args.recursive (c.args.levels - 1) c.args.findings.now c.as_slice-path-items.result.now c.loop-path.path-index c.path-item.result (omega arith) c.path-item.is c.at_name.new.findings w.walk.new.findings c.in_ok-at_name-in-Some-Names.field-0 first w.if-branch.true second);
        held = w.walk.ensures.held ∙ c.at_name.ensures.held ∙ so_far.held;
      }
      | else-branch w ↦ rw (w.known-is, w.findings-is, w.files-is) record {
        asks = asks_to (λ answers. fold (visit answers c.args.ignore.now c.args.recursive (c.args.levels - 1)) c.args.findings.now (take (c.loop-path.path-index + 1) c.as_slice-path-items.result.now)) c.at_name.new.findings
            both (λ answers first. step_past answers c.args.ignore.now c.args.recursive (c.args.levels - 1) c.args.findings.now c.as_slice-path-items.result.now c.loop-path.path-index c.path-item.result (omega arith) c.path-item.is c.at_name.new.findings c.in_ok-at_name-in-Some-Names.field-0 first w.if-branch.false);
        held = c.at_name.ensures.held ∙ so_far.held;
      }
    ]

pub returns-after-loop-path-clause-asks : goal.returns-after-loop-path-clause-asks
returns-after-loop-path-clause-asks g t c =
    let names : Some (listing.Names c.in-Some-Names.paths) ≡ c.in_ok-listed_in.field-0 = cc in
    asks_then (λ answers. walked answers c.args.ignore.now c.args.recursive c.args.levels c.args.folder.now c.args.findings.now) c.loop-path.findings
    c.names.ensures.held c.in_ok-listing.ensures.asks c.loop-path.invariant.asks
    (λ answers asked taken. walked_through answers c.args.ignore.now c.args.recursive c.args.levels c.args.folder.now c.args.findings.now c.loop-path.findings c.in_ok-listing.listing c.in-Some-Names.paths c.as_slice-path-items.result.now c.loop-path.path-index (λ e. absurd (c.if-levels-eq0.false e)) asked (names ∙ c.in_ok-listed_in.ensures) c.as_slice-path-items.ensures (omega arith) taken)
