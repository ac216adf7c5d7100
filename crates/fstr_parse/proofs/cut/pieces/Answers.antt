use Rattle.std.proofs.Common.{rules, ◌≡◌, ◌∷◌, [], ◌++◌, ◌+◌, ◌-◌, length, inl, sym, ap, ◌∙◌, subst, arith, MatchOption}
use Rattle.std.proofs.lemmas.Result.{err_from_is_err_and}
use Rattle.fstr_parse.specs.Parts.{IsPart, IsOver}
use Rattle.fstr_parse.specs.Pieces.{piece_of}
use Rattle.fstr_parse.proofs.CutLaws.{Cuts-push, pieces_of-push, part_within, depth_small}
use Rattle.fstr_parse.proofs.ReadingLaws.{IsCut-unique, IsCut-no_fault, IsFirstFault-unique, whole_cut, first_fault}
use Rattle.fstr_parse.proofs.OrderLaws.{IsCut-in_order}
use Rattle.fstr_parse.proofs.cut.pieces.Goals as goal

pub returns-in_err-part-clause-complete : goal.returns-in_err-part-clause-complete
returns-in_err-part-clause-complete c = λ all cut.
    let before = c.loop-pieces.invariant in
    let bad = c.in_err-part.ensures in
    let first = first_fault c.args.raw c.args.literal.now c.as_bytes-text.result.now before.front c.loop-pieces.depth c.loop-pieces.rest.now bad.0 c.in_err-part.field-0.0 c.as_bytes-text.ensures.value before.cut before.within bad.1 in
    absurd (IsCut-no_fault c.args.raw c.args.literal.now all _ c.in_err-part.field-0.0 cut first)

pub returns-in_err-part-clause-fault : goal.returns-in_err-part-clause-fault
returns-in_err-part-clause-fault c =
    let before = c.loop-pieces.invariant in
    let bad = c.in_err-part.ensures in
    let first = first_fault c.args.raw c.args.literal.now c.as_bytes-text.result.now before.front c.loop-pieces.depth c.loop-pieces.rest.now bad.0 c.in_err-part.field-0.0 c.as_bytes-text.ensures.value before.cut before.within bad.1 in
    let p = err_from_is_err_and c.from_residual.result c.from_residual.ensures.1 in
    rw (p.1, p.2) (λ _. (length c.args.literal.now - length bad.0, first))

pub returns-in_err-part-clause-every_fault : goal.returns-in_err-part-clause-every_fault
returns-in_err-part-clause-every_fault c = λ place fault other.
    let before = c.loop-pieces.invariant in
    let bad = c.in_err-part.ensures in
    let first = first_fault c.args.raw c.args.literal.now c.as_bytes-text.result.now before.front c.loop-pieces.depth c.loop-pieces.rest.now bad.0 c.in_err-part.field-0.0 c.as_bytes-text.ensures.value before.cut before.within bad.1 in
    let p = err_from_is_err_and c.from_residual.result c.from_residual.ensures.1 in
    rw (p.1, p.2) (inl (IsFirstFault-unique c.args.raw c.args.literal.now _ place c.in_err-part.field-0.0 fault first other).1)

pub loop-pieces-preserved : goal.loop-pieces-preserved
loop-pieces-preserved c =
    let before = c.loop-pieces.invariant in
    let text = c.as_bytes-text.result.now in
    let rest = c.loop-pieces.rest.now in
    let part = c.in-Some.part in
    let depth = c.loop-pieces.depth in
    let is : IsPart c.args.raw depth rest part = subst (λ o. MatchOption o (IsOver depth rest) (IsPart c.args.raw depth rest)) c.in-Some.is c.in_ok-part.ensures in
    let within = part_within c.args.raw depth rest part is in
    let sum : length text - length rest + length rest ≡ 0 + length text = omega (arith, before.within) in
    record {
      front = before.front ++ part ∷ [];
      cut = rw (c.depth_behind-depth.ensures, c.split_at.ensures.back, c.part_len.ensures) (Cuts-push c.args.raw 0 text before.front depth rest part before.cut is);
      so_far = c.in_ok-push_piece.ensures.ok ∙ (ap (λ pieces. pieces ++ piece_of (length text - length rest) depth part) before.so_far ∙ sym (pieces_of-push c.args.raw 0 0 text before.front depth (length text - length rest) rest part before.cut sum));
      within = omega (arith, before.within, c.split_at.ensures.back_len);
      small = rw c.depth_behind-depth.ensures (depth_small c.args.raw depth rest part is before.small);
    }

pub returns-clause-complete : goal.returns-clause-complete
returns-clause-complete c = λ all cut.
    let before = c.loop-pieces.invariant in
    let over : IsOver c.loop-pieces.depth c.loop-pieces.rest.now = search rules in
    IsCut-unique c.args.raw c.args.literal.now c.loop-pieces.pieces all (whole_cut c.args.raw c.args.literal.now c.as_bytes-text.result.now before.front c.loop-pieces.depth c.loop-pieces.rest.now c.loop-pieces.pieces c.as_bytes-text.ensures.value before.cut over before.so_far) cut

pub returns-clause-every_fault : goal.returns-clause-every_fault
returns-clause-every_fault c = λ place fault first.
    let before = c.loop-pieces.invariant in
    let over : IsOver c.loop-pieces.depth c.loop-pieces.rest.now = search rules in
    IsCut-no_fault c.args.raw c.args.literal.now c.loop-pieces.pieces place fault (whole_cut c.args.raw c.args.literal.now c.as_bytes-text.result.now before.front c.loop-pieces.depth c.loop-pieces.rest.now c.loop-pieces.pieces c.as_bytes-text.ensures.value before.cut over before.so_far) first

pub returns-clause-in_order : goal.returns-clause-in_order
returns-clause-in_order c =
    let before = c.loop-pieces.invariant in
    let over : IsOver c.loop-pieces.depth c.loop-pieces.rest.now = search rules in
    IsCut-in_order c.args.raw c.args.literal.now c.loop-pieces.pieces c.utf8.literal (whole_cut c.args.raw c.args.literal.now c.as_bytes-text.result.now before.front c.loop-pieces.depth c.loop-pieces.rest.now c.loop-pieces.pieces c.as_bytes-text.ensures.value before.cut over before.so_far)
