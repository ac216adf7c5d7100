use Rattle.std.proofs.Common.{arith}
use Rattle.py_token.proofs.FaultLaws.{text_fault_at}
use Rattle.py_token.proofs.TextLaws.{are_cut_at, fault_in_text_at, stop_bound}
use Rattle.py_token.proofs.whole.text_fault.Goals as goal

pub fault_rest-rest-requires-clause-cut : goal.fault_rest-rest-requires-clause-cut
fault_rest-rest-requires-clause-cut c = are_cut_at c.args.characters.now c.args.cut.now.pieces.items c.as_slice.result.now c.args.cut.now.stop c.as_slice.ensures.value c.requires.cut

pub fault_rest-rest-requires-clause-stop : goal.fault_rest-rest-requires-clause-stop
fault_rest-rest-requires-clause-stop c = stop_bound c.args.characters.now c.args.cut.now.pieces.items c.args.cut.now.stop c.requires.cut

pub overflow_sub-characters : goal.overflow_sub-characters
overflow_sub-characters c =
    let there = fault_in_text_at c.args.setting.inside c.args.text.now c.args.characters.now c.fault_rest-rest.result.now c.args.cut.now.pieces.items c.as_slice.result.now c.args.cut.now.stop c.args.n c.args.cause c.utf8.text c.requires.same c.as_slice.ensures.value c.fault_rest-rest.ensures c.requires.cut c.requires.within in
    omega (arith, there.shorter)

pub advance-pos-requires-clause-line : goal.advance-pos-requires-clause-line
advance-pos-requires-clause-line c =
    let there = fault_in_text_at c.args.setting.inside c.args.text.now c.args.characters.now c.fault_rest-rest.result.now c.args.cut.now.pieces.items c.as_slice.result.now c.args.cut.now.stop c.args.n c.args.cause c.utf8.text c.requires.same c.as_slice.ensures.value c.fault_rest-rest.ensures c.requires.cut c.requires.within in
    omega (arith, there.place, there.before, c.requires.lines)

pub advance-pos-requires-clause-col : goal.advance-pos-requires-clause-col
advance-pos-requires-clause-col c =
    let there = fault_in_text_at c.args.setting.inside c.args.text.now c.args.characters.now c.fault_rest-rest.result.now c.args.cut.now.pieces.items c.as_slice.result.now c.args.cut.now.stop c.args.n c.args.cause c.utf8.text c.requires.same c.as_slice.ensures.value c.fault_rest-rest.ensures c.requires.cut c.requires.within in
    omega (arith, there.place, there.before, c.requires.columns)

pub returns : goal.returns
returns c =
    text_fault_at c.args.setting c.args.text.now c.args.characters.now c.fault_rest-rest.result.now c.args.cut.now.pieces.items c.as_slice.result.now c.args.cut.now.stop c.args.n c.args.cause c.advance-pos.result c.text_cause.result c.utf8.text c.requires.same c.as_slice.ensures.value c.fault_rest-rest.ensures c.requires.cut c.requires.first c.requires.within c.advance-pos.ensures c.text_cause.ensures
