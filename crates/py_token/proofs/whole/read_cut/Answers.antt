use Rattle.std.proofs.Common.{◌≡◌, ◌++◌, sym, ◌∙◌}
use Rattle.py_token.specs.Items.{stop_item}
use Rattle.py_token.proofs.StopLaws.{is_read_at, on_ok_gives}
use Rattle.py_token.proofs.TextLaws.{are_cut_at, parts_at, roomy_at}
use Rattle.py_token.proofs.whole.read_cut.Goals as goal

pub scan-requires-clause-cut : goal.scan-requires-clause-cut
scan-requires-clause-cut c = are_cut_at c.args.characters.now c.args.cut.now.pieces.items c.as_slice.result.now c.args.cut.now.stop c.as_slice.ensures.value c.requires.cut

pub finish-requires-clause-parts : goal.finish-requires-clause-parts
finish-requires-clause-parts c = parts_at c.args.setting.from c.args.text.now c.args.characters.now c.as_slice.result.now c.in-Ok.scanned.tokens.items c.utf8.text c.requires.same c.in-Ok.ensures.tokens

pub finish-requires-clause-room : goal.finish-requires-clause-room
finish-requires-clause-room c = roomy_at c.args.setting.from c.args.text.now c.args.characters.now c.as_slice.result.now c.in-Ok.scanned.tokens.items c.in-Ok.ensures.tokens c.requires.lines c.requires.columns

pub returns-in-Ok-finish-clause-read : goal.returns-in-Ok-finish-clause-read
returns-in-Ok-finish-clause-read c =
    let added : c.add_stop.new.items.items ≡ c.in-Ok.scanned.items.items ++ stop_item c.args.cut.now.stop = on_ok_gives c.add_stop.result _ c.add_stop.ensures (sym c.is_err.ensures.value ∙ c.if-is_err.false) in
    is_read_at c.args.setting c.args.text.now c.args.characters.now c.args.cut.now.pieces.items c.as_slice.result.now c.args.cut.now.stop c.in-Ok.scanned.items.items c.as_slice-2.result.now c.in-Ok-layout.lines.items c.in-Ok-finish.read c.requires.same c.as_slice.ensures.value c.requires.cut c.in-Ok.ensures.items (c.as_slice-2.ensures.value ∙ added) c.in-Ok-layout.ensures.lines c.in-Ok-finish.ensures.text (c.in-Ok-finish.ensures.tokens ∙ c.in-Ok.ensures.tokens) c.in-Ok-finish.ensures.lines (c.in-Ok-finish.ensures.comments ∙ c.in-Ok.ensures.comments) c.in-Ok-finish.ensures.physical
