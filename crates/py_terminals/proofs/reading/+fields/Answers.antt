use Rattle.std.proofs.Common.{arith, rules, subst, false, filter, None}
use Rattle.std.proofs.lemmas.Result.{err_from_is_err_and}
use Rattle.py_terminals.specs.Cursors.{StandsAt}
use Rattle.py_terminals.specs.Fields.{AreFields, IsFieldRead, is_field}
use Rattle.py_terminals.specs.Lines.{AreRead, IsTokenRead, comes_within, tokens_between}
use Rattle.py_terminals.specs.Tokens.{written}
use Rattle.py_terminals.proofs.FieldLaws.{field_at}
use Rattle.py_terminals.proofs.ReadingLaws.{expression_adds, fields_end, fields_fault, fields_more, on_fault, past_all, past_end, string_adds, tokens_end, tokens_fault, tokens_more}
use Rattle.py_terminals.proofs.reading.+fields.Goals as goal

pub push_expression-returns-in-Ok : goal.push_expression-returns-in-Ok
push_expression-returns-in-Ok t c =
    expression_adds c.args.left c.args.text.now c.args.at c.in-Ok.tokens c.count.result c.args.line.now c.push_tokens.new.line c.push_tokens.result (omega arith) c.in-Ok.ensures.tokens c.count.ensures c.push_tokens.ensures

pub push_string-returns : goal.push_string-returns
push_string-returns t c =
    string_adds _ (record { text = c.args.text.now; pos = c.args.pos }) c.in_ok-pieces.pieces c.as_slice.result.now c.args.line.now c.push_start.new.line c.push_fields.new.line c.push_fields.result c.in_ok-pieces.ensures.cut c.as_slice.ensures c.in_ok-push_start.ensures c.push_fields.ensures

pub push_tokens-loop-i-preserved : goal.push_tokens-loop-i-preserved
push_tokens-loop-i-preserved t c =
    tokens_more _ _ c.args.tokens.now.tokens c.args.end c.loop-i.i c.token.result _ c.args.line.now c.loop-i.line c.push_any.new.line c.loop-i-test.true c.token.ensures.value c.loop-i.invariant c.in_ok-push_any.ensures

pub push_tokens-returns-in_err-push_any : goal.push_tokens-returns-in_err-push_any
push_tokens-returns-in_err-push_any t c =
    let p = err_from_is_err_and c.from_residual.result c.from_residual.ensures.1 in
    rw (p.1, p.2) (on_fault (IsTokenRead (comes_within c.args.left) c.token.result.kind (written c.args.tokens.now.text c.token.result) c.token.result.pos) (AreRead (comes_within c.args.left) c.args.tokens.now.text (tokens_between c.args.tokens.now c.args.first c.args.end)) c.in_err-push_any.field-0.0 (λ found part. tokens_fault _ _ c.args.tokens.now.tokens c.args.end c.loop-i.i c.token.result _ c.args.line.now c.loop-i.line found c.loop-i-test.true c.token.ensures.value c.loop-i.invariant part) c.in_err-push_any.ensures)

pub push_tokens-returns-else-i-count : goal.push_tokens-returns-else-i-count
push_tokens-returns-else-i-count t c =
    tokens_end _ _ c.args.tokens.now.tokens c.args.end c.loop-i.i _ c.args.line.now c.loop-i.line (past_all c.args.tokens.now.tokens c.args.end c.loop-i.i (omega (arith, c.count.ensures, c.if-i-count.false))) c.loop-i.invariant

pub push_tokens-returns-after-loop-i : goal.push_tokens-returns-after-loop-i
push_tokens-returns-after-loop-i t c =
    tokens_end _ _ c.args.tokens.now.tokens c.args.end c.loop-i.i _ c.args.line.now c.loop-i.line (past_end c.args.tokens.now.tokens c.args.end c.loop-i.i (omega (arith, c.loop-i-test.false))) c.loop-i.invariant

pub push_fields-push_field-requires : goal.push_fields-push_field-requires
push_fields-push_field-requires t c =
    let here = field_at (record { text = c.args.text.now; pos = c.args.pos }) c.args.pieces.now c.loop-piece.piece-index (record { field = false; start = 0; end = 0; depth = 0; convert = 0 }) c.inside_of-inside.result.now c.as_bytes.result.now c.expression-inner.result.now c.places_of.result.0 (omega arith) c.requires.1.1.1.1.1 (omega arith) (omega arith) c.inside_of-inside.ensures c.as_bytes.ensures.value c.expression-inner.ensures c.places_of.ensures.places in
    (search rules, (omega (arith, here.small), (here.lines, here.columns)))

pub push_fields-returns : goal.push_fields-returns
push_fields-returns t c =
    fields_end _ (record { text = c.args.text.now; pos = c.args.pos }) c.args.pieces.now c.loop-piece.piece-index c.loop-piece.outer _ c.args.line.now c.loop-piece.line c.push_string_end.new.line (omega arith) c.loop-piece.invariant.so_far c.in_ok-push_string_end.ensures

pub push_fields-returns-in_err-push_field : goal.push_fields-returns-in_err-push_field
push_fields-returns-in_err-push_field t c =
    let here = field_at (record { text = c.args.text.now; pos = c.args.pos }) c.args.pieces.now c.loop-piece.piece-index (record { field = false; start = 0; end = 0; depth = 0; convert = 0 }) c.inside_of-inside.result.now c.as_bytes.result.now c.expression-inner.result.now c.places_of.result.0 (omega arith) c.requires.1.1.1.1.1 (omega arith) (omega arith) c.inside_of-inside.ensures c.as_bytes.ensures.value c.expression-inner.ensures c.places_of.ensures.places in
    let p = err_from_is_err_and c.from_residual.result c.from_residual.ensures.1 in
    rw (p.1, p.2) (on_fault (IsFieldRead (comes_within c.args.left) c.expression-inner.result.now c.places_of.result.0 c.is_in_format-in_format.result c.loop-piece.outer) (AreFields (comes_within c.args.left) (record { text = c.args.text.now; pos = c.args.pos }) None (filter is_field c.args.pieces.now)) c.in_err-push_field.field-0.0 (λ found part. fields_fault _ (record { text = c.args.text.now; pos = c.args.pos }) c.args.pieces.now c.loop-piece.piece-index (record { field = false; start = 0; end = 0; depth = 0; convert = 0 }) _ _ _ _ _ c.args.line.now c.loop-piece.line found (omega arith) c.if-not-piece.false (record { is_text = here.is_text; are_places = here.are_places; is_format = c.is_in_format-in_format.ensures }) c.loop-piece.invariant.so_far part) c.in_err-push_field.ensures)

pub push_fields-loop-piece-preserved : goal.push_fields-loop-piece-preserved
push_fields-loop-piece-preserved t c =
    let here = field_at (record { text = c.args.text.now; pos = c.args.pos }) c.args.pieces.now c.loop-piece.piece-index (record { field = false; start = 0; end = 0; depth = 0; convert = 0 }) c.inside_of-inside.result.now c.as_bytes.result.now c.expression-inner.result.now c.places_of.result.0 (omega arith) c.requires.1.1.1.1.1 (omega arith) (omega arith) c.inside_of-inside.ensures c.as_bytes.ensures.value c.expression-inner.ensures c.places_of.ensures.places in
    record {
      stands = subst (λ b. StandsAt b c.args.pos c.places_of.result.1) c.as_bytes.ensures.value c.places_of.ensures.stands;
      so_far = fields_more _ (record { text = c.args.text.now; pos = c.args.pos }) c.args.pieces.now c.loop-piece.piece-index (record { field = false; start = 0; end = 0; depth = 0; convert = 0 }) _ _ _ _ _ _ c.args.line.now c.loop-piece.line c.push_field.new.line (omega arith) c.if-not-piece.false (record { is_text = here.is_text; are_places = here.are_places; is_format = c.is_in_format-in_format.ensures }) c.outer_behind-outer.ensures c.loop-piece.invariant.so_far c.in_ok-push_field.ensures;
    }
