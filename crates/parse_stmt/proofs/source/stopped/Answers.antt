use Rattle.std.proofs.Common.{inl, inr, refl}
use Rattle.parse_stmt.proofs.SourceLaws.{row-fault-at, place-within, rows-right, stop-line}
use Rattle.parse_stmt.proofs.source.stopped.Goals as goal

pub returns-in-Ok-Some : goal.returns-in-Ok-Some
returns-in-Ok-Some c = inl (row-fault-at c.args.rows.now c.in-Ok-Some.field-0 c.in-Ok-Some.fault _ _ c.cause_of.result c.in-Ok-Some.field-0-is c.in-Ok-Some.ensures.first (place-within c.in-Ok-Some.field-0 c.in-Ok-Some.fault _ c.in-Ok-Some.ensures.place c.in-Ok-Some.field-0-is) refl c.cause_of.ensures)

pub returns-in-Ok-None : goal.returns-in-Ok-None
returns-in-Ok-None c = inr (rows-right c.args.rows.now c.in-Ok-None.field-0 c.in-Ok-None.field-0-is c.in-Ok-None.ensures.first, stop-line c.args.tokens.now c.lines.result.now c.args.rows.now _ c.pos_of.result c.lines.ensures c.requires c.pos_of.ensures, refl)
