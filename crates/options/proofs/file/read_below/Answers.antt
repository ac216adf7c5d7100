use Rattle.std.proofs.Common.{sym, ◌++◌}
use Rattle.std.proofs.lemmas.Map.Iter.{rest_more}
use Rattle.std.proofs.lemmas.Result.{err_from_is_err_and}
use Rattle.std.specs.Map.Iter.{deref_pair}
use Rattle.toml.specs.View.{members_view, table_view}
use Rattle.options.specs.File.{keys_below}
use Rattle.options.proofs.FileLaws.{below_fault}
use Rattle.options.proofs.file.read_below.Goals as goal

pub returns-in_err-read_table-clause-refused : goal.returns-in_err-read_table-clause-refused
returns-in_err-read_table-clause-refused c =
    let p = err_from_is_err_and c.from_residual.result c.from_residual.ensures.1 in
    let split = rest_more deref_pair c.loop-value.value-iterator c.next.new.self c.next.result (c.in-Some.field-0-0, c.in-Some.value) c.in-Some.is c.next.ensures.steps in
    rw (p.1, p.2) (λ honest keys. below_fault c.args.option c.args.edits.now c.loop-value.edits (table_view c.args.table.now) c.loop-value.value-iterator c.next.new.self c.in-Some.field-0-0.now c.in-Some.value.now (table_view c.in-Some-as_table.table.now) c.in_err-read_table.field-0.0 keys (c.loop-value.invariant.so_far keys) split (sym c.in-Some-as_table.ensures) (c.in_err-read_table.ensures.refused honest (keys_below c.args.option (members_view c.next.new.self) ++ keys)))
