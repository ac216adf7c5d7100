use Rattle.std.proofs.Common.{rules, ap, Err}
use Rattle.py_source.specs.Decoding.{IsSourceFault}
use Rattle.py_source.specs.declared.decoding.SourceCause.TheVariants.{NotUtf8}
use Rattle.py_source.proofs.DecodingLaws.{source_unique}
use Rattle.py_source.proofs.decoding.decode.Goals as goal

pub returns-in-Err-clause-every_fault : goal.returns-in-Err-clause-every_fault
returns-in-Err-clause-every_fault c =
    λ n cause there.
    let here : IsSourceFault c.args.bytes.now c.valid_up_to.result NotUtf8 = search rules in
    ap Err (source_unique c.args.bytes.now c.valid_up_to.result n NotUtf8 cause here there)
