use Rattle.std.proofs.Common.{arith, sym, ap, ◌∙◌, length, Ok, reverse, ◌<◌}
use Rattle.py_layout.proofs.FirstLaws.{open_first}
use Rattle.py_layout.proofs.first.close.Goals as goal

pub returns-in-len1-up-clause-fault : goal.returns-in-len1-up-clause-fault
returns-in-len1-up-clause-fault c =
    let some : 0 < length c.as_slice.result.now = omega arith in
    open_first _ _ c.as_slice.result.now _ c.requires some (c.in-Ok.ensures.value ∙ ap (λ xs. Ok (reverse xs)) (sym c.as_slice.ensures.value))
