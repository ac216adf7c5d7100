use Rattle.std.proofs.Common.{◌-◌, false, cond, length, take, ap}
use Rattle.std.specs.Prelude.{codes}
use Rattle.std.proofs.lemmas.Str.Pattern.{ends_text}
use Rattle.file_list.proofs.paths.stem.Goals as goal

pub returns-in-None : goal.returns-in-None
returns-in-None c =
    let name = c.args.name.now in
    ap (λ b. cond b (take (length name - 3) name) name) (ends_text false (codes ".py") name c.in-None.ensures.cases)
