use Rattle.std.proofs.Common.{◌∙◌}
use Rattle.scope_rules.specs.Declaring.{nonlocal_mark, declares_nonlocal}
use Rattle.scope_bind.proofs.TableLaws.{table_has}
use Rattle.scope_bind.proofs.homes.declares_nonlocal.Goals as goal

pub returns : goal.returns
unfolding declares_nonlocal
returns c = λ t h. c.has.ensures ∙ table_has (nonlocal_mark t) t c.args.declared.now.nonlocals c.args.scope c.args.name.now h.nonlocals
