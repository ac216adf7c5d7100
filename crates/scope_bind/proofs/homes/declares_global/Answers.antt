use Rattle.std.proofs.Common.{◌∙◌}
use Rattle.scope_rules.specs.Declaring.{global_mark, declares_global}
use Rattle.scope_bind.proofs.TableLaws.{table_has}
use Rattle.scope_bind.proofs.homes.declares_global.Goals as goal

pub returns : goal.returns
unfolding declares_global
returns c = λ t h. c.has.ensures ∙ table_has (global_mark t) t c.args.declared.now.globals c.args.scope c.args.name.now h.globals
