use Rattle.scope_rules.specs.Declaring.{local_mark, global_mark, nonlocal_mark}
use Rattle.scope_bind.proofs.TableLaws.{table_of}
use Rattle.scope_bind.proofs.homes.declared_of.Goals as goal

pub returns : goal.returns
returns c =
    let t = c.args.tree.now in
    record {
      locals = table_of (local_mark t) t _ _ c.in_ok-local.ensures c.in_ok-locals.ensures;
      globals = table_of (global_mark t) t _ _ c.in_ok-global.ensures c.in_ok-globals.ensures;
      nonlocals = table_of (nonlocal_mark t) t _ _ c.in_ok-nonlocal.ensures c.in_ok-nonlocals.ensures;
    }
