use Rattle.scope_rules.specs.Answers.{load_mark, store_mark, delete_mark}
use Rattle.scope_bind.proofs.TableLaws.{table_of}
use Rattle.scope_bind.proofs.build.finish.Goals as goal

pub returns : goal.returns
returns c =
    let t = c.args.tree.now in
    record {
      places = c.requires.places;
      openers = c.in_ok-openers.ensures;
      names = c.requires.names;
      answers = c.in_ok-answers.ensures;
      binders = c.requires.binders;
      loads = table_of (load_mark t) t _ _ c.in_ok-reads.ensures c.in_ok-loads.ensures;
      stores = table_of (store_mark t) t _ _ c.in_ok-stored.ensures c.in_ok-stores.ensures;
      local_names = c.requires.local_names;
      deletes = table_of (delete_mark t) t _ _ c.in_ok-removed.ensures c.in_ok-deletes.ensures;
    }
