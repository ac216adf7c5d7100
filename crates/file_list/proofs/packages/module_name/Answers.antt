use Rattle.std.proofs.Common.{rules, ap, ◌∙◌}
use Rattle.file_list.specs.ModuleNames.{module_name}
use Rattle.file_list.proofs.Asking.{asks_to, asks_then}
use Rattle.file_list.proofs.Names.{named_package, named_file}
use Rattle.file_list.proofs.packages.module_name.Goals as goal

pub returns-then-branch-clause-asks : goal.returns-then-branch-clause-asks
returns-then-branch-clause-asks g c =
    asks_then (λ answers. module_name answers c.args.path.now) c.in_ok-behind.field-0 c.is_package_file.ensures.held
    c.in_ok-is_package_file.ensures.asks c.in_ok-above.ensures.asks
    (λ answers is chain. named_package answers c.args.path.now _ _ _ _ _ _ is c.if-branch.true c.folder_of-folder.ensures c.folder_of.ensures chain c.last_part.ensures (search rules))

pub returns-clause-asks : goal.returns-clause-asks
returns-clause-asks g c =
    asks_then (λ answers. module_name answers c.args.path.now) c.in_ok-behind-2.field-0 c.is_package_file.ensures.held
    c.in_ok-is_package_file.ensures.asks c.in_ok-above-2.ensures.asks
    (λ answers is chain. named_file answers c.args.path.now _ _ _ _ _ _ is c.if-branch.false c.folder_of-folder.ensures chain c.last_part-2.ensures c.stem.ensures (search rules))
