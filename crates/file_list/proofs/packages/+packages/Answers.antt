use Rattle.std.proofs.Common.{rules, ap, ◌∙◌, ◌++◌}
use Rattle.std.specs.Prelude.{codes}
use Rattle.file_list.specs.ModuleNames.{packages}
use Rattle.file_list.proofs.Asking.{asks_to, asks_then}
use Rattle.file_list.proofs.Names.{packages_more, packages_end}
use Rattle.file_list.proofs.packages.+packages.Goals as goal

pub returns-clause-asks : goal.returns-clause-asks
returns-clause-asks g t c =
    asks_then (λ answers. packages answers c.args.most c.args.folder.now) c.in_ok-behind.field-0 c.is_package_folder.ensures.held
    c.in_ok-is_package_folder.ensures.asks c.in_ok-above.ensures.asks
    (λ answers is chain. packages_more answers c.args.most c.args.folder.now _ _ c.in_ok-name.name _ _ (λ e. absurd (c.if-most-eq0.false e)) is c.if-not-branch.false c.folder_of.ensures chain (c.in_ok-name.ensures ∙ ap (λ n. n ++ codes ".") c.last_part.ensures) (search rules))
