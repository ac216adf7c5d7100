use Rattle.std.proofs.Common.{rules, sym, ap, ◌∙◌, ◌≡◌, false, true, Some, Option}
use Rattle.lint_outside.specs.declared.outside.Kind.{Kind}
use Rattle.lint_outside.specs.declared.outside.Kind.TheVariants as kind
use Rattle.file_list.specs.Paths.{is_module_file}
use Rattle.file_list.specs.Walked.{at_name}
use Rattle.file_list.proofs.Asking.{asks_to, asks_then, looked_kind}
use Rattle.file_list.proofs.Walks.{name_open, file_taken}
use Rattle.file_list.proofs.walking.at_name.Goals as goal

pub returns-then-is_module_file-clause-asks : goal.returns-then-is_module_file-clause-asks
returns-then-is_module_file-clause-asks g c =
    let file : Some kind.File ≡ c.in_ok-look.field-0 = cc in
    asks_then (λ answers. at_name answers c.args.recursive c.args.findings.now c.args.path.now) (c.add_file.new.findings, false)
    c.look.ensures.held c.in_ok-look.ensures.asks c.in_ok-add_file-in-Some-File.ensures.asks
    (λ answers looked made. name_open answers c.args.recursive c.args.findings.now c.args.path.now c.is_closed.result (Some kind.File) (c.add_file.new.findings, false) c.is_closed.ensures c.if-is_closed.false (file ∙ looked)
    (file_taken answers c.args.recursive c.args.findings.now c.add_file.new.findings c.args.path.now (c.if-is_module_file.ensures ∙ ap is_module_file c.as_str.ensures) made))

pub returns-in_ok-is_walked-in-Some-Folder-clause-folder : goal.returns-in_ok-is_walked-in-Some-Folder-clause-folder
returns-in_ok-is_walked-in-Some-Folder-clause-folder g c =
    let folder : Some kind.Folder ≡ c.in_ok-look.field-0 = cc in
    λ tree told goes_on. looked_kind c.args.path.now kind.Folder c.requires
    (asks_to (λ answers. answers.look c.args.path.now) (Some kind.Folder) c.in_ok-look.ensures.asks (λ answers looked. folder ∙ looked)) tree told
