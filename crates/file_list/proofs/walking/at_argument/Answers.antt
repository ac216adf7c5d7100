use Rattle.std.proofs.Common.{◌∙◌, ◌≡◌, false, Some}
use Rattle.lint_outside.specs.declared.outside.Kind.TheVariants as kind
use Rattle.file_list.specs.Walked.{at_argument}
use Rattle.file_list.proofs.Asking.{asks_to, asks_then, looked_kind}
use Rattle.file_list.proofs.Walks.{argument_open, file_argued}
use Rattle.file_list.proofs.walking.at_argument.Goals as goal

pub returns-then-branch-clause-folder : goal.returns-then-branch-clause-folder
returns-then-branch-clause-folder g c =
    let folder : Some kind.Folder ≡ c.in_ok-look.field-0 = cc in
    λ tree told goes_on. looked_kind c.args.path.now kind.Folder c.requires
    (asks_to (λ answers. answers.look c.args.path.now) (Some kind.Folder) c.in_ok-look.ensures.asks (λ answers looked. folder ∙ looked)) tree told

pub returns-in_ok-add_file-in-Some-File-clause-asks : goal.returns-in_ok-add_file-in-Some-File-clause-asks
returns-in_ok-add_file-in-Some-File-clause-asks g c =
    let file : Some kind.File ≡ c.in_ok-look.field-0 = cc in
    asks_then (λ answers. at_argument answers c.args.recursive c.args.findings.now c.args.path.now) (c.add_file.new.findings, false)
    c.look.ensures.held c.in_ok-look.ensures.asks c.in_ok-add_file-in-Some-File.ensures.asks
    (λ answers looked made. argument_open answers c.args.recursive c.args.findings.now c.args.path.now c.is_closed.result (Some kind.File) (c.add_file.new.findings, false) c.is_closed.ensures c.if-is_closed.false (file ∙ looked)
    (file_argued answers c.args.recursive c.args.findings.now c.add_file.new.findings c.args.path.now made))
