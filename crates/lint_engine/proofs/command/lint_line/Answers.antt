use Rattle.std.proofs.Common.{None, ap, sym, subst, ◌∙◌}
use Rattle.options_file.specs.Reading.{IsOptionsReadOf, options_path}
use Rattle.options_file.specs.Settings.{settings_by}
use Rattle.lint_engine.proofs.Outcomes.{map_written, read_run, read_status, read_stopped, refused_run, refused_stopped}
use Rattle.lint_engine.proofs.ReadFrom.{both_read, options_alone}
use Rattle.lint_engine.proofs.PartRead.{both_part, nothing_part, options_part}
use Rattle.lint_engine.proofs.command.lint_line.Goals as goal

pub returns-in-Ok-read_settings-clause-ran : goal.returns-in-Ok-read_settings-clause-ran
returns-in-Ok-read_settings-clause-ran g c =
    let is = ap (settings_by c.args.line.now) c.lint_files.ensures.options ∙ c.in-Ok-read_settings.ensures.options in
    read_run c.args.line.now.generate None c.requires (settings_by c.args.line.now c.lint_files.result.read.options) _ is c.lint_files.result.read.list c.lint_files.result.answer _ _ _ c.lint_files.ensures.printed

pub returns-in-Ok-read_settings-clause-refused : goal.returns-in-Ok-read_settings-clause-refused
returns-in-Ok-read_settings-clause-refused g c =
    let is = ap (settings_by c.args.line.now) c.lint_files.ensures.options ∙ c.in-Ok-read_settings.ensures.options in
    read_status c.args.line.now.generate None c.requires (settings_by c.args.line.now c.lint_files.result.read.options) _ is c.lint_files.result.read.list c.lint_files.result.answer _ _ c.lint_files.ensures.printed

pub returns-in-Ok-read_settings-clause-stopped : goal.returns-in-Ok-read_settings-clause-stopped
returns-in-Ok-read_settings-clause-stopped g c =
    let is = ap (settings_by c.args.line.now) c.lint_files.ensures.options ∙ c.in-Ok-read_settings.ensures.options in
    read_stopped c.args.line.now.generate None c.requires (settings_by c.args.line.now c.lint_files.result.read.options) _ is c.lint_files.result.read.list c.lint_files.result.answer _ _ _ c.lint_files.ensures.part

pub returns-in-Ok-read_settings-clause-read : goal.returns-in-Ok-read_settings-clause-read
returns-in-Ok-read_settings-clause-read g c = λ tree e.
    let is = ap (settings_by c.args.line.now) c.lint_files.ensures.options ∙ c.in-Ok-read_settings.ensures.options in
    let first = subst (λ read. IsOptionsReadOf tree (g.F.Files.failed c.args.files.now) (g.F.Files.failed c.read_options.new.files) (g.F.Files.faults c.args.files.now) (g.F.Files.faults c.read_options.new.files) (options_path c.args.line.now.rcfile) read) (sym c.lint_files.ensures.options) (c.in-Ok.ensures.read tree e) in
    map_written c.lint_files.result.answer _ _
    (λ list. both_read c.args.line.now c.requires _ c.lint_files.result.read is tree _ _ _ _ _ _ first (rw c.as_slice-args.ensures at list))
    (c.lint_files.ensures.read tree (c.read_options.ensures.held ∙ e))

pub returns-clause-ran : goal.returns-clause-ran
returns-clause-ran g c =
    refused_run c.args.line.now.generate (settings_by c.args.line.now c.no_files-2.result.options) c.in-Err.fault (λ told. ap (settings_by c.args.line.now) c.no_files-2.ensures.options ∙ c.in-Err.ensures.refused told)
    c.no_files-2.result.list c.refuse-answer.result c.refuse-answer.ensures.told _ _ _ c.refuse-answer.ensures.status c.refuse-answer.ensures.text

pub returns-clause-stopped : goal.returns-clause-stopped
returns-clause-stopped g c =
    refused_stopped c.args.line.now.generate (settings_by c.args.line.now c.no_files-2.result.options) c.in-Err.fault (λ told. ap (settings_by c.args.line.now) c.no_files-2.ensures.options ∙ c.in-Err.ensures.refused told)
    c.no_files-2.result.list c.refuse-answer.result c.refuse-answer.ensures.told _ _ _ c.refuse-answer.ensures.prefix

pub returns-clause-read : goal.returns-clause-read
returns-clause-read g c = λ tree e.
    let first = subst (λ read. IsOptionsReadOf tree (g.F.Files.failed c.args.files.now) (g.F.Files.failed c.read_options.new.files) (g.F.Files.faults c.args.files.now) (g.F.Files.faults c.read_options.new.files) (options_path c.args.line.now.rcfile) read) (sym c.no_files-2.ensures.options) (c.in-Ok.ensures.read tree e) in
    map_written c.refuse-answer.result _ _
    (λ told. options_alone c.args.line.now c.requires c.in-Err.fault c.no_files-2.result (ap (settings_by c.args.line.now) c.no_files-2.ensures.options ∙ c.in-Err.ensures.refused told) c.no_files-2.ensures.list tree _ _ _ _ first)
    c.refuse-answer.ensures.told

pub returns-in-Ok-read_settings-clause-part_read : goal.returns-in-Ok-read_settings-clause-part_read
returns-in-Ok-read_settings-clause-part_read g c = λ tree e.
    let is = ap (settings_by c.args.line.now) c.lint_files.ensures.options ∙ c.in-Ok-read_settings.ensures.options in
    let first = subst (λ read. IsOptionsReadOf tree (g.F.Files.failed c.args.files.now) (g.F.Files.failed c.read_options.new.files) (g.F.Files.faults c.args.files.now) (g.F.Files.faults c.read_options.new.files) (options_path c.args.line.now.rcfile) read) (sym c.lint_files.ensures.options) (c.in-Ok.ensures.read tree e) in
    both_part c.args.line.now c.requires c.lint_files.result.read tree _ _ _ _ first _ is (rw c.as_slice-args.ensures at c.lint_files.ensures.part_read tree (c.read_options.ensures.held ∙ e))

pub returns-clause-part_read : goal.returns-clause-part_read
returns-clause-part_read g c = λ tree e.
    let first = subst (λ read. IsOptionsReadOf tree (g.F.Files.failed c.args.files.now) (g.F.Files.failed c.read_options.new.files) (g.F.Files.faults c.args.files.now) (g.F.Files.faults c.read_options.new.files) (options_path c.args.line.now.rcfile) read) (sym c.no_files-2.ensures.options) (c.in-Ok.ensures.read tree e) in
    options_part c.args.line.now c.requires c.no_files-2.result tree _ _ _ _ first c.no_files-2.ensures.list
