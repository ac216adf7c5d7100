use Rattle.std.proofs.Common.{◌≤◌, ap, subst, sym}
use Rattle.std.specs.Prelude.{IfSome}
use Rattle.options.specs.Lines.{line_of}
use Rattle.options_file.specs.Settings.{settings_of}
use Rattle.lint_engine.specs.Command.{IsPartRead, generate_of}
use Rattle.lint_engine.proofs.Outcomes.{for_written, made_run, made_status, made_stopped, map_written, refused_run, refused_stopped}
use Rattle.lint_engine.proofs.PartRead.{nothing_part}
use Rattle.lint_engine.proofs.ReadFrom.{made_read, nothing_read}
use Rattle.lint_engine.proofs.ShownLaws.{determined}
use Rattle.lint_engine.proofs.command.lint_command.Goals as goal

pub lint_made-requires-after_bounds : goal.lint_made-requires-after_bounds
lint_made-requires-after_bounds g c κs within = subst (λ generate. IfSome generate (λ classes. classes ≤ 20000)) c.in-Some.is c.in-Ok.ensures.few

pub returns-in-Some-clause-determined : goal.returns-in-Some-clause-determined
returns-in-Some-clause-determined g c = determined (line_of c.args.words.now) c.lint_made.result.read

pub returns-in-Some-clause-ran : goal.returns-in-Some-clause-ran
returns-in-Some-clause-ran g c =
    made_run (line_of c.args.words.now) c.in-Ok.line c.in-Some.classes c.in-Ok.ensures.line c.in-Some.is c.lint_made.result.read c.lint_made.ensures.options c.lint_made.ensures.list
    c.lint_made.result.answer _ _ _ c.lint_made.ensures.printed

pub returns-in-Some-clause-refused : goal.returns-in-Some-clause-refused
returns-in-Some-clause-refused g c =
    made_status (line_of c.args.words.now) c.in-Ok.line c.in-Some.classes c.in-Ok.ensures.line c.in-Some.is c.lint_made.result.read c.lint_made.ensures.options c.lint_made.ensures.list
    c.lint_made.result.answer _ _ c.lint_made.ensures.printed

pub returns-in-Some-clause-stopped : goal.returns-in-Some-clause-stopped
returns-in-Some-clause-stopped g c =
    made_stopped (line_of c.args.words.now) c.in-Ok.line c.in-Some.classes c.in-Ok.ensures.line c.in-Some.is c.lint_made.result.read c.lint_made.ensures.options c.lint_made.ensures.list
    c.lint_made.result.answer _ _ _ c.lint_made.ensures.part

pub returns-in-Some-clause-read : goal.returns-in-Some-clause-read
returns-in-Some-clause-read g c = λ tree e.
    for_written c.lint_made.result.answer _
    (made_read (line_of c.args.words.now) c.in-Ok.line c.in-Some.classes c.in-Ok.ensures.line c.in-Some.is c.lint_made.result.read c.lint_made.ensures.options c.lint_made.ensures.list tree _ _)

pub returns-in-None-clause-determined : goal.returns-in-None-clause-determined
returns-in-None-clause-determined g c = determined (line_of c.args.words.now) c.lint_line.result.read

pub returns-clause-determined : goal.returns-clause-determined
returns-clause-determined g c = determined (line_of c.args.words.now) c.no_files.result

pub returns-clause-ran : goal.returns-clause-ran
returns-clause-ran g c =
    refused_run (generate_of (line_of c.args.words.now)) (settings_of (line_of c.args.words.now) c.no_files.result.options) c.in-Err.fault (λ told. ap (λ said. settings_of said c.no_files.result.options) (c.in-Err.ensures.refused told))
    c.no_files.result.list c.refuse-answer.result c.refuse-answer.ensures.told _ _ _ c.refuse-answer.ensures.status c.refuse-answer.ensures.text

pub returns-clause-stopped : goal.returns-clause-stopped
returns-clause-stopped g c =
    refused_stopped (generate_of (line_of c.args.words.now)) (settings_of (line_of c.args.words.now) c.no_files.result.options) c.in-Err.fault (λ told. ap (λ said. settings_of said c.no_files.result.options) (c.in-Err.ensures.refused told))
    c.no_files.result.list c.refuse-answer.result c.refuse-answer.ensures.told _ _ _ c.refuse-answer.ensures.prefix

pub returns-clause-read : goal.returns-clause-read
returns-clause-read g c = λ tree e.
    map_written c.refuse-answer.result _ _
    (λ told. nothing_read (line_of c.args.words.now) c.in-Err.fault (c.in-Err.ensures.refused told) c.no_files.result c.no_files.ensures.options c.no_files.ensures.list tree _ _)
    c.refuse-answer.ensures.told

pub returns-in-Some-clause-part_read : goal.returns-in-Some-clause-part_read
returns-in-Some-clause-part_read g c = λ tree e. nothing_part (line_of c.args.words.now) c.lint_made.result.read c.lint_made.ensures.options c.lint_made.ensures.list tree

pub returns-in-None-clause-part_read : goal.returns-in-None-clause-part_read
returns-in-None-clause-part_read g c = λ tree e. subst (λ said. IsPartRead said tree c.lint_line.result.read) (sym c.in-Ok.ensures.line) (c.lint_line.ensures.part_read tree e)

pub returns-clause-part_read : goal.returns-clause-part_read
returns-clause-part_read g c = λ tree e. nothing_part (line_of c.args.words.now) c.no_files.result c.no_files.ensures.options c.no_files.ensures.list tree
