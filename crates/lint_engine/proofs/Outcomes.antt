-- What a command promises, by whether words and options file are read.
use Rattle.std.proofs.Common.{◌≡◌, ◌↔◌, ℕ, false, List, [], Option, Some, refl, sym, ap, subst, ◌∙◌}
use Rattle.std.specs.Prelude.{Ok, Err, IsErr}
use Rattle.std.specs.List.{concat}
use Rattle.lint_outside.specs.Sinks.{Appends, AppendsPrefix}
use Rattle.options.specs.declared.line.Line.{Line}
use Rattle.options.specs.declared.usage.UsageFault.{UsageFault}
use Rattle.options.specs.Usage.{is_memory}
use Rattle.options.specs.Settings.{Settings, options_of}
use Rattle.options_file.specs.Settings.{SettingsRead, settings_by, settings_of}
use Rattle.file_list.specs.declared.entry.Listed.{Listed}
use Rattle.lint_report.specs.declared.outcome.Answer.{Answer}
use Rattle.lint_report.specs.declared.outcome.Answer.TheVariants.{Ran, Memory, SinkFault}
use Rattle.lint_report.specs.declared.outcome.OptionsRead.TheVariants.{NotLooked}
use Rattle.lint_report.specs.declared.outcome.Whole.{Whole}
use Rattle.lint_report.specs.Usage.{usage_line}
use Rattle.lint_engine.specs.Answers.{OnRan, OnSinkFault, OnWritten}
use Rattle.lint_engine.specs.Command.{Said, IsRun, IsRunBy, IsRefused, IsStopped, IsStoppedBy, IsPrinted, IsPartPrinted, generate_of}
use Rattle.lint_engine.specs.Output.{IsShownBy, output_by, error_text_by, status_by}
use Rattle.lint_engine.specs.Shown.{nothing}
use Rattle.lint_engine.proofs.Statuses.{accepted}
use Rattle.lint_engine.proofs.Written.{appends_nothing, prefix_nothing}

-- what follows from a fact where the command ran or a sink failed
pub map_written : (answer : Answer) (P Q : Type 0) → (P → Q) → OnWritten answer P → OnWritten answer Q
map_written (Ran status) P Q f p = f p
map_written Memory P Q f p = tt
map_written SinkFault P Q f p = f p

-- what holds anyway
pub for_written : (answer : Answer) (P : Type 0) → P → OnWritten answer P
for_written (Ran status) P p = p
for_written Memory P p = tt
for_written SinkFault P p = p

-- ---- the options are read

-- `made` is the number of a made text that is asked for, if one is
module _ (generate made : Option ℕ) (same : generate ≡ made) (settled : SettingsRead) (options : Settings) (is : settled ≡ Ok options) (reading : List Listed) where
  printed_by : (answer : Answer) (before now : Option (List ℕ)) → OnRan answer (IsPrinted made options reading before now) → OnRan answer (IsPrinted generate options reading before now)
  printed_by answer before now = subst (λ g. OnRan answer (IsPrinted g options reading before now)) (sym same)

  run_by : (answer : Answer) (before now err : Option (List ℕ)) → OnRan answer (IsPrinted generate options reading before now) → OnRan answer (IsRunBy generate settled reading before now err err)
  run_by (Ran status) before now err done = record {
    found = done.made.found;
    shown = subst (λ s. IsShownBy generate s reading done.made.found) (sym is) done.made.shown;
    printed = subst (λ s. Appends before now (output_by generate s reading done.made.found)) (sym is) (subst (λ lines. Appends before now (concat lines)) done.made.lines_are done.printed);
    reported = subst (λ s. Appends err err (error_text_by s)) (sym is) (appends_nothing err err refl);
    status_is = subst (λ s. status ≡ status_by s done.made.found) (sym is) done.made.status_is;
  }
  run_by Memory before now err done = tt
  run_by SinkFault before now err done = tt

  pub read_run : (answer : Answer) (before now err : Option (List ℕ)) → OnRan answer (IsPrinted made options reading before now) → OnRan answer (IsRunBy generate settled reading before now err err)
  read_run answer before now err done = run_by answer before now err (printed_by answer before now done)

  pub read_status : (answer : Answer) (before now : Option (List ℕ)) → OnRan answer (IsPrinted made options reading before now) → OnRan answer (λ status. (status ≡ 32) ↔ IsErr settled)
  read_status (Ran status) before now done = accepted settled options done.made.found status is done.made.status_is
  read_status Memory before now done = tt
  read_status SinkFault before now done = tt

  -- a sink failed
  stopped_by : (answer : Answer) (before now err : Option (List ℕ)) → OnSinkFault answer (IsPartPrinted generate options reading before now) → OnSinkFault answer (IsStoppedBy generate settled reading before now err err)
  stopped_by (Ran status) before now err part = tt
  stopped_by Memory before now err part = tt
  stopped_by SinkFault before now err part = record {
    found = part.made.found;
    shown = subst (λ s. IsShownBy generate s reading part.made.found) (sym is) part.made.shown;
    printed = subst (λ s. AppendsPrefix before now (output_by generate s reading part.made.found)) (sym is) (subst (λ lines. AppendsPrefix before now (concat lines)) part.made.lines_are part.printed);
    reported = subst (λ s. AppendsPrefix err err (error_text_by s)) (sym is) (prefix_nothing err err [] refl);
  }

  pub read_stopped : (answer : Answer) (before now err : Option (List ℕ)) → OnSinkFault answer (IsPartPrinted made options reading before now) → OnSinkFault answer (IsStoppedBy generate settled reading before now err err)
  read_stopped answer before now err part =
      stopped_by answer before now err (subst (λ g. OnSinkFault answer (IsPartPrinted g options reading before now)) (sym same) part)

-- ---- the words ask for a made text

module _ (said : Said) (line : Line) (classes : ℕ) (is : said ≡ Ok line) (asked : line.generate ≡ Some classes) (read : Whole) (options : read.options ≡ NotLooked) (list : read.list ≡ []) where
  generated : generate_of said ≡ Some classes
  generated = ap generate_of is ∙ asked

  settled : settings_of said read.options ≡ Ok (options_of [] line.edits)
  settled = ap (λ s. settings_of s read.options) is ∙ ap (settings_by line) options

  printed_of : (answer : Answer) (before now : Option (List ℕ)) → OnRan answer (IsPrinted (Some classes) (options_of [] line.edits) [] before now) → OnRan answer (IsPrinted (Some classes) (options_of [] line.edits) read.list before now)
  printed_of answer before now = subst (λ l. OnRan answer (IsPrinted (Some classes) (options_of [] line.edits) l before now)) (sym list)

  pub made_run : (answer : Answer) (before now err : Option (List ℕ)) → OnRan answer (IsPrinted (Some classes) (options_of [] line.edits) [] before now) → OnRan answer (IsRun said read before now err err)
  made_run answer before now err done =
      read_run (generate_of said) (Some classes) generated (settings_of said read.options) (options_of [] line.edits) settled read.list answer before now err (printed_of answer before now done)

  pub made_status : (answer : Answer) (before now : Option (List ℕ)) → OnRan answer (IsPrinted (Some classes) (options_of [] line.edits) [] before now) → OnRan answer (IsRefused said read)
  made_status answer before now done =
      read_status (generate_of said) (Some classes) generated (settings_of said read.options) (options_of [] line.edits) settled read.list answer before now (printed_of answer before now done)

  -- a sink failed
  pub made_stopped : (answer : Answer) (before now err : Option (List ℕ)) → OnSinkFault answer (IsPartPrinted (Some classes) (options_of [] line.edits) [] before now) → OnSinkFault answer (IsStopped said read before now err err)
  made_stopped answer before now err part =
      read_stopped (generate_of said) (Some classes) generated (settings_of said read.options) (options_of [] line.edits) settled read.list answer before now err
      (subst (λ l. OnSinkFault answer (IsPartPrinted (Some classes) (options_of [] line.edits) l before now)) (sym list) part)

-- ---- words or options file are refused

module _ (generate : Option ℕ) (settled : SettingsRead) (fault : UsageFault) (refused : is_memory fault ≡ false → settled ≡ Err fault) (reading : List Listed) where
  pub refused_run : (answer : Answer) → OnWritten answer (is_memory fault ≡ false) → (out err now : Option (List ℕ)) → OnRan answer (λ status. status ≡ 32) → OnRan answer (λ _. Appends err now (usage_line fault)) → OnRan answer (IsRunBy generate settled reading out out err now)
  refused_run (Ran status) told out err now same said = record {
    found = nothing;
    shown = subst (λ s. IsShownBy generate s reading nothing) (sym (refused told)) refl;
    printed = subst (λ s. Appends out out (output_by generate s reading nothing)) (sym (refused told)) (appends_nothing out out refl);
    reported = subst (λ s. Appends err now (error_text_by s)) (sym (refused told)) said;
    status_is = subst (λ s. status ≡ status_by s nothing) (sym (refused told)) same;
  }
  refused_run Memory told out err now same said = tt
  refused_run SinkFault told out err now same said = tt

  -- a sink failed
  pub refused_stopped : (answer : Answer) → OnWritten answer (is_memory fault ≡ false) → (out err now : Option (List ℕ)) → OnSinkFault answer (AppendsPrefix err now (usage_line fault)) → OnSinkFault answer (IsStoppedBy generate settled reading out out err now)
  refused_stopped (Ran status) told out err now part = tt
  refused_stopped Memory told out err now part = tt
  refused_stopped SinkFault told out err now part = record {
    found = nothing;
    shown = subst (λ s. IsShownBy generate s reading nothing) (sym (refused told)) refl;
    printed = subst (λ s. AppendsPrefix out out (output_by generate s reading nothing)) (sym (refused told)) (prefix_nothing out out [] refl);
    reported = subst (λ s. AppendsPrefix err now (error_text_by s)) (sym (refused told)) part;
  }
