use Rattle.std.proofs.Common.{◌≡◌, ◌∙◌, false, true, ap, rules, Err}
use Rattle.std.proofs.lemmas.Result.{IfOk-weaker, IfErr-weaker}
use Rattle.toml.specs.View.{table_view}
use Rattle.options.specs.declared.usage.UsageFault.TheVariants.{BadToml}
use Rattle.options.specs.File.{edits_in, file_edits, pylint_table}
use Rattle.options.proofs.FileLaws.{document_edits, refused_edits}
use Rattle.options.proofs.file.read_toml.Goals as goal

pub returns-in-Ok-clause-edits : goal.returns-in-Ok-clause-edits
returns-in-Ok-clause-edits c =
    let says : file_edits c.args.path.now c.args.bytes.now ≡ edits_in (pylint_table (table_view c.in-Ok.document)) = document_edits c.args.path.now c.args.bytes.now (table_view c.in-Ok.document) c.in-Ok.ensures.ok.0 c.in-Ok.ensures.ok.1 in
    IfOk-weaker c.read_document.result _ _ (λ edits is. says ∙ is) c.read_document.ensures.edits

pub returns-in-Ok-clause-refused : goal.returns-in-Ok-clause-refused
returns-in-Ok-clause-refused c =
    let says : file_edits c.args.path.now c.args.bytes.now ≡ edits_in (pylint_table (table_view c.in-Ok.document)) = document_edits c.args.path.now c.args.bytes.now (table_view c.in-Ok.document) c.in-Ok.ensures.ok.0 c.in-Ok.ensures.ok.1 in
    IfErr-weaker c.read_document.result _ _ (λ fault is honest. says ∙ is honest) c.read_document.ensures.refused

pub returns-in_ok-from_str-in-Err-2-clause-refused : goal.returns-in_ok-from_str-in-Err-2-clause-refused
returns-in_ok-from_str-in-Err-2-clause-refused c honest =
    let path : c.args.path.now ≡ c.in_ok-from_str-in-Err-2.field-0 = search rules in
    let other : c.is_memory.result ≡ false = c.if-is_memory.false in
    refused_edits c.args.path.now c.args.bytes.now (c.in-Err.ensures.refused (λ memory. let told : c.is_memory.result ≡ true = c.is_memory.ensures.1 memory in cc))
    ∙ ap (λ p. Err (BadToml p)) path
