use Rattle.std.proofs.Common.{◌++◌, Some, None, sym, ap, ◌∙◌, eqb, lit<}
use Rattle.std.specs.List.{list_any}
use Rattle.std.proofs.lemmas.Str.Pattern.{strip_prefix_char}
use Rattle.lint_outside.proofs.NameIn.{name_in_lacks, name_in_other, name_in_deeper, name_in_folder}
use Rattle.lint_outside.proofs.mem_files.name_in.Goals as goal

pub returns-in_default : goal.returns-in_default
returns-in_default c = name_in_lacks c.args.folder.now c.args.path.now (λ rest is. c.in_default.ensures.cases rest is)

pub returns-in_default-strip_prefix : goal.returns-in_default-strip_prefix
returns-in_default-strip_prefix c =
    let front = c.in-Some.ensures.cases in
    name_in_other c.args.folder.now c.args.path.now c.in-Some.rest.now
    (front.1.1 ∙ ap (λ r. c.args.folder.now ++ r) (sym front.2))
    (strip_prefix_char 47 c.in-Some.rest.now None c.in_default-strip_prefix.ensures.cases (lit< tt))

pub returns-then-contains : goal.returns-then-contains
returns-then-contains c =
    let front = c.in-Some.ensures.cases in
    name_in_deeper c.args.folder.now c.args.path.now c.in-Some.rest.now c.in-Some-strip_prefix.name.now
    (front.1.1 ∙ ap (λ r. c.args.folder.now ++ r) (sym front.2))
    (strip_prefix_char 47 c.in-Some.rest.now (Some c.in-Some-strip_prefix.name) c.in-Some-strip_prefix.ensures.cases (lit< tt))
    (sym c.if-contains.true ∙ c.contains.ensures.value ∙ ap (list_any (λ b. eqb b 47)) c.as_bytes.ensures.value)

pub returns-else-contains : goal.returns-else-contains
returns-else-contains c =
    let front = c.in-Some.ensures.cases in
    name_in_folder c.args.folder.now c.args.path.now c.in-Some.rest.now c.in-Some-strip_prefix.name.now
    (front.1.1 ∙ ap (λ r. c.args.folder.now ++ r) (sym front.2))
    (strip_prefix_char 47 c.in-Some.rest.now (Some c.in-Some-strip_prefix.name) c.in-Some-strip_prefix.ensures.cases (lit< tt))
    (sym c.if-contains.false ∙ c.contains.ensures.value ∙ ap (list_any (λ b. eqb b 47)) c.as_bytes.ensures.value)
