-- What is right is the only answer.
use Rattle.read_lines.proofs.OnlyLaws.{every_from, every_no_form_from, every_field_from}
use Rattle.read_lines.proofs.line.read_line.Goals as goal

pub returns-clause-every : goal.returns-clause-every
returns-clause-every c form is = every_from c.args.tokens.now c.args.line c.line_form.new.builder c.line_form.result c.line_form.ensures.value c.line_form.ensures.no_form c.line_form.ensures.field form is

pub returns-clause-every_no_form : goal.returns-clause-every_no_form
returns-clause-every_no_form c is = every_no_form_from c.args.tokens.now c.args.line c.line_form.new.builder c.line_form.result c.line_form.ensures.value c.line_form.ensures.field is

pub returns-clause-every_field : goal.returns-clause-every_field
returns-clause-every_field c fault is = every_field_from c.args.tokens.now c.args.line c.line_form.new.builder c.line_form.result c.line_form.ensures.value c.line_form.ensures.no_form c.line_form.ensures.field fault is
