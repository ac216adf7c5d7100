use Rattle.std.proofs.Common.{rules, ◌≡◌, ◌++◌}
use Rattle.std.specs.Prelude.{string_bytes}
use Rattle.made_text.specs.MadeText.{class_text}
use Rattle.made_text.proofs.TextLaws.{class_is_short, longer_by}
use Rattle.made_text.proofs.text.push_class.Goals as goal

pub returns-clause-short : goal.returns-clause-short
returns-clause-short c =
    let added : string_bytes c.push_str.new.self ≡ string_bytes c.args.text.now ++ class_text c.args.i = search rules in
    longer_by _ _ _ 128 added (class_is_short c.args.i c.requires)
