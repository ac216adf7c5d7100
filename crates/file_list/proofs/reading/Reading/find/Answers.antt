use Rattle.std.proofs.Common.{◌∙◌, ap}
use Rattle.file_list.specs.Modules.{file_of_module}
use Rattle.file_list.proofs.Index.{found_is, missing_is}
use Rattle.file_list.proofs.reading.Reading.find.Goals as goal

pub returns-in-Some : goal.returns-in-Some
returns-in-Some c =
    let dotted = c.args.dotted.now in
    found_is dotted c.self.inside.entries.items c.in-Some.file.now (c.in-Some.ensures.value ∙ c.self.invariant.2 dotted) ∙ ap (file_of_module dotted) c.self.view_is

pub returns-in-None : goal.returns-in-None
returns-in-None c =
    let dotted = c.args.dotted.now in
    missing_is dotted c.self.inside.entries.items (c.in-None.ensures.value ∙ c.self.invariant.2 dotted) ∙ ap (file_of_module dotted) c.self.view_is
