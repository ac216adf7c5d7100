use Rattle.std.proofs.Common.{◌≡◌, ◌==◌, ◌∙◌, rules, tests}
use Rattle.std.proofs.iter.Yields.{fronts}
use Rattle.std.proofs.lemmas.Iterator.{YieldsList, YieldsList-from_slice, YieldsList-from_zip}
use Rattle.std.proofs.lemmas.Iterator.Search.{all_from_yields_List}
use Rattle.std.specs.Iterator.Adapters.{zip_first, zip_second}
use Rattle.std.specs.Slice.Iter.{iter_rest}
use Rattle.options.specs.File.{dash}
use Rattle.options.proofs.FileLaws.{same_bytes}
use Rattle.options.proofs.file.is_written.Goals as goal

pub returns-then-key-name : goal.returns-then-key-name
returns-then-key-name c =
    let first : iter_rest (zip_first c.zip.result) ≡ c.args.key.now = search rules in
    let second : iter_rest (zip_second c.zip.result) ≡ c.args.name.now = search rules in
    let keys : YieldsList fronts (λ y. y.now) (zip_first c.zip.result) c.args.key.now = YieldsList-from_slice c.args.key.now first in
    let names : YieldsList fronts (λ y. y.now) (zip_second c.zip.result) c.args.name.now = YieldsList-from_slice c.args.name.now second in
    all_from_yields_List (λ p. dash p.0 == p.1) c.all.new.self _ c.all.result c.all.ensures.ran (YieldsList-from_zip keys names)
    (λ x b q k. search (rules, tests))
    ∙ same_bytes c.args.key.now c.args.name.now (search rules)
