use Rattle.std.proofs.Common.{◌≡◌, ◌∙◌, ap}
use Rattle.options.specs.Settings.{Settings}
use Rattle.file_list.specs.Walked.{found_of}
use Rattle.file_list.proofs.Asking.{asks_to}
use Rattle.file_list.proofs.Starting.{right_at_start, counted_at_start, finds_from}
use Rattle.file_list.proofs.gathering.find_paths.Goals as goal

pub found_of-requires : goal.found_of-requires
found_of-requires g c =
    let known = c.new-known.ensures in
    λ tree told. (g.F.Files.failed c.args.files.now, right_at_start c.new-known.result known.looks known.names known.failed tree (g.F.Files.failed c.args.files.now))

pub returns-clause-finds : goal.returns-clause-finds
returns-clause-finds g c =
    let known = c.new-known.ensures in
    let options = c.args.options.now in
    let ignored : c.as_slice-ignore.result.now ≡ options.ignore = c.as_slice-ignore.ensures ∙ ap (λ (o : Settings). o.ignore) c.options.view_is in
    let all : c.options.inside.recursive ≡ options.recursive = ap (λ (o : Settings). o.recursive) c.options.view_is in
    finds_from (g.F.Files.held c.args.files.now) _ _ _ _ c.new-known.result c.found_of.new.known options c.args.args.now c.into_vec.result.items
    (right_at_start c.new-known.result known.looks known.names known.failed)
    (counted_at_start c.new-known.result known.looks known.names known.failed _)
    (asks_to (λ answers. found_of answers options.ignore options.recursive c.args.args.now) c.into_vec.result.items c.in_ok-findings.ensures.asks
    (λ answers made. c.into_vec.ensures ∙ made ∙ ap (λ ignore. found_of answers ignore c.options.inside.recursive c.args.args.now) ignored ∙ ap (λ recursive. found_of answers options.ignore recursive c.args.args.now) all))
