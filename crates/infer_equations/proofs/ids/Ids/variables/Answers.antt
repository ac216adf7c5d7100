use Rattle.std.proofs.Common.{◌≡◌, ◌∙◌, ap, subst, IfOk}
use Rattle.std.proofs.lemmas.Iterator.{items_from_collect}
use Rattle.std.proofs.lemmas.Iterator.Consumers.{YieldsList-from_copied, YieldsList-from_rest}
use Rattle.std.specs.FinMap as map
use Rattle.infer_equations.proofs.Entries.{keys-ascending}
use Rattle.infer_equations.proofs.ids.Ids.variables.Goals as goal

pub returns : goal.returns
returns c =
    let ran = items_from_collect _ c.collect.ensures.ran (YieldsList-from_copied (YieldsList-from_rest c.keys.result c.copied.ensures.source)) in
    let all : c.in_ok-collect.field-0.items ≡ c.keys.result = subst (λ r. IfOk r (λ v. v.items ≡ c.keys.result)) c.in_ok-collect.was ran in
    all ∙ c.keys.ensures.rest ∙ keys-ascending c.self.inside.entries.entries c.keys.ensures.ordered ∙ ap (λ m. map.keys m) c.self.view_is
