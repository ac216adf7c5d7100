use Rattle.std.proofs.Common.{◌++◌, sym, ◌∙◌, ap, subst}
use Rattle.std.proofs.lemmas.List.{append-nil}
use Rattle.infer_sets.specs.Numbers.{AreApart}
use Rattle.infer_sets.proofs.Layers.{joined-none}
use Rattle.infer_sets.proofs.set_layer.SetLayer.over.Goals as goal

pub invariant_of-result : goal.invariant_of-result
invariant_of-result c =
    (subst AreApart (sym (ap (λ xs. c.args.base.now ++ xs) c.new.ensures ∙ append-nil c.args.base.now)) c.numbers_tell_sets_apart.ensures, joined-none _ _ c.new-2.ensures.empty)
