use Rattle.std.proofs.Common.{◌≡◌, ◌++◌, sym, ◌∙◌, subst, ap}
use Rattle.infer_sets.specs.Numbers.{with_set, IsNumber, Grew}
use Rattle.infer_sets.specs.Joins.{Layer}
use Rattle.infer_sets.proofs.Growth.{position-none, position-some, grew-refl}
use Rattle.infer_sets.proofs.Layers.{before, still, grew-asked}
use Rattle.infer_sets.proofs.set_layer.SetLayer.number.Goals as goal

pub number_behind-requires : goal.number_behind-requires
number_behind-requires c = position-none _ _ (sym c.find.ensures ∙ c.in-None.is)

pub invariant_of-self : goal.invariant_of-self
invariant_of-self c = still _ _ _ c.args.set _ c.number_behind.result c.number_behind.ensures.ok c.number_behind.ensures.err c.self.invariant

pub returns-in-Some-clause-ok : goal.returns-in-Some-clause-ok
returns-in-Some-clause-ok c =
    let p = position-some _ _ _ (sym c.find.ensures ∙ c.in-Some.is) in
    subst (λ xs. (xs ≡ with_set xs c.args.set) × IsNumber xs c.in-Some.id c.args.set) (ap (λ (l : Layer). l.sets) c.self.view_is) (before c.self.inside.base.now c.self.inside.own c.args.set _ p.0 p.1)

pub returns-in-Some-clause-grew : goal.returns-in-Some-clause-grew
returns-in-Some-clause-grew c = grew-refl c.args.self.now.sets

pub returns-in-None-clause-grew : goal.returns-in-None-clause-grew
returns-in-None-clause-grew c =
    subst (λ (l : Layer). Grew l.sets (c.self.inside.base.now ++ c.number_behind.new.own)) c.self.view_is (grew-asked c.self.inside.base.now _ _ c.args.set c.number_behind.result c.number_behind.ensures.ok c.number_behind.ensures.err)
