use Rattle.std.proofs.Common.{◌≡◌, sym, ◌∙◌, ap, subst}
use Rattle.infer_sets.specs.Numbers.{with_set, IsNumber}
use Rattle.infer_sets.specs.Joins.{Layer}
use Rattle.infer_sets.proofs.Growth.{position-none, position-some}
use Rattle.infer_sets.proofs.Layers.{before}
use Rattle.infer_sets.proofs.KeptJoins.{behind-kept, old-number}
use Rattle.infer_sets.proofs.set_layer.SetLayer.keep_join.Goals as goal

pub remember-requires-clause-right : goal.remember-requires-clause-right
remember-requires-clause-right c =
    let p = position-some _ _ _ (sym c.find.ensures ∙ c.in-Some.is) in
    let k = before c.self.inside.base.now c.self.inside.own c.args.set _ p.0 p.1 in
    subst (λ s. IsNumber c.args.self.now.sets c.in-Some.id s) c.requires.right (subst (λ xs. IsNumber xs c.in-Some.id c.args.set) (ap (λ (l : Layer). l.sets) c.self.view_is) k.1)

pub join_behind-requires : goal.join_behind-requires
join_behind-requires c = position-none _ _ (sym c.find.ensures ∙ c.in-None.is)

pub invariant_of-self : goal.invariant_of-self
invariant_of-self c =
    behind-kept _ _ _ (ap (λ (l : Layer). l.sets) c.self.view_is) _ _ c.args.a c.args.b c.args.limit c.args.set c.requires.first c.requires.second c.requires.right c.self.invariant _ c.join_behind.result
    c.join_behind.ensures.ok c.join_behind.ensures.joins c.join_behind.ensures.err c.join_behind.ensures.joins_err

pub returns-in-Some-clause-ok : goal.returns-in-Some-clause-ok
returns-in-Some-clause-ok c =
    let p = position-some _ _ _ (sym c.find.ensures ∙ c.in-Some.is) in
    let k = subst (λ xs. (xs ≡ with_set xs c.args.set) × IsNumber xs c.in-Some.id c.args.set) (ap (λ (l : Layer). l.sets) c.self.view_is) (before c.self.inside.base.now c.self.inside.own c.args.set _ p.0 p.1) in
    let o = old-number c.args.self.now.sets _ _ _ c.args.set _ c.in-Some.id c.remember.result k.0 k.1 c.remember.ensures.sets c.remember.ensures.ok in
    o.0

pub returns-in-Some-clause-joins : goal.returns-in-Some-clause-joins
returns-in-Some-clause-joins c =
    let p = position-some _ _ _ (sym c.find.ensures ∙ c.in-Some.is) in
    let k = subst (λ xs. (xs ≡ with_set xs c.args.set) × IsNumber xs c.in-Some.id c.args.set) (ap (λ (l : Layer). l.sets) c.self.view_is) (before c.self.inside.base.now c.self.inside.own c.args.set _ p.0 p.1) in
    let o = old-number c.args.self.now.sets _ _ _ c.args.set _ c.in-Some.id c.remember.result k.0 k.1 c.remember.ensures.sets c.remember.ensures.ok in
    o.1
