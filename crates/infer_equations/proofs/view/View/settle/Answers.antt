use Rattle.std.proofs.Common.{rules, ◌≡◌, sym, ◌∙◌, ap, subst}
use Rattle.std.specs.Prelude.{IsSome, is_some, None}
use Rattle.std.specs.FinMap.{get}
use Rattle.infer_equations.specs.Seen.{Seen}
use Rattle.infer_equations.proofs.Valued.{some-valued, none-valued, none-numbered}
use Rattle.infer_equations.proofs.Shown.{settled-given, settled-ok}
use Rattle.infer_equations.proofs.view.View.settle.Goals as goal

pub keep_all-requires-clause-apart : goal.keep_all-requires-clause-apart
keep_all-requires-clause-apart c = λ v d. none-valued _ _ v (ap (λ (w : Seen). get w.own v) c.self.view_is ∙ c.requires.apart v d)

pub keep_all-requires-clause-stored : goal.keep_all-requires-clause-stored
keep_all-requires-clause-stored c = λ v has missing.
    c.requires.stored v
    (sym (ap (λ (w : Seen). is_some (get w.work v)) c.self.view_is) ∙ some-valued c.self.inside.layer.sets c.self.inside.work v ∙ ap (λ m. is_some (get m v)) (sym c.replace-work.ensures.value) ∙ has)
    (sym (ap (λ (w : Seen). get w.own v) c.self.view_is) ∙ none-numbered c.self.inside.layer.sets c.self.inside.own v missing)

pub invariant_of-self : goal.invariant_of-self
invariant_of-self c = settled-given c.keep_all.result _ _ _ _ _ _ _ c.replace-work.ensures.value c.keep_all.ensures.ok c.keep_all.ensures.err (c.replace-work.ensures.after ∙ c.new.ensures) c.self.invariant

pub returns-clause-ok : goal.returns-clause-ok
returns-clause-ok c = settled-ok c.keep_all.result _ _ _ _ _ _ c.new.result c.replace-work.ensures.value _ _ c.self.view_is c.keep_all.ensures.ok
