use Rattle.std.proofs.Common.{rules, ◌≡◌, ◌-◌, ◌∙◌, ap, sym, subst, length}
use Rattle.std.specs.List.{Contains}
use Rattle.infer_equations.specs.Assignment.{overlaid}
use Rattle.infer_core.specs.Right.{IsRight, FrozenTable}
use Rattle.infer_core.specs.Merge.{merged, risen, shared}
use Rattle.infer_core.proofs.RightTables.{right-overlaid}
use Rattle.infer_core.proofs.Merging.{lacking, lacking-apart, lacking-stored, lacking-fewer, shared-rest}
use Rattle.infer_core.proofs.frozen.Frozen.merge.Goals as goal

pub overflow_sub-shared : goal.overflow_sub-shared
overflow_sub-shared c =
    let e : c.in_ok-missing.missing.items ≡ lacking c.self.inside.table c.in_ok-variables.variables.items = c.in_ok-missing.ensures ∙ ap (λ xs. lacking c.self.inside.table xs) c.deref.ensures.value in
    let l = lacking-fewer c.self.inside.table c.in_ok-variables.variables.items c.in_ok-missing.missing.items e in
    search rules

pub take_over-requires-clause-apart : goal.take_over-requires-clause-apart
take_over-requires-clause-apart c = λ v d.
    lacking-apart c.self.inside.table c.deref.result.now c.in_ok-missing.missing.items c.in_ok-missing.ensures v (subst (λ xs. Contains xs v) c.deref-2.ensures.value d)

pub take_over-requires-clause-stored : goal.take_over-requires-clause-stored
take_over-requires-clause-stored c = λ v has none.
    subst (λ xs. Contains xs v) (sym c.deref-2.ensures.value)
    (lacking-stored c.self.inside.table c.table-solved.result.now c.deref.result.now c.in_ok-missing.missing.items c.in_ok-missing.ensures (c.deref.ensures.value ∙ c.in_ok-variables.ensures) v has none)

pub returns-clause-ok : goal.returns-clause-ok
returns-clause-ok c =
    let sets : c.take_over.new.self ≡ overlaid c.self.inside.table c.args.overlay = c.in_ok-take_over.ensures.ok ∙ ap (λ m. overlaid c.self.inside.table m) c.table-solved.ensures in
    let old = c.self.inside in
    let all : c.len.result ≡ length c.in_ok-variables.variables.items = search rules in
    let few : c.len-2.result ≡ length c.in_ok-missing.missing.items = search rules in
    let added : c.len.result - c.len-2.result ≡ shared old.table c.args.overlay =
    (λ i. all i - few i)
    ∙ ap (λ n. n - length c.in_ok-missing.missing.items) (sym (ap length c.deref.ensures.value))
    ∙ shared-rest old.table c.table-solved.result.now c.deref.result.now c.in_ok-missing.missing.items c.in_ok-missing.ensures (c.deref.ensures.value ∙ c.in_ok-variables.ensures)
    ∙ ap (λ m. shared old.table m) c.table-solved.ensures in
    let again : c.saturating_add-self-inside.result ≡ risen old.again (shared old.table c.args.overlay) = c.saturating_add-self-inside.ensures ∙ ap (λ n. risen old.again n) added in
    (λ i. record { sets = sets i; again = again i }) ∙ ap (λ (f : FrozenTable). merged f c.args.overlay) c.self.view_is

pub returns-clause-right : goal.returns-clause-right
returns-clause-right c = λ count limit right h k.
    let sets : c.take_over.new.self ≡ overlaid c.self.inside.table c.args.overlay = c.in_ok-take_over.ensures.ok ∙ ap (λ m. overlaid c.self.inside.table m) c.table-solved.ensures in
    subst (IsRight count limit right) (sym sets)
    (right-overlaid count limit right c.self.inside.table c.args.overlay (subst (IsRight count limit right) (sym (ap (λ (f : FrozenTable). f.sets) c.self.view_is)) h) k)
