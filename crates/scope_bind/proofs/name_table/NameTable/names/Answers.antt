use Rattle.std.proofs.Common.{◌≡◌, ◌∙◌, ap, sym, subst, arith, List, [], length, slice_range}
use Rattle.std.proofs.lemmas.List.{length-map}
use Rattle.scope_rules.specs.Nodes.{Name}
use Rattle.scope_bind.specs.declared.row.Row.{Row}
use Rattle.scope_bind.specs.Rows.{key}
use Rattle.scope_bind.specs.Owned.{scope_rank, names_in}
use Rattle.scope_bind.specs.Search.{IsEdge}
use Rattle.scope_bind.proofs.TableLaws.{edges_ordered}
use Rattle.scope_bind.proofs.NameLaws.{names_found}
use Rattle.scope_bind.proofs.name_table.NameTable.names.Goals as goal

pub texts_between-requires-clause-ordered : goal.texts_between-requires-clause-ordered
texts_between-requires-clause-ordered c =
    let s = c.args.scope in
    edges_ordered (scope_rank s) c.self.inside.rows.items c.first_in-start.result c.first_in-end.result
    (subst (λ (rows : List Row). IsEdge (scope_rank s) 1 rows c.first_in-start.result) c.as_slice.ensures.value c.first_in-start.ensures)
    (subst (λ (rows : List Row). IsEdge (scope_rank s) 2 rows c.first_in-end.result) c.as_slice-2.ensures.value c.first_in-end.ensures) (key s [])

pub texts_between-requires-clause-fits : goal.texts_between-requires-clause-fits
texts_between-requires-clause-fits c =
    let same = ap length c.as_slice-3.ensures.value ∙ ap length c.self.invariant.named ∙ length-map c.self.inside.rows.items (λ r. r.name) in
    let rows = ap length c.as_slice-2.ensures.value in
    omega (arith, same, rows, c.first_in-end.ensures.bound)

pub returns : goal.returns
returns c =
    let s = c.args.scope in
    c.texts_between.ensures
    ∙ ap (λ (texts : List Name). slice_range texts c.first_in-start.result c.first_in-end.result) c.as_slice-3.ensures.value
    ∙ names_found c.self.inside.rows.items c.self.inside.texts.items s c.first_in-start.result c.first_in-end.result c.self.invariant
    (subst (λ (rows : List Row). IsEdge (scope_rank s) 1 rows c.first_in-start.result) c.as_slice.ensures.value c.first_in-start.ensures)
    (subst (λ (rows : List Row). IsEdge (scope_rank s) 2 rows c.first_in-end.result) c.as_slice-2.ensures.value c.first_in-end.ensures)
    ∙ ap (λ (rows : List Row). names_in rows s) c.self.view_is
