use Rattle.std.proofs.Common.{◌≡◌, ◌∙◌, ap, sym, subst, arith, List, length, slice_range}
use Rattle.std.proofs.lemmas.List.{length-map}
use Rattle.lint_values.specs.declared.place.NodeId.{NodeId}
use Rattle.scope_bind.specs.declared.row.Row.{Row}
use Rattle.scope_bind.specs.Rows.{key, rank, nodes_in}
use Rattle.scope_bind.specs.Search.{IsEdge}
use Rattle.scope_bind.proofs.TableLaws.{edges_ordered, found}
use Rattle.scope_bind.proofs.table.Table.find.Goals as goal

pub nodes_between-requires-clause-ordered : goal.nodes_between-requires-clause-ordered
nodes_between-requires-clause-ordered c =
    let s = c.args.scope in
    let x = c.args.name.now in
    edges_ordered (rank s x) c.self.inside.rows.items c.first_at-start.result c.first_at-end.result
    (subst (λ (rows : List Row). IsEdge (rank s x) 1 rows c.first_at-start.result) c.as_slice.ensures.value c.first_at-start.ensures)
    (subst (λ (rows : List Row). IsEdge (rank s x) 2 rows c.first_at-end.result) c.as_slice-2.ensures.value c.first_at-end.ensures) (key s x)

pub nodes_between-requires-clause-fits : goal.nodes_between-requires-clause-fits
nodes_between-requires-clause-fits c =
    let same = ap length c.as_slice-3.ensures.value ∙ ap length c.self.invariant.numbered ∙ length-map c.self.inside.rows.items (λ r. r.node) in
    let rows = ap length c.as_slice-2.ensures.value in
    omega (arith, same, rows, c.first_at-end.ensures.bound)

pub returns : goal.returns
returns c =
    let s = c.args.scope in
    let x = c.args.name.now in
    c.nodes_between.ensures
    ∙ ap (λ (nodes : List NodeId). slice_range nodes c.first_at-start.result c.first_at-end.result) c.as_slice-3.ensures.value
    ∙ found c.self.inside.rows.items c.self.inside.nodes.items s x c.first_at-start.result c.first_at-end.result c.self.invariant
    (subst (λ (rows : List Row). IsEdge (rank s x) 1 rows c.first_at-start.result) c.as_slice.ensures.value c.first_at-start.ensures)
    (subst (λ (rows : List Row). IsEdge (rank s x) 2 rows c.first_at-end.result) c.as_slice-2.ensures.value c.first_at-end.ensures)
    ∙ ap (λ (rows : List Row). nodes_in rows s x) c.self.view_is
