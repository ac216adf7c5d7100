-- How the logic stores a tree: as its nodes in preorder.
use Rattle.std.specs.Prelude.{ℕ, List, Option, refl}
use Rattle.std.specs.Coded.{Coded, code_by, coded×, coded_ℕ, coded_list, coded_option}
use Rattle.lint_values.specs.declared.place.Pos.{Pos}
use Rattle.tree_nodes.specs.declared.kind.Kind.{Kind}
use Rattle.tree_nodes.specs.contracts.kind.Kind.{the_row}
use Rattle.tree_nodes.specs.Trees.{Node, Tree, Entry, entries}
use Rattle.tree_nodes.specs.Back.{tree_from, tree_from-entries}

abbrev pub kind_code : Coded Kind
kind_code = the_row.coded

abbrev pub pos_code : Coded Pos
pos_code = code_by (ℕ × ℕ) (coded× coded_ℕ coded_ℕ) (λ p. (p.line, p.col)) (λ p. record { line = p.0; col = p.1 }) (λ _. refl)

abbrev pub node_code : Coded Node
node_code =
    code_by (Kind × (Pos × (ℕ × Option (List ℕ)))) (coded× kind_code (coded× pos_code (coded× coded_ℕ (coded_option (coded_list coded_ℕ)))))
    (λ n. (n.kind, (n.pos, (n.end_line, n.name)))) (λ p. record { kind = p.0; pos = p.1.0; end_line = p.1.1.0; name = p.1.1.1 }) (λ _. refl)

abbrev pub entry_code : Coded Entry
entry_code =
    code_by (Node × (List ℕ × Option ℕ)) (coded× node_code (coded× (coded_list coded_ℕ) (coded_option coded_ℕ)))
    (λ e. (e.node, (e.kids, e.parent))) (λ p. record { node = p.0; kids = p.1.0; parent = p.1.1 }) (λ _. refl)

abbrev pub tree_code : Coded Tree
tree_code = code_by (List Entry) (coded_list entry_code) entries tree_from tree_from-entries
