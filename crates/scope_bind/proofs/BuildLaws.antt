-- What holds of a table or of scopes where memory suffices.
use Rattle.std.proofs.Common.{◌≡◌, ℕ, ◌<◌, List, ◌++◌, Option, Result, Ok, Err, IfOk}
use Rattle.std.specs.List.Sorted.{IsStable}
use Rattle.tree_nodes.specs.Trees.{Tree, count_of}
use Rattle.scope_rules.specs.Marks.{Mark}
use Rattle.scope_bind.specs.declared.row.Row.{Row}
use Rattle.scope_bind.specs.declared.scopes.Scopes.{Scopes}
use Rattle.scope_bind.specs.Rows.{row_cmp, AreRowsUpTo, IsTableOf}
use Rattle.scope_bind.specs.Owned.{owned_mark, module_mark, AreEachOnce, AreNameRows}
use Rattle.scope_bind.specs.Scoped.{AreScopesOf, IsNode}
use Rattle.scope_bind.proofs.NameLaws.{name_rows}
use Rattle.scope_bind.proofs.TableLaws.{table_of}
use Rattle.scope_bind.proofs.ScopeLaws.{nodes_known}

pub tables_if : {E : Type 0} (mark : ℕ → Option Mark) (t : Tree) (rows : List Row) (r : Result (List Row) E) → AreRowsUpTo mark (count_of t) rows → IfOk r (λ table. IsStable row_cmp rows table) → IfOk r (IsTableOf mark t)
tables_if mark t rows (Ok table) h stable = table_of mark t rows table h stable
tables_if mark t rows (Err e) h stable = tt

pub names_if : {E : Type 0} (t : Tree) (owned bound rows : List Row) (r : Result (List Row) E) → AreRowsUpTo (owned_mark t) (count_of t) owned → AreRowsUpTo (module_mark t) (count_of t) bound → rows ≡ owned ++ bound → IfOk r (AreEachOnce rows) → IfOk r (AreNameRows t)
names_if t owned bound rows (Ok table) a b e once = name_rows t owned bound rows table a b e once
names_if t owned bound rows (Err e) a b both once = tt

pub nodes_if : {E : Type 0} (t : Tree) (r : Result Scopes E) → IfOk r (AreScopesOf t) → IfOk r (λ s. (n : ℕ) → n < count_of t → IsNode s n)
nodes_if t (Ok s) h = nodes_known t s h
nodes_if t (Err e) h = tt
