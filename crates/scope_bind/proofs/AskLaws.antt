-- What is asked of one node.
use Rattle.std.proofs.Common.{◌≡◌, ℕ, Bool, true, false, cond, eqb, refl, sym, ap, ◌∙◌, Option, Some, None}
use Rattle.std.proofs.lemmas.Bool.{ne_eqb}
use Rattle.tree_nodes.specs.declared.kind.Kind.{Kind}
use Rattle.tree_nodes.specs.declared.kind.Kind.TheVariants as kinds
use Rattle.tree_nodes.specs.Trees.{Tree, parent_at}
use Rattle.scope_rules.specs.declared.scope.Where.TheVariants.{Nowhere}
use Rattle.scope_rules.specs.Kinds.{opens}
use Rattle.scope_rules.specs.Nodes.{kind_of}
use Rattle.scope_rules.specs.Places.{around, outer}
use Rattle.scope_rules.specs.Binding.{is_bare_below, is_bare}
use Rattle.scope_rules.specs.Reading.{is_read_name, resolved, answer_of}
use Rattle.scope_rules.specs.Answers.{opened_by}

pub outer_inside : (t : Tree) (s o : ℕ) → (s ≡ 0 → ⊥) → o ≡ around t s → Some o ≡ outer t s
unfolding outer
outer_inside t s o some e = ap (λ (p : ℕ). Some p) e ∙ sym (ap (λ (b : Bool). cond b None (Some (around t s))) (ne_eqb s 0 some))

pub answer_named : (t : Tree) (n : ℕ) → kind_of t n ≡ kinds.Name → answer_of t n ≡ resolved t n
unfolding answer_of is_read_name
answer_named t n e = ap (λ (k : Kind). cond (is_read_name k) (resolved t n) Nowhere) e

pub opened_then : (t : Tree) (n : ℕ) → opens (kind_of t n) ≡ true → Some n ≡ opened_by t n
opened_then t n e = sym (ap (λ (b : Bool). cond b (Some n) None) e)

pub opened_else : (t : Tree) (n : ℕ) → opens (kind_of t n) ≡ false → None ≡ opened_by t n
opened_else t n e = sym (ap (λ (b : Bool). cond b (Some n) None) e)

pub bare_none : (t : Tree) (n : ℕ) → None ≡ parent_at t n → false ≡ is_bare t n
unfolding is_bare is_bare_below
bare_none t n e = ap (is_bare_below t) e
