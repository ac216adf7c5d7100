-- Names as they are read, by what a node's name is.
use Rattle.std.proofs.Common.{◌≡◌, ℕ, ◌≤◌, Bool, true, false, cond, List, [], ◌∷◌, length, get_or, map, refl, sym, ap, ◌∙◌, arith, Option, Some, None, option_map}
use Rattle.lint_values.specs.declared.place.NodeId.{NodeId}
use Rattle.tree_nodes.specs.Trees.{Tree, kids_at}
use Rattle.tree_nodes.specs.Kept.{number_of}
use Rattle.scope_rules.specs.Nodes.{Name, kind_of, name_of, first}
use Rattle.scope_rules.specs.Mangling.{is_read, read_at, spelled}
use Rattle.scope_rules.specs.Binding.{before_dot, imported}

pub spelled_some : (t : Tree) (n : ℕ) (x y : Name) → Some x ≡ name_of t n → y ≡ cond (is_read (kind_of t n)) (read_at t n x) x → Some y ≡ spelled t n
unfolding spelled
spelled_some t n x y e f = ap (λ (z : Name). Some z) f ∙ by_test (is_read (kind_of t n))
  where
    by_test : (b : Bool) → Some (cond b (read_at t n x) x) ≡ cond b (option_map (read_at t n) (name_of t n)) (name_of t n)
    by_test true = ap (option_map (read_at t n)) e
    by_test false = e

pub spelled_none : (t : Tree) (n : ℕ) → None ≡ name_of t n → None ≡ spelled t n
unfolding spelled
spelled_none t n e = by_test (is_read (kind_of t n))
  where
    by_test : (b : Bool) → None ≡ cond b (option_map (read_at t n) (name_of t n)) (name_of t n)
    by_test true = ap (option_map (read_at t n)) e
    by_test false = e

pub imported_some : (t : Tree) (n : ℕ) (x y : Name) → Some x ≡ name_of t n → y ≡ read_at t n (before_dot x) → Some y ≡ imported t n None
unfolding imported
imported_some t n x y e f = ap (λ (z : Name). Some z) f ∙ ap (option_map (λ (z : Name). read_at t n (before_dot z))) e

pub imported_none : (t : Tree) (n : ℕ) → None ≡ name_of t n → None ≡ imported t n None
unfolding imported
imported_none t n e = ap (option_map (λ (z : Name). read_at t n (before_dot z))) e

-- the name behind `as`, as the first of the kids
pub imported_as : (t : Tree) (n : ℕ) (kids : List NodeId) (d : NodeId) → 1 ≤ length kids → map number_of kids ≡ kids_at t n → spelled t (get_or kids 0 d).0 ≡ imported t n (first (kids_at t n))
unfolding imported
imported_as t n [] d some e = absurd (omega arith)
imported_as t n (k ∷ ks) d some e = ap (λ (ns : List ℕ). imported t n (first ns)) e
