-- Sets of names and of scopes, as the lists of what was put into them.
use Rattle.std.specs.Prelude.{◌≡◌, ℕ, List, ◌==◌}
use Rattle.std.specs.Ordering.{nat_cmp}
use Rattle.std.specs.List.{list_any}
use Rattle.std.specs.Global.{Vec}
use Rattle.std.specs.BTreeSet.{BTreeSet, contains, contains_by}
use Rattle.std.specs.Cmp.Lexicographic.{slice_cmp}
use Rattle.scope_rules.specs.Nodes.{Name}
use Rattle.unused_names.specs.Reads.{has_name}

-- the set has these names, and no other
pub record HasNames (s : BTreeSet (Vec ℕ)) (ns : List Name) : Type 0 where
  pub has : (x : Name) → contains_by (λ k. slice_cmp nat_cmp x k.items) s ≡ has_name ns x

-- the set has these numbers, and no other
pub record HasNumbers (s : BTreeSet ℕ) (ns : List ℕ) : Type 0 where
  pub has : (n : ℕ) → contains nat_cmp s n ≡ list_any (λ m. m == n) ns
