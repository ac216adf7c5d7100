-- Whether a node stands in a loop is known by what is known of its parent: so one pass down the tree finds it for all nodes.
use Rattle.std.proofs.Common.{◌≡◌, ℕ, ◌<◌, Bool, true, false, not, ◌&&◌, ◌||◌, sym, ap, ◌∙◌, Some, None}
use Rattle.tree_nodes.specs.Trees.{Tree, count_of, parent_at}
use Rattle.scope_rules.specs.Nodes.{kind_of}
use Rattle.rule_nodes.specs.Kinds.{is_owner}
use Rattle.rule_nodes.proofs.Above.{above_root, above_more}
use Rattle.flow_rules.specs.Outwards.{is_repeated, meets_loop, in_loop}

pub loop_root : (t : Tree) (n : ℕ) → parent_at t n ≡ None → false ≡ in_loop t n
unfolding in_loop
loop_root t n e = sym (ap (meets_loop t n) (above_root t n e))

loop-more : (t : Tree) (n p : ℕ) → n < count_of t → parent_at t n ≡ Some p → p < n → in_loop t n ≡ (is_repeated t p n || (not (is_owner (kind_of t p)) && in_loop t p))
unfolding in_loop
loop-more t n p made e before = ap (meets_loop t n) (above_more t n p made e before)

pub loop_here : (t : Tree) (n p : ℕ) → n < count_of t → parent_at t n ≡ Some p → p < n → is_repeated t p n ≡ true → true ≡ in_loop t n
loop_here t n p made e before is = sym (loop-more t n p made e before ∙ ap (λ (b : Bool). b || (not (is_owner (kind_of t p)) && in_loop t p)) is)

pub loop_ends : (t : Tree) (n p : ℕ) → n < count_of t → parent_at t n ≡ Some p → p < n → is_repeated t p n ≡ false → is_owner (kind_of t p) ≡ true → false ≡ in_loop t n
loop_ends t n p made e before other is =
    sym (loop-more t n p made e before ∙ ap (λ (b : Bool). b || (not (is_owner (kind_of t p)) && in_loop t p)) other ∙ ap (λ (b : Bool). not b && in_loop t p) is)

pub loop_on : (t : Tree) (n p : ℕ) → n < count_of t → parent_at t n ≡ Some p → p < n → is_repeated t p n ≡ false → is_owner (kind_of t p) ≡ false → in_loop t p ≡ in_loop t n
loop_on t n p made e before other is =
    sym (loop-more t n p made e before ∙ ap (λ (b : Bool). b || (not (is_owner (kind_of t p)) && in_loop t p)) other ∙ ap (λ (b : Bool). not b && in_loop t p) is)
