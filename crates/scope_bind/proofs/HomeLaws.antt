-- Where binders bind, by what is declared.
use Rattle.std.proofs.Common.{◌≡◌, ℕ, Bool, true, false, cond, refl, sym, ap, ◌∙◌, Option, Some, None}
use Rattle.tree_nodes.specs.Trees.{Tree}
use Rattle.scope_rules.specs.Nodes.{Name}
use Rattle.scope_rules.specs.Declaring.{declares_global, declares_nonlocal, owner_outside, home}

-- by both declarations
home-by : (t : Tree) (s : ℕ) (x : Name) (g n : Bool) → declares_global t s x ≡ g → declares_nonlocal t s x ≡ n → home t s x ≡ cond g (Some 0) (cond n (owner_outside t s x) (Some s))
unfolding home
home-by t s x g n e f =
    ap (λ (b : Bool). cond b (Some 0) (cond (declares_nonlocal t s x) (owner_outside t s x) (Some s))) e
    ∙ ap (λ (b : Bool). cond g (Some 0) (cond b (owner_outside t s x) (Some s))) f

pub home_global : (t : Tree) (s : ℕ) (x : Name) → declares_global t s x ≡ true → Some 0 ≡ home t s x
home_global t s x e = sym (home-by t s x true (declares_nonlocal t s x) e refl)

pub home_nonlocal : (t : Tree) (s : ℕ) (x : Name) → declares_global t s x ≡ false → declares_nonlocal t s x ≡ true → owner_outside t s x ≡ home t s x
home_nonlocal t s x e f = sym (home-by t s x false true e f)

pub home_here : (t : Tree) (s : ℕ) (x : Name) → declares_global t s x ≡ false → declares_nonlocal t s x ≡ false → Some s ≡ home t s x
home_here t s x e f = sym (home-by t s x false false e f)
