-- A class changes no public name, and makes no private name public.
use Rattle.std.proofs.Common.{◌≡◌, ℕ, Bool, true, false, cond, not, ◌&&◌, [], ◌∷◌, refl, sym, ◌∙◌, Option, Some, None}
use Rattle.std.specs.Prelude.{◌==◌}
use Rattle.tree_nodes.specs.Trees.{Tree}
use Rattle.scope_rules.specs.Nodes.{Name, name_of}
use Rattle.scope_rules.specs.Mangling.{begins_private, ends_special, is_private, bare, prefixed, mangled, read_at}
use Rattle.scope_rules.specs.Binding.{before_dot, imported}
use Rattle.check_names.specs.Nodes.{public_of}

prefixed-hidden : (c y : Name) → public_of (Some y) ≡ None → public_of (Some (prefixed c y)) ≡ None
unfolding prefixed
prefixed-hidden [] y e = e
prefixed-hidden (c ∷ cs) y e = refl

private-hidden : (y : Name) → is_private y ≡ true → public_of (Some y) ≡ None
unfolding is_private begins_private
private-hidden [] e = cc
private-hidden (c ∷ []) e = cc
private-hidden (c ∷ d ∷ cs) e = by_test (c == 95) e
  where
    by_test : (b : Bool) → ((b && d == 95) && not (ends_special (c ∷ d ∷ cs))) ≡ true → cond (not b) (Some (c ∷ d ∷ cs)) None ≡ None
    by_test true e = refl
    by_test false e = cc

mangled-public : (o : Option Name) (y : Name) → public_of (Some (mangled o y)) ≡ public_of (Some y)
unfolding mangled
mangled-public None y = refl
mangled-public (Some c) y = by_test (is_private y) refl
  where
    by_test : (b : Bool) → is_private y ≡ b → public_of (Some (cond b (prefixed (bare c) y) y)) ≡ public_of (Some y)
    by_test true e = prefixed-hidden (bare c) y (private-hidden y e) ∙ sym (private-hidden y e)
    by_test false e = refl

read-public : (t : Tree) (n : ℕ) (y : Name) → public_of (Some (read_at t n y)) ≡ public_of (Some y)
unfolding read_at
read-public t n y = mangled-public _ y

-- an import without `as` binds the first part of a public name as written
pub first_public : (t : Tree) (n : ℕ) (x : Name) → name_of t n ≡ Some x → public_of (Some (before_dot x)) ≡ public_of (imported t n None)
unfolding imported
first_public t n x e = rw e (sym (read-public t n (before_dot x)))

pub none_public : (t : Tree) (n : ℕ) → name_of t n ≡ None → None ≡ public_of (imported t n None)
unfolding imported
none_public t n e = rw e refl
