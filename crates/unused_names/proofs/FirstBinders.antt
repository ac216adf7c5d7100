-- Names that are not exempt, and the name that a node is the first to bind.
use Rattle.std.proofs.Common.{◌≡◌, ℕ, Bool, true, false, cond, eqb, [], ◌∷◌, ◌++◌, refl, sym, ap, ◌∙◌, Option, Some, None, option_map}
use Rattle.tree_nodes.specs.Trees.{Tree}
use Rattle.scope_rules.specs.Nodes.{Name, name_of}
use Rattle.scope_rules.specs.Mangling.{begins_private, is_private, bare, prefixed, mangled, class_from, name_at, read_at}
use Rattle.scope_rules.specs.Places.{around}
use Rattle.scope_rules.specs.Binding.{before_dot, imported, binds, own_scope}
use Rattle.scope_rules.specs.Marks.{mark_at}
use Rattle.scope_rules.specs.Declaring.{home, binder_mark_of, binder_mark}
use Rattle.unused_names.specs.Exempt.{is_exempt}
use Rattle.unused_names.specs.Reads.{by_first_binder, unless_exempt, plain_name, named_first}
use Rattle.unused_names.proofs.Cases.{never, none_some, eqb_same, left}

some-none : {X : Type 0} (x : X) → Some x ≡ None → ⊥
some-none x e = cc

some-inner : (x y : Name) → Some x ≡ Some y → x ≡ y
some-inner x y e = cc

-- ---- names inside classes

exempt-underscore : (cs : Name) → is_exempt (95 ∷ cs) ≡ true
unfolding is_exempt
exempt-underscore cs = refl

exempt-private : (x : Name) → is_private x ≡ true → is_exempt x ≡ true
unfolding is_private begins_private
exempt-private [] e = absurd (never e)
exempt-private (c ∷ []) e = absurd (never e)
exempt-private (c ∷ d ∷ cs) e = let is : c ≡ 95 = eqb_same c 95 (left (eqb c 95) (eqb d 95) (left _ _ e)) in ap (λ (b : ℕ). is_exempt (b ∷ d ∷ cs)) is ∙ exempt-underscore (d ∷ cs)

exempt-prefixed : (c x : Name) → is_exempt x ≡ true → is_exempt (prefixed c x) ≡ true
unfolding prefixed
exempt-prefixed [] x e = e
exempt-prefixed (c ∷ cs) x e = exempt-underscore (c ∷ cs ++ x)

plain-exempt : (x y : Name) → is_exempt x ≡ true → is_exempt y ≡ true → plain_name (Some x) ≡ plain_name (Some y)
plain-exempt x y e f = ap (λ (b : Bool). cond b None (Some x)) e ∙ sym (ap (λ (b : Bool). cond b None (Some y)) f)

plain-mangled : (c : Option Name) (x : Name) → plain_name (Some (mangled c x)) ≡ plain_name (Some x)
unfolding mangled
plain-mangled None x = refl
plain-mangled (Some c) x = by_test (is_private x) refl
  where
    by_test : (b : Bool) → is_private x ≡ b → plain_name (Some (cond b (prefixed (bare c) x) x)) ≡ plain_name (Some x)
    by_test true e = let f = exempt-private x e in plain-exempt (prefixed (bare c) x) x (exempt-prefixed (bare c) x f) f
    by_test false e = refl

-- a class changes no name but exempt ones, and leaves these exempt
pub plain_read : (t : Tree) (n : ℕ) (x : Name) → plain_name (Some (read_at t n x)) ≡ plain_name (Some x)
unfolding read_at
plain_read t n x = plain-mangled (name_at t (class_from t (around t n))) x

pub plain_imported_some : (t : Tree) (n : ℕ) (x : Name) → Some x ≡ name_of t n → plain_name (Some (before_dot x)) ≡ plain_name (imported t n None)
unfolding imported
plain_imported_some t n x e = sym (plain_read t n (before_dot x)) ∙ ap (λ (o : Option Name). plain_name (option_map (λ (y : Name). read_at t n (before_dot y)) o)) e

pub plain_imported_none : (t : Tree) (n : ℕ) → None ≡ name_of t n → None ≡ plain_name (imported t n None)
unfolding imported
plain_imported_none t n e = ap (λ (o : Option Name). plain_name (option_map (λ (y : Name). read_at t n (before_dot y)) o)) e

-- ---- the mark of a name that is not exempt

pub plain_is : (o : Option Name) (x : Name) → plain_name o ≡ Some x → o ≡ Some x
plain_is None x e = absurd (none_some x e)
plain_is (Some y) x e = by_test (is_exempt y) e
  where
    by_test : (b : Bool) → cond b None (Some y) ≡ Some x → Some y ≡ Some x
    by_test true e = absurd (none_some x e)
    by_test false e = e

plain-kept : (o : Option Name) (x : Name) → plain_name o ≡ Some x → is_exempt x ≡ false
plain-kept None x e = absurd (none_some x e)
plain-kept (Some y) x e = by_test (is_exempt y) refl e
  where
    by_test : (b : Bool) → is_exempt y ≡ b → cond b None (Some y) ≡ Some x → is_exempt x ≡ false
    by_test true is e = absurd (none_some x e)
    by_test false is e = ap is_exempt (sym (some-inner y x e)) ∙ is

mark-kept : (h : Option ℕ) (x : Name) → is_exempt x ≡ false → unless_exempt (mark_at h x) ≡ mark_at h x
mark-kept None x e = refl
mark-kept (Some s) x e = ap (λ (b : Bool). cond b None (mark_at (Some s) x)) e

mark-dropped : (h : Option ℕ) (x : Name) → is_exempt x ≡ true → unless_exempt (mark_at h x) ≡ None
mark-dropped None x e = refl
mark-dropped (Some s) x e = ap (λ (b : Bool). cond b None (mark_at (Some s) x)) e

mark-none : (t : Tree) (s : ℕ) (o : Option Name) → plain_name o ≡ None → unless_exempt (binder_mark_of t s o) ≡ None
mark-none t s None e = refl
mark-none t s (Some x) e = by_test (is_exempt x) refl e
  where
    by_test : (b : Bool) → is_exempt x ≡ b → cond b None (Some x) ≡ None → unless_exempt (mark_at (home t s x) x) ≡ None
    by_test true is e = mark-dropped (home t s x) x is
    by_test false is e = absurd (some-none x e)

-- a node that binds no name, or an exempt one, is no first binder
pub named_none : (t : Tree) (n : ℕ) → plain_name (binds t n) ≡ None → named_first t n ≡ None
unfolding named_first binder_mark
named_none t n e = ap (by_first_binder t n) (mark-none t (own_scope t n) (binds t n) e)

-- a node that binds another name may be its first binder, in the name's home
pub named_some : (t : Tree) (n : ℕ) (x : Name) → plain_name (binds t n) ≡ Some x → named_first t n ≡ by_first_binder t n (mark_at (home t (own_scope t n) x) x)
unfolding named_first binder_mark
named_some t n x e =
    ap (λ (o : Option Name). by_first_binder t n (unless_exempt (binder_mark_of t (own_scope t n) o))) (plain_is (binds t n) x e)
    ∙ ap (by_first_binder t n) (mark-kept (home t (own_scope t n) x) x (plain-kept (binds t n) x e))
