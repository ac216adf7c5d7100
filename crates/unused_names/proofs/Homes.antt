-- Where binders bind: in a scope around them; and the first binder of a name there.
use Rattle.std.proofs.Common.{◌≡◌, ℕ, zero, suc, ◌<◌, Bool, true, false, cond, eqb, ◌||◌, List, [], ◌∷◌, drop, refl, sym, ap, subst, ◌∙◌, arith, Option, Some, None, ◌⊎◌, inl, inr, ⊎_elim}
use Rattle.std.specs.Prelude.{filter}
use Rattle.std.specs.List.{find, list_any}
use Rattle.std.specs.Str.{bytes_eq}
use Rattle.std.proofs.lemmas.Bool.Decides.{eqb_tells}
use Rattle.tree_nodes.specs.Trees.{Tree, count_of}
use Rattle.scope_rules.specs.Nodes.{Name, nodes_of, first, is_number}
use Rattle.scope_rules.specs.Places.{around, chain_by, chain}
use Rattle.scope_rules.specs.Binding.{binds, own_scope}
use Rattle.scope_rules.specs.Marks.{is_mark, mark_at, nodes_with}
use Rattle.scope_rules.specs.Declaring.{declares_global, declares_nonlocal, is_owner, owner_outside, home, binder_mark_of, binder_mark}
use Rattle.scope_rules.specs.Answers.{binders_of}
use Rattle.scope_rules.proofs.Nesting.{chain-outwards, chain-module, around-before}
use Rattle.unused_names.specs.Reads.{by_first_binder}
use Rattle.unused_names.proofs.Cases.{never, none_some, eqb_same, left}

-- ---- scopes around a scope

-- o is the scope s, or around it
abbrev pub is_around : Tree → ℕ → ℕ → Bool
is_around t s o = list_any (λ c. eqb c o) (chain t s)

eqb-self : (s : ℕ) → eqb s s ≡ true
eqb-self s = ⊎_elim (λ h. h.0) (λ h. absurd (h.1 refl)) (eqb_tells s s)

some-inner : (a b : ℕ) → Some a ≡ Some b → a ≡ b
some-inner a b e = cc

or-false : (b : Bool) → (b || false) ≡ true → b ≡ true
or-false true e = refl
or-false false e = absurd (never e)

or-true : (b : Bool) → (b || true) ≡ true
or-true true = refl
or-true false = refl

module-by : (k : ℕ) (t : Tree) (s : ℕ) → list_any (λ c. eqb c 0) (chain_by k t s) ≡ true
unfolding chain_by
module-by zero t s = refl
module-by (suc k) t s = by_test (eqb s 0) (module-by k t (around t s))
  where
    by_test : (b : Bool) → list_any (λ c. eqb c 0) (chain_by k t (around t s)) ≡ true → list_any (λ c. eqb c 0) (cond b (0 ∷ []) (s ∷ chain_by k t (around t s))) ≡ true
    by_test true h = refl
    by_test false h = ap (λ (b : Bool). eqb s 0 || b) h ∙ or-true (eqb s 0)

module-around : (t : Tree) (s : ℕ) → is_around t s 0 ≡ true
unfolding chain
module-around t s = module-by s t s

zero-or-more : (n : ℕ) → (n ≡ 0) ⊎ (0 < n)
zero-or-more zero = inl refl
zero-or-more (suc n) = inr (omega arith)

itself-around : (t : Tree) (s : ℕ) → s < count_of t → is_around t s s ≡ true
itself-around t s made = by_case (zero-or-more s)
  where
    by_case : (s ≡ 0) ⊎ (0 < s) → is_around t s s ≡ true
    by_case (inl z) = subst (λ (o : ℕ). is_around t s o ≡ true) (sym z) (module-around t s)
    by_case (inr some) = ap (list_any (λ c. eqb c s)) (chain-outwards t s made some) ∙ ap (λ (b : Bool). b || list_any (λ c. eqb c s) (chain t (around t s))) (eqb-self s)

found-among : (p : ℕ → Bool) (o : ℕ) (cs : List ℕ) → find p cs ≡ Some o → list_any (λ c. eqb c o) cs ≡ true
found-among p o [] e = absurd (none_some o e)
found-among p o (c ∷ cs) e = by_test (p c) e (found-among p o cs)
  where
    by_test : (b : Bool) → cond b (Some c) (find p cs) ≡ Some o → (find p cs ≡ Some o → list_any (λ d. eqb d o) cs ≡ true) → (eqb c o || list_any (λ d. eqb d o) cs) ≡ true
    by_test true e ih = ap (λ (b : Bool). b || list_any (λ d. eqb d o) cs) (ap (λ (m : ℕ). eqb m o) (some-inner c o e) ∙ eqb-self o)
    by_test false e ih = ap (λ (b : Bool). eqb c o || b) (ih e) ∙ or-true (eqb c o)

behind-among : (o : ℕ) (cs : List ℕ) → list_any (λ c. eqb c o) (drop 1 cs) ≡ true → list_any (λ c. eqb c o) cs ≡ true
behind-among o [] e = e
behind-among o (c ∷ cs) e = ap (λ (b : Bool). eqb c o || b) e ∙ or-true (eqb c o)

owner-around : (t : Tree) (s : ℕ) (x : Name) (o : ℕ) → owner_outside t s x ≡ Some o → is_around t s o ≡ true
unfolding owner_outside
owner-around t s x o e = behind-among o (chain t s) (found-among (is_owner t x) o (drop 1 (chain t s)) e)

-- a binder's home is around the scope in which it stands
home_around : (t : Tree) (s : ℕ) (x : Name) (o : ℕ) → s < count_of t → home t s x ≡ Some o → is_around t s o ≡ true
unfolding home
home_around t s x o made e = by_tests (declares_global t s x) (declares_nonlocal t s x) e
  where
    by_tests : (g n : Bool) → cond g (Some 0) (cond n (owner_outside t s x) (Some s)) ≡ Some o → is_around t s o ≡ true
    by_tests true n e = subst (λ (c : ℕ). is_around t s c ≡ true) (some-inner 0 o e) (module-around t s)
    by_tests false true e = owner-around t s x o e
    by_tests false false e = subst (λ (c : ℕ). is_around t s c ≡ true) (some-inner s o e) (itself-around t s made)

-- ---- the first binder

first-passes : (p : ℕ → Bool) (n : ℕ) (ns : List ℕ) → is_number (first (filter p ns)) n ≡ true → p n ≡ true
first-passes p n [] e = absurd (never e)
first-passes p n (m ∷ ms) e = by_test (p m) refl e (first-passes p n ms)
  where
    by_test : (b : Bool) → p m ≡ b → is_number (first (cond b (m ∷ filter p ms) (filter p ms))) n ≡ true → (is_number (first (filter p ms)) n ≡ true → p n ≡ true) → p n ≡ true
    by_test true is e ih = ap p (sym (eqb_same m n e)) ∙ is
    by_test false is e ih = ih e

-- a first binder of a name in a scope has its home there
marked-home : (h : Option ℕ) (s : ℕ) (x : Name) → is_mark s x (mark_at h x) ≡ true → h ≡ Some s
marked-home None s x e = absurd (never e)
marked-home (Some o) s x e = ap (λ (c : ℕ). Some c) (eqb_same o s (left (eqb o s) (bytes_eq x x) e))

mark-is : (t : Tree) (n : ℕ) (x : Name) → binds t n ≡ Some x → binder_mark t n ≡ mark_at (home t (own_scope t n) x) x
unfolding binder_mark
mark-is t n x e = ap (binder_mark_of t (own_scope t n)) e

first-marked : (t : Tree) (n s : ℕ) (x : Name) → is_number (first (binders_of t s x)) n ≡ true → is_mark s x (binder_mark t n) ≡ true
unfolding nodes_with
first-marked t n s x e = first-passes (λ m. is_mark s x (binder_mark t m)) n (nodes_of t) e

first-home : (t : Tree) (n s : ℕ) (x : Name) → binds t n ≡ Some x → is_number (first (binders_of t s x)) n ≡ true → home t (own_scope t n) x ≡ Some s
first-home t n s x bound e = marked-home (home t (own_scope t n) x) s x (ap (is_mark s x) (sym (mark-is t n x bound)) ∙ first-marked t n s x e)

-- ---- the way outwards to it

-- the scopes in which n may still be the first binder of x are s and those around it
pub record IsAhead (t : Tree) (n : ℕ) (x : Name) (s : ℕ) : Type 0 where
  pub made : s < count_of t
  pub rest : (o : ℕ) → is_number (first (binders_of t o x)) n ≡ true → is_around t s o ≡ true

pub ahead_starts : (t : Tree) (n : ℕ) (x : Name) (s : ℕ) → s < count_of t → s ≡ own_scope t n → binds t n ≡ Some x → IsAhead t n x s
ahead_starts t n x s made e bound = record {
  made = made;
  rest = λ o h. home_around t s x o made (ap (λ (c : ℕ). home t c x) e ∙ first-home t n o x bound h);
}

later : (t : Tree) (n : ℕ) (x : Name) (s o : ℕ) → is_number (first (binders_of t s x)) n ≡ false → is_number (first (binders_of t o x)) n ≡ true → (b : Bool) → eqb s o ≡ b → (b || is_around t (around t s) o) ≡ true → is_around t (around t s) o ≡ true
later t n x s o e f true is here = absurd (never (sym e ∙ ap (λ (c : ℕ). is_number (first (binders_of t c x)) n) (eqb_same s o is) ∙ f))
later t n x s o e f false is here = here

here-or-later : (t : Tree) (s o : ℕ) → s < count_of t → 0 < s → is_around t s o ≡ (eqb s o || is_around t (around t s) o)
here-or-later t s o made some = ap (list_any (λ c. eqb c o)) (chain-outwards t s made some)

pub ahead_goes_on : (t : Tree) (n : ℕ) (x : Name) (s : ℕ) → 0 < s → is_number (first (binders_of t s x)) n ≡ false → IsAhead t n x s → IsAhead t n x (around t s)
ahead_goes_on t n x s some e h = record {
  made = let low = around-before t s h.made some in let m = h.made in omega (arith, low, m);
  rest = λ o f. later t n x s o e f (eqb s o) refl (sym (here-or-later t s o h.made some) ∙ h.rest o f);
}

-- found
pub ahead_found : (t : Tree) (n : ℕ) (x : Name) (s : ℕ) → binds t n ≡ Some x → is_number (first (binders_of t s x)) n ≡ true → mark_at (Some s) x ≡ by_first_binder t n (mark_at (home t (own_scope t n) x) x)
ahead_found t n x s bound e =
    sym (ap (λ (h : Option ℕ). by_first_binder t n (mark_at h x)) (first-home t n s x bound e) ∙ ap (λ (b : Bool). cond b (mark_at (Some s) x) None) e)

none-first : (t : Tree) (n : ℕ) (x : Name) (h : Option ℕ) → ((o : ℕ) → is_number (first (binders_of t o x)) n ≡ true → ⊥) → mark_at None x ≡ by_first_binder t n (mark_at h x)
none-first t n x None none = refl
none-first t n x (Some o) none = by_test (is_number (first (binders_of t o x)) n) refl
  where
    by_test : (b : Bool) → is_number (first (binders_of t o x)) n ≡ b → None ≡ cond b (mark_at (Some o) x) None
    by_test true is = absurd (none o is)
    by_test false is = refl

module-only : (t : Tree) (s o : ℕ) → s ≡ 0 → is_around t s o ≡ true → s ≡ o
module-only t s o z e = z ∙ eqb_same 0 o (or-false (eqb 0 o) (sym (ap (list_any (λ c. eqb c o)) (chain-module t s z)) ∙ e))

-- not found
pub ahead_ends : (t : Tree) (n : ℕ) (x : Name) (s : ℕ) → s ≡ 0 → is_number (first (binders_of t s x)) n ≡ false → IsAhead t n x s → mark_at None x ≡ by_first_binder t n (mark_at (home t (own_scope t n) x) x)
ahead_ends t n x s z e h =
    none-first t n x (home t (own_scope t n) x) (λ o f. never (sym e ∙ ap (λ (c : ℕ). is_number (first (binders_of t c x)) n) (module-only t s o z (h.rest o f)) ∙ f))
