-- Whole lists: a reader that agrees with a language reads all the tokens exactly where they spell trees, and the first
-- of two readers goes before the second.
use Rattle.std.proofs.Common.{◌≡◌, ℕ, Bool, List, [], ◌∷◌, ◌⊎◌, inl, inr, refl, sym, ap, subst, ◌∙◌}
use Rattle.std.proofs.lemmas.List.{append-nil}
use Rattle.tree_nodes.specs.Trees.{Tree}
use Rattle.py_language.specs.Languages.{Language, Preferred}
use Rattle.py_language.specs.Readers.{Read, got, fails, Reader, else_, or_else, to_the_end, all_of}
use Rattle.py_language.proofs.ReadingLaws.{same_trees}
use Rattle.py_language.proofs.Agreement.{Agrees}

module _ {T : Type 0} where
  -- p reads whole lists of a
  pub record ReadsWhole (p : Reader T) (a : Language T) : Type 0 where
    pub sound : (ts : List T) (out : List Tree) → all_of p ts ≡ got out [] → a ts out
    pub complete : (ts : List T) (out : List Tree) → a ts out → all_of p ts ≡ got out []

  to_the_end_got : (r : Read T) (out : List Tree) (rest : List T) → to_the_end r ≡ got out rest → (r ≡ got out []) × (rest ≡ [])
  to_the_end_got fails out rest e = absurd cc
  to_the_end_got (got u []) out rest e = (cc, cc)
  to_the_end_got (got u (t ∷ left)) out rest e = absurd cc

  -- what is read as a whole leaves nothing
  pub nothing_left : (p : Reader T) (ts : List T) (out : List Tree) (rest : List T) → all_of p ts ≡ got out rest → (p ts ≡ got out []) × (rest ≡ [])
  nothing_left p ts out rest e = to_the_end_got (p ts) out rest e

  pub all_of_at : (p : Reader T) (ts : List T) (out : List Tree) → p ts ≡ got out [] → all_of p ts ≡ got out []
  all_of_at p ts out e = rw e refl

  -- where the tokens spell no trees it fails
  pub whole_fails : {p : Reader T} {a : Language T} → ReadsWhole p a → (ts : List T) → ((out : List Tree) → a ts out → ⊥) → all_of p ts ≡ fails
  whole_fails {p} {a} A ts none = go (p ts) (λ out e. none out (A.sound ts out (all_of_at p ts out e)))
    where
      go : (r : Read T) → ((out : List Tree) → r ≡ got out [] → ⊥) → to_the_end r ≡ fails
      go fails h = refl
      go (got u []) h = absurd (h u refl)
      go (got u (t ∷ left)) h = refl

  pub whole_unique : {p : Reader T} {a : Language T} → ReadsWhole p a → (ts : List T) (out out' : List Tree) → a ts out → a ts out' → out ≡ out'
  whole_unique A ts out out' h h' = same_trees out out' [] [] (sym (A.complete ts out h) ∙ A.complete ts out' h')

  -- ---- the first, and where it has no reading the second

  else_got : (r s : Read T) (out : List Tree) (rest : List T) → else_ r s ≡ got out rest → (r ≡ got out rest) ⊎ ((r ≡ fails) × (s ≡ got out rest))
  else_got fails s out rest e = inr (refl, e)
  else_got (got u left) s out rest e = inl e

  end_again : (r : Read T) (out : List Tree) → r ≡ got out [] → to_the_end r ≡ got out []
  end_again r out e = rw e refl

  pub whole_or_else : {p q : Reader T} {a b : Language T} → ReadsWhole p a → ReadsWhole q b → ReadsWhole (or_else (all_of p) (all_of q)) (Preferred a b)
  whole_or_else {p} {q} {a} {b} A B = record {
    sound = λ ts out e.
        let (e1, nil) = to_the_end_got (else_ (all_of p ts) (all_of q ts)) out [] e in
        elim (else_got (all_of p ts) (all_of q ts) out [] e1) [
          | inl h ↦ inl (A.sound ts out h)
          | inr h ↦ inr (B.sound ts out h.1, λ other g. differ (all_of p ts) other h.0 (A.complete ts other g))
        ];
    complete = λ ts out h.
        elim h [
          | inl g ↦ let e = A.complete ts out g in end_again (else_ (all_of p ts) (all_of q ts)) out (rw e refl)
          | inr g ↦ let e1 = whole_fails A ts g.1 in let e2 = B.complete ts out g.0 in end_again (else_ (all_of p ts) (all_of q ts)) out (rw (e1, e2) refl)
        ];
  }
    where
      differ : (r : Read T) (u : List Tree) → r ≡ fails → r ≡ got u [] → ⊥
      differ r u e1 e2 = cc

module _ {T : Type 0} (code : T → ℕ) (opens closes : List ℕ) where
  -- nothing stands behind a whole list, so nothing could go on
  pub reads_all : {n : Bool} {f c : List ℕ} {p : Reader T} {a : Language T} → Agrees code opens closes n f c p a → ReadsWhole p a
  reads_all {p = p} {a = a} A = record {
    sound = λ ts out e.
        let (x, ax, tx) = A.sound ts out [] (nothing_left p ts out [] e).0 in
        subst (λ (w : List T). a w out) (sym (tx ∙ append-nil x)) ax;
    complete = λ ts out h.
        let e = A.complete ts out [] h refl in
        all_of_at p ts out (ap p (sym (append-nil ts)) ∙ e);
  }
