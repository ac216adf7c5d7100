-- What a reading that has come to trees says of its parts.
use Rattle.std.proofs.Common.{◌≡◌, ℕ, ◌-◌, Bool, true, false, cond, List, ◌++◌, length, take, ◌⊎◌, inl, inr, refl, sym, ap, ◌∙◌, append_assoc, length-append, arith}
use Rattle.std.proofs.Math.Seq.{take-append_seam}
use Rattle.tree_nodes.specs.Trees.{Tree}
use Rattle.py_language.specs.Readers.{Read, got, fails, Reader, behind, after, both, before, make, filter, Cont, continue}

module _ {T : Type 0} where
  -- a part, and then a part and a rest, is both parts and the rest
  pub regroup : (ts x mid y rest : List T) → ts ≡ x ++ mid → mid ≡ y ++ rest → ts ≡ (x ++ y) ++ rest
  regroup ts x mid y rest e1 e2 = e1 ∙ ap (λ (w : List T). x ++ w) e2 ∙ sym (append_assoc x y rest)

  pub behind_some : (u : List Tree) (r : Read T) (out : List Tree) (rest : List T) → behind u r ≡ got out rest → (v : List Tree) × (r ≡ got v rest) × (out ≡ u ++ v)
  behind_some u fails out rest e = absurd cc
  behind_some u (got v mid) out rest e = (v, cc, cc)

  pub after_some : (r : Read T) (q : Reader T) (out : List Tree) (rest : List T) → after r q ≡ got out rest
      → (u v : List Tree) × (mid : List T) × (r ≡ got u mid) × (q mid ≡ got v rest) × (out ≡ u ++ v)
  after_some fails q out rest e = absurd cc
  after_some (got u mid) q out rest e = let (v, e1, e2) = behind_some u (q mid) out rest e in (u, v, mid, refl, e1, e2)

  pub both_at : (p q : Reader T) (x y rest : List T) (u v : List Tree) → p (x ++ (y ++ rest)) ≡ got u (y ++ rest) → q (y ++ rest) ≡ got v rest → both p q ((x ++ y) ++ rest) ≡ got (u ++ v) rest
  both_at p q x y rest u v e1 e2 = rw (append_assoc, e1, e2) refl

  pub choose_got : (b : Bool) (r s : Read T) (out : List Tree) (rest : List T) → cond b r s ≡ got out rest → (r ≡ got out rest) ⊎ (s ≡ got out rest)
  choose_got true r s out rest e = inl e
  choose_got false r s out rest e = inr e

  pub test_got : (b : Bool) (r : Read T) (out : List Tree) (rest : List T) → cond b r fails ≡ got out rest → (b ≡ true) × (r ≡ got out rest)
  test_got true r out rest e = (refl, e)
  test_got false r out rest e = absurd cc

  pub same_trees : (u v : List Tree) (rest rest' : List T) → got u rest ≡ got v rest' → u ≡ v
  same_trees u v rest rest' e = cc

  pub same_rest : (u v : List Tree) (rest rest' : List T) → got u rest ≡ got v rest' → rest ≡ rest'
  same_rest u v rest rest' e = cc

  pub before_rest : (x rest : List T) → before (x ++ rest) rest ≡ x
  before_rest x rest =
      let n : length (x ++ rest) - length rest ≡ length x = omega (arith, length-append x rest) in
      ap (λ (k : ℕ). take k (x ++ rest)) n ∙ take-append_seam x rest

  pub make_got : (over : List T → List Tree → List Tree) (ts : List T) (r : Read T) (out : List Tree) (rest : List T) → make over ts r ≡ got out rest
      → (u : List Tree) × (r ≡ got u rest) × (out ≡ over (before ts rest) u)
  make_got over ts fails out rest e = absurd cc
  make_got over ts (got u mid) out rest e =
      let same : mid ≡ rest = cc in
      let trees : out ≡ over (before ts mid) u = cc in
      (u, cc, trees ∙ ap (λ (m : List T). over (before ts m) u) same)

  pub make_at : (over : List T → List Tree → List Tree) (x rest : List T) (r : Read T) (u : List Tree) → r ≡ got u rest → make over (x ++ rest) r ≡ got (over x u) rest
  make_at over x rest r u e = ap (make over (x ++ rest)) e ∙ ap (λ (y : List T). got (over y u) rest) (before_rest x rest)

  pub filter_got : (test : List Tree → Bool) (r : Read T) (out : List Tree) (rest : List T) → filter test r ≡ got out rest → (r ≡ got out rest) × (test out ≡ true)
  filter_got test fails out rest e = absurd cc
  filter_got test (got u mid) out rest e =
      let (yes', e') = test_got (test u) (got u mid) out rest e in
      let same : u ≡ out = cc in
      (e', ap test (sym same) ∙ yes')

  pub continue_got : (all : List T) (r : Read T) (k : Cont T) (out : List Tree) (rest : List T) → continue all r k ≡ got out rest
      → (u : List Tree) × (mid : List T) × (r ≡ got u mid) × (k all u mid ≡ got out rest)
  continue_got all fails k out rest e = absurd cc
  continue_got all (got u mid) k out rest e = (u, mid, refl, e)
