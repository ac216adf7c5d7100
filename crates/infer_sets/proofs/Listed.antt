-- A set is listed in one way alone, so it has one digest.
use Rattle.std.proofs.Common.{◌≡◌, ℕ, zero, suc, ◌⊎◌, inl, inr, List, [], ◌∷◌, refl, sym, ◌∙◌, ap, subst, arith}
use Rattle.std.specs.Prelude.{Option, Some, None, slice_get}
use Rattle.std.specs.List.{Contains, AllByRecursion}
use Rattle.std.specs.List.Sorted.{IsStrictlySortedBy}
use Rattle.std.specs.Cmp.{tied_itself}
use Rattle.std.specs.declared.cmp.Ordering.TheVariants.{Less}
use Rattle.std.specs.FinSet.{contains}
use Rattle.infer_sets.specs.declared.abs_val.AbsVal.{AbsVal}
use Rattle.infer_sets.specs.Values.{value_cmp}
use Rattle.infer_sets.specs.Sets.{Vals, Set}
use Rattle.infer_sets.specs.Stored.{values_of}
use Rattle.infer_sets.proofs.ValueOrder.{value_cmp_total}
use Rattle.infer_sets.proofs.Kept.{has_from, stands}
use Rattle.infer_sets.specs.Listed.{IsListed, IsValueAt}
use Rattle.infer_sets.specs.Digest.{IsDigest, hash}

cons-cases : (x : AbsVal) (xs : List AbsVal) (w : AbsVal) → Contains (x ∷ xs) w → (x ≡ w) ⊎ Contains xs w
cons-cases x xs w (zero, l, e) = inl e
cons-cases x xs w (suc k, l, e) = inr (k, omega arith, e)

head-in : (x : AbsVal) (xs : List AbsVal) → Contains (x ∷ xs) x
head-in x xs = (0, omega arith, refl)

tail-in : (x : AbsVal) (xs : List AbsVal) (w : AbsVal) → Contains xs w → Contains (x ∷ xs) w
tail-in x xs w p = (suc p.0, omega arith, p.2)

nothing-in : (w : AbsVal) → Contains [] w → ⊥
nothing-in w c = let l = c.1 in omega arith

all-in : (P : AbsVal → Type 0) (xs : List AbsVal) (w : AbsVal) → AllByRecursion P xs → Contains xs w → P w
all-in P [] w a c = absurd (nothing-in w c)
all-in P (x ∷ xs) w a c = elim (cons-cases x xs w c) [ inl e ↦ subst P e a.0 | inr d ↦ all-in P xs w a.1 d ]

less-itself : (x y : AbsVal) → value_cmp x y ≡ Less → x ≡ y → ⊥
less-itself x y l e = let t = tied_itself value_cmp_total x in let k = sym l ∙ ap (value_cmp x) (sym e) ∙ t in cc

less-both : (x y : AbsVal) → value_cmp x y ≡ Less → value_cmp y x ≡ Less → ⊥
less-both x y l m = less-itself x x (value_cmp_total.trans x y x l m) refl

heads : (x y : AbsVal) (xs ys : List AbsVal) → AllByRecursion (λ z. value_cmp x z ≡ Less) xs → AllByRecursion (λ z. value_cmp y z ≡ Less) ys → Contains (y ∷ ys) x → Contains (x ∷ xs) y → x ≡ y
heads x y xs ys a b c d = elim (cons-cases y ys x c) [
  | inl e ↦ sym e
  | inr f ↦ elim (cons-cases x xs y d) [
    | inl e ↦ e
    | inr g ↦ absurd (less-both x y (all-in (λ z. value_cmp x z ≡ Less) xs y a g) (all-in (λ z. value_cmp y z ≡ Less) ys x b f))
  ]
]

behind : (x y q : AbsVal) (xs ys : List AbsVal) → AllByRecursion (λ z. value_cmp x z ≡ Less) xs → y ≡ x → Contains (y ∷ ys) q → Contains xs q → Contains ys q
behind x y q xs ys a e c d = elim (cons-cases y ys q c) [
  | inl f ↦ absurd (less-itself x q (all-in (λ z. value_cmp x z ≡ Less) xs q a d) (sym e ∙ f))
  | inr f ↦ f
]

-- lists that ascend and have the same members
same-list : (xs ys : List AbsVal) → IsStrictlySortedBy value_cmp xs → IsStrictlySortedBy value_cmp ys → ((q : AbsVal) → Contains xs q → Contains ys q) → ((q : AbsVal) → Contains ys q → Contains xs q) → xs ≡ ys
unfolding IsStrictlySortedBy
same-list [] [] s t f g = refl
same-list [] (y ∷ ys) s t f g = absurd (nothing-in y (g y (head-in y ys)))
same-list (x ∷ xs) [] s t f g = absurd (nothing-in x (f x (head-in x xs)))
same-list (x ∷ xs) (y ∷ ys) s t f g =
    let e = heads x y xs ys s.0 t.0 (f x (head-in x xs)) (g y (head-in y ys)) in
    let rest = same-list xs ys s.1 t.1 (λ q c. behind x y q xs ys s.0 (sym e) (f q (tail-in x xs q c)) c) (λ q c. behind y x q ys xs t.0 e (g q (tail-in y ys q c)) c) in
    λ i. e i ∷ rest i

some_vals : (s t : Vals) → ◌≡◌ {A = Set} (Some s) (Some t) → s ≡ t
some_vals s t e = ap (λ (o : Set). or_s o) e
  where
    or_s : Set → Vals
    or_s (Some k) = k
    or_s None = s

pub listed-once : (s : Set) (xs ys : List AbsVal) → IsListed s xs → IsListed s ys → xs ≡ ys
listed-once s xs ys h k =
    let e = some_vals (values_of xs) (values_of ys) (sym h.is ∙ k.is) in
    same-list xs ys h.ascending k.ascending (λ q c. stands ys q (ap (λ v. contains v q) (sym e) ∙ has_from xs q c)) (λ q c. stands xs q (ap (λ v. contains v q) e ∙ has_from ys q c))

pub digest-once : (s : Set) (d e : ℕ) → IsDigest s d → IsDigest s e → d ≡ e
unfolding IsDigest
digest-once s d e (inl h) (inl k) = h.1 ∙ sym k.1
digest-once s d e (inl h) (inr k) = absurd (let f = sym h.0 ∙ k.listed.is in cc)
digest-once s d e (inr h) (inl k) = absurd (let f = sym k.0 ∙ h.listed.is in cc)
digest-once s d e (inr h) (inr k) = h.is ∙ ap hash (listed-once s h.values k.values h.listed k.listed) ∙ sym k.is

pub digest-unknown : (s : Set) → s ≡ None → IsDigest s 0
unfolding IsDigest
digest-unknown s e = inl (e, refl)

pub digest-values : (s : Set) (d : ℕ) (xs : List AbsVal) → s ≡ Some (values_of xs) → IsStrictlySortedBy value_cmp xs → d ≡ hash xs → IsDigest s d
unfolding IsDigest
digest-values s d xs e a h = inr (record { values = xs; listed = record { ascending = a; is = e }; is = h })

-- what stands at a place of a listing is what stands there in every listing
pub value-listed : (s : Set) (xs : List AbsVal) (place : ℕ) (found : Option AbsVal) → s ≡ Some (values_of xs) → IsStrictlySortedBy value_cmp xs → found ≡ slice_get xs place → IsValueAt s place found
value-listed s xs place found e a h = record {
  listed = λ ys l. h ∙ ap (λ zs. slice_get zs place) (listed-once s xs ys (record { ascending = a; is = e }) l);
  unknown = λ n. absurd (let f = sym n ∙ e in cc);
}
