-- What one more element makes of a set.
use Rattle.std.proofs.Common.{◌≡◌, ℕ, Bool, true, false, cond, eqb, ◌||◌, List, [], ◌∷◌, ◌++◌, refl, sym, ap, ◌∙◌}
use Rattle.std.specs.Global.{Vec}
use Rattle.std.specs.BTreeSet.{BTreeSet, insert_key, contains}
use Rattle.std.specs.BTreeMap.{is_at}
use Rattle.std.specs.List.{list_any}
use Rattle.std.specs.Str.{bytes_eq}
use Rattle.std.specs.declared.cmp.Ordering.{Ordering}
use Rattle.std.specs.declared.cmp.Ordering.TheVariants.{Less, Equal, Greater}
use Rattle.std.specs.Ordering.{nat_cmp, is_eq, match_ordering, ordering_reverse}
use Rattle.std.specs.Cmp.{unsigned_ties}
use Rattle.std.specs.Cmp.Lexicographic.{slice_cmp, nat_list_cmp_total}
use Rattle.std.proofs.lemmas.Map.Text.{is_eq-slice_cmp}
use Rattle.std.proofs.lemmas.List.Folds.{list_any-append}
use Rattle.scope_rules.specs.Nodes.{Name}
use Rattle.unused_names.specs.Reads.{has_name}
use Rattle.unused_names.specs.Sets.{HasNames, HasNumbers}

or-twice : (a b : Bool) → (a || b) ≡ (a || (a || b))
or-twice true b = refl
or-twice false b = refl

or-swap : (a b c : Bool) → (a || (b || c)) ≡ (b || (a || c))
or-swap true true c = refl
or-swap true false c = refl
or-swap false b c = refl

or-last : (a b : Bool) → (a || b) ≡ (b || (a || false))
or-last true true = refl
or-last true false = refl
or-last false true = refl
or-last false false = refl

-- a test that cannot tell equal keys apart finds the new key, or one of the old ones
insert-any : {K : Type 0} (cmp : K → K → Ordering) (f : K → Bool) (k : K) → ((x : K) → cmp k x ≡ Equal → f x ≡ f k) → (ks : List K) → list_any f (insert_key cmp ks k) ≡ (f k || list_any f ks)
insert-any cmp f k same [] = refl
insert-any {K} cmp f k same (x ∷ xs) = by_order (cmp k x) (same x) (insert-any cmp f k same xs)
  where
    by_order : (o : Ordering) → (o ≡ Equal → f x ≡ f k) → list_any f (insert_key cmp xs k) ≡ (f k || list_any f xs)
        → list_any f (match_ordering o (k ∷ x ∷ xs) (x ∷ xs) (x ∷ insert_key cmp xs k)) ≡ (f k || (f x || list_any f xs))
    by_order Less same ih = refl
    by_order Equal same ih = ap (λ (b : Bool). b || list_any f xs) (same refl) ∙ or-twice (f k) (list_any f xs) ∙ ap (λ (b : Bool). f k || (b || list_any f xs)) (sym (same refl))
    by_order Greater same ih = ap (λ (b : Bool). f x || b) ih ∙ or-swap (f x) (f k) (list_any f xs)

same_at : (y : Name) (k v : Vec ℕ) → slice_cmp nat_cmp k.items v.items ≡ Equal → is_eq (slice_cmp nat_cmp y v.items) ≡ is_eq (slice_cmp nat_cmp y k.items)
same_at y k v e =
    ap is_eq (nat_list_cmp_total.antisymm y v.items ∙ ap ordering_reverse (sym (nat_list_cmp_total.congr k.items v.items y e)) ∙ sym (nat_list_cmp_total.antisymm y k.items))

-- a set without elements
pub no_names_yet : (s : BTreeSet (Vec ℕ)) → s.keys ≡ [] → HasNames s []
no_names_yet s e = record { has = λ x. ap (list_any (λ (v : Vec ℕ). is_eq (slice_cmp nat_cmp x v.items))) e }

pub no_numbers_yet : (s : BTreeSet ℕ) → s.keys ≡ [] → HasNumbers s []
no_numbers_yet s e = record { has = λ n. ap (list_any (λ (m : ℕ). is_eq (nat_cmp n m))) e }

-- one more name
pub names_more : (s n : BTreeSet (Vec ℕ)) (k : Vec ℕ) (x : Name) (ns : List Name) → n.keys ≡ insert_key (λ a b. slice_cmp nat_cmp a.items b.items) s.keys k → k.items ≡ x → HasNames s ns → HasNames n (ns ++ x ∷ [])
names_more s n k x ns keys is h = record {
  has = λ y.
      ap (list_any (λ (v : Vec ℕ). is_eq (slice_cmp nat_cmp y v.items))) keys
      ∙ insert-any (λ a b. slice_cmp nat_cmp a.items b.items) (λ (v : Vec ℕ). is_eq (slice_cmp nat_cmp y v.items)) k (same_at y k) s.keys
      ∙ ap (λ (b : Bool). is_eq (slice_cmp nat_cmp y k.items) || b) (h.has y)
      ∙ ap (λ (b : Bool). b || has_name ns y) (is_eq-slice_cmp y k.items ∙ ap (bytes_eq y) is)
      ∙ or-last (bytes_eq y x) (has_name ns y)
      ∙ sym (list_any-append (λ z. bytes_eq y z) ns (x ∷ []));
}

cond-or : (a b : Bool) → cond a true b ≡ (b || (a || false))
cond-or true true = refl
cond-or true false = refl
cond-or false true = refl
cond-or false false = refl

-- one more number
pub numbers_more : (s n : BTreeSet ℕ) (k : ℕ) (ns : List ℕ) → ((q : ℕ) → contains nat_cmp n q ≡ cond (is_at (nat_cmp k) q) true (contains nat_cmp s q)) → HasNumbers s ns → HasNumbers n (ns ++ k ∷ [])
numbers_more s n k ns added h = record {
  has = λ q.
      added q ∙ ap (λ (b : Bool). cond b true (contains nat_cmp s q)) (sym (unsigned_ties k q)) ∙ ap (λ (b : Bool). cond (eqb k q) true b) (h.has q) ∙ cond-or (eqb k q) (list_any (λ m. eqb m q) ns)
      ∙ sym (list_any-append (λ m. eqb m q) ns (k ∷ []));
}
