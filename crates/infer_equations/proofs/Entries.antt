-- A `BTreeMap`'s entries as a finite map.
use Rattle.std.proofs.Common.{◌≡◌, ℕ, cond, List, [], ◌∷◌, map, length, refl, sym, ◌∙◌, ap, arith}
use Rattle.std.specs.Prelude.{Some, None}
use Rattle.std.specs.Ordering.{nat_cmp, eq_by_cmp}
use Rattle.std.specs.Cmp.{nat_cmp_total, eq_by_cmp_equiv}
use Rattle.std.specs.Map.{lookup}
use Rattle.std.specs.FinMap.{get, insert, find, from_entries, get-from_entries, get-insert, remove, get-remove, same_map, nat_cmp-IsAntisymmetric, entries, entries-insert, len, empty, len-empty, len-entries, keys}
use Rattle.std.specs.FinMap.Entries.{by_order, put}
use Rattle.std.specs.List.Sorted.{IsStrictlySortedBy}

module _ {X : Type 0} where
  lookup-find : (q : ℕ) (es : List (ℕ × X)) → lookup (λ k. eq_by_cmp nat_cmp q k) es ≡ find nat_cmp q es
  lookup-find q [] = refl
  lookup-find q (e ∷ es) = ap (λ r. cond (eq_by_cmp nat_cmp q e.0) (Some e.1) r) (lookup-find q es)

  pub get-entries_map : (es : List (ℕ × X)) (q : ℕ) → lookup (λ k. eq_by_cmp nat_cmp q k) es ≡ get (from_entries {R = nat_cmp} es) q
  get-entries_map es q = lookup-find q es ∙ sym (get-from_entries nat_cmp_total es q)

  pub insert-entries_map : (es fs : List (ℕ × X)) (k : ℕ) (s : X)
      → ((q : ℕ) → lookup (λ x. eq_by_cmp nat_cmp q x) fs ≡ cond (eq_by_cmp nat_cmp k q) (Some s) (lookup (λ x. eq_by_cmp nat_cmp q x) es))
      → from_entries {R = nat_cmp} fs ≡ insert (from_entries es) k s
  insert-entries_map es fs k s h = same_map nat_cmp_total nat_cmp-IsAntisymmetric _ _ (λ q.
      sym (get-entries_map fs q) ∙ h q
      ∙ ap (λ b. cond b (Some s) (lookup (λ x. eq_by_cmp nat_cmp q x) es)) ((eq_by_cmp_equiv nat_cmp_total).symm k q)
      ∙ ap (λ r. cond (eq_by_cmp nat_cmp q k) (Some s) r) (get-entries_map es q)
      ∙ sym (get-insert nat_cmp_total (from_entries es) k s q))

  pub remove-entries_map : (es fs : List (ℕ × X)) (k : ℕ)
      → ((q : ℕ) → lookup (λ x. eq_by_cmp nat_cmp q x) fs ≡ cond (eq_by_cmp nat_cmp k q) None (lookup (λ x. eq_by_cmp nat_cmp q x) es))
      → from_entries {R = nat_cmp} fs ≡ remove (from_entries es) k
  remove-entries_map es fs k h = same_map nat_cmp_total nat_cmp-IsAntisymmetric _ _ (λ q.
      sym (get-entries_map fs q) ∙ h q
      ∙ ap (λ b. cond b None (lookup (λ x. eq_by_cmp nat_cmp q x) es)) ((eq_by_cmp_equiv nat_cmp_total).symm k q)
      ∙ ap (λ r. cond (eq_by_cmp nat_cmp q k) None r) (get-entries_map es q)
      ∙ sym (get-remove nat_cmp_total (from_entries es) k q))

  put_below : (es : List (ℕ × X)) (k : ℕ) (s : X) → IsStrictlySortedBy nat_cmp (map (λ e. e.0) ((k, s) ∷ es)) → put nat_cmp k s es ≡ (k, s) ∷ es
  unfolding IsStrictlySortedBy
  put_below [] k s h = refl
  put_below (e ∷ es) k s h = ap (λ r. by_order r ((k, s) ∷ e ∷ es) ((e.0, s) ∷ es) (e ∷ put nat_cmp k s es)) h.0.0

  none_by_length : (es : List (ℕ × X)) → length es ≡ 0 → es ≡ []
  none_by_length [] e = refl
  none_by_length (x ∷ xs) e = absurd (omega arith)

  entries-none : entries (empty {X = X} {R = nat_cmp}) ≡ []
  entries-none = none_by_length _ (sym (len-entries (empty {X = X} {R = nat_cmp})) ∙ len-empty nat_cmp X)

  -- entries that ascend are the map's
  pub entries-ascending : (es : List (ℕ × X)) → IsStrictlySortedBy nat_cmp (map (λ e. e.0) es) → entries (from_entries {R = nat_cmp} es) ≡ es
  unfolding IsStrictlySortedBy
  entries-ascending [] h = entries-none
  entries-ascending (e ∷ es) h = entries-insert nat_cmp_total (from_entries es) e.0 e.1 ∙ ap (λ xs. put nat_cmp e.0 e.1 xs) (entries-ascending es h.1) ∙ put_below es e.0 e.1 h

  pub len-ascending : (es : List (ℕ × X)) → IsStrictlySortedBy nat_cmp (map (λ e. e.0) es) → length es ≡ len (from_entries {R = nat_cmp} es)
  len-ascending es h = sym (len-entries (from_entries {R = nat_cmp} es) ∙ ap length (entries-ascending es h))

  pub keys-ascending : (es : List (ℕ × X)) → IsStrictlySortedBy nat_cmp (map (λ e. e.0) es) → map (λ e. e.0) es ≡ keys (from_entries {R = nat_cmp} es)
  keys-ascending es h = sym (ap (λ xs. map (λ e. e.0) xs) (entries-ascending es h))
