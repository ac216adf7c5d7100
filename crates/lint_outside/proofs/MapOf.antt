-- The finite map of the entries of a `BTreeMap` over texts.
use Rattle.std.proofs.Common.{◌≡◌, ℕ, Bool, true, false, cond, List, [], ◌∷◌, Some, refl, sym, ap, subst, ◌∙◌}
use Rattle.std.specs.Prelude.{◌&&◌}
use lib.Dec.{T}
use Rattle.std.specs.List.{AllByRecursion}
use Rattle.std.specs.List.Sorted.{IsStrictlySortedBy}
use Rattle.std.specs.Map.{lookup, keys_of}
use Rattle.std.specs.BTreeMap as tree
use Rattle.std.specs.BTreeMap.{BTreeMap, is_at}
use Rattle.std.specs.declared.cmp.Ordering.{Ordering}
use Rattle.std.specs.declared.cmp.Ordering.TheVariants.{Less}
use Rattle.std.specs.Ordering.{nat_cmp, is_lt, eq_by_cmp}
use Rattle.std.specs.Cmp.{eq_by_cmp_equiv}
use Rattle.std.specs.Cmp.Lexicographic.{slice_cmp, nat_list_cmp_total}
use Rattle.std.specs.FinMap.{FinMap, get, find, entries, keys, insert, from_entries, get-from_entries, get-entries, get-insert, entries_sorted, same_map, is_sorted, slice_cmp-IsAntisymmetric, nat_cmp-IsAntisymmetric}
use Rattle.std.specs.FinMap.Entries.{same_entries, below_all}

abbrev text_cmp : List ℕ → List ℕ → Ordering
text_cmp = slice_cmp nat_cmp

abbrev map_of : {X : Type 0} → BTreeMap (List ℕ) X → FinMap text_cmp X
map_of held = from_entries held.entries

find-lookup : {X : Type 0} (path : List ℕ) (es : List (List ℕ × X)) → find text_cmp path es ≡ lookup (is_at (text_cmp path)) es
find-lookup path [] = refl
find-lookup path (e ∷ es) = ap (cond (eq_by_cmp text_cmp path e.0) (Some e.1)) (find-lookup path es)

pub get-map_of : {X : Type 0} (held : BTreeMap (List ℕ) X) (path : List ℕ) → get (map_of held) path ≡ tree.get text_cmp held path
get-map_of held path = get-from_entries nat_list_cmp_total held.entries path ∙ find-lookup path held.entries

pub insert-map_of : {X : Type 0} (old new : BTreeMap (List ℕ) X) (path : List ℕ) (x : X) → tree.Updates text_cmp old new path (Some x) → map_of new ≡ insert (map_of old) path x
insert-map_of old new path x updates =
    same_map nat_list_cmp_total (slice_cmp-IsAntisymmetric nat_cmp-IsAntisymmetric) (map_of new) (insert (map_of old) path x) (λ q.
    get-map_of new q
    ∙ updates.0 q
    ∙ ap (λ t. cond t (Some x) (tree.get text_cmp old q)) ((eq_by_cmp_equiv nat_list_cmp_total).symm path q)
    ∙ ap (cond (eq_by_cmp text_cmp q path) (Some x)) (sym (get-map_of old q))
    ∙ sym (get-insert nat_list_cmp_total (map_of old) path x q))

both : (a b : Bool) → a ≡ true → b ≡ true → (a && b) ≡ true
both true b p q = q
both false b p q = p

all_below : {X : Type 0} (path : List ℕ) (es : List (List ℕ × X)) → AllByRecursion (λ q. text_cmp path q ≡ Less) (keys_of es) → below_all text_cmp path es ≡ true
all_below path [] all = refl
all_below path (e ∷ es) all = both _ _ (ap is_lt all.0) (all_below path es all.1)

sorted : {X : Type 0} (es : List (List ℕ × X)) → IsStrictlySortedBy text_cmp (keys_of es) → is_sorted text_cmp es ≡ true
unfolding IsStrictlySortedBy
sorted [] rising = refl
sorted (e ∷ es) rising = both _ _ (all_below e.0 es rising.0) (sorted es rising.1)

pub keys-map_of : {X : Type 0} (held : BTreeMap (List ℕ) X) → tree.IsOrdered text_cmp held → keys (map_of held) ≡ tree.keys held
keys-map_of held rising =
    ap keys_of (same_entries text_cmp nat_list_cmp_total (slice_cmp-IsAntisymmetric nat_cmp-IsAntisymmetric) (entries (map_of held)) held.entries (entries_sorted (map_of held)) (subst T (sym (sorted held.entries rising)) tt) (λ q.
    sym (get-entries (map_of held) q) ∙ get-from_entries nat_list_cmp_total held.entries q))
