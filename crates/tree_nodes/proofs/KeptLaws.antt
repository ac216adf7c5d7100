-- What is kept stays as it is while names and kids are added behind it.
use Rattle.std.proofs.Common.{◌≡◌, ℕ, zero, suc, ◌+◌, ◌-◌, ◌<◌, ◌≤◌, Bool, true, false, List, [], ◌∷◌, ◌++◌, length, map, get_or, take, drop, refl, sym, ap, subst, ◌∙◌, arith, length-append, Some, None, cond, ⊎_elim}
use Rattle.std.specs.Prelude.{All}
use Rattle.std.specs.Str.{IsCharBoundary, IsUtf8}
use Rattle.std.proofs.lemmas.Str.{IsCharBoundary-at_seam}
use Rattle.std.proofs.lemmas.List.{drop-append-le, take-append-le, length-drop, get_or_append_left}
use Rattle.std.proofs.Math.Seq.{drop-append_seam, take-length}
use Rattle.std.proofs.lemmas.Bool.{cases_lt}
use Rattle.tree_nodes.specs.declared.label.Label.{Label}
use Rattle.tree_nodes.specs.declared.label.Span.{Span}
use Rattle.tree_nodes.specs.Kept.{within, node_in, FitsIn, IsTextIn}

-- ---- lists

pub map-same : {X Y : Type 0} (f g : X → Y) (xs : List X) → ((k : ℕ) (d : X) → k < length xs → f (get_or xs k d) ≡ g (get_or xs k d)) → map f xs ≡ map g xs
map-same f g [] h = refl
map-same f g (x ∷ xs) h =
    let first : f x ≡ g x = h 0 x (omega arith) in
    let others = map-same f g xs (λ k d l. h (suc k) d (omega arith)) in
    rw (first, others) refl

pub all_of_one : {X : Type 0} (P : X → Type 0) (x : X) → P x → All P (x ∷ [])
all_of_one P x p zero d l = p
all_of_one P x p (suc k) d l = absurd (omega arith)

-- ---- spans

pub within-append : {X : Type 0} (xs ys : List X) (span : Span) → FitsIn (length xs) span → within (xs ++ ys) span ≡ within xs span
within-append xs ys span fits =
    let ordered = fits.ordered in
    let ends = fits.ends in
    let starts : span.start ≤ length xs = omega arith in
    let room : span.end - span.start ≤ length (drop span.start xs) = omega (arith, length-drop span.start xs) in
    ap (take (span.end - span.start)) (drop-append-le span.start xs ys starts) ∙ take-append-le (span.end - span.start) (drop span.start xs) ys room

pub within-seam : {X : Type 0} (xs ys : List X) (span : Span) → span.start ≡ length xs → span.end ≡ length xs + length ys → within (xs ++ ys) span ≡ ys
within-seam xs ys span starts ends =
    let room : span.end - span.start ≡ length ys = omega arith in
    rw (room, starts, drop-append_seam xs ys) (take-length ys)

pub fits-append : {X : Type 0} (xs ys : List X) (span : Span) → FitsIn (length xs) span → FitsIn (length (xs ++ ys)) span
fits-append xs ys span fits =
    let ends = fits.ends in
    record { ordered = fits.ordered; ends = omega (arith, length-append xs ys) }

-- ---- names

pub boundary-append : (xs ys : List ℕ) (i : ℕ) → IsCharBoundary xs i → IsUtf8 ys → IsCharBoundary (xs ++ ys) i
boundary-append xs ys i here u =
    ⊎_elim (λ inside. inner inside) (λ past. at_end (omega (arith, here.0))) (cases_lt i (length xs))
  where
    inner : i < length xs → IsCharBoundary (xs ++ ys) i
    inner l =
        let same = get_or_append_left xs ys 0 i l in
        (omega (arith, length-append xs ys), λ _ high. subst (λ (b : ℕ). 192 ≤ b) (sym same) (here.1 l (subst (λ (b : ℕ). 128 ≤ b) same high)))

    at_end : i ≡ length xs → IsCharBoundary (xs ++ ys) i
    at_end e = subst (λ (j : ℕ). IsCharBoundary (xs ++ ys) j) (sym e) (IsCharBoundary-at_seam (xs ++ ys) xs ys refl u)

pub text-append : (names more : List ℕ) (span : Span) → IsTextIn names span → IsUtf8 more → IsTextIn (names ++ more) span
text-append names more span here u =
    record { ordered = here.ordered; starts = boundary-append names more span.start here.starts u; ends = boundary-append names more span.end here.ends u }

pub text-fits : (names : List ℕ) (span : Span) → IsTextIn names span → FitsIn (length names) span
text-fits names span here = record { ordered = here.ordered; ends = here.ends.0 }

pub name-kept : (names more : List ℕ) (named : Bool) (span : Span) → IsTextIn names span → cond named (Some (within (names ++ more) span)) None ≡ cond named (Some (within names span)) None
name-kept names more true span here = ap (λ (s : List ℕ). Some s) (within-append names more span (text-fits names span here))
name-kept names more false span here = refl

pub node-kept : (names more : List ℕ) (label : Label) → IsTextIn names label.name → node_in (names ++ more) label ≡ node_in names label
node-kept names more label here = rw (name-kept names more label.is_named label.name here) refl

pub empty-of_length : {X : Type 0} (xs : List X) → length xs ≡ 0 → xs ≡ []
empty-of_length [] e = refl
empty-of_length (x ∷ xs) e = absurd (omega arith)

pub below-same_length : {X : Type 0} (n : ℕ) (xs ys : List X) → xs ≡ ys → n < length ys → n < length xs
below-same_length n xs ys e l = rw e l
