-- What a sink holds after several writes.
use Rattle.std.proofs.Common.{◌≡◌, ◌≤◌, ◌<◌, ℕ, ◌+◌, List, [], ◌∷◌, ◌++◌, Option, None, Some, length, take, drop, get_or, refl, sym, ap, subst, ◌∙◌, append_assoc, length-append, arith, zero, suc, add-one}
use Rattle.std.proofs.Common.{Result, Ok, Err}
use Rattle.std.specs.Result.{OnErr}
use Rattle.std.specs.List.{concat}
use Rattle.std.proofs.lemmas.List.{take_all, take-append-le, append-nil}
use Rattle.lint_outside.specs.Sinks.{Appends, AppendsPrefix}

pub appends_nothing : (a b : Option (List ℕ)) → b ≡ a → Appends a b []
appends_nothing None b e = tt
appends_nothing (Some x) b e = e ∙ ap Some (sym (append-nil x))

pub appends_more : (a b c : Option (List ℕ)) (xs ys : List ℕ) → Appends a b xs → Appends b c ys → Appends a c (xs ++ ys)
appends_more None b c xs ys f g = tt
appends_more (Some x) b c xs ys f g =
    let h : Appends (Some (x ++ xs)) c ys = subst (λ m. Appends m c ys) f g in
    h ∙ ap Some (append_assoc x xs ys)

take_past : (xs ys : List ℕ) (n : ℕ) → take (length xs + n) (xs ++ ys) ≡ xs ++ take n ys
take_past [] ys n = let e : 0 + n ≡ n = omega arith in rw e refl
take_past (x ∷ xs) ys n = let e : suc (length xs) + n ≡ suc (length xs + n) = omega arith in rw e (ap (λ r. x ∷ r) (take_past xs ys n))

pub prefix_more : (a b c : Option (List ℕ)) (xs ys zs : List ℕ) → Appends a b xs → AppendsPrefix b c ys → AppendsPrefix a c (xs ++ (ys ++ zs))
prefix_more None b c xs ys zs f g = tt
prefix_more (Some x) b c xs ys zs f g =
    let h : AppendsPrefix (Some (x ++ xs)) c ys = subst (λ m. AppendsPrefix m c ys) f g in
    let short : h.0 ≤ length ys = h.1 in
    (length xs + h.0, simp length-append (omega arith), h.2 ∙ ap Some (append_assoc x xs (take h.0 ys) ∙ ap (λ r. x ++ r) (ap (λ r. xs ++ r) (sym (take-append-le h.0 ys zs short)) ∙ sym (take_past xs (ys ++ zs) h.0))))

pub prefix_nothing : (a b : Option (List ℕ)) (xs : List ℕ) → b ≡ a → AppendsPrefix a b xs
prefix_nothing None b xs e = tt
prefix_nothing (Some x) b xs e = (0, omega arith, e ∙ ap Some (sym (append-nil x)))

pub prefix_whole : (a b : Option (List ℕ)) (xs : List ℕ) → Appends a b xs → AppendsPrefix a b xs
prefix_whole None b xs f = tt
prefix_whole (Some x) b xs f = (length xs, omega arith, f ∙ ap (λ r. Some (x ++ r)) (sym (take_all (length xs) xs (omega arith))))

pub concat_more : (lines : List (List ℕ)) (i : ℕ) (line : List ℕ) → i < length lines → line ≡ get_or lines i line → concat (take (i + 1) lines) ≡ concat (take i lines) ++ line
concat_more lines i line lt at = rw add-one (go lines i line lt at)
  where
    go : (lines : List (List ℕ)) (i : ℕ) (line : List ℕ) → i < length lines → line ≡ get_or lines i line → concat (take (suc i) lines) ≡ concat (take i lines) ++ line
    go [] i line lt at = absurd (omega arith)
    go (first ∷ lines) zero line lt at = append-nil first ∙ sym at
    go (first ∷ lines) (suc i) line lt at = ap (λ r. first ++ r) (go lines i line (omega arith) at) ∙ sym (append_assoc first (concat (take i lines)) line)

pub concat_rest : (lines : List (List ℕ)) (i : ℕ) (line : List ℕ) → i < length lines → line ≡ get_or lines i line → concat lines ≡ concat (take i lines) ++ (line ++ concat (drop (i + 1) lines))
concat_rest lines i line lt at = rw add-one (go lines i line lt at)
  where
    go : (lines : List (List ℕ)) (i : ℕ) (line : List ℕ) → i < length lines → line ≡ get_or lines i line → concat lines ≡ concat (take i lines) ++ (line ++ concat (drop (suc i) lines))
    go [] i line lt at = absurd (omega arith)
    go (first ∷ lines) zero line lt at = ap (λ r. r ++ concat lines) (sym at)
    go (first ∷ lines) (suc i) line lt at = ap (λ r. first ++ r) (go lines i line (omega arith) at) ∙ sym (append_assoc first (concat (take i lines)) (line ++ concat (drop (suc i) lines)))

-- one more line is written
pub wrote_line : (a b c : Option (List ℕ)) (lines : List (List ℕ)) (i : ℕ) (line bytes : List ℕ) → i < length lines → line ≡ get_or lines i line → bytes ≡ line → Appends a b (concat (take i lines)) → Appends b c bytes → Appends a c (concat (take (i + 1) lines))
wrote_line a b c lines i line bytes lt at same so_far writes =
    subst (Appends a c) (ap (λ r. concat (take i lines) ++ r) same ∙ sym (concat_more lines i line lt at)) (appends_more a b c (concat (take i lines)) bytes so_far writes)

-- a line stops in its midst
pub stopped_in_line : (a b c : Option (List ℕ)) (lines : List (List ℕ)) (i : ℕ) (line bytes : List ℕ) → i < length lines → line ≡ get_or lines i line → bytes ≡ line → Appends a b (concat (take i lines)) → AppendsPrefix b c bytes → AppendsPrefix a c (concat lines)
stopped_in_line a b c lines i line bytes lt at same so_far writes =
    subst (AppendsPrefix a c) (ap (λ r. concat (take i lines) ++ (r ++ concat (drop (i + 1) lines))) same ∙ sym (concat_rest lines i line lt at)) (prefix_more a b c (concat (take i lines)) bytes (concat (drop (i + 1) lines)) so_far writes)

pub on_err : {T E P : Type 0} (r : Result T E) → P → OnErr r P
on_err (Ok x) p = tt
on_err (Err e) p = p
