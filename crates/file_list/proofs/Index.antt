-- The table of module names after one more entry.
use Rattle.std.proofs.Common.{◌≡◌, ℕ, ◌+◌, ◌≤◌, ◌<◌, Bool, true, false, cond, not, List, [], ◌∷◌, ◌++◌, length, Option, None, Some, refl, sym, ap, ◌∙◌, arith, length-append}
use Rattle.std.specs.Prelude.{◌||◌, ◌==◌, count_by, nat_eq, nat_lt, position}
use Rattle.std.specs.List.{list_any, position_or_len}
use Rattle.std.specs.Option.{is_some, option_map}
use Rattle.std.specs.Str.{bytes_eq}
use Rattle.std.proofs.lemmas.Bool.Decides.{nat_tests}
use Rattle.std.proofs.lemmas.List.Folds.{list_any-append, position_or_len_push}
use Rattle.std.proofs.lemmas.List.Sums.{sum_by-cons, sum_by_push}
use Rattle.lint_values.specs.declared.place.FileId.{FileId}
use Rattle.file_list.specs.declared.entry.Listed.{Listed}
use Rattle.file_list.specs.Modules.{is_module, file_at, file_of_module, indexed}
use Rattle.file_list.proofs.Kept.{same_text, text_itself, text_turned}

or_split : (a b : Bool) → (a || b) ≡ false → (a ≡ false) × (b ≡ false)
or_split true b e = absurd cc
or_split false b e = (refl, e)

lt_true : (a b : ℕ) → a < b → nat_lt a b ≡ true
lt_true a b low = by_test (nat_lt a b) refl
  where
    by_test : (t : Bool) → nat_lt a b ≡ t → nat_lt a b ≡ true
    by_test true e = e
    by_test false e = absurd (grind (arith, nat_tests))

not_one : (n : ℕ) → 2 ≤ n → (n == 1) ≡ false
not_one n high = by_test (n == 1) refl
  where
    by_test : (t : Bool) → (n == 1) ≡ t → (n == 1) ≡ false
    by_test true e = absurd (grind (arith, nat_tests))
    by_test false e = e

module _ {X : Type 0} (p : X → Bool) where
  count_cons : (x : X) (xs : List X) → count_by p (x ∷ xs) ≡ cond (p x) 1 0 + count_by p xs
  count_cons x xs = sum_by-cons (λ y. cond (p y) 1 0) x xs

  count_last : (xs : List X) (x : X) (b : Bool) → p x ≡ b → count_by p (xs ++ x ∷ []) ≡ count_by p xs + cond b 1 0
  count_last xs x b e = sum_by_push (λ y. cond (p y) 1 0) xs x ∙ ap (λ t. count_by p xs + cond t 1 0) e

  none_count : (xs : List X) → list_any p xs ≡ false → count_by p xs ≡ 0
  none_count [] e = refl
  none_count (x ∷ xs) e =
      let parts = or_split (p x) (list_any p xs) e in
      let all : count_by p (x ∷ xs) ≡ 0 + count_by p xs = count_cons x xs ∙ ap (λ b. cond b 1 0 + count_by p xs) parts.0 in
      let behind = none_count xs parts.1 in
      omega arith

  none_place : (xs : List X) → list_any p xs ≡ false → position_or_len p xs ≡ length xs
  none_place [] e = refl
  none_place (x ∷ xs) e =
      let parts = or_split (p x) (list_any p xs) e in
      let behind = none_place xs parts.1 in
      let here : position_or_len p (x ∷ xs) ≡ 1 + position_or_len p xs = ap (λ b. cond (not b) (1 + position_or_len p xs) 0) parts.0 in
      omega arith

  some_count : (xs : List X) → list_any p xs ≡ true → 1 ≤ count_by p xs
  some_count [] e = absurd cc
  some_count (x ∷ xs) e = by_first (p x) refl e (λ h. some_count xs h)
    where
      by_first : (b : Bool) → p x ≡ b → (b || list_any p xs) ≡ true → (list_any p xs ≡ true → 1 ≤ count_by p xs) → 1 ≤ count_by p (x ∷ xs)
      by_first true t h rest = let all : count_by p (x ∷ xs) ≡ 1 + count_by p xs = count_cons x xs ∙ ap (λ b. cond b 1 0 + count_by p xs) t in omega arith
      by_first false t h rest =
          let all : count_by p (x ∷ xs) ≡ 0 + count_by p xs = count_cons x xs ∙ ap (λ b. cond b 1 0 + count_by p xs) t in
          let behind = rest h in omega arith

  some_place : (xs : List X) → list_any p xs ≡ true → position_or_len p xs < length xs
  some_place [] e = absurd cc
  some_place (x ∷ xs) e = by_first (p x) refl e (λ h. some_place xs h)
    where
      by_first : (b : Bool) → p x ≡ b → (b || list_any p xs) ≡ true → (list_any p xs ≡ true → position_or_len p xs < length xs) → position_or_len p (x ∷ xs) < length (x ∷ xs)
      by_first true t h rest = let here : position_or_len p (x ∷ xs) ≡ 0 = ap (λ b. cond (not b) (1 + position_or_len p xs) 0) t in omega arith
      by_first false t h rest =
          let here : position_or_len p (x ∷ xs) ≡ 1 + position_or_len p xs = ap (λ b. cond (not b) (1 + position_or_len p xs) 0) t in
          let behind = rest h in omega arith

  low_position : (xs : List X) (place : ℕ) → position_or_len p xs ≡ place → place < length xs → position p xs ≡ Some place
  low_position xs place e low =
      ap (λ n. cond (nat_lt n (length xs)) (Some n) None) e ∙ ap (λ b. cond b (Some place) None) (lt_true place (length xs) low)

  same_place : (xs : List X) (x : X) → list_any p xs ≡ true → position p (xs ++ x ∷ []) ≡ position p xs
  same_place xs x some =
      let low = some_place xs some in
      let long : length (xs ++ x ∷ []) ≡ length xs + 1 = length-append xs (x ∷ []) in
      let apart : nat_eq (position_or_len p xs) (length xs) ≡ false = by_test (nat_eq (position_or_len p xs) (length xs)) refl low in
      low_position (xs ++ x ∷ []) (position_or_len p xs) (position_or_len_push p xs x ∙ ap (λ b. cond b (length xs + cond (p x) 0 1) (position_or_len p xs)) apart) (omega arith)
      ∙ sym (low_position xs (position_or_len p xs) refl low)
    where
      by_test : (t : Bool) → nat_eq (position_or_len p xs) (length xs) ≡ t → position_or_len p xs < length xs → nat_eq (position_or_len p xs) (length xs) ≡ false
      by_test true e low = absurd (grind (arith, nat_tests))
      by_test false e low = e

  new_place : (xs : List X) (x : X) → p x ≡ true → list_any p xs ≡ false → position p (xs ++ x ∷ []) ≡ Some (length xs)
  new_place xs x passes none =
      let long : length (xs ++ x ∷ []) ≡ length xs + 1 = length-append xs (x ∷ []) in
      low_position (xs ++ x ∷ []) (length xs)
      (position_or_len_push p xs x ∙ ap (λ n. cond (nat_eq n (length xs)) (length xs + cond (p x) 0 1) n) (none_place xs none) ∙ ap (λ b. cond (nat_eq (length xs) (length xs)) (length xs + cond b 0 1) (length xs)) passes ∙ either_way (nat_eq (length xs) (length xs)) (length xs))
      (omega arith)
    where
      either_way : (b : Bool) (n : ℕ) → cond b (n + 0) n ≡ n
      either_way true n = omega arith
      either_way false n = refl

-- what the table has for a name is its file
pub found_is : (dotted : List ℕ) (reading : List Listed) (file : Option FileId) → Some file ≡ indexed dotted reading → file ≡ file_of_module dotted reading
found_is dotted reading file e = by_any (list_any (is_module dotted) reading) e
  where
    by_any : (b : Bool) → Some file ≡ cond b (Some (file_of_module dotted reading)) None → file ≡ file_of_module dotted reading
    by_any true h = cc
    by_any false h = absurd cc

no_file : (dotted : List ℕ) (reading : List Listed) → list_any (is_module dotted) reading ≡ false → file_of_module dotted reading ≡ None
no_file dotted reading none = ap (λ n. cond (n == 1) (option_map file_at (position (is_module dotted) reading)) None) (none_count (is_module dotted) reading none)

pub missing_is : (dotted : List ℕ) (reading : List Listed) → None ≡ indexed dotted reading → None ≡ file_of_module dotted reading
missing_is dotted reading e = by_any (list_any (is_module dotted) reading) refl e
  where
    by_any : (b : Bool) → list_any (is_module dotted) reading ≡ b → None ≡ cond b (Some (file_of_module dotted reading)) None → None ≡ file_of_module dotted reading
    by_any true t h = absurd cc
    by_any false t h = sym (no_file dotted reading t)

-- the file of a name with one more entry
module _ (q : List ℕ) (reading : List Listed) (l : Listed) where
  other_name : is_module q l ≡ false → list_any (is_module q) reading ≡ true → file_of_module q (reading ++ l ∷ []) ≡ file_of_module q reading
  other_name other some =
      let count : count_by (is_module q) (reading ++ l ∷ []) ≡ count_by (is_module q) reading = (let h = count_last (is_module q) reading l false other in omega arith) in
      ap (λ n. cond (n == 1) (option_map file_at (position (is_module q) (reading ++ l ∷ []))) None) count
      ∙ ap (λ o. cond (count_by (is_module q) reading == 1) (option_map file_at o) None) (same_place (is_module q) reading l some)

  first_name : is_module q l ≡ true → list_any (is_module q) reading ≡ false → file_of_module q (reading ++ l ∷ []) ≡ Some (file_at (length reading))
  first_name same none =
      let count : count_by (is_module q) (reading ++ l ∷ []) ≡ 1 = (let h = count_last (is_module q) reading l true same in let e = none_count (is_module q) reading none in omega arith) in
      ap (λ n. cond (n == 1) (option_map file_at (position (is_module q) (reading ++ l ∷ []))) None) count
      ∙ ap (option_map file_at) (new_place (is_module q) reading l same none)

  next_name : is_module q l ≡ true → list_any (is_module q) reading ≡ true → file_of_module q (reading ++ l ∷ []) ≡ None
  next_name same some =
      let count : 2 ≤ count_by (is_module q) (reading ++ l ∷ []) = (let h = count_last (is_module q) reading l true same in let e = some_count (is_module q) reading some in omega arith) in
      ap (λ b. cond b (option_map file_at (position (is_module q) (reading ++ l ∷ []))) None) (not_one (count_by (is_module q) (reading ++ l ∷ [])) count)

  any_last : (a b : Bool) → list_any (is_module q) reading ≡ a → is_module q l ≡ b → list_any (is_module q) (reading ++ l ∷ []) ≡ (a || (b || false))
  any_last a b e f = list_any-append (is_module q) reading (l ∷ []) ∙ ap (λ t. t || (is_module q l || false)) e ∙ ap (λ t. a || (t || false)) f

  indexed_by : (b : Bool) (file : Option FileId) → list_any (is_module q) (reading ++ l ∷ []) ≡ b → file_of_module q (reading ++ l ∷ []) ≡ file → indexed q (reading ++ l ∷ []) ≡ cond b (Some file) None
  indexed_by b file any is = ap (λ t. cond t (Some (file_of_module q (reading ++ l ∷ []))) None) any ∙ ap (λ x. cond b (Some x) None) is

  same_by : (a : Bool) → list_any (is_module q) reading ≡ a → is_module q l ≡ true → (file : Option FileId) → file ≡ cond a None (Some (file_at (length reading))) → Some file ≡ indexed q (reading ++ l ∷ [])
  same_by true some same file is = ap Some is ∙ sym (indexed_by true None (any_last true true some same) (next_name same some))
  same_by false none same file is = ap Some is ∙ sym (indexed_by true (Some (file_at (length reading))) (any_last false true none same) (first_name same none))

  other_by : (a : Bool) → list_any (is_module q) reading ≡ a → is_module q l ≡ false → indexed q reading ≡ indexed q (reading ++ l ∷ [])
  other_by true some other = ap (λ b. cond b (Some (file_of_module q reading)) None) some ∙ sym (indexed_by true (file_of_module q reading) (any_last true false some other) (other_name other some))
  other_by false none other = ap (λ b. cond b (Some (file_of_module q reading)) None) none ∙ sym (ap (λ t. cond t (Some (file_of_module q (reading ++ l ∷ []))) None) (any_last false false none other))

some_of : (q : List ℕ) (reading : List Listed) → is_some (indexed q reading) ≡ list_any (is_module q) reading
some_of q reading = by_any (list_any (is_module q) reading)
  where
    by_any : (b : Bool) → is_some (cond b (Some (file_of_module q reading)) None) ≡ b
    by_any true = refl
    by_any false = refl

-- the table with one more entry
pub index_more : (before now : List ℕ → Option (Option FileId)) (reading : List Listed) (l : Listed) (name : List ℕ) (file : Option FileId)
    → name ≡ l.module_name → ((q : List ℕ) → before q ≡ indexed q reading)
    → file ≡ cond (is_some (before name)) None (Some (file_at (length reading)))
    → ((q : List ℕ) → now q ≡ cond (bytes_eq name q) (Some file) (before q))
    → (q : List ℕ) → now q ≡ indexed q (reading ++ l ∷ [])
index_more before now reading l name file at had is after q = after q ∙ by_name (bytes_eq name q) refl
  where
    known : file ≡ cond (list_any (is_module name) reading) None (Some (file_at (length reading)))
    known = is ∙ ap (λ b. cond b None (Some (file_at (length reading)))) (ap is_some (had name) ∙ some_of name reading)

    by_name : (b : Bool) → bytes_eq name q ≡ b → cond b (Some file) (before q) ≡ indexed q (reading ++ l ∷ [])
    by_name true t =
        let same : name ≡ q = same_text name q t in
        same_by q reading l (list_any (is_module q) reading) refl (ap (λ n. bytes_eq q n) (sym at ∙ same) ∙ text_itself q) file (known ∙ ap (λ n. cond (list_any (is_module n) reading) None (Some (file_at (length reading)))) same)
    by_name false t = had q ∙ other_by q reading l (list_any (is_module q) reading) refl (ap (bytes_eq q) (sym at) ∙ text_turned name q t)
