-- How many pass at the front, counted from some of them on, and with a test that more pass.
use Rattle.std.proofs.Common.{◌≡◌, ℕ, zero, suc, ◌+◌, ◌≤◌, ◌<◌, Bool, true, false, List, [], ◌∷◌, length, drop, get_or, Some, refl, ap, ◌∙◌, arith}
use Rattle.std.proofs.lemmas.Bool.Decides.{nat_tests}
use Rattle.std.proofs.lemmas.List.Sums.{prefix_len-drop_all, prefix_len-drop_no, prefix_len-drop_yes, prefix_len-le-length}
use Rattle.std.proofs.lemmas.Option.{get_or_from_slice_get, slice_get_within}
use Rattle.std.specs.Prelude.{nat_le, slice_get}
use Rattle.std.specs.List.{prefix_len}
use Rattle.py_token.specs.declared.token.Token.{Token}
use Rattle.py_token.specs.Tokenized.{Tokenized}
use Rattle.pragma_scope.specs.LogicalLines.{begins_before, begun}
use Rattle.pragma_scope.specs.Regions.{passed}

pub prefix_within : {X : Type 0} (p : X → Bool) (xs : List X) → prefix_len p xs ≤ length xs
prefix_within p xs = prefix_len-le-length p xs

from_by : {X : Type 0} (p : X → Bool) (x : X) (xs : List X) (n : ℕ) (is : Bool) → p x ≡ is → suc n ≤ prefix_len p (x ∷ xs) → (n ≤ prefix_len p xs → n + prefix_len p (drop n xs) ≡ prefix_len p xs) → suc n + prefix_len p (drop n xs) ≡ prefix_len p (x ∷ xs)
from_by p x xs n true e le rest =
    let more : prefix_len p (x ∷ xs) ≡ 1 + prefix_len p xs = simp e refl in
    let there = rest (omega arith) in
    omega arith
from_by p x xs n false e le rest =
    let none : prefix_len p (x ∷ xs) ≡ 0 = simp e refl in
    absurd (omega arith)

-- those behind the first that pass
pub prefix_from : {X : Type 0} (p : X → Bool) (xs : List X) (n : ℕ) → n ≤ prefix_len p xs → n + prefix_len p (drop n xs) ≡ prefix_len p xs
prefix_from p xs zero le = omega arith
prefix_from p [] (suc n) le = absurd (omega arith)
prefix_from p (x ∷ xs) (suc n) le = from_by p x xs n (p x) refl le (prefix_from p xs n)

more_by : {X : Type 0} (p q : X → Bool) (x : X) (xs : List X) (is : Bool) → p x ≡ is → (p x ≡ true → q x ≡ true) → prefix_len p xs ≤ prefix_len q xs → prefix_len p (x ∷ xs) ≤ prefix_len q (x ∷ xs)
more_by p q x xs true e passes rest =
    let one : prefix_len p (x ∷ xs) ≡ 1 + prefix_len p xs = simp e refl in
    let two : prefix_len q (x ∷ xs) ≡ 1 + prefix_len q xs = simp (passes e) refl in
    omega arith
more_by p q x xs false e passes rest =
    let none : prefix_len p (x ∷ xs) ≡ 0 = simp e refl in
    omega arith

prefix_more : {X : Type 0} (p q : X → Bool) (xs : List X) → ((x : X) → p x ≡ true → q x ≡ true) → prefix_len p xs ≤ prefix_len q xs
prefix_more p q [] passes = omega arith
prefix_more p q (x ∷ xs) passes = more_by p q x xs (p x) refl (passes x) (prefix_more p q xs passes)

-- no fewer lines begin before a later place
pub begun_more : (read : Tokenized) (a b : ℕ) → a ≤ b → begun read a ≤ begun read b
begun_more read a b le = prefix_more (begins_before read a) (begins_before read b) read.lines (λ line before. grind (arith, nat_tests))

-- no fewer tokens do not begin behind it
pub passed_more : (read : Tokenized) (a b : ℕ) → a ≤ b → passed read a ≤ passed read b
passed_more read a b le = prefix_more (λ token. nat_le token.start a) (λ token. nat_le token.start b) read.tokens (λ token before. grind (arith, nat_tests))

-- ---- tokens one by one

-- so many do not begin behind the place, and then those of the rest
abbrev pub Counted : Tokenized → ℕ → ℕ → Type 0
Counted read place i = i + prefix_len (λ token. nat_le token.start place) (drop i read.tokens) ≡ passed read place

pub counted_start : (read : Tokenized) (place from : ℕ) → from ≤ passed read place → Counted read place from
counted_start read place from le = prefix_from (λ token. nat_le token.start place) read.tokens from le

token_at : (read : Tokenized) (i : ℕ) (token : Token) → slice_get read.tokens i ≡ Some token → get_or read.tokens i token ≡ token
token_at read i token is = get_or_from_slice_get read.tokens i token token is

-- the next one does
pub counted_stop : (read : Tokenized) (place i : ℕ) (token : Token) → Counted read place i → slice_get read.tokens i ≡ Some token → place < token.start → i ≡ passed read place
counted_stop read place i token all is behind =
    let here = ap (λ (t : Token). nat_le t.start place) (token_at read i token is) in
    let fails : nat_le token.start place ≡ false = grind (arith, nat_tests) in
    let none = prefix_len-drop_no (λ (t : Token). nat_le t.start place) read.tokens i token (slice_get_within read.tokens i token is) (here ∙ fails) in
    omega arith

-- the next one does not
pub counted_on : (read : Tokenized) (place i : ℕ) (token : Token) → Counted read place i → slice_get read.tokens i ≡ Some token → token.start ≤ place → Counted read place (i + 1)
counted_on read place i token all is before =
    let here = ap (λ (t : Token). nat_le t.start place) (token_at read i token is) in
    let passes : nat_le token.start place ≡ true = grind (arith, nat_tests) in
    let more = prefix_len-drop_yes (λ (t : Token). nat_le t.start place) read.tokens i token (slice_get_within read.tokens i token is) (here ∙ passes) in
    omega arith

-- there is no next one
pub counted_end : (read : Tokenized) (place i : ℕ) → Counted read place i → length read.tokens ≤ i → length read.tokens ≡ passed read place
counted_end read place i all le =
    let none = prefix_len-drop_all (λ (t : Token). nat_le t.start place) read.tokens i le in
    let within = prefix_within (λ (t : Token). nat_le t.start place) read.tokens in
    omega arith
