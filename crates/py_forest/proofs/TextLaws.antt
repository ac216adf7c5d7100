-- The texts of strings, one token after the other.
use Rattle.std.proofs.Common.{◌≡◌, ℕ, zero, suc, ◌+◌, ◌-◌, ◌<◌, ◌≤◌, Bool, true, false, if◌then◌else◌, ◌||◌, List, [], ◌∷◌, ◌++◌, length, get_or, take, drop, min, refl, sym, ap, ◌∙◌, arith}
use Rattle.std.proofs.lemmas.List.{length-drop, drop_all}
use Rattle.py_language.specs.Sets.{at}
use Rattle.py_language.specs.Readers.{before}
use Rattle.py_grammar.specs.declared.symbol.Symbol.TheVariants as s
use Rattle.py_grammar.specs.Symbols.{set_of}
use Rattle.py_grammar.specs.Terminals.{Terminal, code, no_terminal}
use Rattle.py_grammar.specs.Nodes.{with_blank, strings_from}
use Rattle.py_grammar.specs.Expressions.{has_format}

-- a token at a place, and those behind it
next_is : (line : List Terminal) (place : ℕ) → place < length line → drop place line ≡ get_or line place no_terminal ∷ drop (place + 1) line
next_is [] n l = absurd (omega arith)
next_is (x ∷ xs) zero l = refl
next_is (x ∷ xs) (suc n) l = let e : suc n + 1 ≡ suc (n + 1) = omega arith in rw e (next_is xs n (omega arith))

pub before_next : (line : List Terminal) (place rest : ℕ) → place < rest → place < length line → before (drop place line) (drop rest line) ≡ get_or line place no_terminal ∷ before (drop (place + 1) line) (drop rest line)
before_next line place rest l m =
    let e = next_is line place m in
    let n : length (drop place line) - length (drop rest line) ≡ suc (length (drop (place + 1) line) - length (drop rest line)) = omega (arith, length-drop place line, length-drop (place + 1) line, length-drop rest line) in
    rw n (ap (λ (ts : List Terminal). take (suc (length (drop (place + 1) line) - length (drop rest line))) ts) e)

pub before_end : (line : List Terminal) (place rest : ℕ) → min rest (length line) ≤ place → before (drop place line) (drop rest line) ≡ []
before_end line place rest l =
    let n : length (drop place line) - length (drop rest line) ≡ 0 = omega (arith, length-drop place line, length-drop rest line) in
    rw n refl

pub string_at : (so_far : List ℕ) (line : List Terminal) (place : ℕ) (ts : List Terminal) → place < length line → at code (set_of (s.Str ∷ s.Bytes ∷ s.FStr ∷ [])) (drop place line) ≡ true
    → strings_from so_far 0 (get_or line place no_terminal ∷ ts) ≡ strings_from (with_blank so_far (get_or line place no_terminal).text) 0 ts
string_at so_far line place ts l e = let n = next_is line place l in let e' = rw n at e in rw e' refl

pub open_at : (so_far : List ℕ) (line : List Terminal) (place : ℕ) (ts : List Terminal) → place < length line → at code (set_of (s.Str ∷ s.Bytes ∷ s.FStr ∷ [])) (drop place line) ≡ false → at code (set_of (s.FieldOpen ∷ [])) (drop place line) ≡ true
    → strings_from so_far 0 (get_or line place no_terminal ∷ ts) ≡ strings_from so_far 1 ts
open_at so_far line place ts l e f = let n = next_is line place l in let e' = rw n at e in let f' = rw n at f in rw (e', f') refl

pub other_at : (so_far : List ℕ) (line : List Terminal) (place : ℕ) (ts : List Terminal) → place < length line → at code (set_of (s.Str ∷ s.Bytes ∷ s.FStr ∷ [])) (drop place line) ≡ false → at code (set_of (s.FieldOpen ∷ [])) (drop place line) ≡ false
    → strings_from so_far 0 (get_or line place no_terminal ∷ ts) ≡ strings_from so_far 0 ts
other_at so_far line place ts l e f = let n = next_is line place l in let e' = rw n at e in let f' = rw n at f in rw (e', f') refl

pub open_within : (so_far : List ℕ) (fields : ℕ) (line : List Terminal) (place : ℕ) (ts : List Terminal) → 0 < fields → place < length line → at code (set_of (s.FieldOpen ∷ [])) (drop place line) ≡ true
    → strings_from so_far fields (get_or line place no_terminal ∷ ts) ≡ strings_from so_far (fields + 1) ts
open_within so_far zero line place ts p l e = absurd (omega arith)
open_within so_far (suc n) line place ts p l e = let m = next_is line place l in let e' = rw m at e in let k : suc n + 1 ≡ suc (suc n) = omega arith in rw (e', k) refl

pub close_within : (so_far : List ℕ) (fields : ℕ) (line : List Terminal) (place : ℕ) (ts : List Terminal) → 0 < fields → place < length line → at code (set_of (s.FieldOpen ∷ [])) (drop place line) ≡ false → at code (set_of (s.FieldClose ∷ [])) (drop place line) ≡ true
    → strings_from so_far fields (get_or line place no_terminal ∷ ts) ≡ strings_from so_far (fields - 1) ts
close_within so_far zero line place ts p l e f = absurd (omega arith)
close_within so_far (suc n) line place ts p l e f = let m = next_is line place l in let e' = rw m at e in let f' = rw m at f in let k : suc n - 1 ≡ n = omega arith in rw (e', f', k) refl

pub other_within : (so_far : List ℕ) (fields : ℕ) (line : List Terminal) (place : ℕ) (ts : List Terminal) → 0 < fields → place < length line → at code (set_of (s.FieldOpen ∷ [])) (drop place line) ≡ false → at code (set_of (s.FieldClose ∷ [])) (drop place line) ≡ false
    → strings_from so_far fields (get_or line place no_terminal ∷ ts) ≡ strings_from so_far fields ts
other_within so_far zero line place ts p l e f = absurd (omega arith)
other_within so_far (suc n) line place ts p l e f = let m = next_is line place l in let e' = rw m at e in let f' = rw m at f in rw (e', f') refl

pub format_next : (line : List Terminal) (place rest : ℕ) → place < rest → place < length line → has_format (before (drop place line) (drop rest line)) ≡ (at code (set_of (s.FStr ∷ [])) (drop place line) || has_format (before (drop (place + 1) line) (drop rest line)))
format_next line place rest l m = let e = before_next line place rest l m in let n = next_is line place m in rw (e, n) refl
