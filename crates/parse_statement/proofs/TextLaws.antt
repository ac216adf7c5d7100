-- Texts over several tokens, token by token.
use Rattle.std.proofs.Common.{◌≡◌, ℕ, zero, suc, ◌+◌, ◌-◌, ◌<◌, ◌≤◌, min, true, false, List, [], ◌∷◌, ◌++◌, length, take, drop, get_or, refl, sym, ap, ◌∙◌, ⊎_elim, append_assoc, arith}
use Rattle.std.proofs.lemmas.List.{append-nil, length-drop}
use Rattle.std.proofs.lemmas.Bool.{cases_lt}
use Rattle.py_language.specs.Sets.{at}
use Rattle.py_language.specs.Readers.{before}
use Rattle.py_grammar.specs.declared.symbol.Symbol.{Symbol}
use Rattle.py_grammar.specs.declared.symbol.Symbol.TheVariants as s
use Rattle.py_grammar.specs.Symbols.{set_of}
use Rattle.py_grammar.specs.Terminals.{Terminal, code, no_terminal}
use Rattle.py_grammar.specs.Nodes.{joined, before_first, module_text}

drop_next : (n : ℕ) (ts : List Terminal) → n < length ts → drop n ts ≡ get_or ts n no_terminal ∷ drop (n + 1) ts
drop_next n [] l = absurd (omega arith)
drop_next zero (t ∷ ts) l = refl
drop_next (suc n) (t ∷ ts) l = let e : suc n + 1 ≡ suc (n + 1) = omega arith in rw e (drop_next n ts (omega arith))

-- a stretch begins with the token there
pub stretch_next : (start rest : ℕ) (ts : List Terminal) → start < rest → start < length ts → before (drop start ts) (drop rest ts) ≡ get_or ts start no_terminal ∷ before (drop (start + 1) ts) (drop rest ts)
stretch_next start rest ts l m =
    let e = drop_next start ts m in
    let long : length (drop start ts) - length (drop rest ts) ≡ suc (length (drop (start + 1) ts) - length (drop rest ts)) = omega (arith, length-drop start ts, length-drop rest ts, length-drop (start + 1) ts) in
    ap (λ (n : ℕ). take n (drop start ts)) long ∙ ap (λ (us : List Terminal). take (suc (length (drop (start + 1) ts) - length (drop rest ts))) us) e

pub stretch_end : (start rest : ℕ) (ts : List Terminal) → rest ≤ start → before (drop start ts) (drop rest ts) ≡ []
stretch_end start rest ts l =
    let none : length (drop start ts) - length (drop rest ts) ≡ 0 = omega (arith, length-drop start ts, length-drop rest ts) in rw none refl

pub stretch_past : (start rest : ℕ) (ts : List Terminal) → length ts ≤ start → before (drop start ts) (drop rest ts) ≡ []
stretch_past start rest ts l =
    let none : length (drop start ts) - length (drop rest ts) ≡ 0 = omega (arith, length-drop start ts, length-drop rest ts) in rw none refl

-- one of the symbols stands there
pub joined_stop : (stops : List Symbol) (start rest : ℕ) (ts : List Terminal) → start < rest → start < length ts → at code (set_of stops) (drop start ts) ≡ true → joined (before_first stops (before (drop start ts) (drop rest ts))) ≡ []
joined_stop stops start rest ts l m a =
    let e = stretch_next start rest ts l m in
    let d = drop_next start ts m in
    let a' = rw d at a in
    rw (e, a') refl

-- another symbol stands there
pub joined_next : (stops : List Symbol) (start rest : ℕ) (ts : List Terminal) → start < rest → start < length ts → at code (set_of stops) (drop start ts) ≡ false
    → joined (before_first stops (before (drop start ts) (drop rest ts))) ≡ (get_or ts start no_terminal).text ++ joined (before_first stops (before (drop (start + 1) ts) (drop rest ts)))
joined_next stops start rest ts l m a =
    let e = stretch_next start rest ts l m in
    let d = drop_next start ts m in
    let a' = rw d at a in
    rw (e, a') refl

pub joined_end : (stops : List Symbol) (start rest : ℕ) (ts : List Terminal) → min rest (length ts) ≤ start → joined (before_first stops (before (drop start ts) (drop rest ts))) ≡ []
joined_end stops start rest ts l = rw (none) refl
  where
    none : before (drop start ts) (drop rest ts) ≡ []
    none = let few : length (drop start ts) - length (drop rest ts) ≡ 0 = omega (arith, length-drop start ts, length-drop rest ts) in rw few refl

-- the text behind `from`
pub module_text_is : (start rest : ℕ) (ts : List Terminal) → start < rest → module_text (before (drop start ts) (drop rest ts)) ≡ joined (before_first (s.ImportWord ∷ []) (before (drop (start + 1) ts) (drop rest ts)))
module_text_is start rest ts l = ⊎_elim inside past (cases_lt start (length ts))
  where
    inside : start < length ts → module_text (before (drop start ts) (drop rest ts)) ≡ joined (before_first (s.ImportWord ∷ []) (before (drop (start + 1) ts) (drop rest ts)))
    inside m = let e = stretch_next start rest ts l m in rw e refl

    past : length ts ≤ start → module_text (before (drop start ts) (drop rest ts)) ≡ joined (before_first (s.ImportWord ∷ []) (before (drop (start + 1) ts) (drop rest ts)))
    past m = let e = stretch_past start rest ts m in let f = stretch_past (start + 1) rest ts (omega arith) in rw (e, f) refl

pub module_text_end : (start rest : ℕ) (ts : List Terminal) → rest ≤ start → module_text (before (drop start ts) (drop rest ts)) ≡ []
module_text_end start rest ts l = let e = stretch_end start rest ts l in rw e refl

-- ---- texts that were joined so far

pub joined_up : (x j all : List ℕ) → x ++ j ≡ all → j ≡ [] → x ≡ all
joined_up x j all e none = sym (append-nil x) ∙ ap (λ (w : List ℕ). x ++ w) (sym none) ∙ e

pub joined_on : (x y t j j' all : List ℕ) → x ++ j ≡ all → j ≡ t ++ j' → y ≡ x ++ t → y ++ j' ≡ all
joined_on x y t j j' all e next grown = ap (λ (w : List ℕ). w ++ j') grown ∙ append_assoc x t j' ∙ ap (λ (w : List ℕ). x ++ w) (sym next) ∙ e
