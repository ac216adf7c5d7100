-- How a word's form is found.
use Rattle.std.proofs.Common.{◌≡◌, ℕ, ◌<◌, ◌≤◌, Bool, true, false, cond, ◌==◌, List, [], ◌∷◌, Option, None, Some, Bor, refl, sym, ap, arith, take, drop}
use Rattle.std.proofs.lemmas.Bool.Decides.{nat_tests}
use Rattle.std.specs.Option.{MatchOption, option_copied}
use Rattle.std.proofs.lemmas.Str.{IsCharBoundary-after_ascii}
use Rattle.std.specs.Str.{IsUtf8, IsCharBoundary}
use Rattle.option_words.specs.declared.option_name.OptionName.{OptionName}
use Rattle.option_words.specs.OptionNames.{lettered}
use Rattle.options.specs.Words.{behind_dash, lettered_form, short_form, Unknown}

no_dash : (c : ℕ) (cs : List ℕ) (b : Bool) → (c == 45) ≡ b → ((rest : List ℕ) → c ∷ cs ≡ 45 ∷ rest → ⊥) → cond b (Some cs) None ≡ None
no_dash c cs true e never = let same : c ≡ 45 = grind (arith, nat_tests) in absurd (never cs (ap (λ d. d ∷ cs) same))
no_dash c cs false e never = refl

-- a text is stripped of the dash at its front
pub stripped : (text : List ℕ) (r : Option (Bor (List ℕ))) → MatchOption r ((rest : List ℕ) → text ≡ 45 ∷ rest → ⊥) (λ x. text ≡ 45 ∷ x.now) → option_copied r ≡ behind_dash text
stripped text (Some x) is = sym (ap behind_dash is)
stripped [] None never = refl
stripped (c ∷ cs) None never = sym (no_dash c cs (c == 45) refl never)

high_first : (c : ℕ) (cs : List ℕ) → IsUtf8 (c ∷ cs) → (IsCharBoundary (c ∷ cs) 1 → ⊥) → c < 128 → ⊥
high_first c cs utf8 never low = never (IsCharBoundary-after_ascii (c ∷ cs) 0 utf8 (omega arith) low)

above_ascii : (c : ℕ) → 128 ≤ c → lettered (c ∷ []) ≡ None
above_ascii c high = grind (arith, nat_tests)

-- a text that begins with no ASCII character begins with no letter of an option
pub no_letter : (text : List ℕ) → IsUtf8 text → (IsCharBoundary text 1 → ⊥) → lettered (take 1 text) ≡ None
no_letter [] utf8 never = refl
no_letter (c ∷ cs) utf8 never =
    let high : c < 128 → ⊥ = high_first c cs utf8 never in
    above_ascii c (omega arith)

pub no_short_form : (text : List ℕ) → IsUtf8 text → (IsCharBoundary text 1 → ⊥) → Unknown ≡ short_form text
no_short_form text utf8 never = sym (ap (λ (o : Option OptionName). lettered_form o (drop 1 text)) (no_letter text utf8 never))
