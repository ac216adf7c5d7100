-- How long a made text is, and that it grows class by class.
use Rattle.std.proofs.Common.{◌≡◌, ◌<◌, ◌≤◌, ◌+◌, ◌%◌, ℕ, List, ◌++◌, length, refl, arith, length-append, add-one}
use Rattle.std.proofs.lemmas.Fmt.{length-decimal-le}
use Rattle.std.specs.Prelude.{codes}
use Rattle.made_text.specs.MadeText.{class_text, made_text}

-- one more class
pub one_more : (text : List ℕ) (i : ℕ) → text ≡ made_text i → text ++ class_text i ≡ made_text (i + 1)
unfolding made_text
one_more text i is = rw (add-one, is) refl

-- a class is short
pub class_is_short : (i : ℕ) → i < 20000 → length (class_text i) ≤ 128
class_is_short i few =
    let number = length-decimal-le 5 i (omega arith) (omega arith) (omega arith) in
    let field = length-decimal-le 1 (i % 7) (omega arith) (omega arith) (omega arith) in
    simp length-append (omega (arith, number, field))

-- the text without classes
pub none_yet : (text : List ℕ) → text ≡ codes "\"\"\"Made.\"\"\"\n" → text ≡ made_text 0
unfolding made_text
none_yet text is = is

-- it is short
pub first_is_short : (text : List ℕ) → text ≡ made_text 0 → length text ≤ 16
unfolding made_text
first_is_short text is = rw is (omega arith)

-- a text with a short one behind it
pub longer_by : (before now more : List ℕ) (n : ℕ) → now ≡ before ++ more → length more ≤ n → length now ≤ length before + n
longer_by before now more n is short = rw is (simp length-append (omega (arith, short)))
