-- The ends of the parser's functions: what was read becomes a node.
use Rattle.std.proofs.Common.{◌≡◌, ℕ, ◌-◌, true, false, List, [], ◌∷◌, ◌++◌, length, take, drop, refl, sym, ap, ◌∙◌, append_assoc, arith}
use Rattle.std.proofs.lemmas.List.{take_at, drop_at, length-drop, take-append-drop}
use Rattle.tree_nodes.specs.Trees.{Tree}
use Rattle.tree_nodes.specs.declared.kind.Kind.TheVariants as kinds
use Rattle.py_language.specs.Languages.{whole}
use Rattle.py_language.specs.Readers.{Read, got, fails, behind, before, make}
use Rattle.py_grammar.specs.Terminals.{Terminal}
use Rattle.py_grammar.specs.Nodes.{spanning}
use Rattle.py_grammar.specs.Expressions.{ends_with_comma}
use Rattle.py_grammar.specs.Patterns.{pattern_in_parentheses}

-- what was read behind other trees is made into something with them
pub extended_done : (over : List Terminal → List Tree → List Tree) (below u b m out : List Tree) (all : List Terminal) (mark : ℕ) (r : Read Terminal) (rest : List Terminal)
    → b ≡ below ++ u → length below ≡ mark → behind b r ≡ got m rest → out ≡ take mark m ++ over (before all rest) (drop mark m) → behind below (make (λ front v. over front (u ++ v)) all r) ≡ got out rest
extended_done over below u b m out all mark fails rest eb el e g = absurd cc
extended_done over below u b m out all mark (got v mid) rest eb el e g =
    let m_b : m ≡ b ++ v = cc in
    let m_is : m ≡ below ++ (u ++ v) = m_b ∙ rw eb (append_assoc below u v) in
    let mid_is : mid ≡ rest = cc in
    let t : take mark m ≡ below = rw m_is (take_at below (u ++ v) mark el) in
    let d : drop mark m ≡ u ++ v = rw m_is (drop_at below (u ++ v) mark el) in
    rw (mid_is, g, t, d) refl

-- one pattern in round brackets, without a comma
pub alone : (ts : List Terminal) (xs : List Tree) (mark : ℕ) → length xs - mark ≡ 1 → ends_with_comma ts ≡ false → xs ≡ take mark xs ++ pattern_in_parentheses ts (drop mark xs)
alone ts xs mark one comma = sym (ap (λ (ys : List Tree). take mark xs ++ ys) (itself (drop mark xs) (omega (arith, length-drop mark xs))) ∙ take-append-drop mark xs)
  where
    itself : (ys : List Tree) → length ys ≡ 1 → pattern_in_parentheses ts ys ≡ ys
    itself [] l = absurd (omega arith)
    itself (y ∷ []) l = rw comma refl
    itself (y ∷ z ∷ ys) l = absurd (omega arith)

-- one with a comma, none or several
pub with_comma : (ts : List Terminal) (ys : List Tree) → ends_with_comma ts ≡ true → pattern_in_parentheses ts ys ≡ whole (spanning kinds.MatchSequence) ts ys
with_comma ts [] h = refl
with_comma ts (y ∷ []) h = rw h refl
with_comma ts (y ∷ z ∷ ys) h = refl

pub not_one : (ts : List Terminal) (ys : List Tree) → (length ys ≡ 1 → ⊥) → pattern_in_parentheses ts ys ≡ whole (spanning kinds.MatchSequence) ts ys
not_one ts [] h = refl
not_one ts (y ∷ []) h = absurd (h refl)
not_one ts (y ∷ z ∷ ys) h = refl
