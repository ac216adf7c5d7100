-- What round brackets hold is in shape: a row, a generator, or one tree alone, which is none that stands behind a star,
-- since one behind a star has a comma.
use Rattle.std.proofs.Common.{◌≡◌, ℕ, ◌+◌, ◌-◌, ◌⊎◌, Bool, true, List, [], ◌∷◌, ◌++◌, length, inl, inr, refl, sym, ap, arith, subst, ◌∙◌, append_assoc}
use Rattle.std.proofs.lemmas.List.{append-nil, length-append}
use Rattle.std.proofs.Math.Seq.{get_or-append_seam}
use Rattle.tree_nodes.specs.declared.kind.Kind.TheVariants as kinds
use Rattle.tree_nodes.specs.Trees.{Tree, pack}
use Rattle.tree_nodes.specs.Sorts.{Sort, sort_of, is_named, IsOf, AreOf, expression, value}
use Rattle.tree_nodes.specs.Shapes.{Fits, one, some, shape}
use Rattle.tree_nodes.specs.Shaped.{kinds_of, AreShaped}
use Rattle.py_language.specs.Sets.{mem}
use Rattle.py_language.specs.Languages.{Then, Either, Maybe, Bracketed, Made, whole}
use Rattle.py_language.specs.Forms.{Forms, FormsOneOf}
use Rattle.py_language.proofs.KindLaws.{row_fits}
use Rattle.py_grammar.specs.Terminals.{Terminal, Form, code, no_terminal, last_but_one_of}
use Rattle.py_grammar.specs.Words.{comma, left_paren, right_paren}
use Rattle.py_grammar.specs.Nodes.{spanning, Commas, CommaRest, InParentheses}
use Rattle.py_grammar.specs.Expressions.{ends_with_comma, has_own_comma, in_parentheses}
use Rattle.py_grammar.proofs.ShapeBasics.{IsA, form_over, never, other}
use Rattle.py_grammar.proofs.ShapeBrackets.{AreGood, good_node, good_if, held, held_in, Holds, holds_elements, holds_clauses, what_is_held}

-- ---- the last token but one

plus_two : (n : ℕ) → n + 2 - 2 ≡ n
plus_two n = omega arith

last_but_one : (x : List Terminal) (t u : Terminal) → last_but_one_of (x ++ t ∷ u ∷ []) ≡ t
last_but_one x t u =
    let e : length (x ++ t ∷ u ∷ []) - 2 ≡ length x = ap (λ (n : ℕ). n - 2) (length-append x (t ∷ u ∷ [])) ∙ plus_two (length x) in
    rw e (get_or-append_seam x t (u ∷ []) no_terminal)

-- ---- one tree alone

-- a tree alone is of the sorts, or the tokens between the brackets end with a comma
pub record IsLone (ends : List Terminal → Bool) (sorts : List Sort) (a : Form) : Type 0 where
  pub alone : (ts : List Terminal) (t : Tree) → a ts (t ∷ []) → (opening closing : Terminal) → (ends (opening ∷ (ts ++ closing ∷ [])) ≡ true) ⊎ IsOf sorts t.node.kind

pub lone_either : {a b : Form} (ends : List Terminal → Bool) (sorts : List Sort) → IsLone ends sorts a → IsLone ends sorts b → IsLone ends sorts (Either a b)
lone_either ends sorts A B = record { alone = λ ts t h o c. elim h [ inl g ↦ A.alone ts t g o c | inr g ↦ B.alone ts t g o c ] }

pub lone_maybe : {a : Form} (ends : List Terminal → Bool) (sorts : List Sort) → IsLone ends sorts a → IsLone ends sorts (Maybe a)
lone_maybe ends sorts A = record { alone = λ ts t h o c. elim h [ inl g ↦ A.alone ts t g o c | inr g ↦ absurd (no_tree t g.1) ] }
  where
    no_tree : (x : Tree) → x ∷ [] ≡ [] → ⊥
    no_tree x e = absurd cc

pub lone_of : {a : Form} (ends : List Terminal → Bool) (sorts : List Sort) → IsA sorts a → IsLone ends sorts a
lone_of ends sorts A = record { alone = λ ts t h o c. inr (A.fits ts (t ∷ []) h).0 }

-- the trees of a first part and of a second, which are one tree alone
only_first : (sorts : List Sort) (t : Tree) (f b : List Tree) → t ∷ [] ≡ f ++ b → Fits (one sorts) (kinds_of (pack f)) → (t ∷ [] ≡ f) × (b ≡ [])
only_first sorts t [] b e fit = absurd fit
only_first sorts t (x ∷ []) b e fit = (cc, cc)
only_first sorts t (x ∷ y ∷ f) b e fit = absurd cc

-- a first one of the sorts, whatever stands behind it
pub lone_first : {a b : Form} (ends : List Terminal → Bool) (sorts : List Sort) → IsA sorts a → IsLone ends sorts (Then a b)
lone_first ends sorts A = record {
  alone = λ ts t h o c.
      let fit = A.fits h.front h.front_out h.first in
      let e = (only_first sorts t h.front_out h.back_out h.trees fit).0 in
      inr (subst (λ (u : List Tree). Fits (one sorts) (kinds_of (pack u))) (sym e) fit).0;
}

-- a first one and those behind its comma, where a comma behind what a spells is one that ends
pub lone_with_comma : {a b : Form} (ends : List Terminal → Bool) (stars elements sorts : List Sort)
    → ((opening : Terminal) (front back : List Terminal) (u : List Tree) → a front u → ends_with_comma (opening ∷ (front ++ back)) ≡ true → ends (opening ∷ (front ++ back)) ≡ true) → IsA stars a → Forms (some elements) (Commas b)
    → IsLone ends sorts (Then a (CommaRest b))
lone_with_comma {a} {b} ends stars elements sorts own A B = record {
  alone = λ ts t h o c.
      let rest = h.second in
      let none = (only_first stars t h.front_out h.back_out h.trees (A.fits h.front h.front_out h.first)).1 in
      let (behind, last) = no_more rest.back rest.back_out (nothing_left h.back_out rest.front_out rest.back_out rest.trees none) rest.second in
      inl (all_end o c ts h.front h.back h.tokens (own o h.front (h.back ++ c ∷ []) h.front_out h.first (moved o c ts h.front h.back h.tokens (comma_is_last o c ts h.front h.back rest.front rest.back rest.first.token h.tokens rest.tokens rest.first.tokens behind rest.first.is_in))));
}
  where
    nothing_left : (u f v : List Tree) → u ≡ f ++ v → u ≡ [] → v ≡ []
    nothing_left u [] v e n = sym e ∙ n
    nothing_left u (x ∷ f) v e n = absurd cc

    no_more : (xs : List Terminal) (u : List Tree) → u ≡ [] → Maybe (Commas b) xs u → (xs ≡ []) × (u ≡ [])
    no_more xs u n g = elim g [ inl k ↦ absurd (subst (λ (v : List Tree). Fits (some elements) (kinds_of (pack v))) n (B.fits xs u k)) | inr k ↦ k ]

    same_tokens : (o c : Terminal) (all front back : List Terminal) → all ≡ front ++ back → o ∷ (all ++ c ∷ []) ≡ o ∷ (front ++ (back ++ c ∷ []))
    same_tokens o c all front back e = rw e (ap (λ (w : List Terminal). o ∷ w) (append_assoc front back (c ∷ [])))

    moved : (o c : Terminal) (all front back : List Terminal) → all ≡ front ++ back → ends_with_comma (o ∷ (all ++ c ∷ [])) ≡ true → ends_with_comma (o ∷ (front ++ (back ++ c ∷ []))) ≡ true
    moved o c all front back e h = ap ends_with_comma (sym (same_tokens o c all front back e)) ∙ h

    all_end : (o c : Terminal) (all front back : List Terminal) → all ≡ front ++ back → ends (o ∷ (front ++ (back ++ c ∷ []))) ≡ true → ends (o ∷ (all ++ c ∷ [])) ≡ true
    all_end o c all front back e h = ap ends (same_tokens o c all front back e) ∙ h

    comma_is_last : (o c : Terminal) (all front back mark more : List Terminal) (k : Terminal) → all ≡ front ++ back → back ≡ mark ++ more → mark ≡ k ∷ [] → more ≡ [] → mem (code k) comma ≡ true → ends_with_comma (o ∷ (all ++ c ∷ [])) ≡ true
    comma_is_last o c all front back mark more k e1 e2 e3 e4 is =
        let same : o ∷ (all ++ c ∷ []) ≡ (o ∷ front) ++ k ∷ c ∷ [] = rw (e1, e2, e3, e4) (ap (λ (w : List Terminal). o ∷ w) (append_assoc front (k ∷ []) (c ∷ []))) in
        let last = ap last_but_one_of same ∙ last_but_one (o ∷ front) k c in
        ap (λ (w : Terminal). mem (code w) comma) last ∙ is

-- between brackets
pub lone_in : {a : Form} (ends : List Terminal → Bool) (sorts : List Sort) (opening closing : List ℕ) → IsLone ends sorts a → (ts : List Terminal) (t : Tree) → Bracketed code opening closing a ts (t ∷ []) → (ends ts ≡ true) ⊎ IsOf sorts t.node.kind
lone_in {a} ends sorts opening closing A ts t h =
    let out = inner_trees (t ∷ []) h.front_out h.back_out h.second.front_out h.second.back_out h.trees h.first.trees h.second.trees h.second.second.trees in
    let tokens = inner_tokens ts h.front h.back h.second.front h.second.back h.first.token h.second.second.token h.tokens h.first.tokens h.second.tokens h.second.second.tokens in
    elim (A.alone h.second.front t (subst (λ (u : List Tree). a h.second.front u) (sym out) h.second.first) h.first.token h.second.second.token) [
      | inl e ↦ inl (ap ends tokens ∙ e)
      | inr of ↦ inr of
    ]
  where
    inner_trees : (u f b i c : List Tree) → u ≡ f ++ b → f ≡ [] → b ≡ i ++ c → c ≡ [] → u ≡ i
    inner_trees u f b i c e1 e2 e3 e4 = rw (e1, e2, e3, e4) (append-nil i)

    inner_tokens : (xs f b i c : List Terminal) (o q : Terminal) → xs ≡ f ++ b → f ≡ o ∷ [] → b ≡ i ++ c → c ≡ q ∷ [] → xs ≡ o ∷ (i ++ q ∷ [])
    inner_tokens xs f b i c o q e1 e2 e3 e4 = rw (e1, e2, e3, e4) refl

-- ---- round brackets

pub a_parenthesis : {a : Form} → FormsOneOf (held value expression) a → IsLone has_own_comma expression a → IsA expression (Made in_parentheses (InParentheses a))
unfolding shape sort_of is_named
a_parenthesis {a} A lone = form_over (one expression) in_parentheses (held_in value expression left_paren right_paren A) (λ ts u h fit s. go ts u h s (what_is_held value expression u refl fit))
  where
    elements_alone : (t : Tree) → Holds value expression (t ∷ []) → AreOf value (t.node.kind ∷ [])
    elements_alone t (holds_elements e of) = of
    elements_alone t (holds_clauses e fit) = absurd fit.1

    several : (ts : List Terminal) (t v : Tree) (u : List Tree) → AreShaped (pack (t ∷ v ∷ u)) → Holds value expression (t ∷ v ∷ u) → AreGood (one expression) (in_parentheses ts (t ∷ v ∷ u))
    several ts t v u s (holds_elements e of) = rw e (good_node kinds.Tuple expression ts (t ∷ v ∷ u) (inl (row_fits value (kinds_of (pack (t ∷ v ∷ u))) of)) refl (other kinds.Tuple refl) s)
    several ts t v u s (holds_clauses e fit) = rw e (good_node kinds.GeneratorExpression expression ts (t ∷ v ∷ u) (inl fit) refl (other kinds.GeneratorExpression refl) s)

    go : (ts : List Terminal) (u : List Tree) → InParentheses a ts u → AreShaped (pack u) → Holds value expression u → AreGood (one expression) (in_parentheses ts u)
    go ts [] h s what = good_node kinds.Tuple expression ts [] (inl ([], [], refl, tt, refl)) refl (other kinds.Tuple refl) s
    go ts (t ∷ []) h s what =
        good_if (one expression) (has_own_comma ts) (whole (spanning kinds.Tuple) ts (t ∷ [])) (t ∷ []) (λ e. good_node kinds.Tuple expression ts (t ∷ []) (inl (row_fits value (t.node.kind ∷ []) (elements_alone t what))) refl (other kinds.Tuple refl) s)
        (λ e. (s, (elim (lone_in has_own_comma expression left_paren right_paren lone ts t h) [ inl c ↦ never (sym e ∙ c) | inr of ↦ of ], refl)))
    go ts (t ∷ v ∷ u) h s what = several ts t v u s what
