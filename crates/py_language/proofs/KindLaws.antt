-- The kinds of trees one behind another, and which parts and sorts they fit.
use Rattle.std.proofs.Common.{◌≡◌, List, [], ◌∷◌, ◌++◌, inl, inr, refl, sym, ap, subst, ◌∙◌, append_assoc}
use Rattle.std.proofs.lemmas.List.{append-nil}
use Rattle.tree_nodes.specs.declared.kind.Kind.{Kind}
use Rattle.tree_nodes.specs.Trees.{Tree, pack}
use Rattle.tree_nodes.specs.Sorts.{Sort, IsOf, AreOf}
use Rattle.tree_nodes.specs.Shapes.{Part, a_single, a_possible, a_row, a_row_of_pairs, ArePairs, Fits, FitsOneOf, one, maybe, many, some, before_each}
use Rattle.tree_nodes.specs.Shaped.{kinds_of, AreShaped}

-- ---- trees one behind another

pub kinds_append : (u v : List Tree) → kinds_of (pack (u ++ v)) ≡ kinds_of (pack u) ++ kinds_of (pack v)
kinds_append [] v = refl
kinds_append (t ∷ u) v = ap (λ (ks : List Kind). t.node.kind ∷ ks) (kinds_append u v)

pub shaped_append : (u v : List Tree) → AreShaped (pack u) → AreShaped (pack v) → AreShaped (pack (u ++ v))
shaped_append [] v h g = g
shaped_append (t ∷ u) v h g = (h.0, h.1, shaped_append u v h.2 g)

-- ---- sorts

pub of_append : (sorts : List Sort) (xs ys : List Kind) → AreOf sorts xs → AreOf sorts ys → AreOf sorts (xs ++ ys)
of_append sorts [] ys h g = g
of_append sorts (x ∷ xs) ys h g = (h.0, of_append sorts xs ys h.1 g)

pub of_wider : (sorts more : List Sort) → ((kind : Kind) → IsOf sorts kind → IsOf more kind) → (xs : List Kind) → AreOf sorts xs → AreOf more xs
of_wider sorts more w [] h = tt
of_wider sorts more w (x ∷ xs) h = (w x h.0, of_wider sorts more w xs h.1)

-- one of some sorts is one of these and of others
pub is_left : (sorts others : List Sort) (kind : Kind) → IsOf sorts kind → IsOf (sorts ++ others) kind
is_left [] others kind h = absurd h
is_left (sort ∷ sorts) others kind h = elim h [ inl e ↦ inl e | inr g ↦ inr (is_left sorts others kind g) ]

pub is_right : (others sorts : List Sort) (kind : Kind) → IsOf sorts kind → IsOf (others ++ sorts) kind
is_right [] sorts kind h = h
is_right (other ∷ others) sorts kind h = inr (is_right others sorts kind h)

-- ---- parts

pub pairs_append : (firsts seconds : List Sort) (xs ys : List Kind) → ArePairs firsts seconds xs → ArePairs firsts seconds ys → ArePairs firsts seconds (xs ++ ys)
pairs_append firsts seconds [] ys h g = g
pairs_append firsts seconds (x ∷ []) ys h g = absurd h
pairs_append firsts seconds (x ∷ z ∷ xs) ys h g = (h.0, h.1, pairs_append firsts seconds xs ys h.2 g)

-- no kinds before these
possible_none : (sorts : List Sort) (parts : List Part) (ys : List Kind) → Fits parts ys → Fits (a_possible sorts ∷ parts) ys
possible_none sorts parts [] h = h
possible_none sorts parts (y ∷ ys) h = inl h

pub fits_append : (parts others : List Part) (xs ys : List Kind) → Fits parts xs → Fits others ys → Fits (parts ++ others) (xs ++ ys)
fits_append [] others xs ys h g = subst (λ (ks : List Kind). Fits others (ks ++ ys)) (sym h) g
fits_append (a_single sorts ∷ parts) others [] ys h g = absurd h
fits_append (a_single sorts ∷ parts) others (x ∷ xs) ys h g = (h.0, fits_append parts others xs ys h.1 g)
fits_append (a_possible sorts ∷ parts) others [] ys h g = possible_none sorts (parts ++ others) ys (fits_append parts others [] ys h g)
fits_append (a_possible sorts ∷ parts) others (x ∷ xs) ys h g =
    elim h [
      | inl k ↦ inl (fits_append parts others (x ∷ xs) ys k g)
      | inr k ↦ inr (k.0, fits_append parts others xs ys k.1 g)
    ]
fits_append (a_row sorts ∷ parts) others xs ys h g =
    let (front, back, e, of, fit) = h in
    (front, back ++ ys, ap (λ (ks : List Kind). ks ++ ys) e ∙ append_assoc front back ys, of, fits_append parts others back ys fit g)
fits_append (a_row_of_pairs firsts seconds ∷ parts) others xs ys h g =
    let (front, back, e, of, fit) = h in
    (front, back ++ ys, ap (λ (ks : List Kind). ks ++ ys) e ∙ append_assoc front back ys, of, fits_append parts others back ys fit g)

pub row_fits : (sorts : List Sort) (xs : List Kind) → AreOf sorts xs → Fits (many sorts) xs
row_fits sorts xs h = (xs, [], sym (append-nil xs), h, refl)

pub pairs_fit : (firsts seconds : List Sort) (xs : List Kind) → ArePairs firsts seconds xs → Fits (a_row_of_pairs firsts seconds ∷ []) xs
pairs_fit firsts seconds xs h = (xs, [], sym (append-nil xs), h, refl)

pub fits_row : (sorts : List Sort) (xs : List Kind) → Fits (many sorts) xs → AreOf sorts xs
fits_row sorts xs h =
    let (front, back, e, of, nil) = h in
    subst (λ (ks : List Kind). AreOf sorts ks) (sym (e ∙ ap (λ (ks : List Kind). front ++ ks) nil ∙ append-nil front)) of

pub fits_single : (sorts : List Sort) (xs : List Kind) → Fits (one sorts) xs → AreOf sorts xs
fits_single sorts [] h = absurd h
fits_single sorts (x ∷ xs) h = (h.0, subst (λ (ks : List Kind). AreOf sorts ks) (sym h.1) tt)

pub fits_possible : (sorts : List Sort) (xs : List Kind) → Fits (maybe sorts) xs → AreOf sorts xs
fits_possible sorts [] h = tt
fits_possible sorts (x ∷ xs) h = elim h [ inl k ↦ absurd cc | inr k ↦ fits_single sorts (x ∷ xs) k ]

pub single_possible : (sorts : List Sort) (xs : List Kind) → Fits (one sorts) xs → Fits (maybe sorts) xs
single_possible sorts [] h = absurd h
single_possible sorts (x ∷ xs) h = inr h

-- a part of other sorts
pub single_wider : (sorts more : List Sort) → ((kind : Kind) → IsOf sorts kind → IsOf more kind) → (xs : List Kind) → Fits (one sorts) xs → Fits (one more) xs
single_wider sorts more w [] h = absurd h
single_wider sorts more w (x ∷ xs) h = (w x h.0, h.1)

-- ---- one of some forms

pub fits_left : (forms others : List (List Part)) (xs : List Kind) → FitsOneOf forms xs → FitsOneOf (forms ++ others) xs
fits_left [] others xs h = absurd h
fits_left (form ∷ forms) others xs h = elim h [ inl k ↦ inl k | inr k ↦ inr (fits_left forms others xs k) ]

pub fits_right : (others forms : List (List Part)) (xs : List Kind) → FitsOneOf forms xs → FitsOneOf (others ++ forms) xs
fits_right [] forms xs h = h
fits_right (other ∷ others) forms xs h = inr (fits_right others forms xs h)

pub fits_before : (parts : List Part) (forms : List (List Part)) (xs ys : List Kind) → Fits parts xs → FitsOneOf forms ys → FitsOneOf (before_each parts forms) (xs ++ ys)
fits_before parts [] xs ys h g = absurd g
fits_before parts (form ∷ forms) xs ys h g =
    elim g [
      | inl k ↦ inl (fits_append parts form xs ys h k)
      | inr k ↦ inr (fits_before parts forms xs ys h k)
    ]

-- each form before these parts
abbrev pub each_before : List (List Part) → List Part → List (List Part)
each_before [] parts = []
each_before (form ∷ forms) parts = (form ++ parts) ∷ each_before forms parts

pub fits_behind : (forms : List (List Part)) (parts : List Part) (xs ys : List Kind) → FitsOneOf forms xs → Fits parts ys → FitsOneOf (each_before forms parts) (xs ++ ys)
fits_behind [] parts xs ys h g = absurd h
fits_behind (form ∷ forms) parts xs ys h g =
    elim h [
      | inl k ↦ inl (fits_append form parts xs ys k g)
      | inr k ↦ inr (fits_behind forms parts xs ys k g)
    ]

-- ---- where a row has two operands or more

-- a first operand and a second, and then others
pub two_operands : (sorts : List Sort) (x y : Kind) (xs : List Kind) → Fits (one sorts ++ many sorts) (x ∷ y ∷ xs) → Fits (one sorts ++ some sorts) (x ∷ y ∷ xs)
two_operands sorts x y xs h =
    let others = fits_row sorts (y ∷ xs) h.1 in
    (h.0, (others.0, row_fits sorts xs others.1))

-- a first operand, an operator, a second operand, and then others in pairs
pub two_between : (operators operands : List Sort) (x y : Kind) (xs : List Kind) → Fits (one operands ++ (a_row_of_pairs operators operands ∷ [])) (x ∷ y ∷ xs)
    → Fits (one operands ++ one operators ++ one operands ++ (a_row_of_pairs operators operands ∷ [])) (x ∷ y ∷ xs)
two_between operators operands x y xs h =
    let (front, back, e, pairs, nil) = h.1 in
    let whole : ArePairs operators operands (y ∷ xs) = subst (λ (ks : List Kind). ArePairs operators operands ks) (sym (e ∙ ap (λ (ks : List Kind). front ++ ks) nil ∙ append-nil front)) pairs in
    (h.0, go y xs whole)
  where
    go : (y : Kind) (xs : List Kind) → ArePairs operators operands (y ∷ xs) → Fits (one operators ++ one operands ++ (a_row_of_pairs operators operands ∷ [])) (y ∷ xs)
    go y [] h = absurd h
    go y (z ∷ xs) h = (h.0, (h.1, pairs_fit operators operands xs h.2))
