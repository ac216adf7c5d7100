-- Rows of patterns are in shape: sequences with at most one star, items of mappings with the rest last, and the arguments
-- of a class with keywords last.
use Rattle.std.proofs.Common.{◌≡◌, ◌+◌, ◌<◌, Bool, true, false, if◌then◌else◌, List, [], ◌∷◌, ◌++◌, inl, inr, refl, sym, ap, arith, ◌∙◌}
use Rattle.std.proofs.lemmas.Bool.{ltb-true}
use Rattle.tree_nodes.specs.declared.kind.Kind.{Kind}
use Rattle.tree_nodes.specs.declared.kind.Kind.TheVariants as kinds
use Rattle.tree_nodes.specs.Trees.{Tree, pack, unpack}
use Rattle.tree_nodes.specs.Sorts.{Sort, pattern, star_pattern, match_item, match_rest, match_keyword, sort_of, is_named, IsOf, AreOf, only}
use Rattle.tree_nodes.specs.Shapes.{Part, Fits, one, maybe, many, shape}
use Rattle.tree_nodes.specs.Shaped.{kinds_of, AreShaped}
use Rattle.py_language.specs.Languages.{Made, Where, whole}
use Rattle.py_language.specs.Forms.{AreOfSorts}
use Rattle.py_language.proofs.KindLaws.{row_fits}
use Rattle.py_language.proofs.FormLaws.{form_tested}
use Rattle.py_grammar.specs.Terminals.{Terminal, Form}
use Rattle.py_grammar.specs.Words.{left_paren, right_paren}
use Rattle.py_grammar.specs.Nodes.{spanning, As, InParentheses}
use Rattle.py_grammar.specs.Expressions.{ends_with_comma}
use Rattle.py_grammar.specs.Patterns.{is_star_pattern, count_stars, has_one_star, sequence_has_one_star, pattern_in_parentheses, is_rest, rest_is_last, is_keyword_pattern, keywords_are_last, keywords_behind_patterns}
use Rattle.py_grammar.proofs.ShapeBasics.{IsA, never, a_node}
use Rattle.py_grammar.proofs.ShapeTargets.{both_true}
use Rattle.py_grammar.proofs.ShapeBrackets.{AreGood, good_node, good_if, row_none, row_more}
use Rattle.py_grammar.proofs.ShapeParentheses.{IsLone, lone_in}

-- ---- sequences

-- what stands between the commas of a sequence
abbrev pub items : List Sort
items = pattern ∷ star_pattern ∷ []

-- patterns, of which one may have a star
abbrev sequence : List Part
sequence = many (only pattern) ++ maybe (only star_pattern) ++ many (only pattern)

abbrev is_star_sort : Sort → Bool
is_star_sort star_pattern = true
is_star_sort sort = false

a_star : (kind : Kind) → is_star_pattern kind ≡ true → IsOf (only star_pattern) kind
unfolding sort_of
a_star kinds.MatchStar h = inl refl
a_star kinds.MatchStarWildcard h = inl refl
a_star kind h = never h

no_star : (kind : Kind) → IsOf items kind → is_star_pattern kind ≡ false → IsOf (only pattern) kind
unfolding sort_of
no_star kinds.MatchStar of h = never (sym h)
no_star kinds.MatchStarWildcard of h = never (sym h)
no_star kind of h = elim of [ inl e ↦ inl e | inr g ↦ elim g [ inl e ↦ never (ap is_star_sort e) | inr k ↦ absurd k ] ]

unstarred : (u : List Tree) → AreOf items (kinds_of (pack u)) → count_stars u ≡ 0 → AreOf (only pattern) (kinds_of (pack u))
unstarred [] of h = tt
unstarred (t ∷ u) of h = go (is_star_pattern t.node.kind) refl h (λ e. unstarred u of.1 e)
  where
    go : (b : Bool) → is_star_pattern t.node.kind ≡ b → (if b then 1 + count_stars u else count_stars u) ≡ 0 → (count_stars u ≡ 0 → AreOf (only pattern) (kinds_of (pack u))) → AreOf (only pattern) (kinds_of (pack (t ∷ u)))
    go true is e more = absurd (omega arith)
    go false is e more = (no_star t.node.kind of.0 is, more e)

one_starred : (u : List Tree) → AreOf items (kinds_of (pack u)) → count_stars u < 2 → Fits sequence (kinds_of (pack u))
one_starred [] of h = ([], [], refl, tt, ([], [], refl, tt, refl))
one_starred (t ∷ u) of h = go (is_star_pattern t.node.kind) refl h (λ e. one_starred u of.1 e)
  where
    go : (b : Bool) → is_star_pattern t.node.kind ≡ b → (if b then 1 + count_stars u else count_stars u) < 2 → (count_stars u < 2 → Fits sequence (kinds_of (pack u))) → Fits sequence (kinds_of (pack (t ∷ u)))
    go true is e more =
        row_none (only pattern) (maybe (only star_pattern) ++ many (only pattern)) (kinds_of (pack (t ∷ u))) (inr (a_star t.node.kind is, row_fits (only pattern) (kinds_of (pack u)) (unstarred u of.1 (omega arith))))
    go false is e more = row_more (only pattern) (maybe (only star_pattern) ++ many (only pattern)) t.node.kind (kinds_of (pack u)) (no_star t.node.kind of.0 is) (more e)

pub star_fits : (u : List Tree) → AreOf items (kinds_of (pack u)) → has_one_star u ≡ true → Fits sequence (kinds_of (pack u))
star_fits u of h = one_starred u of (ltb-true (count_stars u) 2 h)

-- a sequence with one star at most
pub a_sequence : {a : Form} → AreOfSorts items a → IsA (only pattern) (As kinds.MatchSequence (Where has_one_star a))
unfolding shape sort_of is_named
a_sequence A = a_node kinds.MatchSequence (only pattern) (form_tested {parts = sequence} has_one_star A (λ ts out h e. star_fits out (A.each ts out h) e)) (λ ks h. inl h) refl (inl refl)

unpack_pack : (u : List Tree) → unpack (pack u) ≡ u
unpack_pack [] = refl
unpack_pack (t ∷ u) = ap (λ (v : List Tree). t ∷ v) (unpack_pack u)

-- the same where the test looks into the node
pub an_open_sequence : {a : Form} → AreOfSorts items a → IsA (only pattern) (Where sequence_has_one_star (As kinds.MatchSequence a))
unfolding shape sort_of is_named
an_open_sequence A = record {
  shaped = λ ts out h. rw h.0.trees (good ts h.0.parts (A.shaped ts h.0.parts h.0.spelled) (A.each ts h.0.parts h.0.spelled) (ap sequence_has_one_star (sym h.0.trees) ∙ h.1)).0;
  fits = λ ts out h. rw h.0.trees (inl refl, refl);
}
  where
    good : (ts : List Terminal) (u : List Tree) → AreShaped (pack u) → AreOf items (kinds_of (pack u)) → sequence_has_one_star (whole (spanning kinds.MatchSequence) ts u) ≡ true → AreGood (one (only pattern)) (whole (spanning kinds.MatchSequence) ts u)
    good ts u s of e = good_node kinds.MatchSequence (only pattern) ts u (inl (star_fits u of (ap has_one_star (sym (unpack_pack u)) ∙ e))) refl (inl refl) s

-- round brackets
pub a_pattern_parenthesis : {a : Form} → AreOfSorts items (InParentheses a) → IsLone ends_with_comma (only pattern) a → IsA (only pattern) (Made pattern_in_parentheses (Where has_one_star (InParentheses a)))
unfolding shape sort_of is_named
a_pattern_parenthesis {a} A lone = record {
  shaped = λ ts out h. rw h.trees (go ts h.parts h.spelled.0 (A.shaped ts h.parts h.spelled.0) (A.each ts h.parts h.spelled.0) h.spelled.1).0;
  fits = λ ts out h. rw h.trees (go ts h.parts h.spelled.0 (A.shaped ts h.parts h.spelled.0) (A.each ts h.parts h.spelled.0) h.spelled.1).1;
}
  where
    sequence_node : (ts : List Terminal) (u : List Tree) → AreShaped (pack u) → AreOf items (kinds_of (pack u)) → has_one_star u ≡ true → AreGood (one (only pattern)) (whole (spanning kinds.MatchSequence) ts u)
    sequence_node ts u s of e = good_node kinds.MatchSequence (only pattern) ts u (inl (star_fits u of e)) refl (inl refl) s

    go : (ts : List Terminal) (u : List Tree) → InParentheses a ts u → AreShaped (pack u) → AreOf items (kinds_of (pack u)) → has_one_star u ≡ true → AreGood (one (only pattern)) (pattern_in_parentheses ts u)
    go ts [] h s of e = sequence_node ts [] s of e
    go ts (t ∷ []) h s of e =
        good_if (one (only pattern)) (ends_with_comma ts) (whole (spanning kinds.MatchSequence) ts (t ∷ [])) (t ∷ []) (λ c. sequence_node ts (t ∷ []) s of e)
        (λ c. (s, (elim (lone_in ends_with_comma (only pattern) left_paren right_paren lone ts t h) [ inl d ↦ never (sym c ∙ d) | inr g ↦ g ], refl)))
    go ts (t ∷ v ∷ u) h s of e = sequence_node ts (t ∷ v ∷ u) s of e

-- ---- mappings

abbrev pub mapping_items : List Sort
mapping_items = match_item ∷ match_rest ∷ []

abbrev is_rest_sort : Sort → Bool
is_rest_sort match_rest = true
is_rest_sort sort = false

no_rest : (kind : Kind) → IsOf mapping_items kind → (if is_rest kind then false else true) ≡ true → IsOf (only match_item) kind
unfolding sort_of
no_rest kinds.MatchRest of h = never h
no_rest kind of h = elim of [ inl e ↦ inl e | inr g ↦ elim g [ inl e ↦ never (ap is_rest_sort e) | inr k ↦ absurd k ] ]

last_item : (kind : Kind) → IsOf mapping_items kind → Fits (many (only match_item) ++ maybe (only match_rest)) (kind ∷ [])
last_item kind of =
    elim of [
      | inl e ↦ row_more (only match_item) (maybe (only match_rest)) kind [] (inl e) ([], [], refl, tt, refl)
      | inr g ↦ row_none (only match_item) (maybe (only match_rest)) (kind ∷ []) (inr (g, refl))
    ]

pub rest_fits : (u : List Tree) → AreOf mapping_items (kinds_of (pack u)) → rest_is_last u ≡ true → Fits (many (only match_item) ++ maybe (only match_rest)) (kinds_of (pack u))
rest_fits [] of h = ([], [], refl, tt, refl)
rest_fits (t ∷ []) of h = last_item t.node.kind of.0
rest_fits (t ∷ v ∷ u) of h =
    let (first, others) = both_true (if is_rest t.node.kind then false else true) (rest_is_last (v ∷ u)) h in
    row_more (only match_item) (maybe (only match_rest)) t.node.kind (kinds_of (pack (v ∷ u))) (no_rest t.node.kind of.0 first) (rest_fits (v ∷ u) of.1 others)

-- ---- classes

abbrev pub class_items : List Sort
class_items = pattern ∷ match_keyword ∷ []

abbrev is_keyword_sort : Sort → Bool
is_keyword_sort match_keyword = true
is_keyword_sort sort = false

a_keyword : (kind : Kind) → is_keyword_pattern kind ≡ true → IsOf (only match_keyword) kind
unfolding sort_of
a_keyword kinds.MatchKeyword h = inl refl
a_keyword kind h = never h

no_keyword : (kind : Kind) → IsOf class_items kind → is_keyword_pattern kind ≡ false → IsOf (only pattern) kind
unfolding sort_of
no_keyword kinds.MatchKeyword of h = never (sym h)
no_keyword kind of h = elim of [ inl e ↦ inl e | inr g ↦ elim g [ inl e ↦ never (ap is_keyword_sort e) | inr k ↦ absurd k ] ]

keywords_fit : (behind : Bool) (u : List Tree) → AreOf class_items (kinds_of (pack u)) → keywords_are_last behind u ≡ true → Fits (if behind then many (only match_keyword) else many (only pattern) ++ many (only match_keyword)) (kinds_of (pack u))
keywords_fit true [] of h = ([], [], refl, tt, refl)
keywords_fit false [] of h = ([], [], refl, tt, ([], [], refl, tt, refl))
keywords_fit behind (t ∷ u) of h = go behind (is_keyword_pattern t.node.kind) refl h (λ b e. keywords_fit b u of.1 e)
  where
    go : (b c : Bool) → is_keyword_pattern t.node.kind ≡ c → (if c then keywords_are_last true u else (if b then false else keywords_are_last false u)) ≡ true
        → ((d : Bool) → keywords_are_last d u ≡ true → Fits (if d then many (only match_keyword) else many (only pattern) ++ many (only match_keyword)) (kinds_of (pack u)))
        → Fits (if b then many (only match_keyword) else many (only pattern) ++ many (only match_keyword)) (kinds_of (pack (t ∷ u)))
    go true true is e more = row_more (only match_keyword) [] t.node.kind (kinds_of (pack u)) (a_keyword t.node.kind is) (more true e)
    go true false is e more = never e
    go false true is e more = row_none (only pattern) (many (only match_keyword)) (kinds_of (pack (t ∷ u))) (row_more (only match_keyword) [] t.node.kind (kinds_of (pack u)) (a_keyword t.node.kind is) (more true e))
    go false false is e more = row_more (only pattern) (many (only match_keyword)) t.node.kind (kinds_of (pack u)) (no_keyword t.node.kind of.0 is) (more false e)

pub class_fits : (u : List Tree) → AreOf class_items (kinds_of (pack u)) → keywords_behind_patterns u ≡ true → Fits (many (only pattern) ++ many (only match_keyword)) (kinds_of (pack u))
class_fits u of h = keywords_fit false u of h
