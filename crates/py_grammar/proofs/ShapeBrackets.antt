-- What brackets hold is in shape: displays, generators, round brackets, and the arguments of a call.
use Rattle.std.proofs.Common.{◌≡◌, ℕ, ◌||◌, Bool, true, false, if◌then◌else◌, List, [], ◌∷◌, ◌++◌, inl, inr, refl, sym, ap, Some}
use Rattle.tree_nodes.specs.declared.kind.Kind.{Kind}
use Rattle.tree_nodes.specs.declared.kind.Kind.TheVariants as kinds
use Rattle.tree_nodes.specs.Trees.{Tree, pack}
use Rattle.tree_nodes.specs.Sorts.{Sort, star_argument, keyword_argument, double_star_argument, dict_item, dict_unpack, comprehension_clause, sort_of, is_named, IsOf, AreOf, only, expression, value}
use Rattle.tree_nodes.specs.Shapes.{Part, a_row, Fits, FitsOneOf, one, many, some, shape, arguments}
use Rattle.tree_nodes.specs.Shaped.{kinds_of, AreShaped}
use Rattle.py_language.specs.Languages.{Then, Either, Maybe, Made, Where, Bracketed, whole}
use Rattle.py_language.specs.Forms.{Forms, FormsOneOf, AreOfSorts}
use Rattle.py_language.proofs.KindLaws.{row_fits, fits_row}
use Rattle.py_language.proofs.SortLaws.{form_row_of, sorts_wider, sorts_then, sorts_maybe, sorts_single}
use Rattle.py_language.proofs.FormLaws.{form_then, forms_then, forms_behind, forms_sole, form_skipped}
use Rattle.py_grammar.specs.Terminals.{Terminal, Form, code}
use Rattle.py_grammar.specs.Nodes.{spanning}
use Rattle.py_grammar.specs.Tests.{next_place, in_order_from, in_order}
use Rattle.py_grammar.specs.Expressions.{is_clause, is_comprehension, is_of_dict, are_all, are_alike, is_plain, is_plain_first, are_arguments, in_brackets, in_braces, call_arguments}
use Rattle.py_grammar.proofs.ShapeBasics.{IsA, never, every, sorts_say, IsWithin, forms_within, other, forms_same, forms_as, form_over, forms_where}
use Rattle.py_grammar.proofs.ShapeTargets.{both_true}

-- ---- nodes

-- trees in shape that fit the parts
abbrev pub AreGood : List Part → List Tree → Type 0
AreGood parts out = AreShaped (pack out) × Fits parts (kinds_of (pack out))

pub good_node : (kind : Kind) (sorts : List Sort) (ts : List Terminal) (u : List Tree) → FitsOneOf (shape kind) (kinds_of (pack u)) → false ≡ is_named kind → IsOf sorts kind → AreShaped (pack u) → AreGood (one sorts) (whole (spanning kind) ts u)
good_node kind sorts ts u fits named sort s = ((record { fits = fits; named = named }, s, tt), (sort, refl))

pub good_if : (parts : List Part) (b : Bool) (x y : List Tree) → (b ≡ true → AreGood parts x) → (b ≡ false → AreGood parts y) → AreGood parts (if b then x else y)
good_if parts true x y h g = h refl
good_if parts false x y h g = g refl

-- ---- clauses of comprehensions

abbrev is_clause_sort : Sort → Bool
is_clause_sort comprehension_clause = true
is_clause_sort sort = false

abbrev is_other_sort : Sort → Bool
is_other_sort comprehension_clause = false
is_other_sort sort = true

a_clause : (kind : Kind) → IsOf (only comprehension_clause) kind → is_clause kind ≡ true
unfolding sort_of
a_clause kind h = go kind (sorts_say is_clause_sort (only comprehension_clause) kind h refl)
  where
    go : (k : Kind) → is_clause_sort (sort_of k) ≡ true → is_clause k ≡ true
    go kinds.ComprehensionFor e = refl
    go kinds.AsyncComprehensionFor e = refl
    go k e = never e

no_clause : (sorts : List Sort) (kind : Kind) → IsOf sorts kind → every is_other_sort sorts ≡ true → is_clause kind ≡ false
unfolding sort_of
no_clause sorts kind h others = go kind (sorts_say is_other_sort sorts kind h others)
  where
    go : (k : Kind) → is_other_sort (sort_of k) ≡ true → is_clause k ≡ false
    go kinds.ComprehensionFor e = never e
    go kinds.AsyncComprehensionFor e = never e
    go k e = refl

-- ---- elements, or one element with clauses

-- elements, or one with clauses behind it
abbrev pub held : List Sort → List Sort → List (List Part)
held elements firsts = many elements ∷ (one firsts ++ some (only comprehension_clause)) ∷ []

-- elements alone, or one with clauses, as the test of clauses says
pub data Holds (elements firsts : List Sort) (u : List Tree) : Type 0 where
  holds_elements : is_comprehension u ≡ false → AreOf elements (kinds_of (pack u)) → Holds elements firsts u
  holds_clauses : is_comprehension u ≡ true → Fits (one firsts ++ some (only comprehension_clause)) (kinds_of (pack u)) → Holds elements firsts u

pub what_is_held : (elements firsts : List Sort) (u : List Tree) → every is_other_sort elements ≡ true → FitsOneOf (held elements firsts) (kinds_of (pack u)) → Holds elements firsts u
what_is_held elements firsts u others h =
    elim h [
      | inl g ↦ let of = fits_row elements (kinds_of (pack u)) g in holds_elements (no_comprehension u of) of
      | inr g ↦ elim g [ inl k ↦ holds_clauses (a_comprehension u k) k | inr k ↦ absurd k ]
    ]
  where
    no_comprehension : (v : List Tree) → AreOf elements (kinds_of (pack v)) → is_comprehension v ≡ false
    no_comprehension [] of = refl
    no_comprehension (t ∷ []) of = refl
    no_comprehension (t ∷ c ∷ v) of = no_clause elements c.node.kind of.1.0 others

    a_comprehension : (v : List Tree) → Fits (one firsts ++ some (only comprehension_clause)) (kinds_of (pack v)) → is_comprehension v ≡ true
    a_comprehension [] fit = absurd fit
    a_comprehension (t ∷ []) fit = absurd fit.1
    a_comprehension (t ∷ c ∷ v) fit = a_clause c.node.kind fit.1.0

-- a first one, and maybe clauses or more elements
pub first_and_more : {a b c : Form} (elements firsts : List Sort) → IsA firsts a → ((kind : Kind) → IsOf firsts kind → IsOf elements kind) → Forms (some (only comprehension_clause)) c → AreOfSorts elements b → FormsOneOf (held elements firsts) (Then a (Maybe (Either c b)))
first_and_more {a} {b} {c} elements firsts A w C B = forms_within apart (forms_same (forms_as (λ ks h. inr h) (forms_sole (form_then A C))) (forms_as (λ ks h. inl (first_form ks h)) (forms_sole (form_row_of (sorts_then elements (sorts_wider w (sorts_single A)) (sorts_maybe elements B))))))
  where
    first_form : (ks : List Kind) → FitsOneOf (many elements ∷ []) ks → Fits (many elements) ks
    first_form ks h = elim h [ inl g ↦ g | inr g ↦ absurd g ]

    apart : IsWithin (Then a (Maybe (Either c b))) (Either (Then a c) (Then a (Maybe b)))
    apart ts out h =
        elim h.second [
          | inl g ↦ elim g [
            | inl k ↦ inl (record { front = h.front; back = h.back; front_out = h.front_out; back_out = h.back_out; first = h.first; second = k; tokens = h.tokens; trees = h.trees })
            | inr k ↦ inr (record { front = h.front; back = h.back; front_out = h.front_out; back_out = h.back_out; first = h.first; second = inl k; tokens = h.tokens; trees = h.trees })
          ]
          | inr n ↦ inr (record { front = h.front; back = h.back; front_out = h.front_out; back_out = h.back_out; first = h.first; second = inr n; tokens = h.tokens; trees = h.trees })
        ]

-- a row alone is held
pub held_row : {a : Form} (elements firsts : List Sort) → AreOfSorts elements a → FormsOneOf (held elements firsts) a
held_row {a} elements firsts A = record { shaped = A.shaped; fits = λ ts out h. inl (row_fits elements (kinds_of (pack out)) (A.each ts out h)) }

-- between brackets
pub held_in : {a : Form} (elements firsts : List Sort) (opening closing : List ℕ) → FormsOneOf (held elements firsts) a → FormsOneOf (held elements firsts) (Bracketed code opening closing a)
held_in elements firsts opening closing A = forms_then (form_skipped code opening) (forms_behind A (form_skipped code closing))

-- or nothing
pub held_maybe : {a : Form} (elements firsts : List Sort) → FormsOneOf (held elements firsts) a → FormsOneOf (held elements firsts) (Maybe a)
held_maybe elements firsts A = forms_same A (record { shaped = λ ts out h. rw h.1 tt; fits = λ ts out h. rw h.1 (inl ([], [], refl, tt, refl)) })

-- ---- square brackets and braces

pub a_list : {a : Form} → FormsOneOf (held value expression) a → IsA expression (Made in_brackets a)
unfolding shape sort_of is_named
a_list A = form_over (one expression) in_brackets A (λ ts u h fit s. go ts u s (what_is_held value expression u refl fit))
  where
    go : (ts : List Terminal) (u : List Tree) → AreShaped (pack u) → Holds value expression u → AreGood (one expression) (in_brackets ts u)
    go ts u s (holds_elements e of) = rw e (good_node kinds.List expression ts u (inl (row_fits value (kinds_of (pack u)) of)) refl (other kinds.List refl) s)
    go ts u s (holds_clauses e fit) = rw e (good_node kinds.ListComprehension expression ts u (inl fit) refl (other kinds.ListComprehension refl) s)

-- ---- braces

abbrev in_dict : List Sort
in_dict = dict_item ∷ dict_unpack ∷ []

-- what braces hold
abbrev pub braced : List Sort
braced = dict_item ∷ dict_unpack ∷ value

abbrev is_dict_sort : Sort → Bool
is_dict_sort dict_item = true
is_dict_sort dict_unpack = true
is_dict_sort sort = false

abbrev is_no_unpack : Sort → Bool
is_no_unpack dict_unpack = false
is_no_unpack sort = true

of_dict : (kind : Kind) → is_of_dict kind ≡ true → IsOf in_dict kind
unfolding sort_of
of_dict kinds.DictItem h = inl refl
of_dict kinds.DictUnpack h = inr (inl refl)
of_dict kind h = never h

item_of_dict : (kind : Kind) → IsOf (dict_item ∷ expression) kind → is_of_dict kind ≡ true → IsOf (only dict_item) kind
unfolding sort_of
item_of_dict kinds.DictItem of h = inl refl
item_of_dict kinds.DictUnpack of h = never (sorts_say is_no_unpack (dict_item ∷ expression) kinds.DictUnpack of refl)
item_of_dict kind of h = never h

not_of_dict : (sorts : List Sort) (kind : Kind) → IsOf (dict_item ∷ dict_unpack ∷ sorts) kind → is_of_dict kind ≡ false → IsOf sorts kind
unfolding sort_of
not_of_dict sorts kinds.DictItem of h = never (sym h)
not_of_dict sorts kinds.DictUnpack of h = never (sym h)
not_of_dict sorts kind of h = elim of [ inl e ↦ never (ap is_dict_sort e) | inr g ↦ elim g [ inl e ↦ never (ap is_dict_sort e) | inr k ↦ k ] ]

first_not_of_dict : (kind : Kind) → IsOf (dict_item ∷ expression) kind → is_of_dict kind ≡ false → IsOf expression kind
first_not_of_dict kind of h = not_of_dict expression kind (elim of [ inl e ↦ inl e | inr g ↦ inr (inr g) ]) h

-- what is alike behind a first one
alike : (dict : Bool) (u : List Tree) → AreOf braced (kinds_of (pack u)) → are_all dict u ≡ true → AreOf (if dict then in_dict else value) (kinds_of (pack u))
alike dict [] of h = tt
alike dict (t ∷ u) of h =
    let (first, behind) = both_true (is_clause t.node.kind || (if dict then is_of_dict t.node.kind else (if is_of_dict t.node.kind then false else true))) (are_all dict u) h in
    let none = no_clause braced t.node.kind of.0 refl in
    (one_alike dict t.node.kind of.0 (rw none at first), alike dict u of.1 behind)
  where
    one_alike : (b : Bool) (kind : Kind) → IsOf braced kind → (if b then is_of_dict kind else (if is_of_dict kind then false else true)) ≡ true → IsOf (if b then in_dict else value) kind
    one_alike true kind k e = of_dict kind e
    one_alike false kind k e = not_of_dict value kind k (flipped (is_of_dict kind) e)
      where
        flipped : (b : Bool) → (if b then false else true) ≡ true → b ≡ false
        flipped true q = never q
        flipped false q = refl

pub a_brace : {a : Form} → FormsOneOf (held braced (dict_item ∷ expression)) a → IsA expression (Made in_braces (Where are_alike a))
unfolding shape sort_of is_named
a_brace A = form_over (one expression) in_braces (forms_where are_alike A) (λ ts u h fit s. go ts u s h.1 (what_is_held braced (dict_item ∷ expression) u refl fit))
  where
    by_kind : (ts : List Terminal) (t : Tree) (u : List Tree) → AreShaped (pack (t ∷ u)) → Holds braced (dict_item ∷ expression) (t ∷ u) → (b : Bool) → is_of_dict t.node.kind ≡ b → are_all b u ≡ true
        → AreGood (one expression)
        (if b then (if is_comprehension (t ∷ u) then whole (spanning kinds.DictComprehension) ts (t ∷ u) else whole (spanning kinds.Dict) ts (t ∷ u))
        else (if is_comprehension (t ∷ u) then whole (spanning kinds.SetComprehension) ts (t ∷ u) else whole (spanning kinds.Set) ts (t ∷ u)))
    by_kind ts t u s (holds_elements e of) true is h = rw e (good_node kinds.Dict expression ts (t ∷ u) (inl (row_fits in_dict (kinds_of (pack (t ∷ u))) (of_dict t.node.kind is, alike true u of.1 h))) refl (other kinds.Dict refl) s)
    by_kind ts t u s (holds_elements e of) false is h = rw e (good_node kinds.Set expression ts (t ∷ u) (inl (not_of_dict value t.node.kind of.0 is, row_fits value (kinds_of (pack u)) (alike false u of.1 h))) refl (other kinds.Set refl) s)
    by_kind ts t u s (holds_clauses e fit) true is h = rw e (good_node kinds.DictComprehension expression ts (t ∷ u) (inl (item_of_dict t.node.kind fit.0 is, fit.1)) refl (other kinds.DictComprehension refl) s)
    by_kind ts t u s (holds_clauses e fit) false is h = rw e (good_node kinds.SetComprehension expression ts (t ∷ u) (inl (first_not_of_dict t.node.kind fit.0 is, fit.1)) refl (other kinds.SetComprehension refl) s)

    go : (ts : List Terminal) (u : List Tree) → AreShaped (pack u) → are_alike u ≡ true → Holds braced (dict_item ∷ expression) u → AreGood (one expression) (in_braces ts u)
    go ts [] s h what = good_node kinds.Dict expression ts [] (inl ([], [], refl, tt, refl)) refl (other kinds.Dict refl) s
    go ts (t ∷ u) s h what = by_kind ts t u s what (is_of_dict t.node.kind) refl h

-- ---- arguments

-- what stands between the commas of a call
abbrev pub argument : List Sort
argument = star_argument ∷ keyword_argument ∷ double_star_argument ∷ expression

-- a keyword's argument, or a plain one
abbrev pub plain_argument : List Sort
plain_argument = keyword_argument ∷ expression

-- behind `**`, and behind a keyword
abbrev behind_double_star : List Part
behind_double_star = many (keyword_argument ∷ double_star_argument ∷ [])

abbrev behind_keyword : List Part
behind_keyword = many (keyword_argument ∷ star_argument ∷ []) ++ behind_double_star

pub row_none : (sorts : List Sort) (parts : List Part) (ks : List Kind) → Fits parts ks → Fits (a_row sorts ∷ parts) ks
row_none sorts parts ks h = ([], ks, refl, tt, h)

pub row_more : (sorts : List Sort) (parts : List Part) (k : Kind) (ks : List Kind) → IsOf sorts k → Fits (a_row sorts ∷ parts) ks → Fits (a_row sorts ∷ parts) (k ∷ ks)
row_more sorts parts k ks of h = let (front, back, e, each, fit) = h in (k ∷ front, back, ap (λ (xs : List Kind). k ∷ xs) e, (of, each), fit)

stars_last : (kind : Kind) (u : List Tree) → (in_order_from (Some 2) u ≡ true → Fits behind_double_star (kinds_of (pack u))) → in_order_from (next_place 2 kind) u ≡ true → Fits behind_double_star (kind ∷ kinds_of (pack u))
unfolding sort_of
stars_last kinds.KeywordArgument u more h = row_more (keyword_argument ∷ double_star_argument ∷ []) [] kinds.KeywordArgument (kinds_of (pack u)) (inl refl) (more h)
stars_last kinds.DoubleStarArgument u more h = row_more (keyword_argument ∷ double_star_argument ∷ []) [] kinds.DoubleStarArgument (kinds_of (pack u)) (inr (inl refl)) (more h)
stars_last kinds.StarArgument u more h = never h
stars_last kind u more h = never h

order_last : (u : List Tree) → in_order_from (Some 2) u ≡ true → Fits behind_double_star (kinds_of (pack u))
order_last [] h = ([], [], refl, tt, refl)
order_last (t ∷ u) h = stars_last t.node.kind u (order_last u) h

keywords_next : (kind : Kind) (u : List Tree) → (in_order_from (Some 1) u ≡ true → Fits behind_keyword (kinds_of (pack u))) → in_order_from (next_place 1 kind) u ≡ true → Fits behind_keyword (kind ∷ kinds_of (pack u))
unfolding sort_of
keywords_next kinds.KeywordArgument u more h = row_more (keyword_argument ∷ star_argument ∷ []) behind_double_star kinds.KeywordArgument (kinds_of (pack u)) (inl refl) (more h)
keywords_next kinds.StarArgument u more h = row_more (keyword_argument ∷ star_argument ∷ []) behind_double_star kinds.StarArgument (kinds_of (pack u)) (inr (inl refl)) (more h)
keywords_next kinds.DoubleStarArgument u more h =
    row_none (keyword_argument ∷ star_argument ∷ []) behind_double_star (kinds.DoubleStarArgument ∷ kinds_of (pack u)) (row_more (keyword_argument ∷ double_star_argument ∷ []) [] kinds.DoubleStarArgument (kinds_of (pack u)) (inr (inl refl)) (order_last u h))
keywords_next kind u more h = never h

order_next : (u : List Tree) → in_order_from (Some 1) u ≡ true → Fits behind_keyword (kinds_of (pack u))
order_next [] h = ([], [], refl, tt, ([], [], refl, tt, refl))
order_next (t ∷ u) h = keywords_next t.node.kind u (order_next u) h

abbrev is_keyword_sort : Sort → Bool
is_keyword_sort keyword_argument = true
is_keyword_sort double_star_argument = true
is_keyword_sort sort = false

plain_first : (kind : Kind) (u : List Tree) → IsOf argument kind → (in_order_from (Some 0) u ≡ true → Fits arguments (kinds_of (pack u))) → in_order_from (next_place 0 kind) u ≡ true → Fits arguments (kind ∷ kinds_of (pack u))
unfolding sort_of
plain_first kinds.KeywordArgument u of more h =
    row_none (star_argument ∷ expression) behind_keyword (kinds.KeywordArgument ∷ kinds_of (pack u)) (row_more (keyword_argument ∷ star_argument ∷ []) behind_double_star kinds.KeywordArgument (kinds_of (pack u)) (inl refl) (order_next u h))
plain_first kinds.DoubleStarArgument u of more h =
    row_none (star_argument ∷ expression) behind_keyword (kinds.DoubleStarArgument ∷ kinds_of (pack u))
    (row_none (keyword_argument ∷ star_argument ∷ []) behind_double_star (kinds.DoubleStarArgument ∷ kinds_of (pack u)) (row_more (keyword_argument ∷ double_star_argument ∷ []) [] kinds.DoubleStarArgument (kinds_of (pack u)) (inr (inl refl)) (order_last u h)))
plain_first kinds.StarArgument u of more h = row_more (star_argument ∷ expression) behind_keyword kinds.StarArgument (kinds_of (pack u)) (inl refl) (more h)
plain_first kind u of more h = row_more (star_argument ∷ expression) behind_keyword kind (kinds_of (pack u)) plain (more h)
  where
    plain : IsOf (star_argument ∷ expression) kind
    plain = elim of [ inl e ↦ inl e | inr g ↦ elim g [ inl e ↦ never (ap is_keyword_sort e) | inr k ↦ elim k [ inl e ↦ never (ap is_keyword_sort e) | inr l ↦ inr l ] ] ]

-- arguments in order have the form of arguments
pub order_fits : (u : List Tree) → AreOf argument (kinds_of (pack u)) → in_order u ≡ true → Fits arguments (kinds_of (pack u))
order_fits [] of h = ([], [], refl, tt, ([], [], refl, tt, ([], [], refl, tt, refl)))
order_fits (t ∷ u) of h = plain_first t.node.kind u of.0 (order_fits u of.1) h

-- an argument that is neither keyword nor star
a_plain : (kind : Kind) → IsOf plain_argument kind → is_plain kind ≡ true → IsOf expression kind
unfolding sort_of
a_plain kinds.KeywordArgument of h = never h
a_plain kinds.DoubleStarArgument of h = never h
a_plain kind of h = elim of [ inl e ↦ never (ap is_keyword_sort e) | inr g ↦ g ]

-- arguments, or one generator
pub are_call_arguments : {a : Form} → FormsOneOf (held argument plain_argument) a → Forms arguments (Made call_arguments (Where are_arguments a))
unfolding shape sort_of is_named
are_call_arguments A = form_over arguments call_arguments (forms_where are_arguments A) (λ ts u h fit s. go ts u s h.1 (what_is_held argument plain_argument u refl fit))
  where
    one_argument : (kind : Kind) → IsOf expression kind → Fits arguments (kind ∷ [])
    one_argument kind of = row_more (star_argument ∷ expression) behind_keyword kind [] (inr of) ([], [], refl, tt, ([], [], refl, tt, ([], [], refl, tt, refl)))

    generator : (ts : List Terminal) (u : List Tree) → AreShaped (pack u) → is_plain_first u ≡ true → Fits (one plain_argument ++ some (only comprehension_clause)) (kinds_of (pack u)) → AreGood arguments (whole (spanning kinds.GeneratorExpression) ts u)
    generator ts [] s h fit = never h
    generator ts (t ∷ u) s h fit =
        let good = good_node kinds.GeneratorExpression expression ts (t ∷ u) (inl (a_plain t.node.kind fit.0 h, fit.1)) refl (other kinds.GeneratorExpression refl) s in
        (good.0, one_argument kinds.GeneratorExpression (other kinds.GeneratorExpression refl))

    go : (ts : List Terminal) (u : List Tree) → AreShaped (pack u) → are_arguments u ≡ true → Holds argument plain_argument u → AreGood arguments (call_arguments ts u)
    go ts u s h (holds_elements e of) = rw e (s, order_fits u of (rw e at h))
    go ts u s h (holds_clauses e fit) = rw e (generator ts u s (rw e at h) fit)
