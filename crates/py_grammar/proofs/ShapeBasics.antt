-- The forms of what the grammar's forms are built of: tokens, nodes, rows, items with commas, and what brackets hold.
use Rattle.std.proofs.Common.{◌≡◌, ℕ, Bool, true, false, ◌&&◌, List, [], ◌∷◌, ◌++◌, inl, inr, refl, ap, subst, ◌∙◌}
use Rattle.std.proofs.lemmas.List.{append-nil}
use Rattle.tree_nodes.specs.declared.kind.Kind.{Kind}
use Rattle.tree_nodes.specs.Trees.{Tree, pack}
use Rattle.tree_nodes.specs.Sorts.{Sort, sort_of, is_named, IsOf, AreOf, other_expression, expression, value}
use Rattle.tree_nodes.specs.Shapes.{Part, a_row_of_pairs, Fits, FitsOneOf, one, many, some, shape}
use Rattle.tree_nodes.specs.Shaped.{kinds_of, AreShaped}
use Rattle.py_language.specs.Languages.{Then, Either, Maybe, Made, Where}
use Rattle.py_language.specs.Forms.{Forms, FormsOneOf, AreOfSorts}
use Rattle.py_language.proofs.KindLaws.{fits_append, two_operands, two_between}
use Rattle.py_language.proofs.SortLaws.{form_row_of, sorts_skipped, sorts_then, sorts_maybe, sorts_separated}
use Rattle.py_language.proofs.FormLaws.{form_skipped, form_then, form_either, form_pairs, form_separated, form_joined, form_node, form_whole, form_row}
use Rattle.py_grammar.specs.Terminals.{Terminal, Form, code}
use Rattle.py_grammar.specs.Words.{comma}
use Rattle.py_grammar.specs.Nodes.{spanning, called, Token, As, Called, Row, Joined, Commas, CommaRest}

-- one tree of one of these sorts
abbrev pub IsA : List Sort → Form → Type 0
IsA sorts a = Forms (one sorts) a

-- no truth is a falsehood
pub never : {A : Type 0} → false ≡ true → A
never e = absurd cc

-- ---- sorts

-- each of the sorts passes a test
abbrev pub every : (Sort → Bool) → List Sort → Bool
every test [] = true
every test (sort ∷ sorts) = test sort && every test sorts

-- a kind that is of one of some sorts which all pass a test
pub sorts_say : (test : Sort → Bool) (sorts : List Sort) (kind : Kind) → IsOf sorts kind → every test sorts ≡ true → test (sort_of kind) ≡ true
sorts_say test [] kind h e = absurd h
sorts_say test (sort ∷ sorts) kind h e = go (test sort) refl e (λ there both. sorts_say test sorts kind there both)
  where
    go : (b : Bool) → test sort ≡ b → (b && every test sorts) ≡ true → (IsOf sorts kind → every test sorts ≡ true → test (sort_of kind) ≡ true) → test (sort_of kind) ≡ true
    go false same both others = never both
    go true same both others = elim h [ inl here ↦ ap test here ∙ same | inr there ↦ others there both ]

pub expression_is_value : (kind : Kind) → IsOf expression kind → IsOf value kind
expression_is_value kind h = inr h

-- a kind that has no sort of its own among expressions
pub other : (kind : Kind) → sort_of kind ≡ other_expression → IsOf expression kind
other kind e = inr (inr (inr (inr (inr (inl e)))))

-- ---- a token, and then more

pub behind : {parts : List Part} {a : Form} (set : List ℕ) → Forms parts a → Forms parts (Then (Token set) a)
behind set A = form_then (form_skipped code set) A

-- ---- nodes

-- a node of a kind over parts of its form
pub a_node : {parts : List Part} {a : Form} (kind : Kind) (sorts : List Sort) → Forms parts a → ((kinds : List Kind) → Fits parts kinds → FitsOneOf (shape kind) kinds) → false ≡ is_named kind → IsOf sorts kind → IsA sorts (As kind a)
a_node kind sorts A fits named sort = form_node sorts (spanning kind) A (λ ts kinds h. fits kinds h) (λ ts u h. named) (λ ts. sort)

-- the same with a name
pub a_named_node : {parts : List Part} {a : Form} (kind : Kind) (name_over : List Terminal → List ℕ) (sorts : List Sort) → Forms parts a → ((kinds : List Kind) → Fits parts kinds → FitsOneOf (shape kind) kinds) → true ≡ is_named kind → IsOf sorts kind
    → IsA sorts (Called kind name_over a)
a_named_node kind name_over sorts A fits named sort = form_node sorts (called kind name_over) A (λ ts kinds h. fits kinds h) (λ ts u h. named) (λ ts. sort)

-- operands with tokens between them
pub operands : {a : Form} (kind : Kind) (set : List ℕ) (sorts : List Sort) → IsA sorts a → ((kinds : List Kind) → Fits (one sorts ++ some sorts) kinds → FitsOneOf (shape kind) kinds) → false ≡ is_named kind → IsOf sorts kind
    → IsA sorts (Row kind (Token set) a)
operands kind set sorts A fits named sort =
    form_row sorts (spanning kind) (form_joined code set A) (λ h. h) (λ k h. h.0) (λ ts x y ks h. fits (x ∷ y ∷ ks) (two_operands sorts x y ks h)) (λ ts. named) (λ ts. sort)

-- operands with operators between them
pub operands_with : {a o : Form} (kind : Kind) (operators sorts : List Sort) → IsA operators o → IsA sorts a
    → ((kinds : List Kind) → Fits (one sorts ++ one operators ++ one sorts ++ (a_row_of_pairs operators sorts ∷ [])) kinds → FitsOneOf (shape kind) kinds) → false ≡ is_named kind → IsOf sorts kind → IsA sorts (Row kind o a)
operands_with kind operators sorts O A fits named sort =
    form_row sorts (spanning kind) (form_then A (form_pairs O A)) (λ h. h) (λ k h. h.0) (λ ts x y ks h. fits (x ∷ y ∷ ks) (two_between operators sorts x y ks h)) (λ ts. named) (λ ts. sort)

-- ---- items with commas

pub with_commas : {a : Form} (sorts : List Sort) → IsA sorts a → Forms (some sorts) (Commas a)
with_commas sorts A = form_separated code comma A

pub joined_by_commas : {a : Form} (sorts : List Sort) → IsA sorts a → Forms (some sorts) (Joined a)
joined_by_commas sorts A = form_joined code comma A

-- ',' and maybe more of these
pub behind_comma : {a : Form} (sorts : List Sort) → AreOfSorts sorts a → AreOfSorts sorts (CommaRest a)
behind_comma sorts A = sorts_then sorts (sorts_skipped sorts code comma) (sorts_maybe sorts (sorts_separated sorts code comma A))

-- a first one and those behind its comma
pub first_and_rest : {a b : Form} (sorts : List Sort) → AreOfSorts sorts a → AreOfSorts sorts b → Forms (many sorts) (Then a (CommaRest b))
first_and_rest sorts A B = form_row_of (sorts_then sorts A (behind_comma sorts B))

-- ---- languages within others

-- what the one spells the other spells too
abbrev pub IsWithin : Form → Form → Type 0
IsWithin a b = (ts : List Terminal) (out : List Tree) → a ts out → b ts out

pub form_within : {parts : List Part} {a b : Form} → IsWithin b a → Forms parts a → Forms parts b
form_within w A = record { shaped = λ ts out h. A.shaped ts out (w ts out h); fits = λ ts out h. A.fits ts out (w ts out h) }

pub forms_within : {forms : List (List Part)} {a b : Form} → IsWithin b a → FormsOneOf forms a → FormsOneOf forms b
forms_within w A = record { shaped = λ ts out h. A.shaped ts out (w ts out h); fits = λ ts out h. A.fits ts out (w ts out h) }

-- ---- one of some forms

-- forms of a kind are forms of others
pub forms_as : {forms others : List (List Part)} {a : Form} → ((kinds : List Kind) → FitsOneOf forms kinds → FitsOneOf others kinds) → FormsOneOf forms a → FormsOneOf others a
forms_as w A = record { shaped = A.shaped; fits = λ ts out h. w (kinds_of (pack out)) (A.fits ts out h) }

-- both are of the same forms
pub forms_same : {forms : List (List Part)} {a b : Form} → FormsOneOf forms a → FormsOneOf forms b → FormsOneOf forms (Either a b)
forms_same A B = record {
  shaped = λ ts out h. elim h [ inl g ↦ A.shaped ts out g | inr g ↦ B.shaped ts out g ];
  fits = λ ts out h. elim h [ inl g ↦ A.fits ts out g | inr g ↦ B.fits ts out g ];
}

-- what is made of trees of some forms
pub form_over : {forms : List (List Part)} {a : Form} (parts : List Part) (over : List Terminal → List Tree → List Tree) → FormsOneOf forms a
    → ((ts : List Terminal) (u : List Tree) → a ts u → FitsOneOf forms (kinds_of (pack u)) → AreShaped (pack u) → AreShaped (pack (over ts u)) × Fits parts (kinds_of (pack (over ts u)))) → Forms parts (Made over a)
form_over parts over A made = record {
  shaped = λ ts out h. rw h.trees (made ts h.parts h.spelled (A.fits ts h.parts h.spelled) (A.shaped ts h.parts h.spelled)).0;
  fits = λ ts out h. rw h.trees (made ts h.parts h.spelled (A.fits ts h.parts h.spelled) (A.shaped ts h.parts h.spelled)).1;
}

pub forms_where : {forms : List (List Part)} {a : Form} (test : List Tree → Bool) → FormsOneOf forms a → FormsOneOf forms (Where test a)
forms_where test A = record { shaped = λ ts out h. A.shaped ts out h.0; fits = λ ts out h. A.fits ts out h.0 }

-- a node over parts of one of some forms
pub a_node_of : {forms : List (List Part)} {a : Form} (kind : Kind) (sorts : List Sort) → FormsOneOf forms a → ((kinds : List Kind) → FitsOneOf forms kinds → FitsOneOf (shape kind) kinds) → false ≡ is_named kind → IsOf sorts kind → IsA sorts (As kind a)
a_node_of kind sorts A fits named sort = form_whole sorts (spanning kind) A (λ ts u h fit. fits (kinds_of (pack u)) fit) (λ ts u h. named) (λ ts u h. sort)

-- a first one and those behind its comma, one at least
pub first_and_some : {a b : Form} (sorts : List Sort) → IsA sorts a → AreOfSorts sorts b → Forms (some sorts) (Then a (CommaRest b))
first_and_some sorts A B = form_then A (form_row_of (behind_comma sorts B))

-- ---- parts that may be left out

-- no kids of a last part
pub and_none : (parts others : List Part) → Fits others [] → (ks : List Kind) → Fits parts ks → Fits (parts ++ others) ks
and_none parts others none ks h = subst (λ (xs : List Kind). Fits (parts ++ others) xs) (append-nil ks) (fits_append parts others ks [] h none)

-- no kids of a first part
pub none_and : (parts others : List Part) → Fits parts [] → (ks : List Kind) → Fits others ks → Fits (parts ++ others) ks
none_and parts others none ks h = fits_append parts others [] ks none h

-- it, or no trees
pub form_perhaps : {parts : List Part} {a : Form} → Forms parts a → Fits parts [] → Forms parts (Maybe a)
form_perhaps A none = form_either A (record { shaped = λ ts out h. rw h.1 tt; fits = λ ts out h. rw h.1 none })

-- trees of no sort are none
pub no_trees : {a : Form} → AreOfSorts [] a → Forms [] a
no_trees A = record { shaped = A.shaped; fits = λ ts out h. none (kinds_of (pack out)) (A.each ts out h) }
  where
    none : (ks : List Kind) → AreOf [] ks → ks ≡ []
    none [] of = refl
    none (k ∷ ks) of = absurd of.0

-- the same with a name
pub a_named_node_of : {forms : List (List Part)} {a : Form} (kind : Kind) (name_over : List Terminal → List ℕ) (sorts : List Sort) → FormsOneOf forms a → ((kinds : List Kind) → FitsOneOf forms kinds → FitsOneOf (shape kind) kinds) → true ≡ is_named kind
    → IsOf sorts kind → IsA sorts (Called kind name_over a)
a_named_node_of kind name_over sorts A fits named sort = form_whole sorts (called kind name_over) A (λ ts u h fit. fits (kinds_of (pack u)) fit) (λ ts u h. named) (λ ts u h. sort)
