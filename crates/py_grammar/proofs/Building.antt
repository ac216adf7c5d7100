-- Agreement of what the grammar's forms are built of: tokens, nodes, rows, items with commas, and what brackets hold.
use Rattle.std.proofs.Common.{◌≡◌, ℕ, Bool, true, false, cond, List, [], ◌++◌, refl}
use Rattle.tree_nodes.specs.Trees.{Node, Tree}
use Rattle.tree_nodes.specs.declared.kind.Kind.{Kind}
use Rattle.py_language.specs.Sets.{are_apart, is_within}
use Rattle.py_language.specs.Languages.{Then, Either, Maybe, Many, Some, Made, Where, Bracketed, Stepwise, whole, row}
use Rattle.py_language.specs.Readers.{Cont, both, choose, optional, made, where_, many, some, bracketed, choose_by_two, followed, extended, pick, maybe_more, in_turns}
use Rattle.py_language.proofs.Beginnings.{and_if}
use Rattle.py_language.proofs.Agreement.{Agrees, agree_both, agree_choose, agree_optional, agree_wider, agree_shown, agree_skipped, agree_bracketed, agree_made, agree_where}
use Rattle.py_language.proofs.Continuation.{Continues, continues_extended, continues_pick, agree_once, agree_turns}
use Rattle.py_language.proofs.Repetition.{agree_many, agree_some}
use Rattle.py_language.proofs.Separation.{agree_separated}
use Rattle.py_language.proofs.Looking.{Looks, ReadsAlone, agree_by_two}
use Rattle.py_grammar.specs.Terminals.{Terminal, Form, code}
use Rattle.py_grammar.specs.Words.{name, comma, opens, closes, left_paren, right_paren, left_bracket, right_bracket, left_brace, right_brace, field_open, field_close}
use Rattle.py_grammar.specs.Nodes.{spanning, called, first_text, Token, Leaf, As, Called, Row, Joined, Commas, CommaRest, Tupled, InParentheses, InBrackets, InBraces}
use Rattle.py_grammar.specs.Expressions.{bound, is_one_target, Target}
use Rattle.py_grammar.specs.Reading.{LineReader, token, leaf, as_, called_, row_, joined_, commas, comma_rest, tupled, parenthesized, bracketed_, braced, target, pair}

-- the reader reads the form: it begins in f, or has no tokens where n says so, and what may go on is in c
abbrev pub Reads : Bool → List ℕ → List ℕ → LineReader → Form → Type 0
Reads n f c p a = Agrees code opens closes n f c p a

-- the same from a first phrase on
abbrev pub GoesOn : List ℕ → List ℕ → Cont Terminal → (Form → Form) → Type 1
GoesOn f c k step = Continues code opens closes f c k step

-- ---- sets

-- with other sets, which hold these
pub as_sets : {n : Bool} {f c : List ℕ} {p : LineReader} {a : Form} (g d : List ℕ) → Reads n f c p a → is_within f g ≡ true → is_within c d ≡ true → Reads n g d p a
as_sets g d A wf wc = agree_wider code opens closes A wf wc

-- ---- tokens and leaves

pub a_token : (set : List ℕ) → are_apart opens set ≡ true → are_apart closes set ≡ true → Reads false set [] (token set) (Token set)
a_token set o c = agree_skipped code opens closes set o c

pub a_leaf : (node_of : Terminal → Node) (set : List ℕ) → are_apart opens set ≡ true → are_apart closes set ≡ true → Reads false set [] (leaf node_of set) (Leaf node_of set)
a_leaf node_of set o c = agree_shown code opens closes node_of set o c

-- ---- one behind the other, choices, repetitions

pub in_a_row : {n m : Bool} {f g c d : List ℕ} {p q : LineReader} {a b : Form} → Reads n f c p a → Reads m g d q b → are_apart c g ≡ true → Reads (cond n m false) (f ++ and_if n g) (d ++ and_if m c) (both p q) (Then a b)
in_a_row A B sep = agree_both code opens closes A B sep

-- a token and then more
pub behind_token : {m : Bool} {g d : List ℕ} {q : LineReader} {b : Form} (set : List ℕ) → are_apart opens set ≡ true → are_apart closes set ≡ true → Reads m g d q b → Reads false (set ++ []) (d ++ and_if m []) (both (token set) q) (Then (Token set) b)
behind_token set o c B = agree_both code opens closes (a_token set o c) B refl

pub one_of : {m : Bool} {f g c d : List ℕ} {p q : LineReader} {a b : Form} → Reads false f c p a → Reads m g d q b → are_apart f g ≡ true → Reads m (f ++ g) ((c ++ d) ++ and_if m f) (choose code f p q) (Either a b)
one_of A B sep = agree_choose code opens closes A B sep

pub perhaps : {f c : List ℕ} {p : LineReader} {a : Form} → Reads false f c p a → Reads true (f ++ []) ((c ++ []) ++ f) (optional code f p) (Maybe a)
perhaps A = agree_optional code opens closes A

pub any_number : {f c : List ℕ} {p : LineReader} {a : Form} → Reads false f c p a → are_apart c f ≡ true → Reads true f (f ++ c) (many code f p) (Many a)
any_number A sep = agree_many code opens closes A sep

pub one_or_more : {f c : List ℕ} {p : LineReader} {a : Form} → Reads false f c p a → are_apart c f ≡ true → Reads false (f ++ []) ((f ++ c) ++ c) (some code f p) (Some a)
one_or_more A sep = agree_some code opens closes A sep

pub by_two : {g d : List ℕ} {q : LineReader} {a : Form} {p : LineReader} {b : Form} {c : List ℕ} (one two : List ℕ) → Reads false one c p a → Looks code one two a → Reads false g d q b → ReadsAlone code one d q → are_apart d two ≡ true
    → Reads false (one ++ g) (c ++ (two ++ d)) (choose_by_two code one two p q) (Either a b)
by_two one two A looks B alone sep = agree_by_two code opens closes one two A looks B alone sep

-- ---- nodes

pub over_it : {n : Bool} {f c : List ℕ} {p : LineReader} {a : Form} (over : List Terminal → List Tree → List Tree) → Reads n f c p a → Reads n f c (made over p) (Made over a)
over_it over A = agree_made code opens closes over A

pub under : {n : Bool} {f c : List ℕ} {p : LineReader} {a : Form} (test : List Tree → Bool) → Reads n f c p a → Reads n f c (where_ test p) (Where test a)
under test A = agree_where code opens closes test A

pub a_node : {n : Bool} {f c : List ℕ} {p : LineReader} {a : Form} (kind : Kind) → Reads n f c p a → Reads n f c (as_ kind p) (As kind a)
a_node kind A = agree_made code opens closes (whole (spanning kind)) A

pub a_named_node : {n : Bool} {f c : List ℕ} {p : LineReader} {a : Form} (kind : Kind) (name_over : List Terminal → List ℕ) → Reads n f c p a → Reads n f c (called_ kind name_over p) (Called kind name_over a)
a_named_node kind name_over A = agree_made code opens closes (whole (called kind name_over)) A

-- a node over a token and then more
pub a_node_behind : {m : Bool} {g d : List ℕ} {q : LineReader} {b : Form} (kind : Kind) (set : List ℕ) → are_apart opens set ≡ true → are_apart closes set ≡ true → Reads m g d q b
    → Reads false (set ++ []) (d ++ and_if m []) (as_ kind (both (token set) q)) (As kind (Then (Token set) b))
a_node_behind kind set o c B = a_node kind (behind_token set o c B)

-- operands with operators between them
pub operands : {f c g d : List ℕ} {p op : LineReader} {a o : Form} (kind : Kind) (more : List ℕ) → Reads false g d op o → Reads false f c p a → are_apart d f ≡ true → are_apart c g ≡ true
    → is_within (g ++ []) g ≡ true → is_within (c ++ []) c ≡ true → is_within (f ++ []) f ≡ true → is_within ((g ++ c) ++ c) more ≡ true → Reads false f more (row_ kind g op p) (Row kind o a)
operands {f} {c} {g} kind more O A sep1 sep2 w1 w2 w3 w4 = as_sets f more (over_it (row (spanning kind)) (in_a_row A (any_number (as_sets g c (in_a_row O A sep1) w1 w2) sep2) sep2)) w3 w4

-- ---- items with commas

pub with_commas : {f c : List ℕ} {p : LineReader} {a : Form} (more : List ℕ) → Reads false f c p a → are_apart c comma ≡ true → is_within f f ≡ true → is_within (f ++ (comma ++ c)) more ≡ true → Reads false f more (commas f p) (Commas a)
with_commas {f} more A sep w1 w2 = as_sets f more (agree_separated code opens closes comma A refl refl sep) w1 w2

pub behind_comma : {f c : List ℕ} {p : LineReader} {a : Form} (more : List ℕ) → Reads false f c p a → are_apart c comma ≡ true → is_within ((((f ++ (comma ++ c)) ++ []) ++ f) ++ []) more ≡ true → Reads false comma more (comma_rest f p) (CommaRest a)
behind_comma {f} more A sep w = as_sets comma more (behind_token comma refl refl (perhaps (agree_separated code opens closes comma A refl refl sep))) refl w

pub joined_by_commas : {f c : List ℕ} {p : LineReader} {a : Form} (more : List ℕ) → Reads false f c p a → are_apart c comma ≡ true → is_within (f ++ []) f ≡ true → is_within (c ++ []) c ≡ true → is_within ((comma ++ c) ++ c) more ≡ true
    → Reads false f more (joined_ p) (Joined a)
joined_by_commas {f} {c} more A sep w1 w2 w3 = as_sets f more (in_a_row A (any_number (as_sets comma c (behind_token comma refl refl A) refl w2) sep) sep) w1 w3

-- a phrase, or a node over it and what stands behind its comma
pub a_tuple : {f c g d : List ℕ} {p q : LineReader} {a b : Form} (kind : Kind) (rest more : List ℕ) → Reads false f c p a → Reads false g d q b → are_apart c comma ≡ true → are_apart d comma ≡ true
    → is_within ((((g ++ (comma ++ d)) ++ []) ++ g) ++ []) rest ≡ true → is_within f f ≡ true → is_within (comma ++ (c ++ rest)) more ≡ true → Reads false f more (tupled kind g p q) (Tupled kind a b)
a_tuple {f} kind rest more A B sep1 sep2 w1 w2 w3 = as_sets f more (agree_once code opens closes A (continues_extended code opens closes (whole (spanning kind)) (behind_comma rest B sep2 w1)) sep1) w2 w3

-- ---- brackets

pub between_parentheses : {n : Bool} {f c : List ℕ} {p : LineReader} {a : Form} → Reads n f c p a → are_apart c right_paren ≡ true → Reads false left_paren [] (parenthesized p) (InParentheses a)
between_parentheses A sep = agree_bracketed code opens closes left_paren right_paren A refl refl refl sep

pub between_brackets : {n : Bool} {f c : List ℕ} {p : LineReader} {a : Form} → Reads n f c p a → are_apart c right_bracket ≡ true → Reads false left_bracket [] (bracketed_ p) (InBrackets a)
between_brackets A sep = agree_bracketed code opens closes left_bracket right_bracket A refl refl refl sep

pub between_braces : {n : Bool} {f c : List ℕ} {p : LineReader} {a : Form} → Reads n f c p a → are_apart c right_brace ≡ true → Reads false left_brace [] (braced p) (InBraces a)
between_braces A sep = agree_bracketed code opens closes left_brace right_brace A refl refl refl sep

pub between_marks : {n : Bool} {f c : List ℕ} {p : LineReader} {a : Form} → Reads n f c p a → are_apart c field_close ≡ true → Reads false field_open [] (bracketed code field_open field_close p) (Bracketed code field_open field_close a)
between_marks A sep = agree_bracketed code opens closes field_open field_close A refl refl refl sep

-- ---- from a first phrase on

pub a_node_from : {f c : List ℕ} {q : LineReader} {b : Form} (kind : Kind) → Reads false f c q b → GoesOn f c (extended (whole (spanning kind)) q) (λ a. As kind (Then a b))
a_node_from kind B = continues_extended code opens closes (whole (spanning kind)) B

pub a_named_node_from : {f c : List ℕ} {q : LineReader} {b : Form} (kind : Kind) (name_over : List Terminal → List ℕ) → Reads false f c q b → GoesOn f c (extended (whole (called kind name_over)) q) (λ a. Called kind name_over (Then a b))
a_named_node_from kind name_over B = continues_extended code opens closes (whole (called kind name_over)) B

pub from_one_of : {f c g d : List ℕ} {k l : Cont Terminal} {s t : Form → Form} → GoesOn f c k s → GoesOn g d l t → are_apart f g ≡ true → GoesOn (f ++ g) (c ++ d) (pick code f k l) (λ a. Either (s a) (t a))
from_one_of K M sep = continues_pick code opens closes K M sep

-- maybe one step
pub maybe_one : {f c g d : List ℕ} {p : LineReader} {a : Form} {k : Cont Terminal} {step : Form → Form} → Reads false f c p a → GoesOn g d k step → are_apart c g ≡ true → Reads false f (g ++ (c ++ d)) (followed p (maybe_more code g k)) (Either a (step a))
maybe_one A K sep = agree_once code opens closes A K sep

-- any number of steps
pub steps_on : {f c g d : List ℕ} {p : LineReader} {a : Form} {k : Cont Terminal} {step : Form → Form} → Reads false f c p a → GoesOn g d k step → are_apart c g ≡ true → are_apart d g ≡ true → Reads false f (g ++ (c ++ d)) (in_turns code p g k) (Stepwise step a)
steps_on A K sep1 sep2 = agree_turns code opens closes A K sep1 sep2

-- ---- targets, and a name with a mark

pub a_target : {n : Bool} {f c : List ℕ} {p : LineReader} {a : Form} → Reads n f c p a → Reads n f c (target p) (Target a)
a_target A = over_it bound (under is_one_target A)

pub a_pair : {f c : List ℕ} {p : LineReader} {a : Form} (kind : Kind) (mark : List ℕ) → are_apart opens mark ≡ true → are_apart closes mark ≡ true → is_within ((c ++ []) ++ []) c ≡ true → Reads false f c p a
    → Reads false name c (pair kind mark p) (Called kind first_text (Then (Token name) (Then (Token mark) a)))
a_pair {f} {c} kind mark o e w A = as_sets name c (a_named_node kind first_text (behind_token name refl refl (in_a_row (a_token mark o e) A refl))) refl w
