-- How deep a phrase leads back, for what the grammar's forms are built of: tokens, nodes, rows, items with commas, and
-- what brackets hold. A node that weighs, and brackets, go one deeper.
use Rattle.std.proofs.Common.{◌≡◌, ◌≤◌, ℕ, suc, Bool, true, List, refl}
use Rattle.tree_nodes.specs.Trees.{Node, Tree}
use Rattle.tree_nodes.specs.declared.kind.Kind.{Kind}
use Rattle.py_language.specs.Sets.{are_apart}
use Rattle.py_language.specs.Languages.{Then, Either, Maybe, Many, Some, Made, Where, Bracketed, Stepwise, whole, row}
use Rattle.py_language.specs.Nesting.{nesting_of, Carried}
use Rattle.py_language.proofs.Carrying.{carried_same, carried_pred, carried_skipped, carried_shown, carried_then, carried_either, carried_maybe, carried_many, carried_some, carried_separated, carried_where, carried_made, carried_whole, carried_row, carried_heavy, carried_bracketed, carried_steps}
use Rattle.py_grammar.specs.declared.entry.Entry.{Entry}
use Rattle.py_grammar.specs.Terminals.{Terminal, Form, code}
use Rattle.py_grammar.specs.Words.{comma, opens, closes, left_paren, right_paren, left_bracket, right_bracket, left_brace, right_brace, field_open, field_close}
use Rattle.py_grammar.specs.Nodes.{spanning, called, Token, Leaf, As, Called, Row, Joined, Commas, CommaRest, Tupled, InParentheses, InBrackets, InBraces}
use Rattle.py_grammar.specs.Weights.{weight}

-- brackets are even in each phrase of a, and each whose nesting and open brackets come to less than k is one of b
abbrev pub Carries : ℕ → Form → Form → Type 0
Carries k a b = Carried code opens closes weight k a b

-- the same of each form in which a phrase leads back
abbrev pub Leads : ℕ → (Entry → Form) → (Entry → Form) → Type 0
Leads k L M = (x : Entry) → Carries k (L x) (M x)

-- below a node beside others
pub one_less : {k : ℕ} {a b : Form} → Carries (suc k) a b → Carries k a b
one_less C = carried_pred code opens closes weight C

-- ---- tokens and leaves

pub carry_token : {k : ℕ} (set : List ℕ) → are_apart opens set ≡ true → are_apart closes set ≡ true → Carries k (Token set) (Token set)
carry_token {k} set o c = carried_skipped code opens closes weight k set o c

pub carry_leaf : {k : ℕ} (node_of : Terminal → Node) (set : List ℕ) → are_apart opens set ≡ true → are_apart closes set ≡ true → Carries k (Leaf node_of set) (Leaf node_of set)
carry_leaf {k} node_of set o c = carried_shown code opens closes weight k node_of set o c

-- ---- one behind the other, choices, repetitions

pub carry_then : {k : ℕ} {a b c d : Form} → Carries k a b → Carries k c d → Carries k (Then a c) (Then b d)
carry_then C D = carried_then code opens closes weight C D

-- a token and then more
pub carry_behind : {k : ℕ} {a b : Form} (set : List ℕ) → are_apart opens set ≡ true → are_apart closes set ≡ true → Carries k a b → Carries k (Then (Token set) a) (Then (Token set) b)
carry_behind set o c C = carry_then (carry_token set o c) C

pub carry_either : {k : ℕ} {a b c d : Form} → Carries k a b → Carries k c d → Carries k (Either a c) (Either b d)
carry_either C D = carried_either code opens closes weight C D

pub carry_maybe : {k : ℕ} {a b : Form} → Carries k a b → Carries k (Maybe a) (Maybe b)
carry_maybe C = carried_maybe code opens closes weight C

pub carry_many : {k : ℕ} {a b : Form} → Carries k a b → Carries k (Many a) (Many b)
carry_many C = carried_many code opens closes weight C

pub carry_some : {k : ℕ} {a b : Form} → Carries k a b → Carries k (Some a) (Some b)
carry_some C = carried_some code opens closes weight C

pub carry_where : {k : ℕ} {a b : Form} (test : List Tree → Bool) → Carries k a b → Carries k (Where test a) (Where test b)
carry_where test C = carried_where code opens closes weight test C

pub carry_steps : {k : ℕ} {a b : Form} (s t : Form → Form) → ((c d : Form) → Carries k c d → Carries k (s c) (t d)) → Carries k a b → Carries k (Stepwise s a) (Stepwise t b)
carry_steps s t step C = carried_steps code opens closes weight s t step C

-- ---- nodes

pub carry_over : {k : ℕ} {a b : Form} (over : List Terminal → List Tree → List Tree) → ((ts : List Terminal) (parts : List Tree) → nesting_of weight parts ≤ nesting_of weight (over ts parts)) → Carries k a b
    → Carries k (Made over a) (Made over b)
carry_over over keeps C = carried_made code opens closes weight over (λ ts parts h. keeps ts parts) C

-- over what leads back nowhere, whatever becomes of it
pub carry_over_same : {k : ℕ} {a : Form} (over : List Terminal → List Tree → List Tree) → Carries k a a → Carries k (Made over a) (Made over a)
carry_over_same {k} over C = carried_same code opens closes weight k (λ ts out h. C.even ts h.parts h.spelled)

pub carry_whole : {k : ℕ} {a b : Form} (node_over : List Terminal → Node) → Carries k a b → Carries k (Made (whole node_over) a) (Made (whole node_over) b)
carry_whole node_over C = carried_whole code opens closes weight node_over C

pub carry_node : {k : ℕ} {a b : Form} (kind : Kind) → Carries k a b → Carries k (As kind a) (As kind b)
carry_node kind C = carry_whole (spanning kind) C

pub carry_named_node : {k : ℕ} {a b : Form} (kind : Kind) (name_over : List Terminal → List ℕ) → Carries k a b → Carries k (Called kind name_over a) (Called kind name_over b)
carry_named_node kind name_over C = carry_whole (called kind name_over) C

-- a node that weighs
pub carry_heavy : {k : ℕ} {a b : Form} (kind : Kind) → weight kind ≡ 1 → Carries k a b → Carries (suc k) (As kind a) (As kind b)
carry_heavy kind heavy C = carried_heavy code opens closes weight (spanning kind) (λ ts. heavy) C

-- ---- rows and items with commas

pub carry_row_node : {k : ℕ} {a b : Form} (kind : Kind) → Carries k a b → Carries k (Made (row (spanning kind)) a) (Made (row (spanning kind)) b)
carry_row_node kind C = carried_row code opens closes weight (spanning kind) C

pub carry_row : {k : ℕ} {a b op op' : Form} (kind : Kind) → Carries k op op' → Carries k a b → Carries k (Row kind op a) (Row kind op' b)
carry_row kind O C = carry_row_node kind (carry_then C (carry_many (carry_then O C)))

pub carry_joined : {k : ℕ} {a b : Form} → Carries k a b → Carries k (Joined a) (Joined b)
carry_joined C = carry_then C (carry_many (carry_behind comma refl refl C))

pub carry_commas : {k : ℕ} {a b : Form} → Carries k a b → Carries k (Commas a) (Commas b)
carry_commas C = carried_separated code opens closes weight comma refl refl C

pub carry_comma_rest : {k : ℕ} {a b : Form} → Carries k a b → Carries k (CommaRest a) (CommaRest b)
carry_comma_rest C = carry_behind comma refl refl (carry_maybe (carry_commas C))

pub carry_tupled : {k : ℕ} {a b c d : Form} (kind : Kind) → Carries k a b → Carries k c d → Carries k (Tupled kind a c) (Tupled kind b d)
carry_tupled kind C D = carry_either C (carry_node kind (carry_then C (carry_comma_rest D)))

-- ---- what brackets hold

pub carry_parentheses : {k : ℕ} {a b : Form} → Carries k a b → Carries (suc k) (InParentheses a) (InParentheses b)
carry_parentheses C = carried_bracketed code opens closes weight left_paren right_paren refl refl refl C

pub carry_brackets : {k : ℕ} {a b : Form} → Carries k a b → Carries (suc k) (InBrackets a) (InBrackets b)
carry_brackets C = carried_bracketed code opens closes weight left_bracket right_bracket refl refl refl C

pub carry_braces : {k : ℕ} {a b : Form} → Carries k a b → Carries (suc k) (InBraces a) (InBraces b)
carry_braces C = carried_bracketed code opens closes weight left_brace right_brace refl refl refl C

pub carry_field : {k : ℕ} {a b : Form} → Carries k a b → Carries (suc k) (Bracketed code field_open field_close a) (Bracketed code field_open field_close b)
carry_field C = carried_bracketed code opens closes weight field_open field_close refl refl refl C
