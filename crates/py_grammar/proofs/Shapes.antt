-- A phrase of any depth is one expression or one pattern in shape, and the trees of a line are in shape and fit its kind.
use Rattle.std.proofs.Common.{◌≡◌, ℕ, zero, suc, List, [], ◌∷◌, ◌++◌, inl, inr, refl}
use Rattle.tree_nodes.specs.declared.kind.Kind.{Kind}
use Rattle.tree_nodes.specs.Trees.{Tree, pack}
use Rattle.tree_nodes.specs.Sorts.{statement, decorator as decorator_sort, with_item, annotation, as_name, pattern, AreOf, only, expression, value, any_target}
use Rattle.tree_nodes.specs.Shapes.{Part, Fits, FitsOneOf, one, maybe, many, some, arguments, behind_parameters}
use Rattle.tree_nodes.specs.Shaped.{kinds_of, AreShaped}
use Rattle.py_language.specs.Forms.{FormsOneOf}
use Rattle.py_language.proofs.KindLaws.{row_fits, fits_row}
use Rattle.py_language.proofs.FormLaws.{form_nowhere, form_skipped, form_then, forms_sole, forms_then}
use Rattle.py_grammar.specs.declared.entry.Entry.{Entry}
use Rattle.py_grammar.specs.declared.entry.Entry.TheVariants as e
use Rattle.py_grammar.specs.declared.head.Head.{Head}
use Rattle.py_grammar.specs.declared.head.Head.TheVariants as heads
use Rattle.py_grammar.specs.Terminals.{Terminal, Form, code}
use Rattle.py_grammar.specs.Words as words
use Rattle.py_grammar.specs.Headers.{ForHeader, ExceptHeader, ExceptStarHeader, PlainWith, ParenthesizedWith, FunctionHeader, ClassHeader, MatchHeader, CaseHeader}
use Rattle.py_grammar.specs.Lines.{FormOf, PhraseWithin, LineForm, Row, Fits as RowFits, headed, bare, decorator, simple, alone, with_test, async, Reads, IsLine}
use Rattle.py_grammar.specs.HeaderParts.{sorts_of, parts_of, body_of, IsLineShaped}
use Rattle.py_grammar.proofs.ShapeBasics.{IsA, behind}
use Rattle.py_grammar.proofs.ShapeExpressions as forms
use Rattle.py_grammar.proofs.ShapeOperators as operators
use Rattle.py_grammar.proofs.ShapePatterns as patterns
use Rattle.py_grammar.proofs.ShapeStatements as statements
use Rattle.py_grammar.proofs.ShapeHeaders as headers

-- ---- phrases

abbrev AreKnown : (Entry → Form) → Type 0
AreKnown L = (entry : Entry) → IsA (sorts_of entry) (L entry)

shaped_form : (L : Entry → Form) → AreKnown L → AreKnown (FormOf L)
unfolding FormOf
shaped_form L known e.Test = operators.is_test L known
shaped_form L known e.Or = operators.is_or L known
shaped_form L known e.Not = operators.is_not L known
shaped_form L known e.BitOr = operators.is_bit_or L known
shaped_form L known e.Factor = operators.is_factor L known
shaped_form L known e.Pattern = patterns.is_pattern L known

-- a phrase of any depth
pub shaped_phrase : (depth : ℕ) → AreKnown (PhraseWithin depth)
unfolding PhraseWithin
shaped_phrase zero entry = form_nowhere (one (sorts_of entry))
shaped_phrase (suc depth) entry = shaped_form (PhraseWithin depth) (shaped_phrase depth) entry

-- ---- rows

-- parts and simple statements in shape, of these forms
record AreLineParts (forms : List (List Part)) (parts : List Part) (nodes body : List Tree) : Type 0 where
  nodes_shaped : AreShaped (pack nodes)
  nodes_fit : FitsOneOf forms (kinds_of (pack nodes))
  body_shaped : AreShaped (pack body)
  body_fits : Fits parts (kinds_of (pack body))

-- a row gives such parts and statements
abbrev RowGives : List (List Part) → List Part → Row → Type 1
RowGives forms parts reading = (L : Entry → Form) → AreKnown L → (ts : List Terminal) (nodes body : List Tree) → reading L ts nodes body → AreLineParts forms parts nodes body

-- a header's forms
abbrev HeaderGives : List (List Part) → ((Entry → Form) → Form) → Type 1
HeaderGives forms header = (L : Entry → Form) → AreKnown L → FormsOneOf forms (header L)

no_trees_shaped : (u : List Tree) → u ≡ [] → AreShaped (pack u)
no_trees_shaped u none = rw none tt

no_trees_fit : (u : List Tree) → u ≡ [] → Fits [] (kinds_of (pack u))
no_trees_fit u none = rw none refl

some_are_many : (ks : List Kind) → Fits (some (only statement)) ks → Fits (many (only statement)) ks
some_are_many [] h = absurd h
some_are_many (k ∷ ks) h = row_fits (only statement) (k ∷ ks) (h.0, fits_row (only statement) ks h.1)

headed_gives : (forms : List (List Part)) (header : (Entry → Form) → Form) → HeaderGives forms header → RowGives forms (many (only statement)) (headed header)
headed_gives forms header H L known ts nodes body h =
    let given = H L known in
    let statement = statements.are_statements L known in
    record {
      nodes_shaped = given.shaped h.front nodes h.header_is;
      nodes_fit = given.fits h.front nodes h.header_is;
      body_shaped = elim h.body_is [ inl g ↦ statement.shaped h.back body g | inr g ↦ no_trees_shaped body g.1 ];
      body_fits = elim h.body_is [ inl g ↦ some_are_many (kinds_of (pack body)) (statement.fits h.back body g) | inr g ↦ none_fit body g.1 ];
    }
  where
    none_fit : (u : List Tree) → u ≡ [] → Fits (many (only statement)) (kinds_of (pack u))
    none_fit u none = rw none ([], [], refl, tt, refl)

bare_gives : RowGives (one expression ∷ []) [] (bare MatchHeader)
bare_gives L known ts nodes body h =
    let given = form_then (headers.is_match_part L known) (form_skipped code words.colon) in
    record { nodes_shaped = given.shaped ts nodes h.0; nodes_fit = inl (given.fits ts nodes h.0); body_shaped = no_trees_shaped body h.1; body_fits = no_trees_fit body h.1 }

decorator_gives : RowGives (one (only decorator_sort) ∷ []) [] decorator
decorator_gives L known ts nodes body h =
    let given = headers.is_decorator L known in
    record { nodes_shaped = given.shaped ts nodes h.0; nodes_fit = inl (given.fits ts nodes h.0); body_shaped = no_trees_shaped body h.1; body_fits = no_trees_fit body h.1 }

simple_gives : RowGives ([] ∷ []) (some (only statement)) simple
simple_gives L known ts nodes body h =
    let given = statements.are_statements L known in
    record { nodes_shaped = no_trees_shaped nodes h.1; nodes_fit = inl (no_trees_fit nodes h.1); body_shaped = given.shaped ts body h.0; body_fits = given.fits ts body h.0 }

-- ---- headers

alone_gives : (word : List ℕ) → HeaderGives ([] ∷ []) (alone word)
alone_gives word L known = forms_sole (form_skipped code word)

test_gives : (word : List ℕ) → HeaderGives (one expression ∷ []) (with_test word)
test_gives word L known = forms_sole (behind word (forms.is_named_expression L known))

for_gives : HeaderGives ((one any_target ++ one value) ∷ []) ForHeader
for_gives L known = forms_sole (headers.are_for_parts L known)

async_for_gives : HeaderGives ((one any_target ++ one value) ∷ []) (async ForHeader)
async_for_gives L known = forms_sole (behind words.async_word (headers.are_for_parts L known))

except_gives : HeaderGives ([] ∷ (one expression ++ maybe (only as_name)) ∷ []) ExceptHeader
except_gives L known = headers.are_except_parts L known

except_star_gives : HeaderGives ((one expression ++ maybe (only as_name)) ∷ []) ExceptStarHeader
except_star_gives L known = forms_sole (headers.are_except_star_parts L known)

plain_with_gives : HeaderGives (some (only with_item) ∷ []) PlainWith
plain_with_gives L known = forms_sole (headers.are_plain_items L known)

parenthesized_with_gives : HeaderGives (some (only with_item) ∷ []) ParenthesizedWith
parenthesized_with_gives L known = forms_sole (headers.are_items_in_parentheses L known)

async_with_gives : HeaderGives (some (only with_item) ∷ []) (async PlainWith)
async_with_gives L known = forms_sole (behind words.async_word (headers.are_plain_items L known))

async_parenthesized_gives : HeaderGives (some (only with_item) ∷ []) (async ParenthesizedWith)
async_parenthesized_gives L known = forms_sole (behind words.async_word (headers.are_items_in_parentheses L known))

function_gives : HeaderGives (behind_parameters (maybe (only annotation))) FunctionHeader
function_gives L known = headers.are_function_parts L known

async_function_gives : HeaderGives (behind_parameters (maybe (only annotation))) (async FunctionHeader)
async_function_gives L known = forms_then (form_skipped code words.async_word) (headers.are_function_parts L known)

class_gives : HeaderGives (arguments ∷ []) ClassHeader
class_gives L known = forms_sole (headers.are_class_parts L known)

case_gives : HeaderGives ((one (only pattern) ++ maybe expression) ∷ []) CaseHeader
case_gives L known = forms_sole (headers.are_case_parts L known)

-- ---- lines

-- what a row gives with phrases of some depth
fits_gives : (forms : List (List Part)) (parts : List Part) (reading : Row) → RowGives forms parts reading → (ts : List Terminal) (nodes body : List Tree) → RowFits reading ts nodes body → AreLineParts forms parts nodes body
fits_gives forms parts reading R ts nodes body h = R (PhraseWithin h.0) (shaped_phrase h.0) ts nodes body h.1

header_fits : (forms : List (List Part)) (header : (Entry → Form) → Form) → HeaderGives forms header → (ts : List Terminal) (nodes body : List Tree) → RowFits (headed header) ts nodes body → AreLineParts forms (many (only statement)) nodes body
header_fits forms header H ts nodes body h = fits_gives forms (many (only statement)) (headed header) (headed_gives forms header H) ts nodes body h

-- what a line of each kind gives
reads_gives : (head : Head) (ts : List Terminal) (nodes body : List Tree) → Reads head ts nodes body → AreLineParts (parts_of head) (body_of head) nodes body
unfolding Reads
reads_gives heads.Simple ts nodes body h = fits_gives ([] ∷ []) (some (only statement)) simple simple_gives ts nodes body h.0
reads_gives heads.Decorator ts nodes body h = fits_gives (one (only decorator_sort) ∷ []) [] decorator decorator_gives ts nodes body h
reads_gives heads.If ts nodes body h = header_fits (one expression ∷ []) (with_test words.if_word) (test_gives words.if_word) ts nodes body h
reads_gives heads.Elif ts nodes body h = header_fits (one expression ∷ []) (with_test words.elif_word) (test_gives words.elif_word) ts nodes body h
reads_gives heads.Else ts nodes body h = header_fits ([] ∷ []) (alone words.else_word) (alone_gives words.else_word) ts nodes body h
reads_gives heads.While ts nodes body h = header_fits (one expression ∷ []) (with_test words.while_word) (test_gives words.while_word) ts nodes body h
reads_gives heads.For ts nodes body h = header_fits ((one any_target ++ one value) ∷ []) ForHeader for_gives ts nodes body h
reads_gives heads.AsyncFor ts nodes body h = header_fits ((one any_target ++ one value) ∷ []) (async ForHeader) async_for_gives ts nodes body h
reads_gives heads.Try ts nodes body h = header_fits ([] ∷ []) (alone words.try_word) (alone_gives words.try_word) ts nodes body h
reads_gives heads.Except ts nodes body h = header_fits ([] ∷ (one expression ++ maybe (only as_name)) ∷ []) ExceptHeader except_gives ts nodes body h
reads_gives heads.ExceptStar ts nodes body h = header_fits ((one expression ++ maybe (only as_name)) ∷ []) ExceptStarHeader except_star_gives ts nodes body h
reads_gives heads.Finally ts nodes body h = header_fits ([] ∷ []) (alone words.finally_word) (alone_gives words.finally_word) ts nodes body h
reads_gives heads.With ts nodes body h =
    elim h [
      | inl g ↦ header_fits (some (only with_item) ∷ []) ParenthesizedWith parenthesized_with_gives ts nodes body g
      | inr g ↦ header_fits (some (only with_item) ∷ []) PlainWith plain_with_gives ts nodes body g.0
    ]
reads_gives heads.AsyncWith ts nodes body h =
    elim h [
      | inl g ↦ header_fits (some (only with_item) ∷ []) (async ParenthesizedWith) async_parenthesized_gives ts nodes body g
      | inr g ↦ header_fits (some (only with_item) ∷ []) (async PlainWith) async_with_gives ts nodes body g.0
    ]
reads_gives heads.FunctionDef ts nodes body h = header_fits (behind_parameters (maybe (only annotation))) FunctionHeader function_gives ts nodes body h
reads_gives heads.AsyncFunctionDef ts nodes body h = header_fits (behind_parameters (maybe (only annotation))) (async FunctionHeader) async_function_gives ts nodes body h
reads_gives heads.ClassDef ts nodes body h = header_fits (arguments ∷ []) ClassHeader class_gives ts nodes body h
reads_gives heads.Match ts nodes body h = fits_gives (one expression ∷ []) [] (bare MatchHeader) bare_gives ts nodes body h
reads_gives heads.Case ts nodes body h = header_fits ((one (only pattern) ++ maybe expression) ∷ []) CaseHeader case_gives ts nodes body h

-- the trees of a line are in shape, and fit its kind
pub shaped_line : (ts : List Terminal) (line : LineForm) → IsLine ts line → IsLineShaped line
shaped_line ts line h =
    let given = reads_gives line.head ts line.nodes line.body h in
    record { nodes_shaped = given.nodes_shaped; nodes_fit = given.nodes_fit; body_shaped = given.body_shaped; body_fits = given.body_fits }

-- what stands behind a line's `:`, or alone on it, is statements
pub body_statements : (head : Head) (ks : List Kind) → Fits (body_of head) ks → AreOf (only statement) ks
body_statements heads.Simple ks h = fits_row (only statement) ks (some_are_many ks h)
body_statements heads.Decorator ks h = rw h tt
body_statements heads.Match ks h = rw h tt
body_statements head ks h = fits_row (only statement) ks h
