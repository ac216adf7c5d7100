-- The order of messages is total, and tells all messages apart.
use Rattle.std.proofs.Common.{◌≡◌, ℕ, ◌<◌, List, map, [], ◌∷◌, Option, None, Some, refl, sym, ap, subst, ◌∙◌, arith, rules, find}
use Rattle.std.specs.Str.{bytes_eq}
use Rattle.std.specs.Cmp.{IsTotalOrder, ranks}
use Rattle.std.specs.Cmp.Rules.{comparing}
use Rattle.std.specs.Cmp.Lexicographic.{slice_cmp}
use Rattle.std.specs.declared.cmp.Ordering.{Ordering}
use Rattle.std.specs.declared.cmp.Ordering.TheVariants.{Less, Equal, Greater}
use Rattle.std.specs.Ordering.{nat_cmp, ordering_then, MatchOrdering}
use Rattle.lint_values.specs.declared.place.NodeId.{NodeId}
use Rattle.lint_messages.specs.declared.code.Code.{Code}
use Rattle.lint_messages.specs.declared.code.Code.TheVariants.{MissingModuleDocstring, MissingClassDocstring, MissingFunctionDocstring, LineTooLong, TooManyLines, TrailingWhitespace, MissingFinalNewline, MultipleStatements, MultipleImports, SyntaxError, FunctionRedefined, NotInLoop, ReturnOutsideFunction, InconsistentMro, DuplicateBases, UndefinedVariable, NoNameInModule, NoMember, NoValueForParameter, TooManyFunctionArgs, UnexpectedKeywordArg, RedundantKeywordArg, Fatal, ParseError, TooManyAncestors, TooManyInstanceAttributes, TooFewPublicMethods, TooManyPublicMethods, TooManyReturnStatements, TooManyBranches, TooManyArguments, TooManyLocals, TooManyStatements, UnknownOptionValue, Unreachable, DangerousDefaultValue, UnnecessaryPass, AttributeDefinedOutsideInit, SuperInitNotCalled, UnnecessarySemicolon, WildcardImport, GlobalStatement, UnusedImport, UnusedVariable, UnusedArgument, RedefinedBuiltin, BareExcept}
use Rattle.lint_messages.specs.declared.code.TheConstants.{ALL_CODES}
use Rattle.lint_messages.specs.declared.message.Message.{Message}
use Rattle.lint_messages.specs.Codes.{letters}
use Rattle.lint_messages.specs.Templates.{text_of}
use Rattle.std.specs.List.Sorted.{IsPermutation, IsSorted}
use Rattle.std.proofs.lemmas.List.Sorted.{IsPermutation-map}
use Rattle.lint_messages.proofs.Sorted.{sorted_is, is_sorted}
use Rattle.lint_messages.specs.Order.{message_cmp, in_order, place_cmp, content_cmp, text_cmp, node_rank}

pub message_cmp_total : IsTotalOrder message_cmp
message_cmp_total = search (comparing, rules) depth 12

-- what is tied by one order after another is tied by both
first_tied : (r s : Ordering) → ordering_then r s ≡ Equal → r ≡ Equal
first_tied Less s e = e
first_tied Equal s e = refl
first_tied Greater s e = e

second_tied : (r s : Ordering) → ordering_then r s ≡ Equal → s ≡ Equal
second_tied Less s e = cc
second_tied Equal s e = e
second_tied Greater s e = cc

numbers_tied : (x y : ℕ) → nat_cmp x y ≡ Equal → x ≡ y
numbers_tied x y e = subst (λ r. MatchOrdering r (x < y) (x ≡ y) (y < x)) e (ranks x y)

lists_tied : {X : Type 0} (R : X → X → Ordering) (tied : (x y : X) → R x y ≡ Equal → x ≡ y) (xs ys : List X) → slice_cmp R xs ys ≡ Equal → xs ≡ ys
lists_tied R tied [] [] e = refl
lists_tied R tied [] (y ∷ ys) e = cc
lists_tied R tied (x ∷ xs) [] e = cc
lists_tied R tied (x ∷ xs) (y ∷ ys) e =
    let first : x ≡ y = tied x y (first_tied (R x y) (slice_cmp R xs ys) e) in
    let rest : xs ≡ ys = lists_tied R tied xs ys (second_tied (R x y) (slice_cmp R xs ys) e) in
    cc

texts_tied : (x y : List ℕ) → text_cmp x y ≡ Equal → x ≡ y
texts_tied = lists_tied nat_cmp numbers_tied

-- the code of these letters
abbrev code_of : List ℕ → Option Code
code_of text = find (λ code. bytes_eq (letters code) text) ALL_CODES

code_of_letters : (code : Code) → code_of (letters code) ≡ Some code
code_of_letters MissingModuleDocstring = refl
code_of_letters MissingClassDocstring = refl
code_of_letters MissingFunctionDocstring = refl
code_of_letters LineTooLong = refl
code_of_letters TooManyLines = refl
code_of_letters TrailingWhitespace = refl
code_of_letters MissingFinalNewline = refl
code_of_letters MultipleStatements = refl
code_of_letters MultipleImports = refl
code_of_letters SyntaxError = refl
code_of_letters FunctionRedefined = refl
code_of_letters NotInLoop = refl
code_of_letters ReturnOutsideFunction = refl
code_of_letters InconsistentMro = refl
code_of_letters DuplicateBases = refl
code_of_letters UndefinedVariable = refl
code_of_letters NoNameInModule = refl
code_of_letters NoMember = refl
code_of_letters NoValueForParameter = refl
code_of_letters TooManyFunctionArgs = refl
code_of_letters UnexpectedKeywordArg = refl
code_of_letters RedundantKeywordArg = refl
code_of_letters Fatal = refl
code_of_letters ParseError = refl
code_of_letters TooManyAncestors = refl
code_of_letters TooManyInstanceAttributes = refl
code_of_letters TooFewPublicMethods = refl
code_of_letters TooManyPublicMethods = refl
code_of_letters TooManyReturnStatements = refl
code_of_letters TooManyBranches = refl
code_of_letters TooManyArguments = refl
code_of_letters TooManyLocals = refl
code_of_letters TooManyStatements = refl
code_of_letters UnknownOptionValue = refl
code_of_letters Unreachable = refl
code_of_letters DangerousDefaultValue = refl
code_of_letters UnnecessaryPass = refl
code_of_letters AttributeDefinedOutsideInit = refl
code_of_letters SuperInitNotCalled = refl
code_of_letters UnnecessarySemicolon = refl
code_of_letters WildcardImport = refl
code_of_letters GlobalStatement = refl
code_of_letters UnusedImport = refl
code_of_letters UnusedVariable = refl
code_of_letters UnusedArgument = refl
code_of_letters RedefinedBuiltin = refl
code_of_letters BareExcept = refl

codes_tied : (a b : Code) → letters a ≡ letters b → a ≡ b
codes_tied a b e =
    let same : Some a ≡ Some b = sym (code_of_letters a) ∙ ap code_of e ∙ code_of_letters b in
    cc

nodes_tied : (a b : Option NodeId) → node_rank a ≡ node_rank b → a ≡ b
nodes_tied None None e = refl
nodes_tied None (Some b) e = absurd (omega arith)
nodes_tied (Some a) None e = absurd (omega arith)
nodes_tied (Some a) (Some b) e =
    let number : a.0 ≡ b.0 = omega arith in
    let made : ℕ → Option NodeId = λ n. Some (record { 0 = n }) in
    ap made number

abbrev made : ℕ → Option NodeId → ℕ → ℕ → Code → List (List ℕ) → Message
made file node line col code args = record { file = record { 0 = file }; node = node; pos = record { line = line; col = col }; code = code; args = args }

fields_same : (f g : ℕ) (m n : Option NodeId) (l k c d : ℕ) (a b : Code) (x y : List (List ℕ)) → f ≡ g → m ≡ n → l ≡ k → c ≡ d → a ≡ b → x ≡ y → made f m l c a x ≡ made g n k d b y
fields_same f g m n l k c d a b x y p q r s t u = cc

pub messages_tied : (a b : Message) → message_cmp a b ≡ Equal → a ≡ b
messages_tied a b e =
    let place = first_tied (place_cmp a b) (content_cmp a b) e in
    let rest = second_tied (place_cmp a b) (content_cmp a b) e in
    let lines = second_tied (nat_cmp a.file.0 b.file.0) _ place in
    let texts = second_tied (text_cmp (letters a.code) (letters b.code)) _ rest in
    let nodes = second_tied (text_cmp (text_of a) (text_of b)) _ texts in
    fields_same a.file.0 b.file.0 a.node b.node a.pos.line b.pos.line a.pos.col b.pos.col a.code b.code a.args b.args
    (numbers_tied a.file.0 b.file.0 (first_tied (nat_cmp a.file.0 b.file.0) _ place))
    (nodes_tied a.node b.node (numbers_tied (node_rank a.node) (node_rank b.node) (first_tied (nat_cmp (node_rank a.node) (node_rank b.node)) _ nodes)))
    (numbers_tied a.pos.line b.pos.line (first_tied (nat_cmp a.pos.line b.pos.line) _ lines))
    (numbers_tied a.pos.col b.pos.col (second_tied (nat_cmp a.pos.line b.pos.line) _ lines))
    (codes_tied a.code b.code (texts_tied (letters a.code) (letters b.code) (first_tied (text_cmp (letters a.code) (letters b.code)) _ rest)))
    (lists_tied text_cmp texts_tied a.args b.args (second_tied (nat_cmp (node_rank a.node) (node_rank b.node)) _ nodes))

-- what a sort of ranked messages leaves is the messages in their order
pub sorted_messages : {P : Type 0} (f : P → Message) (ps qs : List P) (ms ns : List Message) → map f ps ≡ ms → ns ≡ map f qs → IsPermutation ps qs → IsSorted (λ p q. message_cmp (f p) (f q)) qs → ns ≡ in_order ms
sorted_messages f ps qs ms ns from is moved up = is ∙ sorted_is message_cmp message_cmp_total messages_tied f ps qs moved up ∙ ap in_order from

pub moved_messages : {P : Type 0} (f : P → Message) (ps qs : List P) (ms ns : List Message) → map f ps ≡ ms → ns ≡ map f qs → IsPermutation ps qs → IsPermutation ms ns
moved_messages f ps qs ms ns from is moved =
    subst (λ xs. IsPermutation xs ns) from (subst (IsPermutation (map f ps)) (sym is) (IsPermutation-map f ps qs moved))

pub rising_messages : {P : Type 0} (f : P → Message) (ps qs : List P) (ms ns : List Message) → map f ps ≡ ms → ns ≡ map f qs → IsPermutation ps qs → IsSorted (λ p q. message_cmp (f p) (f q)) qs → IsSorted message_cmp ns
rising_messages f ps qs ms ns from is moved up =
    subst (IsSorted message_cmp) (sym (sorted_messages f ps qs ms ns from is moved up)) (is_sorted message_cmp message_cmp_total messages_tied ms)
