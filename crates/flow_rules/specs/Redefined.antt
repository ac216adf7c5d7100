-- function-redefined: a function or class whose name another one of its kind has before it in the same block.
use Rattle.std.specs.Prelude.{ℕ, Bool, not, ◌&&◌, if◌then◌else◌, List, [], ◌∷◌, ◌++◌, Option, Some, None, codes, find}
use Rattle.std.specs.Fmt.{decimal}
use Rattle.std.specs.Str.{bytes_eq}
use Rattle.lint_values.specs.declared.place.FileId.{FileId}
use Rattle.lint_messages.specs.declared.message.Message.{Message}
use Rattle.tree_nodes.specs.declared.kind.Kind.{Kind}
use Rattle.tree_nodes.specs.Trees.{Tree, node_at, kids_at}
use Rattle.scope_rules.specs.Kinds.{is_def, is_class}
use Rattle.scope_rules.specs.Nodes.{Name, kind_of}
use Rattle.flow_rules.specs.declared.rule.Rule.TheVariants.{FunctionRedefined}
use Rattle.flow_rules.specs.declared.definition.Definition.{Definition}
use Rattle.flow_rules.specs.declared.definition.Definition.TheVariants as definitions
use Rattle.rule_nodes.specs.Nodes.{written, is_public}
use Rattle.flow_rules.specs.Nodes.{message_of, block}
use Rattle.rule_nodes.specs.Outwards.{owner_of}
use Rattle.rule_nodes.specs.Parts.{has_decorator}
use Rattle.flow_rules.specs.Outwards.{is_class_there}

-- functions and classes are told apart; `async def` and `def` are not
abbrev pub is_of : Definition → Kind → Bool
is_of definitions.Function kind = is_def kind
is_of definitions.Class kind = is_class kind

-- what takes part: it has a public name, and no decorator that may keep what was there before
abbrev pub is_plain : Definition → Tree → ℕ → Bool
is_plain sort t n = is_of sort (kind_of t n) && (is_public (written t n) && not (has_decorator t (kids_at t n)))

-- it defines this name
abbrev pub defines : Definition → Tree → Name → ℕ → Bool
defines sort t name n = is_plain sort t n && bytes_eq (written t n) name

-- the last of some statements, of which the last stands first, that defines this name
abbrev pub last_of : Definition → Tree → Name → List ℕ → Option ℕ
last_of sort t name before = find (defines sort t name) before

-- a function of a class is a method
abbrev pub function_word : Bool → Name
function_word is_method = if is_method then codes "method" else codes "function"

-- what the message calls it
abbrev pub word_of : Definition → Tree → ℕ → Name
word_of definitions.Function t n = function_word (is_class_there t (owner_of t n))
word_of definitions.Class t n = codes "class"

-- the line of a node
abbrev pub line_at : Tree → ℕ → ℕ
line_at t n = (node_at t n).pos.line

-- the message, where another one stands at a line before it
abbrev pub redefined_by : Definition → FileId → Tree → ℕ → Option ℕ → List Message
redefined_by sort file t n None = []
redefined_by sort file t n (Some line) = message_of file t n FunctionRedefined (word_of sort t n ∷ decimal line ∷ []) ∷ []

-- the line of a node, if there is one
abbrev pub line_of : Tree → Option ℕ → Option ℕ
line_of t None = None
line_of t (Some m) = Some (line_at t m)

-- a statement, and those before it in its block, of which the last stands first
abbrev pub redefined_at : Definition → FileId → Tree → List ℕ → ℕ → List Message
redefined_at sort file t before n = if is_plain sort t n then redefined_by sort file t n (line_of t (last_of sort t (written t n) before)) else []

-- statements of a block behind others
abbrev pub redefined_behind : Definition → FileId → Tree → List ℕ → List ℕ → List Message
redefined_behind sort file t before [] = []
redefined_behind sort file t before (s ∷ ss) = redefined_at sort file t before s ++ redefined_behind sort file t (s ∷ before) ss

-- function-redefined, in the block of a node: its functions, and then its classes
abbrev pub function_redefined : FileId → Tree → ℕ → List Message
function_redefined file t n = redefined_behind definitions.Function file t [] (block t n) ++ redefined_behind definitions.Class file t [] (block t n)
