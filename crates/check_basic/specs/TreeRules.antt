-- Which messages a tree's nodes have: missing-module-docstring, missing-class-docstring, missing-function-docstring,
-- multiple-imports and unnecessary-pass; and how many statements a tree has.
use Rattle.std.specs.Prelude.{ℕ, Bool, not, ◌&&◌, nat_lt, if◌then◌else◌, List, [], ◌∷◌, ◌++◌, Some, codes, count_by, length}
use Rattle.std.specs.List.{flat_map}
use Rattle.lint_values.specs.declared.place.FileId.{FileId}
use Rattle.lint_messages.specs.declared.code.Code.{Code}
use Rattle.lint_messages.specs.declared.code.Code.TheVariants.{MissingModuleDocstring, MissingClassDocstring, MissingFunctionDocstring, MultipleImports, UnnecessaryPass}
use Rattle.lint_messages.specs.declared.message.Message.{Message}
use Rattle.lint_messages.specs.Order.{in_order}
use Rattle.options.specs.declared.settings.Options.{Options}
use Rattle.flow_rules.specs.FlowRules.{flow_messages}
use Rattle.tree_nodes.specs.Trees.{Tree, kids_at}
use Rattle.py_token.specs.Tokenized.{Tokenized}
use Rattle.scope_rules.specs.Kinds.{is_def, is_class}
use Rattle.scope_rules.specs.Nodes.{kind_of, nodes_of}
use Rattle.rule_nodes.specs.Kinds.{is_counted, is_module}
use Rattle.rule_nodes.specs.Nodes.{written, is_public, message_at, due}
use Rattle.rule_nodes.specs.Outwards.{owner_of}
use Rattle.check_basic.specs.Kinds.{is_import, is_pass}
use Rattle.check_basic.specs.Nodes.{has_docstring, has_statement, block_len, is_open_to, is_setter}
use Rattle.check_basic.specs.LogicalLines.{multiple_statements, unnecessary_semicolons}

-- missing-module-docstring: a module of statements without a docstring, at its first line
abbrev pub lacks_module_docstring : Tree → ℕ → Bool
lacks_module_docstring t n = is_module (kind_of t n) && (has_statement t (kids_at t n) && not (has_docstring t (kids_at t n)))

abbrev pub at_first_line : FileId → ℕ → Code → Message
at_first_line file n code = record { file = file; node = Some (record { 0 = n }); pos = record { line = 1; col = 0 }; code = code; args = [] }

abbrev pub missing_module_docstring : FileId → Tree → ℕ → List Message
missing_module_docstring file t n = due (lacks_module_docstring t n) (at_first_line file n MissingModuleDocstring)

-- a public name, and no docstring
abbrev pub is_undocumented : Tree → ℕ → Bool
is_undocumented t n = is_public (written t n) && not (has_docstring t (kids_at t n))

-- missing-class-docstring: a public class without one
abbrev pub lacks_class_docstring : Tree → ℕ → Bool
lacks_class_docstring t n = is_class (kind_of t n) && is_undocumented t n

abbrev pub missing_class_docstring : FileId → Tree → ℕ → List Message
missing_class_docstring file t n = due (lacks_class_docstring t n) (message_at file t n MissingClassDocstring [])

-- missing-function-docstring: a public function without one, at module level or in a class without bases, and no setter
abbrev pub lacks_function_docstring : Tree → ℕ → Bool
lacks_function_docstring t n =
    is_def (kind_of t n) && (is_undocumented t n && (is_open_to t (owner_of t n) && not (is_setter t (kids_at t n))))

abbrev pub missing_function_docstring : FileId → Tree → ℕ → List Message
missing_function_docstring file t n = due (lacks_function_docstring t n) (message_at file t n MissingFunctionDocstring [])

-- names joined by commas
abbrev pub names_behind : Tree → List ℕ → List ℕ
names_behind t kids = flat_map (λ k. codes ", " ++ written t k) kids

abbrev pub imported_names : Tree → List ℕ → List ℕ
imported_names t [] = []
imported_names t (k ∷ kids) = written t k ++ names_behind t kids

-- several names
abbrev pub are_several : List ℕ → Bool
are_several kids = nat_lt 1 (length kids)

-- multiple-imports: an `import` of several modules
abbrev pub imports_several : Tree → ℕ → Bool
imports_several t n = is_import (kind_of t n) && are_several (kids_at t n)

abbrev pub multiple_imports : FileId → Tree → ℕ → List Message
multiple_imports file t n = due (imports_several t n) (message_at file t n MultipleImports (imported_names t (kids_at t n) ∷ []))

-- unnecessary-pass: each `pass` of a block that has another statement or a docstring
abbrev pub pass_message : FileId → Tree → ℕ → List Message
pass_message file t n = due (is_pass (kind_of t n)) (message_at file t n UnnecessaryPass [])

abbrev pub passes : FileId → Tree → List ℕ → List Message
passes file t kids = flat_map (pass_message file t) kids

abbrev pub unnecessary_passes : FileId → Tree → List ℕ → List Message
unnecessary_passes file t kids = if nat_lt 1 (block_len t kids) then passes file t kids else []

-- what a node has, and the statements of its block
abbrev pub node_messages : FileId → Tree → ℕ → List Message
node_messages file t n =
    missing_module_docstring file t n ++ (missing_class_docstring file t n ++ (missing_function_docstring file t n ++ (multiple_imports file t n ++ unnecessary_passes file t (kids_at t n))))

-- what all nodes have
abbrev pub nodes_messages : FileId → Tree → List ℕ → List Message
nodes_messages file t ns = flat_map (node_messages file t) ns

-- the messages of a tree and its tokens, as they are found
abbrev pub tree_found : Options → FileId → Tokenized → Tree → List Message
tree_found options file read t =
    nodes_messages file t (nodes_of t) ++ (multiple_statements file read t ++ (unnecessary_semicolons file read ++ flow_messages options file t))

-- the messages of a tree and its tokens, in their order
abbrev pub tree_messages : Options → FileId → Tokenized → Tree → List Message
tree_messages options file read t = in_order (tree_found options file read t)

-- how many of these nodes count as statements: simple and compound ones, and the clauses that count as one
abbrev pub count_among : Tree → List ℕ → ℕ
count_among t ns = count_by (λ n. is_counted (kind_of t n)) ns

-- how many statements a tree has
abbrev pub statement_count : Tree → ℕ
statement_count t = count_among t (nodes_of t)
