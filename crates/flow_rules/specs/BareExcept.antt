-- bare-except: an `except` that names no type and does not raise at its top.
use Rattle.std.specs.Prelude.{ℕ, Bool, not, ◌&&◌, List, []}
use Rattle.std.specs.List.{list_all, list_any}
use Rattle.lint_values.specs.declared.place.FileId.{FileId}
use Rattle.lint_messages.specs.declared.message.Message.{Message}
use Rattle.tree_nodes.specs.Trees.{Tree, kids_at}
use Rattle.scope_rules.specs.Nodes.{kind_of}
use Rattle.flow_rules.specs.declared.rule.Rule.TheVariants.{BareExcept}
use Rattle.rule_nodes.specs.Kinds.{is_statement}
use Rattle.flow_rules.specs.Kinds.{is_handler, is_raise}
use Rattle.rule_nodes.specs.Nodes.{due}
use Rattle.flow_rules.specs.Nodes.{message_of}

-- nothing but statements: no type stands before them
abbrev pub are_statements : Tree → List ℕ → Bool
are_statements t kids = list_all (λ k. is_statement (kind_of t k)) kids

-- one of these nodes is `raise`
abbrev pub has_raise : Tree → List ℕ → Bool
has_raise t kids = list_any (λ k. is_raise (kind_of t k)) kids

-- it takes every exception, and hands none on
abbrev pub swallows_all : Tree → List ℕ → Bool
swallows_all t kids = are_statements t kids && not (has_raise t kids)

-- bare-except
abbrev pub bare_except : FileId → Tree → ℕ → List Message
bare_except file t n = due (is_handler (kind_of t n) && swallows_all t (kids_at t n)) (message_of file t n BareExcept [])
