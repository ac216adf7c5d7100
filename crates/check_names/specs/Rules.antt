-- The messages of the rules on undefined names, wildcards, `global`, builtin names and local names.
use Rattle.std.specs.Prelude.{ℕ, Bool, List, ◌++◌}
use Rattle.lint_values.specs.declared.place.FileId.{FileId}
use Rattle.lint_messages.specs.declared.message.Message.{Message}
use Rattle.tree_nodes.specs.Trees.{Tree}
use Rattle.scope_rules.specs.Nodes.{Name}
use Rattle.check_names.specs.Undefined.{undefined_variables}
use Rattle.check_names.specs.Wildcards.{wildcard_imports}
use Rattle.check_names.specs.Globals.{global_statements}
use Rattle.check_names.specs.Redefined.{redefined_builtins}
use Rattle.check_names.specs.Locals.{too_many_locals}

-- rule after rule, each in source order
abbrev pub rule_messages : FileId → Bool → List Name → ℕ → Tree → List Message
rule_messages file is_package additional most t =
    undefined_variables file additional t ++ (wildcard_imports file is_package t ++ (global_statements file t ++ (redefined_builtins file t ++ too_many_locals file most t)))
