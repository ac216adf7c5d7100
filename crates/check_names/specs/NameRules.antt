-- The messages on names of a file.
use Rattle.std.specs.Prelude.{Bool, false, List, ◌++◌, Option, None, Some, slice_get}
use Rattle.lint_values.specs.declared.place.FileId.{FileId}
use Rattle.lint_messages.specs.declared.message.Message.{Message}
use Rattle.lint_messages.specs.Order.{in_order}
use Rattle.options.specs.Settings.{Settings}
use Rattle.file_list.specs.declared.entry.Listed.{Listed}
use Rattle.tree_nodes.specs.Trees.{Tree}
use Rattle.unused_names.specs.UnusedRules.{unused_messages}
use Rattle.check_names.specs.Rules.{rule_messages}

-- whether an entry is a package's own file
abbrev pub is_package : Option Listed → Bool
is_package None = false
is_package (Some listed) = listed.is_package

-- whether a file of a reading is one
abbrev pub is_package_file : List Listed → FileId → Bool
is_package_file reading file = is_package (slice_get reading file.0)

-- the messages of all rules on names
abbrev pub all_name_messages : Settings → FileId → Bool → Tree → List Message
all_name_messages settings file is_package t =
    rule_messages file is_package settings.additional_builtins settings.max_locals t ++ unused_messages file is_package t

-- the same in the order of messages
abbrev pub name_messages : Settings → FileId → Bool → Tree → List Message
name_messages settings file is_package t = in_order (all_name_messages settings file is_package t)
