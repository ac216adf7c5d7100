-- unused-import: the imports that bind a name which is never read.
use Rattle.std.specs.Prelude.{ℕ, Bool, false, not, ◌&&◌, ◌||◌, ◌==◌, if◌then◌else◌, List, [], ◌∷◌, ◌++◌, codes, Option, None, Some, unwrap_or}
use Rattle.std.specs.List.{flat_map}
use Rattle.std.specs.Str.{bytes_eq}
use Rattle.lint_values.specs.declared.place.FileId.{FileId}
use Rattle.lint_messages.specs.declared.code.Code.TheVariants.{UnusedImport}
use Rattle.lint_messages.specs.declared.message.Message.{Message}
use Rattle.tree_nodes.specs.Trees.{Tree, kids_at, parent_at}
use Rattle.scope_rules.specs.Kinds.{is_def}
use Rattle.scope_rules.specs.Nodes.{kind_of, first}
use Rattle.scope_rules.specs.Binding.{is_alias}
use Rattle.scope_rules.specs.Marks.{Mark}
use Rattle.scope_rules.specs.Answers.{binders_of}
use Rattle.rule_nodes.specs.Kinds.{is_import_from}
use Rattle.rule_nodes.specs.Nodes.{written, message_at, due}
use Rattle.unused_names.specs.Nodes.{asked_above}
use Rattle.unused_names.specs.Reads.{has_name}
use Rattle.unused_names.specs.Exports.{exported}
use Rattle.unused_names.specs.AnnotationWords.{quoted}

-- a name of a module other than `__init__.py`, or of a function
abbrev pub is_in_reach : Bool → Tree → Mark → Bool
is_in_reach is_package t m = if m.scope == 0 then not is_package else is_def (kind_of t m.scope)

-- a name that stands neither in a list `__all__` nor in a string within an annotation
abbrev pub is_unmentioned : Tree → Mark → Bool
is_unmentioned t m = not (has_name (exported t) m.name || has_name (quoted t) m.name)

-- a statement `from __future__ import ..`
unfoldable pub is_future : Tree → ℕ → Bool
is_future t q = is_import_from (kind_of t q) && bytes_eq (written t q) (codes "__future__")

-- the name behind `as` is the imported name
unfoldable pub is_same_name : Tree → ℕ → Option ℕ → Bool
is_same_name t n None = false
is_same_name t n (Some k) = bytes_eq (written t k) (written t n)

-- an imported name that is reported: not from `__future__`, and not renamed to itself
unfoldable pub is_reported_alias : Tree → ℕ → Bool
is_reported_alias t n = is_alias (kind_of t n) && (not (asked_above (is_future t) (parent_at t n)) && not (is_same_name t n (first (kids_at t n))))

-- `Unused y imported from x`, `Unused y imported from x as z`
unfoldable pub from_text : Tree → ℕ → ℕ → Option ℕ → List ℕ
from_text t n q None = codes "Unused " ++ (written t n ++ (codes " imported from " ++ written t q))
from_text t n q (Some k) = codes "Unused " ++ (written t n ++ (codes " imported from " ++ (written t q ++ (codes " as " ++ written t k))))

-- `Unused import os`, `Unused numpy imported as np`
unfoldable pub import_text : Tree → ℕ → Option ℕ → List ℕ
import_text t n None = codes "Unused import " ++ written t n
import_text t n (Some k) = codes "Unused " ++ (written t n ++ (codes " imported as " ++ written t k))

-- the text of an imported name of the statement q: module names whole and with dots in front, as the statement writes
-- them
unfoldable pub text_in : Tree → ℕ → ℕ → List ℕ
text_in t n q = if is_import_from (kind_of t q) then from_text t n q (first (kids_at t n)) else import_text t n (first (kids_at t n))

-- the statement of an imported name
abbrev pub statement_of : Tree → ℕ → ℕ
statement_of t n = unwrap_or (parent_at t n) n

-- the message of an imported name, at its statement
abbrev pub import_message : FileId → Tree → ℕ → Message
import_message file t n = message_at file t (statement_of t n) UnusedImport (text_in t n (statement_of t n) ∷ [])

-- the messages of these binders
abbrev pub imports_among : FileId → Tree → List ℕ → List Message
imports_among file t ns = flat_map (λ n. due (is_reported_alias t n) (import_message file t n)) ns

-- the messages of a name that is never read, and not exempt
unfoldable pub unused_imports : FileId → Bool → Tree → Mark → List Message
unused_imports file is_package t m = if is_in_reach is_package t m && is_unmentioned t m then imports_among file t (binders_of t m.scope m.name) else []
