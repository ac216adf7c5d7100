-- The pragmas of a file: what they switch on and off and on which lines, the names that they get wrong, and whether the file
-- is skipped.
use Rattle.std.specs.Prelude.{ℕ, ◌==◌, Bool, true, false, not, ◌&&◌, nat_le, if◌then◌else◌, List, filter, fold, map, Option, None, Some}
use Rattle.std.specs.List.{flat_map, list_any}
use Rattle.std.specs.Str.{bytes_eq}
use Rattle.lint_messages.specs.declared.code.Code.{Code}
use Rattle.lint_messages.specs.declared.selection.Selection.{Selection}
use Rattle.lint_messages.specs.declared.selection.Selection.TheVariants.{One, Category, All, Unknown, BadName as bad}
use Rattle.lint_messages.specs.Codes.{category, letters}
use Rattle.lint_messages.specs.Selections.{selection_of}
use Rattle.option_words.specs.Values.{is_message_name, parts_of}
use Rattle.py_token.specs.Tokenized.{Tokenized}
use Rattle.tree_nodes.specs.Trees.{Tree}
use Rattle.pragma_scope.specs.declared.action.Action.{Action}
use Rattle.pragma_scope.specs.declared.action.Verb.{Verb}
use Rattle.pragma_scope.specs.declared.action.Verb.TheVariants.{Disable, Enable, DisableNext}
use Rattle.pragma_scope.specs.declared.block.Block.{Block}
use Rattle.pragma_scope.specs.declared.region.Region.{Region}
use Rattle.pragma_scope.specs.declared.row.BadName.{BadName}
use Rattle.pragma_scope.specs.declared.row.Row.{Row}
use Rattle.pragma_scope.specs.Actions.{all_actions, skips_by, verb_name}
use Rattle.pragma_scope.specs.Blocks.{blocks_of}
use Rattle.pragma_scope.specs.Regions.{region_of}

-- ---- what is switched

-- whether an action switches messages on
abbrev pub is_on : Verb → Bool
is_on Disable = false
is_on Enable = true
is_on DisableNext = false

-- a row for each name of a list
abbrev pub rows_by : Region → Bool → List ℕ → List Row
rows_by region is_on list = map (λ name. record { region = region; is_on = is_on; selection = selection_of name }) (parts_of list)

abbrev pub rows_of_action : Tokenized → List Block → Action → List Row
rows_of_action read blocks action = rows_by (region_of read blocks action.comment action.verb) (is_on action.verb) action.list

-- the rows of actions, in their order
abbrev pub rows_of : Tokenized → List Block → List Action → List Row
rows_of read blocks actions = flat_map (rows_of_action read blocks) actions

-- ---- names that no message can have

abbrev pub bad_name : Action → List ℕ → BadName
bad_name action word = record { line = action.comment.pos.line; action = verb_name action.verb; word = word }

abbrev pub bad_names_of_action : Action → List BadName
bad_names_of_action action = map (bad_name action) (filter (λ name. not (is_message_name name)) (parts_of action.list))

abbrev pub bad_names_of : List Action → List BadName
bad_names_of actions = flat_map bad_names_of_action actions

-- ---- all pragmas of a file

-- a comment of the file holds the action `skip-file`
abbrev pub skips_file : Tokenized → Bool
skips_file read = list_any (skips_by read.text) read.comments

-- the names of a file's pragmas that no message can have, by position
abbrev pub bad_names_in_file : Tokenized → List BadName
bad_names_in_file read = bad_names_of (all_actions read.text read.comments)

pub record PragmaRows : Type 0 where
  pub rows : List Row
  pub skips : Bool
  pub bad_names : List BadName

abbrev pub pragmas_by : Tokenized → List Block → List Action → PragmaRows
pragmas_by read blocks actions = record { rows = rows_of read blocks actions; skips = skips_file read; bad_names = bad_names_of actions }

-- the pragmas of a file, by position
abbrev pub pragmas_of : Tokenized → Tree → PragmaRows
pragmas_of read t = pragmas_by read (blocks_of t) (all_actions read.text read.comments)

-- ---- the state of a code on a line

-- the name is the code's, its category's or `all`
abbrev pub selects : Selection → Code → Bool
selects (One named) code = bytes_eq (letters named) (letters code)
selects (Category letter) code = letter == category code
selects All code = true
selects Unknown code = false
selects bad code = false

-- the row acts on the line and names the code
abbrev pub decides : Code → ℕ → Row → Bool
decides code line row = (nat_le row.region.first line && nat_le line row.region.last) && selects row.selection code

-- what the last row says that acts on the line and names the code
abbrev pub state_of : List Row → Code → ℕ → Option Bool
state_of rows code line = fold (λ state row. if decides code line row then Some row.is_on else state) None rows

-- what the pragmas of a file say of a code on a line
abbrev pub state_in_file : Tokenized → Tree → Code → ℕ → Option Bool
state_in_file read t code line = state_of (pragmas_of read t).rows code line
