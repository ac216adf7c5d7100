-- Which messages are on: all, but for what the edits of `disable` and `enable` say.
use Rattle.std.specs.Prelude.{ℕ, List, [], ◌++◌, Bool, true, false, not, ◌==◌, codes, filter, fold, map, if◌then◌else◌}
use Rattle.std.specs.List.{list_any, flat_map}
use Rattle.std.specs.Str.{bytes_eq}
use Rattle.lint_messages.specs.declared.code.Code.{Code}
use Rattle.lint_messages.specs.declared.selection.Selection.{Selection}
use Rattle.lint_messages.specs.declared.selection.Selection.TheVariants.{One, Category, All, Unknown, BadName}
use Rattle.lint_messages.specs.Codes.{category, letters}
use Rattle.lint_messages.specs.Selections.{selection_of}
use Rattle.option_words.specs.declared.option_name.OptionName.TheVariants.{Disable, Enable}
use Rattle.option_words.specs.Values.{parts_of}
use Rattle.options.specs.declared.edits.Edit.{Edit}
use Rattle.options.specs.declared.switches.Switch.{Switch}
use Rattle.options.specs.Edits.{is_edit_of}

-- the name is the code's, its category's or `all`
abbrev pub selects : Selection → Code → Bool
selects (One named) code = bytes_eq (letters named) (letters code)
selects (Category letter) code = letter == category code
selects All code = true
selects Unknown code = false
selects BadName code = false

-- whether a code is on after these switches: the last one that names it decides
abbrev pub is_on : List Switch → Code → Bool
is_on switches code = fold (λ on switch. if selects switch.selection code then switch.is_on else on) true switches

-- a list of message names, switched on or off
abbrev pub switches_of : Bool → List ℕ → List Switch
switches_of is_on value = map (λ name. record { selection = selection_of name; is_on = is_on }) (parts_of value)

-- what an edit switches
abbrev pub switches_by : Edit → List Switch
switches_by edit =
    if is_edit_of Disable edit then switches_of false edit.value
    else (if is_edit_of Enable edit then switches_of true edit.value else [])

-- the edit's list holds `all`
abbrev pub holds_all : Edit → Bool
holds_all edit = list_any (λ name. bytes_eq name (codes "all")) (parts_of edit.value)

abbrev pub agrees : Bool → Bool → Bool
agrees true found = found
agrees false found = not found

-- the edits in the order in which they act: those whose list holds `all` before the others
abbrev pub acting : List Edit → List Edit
acting edits = filter (λ e. agrees true (holds_all e)) edits ++ filter (λ e. agrees false (holds_all e)) edits

abbrev pub switches_in : List Edit → List Switch
switches_in edits = flat_map switches_by (acting edits)
