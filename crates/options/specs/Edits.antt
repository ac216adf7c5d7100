-- Edits of the options: which are allowed, and the last of an option.
use Rattle.std.specs.Prelude.{ℕ, List, Bool, true, false, ◌&&◌, ◌||◌, ◌==◌, Option, None, Some, option_map, codes, find, length, reverse}
use Rattle.std.specs.List.{list_all}
use Rattle.std.specs.Option.{option_or}
use Rattle.std.specs.Str.{bytes_eq}
use Rattle.option_words.specs.declared.option_name.OptionName.{OptionName}
use Rattle.option_words.specs.declared.option_name.Kind.{Kind}
use Rattle.option_words.specs.declared.option_name.Kind.TheVariants.{Flag, MessageNames, YesOrNo, Number, Hundredths, Texts, Path}
use Rattle.option_words.specs.OptionNames.{is_named, kind, long_name, named_option}
use Rattle.option_words.specs.Values.{fits}
use Rattle.options.specs.declared.edits.Edit.{Edit}

-- the edit that gives an option a value
abbrev pub edit_of : OptionName → List ℕ → Edit
edit_of option value = record { name = long_name option; value = value }

abbrev pub is_flag : Kind → Bool
is_flag Flag = true
is_flag MessageNames = false
is_flag YesOrNo = false
is_flag (Number low high) = false
is_flag Hundredths = false
is_flag Texts = false
is_flag Path = false

-- among the words a flag is set by its name alone, in the options file by yes or no
abbrev pub is_flag_value : List ℕ → Bool
is_flag_value value = length value == 0 || bytes_eq value (codes "yes") || bytes_eq value (codes "no")

abbrev pub allows : Kind → List ℕ → Bool
allows kind value = fits kind value || (is_flag kind && is_flag_value value)

abbrev pub is_allowed_for : Option OptionName → List ℕ → Bool
is_allowed_for None value = false
is_allowed_for (Some option) value = allows (kind option) value

-- the edit has the name of an option and a value that it may have
abbrev pub is_allowed : Edit → Bool
is_allowed edit = is_allowed_for (named_option edit.name) edit.value

abbrev pub are_allowed : List Edit → Bool
are_allowed edits = list_all is_allowed edits

abbrev pub is_edit_of : OptionName → Edit → Bool
is_edit_of option edit = is_named edit.name option

-- the value of the last edit of an option
abbrev pub last_value : OptionName → List Edit → Option (List ℕ)
last_value option edits = option_map (λ e. e.value) (find (is_edit_of option) (reverse edits))

-- the value that the line gives, else the one that the file gives
abbrev pub given : OptionName → List Edit → List Edit → Option (List ℕ)
given option file line = option_or (last_value option line) (last_value option file)
