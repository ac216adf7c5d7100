-- Which values an option takes, and what they say.
use Rattle.std.specs.Prelude.{ℕ, List, Bool, true, false, not, ◌&&◌, ◌||◌, ◌==◌, ◌+◌, ◌*◌, ◌-◌, nat_le, length, fold, codes, take, drop, map, filter, if◌then◌else◌}
use Rattle.std.specs.List.{list_all, prefix_len, suffix_len, before_first, after_first, slice_split}
use Rattle.std.specs.Str.{bytes_eq}
use Rattle.lint_messages.specs.declared.selection.Selection.{Selection}
use Rattle.lint_messages.specs.declared.selection.Selection.TheVariants.{One, Category, All, Unknown, BadName}
use Rattle.lint_messages.specs.Selections.{selection_of}
use Rattle.option_words.specs.declared.option_name.Kind.{Kind}
use Rattle.option_words.specs.declared.option_name.Kind.TheVariants.{Flag, MessageNames, YesOrNo, Number, Hundredths, Texts, Path}

abbrev pub is_yes : List ℕ → Bool
is_yes value = bytes_eq value (codes "y") || bytes_eq value (codes "yes") || bytes_eq value (codes "true")

abbrev pub is_no : List ℕ → Bool
is_no value = bytes_eq value (codes "n") || bytes_eq value (codes "no") || bytes_eq value (codes "false")

abbrev pub is_digit : ℕ → Bool
is_digit c = nat_le 48 c && nat_le c 57

-- one to nine decimal digits
abbrev pub are_digits : List ℕ → Bool
are_digits value = nat_le 1 (length value) && nat_le (length value) 9 && list_all is_digit value

-- the number that decimal digits write
abbrev pub number_of : List ℕ → ℕ
number_of digits = fold (λ n c. 10 * n + (c - 48)) 0 digits

-- a whole number from the first to the second
abbrev pub is_within : ℕ → ℕ → List ℕ → Bool
is_within low high value = are_digits value && nat_le low (number_of value) && nat_le (number_of value) high

abbrev pub is_dot : ℕ → Bool
is_dot c = c == 46

-- one or two digits behind the dot
abbrev pub are_decimals : List ℕ → Bool
are_decimals digits = nat_le 1 (length digits) && nat_le (length digits) 2 && list_all is_digit digits

-- hundredths: one digit behind the dot counts tenths
abbrev pub hundredths_by : ℕ → List ℕ → ℕ
hundredths_by whole decimals = 100 * whole + (if length decimals == 1 then 10 * number_of decimals else number_of decimals)

-- what stands before the dot, or all where there is none
abbrev pub whole_of : List ℕ → List ℕ
whole_of value = before_first is_dot value

-- what stands behind the dot, or nothing where there is none
abbrev pub decimals_of : List ℕ → List ℕ
decimals_of value = after_first is_dot value

-- the hundredths of a number with at most two decimals
abbrev pub hundredths_of : List ℕ → ℕ
hundredths_of value = hundredths_by (number_of (whole_of value)) (decimals_of value)

-- digits, and where a dot follows, one or two digits behind it
abbrev pub has_decimal_form : List ℕ → Bool
has_decimal_form value = are_digits (whole_of value) && (length (whole_of value) == length value || are_decimals (decimals_of value))

-- a number from 0 to 10 of at most two decimals
abbrev pub is_up_to_ten : List ℕ → Bool
is_up_to_ten value = has_decimal_form value && nat_le (hundredths_of value) 1000

-- a blank, a tab or a line end
abbrev pub is_blank : ℕ → Bool
is_blank c = c == 32 || c == 9 || c == 10 || c == 13

abbrev pub without_first_blanks : List ℕ → List ℕ
without_first_blanks text = drop (prefix_len is_blank text) text

abbrev pub without_last_blanks : List ℕ → List ℕ
without_last_blanks text = take (length text - suffix_len is_blank text) text

-- without blanks and line ends at both ends
abbrev pub trimmed : List ℕ → List ℕ
trimmed text = without_last_blanks (without_first_blanks text)

abbrev pub is_comma : ℕ → Bool
is_comma c = c == 44

abbrev pub is_filled : List ℕ → Bool
is_filled part = not (length part == 0)

-- the parts of a list: it is cut at commas, each part is trimmed, and empty parts are dropped
abbrev pub parts_of : List ℕ → List (List ℕ)
parts_of value = filter is_filled (map trimmed (slice_split is_comma value))

abbrev pub is_bad_name : Selection → Bool
is_bad_name (One code) = false
is_bad_name (Category letter) = false
is_bad_name All = false
is_bad_name Unknown = false
is_bad_name BadName = true

-- a message name, a category's letter or `all`
abbrev pub is_message_name : List ℕ → Bool
is_message_name name = not (is_bad_name (selection_of name))

-- whether a word may be the value of such an option: a flag takes none
abbrev pub fits : Kind → List ℕ → Bool
fits Flag value = false
fits MessageNames value = list_all is_message_name (parts_of value)
fits YesOrNo value = is_yes value || is_no value
fits (Number low high) value = is_within low high value
fits Hundredths value = is_up_to_ten value
fits Texts value = true
fits Path value = true
