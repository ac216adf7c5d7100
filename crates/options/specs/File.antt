-- What an options file says: the keys of the table `tool.pylint` and of the tables directly below it, as edits.
use Rattle.std.specs.Prelude.{ℕ, ℤ, List, [], ◌∷◌, ◌++◌, Bool, not, ◌&&◌, ◌==◌, Option, None, Some, option_map, option_and_then, Result, Ok, Err, codes, map, if◌then◌else◌}
use Rattle.std.specs.Fmt.{signed_decimal}
use Rattle.std.specs.List.{flat_map}
use Rattle.std.specs.Option.{is_some, option_or}
use Rattle.std.specs.Str.{is_utf8}
use Rattle.toml.specs.Data.{Data, Items, no_items, item, Members, no_members, member, as_array, as_bool, as_integer, as_str, as_table, get_member}
use Rattle.toml.specs.Parse.{parse_document}
use Rattle.option_words.specs.declared.option_name.OptionName.{OptionName}
use Rattle.option_words.specs.declared.option_name.OptionName.TheVariants.{Disable, Enable, Jobs, Score, Ignore, Recursive, FailUnder, FailOn, ExitZero, IgnoredClasses, AdditionalBuiltins, LimitInferenceResults, MaxLineLength, MaxModuleLines, MaxArgs, MaxLocals, MaxReturns, MaxBranches, MaxStatements, MaxAttributes, MaxPublicMethods, MinPublicMethods, MaxParents}
use Rattle.option_words.specs.declared.option_name.Kind.{Kind}
use Rattle.option_words.specs.declared.option_name.Kind.TheVariants.{Flag, MessageNames, YesOrNo, Number, Hundredths, Texts, Path}
use Rattle.option_words.specs.OptionNames.{is_named, kind, long_name}
use Rattle.options.specs.declared.edits.Edit.{Edit}
use Rattle.options.specs.declared.usage.UsageFault.{UsageFault}
use Rattle.options.specs.declared.usage.UsageFault.TheVariants.{BadToml, BadValue}
use Rattle.options.specs.Edits.{allows, edit_of}

abbrev pub dash : ℕ → ℕ
dash c = if c == 95 then 45 else c

-- a key with `-` for each `_`
abbrev pub dashed : List ℕ → List ℕ
dashed key = map dash key

-- a key that names the option. A table is no value of a key.
abbrev pub is_key : OptionName → List ℕ → Data → Bool
is_key option key value = is_named (dashed key) option && not (is_some (as_table value))

-- the values of an option in a table, in the order of the keys as written
abbrev pub values_in : OptionName → Members → List Data
values_in option no_members = []
values_in option (member key value members) = if is_key option key value then value ∷ values_in option members else values_in option members

abbrev pub onto : Option Members → List Members → List Members
onto None tables = tables
onto (Some table) tables = table ∷ tables

-- the tables directly below a table, in the order of their names
abbrev pub tables_in : Members → List Members
tables_in no_members = []
tables_in (member key value members) = onto (as_table value) (tables_in members)

abbrev pub Key : Type 0
Key = OptionName × Data

-- the keys of an option in a table, each with its value
abbrev pub keys_in : OptionName → Members → List Key
keys_in option table = map (λ value. (option, value)) (values_in option table)

-- the keys of an option in the tables directly below a table
abbrev pub keys_below : OptionName → Members → List Key
keys_below option table = flat_map (keys_in option) (tables_in table)

-- the keys of an option: first those in the table itself
abbrev pub keys_of_option : Members → OptionName → List Key
keys_of_option table option = keys_in option table ++ keys_below option table

-- the options that a file may set, in the ascending order of their names
abbrev pub file_options : List OptionName
file_options =
    AdditionalBuiltins ∷ Disable ∷ Enable ∷ ExitZero ∷ FailOn ∷ FailUnder ∷ Ignore ∷ IgnoredClasses ∷ Jobs
    ∷ LimitInferenceResults ∷ MaxArgs ∷ MaxAttributes ∷ MaxBranches ∷ MaxLineLength ∷ MaxLocals ∷ MaxModuleLines
    ∷ MaxParents ∷ MaxPublicMethods ∷ MaxReturns ∷ MaxStatements ∷ MinPublicMethods ∷ Recursive ∷ Score ∷ []

-- all keys in the order in which they are read
abbrev pub keys_of : Members → List Key
keys_of table = flat_map (keys_of_option table) file_options

abbrev pub table_at : List ℕ → Members → Option Members
table_at name members = option_and_then as_table (get_member name members)

-- the table `tool.pylint`
abbrev pub pylint_table : Members → Option Members
pylint_table members = option_and_then (table_at (codes "pylint")) (table_at (codes "tool") members)

-- a value as it would stand in a word

abbrev pub boolean_text : Option Bool → Option (List ℕ)
boolean_text None = None
boolean_text (Some value) = Some (if value then codes "yes" else codes "no")

abbrev pub number_text : Option ℤ → Option (List ℕ)
number_text None = None
number_text (Some number) = Some (signed_decimal number)

-- the texts of an array, where it has nothing else
abbrev pub texts_in : Items → Option (List (List ℕ))
texts_in no_items = Some []
texts_in (item value items) = option_and_then (λ text. option_map (λ texts. text ∷ texts) (texts_in items)) (as_str value)

-- texts with commas between them
abbrev pub joined : List (List ℕ) → List ℕ
joined [] = []
joined (text ∷ texts) = text ++ flat_map (λ t. 44 ∷ t) texts

abbrev pub list_text : Option Items → Option (List ℕ)
list_text None = None
list_text (Some items) = option_map joined (texts_in items)

-- the values that each kind takes: a boolean for a flag, and else a text, or what is said here
abbrev pub text_of : Kind → Data → Option (List ℕ)
text_of Flag value = boolean_text (as_bool value)
text_of MessageNames value = option_or (as_str value) (list_text (as_array value))
text_of YesOrNo value = option_or (as_str value) (boolean_text (as_bool value))
text_of (Number low high) value = option_or (as_str value) (number_text (as_integer value))
text_of Hundredths value = option_or (as_str value) (number_text (as_integer value))
text_of Texts value = option_or (as_str value) (list_text (as_array value))
text_of Path value = as_str value

abbrev pub EditsRead : Type 0
EditsRead = Result (List Edit) UsageFault

-- an edit before what the keys behind it give
abbrev pub before : Edit → EditsRead → EditsRead
before edit (Ok edits) = Ok (edit ∷ edits)
before edit (Err fault) = Err fault

-- a key before what the keys behind it give: its option must take its value
abbrev pub with_text : OptionName → Option (List ℕ) → EditsRead → EditsRead
with_text option None rest = Err (BadValue (long_name option))
with_text option (Some text) rest = if allows (kind option) text then before (edit_of option text) rest else Err (BadValue (long_name option))

abbrev pub edits_of : List Key → EditsRead
edits_of [] = Ok []
edits_of (key ∷ keys) = with_text key.0 (text_of (kind key.0) key.1) (edits_of keys)

abbrev pub edits_in : Option Members → EditsRead
edits_in None = Ok []
edits_in (Some table) = edits_of (keys_of table)

abbrev pub edits_by : List ℕ → Option Members → EditsRead
edits_by path None = Err (BadToml path)
edits_by path (Some document) = edits_in (pylint_table document)

-- the edits of an options file at a path, or the first fault
abbrev pub file_edits : List ℕ → List ℕ → EditsRead
file_edits path bytes = edits_by path (if is_utf8 bytes then parse_document bytes else None)
