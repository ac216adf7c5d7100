-- The questions to a device of files, and the entries of a reading.
use Rattle.std.specs.Prelude.{ℕ, ◌<◌, ◌^◌, List, length, Bool, true, false}
use Rattle.std.specs.Str.{bytes_eq}
use Rattle.lint_outside.specs.declared.outside.Question.{Question}
use Rattle.lint_outside.specs.declared.outside.Question.TheVariants as question
use Rattle.file_list.specs.declared.entry.Entry.{Entry}
use Rattle.file_list.specs.declared.entry.Entry.TheVariants as entry
use Rattle.file_list.specs.declared.entry.Listed.{Listed}

-- a look at the path
abbrev pub is_look_at : List ℕ → Question → Bool
is_look_at path (question.Look asked) = bytes_eq path asked
is_look_at path (question.Names asked) = false
is_look_at path (question.Read asked) = false

-- a read of the path
abbrev pub is_read_of : List ℕ → Question → Bool
is_read_of path (question.Look asked) = false
is_read_of path (question.Names asked) = false
is_read_of path (question.Read asked) = bytes_eq path asked

-- a source is short enough for the places in it to be counted
abbrev pub HasShortSource : Entry → Type 0
HasShortSource (entry.Source bytes) = length bytes < 2 ^ 32
HasShortSource entry.Missing = Unit {0}
HasShortSource entry.NoPackage = Unit {0}
HasShortSource entry.Failed = Unit {0}
HasShortSource entry.TooLarge = Unit {0}
HasShortSource entry.TooMany = Unit {0}
HasShortSource entry.TooDeep = Unit {0}
HasShortSource entry.TooMuch = Unit {0}

-- the most bytes that are read of a file
abbrev pub most_bytes : ℕ
most_bytes = 4194304

-- a look, a listing or a read failed
abbrev pub is_failed_entry : Entry → Bool
is_failed_entry (entry.Source bytes) = false
is_failed_entry entry.Missing = false
is_failed_entry entry.NoPackage = false
is_failed_entry entry.Failed = true
is_failed_entry entry.TooLarge = false
is_failed_entry entry.TooMany = false
is_failed_entry entry.TooDeep = false
is_failed_entry entry.TooMuch = false

-- the same, beside its path and its name
abbrev pub is_failed : Listed → Bool
is_failed listed = is_failed_entry listed.entry
