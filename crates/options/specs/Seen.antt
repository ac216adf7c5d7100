-- A word's form as the code has it, with the value itself in place of a reference to it.
use Rattle.options.specs.declared.form.WordForm.{WordForm}
use Rattle.options.specs.declared.form.WordForm.TheVariants as word
use Rattle.options.specs.Words.{Form, Ends, File, Unknown, Alone, Attached}

abbrev pub seen : WordForm → Form
seen word.Ends = Ends
seen word.File = File
seen word.Unknown = Unknown
seen (word.Alone option) = Alone option
seen (word.Attached option value) = Attached option value.now
