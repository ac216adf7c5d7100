-- What `--generate=N` lints: a module of N small classes, as the one file of a reading.
use Rattle.std.specs.Prelude.{ℕ, zero, suc, ◌%◌, List, [], ◌∷◌, ◌++◌, codes, false}
use Rattle.std.specs.Fmt.{decimal}
use Rattle.file_list.specs.declared.entry.Entry.TheVariants.{Source}
use Rattle.file_list.specs.declared.entry.Listed.{Listed}

-- two empty lines and the class of a number, whose one method gives one of seven attributes
abbrev pub class_text : ℕ → List ℕ
class_text i =
    codes "\n\nclass C" ++ (decimal i ++ (codes ":\n    \"\"\"Class.\"\"\"\n\n    def get(self):\n        \"\"\"Get.\"\"\"\n        return self.v" ++ (decimal (i % 7) ++ codes "\n")))

-- a docstring, and behind it the classes from number 0 on
unfoldable pub made_text : ℕ → List ℕ
made_text zero = codes "\"\"\"Made.\"\"\"\n"
made_text (suc n) = made_text n ++ class_text n

-- the text of so many classes as the file `made.py`
abbrev pub made_reading : ℕ → List Listed
made_reading n = record { path = codes "made.py"; module_name = codes "made"; is_package = false; entry = Source (made_text n) } ∷ []
