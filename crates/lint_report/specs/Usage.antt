-- The line that a usage fault prints on standard error.
use Rattle.std.specs.Prelude.{ℕ, List, [], ◌++◌, codes}
use Rattle.options.specs.declared.usage.UsageFault.{UsageFault}
use Rattle.options.specs.declared.usage.UsageFault.TheVariants.{UnknownOption, NeedsValue, BadValue, NoFile, BadToml, NoRcFile, TooLarge, ReadFault, Memory}

abbrev pub usage_line : UsageFault → List ℕ
usage_line (UnknownOption word) = codes "pylint: error: unknown option '" ++ (word ++ codes "'\n")
usage_line (NeedsValue word) = codes "pylint: error: option '" ++ (word ++ codes "' needs a value\n")
usage_line (BadValue word) = codes "pylint: error: bad value '" ++ (word ++ codes "'\n")
usage_line NoFile = codes "pylint: error: no file given\n"
usage_line (BadToml path) = codes "pylint: error: '" ++ (path ++ codes "' is not TOML\n")
usage_line (NoRcFile path) = codes "pylint: error: options file '" ++ (path ++ codes "' not found\n")
usage_line (TooLarge path) = codes "pylint: error: options file '" ++ (path ++ codes "' too large\n")
usage_line (ReadFault path) = codes "pylint: error: reading '" ++ (path ++ codes "' failed\n")
usage_line Memory = []
