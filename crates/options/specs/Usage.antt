-- Faults of usage that say something of the words, and the one that does not.
use Rattle.std.specs.Prelude.{Bool, true, false}
use Rattle.options.specs.declared.usage.UsageFault.{UsageFault}
use Rattle.options.specs.declared.usage.UsageFault.TheVariants.{UnknownOption, NeedsValue, BadValue, NoFile, BadToml, NoRcFile, TooLarge, ReadFault, Memory}

-- memory ran out
abbrev pub is_memory : UsageFault → Bool
is_memory (UnknownOption word) = false
is_memory (NeedsValue word) = false
is_memory (BadValue word) = false
is_memory NoFile = false
is_memory (BadToml path) = false
is_memory (NoRcFile path) = false
is_memory (TooLarge path) = false
is_memory (ReadFault path) = false
is_memory Memory = true
