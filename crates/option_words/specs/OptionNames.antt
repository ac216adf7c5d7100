-- The options of the command line: their long names, and what their values may be.
use Rattle.std.specs.Prelude.{ℕ, List, Bool, Option, Some, None, codes, find, if◌then◌else◌}
use Rattle.std.specs.Str.{bytes_eq}
use Rattle.option_words.specs.declared.option_name.OptionName.{OptionName}
use Rattle.option_words.specs.declared.option_name.OptionName.TheVariants.{Disable, Enable, ErrorsOnly, Jobs, Score, Rcfile, Ignore, Recursive, FailUnder, FailOn, ExitZero, IgnoredClasses, AdditionalBuiltins, LimitInferenceResults, MaxLineLength, MaxModuleLines, MaxArgs, MaxLocals, MaxReturns, MaxBranches, MaxStatements, MaxAttributes, MaxPublicMethods, MinPublicMethods, MaxParents}
use Rattle.option_words.specs.declared.option_name.Kind.{Kind}
use Rattle.option_words.specs.declared.option_name.Kind.TheVariants.{Flag, MessageNames, YesOrNo, Number, Hundredths, Texts, Path}
use Rattle.option_words.specs.declared.option_name.TheConstants.{ALL_OPTIONS}

-- the long name without its dashes
abbrev pub long_name : OptionName → List ℕ
long_name Disable = codes "disable"
long_name Enable = codes "enable"
long_name ErrorsOnly = codes "errors-only"
long_name Jobs = codes "jobs"
long_name Score = codes "score"
long_name Rcfile = codes "rcfile"
long_name Ignore = codes "ignore"
long_name Recursive = codes "recursive"
long_name FailUnder = codes "fail-under"
long_name FailOn = codes "fail-on"
long_name ExitZero = codes "exit-zero"
long_name IgnoredClasses = codes "ignored-classes"
long_name AdditionalBuiltins = codes "additional-builtins"
long_name LimitInferenceResults = codes "limit-inference-results"
long_name MaxLineLength = codes "max-line-length"
long_name MaxModuleLines = codes "max-module-lines"
long_name MaxArgs = codes "max-args"
long_name MaxLocals = codes "max-locals"
long_name MaxReturns = codes "max-returns"
long_name MaxBranches = codes "max-branches"
long_name MaxStatements = codes "max-statements"
long_name MaxAttributes = codes "max-attributes"
long_name MaxPublicMethods = codes "max-public-methods"
long_name MinPublicMethods = codes "min-public-methods"
long_name MaxParents = codes "max-parents"

-- what the value may be
abbrev pub kind : OptionName → Kind
kind Disable = MessageNames
kind Enable = MessageNames
kind ErrorsOnly = Flag
kind Jobs = Number 0 64
kind Score = YesOrNo
kind Rcfile = Path
kind Ignore = Texts
kind Recursive = YesOrNo
kind FailUnder = Hundredths
kind FailOn = MessageNames
kind ExitZero = Flag
kind IgnoredClasses = Texts
kind AdditionalBuiltins = Texts
kind LimitInferenceResults = Number 1 1000
kind MaxLineLength = Number 0 1000000
kind MaxModuleLines = Number 0 1000000
kind MaxArgs = Number 0 1000000
kind MaxLocals = Number 0 1000000
kind MaxReturns = Number 0 1000000
kind MaxBranches = Number 0 1000000
kind MaxStatements = Number 0 1000000
kind MaxAttributes = Number 0 1000000
kind MaxPublicMethods = Number 0 1000000
kind MinPublicMethods = Number 0 1000000
kind MaxParents = Number 0 1000000

-- whether a text is the long name of the option
abbrev pub is_named : List ℕ → OptionName → Bool
is_named name option = bytes_eq name (long_name option)

-- the option of a long name
abbrev pub named_option : List ℕ → Option OptionName
named_option name = find (is_named name) ALL_OPTIONS

-- the option of a short letter
abbrev pub lettered : List ℕ → Option OptionName
lettered letter =
    if bytes_eq letter (codes "d") then Some Disable
    else (if bytes_eq letter (codes "e") then Some Enable
    else (if bytes_eq letter (codes "E") then Some ErrorsOnly
    else (if bytes_eq letter (codes "j") then Some Jobs
    else (if bytes_eq letter (codes "s") then Some Score else None))))
