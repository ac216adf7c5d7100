-- The letters, symbol, category and exit bit of each message, as pylint's reference has them.
use Rattle.std.specs.Prelude.{ℕ, List, codes, if◌then◌else◌, ◌==◌, slice_index}
use Rattle.lint_messages.specs.declared.code.Code.{Code}
use Rattle.lint_messages.specs.declared.code.Code.TheVariants.{MissingModuleDocstring, MissingClassDocstring, MissingFunctionDocstring, LineTooLong, TooManyLines, TrailingWhitespace, MissingFinalNewline, MultipleStatements, MultipleImports, SyntaxError, FunctionRedefined, NotInLoop, ReturnOutsideFunction, InconsistentMro, DuplicateBases, UndefinedVariable, NoNameInModule, NoMember, NoValueForParameter, TooManyFunctionArgs, UnexpectedKeywordArg, RedundantKeywordArg, Fatal, ParseError, TooManyAncestors, TooManyInstanceAttributes, TooFewPublicMethods, TooManyPublicMethods, TooManyReturnStatements, TooManyBranches, TooManyArguments, TooManyLocals, TooManyStatements, UnknownOptionValue, Unreachable, DangerousDefaultValue, UnnecessaryPass, AttributeDefinedOutsideInit, SuperInitNotCalled, UnnecessarySemicolon, WildcardImport, GlobalStatement, UnusedImport, UnusedVariable, UnusedArgument, RedefinedBuiltin, BareExcept}

-- the category's letter and four digits
abbrev pub letters : Code → List ℕ
letters MissingModuleDocstring = codes "C0114"
letters MissingClassDocstring = codes "C0115"
letters MissingFunctionDocstring = codes "C0116"
letters LineTooLong = codes "C0301"
letters TooManyLines = codes "C0302"
letters TrailingWhitespace = codes "C0303"
letters MissingFinalNewline = codes "C0304"
letters MultipleStatements = codes "C0321"
letters MultipleImports = codes "C0410"
letters SyntaxError = codes "E0001"
letters FunctionRedefined = codes "E0102"
letters NotInLoop = codes "E0103"
letters ReturnOutsideFunction = codes "E0104"
letters InconsistentMro = codes "E0240"
letters DuplicateBases = codes "E0241"
letters UndefinedVariable = codes "E0602"
letters NoNameInModule = codes "E0611"
letters NoMember = codes "E1101"
letters NoValueForParameter = codes "E1120"
letters TooManyFunctionArgs = codes "E1121"
letters UnexpectedKeywordArg = codes "E1123"
letters RedundantKeywordArg = codes "E1124"
letters Fatal = codes "F0001"
letters ParseError = codes "F0010"
letters TooManyAncestors = codes "R0901"
letters TooManyInstanceAttributes = codes "R0902"
letters TooFewPublicMethods = codes "R0903"
letters TooManyPublicMethods = codes "R0904"
letters TooManyReturnStatements = codes "R0911"
letters TooManyBranches = codes "R0912"
letters TooManyArguments = codes "R0913"
letters TooManyLocals = codes "R0914"
letters TooManyStatements = codes "R0915"
letters UnknownOptionValue = codes "W0012"
letters Unreachable = codes "W0101"
letters DangerousDefaultValue = codes "W0102"
letters UnnecessaryPass = codes "W0107"
letters AttributeDefinedOutsideInit = codes "W0201"
letters SuperInitNotCalled = codes "W0231"
letters UnnecessarySemicolon = codes "W0301"
letters WildcardImport = codes "W0401"
letters GlobalStatement = codes "W0603"
letters UnusedImport = codes "W0611"
letters UnusedVariable = codes "W0612"
letters UnusedArgument = codes "W0613"
letters RedefinedBuiltin = codes "W0622"
letters BareExcept = codes "W0702"

-- the name in words
abbrev pub symbol : Code → List ℕ
symbol MissingModuleDocstring = codes "missing-module-docstring"
symbol MissingClassDocstring = codes "missing-class-docstring"
symbol MissingFunctionDocstring = codes "missing-function-docstring"
symbol LineTooLong = codes "line-too-long"
symbol TooManyLines = codes "too-many-lines"
symbol TrailingWhitespace = codes "trailing-whitespace"
symbol MissingFinalNewline = codes "missing-final-newline"
symbol MultipleStatements = codes "multiple-statements"
symbol MultipleImports = codes "multiple-imports"
symbol SyntaxError = codes "syntax-error"
symbol FunctionRedefined = codes "function-redefined"
symbol NotInLoop = codes "not-in-loop"
symbol ReturnOutsideFunction = codes "return-outside-function"
symbol InconsistentMro = codes "inconsistent-mro"
symbol DuplicateBases = codes "duplicate-bases"
symbol UndefinedVariable = codes "undefined-variable"
symbol NoNameInModule = codes "no-name-in-module"
symbol NoMember = codes "no-member"
symbol NoValueForParameter = codes "no-value-for-parameter"
symbol TooManyFunctionArgs = codes "too-many-function-args"
symbol UnexpectedKeywordArg = codes "unexpected-keyword-arg"
symbol RedundantKeywordArg = codes "redundant-keyword-arg"
symbol Fatal = codes "fatal"
symbol ParseError = codes "parse-error"
symbol TooManyAncestors = codes "too-many-ancestors"
symbol TooManyInstanceAttributes = codes "too-many-instance-attributes"
symbol TooFewPublicMethods = codes "too-few-public-methods"
symbol TooManyPublicMethods = codes "too-many-public-methods"
symbol TooManyReturnStatements = codes "too-many-return-statements"
symbol TooManyBranches = codes "too-many-branches"
symbol TooManyArguments = codes "too-many-arguments"
symbol TooManyLocals = codes "too-many-locals"
symbol TooManyStatements = codes "too-many-statements"
symbol UnknownOptionValue = codes "unknown-option-value"
symbol Unreachable = codes "unreachable"
symbol DangerousDefaultValue = codes "dangerous-default-value"
symbol UnnecessaryPass = codes "unnecessary-pass"
symbol AttributeDefinedOutsideInit = codes "attribute-defined-outside-init"
symbol SuperInitNotCalled = codes "super-init-not-called"
symbol UnnecessarySemicolon = codes "unnecessary-semicolon"
symbol WildcardImport = codes "wildcard-import"
symbol GlobalStatement = codes "global-statement"
symbol UnusedImport = codes "unused-import"
symbol UnusedVariable = codes "unused-variable"
symbol UnusedArgument = codes "unused-argument"
symbol RedefinedBuiltin = codes "redefined-builtin"
symbol BareExcept = codes "bare-except"

-- the category is the first of the letters
abbrev pub category : Code → ℕ
category code = slice_index (letters code) 0

-- fatal 1, error 2, warning 4, refactor 8, convention 16
abbrev pub bit_of : ℕ → ℕ
bit_of letter =
    if letter == 70 then 1
    else (if letter == 69 then 2
    else (if letter == 87 then 4
    else (if letter == 82 then 8 else 16)))

abbrev pub bit : Code → ℕ
bit code = bit_of (category code)
