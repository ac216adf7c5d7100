-- The text of each message: words, with an argument between any two of them.
use Rattle.std.specs.Prelude.{ℕ, List, [], ◌∷◌, ◌++◌, drop, codes}
use Rattle.lint_messages.specs.declared.code.Code.{Code}
use Rattle.lint_messages.specs.declared.code.Code.TheVariants.{MissingModuleDocstring, MissingClassDocstring, MissingFunctionDocstring, LineTooLong, TooManyLines, TrailingWhitespace, MissingFinalNewline, MultipleStatements, MultipleImports, SyntaxError, FunctionRedefined, NotInLoop, ReturnOutsideFunction, InconsistentMro, DuplicateBases, UndefinedVariable, NoNameInModule, NoMember, NoValueForParameter, TooManyFunctionArgs, UnexpectedKeywordArg, RedundantKeywordArg, Fatal, ParseError, TooManyAncestors, TooManyInstanceAttributes, TooFewPublicMethods, TooManyPublicMethods, TooManyReturnStatements, TooManyBranches, TooManyArguments, TooManyLocals, TooManyStatements, UnknownOptionValue, Unreachable, DangerousDefaultValue, UnnecessaryPass, AttributeDefinedOutsideInit, SuperInitNotCalled, UnnecessarySemicolon, WildcardImport, GlobalStatement, UnusedImport, UnusedVariable, UnusedArgument, RedefinedBuiltin, BareExcept}
use Rattle.lint_messages.specs.declared.message.Message.{Message}

-- the words of a text
abbrev pub template : Code → List (List ℕ)
template MissingModuleDocstring = codes "Missing module docstring" ∷ []
template MissingClassDocstring = codes "Missing class docstring" ∷ []
template MissingFunctionDocstring = codes "Missing function or method docstring" ∷ []
template LineTooLong = codes "Line too long (" ∷ codes "/" ∷ codes ")" ∷ []
template TooManyLines = codes "Too many lines in module (" ∷ codes "/" ∷ codes ")" ∷ []
template TrailingWhitespace = codes "Trailing whitespace" ∷ []
template MissingFinalNewline = codes "Final newline missing" ∷ []
template MultipleStatements = codes "More than one statement on a single line" ∷ []
template MultipleImports = codes "Multiple imports on one line (" ∷ codes ")" ∷ []
template SyntaxError = codes "Parsing failed: '" ∷ codes " (line " ∷ codes ")'" ∷ []
template FunctionRedefined = [] ∷ codes " already defined line " ∷ [] ∷ []
template NotInLoop = codes "'" ∷ codes "' not properly in loop" ∷ []
template ReturnOutsideFunction = codes "Return outside function" ∷ []
template InconsistentMro = codes "Inconsistent method resolution order for class '" ∷ codes "'" ∷ []
template DuplicateBases = codes "Duplicate bases for class '" ∷ codes "'" ∷ []
template UndefinedVariable = codes "Undefined variable '" ∷ codes "'" ∷ []
template NoNameInModule = codes "No name '" ∷ codes "' in module '" ∷ codes "'" ∷ []
template NoMember = [] ∷ codes " '" ∷ codes "' has no '" ∷ codes "' member" ∷ []
template NoValueForParameter = codes "No value for argument '" ∷ codes "' in " ∷ codes " call" ∷ []
template TooManyFunctionArgs = codes "Too many positional arguments for " ∷ codes " call" ∷ []
template UnexpectedKeywordArg = codes "Unexpected keyword argument '" ∷ codes "' in " ∷ codes " call" ∷ []
template RedundantKeywordArg = codes "Argument '" ∷ codes "' passed by position and keyword in " ∷ codes " call" ∷ []
template Fatal = codes "No module named " ∷ [] ∷ []
template ParseError = codes "error while code parsing: " ∷ [] ∷ []
template TooManyAncestors = codes "Too many ancestors (" ∷ codes "/" ∷ codes ")" ∷ []
template TooManyInstanceAttributes = codes "Too many instance attributes (" ∷ codes "/" ∷ codes ")" ∷ []
template TooFewPublicMethods = codes "Too few public methods (" ∷ codes "/" ∷ codes ")" ∷ []
template TooManyPublicMethods = codes "Too many public methods (" ∷ codes "/" ∷ codes ")" ∷ []
template TooManyReturnStatements = codes "Too many return statements (" ∷ codes "/" ∷ codes ")" ∷ []
template TooManyBranches = codes "Too many branches (" ∷ codes "/" ∷ codes ")" ∷ []
template TooManyArguments = codes "Too many arguments (" ∷ codes "/" ∷ codes ")" ∷ []
template TooManyLocals = codes "Too many local variables (" ∷ codes "/" ∷ codes ")" ∷ []
template TooManyStatements = codes "Too many statements (" ∷ codes "/" ∷ codes ")" ∷ []
template UnknownOptionValue = codes "Unknown option value for '" ∷ codes "', got '" ∷ codes "'" ∷ []
template Unreachable = codes "Unreachable code" ∷ []
template DangerousDefaultValue = codes "Dangerous default value " ∷ codes " as argument" ∷ []
template UnnecessaryPass = codes "Unnecessary pass statement" ∷ []
template AttributeDefinedOutsideInit = codes "Attribute '" ∷ codes "' defined outside __init__" ∷ []
template SuperInitNotCalled = codes "__init__ method from base class '" ∷ codes "' is not called" ∷ []
template UnnecessarySemicolon = codes "Unnecessary semicolon" ∷ []
template WildcardImport = codes "Wildcard import " ∷ [] ∷ []
template GlobalStatement = codes "Using the global statement" ∷ []
template UnusedImport = [] ∷ [] ∷ []
template UnusedVariable = codes "Unused variable '" ∷ codes "'" ∷ []
template UnusedArgument = codes "Unused argument '" ∷ codes "'" ∷ []
template RedefinedBuiltin = codes "Redefining built-in '" ∷ codes "'" ∷ []
template BareExcept = codes "No exception type(s) specified" ∷ []

-- the next argument: a missing one counts as empty
abbrev pub argument : List (List ℕ) → List ℕ
argument [] = []
argument (arg ∷ args) = arg

-- each of these words behind its argument: a surplus argument is passed over
abbrev pub behind_arguments : List (List ℕ) → List (List ℕ) → List ℕ
behind_arguments [] args = []
behind_arguments (word ∷ words) args = argument args ++ (word ++ behind_arguments words (drop 1 args))

-- the words with their arguments
abbrev pub filled : List (List ℕ) → List (List ℕ) → List ℕ
filled [] args = []
filled (word ∷ words) args = word ++ behind_arguments words args

-- the text of a message
abbrev pub text_of : Message → List ℕ
text_of m = filled (template m.code) m.args
