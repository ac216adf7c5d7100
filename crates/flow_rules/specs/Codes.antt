-- The code of each rule's message.
use Rattle.lint_messages.specs.declared.code.Code.{Code}
use Rattle.lint_messages.specs.declared.code.Code.TheVariants as codes
use Rattle.flow_rules.specs.declared.rule.Rule.{Rule}
use Rattle.flow_rules.specs.declared.rule.Rule.TheVariants.{Unreachable, BareExcept, FunctionRedefined, NotInLoop, ReturnOutsideFunction, TooManyReturnStatements, TooManyBranches, TooManyArguments, TooManyStatements}

abbrev pub code_of : Rule → Code
code_of Unreachable = codes.Unreachable
code_of BareExcept = codes.BareExcept
code_of FunctionRedefined = codes.FunctionRedefined
code_of NotInLoop = codes.NotInLoop
code_of ReturnOutsideFunction = codes.ReturnOutsideFunction
code_of TooManyReturnStatements = codes.TooManyReturnStatements
code_of TooManyBranches = codes.TooManyBranches
code_of TooManyArguments = codes.TooManyArguments
code_of TooManyStatements = codes.TooManyStatements
