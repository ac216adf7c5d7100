-- How keywords and operators are spelled.
use Rattle.std.specs.Prelude.{Bool, [], if◌then◌else◌, codes, find, Option, Some, None}
use Rattle.std.specs.Str.{bytes_eq}
use Rattle.fstr_parse.specs.Bytes.{Text}
use Rattle.py_grammar.specs.declared.symbol.Symbol.{Symbol}
use Rattle.py_grammar.specs.declared.symbol.Symbol.TheVariants as s
use Rattle.py_terminals.specs.declared.spelling.TheConstants.{KEYWORDS, OPERATORS}

-- what is written for a keyword or an operator; other symbols have no spelling
abbrev pub spelling : Symbol → Text
spelling s.FalseWord = codes "False"
spelling s.NoneWord = codes "None"
spelling s.TrueWord = codes "True"
spelling s.AndWord = codes "and"
spelling s.AsWord = codes "as"
spelling s.AssertWord = codes "assert"
spelling s.AsyncWord = codes "async"
spelling s.AwaitWord = codes "await"
spelling s.BreakWord = codes "break"
spelling s.ClassWord = codes "class"
spelling s.ContinueWord = codes "continue"
spelling s.DefWord = codes "def"
spelling s.DelWord = codes "del"
spelling s.ElifWord = codes "elif"
spelling s.ElseWord = codes "else"
spelling s.ExceptWord = codes "except"
spelling s.FinallyWord = codes "finally"
spelling s.ForWord = codes "for"
spelling s.FromWord = codes "from"
spelling s.GlobalWord = codes "global"
spelling s.IfWord = codes "if"
spelling s.ImportWord = codes "import"
spelling s.InWord = codes "in"
spelling s.IsWord = codes "is"
spelling s.LambdaWord = codes "lambda"
spelling s.NonlocalWord = codes "nonlocal"
spelling s.NotWord = codes "not"
spelling s.OrWord = codes "or"
spelling s.PassWord = codes "pass"
spelling s.RaiseWord = codes "raise"
spelling s.ReturnWord = codes "return"
spelling s.TryWord = codes "try"
spelling s.WhileWord = codes "while"
spelling s.WithWord = codes "with"
spelling s.YieldWord = codes "yield"
spelling s.Plus = codes "+"
spelling s.Minus = codes "-"
spelling s.Star = codes "*"
spelling s.DoubleStar = codes "**"
spelling s.Slash = codes "/"
spelling s.DoubleSlash = codes "//"
spelling s.Percent = codes "%"
spelling s.AtSign = codes "@"
spelling s.LeftShift = codes "<<"
spelling s.RightShift = codes ">>"
spelling s.Ampersand = codes "&"
spelling s.Bar = codes "|"
spelling s.Caret = codes "^"
spelling s.Tilde = codes "~"
spelling s.Walrus = codes ":="
spelling s.Less = codes "<"
spelling s.Greater = codes ">"
spelling s.LessEqual = codes "<="
spelling s.GreaterEqual = codes ">="
spelling s.Equal = codes "=="
spelling s.NotEqual = codes "!="
spelling s.LeftParen = codes "("
spelling s.RightParen = codes ")"
spelling s.LeftBracket = codes "["
spelling s.RightBracket = codes "]"
spelling s.LeftBrace = codes "{"
spelling s.RightBrace = codes "}"
spelling s.Comma = codes ","
spelling s.Colon = codes ":"
spelling s.Dot = codes "."
spelling s.Semicolon = codes ";"
spelling s.Assign = codes "="
spelling s.Arrow = codes "->"
spelling s.PlusAssign = codes "+="
spelling s.MinusAssign = codes "-="
spelling s.StarAssign = codes "*="
spelling s.SlashAssign = codes "/="
spelling s.DoubleSlashAssign = codes "//="
spelling s.PercentAssign = codes "%="
spelling s.AtAssign = codes "@="
spelling s.AmpersandAssign = codes "&="
spelling s.BarAssign = codes "|="
spelling s.CaretAssign = codes "^="
spelling s.RightShiftAssign = codes ">>="
spelling s.LeftShiftAssign = codes "<<="
spelling s.DoubleStarAssign = codes "**="
spelling s.Ellipsis = codes "..."
spelling s.Name = []
spelling s.MatchWord = []
spelling s.CaseWord = []
spelling s.Underscore = []
spelling s.Number = []
spelling s.Str = []
spelling s.Bytes = []
spelling s.FStr = []
spelling s.FStrEnd = []
spelling s.FieldOpen = []
spelling s.FieldClose = []
spelling s.BadField = []

-- the text is what is written for the symbol
abbrev pub is_spelled : Text → Symbol → Bool
is_spelled text symbol = bytes_eq text (spelling symbol)

-- a symbol, or where there is none one that no form holds
abbrev pub or_none : Option Symbol → Symbol
or_none (Some symbol) = symbol
or_none None = s.BadField

-- the keyword that is written so
abbrev pub keyword_symbol : Text → Symbol
keyword_symbol text = or_none (find (is_spelled text) KEYWORDS)

-- the operator that is written so
abbrev pub operator_symbol : Text → Symbol
operator_symbol text = or_none (find (is_spelled text) OPERATORS)

-- a name: the soft keywords by what is written
abbrev pub name_symbol : Text → Symbol
name_symbol text =
    if bytes_eq text (codes "_") then s.Underscore
    else (if bytes_eq text (codes "match") then s.MatchWord else (if bytes_eq text (codes "case") then s.CaseWord else s.Name))
