-- What a function takes and what a call gives it, apart from any tree: parameters, arguments, and what came of each.
use Rattle.std.specs.Prelude.{ℕ, Bool, true, false, ◌&&◌, if◌then◌else◌, List, [], take, length, filter, slice_index_or}
use Rattle.std.specs.Str.{bytes_eq}
use Rattle.scope_rules.specs.Nodes.{Name}
use Rattle.call_binding.specs.declared.parameter_kind.ParameterKind.{ParameterKind}
use Rattle.call_binding.specs.declared.parameter_kind.ParameterKind.TheVariants.{PositionalOnly, PositionalOrKeyword, VarPositional, KeywordOnly, VarKeyword}
use Rattle.call_binding.specs.declared.fate.ParamFate.{ParamFate}
use Rattle.call_binding.specs.declared.fate.KeyFate.{KeyFate}

-- a parameter: how it takes a value, its name as it is read, and whether it has a default
pub record Parameter : Type 0 where
  pub kind : ParameterKind
  pub name : Name
  pub has_default : Bool

-- what is called: its parameters in source order, and whether a receiver comes before the arguments
pub record Formals : Type 0 where
  pub params : List Parameter
  pub receiver : Bool

-- what a call gives: how many plain arguments, its keywords as written in source order, and whether `*` or `**` brings
-- more. The arguments are numbered: first the plain ones, then those with a keyword
pub record Actuals : Type 0 where
  pub positionals : ℕ
  pub keywords : List Name
  pub starred : Bool

-- what came of each parameter and of each keyword, and how many values by position nothing takes
pub record Fates : Type 0 where
  pub params : List ParamFate
  pub keywords : List KeyFate
  pub surplus : ℕ

-- ---- kinds of parameters

-- a value by position may go to it
abbrev pub takes_position : ParameterKind → Bool
takes_position PositionalOnly = true
takes_position PositionalOrKeyword = true
takes_position VarPositional = false
takes_position KeywordOnly = false
takes_position VarKeyword = false

-- a value with a keyword may go to it
abbrev pub takes_keyword : ParameterKind → Bool
takes_keyword PositionalOnly = false
takes_keyword PositionalOrKeyword = true
takes_keyword VarPositional = false
takes_keyword KeywordOnly = true
takes_keyword VarKeyword = false

-- `*` or `**`, which takes what is left
abbrev pub takes_rest : ParameterKind → Bool
takes_rest PositionalOnly = false
takes_rest PositionalOrKeyword = false
takes_rest VarPositional = true
takes_rest KeywordOnly = false
takes_rest VarKeyword = true

-- `*`
abbrev pub is_var_positional : ParameterKind → Bool
is_var_positional PositionalOnly = false
is_var_positional PositionalOrKeyword = false
is_var_positional VarPositional = true
is_var_positional KeywordOnly = false
is_var_positional VarKeyword = false

-- `**`
abbrev pub is_var_keyword : ParameterKind → Bool
is_var_keyword PositionalOnly = false
is_var_keyword PositionalOrKeyword = false
is_var_keyword VarPositional = false
is_var_keyword KeywordOnly = false
is_var_keyword VarKeyword = true

-- a parameter before `/`
abbrev pub is_positional_only : ParameterKind → Bool
is_positional_only PositionalOnly = true
is_positional_only PositionalOrKeyword = false
is_positional_only VarPositional = false
is_positional_only KeywordOnly = false
is_positional_only VarKeyword = false

-- ---- parameters by number, by place and by name

-- past the end: takes no single value
abbrev pub no_parameter : Parameter
no_parameter = record { kind = VarKeyword; name = []; has_default = false }

-- the parameter of a number
abbrev pub parameter_at : List Parameter → ℕ → Parameter
parameter_at ps i = slice_index_or ps i no_parameter

-- the keyword of a number
abbrev pub keyword_at : List Name → ℕ → Name
keyword_at xs j = slice_index_or xs j []

-- how many of these parameters take a value by position
abbrev pub positions : List Parameter → ℕ
positions ps = length (filter (λ p. takes_position p.kind) ps)

-- how many of those before the parameter of a number do
abbrev pub positions_before : List Parameter → ℕ → ℕ
positions_before ps i = positions (take i ps)

-- a value with this keyword may go to the parameter, which has that name
abbrev pub may_take : Name → Parameter → Bool
may_take x p = bytes_eq p.name x && takes_keyword p.kind

-- a parameter before `/` that has this name
abbrev pub is_hidden : Name → Parameter → Bool
is_hidden x p = bytes_eq p.name x && is_positional_only p.kind

-- how many values the receiver is
abbrev pub receivers : Formals → ℕ
receivers f = if f.receiver then 1 else 0
