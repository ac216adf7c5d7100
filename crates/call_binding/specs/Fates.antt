-- The binding of a call as a function. That it is the one of the rule is a clause of `calls_have_one_binding`.
use Rattle.std.specs.Prelude.{◌≡◌, ℕ, ◌+◌, ◌-◌, nat_eq, nat_lt, Bool, true, false, ◌||◌, if◌then◌else◌, List, length, map, Option, Some, None}
use Rattle.std.specs.List.{position_from, list_any}
use Rattle.scope_rules.specs.Nodes.{Name, below, is_number}
use Rattle.call_binding.specs.declared.fate.ParamFate.{ParamFate}
use Rattle.call_binding.specs.declared.fate.ParamFate.TheVariants as param
use Rattle.call_binding.specs.declared.fate.KeyFate.{KeyFate}
use Rattle.call_binding.specs.declared.fate.KeyFate.TheVariants as key
use Rattle.call_binding.specs.Parameters.{Parameter, Formals, Actuals, Fates, takes_position, takes_rest, parameter_at, keyword_at, positions_before, is_hidden, receivers}
use Rattle.call_binding.specs.Rule.{target, repeats, var_keyword, left_over}

-- the first keyword that goes to a parameter
abbrev pub keyword_for : Formals → Actuals → ℕ → Option ℕ
keyword_for f a i = position_from (λ x. is_number (target f.params x) i) 0 a.keywords

-- a parameter's default, or nothing
abbrev pub by_default : Parameter → ParamFate
by_default p = if p.has_default then param.Default else param.Missing

-- the argument with a keyword, else the default
abbrev pub by_keyword : Actuals → Parameter → Option ℕ → ParamFate
by_keyword a p (Some j) = param.Arg (a.positionals + j)
by_keyword a p None = by_default p

-- the value of that number by position, if the call gives so many
unfoldable pub by_place : Formals → Actuals → ℕ → Parameter → ℕ → ParamFate
by_place f a i p v =
    if nat_lt v (receivers f) then param.Receiver else (if nat_lt (v - receivers f) a.positionals then param.Arg (v - receivers f) else by_keyword a p (keyword_for f a i))

-- what a parameter gets that is neither `*` nor `**`
unfoldable pub single_fate : Formals → Actuals → ℕ → Parameter → ParamFate
single_fate f a i p = if takes_position p.kind then by_place f a i p (positions_before f.params i) else by_keyword a p (keyword_for f a i)

-- what a parameter gets
unfoldable pub param_fate_of : Formals → Actuals → ℕ → ParamFate
param_fate_of f a i = if takes_rest (parameter_at f.params i).kind then param.Rest else single_fate f a i (parameter_at f.params i)

-- a parameter has the argument of that number
abbrev pub has_argument : ParamFate → ℕ → Bool
has_argument (param.Arg n) m = nat_eq n m
has_argument param.Receiver m = false
has_argument param.Default m = false
has_argument param.Rest m = false
has_argument param.Missing m = false

-- a keyword that goes to a parameter
unfoldable pub taken_fate : Formals → Actuals → ℕ → ℕ → KeyFate
taken_fate f a j i = if has_argument (param_fate_of f a i) (a.positionals + j) then key.Takes i else key.Twice i

-- one that goes to none, where there is no `**`
abbrev pub untaken_fate : Formals → Actuals → ℕ → KeyFate
untaken_fate f a j = if list_any (is_hidden (keyword_at a.keywords j)) f.params then key.PositionalOnly else key.Unexpected

-- one that goes to none
unfoldable pub free_fate : Formals → Actuals → ℕ → Option ℕ → KeyFate
free_fate f a j (Some r) = if repeats a j then key.Twice r else key.Rest
free_fate f a j None = untaken_fate f a j

abbrev pub fate_at_target : Formals → Actuals → ℕ → Option ℕ → KeyFate
fate_at_target f a j (Some i) = taken_fate f a j i
fate_at_target f a j None = free_fate f a j (var_keyword f.params)

-- what becomes of a keyword
unfoldable pub key_fate_of : Formals → Actuals → ℕ → KeyFate
key_fate_of f a j = fate_at_target f a j (target f.params (keyword_at a.keywords j))

-- what comes of each
unfoldable pub fates_of : Formals → Actuals → Fates
fates_of f a = record { params = map (param_fate_of f a) (below (length f.params)); keywords = map (key_fate_of f a) (below (length a.keywords)); surplus = left_over f a }
