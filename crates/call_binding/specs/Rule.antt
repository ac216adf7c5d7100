-- Call binding: Python's rule on what a call gives to each parameter, as a relation between what a function takes, what a
-- call gives and what came of each, without an order of trying.
use Rattle.std.specs.Prelude.{◌≡◌, ℕ, ◌+◌, ◌-◌, ◌<◌, nat_lt, Bool, true, false, ◌||◌, if◌then◌else◌, ◌⊎◌, List, length, take, Option, Some, None, slice_index_or}
use Rattle.std.specs.List.{position_from, list_any}
use Rattle.std.specs.Str.{bytes_eq}
use Rattle.scope_rules.specs.Nodes.{Name}
use Rattle.call_binding.specs.declared.fate.ParamFate.{ParamFate}
use Rattle.call_binding.specs.declared.fate.ParamFate.TheVariants as param
use Rattle.call_binding.specs.declared.fate.KeyFate.{KeyFate}
use Rattle.call_binding.specs.declared.fate.KeyFate.TheVariants as key
use Rattle.call_binding.specs.Parameters.{Parameter, Formals, Actuals, Fates, takes_position, takes_rest, is_var_positional, is_var_keyword, parameter_at, keyword_at, positions, positions_before, may_take, is_hidden, receivers}

-- ---- where a value goes

-- the value of that number by position goes to this parameter: the parameter takes one, and so many before it do
pub record TakesPlace (ps : List Parameter) (v i : ℕ) : Type 0 where
  pub takes : takes_position (parameter_at ps i).kind ≡ true
  pub place : positions_before ps i ≡ v

-- the parameter to which a keyword goes: the first that may take it
abbrev pub target : List Parameter → Name → Option ℕ
target ps x = position_from (may_take x) 0 ps

-- the receiver goes to this parameter: it is the first value by position
pub record ReceiverGoes (f : Formals) (i : ℕ) : Type 0 where
  pub received : f.receiver ≡ true
  pub place : TakesPlace f.params 0 i

-- the plain argument of that number goes to this parameter
pub record PlainGoes (f : Formals) (a : Actuals) (n i : ℕ) : Type 0 where
  pub given : n < a.positionals
  pub place : TakesPlace f.params (receivers f + n) i

-- the argument of that number has a keyword, which goes to this parameter
pub record KeywordGoes (f : Formals) (a : Actuals) (n i : ℕ) : Type 0 where
  pub keyword : ℕ
  pub number : n ≡ a.positionals + keyword
  pub given : keyword < length a.keywords
  pub goes : target f.params (keyword_at a.keywords keyword) ≡ Some i

-- the argument of that number goes to this parameter
abbrev pub Goes : Formals → Actuals → ℕ → ℕ → Type 0
Goes f a n i = PlainGoes f a n i ⊎ KeywordGoes f a n i

-- ---- what came of a parameter

-- a parameter has an argument that goes to it, where neither the receiver nor an earlier argument does
pub record HasArgument (f : Formals) (a : Actuals) (i n : ℕ) : Type 0 where
  pub goes : Goes f a n i
  pub unreceived : ¬ ReceiverGoes f i
  pub first : (m : ℕ) → m < n → ¬ Goes f a m i

-- no value goes to a parameter, which is neither `*` nor `**`
pub record HasNone (f : Formals) (a : Actuals) (i : ℕ) : Type 0 where
  pub single : takes_rest (parameter_at f.params i).kind ≡ false
  pub unreceived : ¬ ReceiverGoes f i
  pub ungiven : (n : ℕ) → ¬ Goes f a n i

-- no value goes to it, and it has a default or not
pub record IsLeft (f : Formals) (a : Actuals) (i : ℕ) (has_default : Bool) : Type 0 where
  pub none : HasNone f a i
  pub default : (parameter_at f.params i).has_default ≡ has_default

-- a parameter has the argument that goes to it, the receiver, its default, the rest or nothing
abbrev pub IsParamFate : Formals → Actuals → ℕ → ParamFate → Type 0
IsParamFate f a i (param.Arg n) = HasArgument f a i n
IsParamFate f a i param.Receiver = ReceiverGoes f i
IsParamFate f a i param.Default = IsLeft f a i true
IsParamFate f a i param.Rest = takes_rest (parameter_at f.params i).kind ≡ true
IsParamFate f a i param.Missing = IsLeft f a i false

-- ---- what came of a keyword

-- an earlier keyword of the call is the same
abbrev pub repeats : Actuals → ℕ → Bool
repeats a j = list_any (bytes_eq (keyword_at a.keywords j)) (take j a.keywords)

-- the first `**`
abbrev pub var_keyword : List Parameter → Option ℕ
var_keyword ps = position_from (λ p. is_var_keyword p.kind) 0 ps

-- the keyword's argument is the value of the parameter to which it goes
pub record IsTaken (f : Formals) (a : Actuals) (j i : ℕ) : Type 0 where
  pub goes : target f.params (keyword_at a.keywords j) ≡ Some i
  pub has : HasArgument f a i (a.positionals + j)

-- the parameter to which it goes has another value
pub record IsBeside (f : Formals) (a : Actuals) (j i : ℕ) : Type 0 where
  pub goes : target f.params (keyword_at a.keywords j) ≡ Some i
  pub other : ¬ HasArgument f a i (a.positionals + j)

-- it goes to no parameter, and `**` takes it, or has an earlier one of that name
pub record IsInRest (f : Formals) (a : Actuals) (j i : ℕ) (again : Bool) : Type 0 where
  pub free : target f.params (keyword_at a.keywords j) ≡ None
  pub rest : var_keyword f.params ≡ Some i
  pub repeated : repeats a j ≡ again

-- nothing takes it; a parameter before `/` has that name, or none has
pub record IsNotTaken (f : Formals) (a : Actuals) (j : ℕ) (hidden : Bool) : Type 0 where
  pub free : target f.params (keyword_at a.keywords j) ≡ None
  pub restless : var_keyword f.params ≡ None
  pub name : list_any (is_hidden (keyword_at a.keywords j)) f.params ≡ hidden

-- a keyword is taken by a parameter or by `**`, or its name is given twice, or nothing takes it
abbrev pub IsKeyFate : Formals → Actuals → ℕ → KeyFate → Type 0
IsKeyFate f a j (key.Takes i) = IsTaken f a j i
IsKeyFate f a j key.Rest = (i : ℕ) × IsInRest f a j i false
IsKeyFate f a j (key.Twice i) = IsBeside f a j i ⊎ IsInRest f a j i true
IsKeyFate f a j key.PositionalOnly = IsNotTaken f a j true
IsKeyFate f a j key.Unexpected = IsNotTaken f a j false

-- ---- the binding

-- a parameter is `*`
abbrev pub has_var_positional : List Parameter → Bool
has_var_positional ps = list_any (λ p. is_var_positional p.kind) ps

-- how many values by position nothing takes: all beyond the parameters that take one, where there is no `*`
abbrev pub left_over : Formals → Actuals → ℕ
left_over f a = if has_var_positional f.params then 0 else (receivers f + a.positionals) - positions f.params

-- what came of a parameter, of a keyword
abbrev pub param_fate : Fates → ℕ → ParamFate
param_fate b i = slice_index_or b.params i param.Missing

abbrev pub key_fate : Fates → ℕ → KeyFate
key_fate b j = slice_index_or b.keywords j key.Unexpected

-- the binding of a call without `*` and `**`
pub record IsBinding (f : Formals) (a : Actuals) (b : Fates) : Type 0 where
  pub plain : a.starred ≡ false
  pub each_param : length b.params ≡ length f.params
  pub each_keyword : length b.keywords ≡ length a.keywords
  pub params : (i : ℕ) → i < length f.params → IsParamFate f a i (param_fate b i)
  pub keywords : (j : ℕ) → j < length a.keywords → IsKeyFate f a j (key_fate b j)
  pub surplus : b.surplus ≡ left_over f a

-- ---- mismatches

-- a parameter has no value
abbrev pub is_missing : ParamFate → Bool
is_missing (param.Arg n) = false
is_missing param.Receiver = false
is_missing param.Default = false
is_missing param.Rest = false
is_missing param.Missing = true

-- a name is given twice, or not taken
abbrev pub is_refused : KeyFate → Bool
is_refused (key.Takes i) = false
is_refused key.Rest = false
is_refused (key.Twice i) = true
is_refused key.PositionalOnly = true
is_refused key.Unexpected = true

-- a call does not fit: a missing value, a surplus, a name given twice or not taken
abbrev pub is_mismatch : Fates → Bool
is_mismatch b = list_any is_missing b.params || (nat_lt 0 b.surplus || list_any is_refused b.keywords)
