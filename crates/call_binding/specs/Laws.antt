-- What holds of each binding.
use Rattle.std.specs.Prelude.{◌≡◌, ℕ, ◌+◌, ◌-◌, ◌<◌, ◌≤◌, true, false, ◌⊎◌, length}
use Rattle.call_binding.specs.declared.fate.ParamFate.TheVariants as param
use Rattle.call_binding.specs.declared.fate.KeyFate.{KeyFate}
use Rattle.call_binding.specs.declared.fate.KeyFate.TheVariants as key
use Rattle.call_binding.specs.declared.fate.ParamFate.{ParamFate}
use Rattle.call_binding.specs.Parameters.{Formals, Actuals, Fates, positions, receivers}
use Rattle.call_binding.specs.Rule.{IsParamFate, IsKeyFate, IsBinding, has_var_positional, param_fate, key_fate}

-- exactly one fate of a parameter
pub record HasOneFate (f : Formals) (a : Actuals) (i : ℕ) : Type 0 where
  pub fate : ParamFate
  pub is : IsParamFate f a i fate
  pub only : (other : ParamFate) → IsParamFate f a i other → other ≡ fate

-- exactly one fate of a keyword
pub record HasOneKeyFate (f : Formals) (a : Actuals) (j : ℕ) : Type 0 where
  pub fate : KeyFate
  pub is : IsKeyFate f a j fate
  pub only : (other : KeyFate) → IsKeyFate f a j other → other ≡ fate

-- exactly one binding
pub record HasOneBinding (f : Formals) (a : Actuals) : Type 0 where
  pub binding : Fates
  pub is : IsBinding f a binding
  pub only : (other : Fates) → IsBinding f a other → other ≡ binding

-- one parameter alone has the plain argument of that number
pub record IsTakenOnce (b : Fates) (count n : ℕ) : Type 0 where
  pub by : ℕ
  pub counted : by < count
  pub takes : param_fate b by ≡ param.Arg n
  pub only : (i : ℕ) → i < count → param_fate b i ≡ param.Arg n → i ≡ by

-- no parameter has it
pub record IsTakenByNone (b : Fates) (count n : ℕ) : Type 0 where
  pub untaken : (i : ℕ) → i < count → param_fate b i ≡ param.Arg n → ⊥

-- it is among the last, which are the surplus
pub record IsSurplus (f : Formals) (a : Actuals) (b : Fates) (n : ℕ) : Type 0 where
  pub starless : has_var_positional f.params ≡ false
  pub untaken : IsTakenByNone b (length f.params) n
  pub last : a.positionals ≤ n + b.surplus

-- `*` takes it
pub record IsInStar (f : Formals) (b : Fates) (n : ℕ) : Type 0 where
  pub star : has_var_positional f.params ≡ true
  pub untaken : IsTakenByNone b (length f.params) n
  pub beyond : positions f.params ≤ receivers f + n

-- each plain argument is taken once or is surplus
abbrev pub IsPlainTaken : Formals → Actuals → Fates → ℕ → Type 0
IsPlainTaken f a b n = IsTakenOnce b (length f.params) n ⊎ (IsInStar f b n ⊎ IsSurplus f a b n)

-- a keyword's argument is what the parameter has that the keyword goes to
pub record IsByKeyword (a : Actuals) (b : Fates) (i n : ℕ) : Type 0 where
  pub keyword : ℕ
  pub number : n ≡ a.positionals + keyword
  pub given : keyword < length a.keywords
  pub takes : key_fate b keyword ≡ key.Takes i

-- a parameter's argument is a plain one, or one whose keyword it takes
abbrev pub IsGiven : Actuals → Fates → ℕ → ℕ → Type 0
IsGiven a b i n = (n < a.positionals) ⊎ IsByKeyword a b i n
