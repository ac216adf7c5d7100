-- Each parameter has exactly one fate, which `param_fate_of` gives.
use Rattle.std.proofs.Common.{◌≡◌, ℕ, zero, suc, ◌+◌, ◌-◌, ◌<◌, ◌≤◌, Bool, true, false, cond, ◌&&◌, eq-eqb, nat_lt, List, [], ◌∷◌, length, get_or, refl, sym, ap, subst, ◌∙◌, arith, Option, Some, None, ◌⊎◌, inl, inr, ⊎_elim}
use Rattle.std.proofs.lemmas.Bool.{eqb-true, ltb-true, ltb-false}
use Rattle.scope_rules.specs.Nodes.{Name, is_number}
use Rattle.call_binding.specs.declared.parameter_kind.ParameterKind.{ParameterKind}
use Rattle.call_binding.specs.declared.parameter_kind.ParameterKind.TheVariants.{PositionalOnly, PositionalOrKeyword, VarPositional, KeywordOnly, VarKeyword}
use Rattle.call_binding.specs.declared.fate.ParamFate.{ParamFate}
use Rattle.call_binding.specs.declared.fate.ParamFate.TheVariants.{Arg, Receiver, Default, Rest, Missing}
use Rattle.call_binding.specs.Parameters.{Parameter, Formals, Actuals, takes_position, takes_keyword, takes_rest, parameter_at, no_parameter, keyword_at, positions_before, may_take, receivers}
use Rattle.call_binding.specs.Rule.{TakesPlace, target, ReceiverGoes, PlainGoes, KeywordGoes, Goes, HasArgument, HasNone, IsLeft, IsParamFate}
use Rattle.call_binding.specs.Fates.{keyword_for, by_default, by_keyword, by_place, single_fate, param_fate_of}
use Rattle.call_binding.proofs.ListLaws.{position_first, position_none}

-- ---- kinds of parameters

pub apart : true ≡ false → ⊥
apart e = cc

pub position_single : (k : ParameterKind) → takes_position k ≡ true → takes_rest k ≡ false
position_single PositionalOnly e = refl
position_single PositionalOrKeyword e = refl
position_single VarPositional e = absurd (apart (sym e))
position_single KeywordOnly e = refl
position_single VarKeyword e = absurd (apart (sym e))

keyword-single : (k : ParameterKind) → takes_keyword k ≡ true → takes_rest k ≡ false
keyword-single PositionalOnly e = refl
keyword-single PositionalOrKeyword e = refl
keyword-single VarPositional e = absurd (apart (sym e))
keyword-single KeywordOnly e = refl
keyword-single VarKeyword e = absurd (apart (sym e))

second-true : (a b : Bool) → (a && b) ≡ true → b ≡ true
second-true true b e = e
second-true false b e = absurd (apart (sym e))

-- the parameter to which a keyword goes is one of the list, and a keyword may go to it
pub target_within : (ps : List Parameter) (x : Name) (i : ℕ) → target ps x ≡ Some i → i < length ps
target_within ps x i e = (position_first (may_take x) ps i no_parameter e).within

target-takes : (ps : List Parameter) (x : Name) (i : ℕ) → target ps x ≡ Some i → takes_rest (parameter_at ps i).kind ≡ false
target-takes ps x i e =
    keyword-single (parameter_at ps i).kind (second-true _ _ (position_first (may_take x) ps i no_parameter e).passes)

-- a value goes to no `*` and no `**`
pub receiver_single : (f : Formals) (i : ℕ) → ReceiverGoes f i → takes_rest (parameter_at f.params i).kind ≡ false
receiver_single f i h = position_single (parameter_at f.params i).kind h.place.takes

pub argument_single : (f : Formals) (a : Actuals) (n i : ℕ) → Goes f a n i → takes_rest (parameter_at f.params i).kind ≡ false
argument_single f a n i (inl h) = position_single (parameter_at f.params i).kind h.place.takes
argument_single f a n i (inr h) = target-takes f.params (keyword_at a.keywords h.keyword) i h.goes

-- ---- receivers

pub one_receiver : (f : Formals) → f.receiver ≡ true → receivers f ≡ 1
one_receiver f e = ap (λ (b : Bool). cond b 1 0) e

pub receiver_or_none : (f : Formals) → ((f.receiver ≡ true) × (receivers f ≡ 1)) ⊎ ((f.receiver ≡ false) × (receivers f ≡ 0))
receiver_or_none f = by_test f.receiver refl
  where
    by_test : (b : Bool) → f.receiver ≡ b → ((f.receiver ≡ true) × (receivers f ≡ 1)) ⊎ ((f.receiver ≡ false) × (receivers f ≡ 0))
    by_test true e = inl (e, ap (λ (c : Bool). cond c 1 0) e)
    by_test false e = inr (e, ap (λ (c : Bool). cond c 1 0) e)

-- ---- no two fates

three-ways : (m n : ℕ) → (m < n) ⊎ ((m ≡ n) ⊎ (n < m))
three-ways zero zero = inr (inl refl)
three-ways zero (suc n) = inl (omega arith)
three-ways (suc m) zero = inr (inr (omega arith))
three-ways (suc m) (suc n) = ⊎_elim (λ low. inl (omega arith)) (λ other. ⊎_elim (λ same. inr (inl (ap suc same))) (λ high. inr (inr (omega arith))) other) (three-ways m n)

one-argument : (f : Formals) (a : Actuals) (i m n : ℕ) → HasArgument f a i m → HasArgument f a i n → m ≡ n
one-argument f a i m n h k =
    ⊎_elim (λ low. absurd (k.first m low h.goes)) (λ other. ⊎_elim (λ same. same) (λ high. absurd (h.first n high k.goes)) other) (three-ways m n)

clash : (b : Bool) → b ≡ true → b ≡ false → ⊥
clash b e d = apart (sym e ∙ d)

pub one_param_fate : (f : Formals) (a : Actuals) (i : ℕ) (u v : ParamFate) → IsParamFate f a i u → IsParamFate f a i v → u ≡ v
one_param_fate f a i (Arg m) (Arg n) h k = ap Arg (one-argument f a i m n h k)
one_param_fate f a i (Arg m) Receiver h k = absurd (h.unreceived k)
one_param_fate f a i (Arg m) Default h k = absurd (k.none.ungiven m h.goes)
one_param_fate f a i (Arg m) Rest h k = absurd (clash _ k (argument_single f a m i h.goes))
one_param_fate f a i (Arg m) Missing h k = absurd (k.none.ungiven m h.goes)
one_param_fate f a i Receiver (Arg n) h k = absurd (k.unreceived h)
one_param_fate f a i Receiver Receiver h k = refl
one_param_fate f a i Receiver Default h k = absurd (k.none.unreceived h)
one_param_fate f a i Receiver Rest h k = absurd (clash _ k (receiver_single f i h))
one_param_fate f a i Receiver Missing h k = absurd (k.none.unreceived h)
one_param_fate f a i Default (Arg n) h k = absurd (h.none.ungiven n k.goes)
one_param_fate f a i Default Receiver h k = absurd (h.none.unreceived k)
one_param_fate f a i Default Default h k = refl
one_param_fate f a i Default Rest h k = absurd (clash _ k h.none.single)
one_param_fate f a i Default Missing h k = absurd (clash _ h.default k.default)
one_param_fate f a i Rest (Arg n) h k = absurd (clash _ h (argument_single f a n i k.goes))
one_param_fate f a i Rest Receiver h k = absurd (clash _ h (receiver_single f i k))
one_param_fate f a i Rest Default h k = absurd (clash _ h k.none.single)
one_param_fate f a i Rest Rest h k = refl
one_param_fate f a i Rest Missing h k = absurd (clash _ h k.none.single)
one_param_fate f a i Missing (Arg n) h k = absurd (h.none.ungiven n k.goes)
one_param_fate f a i Missing Receiver h k = absurd (h.none.unreceived k)
one_param_fate f a i Missing Default h k = absurd (clash _ k.default h.default)
one_param_fate f a i Missing Rest h k = absurd (clash _ k h.none.single)
one_param_fate f a i Missing Missing h k = refl

-- ---- the fate that is computed

-- neither the receiver nor a plain argument goes to the parameter
record IsUnplaced (f : Formals) (a : Actuals) (i : ℕ) : Type 0 where
  single : takes_rest (parameter_at f.params i).kind ≡ false
  unreceived : ¬ ReceiverGoes f i
  plainless : (n : ℕ) → ¬ PlainGoes f a n i

-- the keywords before the first that goes to the parameter go elsewhere
same-number : (o : Option ℕ) (i : ℕ) → o ≡ Some i → is_number o i ≡ true
same-number None i e = absurd (never e)
  where
    never : None ≡ Some i → ⊥
    never e = cc
same-number (Some m) i e = eq-eqb m i (some-same e)
  where
    some-same : Some m ≡ Some i → m ≡ i
    some-same e = cc

number-same : (o : Option ℕ) (i : ℕ) → is_number o i ≡ true → o ≡ Some i
number-same None i e = absurd (apart (sym e))
number-same (Some m) i e = ap Some (eqb-true m i e)

no-keyword : (f : Formals) (a : Actuals) (i : ℕ) (test : Name → Bool) (m : ℕ) → IsUnplaced f a i → ((k : ℕ) → m ≡ a.positionals + k → k < length a.keywords → is_number (target f.params (keyword_at a.keywords k)) i ≡ false) → ¬ Goes f a m i
no-keyword f a i test m h none (inl plain) = h.plainless m plain
no-keyword f a i test m h none (inr keyword) = apart (sym (same-number (target f.params (keyword_at a.keywords keyword.keyword)) i keyword.goes) ∙ none keyword.keyword keyword.number keyword.given)

default-fate : (f : Formals) (a : Actuals) (i : ℕ) → HasNone f a i → (b : Bool) → (parameter_at f.params i).has_default ≡ b → IsParamFate f a i (cond b Default Missing)
default-fate f a i h true e = record { none = h; default = e }
default-fate f a i h false e = record { none = h; default = e }

keyword-fate : (f : Formals) (a : Actuals) (i : ℕ) → IsUnplaced f a i → (o : Option ℕ) → keyword_for f a i ≡ o → IsParamFate f a i (by_keyword a (parameter_at f.params i) o)
keyword-fate f a i h None e =
    let test : Name → Bool = λ x. is_number (target f.params x) i in
    default-fate f a i (record {
      single = h.single;
      unreceived = h.unreceived;
      ungiven = λ n. no-keyword f a i test n h (λ k at low. position_none test 0 a.keywords e k [] low);
    }) (parameter_at f.params i).has_default refl
keyword-fate f a i h (Some j) e =
    let test : Name → Bool = λ x. is_number (target f.params x) i in
    let first = position_first test a.keywords j [] e in
    record {
      goes = inr (record { keyword = j; number = refl; given = first.within; goes = number-same (target f.params (keyword_at a.keywords j)) i first.passes });
      unreceived = h.unreceived;
      first = λ m low. no-keyword f a i test m h (λ k at given. first.before k (omega arith));
    }

placed-fate : (f : Formals) (a : Actuals) (i v : ℕ) → takes_position (parameter_at f.params i).kind ≡ true → positions_before f.params i ≡ v
    → (b : Bool) → nat_lt v (receivers f) ≡ b → (c : Bool) → nat_lt (v - receivers f) a.positionals ≡ c
    → IsParamFate f a i (cond b Receiver (cond c (Arg (v - receivers f)) (by_keyword a (parameter_at f.params i) (keyword_for f a i))))
placed-fate f a i v takes at true bt c ct = received (receiver_or_none f)
  where
    low : v < receivers f
    low = ltb-true v (receivers f) bt

    received : ((f.receiver ≡ true) × (receivers f ≡ 1)) ⊎ ((f.receiver ≡ false) × (receivers f ≡ 0)) → ReceiverGoes f i
    received (inl one) = let less = low in let count = one.1 in record { received = one.0; place = record { takes = takes; place = at ∙ omega arith } }
    received (inr none) = let less = low in let count = none.1 in absurd (omega arith)
placed-fate f a i v takes at false bt true ct =
    let least : receivers f ≤ v = ltb-false v (receivers f) bt in
    let less : v - receivers f < a.positionals = ltb-true (v - receivers f) a.positionals ct in
    record {
      goes = inl (record { given = less; place = record { takes = takes; place = at ∙ omega arith } });
      unreceived = λ r. let one = one_receiver f r.received in let first = r.place.place in absurd (omega arith);
      first = λ m low. earlier m (omega arith) (omega arith);
    }
  where
    earlier : (m : ℕ) → receivers f + m < v → m < a.positionals → ¬ Goes f a m i
    earlier m low short (inl plain) = let place = plain.place.place in absurd (omega arith)
    earlier m low short (inr keyword) = let number = keyword.number in absurd (omega arith)
placed-fate f a i v takes at false bt false ct =
    let least : receivers f ≤ v = ltb-false v (receivers f) bt in
    let most : a.positionals ≤ v - receivers f = ltb-false (v - receivers f) a.positionals ct in
    keyword-fate f a i (record {
      single = position_single (parameter_at f.params i).kind takes;
      unreceived = λ r. let one = one_receiver f r.received in let first = r.place.place in absurd (omega arith);
      plainless = λ n plain. let place = plain.place.place in let given = plain.given in absurd (omega arith);
    }) (keyword_for f a i) refl

single-fate : (f : Formals) (a : Actuals) (i : ℕ) → takes_rest (parameter_at f.params i).kind ≡ false → (b : Bool) → takes_position (parameter_at f.params i).kind ≡ b
    → IsParamFate f a i (cond b (by_place f a i (parameter_at f.params i) (positions_before f.params i)) (by_keyword a (parameter_at f.params i) (keyword_for f a i)))
unfolding by_place
single-fate f a i single true takes = placed-fate f a i (positions_before f.params i) takes refl _ refl _ refl
single-fate f a i single false takes =
    keyword-fate f a i (record {
      single = single;
      unreceived = λ r. clash _ r.place.takes takes;
      plainless = λ n p. clash _ p.place.takes takes;
    }) (keyword_for f a i) refl

computed-fate : (f : Formals) (a : Actuals) (i : ℕ) (b : Bool) → takes_rest (parameter_at f.params i).kind ≡ b → IsParamFate f a i (cond b Rest (single_fate f a i (parameter_at f.params i)))
unfolding single_fate
computed-fate f a i true e = e
computed-fate f a i false e = single-fate f a i e (takes_position (parameter_at f.params i).kind) refl

pub is_param_fate : (f : Formals) (a : Actuals) (i : ℕ) → IsParamFate f a i (param_fate_of f a i)
unfolding param_fate_of
is_param_fate f a i = computed-fate f a i (takes_rest (parameter_at f.params i).kind) refl
