-- Each plain argument is taken once, by a parameter or by `*`, or is surplus.
use Rattle.std.proofs.Common.{◌≡◌, ℕ, zero, suc, ◌+◌, ◌-◌, ◌<◌, ◌≤◌, Bool, true, false, cond, List, [], ◌∷◌, length, take, get_or, refl, sym, ap, subst, ◌∙◌, arith, Some, ◌⊎◌, inl, inr, ⊎_elim}
use Rattle.call_binding.specs.declared.fate.ParamFate.{ParamFate}
use Rattle.call_binding.specs.declared.fate.ParamFate.TheVariants as param
use Rattle.call_binding.specs.Parameters.{Parameter, Formals, Actuals, Fates, takes_position, parameter_at, no_parameter, keyword_at, positions, positions_before, receivers}
use Rattle.call_binding.specs.Rule.{TakesPlace, ReceiverGoes, PlainGoes, Goes, HasArgument, IsParamFate, has_var_positional, left_over, param_fate, key_fate, target, IsBinding}
use Rattle.call_binding.specs.Laws.{IsTakenOnce, IsTakenByNone, IsSurplus, IsInStar, IsPlainTaken, IsByKeyword, IsGiven}
use Rattle.std.specs.List.{slice_get}
use Rattle.std.proofs.lemmas.Option.{get_or_from_slice_get, slice_get_within}
use Rattle.call_binding.specs.declared.fate.KeyFate.TheVariants as key
use Rattle.call_binding.proofs.KeyLaws.{one_key_fate}
use Rattle.call_binding.proofs.CountLaws.{positions_more}
use Rattle.call_binding.proofs.FateLaws.{one_param_fate, one_receiver, apart}

-- ---- the parameter of a place

before-more : (p : Parameter) (ps : List Parameter) (i : ℕ) → positions_before (p ∷ ps) (suc i) ≡ cond (takes_position p.kind) 1 0 + positions_before ps i
before-more p ps i = positions_more p (take i ps)

positions-taken : (p : Parameter) (ps : List Parameter) → takes_position p.kind ≡ true → positions (p ∷ ps) ≡ 1 + positions ps
positions-taken p ps e = positions_more p ps ∙ ap (λ (b : Bool). cond b 1 0 + positions ps) e

before-taken : (p : Parameter) (ps : List Parameter) (i : ℕ) (b : Bool) → takes_position p.kind ≡ b → positions_before (p ∷ ps) (suc i) ≡ cond b 1 0 + positions_before ps i
before-taken p ps i b e = before-more p ps i ∙ ap (λ (c : Bool). cond c 1 0 + positions_before ps i) e

-- a parameter that takes a value by position takes one of the first
place-below : (ps : List Parameter) (i v : ℕ) → TakesPlace ps v i → (v < positions ps) × (i < length ps)
place-below [] i v h = absurd (apart (sym h.takes))
place-below (p ∷ ps) zero v h = let all = positions-taken p ps h.takes in let first = h.place in (omega arith, omega arith)
place-below (p ∷ ps) (suc i) v h =
    let more = before-more p ps i in
    let all = positions_more p ps in
    let place = h.place in
    let rest = place-below ps i (positions_before ps i) (record { takes = h.takes; place = refl }) in
    (omega arith, omega arith)

-- each of the first is taken by one
record IsPlaceOf (ps : List Parameter) (v : ℕ) : Type 0 where
  number : ℕ
  counted : number < length ps
  takes : TakesPlace ps v number

further : (p : Parameter) (ps : List Parameter) (b : Bool) (w v : ℕ) → takes_position p.kind ≡ b → cond b 1 0 + w ≡ v → IsPlaceOf ps w → IsPlaceOf (p ∷ ps) v
further p ps b w v e sum h = record {
  number = suc h.number;
  counted = let low = h.counted in omega arith;
  takes = record { takes = h.takes.takes; place = before-taken p ps h.number b e ∙ ap (λ (m : ℕ). cond b 1 0 + m) h.takes.place ∙ sum };
}

place-of : (ps : List Parameter) (v : ℕ) → v < positions ps → IsPlaceOf ps v
place-of [] v low = absurd (omega arith)
place-of (p ∷ ps) v low = by_test (place-of ps) (takes_position p.kind) refl v low
  where
    by_test : ((w : ℕ) → w < positions ps → IsPlaceOf ps w) → (b : Bool) → takes_position p.kind ≡ b → (v : ℕ) → v < positions (p ∷ ps) → IsPlaceOf (p ∷ ps) v
    by_test later true e zero low = record { number = 0; counted = omega arith; takes = record { takes = e; place = refl } }
    by_test later true e (suc v) low = let all = positions-taken p ps e in further p ps true v (suc v) e (omega arith) (later v (omega arith))
    by_test later false e v low =
        let all : positions (p ∷ ps) ≡ 0 + positions ps = positions_more p ps ∙ ap (λ (c : Bool). cond c 1 0 + positions ps) e in
        further p ps false v v e (omega arith) (later v (omega arith))

-- and by one alone
one-place : (ps : List Parameter) (v i k : ℕ) → TakesPlace ps v i → TakesPlace ps v k → i ≡ k
one-place [] v i k h g = absurd (apart (sym h.takes))
one-place (p ∷ ps) v zero zero h g = refl
one-place (p ∷ ps) v zero (suc k) h g = let more = before-taken p ps k true h.takes in let first = h.place in let other = g.place in absurd (omega arith)
one-place (p ∷ ps) v (suc i) zero h g = let more = before-taken p ps i true g.takes in let first = g.place in let other = h.place in absurd (omega arith)
one-place (p ∷ ps) v (suc i) (suc k) h g =
    let more = before-more p ps i in
    let also = before-more p ps k in
    let first = h.place in
    let other = g.place in
    ap suc (one-place ps (positions_before ps i) i k (record { takes = h.takes; place = refl }) (record { takes = g.takes; place = omega arith }))

-- ---- a plain argument

-- it has the parameter of its place, and is the first that goes there
plain-has : (f : Formals) (a : Actuals) (n i : ℕ) → n < a.positionals → TakesPlace f.params (receivers f + n) i → HasArgument f a i n
plain-has f a n i given place = record {
  goes = inl (record { given = given; place = place });
  unreceived = λ r. let one = one_receiver f r.received in let first = r.place.place in let at = place.place in absurd (omega arith);
  first = earlier;
}
  where
    earlier : (m : ℕ) → m < n → ¬ Goes f a m i
    earlier m low (inl plain) = let first = plain.place.place in let at = place.place in absurd (omega arith)
    earlier m low (inr keyword) = let number = keyword.number in absurd (omega arith)

-- a parameter that has it is that of its place
has-place : (f : Formals) (a : Actuals) (n i : ℕ) → n < a.positionals → HasArgument f a i n → TakesPlace f.params (receivers f + n) i
has-place f a n i given h = by_goes h.goes
  where
    by_goes : Goes f a n i → TakesPlace f.params (receivers f + n) i
    by_goes (inl plain) = plain.place
    by_goes (inr keyword) = let number = keyword.number in absurd (omega arith)

-- in a binding too
bound-place : (f : Formals) (a : Actuals) (b : Fates) (n i : ℕ) → IsBinding f a b → n < a.positionals → i < length f.params → param_fate b i ≡ param.Arg n → TakesPlace f.params (receivers f + n) i
bound-place f a b n i h given counted e = let P : ParamFate → Type 0 = λ u. IsParamFate f a i u in has-place f a n i given (subst P e (h.params i counted))

less_or_not : (m n : ℕ) → (m < n) ⊎ (n ≤ m)
less_or_not zero zero = inr (omega arith)
less_or_not zero (suc n) = inl (omega arith)
less_or_not (suc m) zero = inr (omega arith)
less_or_not (suc m) (suc n) = ⊎_elim (λ low. inl (omega arith)) (λ high. inr (omega arith)) (less_or_not m n)

-- it has a place
taken-once : (f : Formals) (a : Actuals) (b : Fates) (n : ℕ) → IsBinding f a b → n < a.positionals → IsPlaceOf f.params (receivers f + n) → IsTakenOnce b (length f.params) n
taken-once f a b n h given place = record {
  by = place.number;
  counted = place.counted;
  takes = one_param_fate f a place.number (param_fate b place.number) (param.Arg n) (h.params place.number place.counted) (plain-has f a n place.number given place.takes);
  only = λ i counted e. one-place f.params (receivers f + n) i place.number (bound-place f a b n i h given counted e) place.takes;
}

-- it has none
untaken : (f : Formals) (a : Actuals) (b : Fates) (n : ℕ) → IsBinding f a b → n < a.positionals → positions f.params ≤ receivers f + n → IsTakenByNone b (length f.params) n
untaken f a b n h given high = record {
  untaken = λ i counted e. let low = (place-below f.params i (receivers f + n) (bound-place f a b n i h given counted e)).0 in absurd (omega arith);
}

left-over : (f : Formals) (a : Actuals) (c : Bool) → has_var_positional f.params ≡ c → left_over f a ≡ cond c 0 ((receivers f + a.positionals) - positions f.params)
left-over f a c e = ap (λ (d : Bool). cond d 0 ((receivers f + a.positionals) - positions f.params)) e

beyond : (f : Formals) (a : Actuals) (b : Fates) (n : ℕ) → IsBinding f a b → n < a.positionals → positions f.params ≤ receivers f + n → (c : Bool) → has_var_positional f.params ≡ c → IsInStar f b n ⊎ IsSurplus f a b n
beyond f a b n h given high true e = inl (record { star = e; untaken = untaken f a b n h given high; beyond = high })
beyond f a b n h given high false e =
    let count : b.surplus ≡ (receivers f + a.positionals) - positions f.params = h.surplus ∙ left-over f a false e in
    inr (record { starless = e; untaken = untaken f a b n h given high; last = omega arith })

pub plain_taken : (f : Formals) (a : Actuals) (b : Fates) (n : ℕ) → IsBinding f a b → n < a.positionals → IsPlainTaken f a b n
plain_taken f a b n h given =
    ⊎_elim (λ low. inl (taken-once f a b n h given (place-of f.params (receivers f + n) low)))
    (λ high. inr (beyond f a b n h given high (has_var_positional f.params) refl)) (less_or_not (receivers f + n) (positions f.params))

-- ---- the argument of a parameter

has-bound : (f : Formals) (a : Actuals) (b : Fates) (i n : ℕ) → IsBinding f a b → slice_get b.params i ≡ Some (param.Arg n) → HasArgument f a i n
has-bound f a b i n h e =
    let P : ParamFate → Type 0 = λ u. IsParamFate f a i u in
    subst P (get_or_from_slice_get b.params i (param.Arg n) param.Missing e) (h.params i (counted (slice_get_within b.params i (param.Arg n) e)))
  where
    counted : i < length b.params → i < length f.params
    counted low = let long = h.each_param in omega arith

-- a keyword whose argument a parameter has takes that parameter
takes-it : (f : Formals) (a : Actuals) (b : Fates) (i n j : ℕ) → IsBinding f a b → HasArgument f a i n → n ≡ a.positionals + j → j < length a.keywords → target f.params (keyword_at a.keywords j) ≡ Some i → key_fate b j ≡ key.Takes i
takes-it f a b i n j h has number given goes =
    let P : ℕ → Type 0 = λ m. HasArgument f a i m in
    one_key_fate f a j (key_fate b j) (h.keywords j given) ∙ sym (one_key_fate f a j (key.Takes i) (record { goes = goes; has = subst P number has }))

pub given_by : (f : Formals) (a : Actuals) (b : Fates) (i n : ℕ) → IsBinding f a b → slice_get b.params i ≡ Some (param.Arg n) → IsGiven a b i n
given_by f a b i n h e = by_goes (has-bound f a b i n h e) (has-bound f a b i n h e).goes
  where
    by_goes : HasArgument f a i n → Goes f a n i → IsGiven a b i n
    by_goes has (inl plain) = inl plain.given
    by_goes has (inr word) = inr (record {
      keyword = word.keyword;
      number = word.number;
      given = word.given;
      takes = takes-it f a b i n word.keyword h has word.number word.given word.goes;
    })
