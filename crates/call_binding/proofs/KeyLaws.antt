-- Each keyword has exactly one fate, which `key_fate_of` gives, and each call one binding.
use Rattle.std.proofs.Common.{◌≡◌, ℕ, ◌+◌, ◌<◌, Bool, true, false, cond, eq-eqb, List, [], length, get_or, map, refl, sym, ap, subst, ◌∙◌, arith, Option, Some, None, ◌⊎◌, inl, inr}
use Rattle.std.proofs.lemmas.Bool.{eqb-true}
use Rattle.std.specs.List.{list_any, slice_get}
use Rattle.std.proofs.lemmas.Option.{slice_get-get_or}
use Rattle.scope_rules.specs.Nodes.{below}
use Rattle.call_binding.specs.declared.fate.ParamFate.{ParamFate}
use Rattle.call_binding.specs.declared.fate.ParamFate.TheVariants as param
use Rattle.call_binding.specs.declared.fate.KeyFate.{KeyFate}
use Rattle.call_binding.specs.declared.fate.KeyFate.TheVariants.{Takes, Rest, Unexpected, Twice, PositionalOnly}
use Rattle.call_binding.specs.Parameters.{Formals, Actuals, Fates, keyword_at, is_hidden}
use Rattle.call_binding.specs.Rule.{target, HasArgument, IsParamFate, repeats, var_keyword, IsTaken, IsBeside, IsInRest, IsNotTaken, IsKeyFate, left_over, param_fate, key_fate, IsBinding}
use Rattle.call_binding.specs.Fates.{param_fate_of, has_argument, taken_fate, untaken_fate, free_fate, fate_at_target, key_fate_of, fates_of}
use Rattle.call_binding.proofs.FateLaws.{one_param_fate, is_param_fate, apart}
use Rattle.call_binding.proofs.ListLaws.{lists_agree, mapped_length, mapped_get}

-- ---- whether a parameter has an argument

argument-of : (u : ParamFate) (n : ℕ) → has_argument u n ≡ true → u ≡ param.Arg n
argument-of (param.Arg m) n e = ap param.Arg (eqb-true m n e)
argument-of param.Receiver n e = absurd (apart (sym e))
argument-of param.Default n e = absurd (apart (sym e))
argument-of param.Rest n e = absurd (apart (sym e))
argument-of param.Missing n e = absurd (apart (sym e))

has-one : (f : Formals) (a : Actuals) (i n : ℕ) (u : ParamFate) → IsParamFate f a i u → u ≡ param.Arg n → HasArgument f a i n
has-one f a i n (param.Arg m) h e = subst-number m n h (same m n e)
  where
    same : (m n : ℕ) → param.Arg m ≡ param.Arg n → m ≡ n
    same m n e = cc

    subst-number : (m n : ℕ) → HasArgument f a i m → m ≡ n → HasArgument f a i n
    subst-number m n h e = let P : ℕ → Type 0 = λ k. HasArgument f a i k in subst P e h
has-one f a i n param.Receiver h e = absurd (never e)
  where
    never : param.Receiver ≡ param.Arg n → ⊥
    never e = cc
has-one f a i n param.Default h e = absurd (never e)
  where
    never : param.Default ≡ param.Arg n → ⊥
    never e = cc
has-one f a i n param.Rest h e = absurd (never e)
  where
    never : param.Rest ≡ param.Arg n → ⊥
    never e = cc
has-one f a i n param.Missing h e = absurd (never e)
  where
    never : param.Missing ≡ param.Arg n → ⊥
    never e = cc

has-computed : (f : Formals) (a : Actuals) (i n : ℕ) → has_argument (param_fate_of f a i) n ≡ true → HasArgument f a i n
has-computed f a i n e = has-one f a i n (param_fate_of f a i) (is_param_fate f a i) (argument-of (param_fate_of f a i) n e)

computed-has : (f : Formals) (a : Actuals) (i n : ℕ) → HasArgument f a i n → has_argument (param_fate_of f a i) n ≡ true
computed-has f a i n h =
    ap (λ (u : ParamFate). has_argument u n) (sym (one_param_fate f a i (param.Arg n) (param_fate_of f a i) h (is_param_fate f a i))) ∙ eq-eqb n n refl

-- ---- the fate that is computed

at-target : (f : Formals) (a : Actuals) (j i : ℕ) → target f.params (keyword_at a.keywords j) ≡ Some i → (b : Bool) → has_argument (param_fate_of f a i) (a.positionals + j) ≡ b → IsKeyFate f a j (cond b (Takes i) (Twice i))
at-target f a j i e true h = record { goes = e; has = has-computed f a i (a.positionals + j) h }
at-target f a j i e false h = inl (record { goes = e; other = λ k. apart (sym (computed-has f a i (a.positionals + j) k) ∙ h) })

at-rest : (f : Formals) (a : Actuals) (j i : ℕ) → target f.params (keyword_at a.keywords j) ≡ None → var_keyword f.params ≡ Some i → (b : Bool) → repeats a j ≡ b → IsKeyFate f a j (cond b (Twice i) Rest)
at-rest f a j i e rest true h = inr (record { free = e; rest = rest; repeated = h })
at-rest f a j i e rest false h = (i, record { free = e; rest = rest; repeated = h })

at-none : (f : Formals) (a : Actuals) (j : ℕ) → target f.params (keyword_at a.keywords j) ≡ None → var_keyword f.params ≡ None → (b : Bool) → list_any (is_hidden (keyword_at a.keywords j)) f.params ≡ b → IsKeyFate f a j (cond b PositionalOnly Unexpected)
at-none f a j e rest true h = record { free = e; restless = rest; name = h }
at-none f a j e rest false h = record { free = e; restless = rest; name = h }

free-fate : (f : Formals) (a : Actuals) (j : ℕ) → target f.params (keyword_at a.keywords j) ≡ None → (o : Option ℕ) → var_keyword f.params ≡ o → IsKeyFate f a j (free_fate f a j o)
unfolding free_fate
free-fate f a j e None rest = at-none f a j e rest (list_any (is_hidden (keyword_at a.keywords j)) f.params) refl
free-fate f a j e (Some i) rest = at-rest f a j i e rest (repeats a j) refl

taken-fate : (f : Formals) (a : Actuals) (j i : ℕ) → target f.params (keyword_at a.keywords j) ≡ Some i → IsKeyFate f a j (taken_fate f a j i)
unfolding taken_fate
taken-fate f a j i e = at-target f a j i e (has_argument (param_fate_of f a i) (a.positionals + j)) refl

target-fate : (f : Formals) (a : Actuals) (j : ℕ) (o : Option ℕ) → target f.params (keyword_at a.keywords j) ≡ o → IsKeyFate f a j (fate_at_target f a j o)
target-fate f a j None e = free-fate f a j e (var_keyword f.params) refl
target-fate f a j (Some i) e = taken-fate f a j i e

pub is_key_fate : (f : Formals) (a : Actuals) (j : ℕ) → IsKeyFate f a j (key_fate_of f a j)
unfolding key_fate_of
is_key_fate f a j = target-fate f a j (target f.params (keyword_at a.keywords j)) refl

-- ---- no two fates

by-target : (f : Formals) (a : Actuals) (j : ℕ) (o : Option ℕ) → target f.params (keyword_at a.keywords j) ≡ o → key_fate_of f a j ≡ fate_at_target f a j o
unfolding key_fate_of
by-target f a j o e = ap (fate_at_target f a j) e

by-argument : (f : Formals) (a : Actuals) (j i : ℕ) (b : Bool) → has_argument (param_fate_of f a i) (a.positionals + j) ≡ b → taken_fate f a j i ≡ cond b (Takes i) (Twice i)
unfolding taken_fate
by-argument f a j i b e = ap (λ (c : Bool). cond c (Takes i) (Twice i)) e

by-rest : (f : Formals) (a : Actuals) (j i : ℕ) (b : Bool) → repeats a j ≡ b → free_fate f a j (Some i) ≡ cond b (Twice i) Rest
unfolding free_fate
by-rest f a j i b e = ap (λ (c : Bool). cond c (Twice i) Rest) e

by-none : (f : Formals) (a : Actuals) (j : ℕ) (b : Bool) → list_any (is_hidden (keyword_at a.keywords j)) f.params ≡ b → free_fate f a j None ≡ cond b PositionalOnly Unexpected
unfolding free_fate
by-none f a j b e = ap (λ (c : Bool). cond c PositionalOnly Unexpected) e

not-true : (b : Bool) → (b ≡ true → ⊥) → b ≡ false
not-true true never = absurd (never refl)
not-true false never = refl

in-rest : (f : Formals) (a : Actuals) (j i : ℕ) (b : Bool) → IsInRest f a j i b → key_fate_of f a j ≡ cond b (Twice i) Rest
in-rest f a j i b h = by-target f a j None h.free ∙ ap (free_fate f a j) h.rest ∙ by-rest f a j i b h.repeated

not-taken : (f : Formals) (a : Actuals) (j : ℕ) (b : Bool) → IsNotTaken f a j b → key_fate_of f a j ≡ cond b PositionalOnly Unexpected
not-taken f a j b h = by-target f a j None h.free ∙ ap (free_fate f a j) h.restless ∙ by-none f a j b h.name

pub one_key_fate : (f : Formals) (a : Actuals) (j : ℕ) (u : KeyFate) → IsKeyFate f a j u → u ≡ key_fate_of f a j
one_key_fate f a j (Takes i) h = sym (by-target f a j (Some i) h.goes ∙ by-argument f a j i true (computed-has f a i (a.positionals + j) h.has))
one_key_fate f a j Rest h = sym (in-rest f a j h.0 false h.1)
one_key_fate f a j (Twice i) (inl h) =
    sym (by-target f a j (Some i) h.goes ∙ by-argument f a j i false (not-true _ (λ e. h.other (has-computed f a i (a.positionals + j) e))))
one_key_fate f a j (Twice i) (inr h) = sym (in-rest f a j i true h)
one_key_fate f a j PositionalOnly h = sym (not-taken f a j true h)
one_key_fate f a j Unexpected h = sym (not-taken f a j false h)

-- ---- the binding

params-are : (f : Formals) (a : Actuals) → (fates_of f a).params ≡ map (param_fate_of f a) (below (length f.params))
unfolding fates_of
params-are f a = refl

keywords-are : (f : Formals) (a : Actuals) → (fates_of f a).keywords ≡ map (key_fate_of f a) (below (length a.keywords))
unfolding fates_of
keywords-are f a = refl

surplus-is : (f : Formals) (a : Actuals) → (fates_of f a).surplus ≡ left_over f a
unfolding fates_of
surplus-is f a = refl

params_length : (f : Formals) (a : Actuals) → length (fates_of f a).params ≡ length f.params
params_length f a = ap length (params-are f a) ∙ mapped_length (param_fate_of f a) (length f.params)

keywords_length : (f : Formals) (a : Actuals) → length (fates_of f a).keywords ≡ length a.keywords
keywords_length f a = ap length (keywords-are f a) ∙ mapped_length (key_fate_of f a) (length a.keywords)

param_at : (f : Formals) (a : Actuals) (i : ℕ) → i < length f.params → param_fate (fates_of f a) i ≡ param_fate_of f a i
param_at f a i low = ap (λ (us : List ParamFate). get_or us i param.Missing) (params-are f a) ∙ mapped_get (param_fate_of f a) (length f.params) i param.Missing low

keyword_fate_at : (f : Formals) (a : Actuals) (j : ℕ) → j < length a.keywords → key_fate (fates_of f a) j ≡ key_fate_of f a j
keyword_fate_at f a j low = ap (λ (us : List KeyFate). get_or us j Unexpected) (keywords-are f a) ∙ mapped_get (key_fate_of f a) (length a.keywords) j Unexpected low

pub is_binding : (f : Formals) (a : Actuals) → a.starred ≡ false → IsBinding f a (fates_of f a)
is_binding f a plain = record {
  plain = plain;
  each_param = params_length f a;
  each_keyword = keywords_length f a;
  params = λ i low. let P : ParamFate → Type 0 = λ u. IsParamFate f a i u in subst P (sym (param_at f a i low)) (is_param_fate f a i);
  keywords = λ j low. let P : KeyFate → Type 0 = λ u. IsKeyFate f a j u in subst P (sym (keyword_fate_at f a j low)) (is_key_fate f a j);
  surplus = surplus-is f a;
}

-- three equal parts make equal fates
same-fates : (b c : Fates) → b.params ≡ c.params → b.keywords ≡ c.keywords → b.surplus ≡ c.surplus → b ≡ c
same-fates b c p k s =
    ap (λ (us : List ParamFate). let r : Fates = record { params = us; keywords = b.keywords; surplus = b.surplus } in r) p
    ∙ ap (λ (us : List KeyFate). let r : Fates = record { params = c.params; keywords = us; surplus = b.surplus } in r) k
    ∙ ap (λ (n : ℕ). let r : Fates = record { params = c.params; keywords = c.keywords; surplus = n } in r) s

pub one_binding : (f : Formals) (a : Actuals) (b : Fates) → IsBinding f a b → b ≡ fates_of f a
one_binding f a b h =
    let params : b.params ≡ (fates_of f a).params =
    lists_agree b.params (fates_of f a).params param.Missing (h.each_param ∙ sym (params_length f a))
    (λ i low. let made : i < length f.params = fits i low in one_param_fate f a i (param_fate b i) (param_fate_of f a i) (h.params i made) (is_param_fate f a i) ∙ sym (param_at f a i made)) in
    let keywords : b.keywords ≡ (fates_of f a).keywords =
    lists_agree b.keywords (fates_of f a).keywords Unexpected (h.each_keyword ∙ sym (keywords_length f a))
    (λ j low. let made : j < length a.keywords = given j low in one_key_fate f a j (key_fate b j) (h.keywords j made) ∙ sym (keyword_fate_at f a j made)) in
    same-fates b (fates_of f a) params keywords (h.surplus ∙ sym (surplus-is f a))
  where
    fits : (i : ℕ) → i < length b.params → i < length f.params
    fits i low = let long = h.each_param in omega arith

    given : (j : ℕ) → j < length b.keywords → j < length a.keywords
    given j low = let long = h.each_keyword in omega arith

-- ---- what is asked of a binding

pub param_given : (f : Formals) (a : Actuals) (b : Fates) (i : ℕ) (u : ParamFate) → fates_of f a ≡ b → i < length f.params → u ≡ param_fate_of f a i → slice_get b.params i ≡ Some u
param_given f a b i u view low e =
    let low' : i < length (fates_of f a).params = counted low in
    ap (λ (c : Fates). slice_get c.params i) (sym view) ∙ slice_get-get_or (fates_of f a).params i param.Missing low' ∙ ap Some (param_at f a i low ∙ sym e)
  where
    counted : i < length f.params → i < length (fates_of f a).params
    counted low = let long = params_length f a in omega arith

pub params_seen : (f : Formals) (a : Actuals) (b : Fates) → fates_of f a ≡ b → length f.params ≡ length b.params
params_seen f a b view = sym (params_length f a) ∙ ap (λ (c : Fates). length c.params) view

pub keywords_seen : (f : Formals) (a : Actuals) (b : Fates) → fates_of f a ≡ b → length a.keywords ≡ length b.keywords
keywords_seen f a b view = sym (keywords_length f a) ∙ ap (λ (c : Fates). length c.keywords) view

pub param_counted : (f : Formals) (a : Actuals) (b : Fates) (i : ℕ) → fates_of f a ≡ b → i < length b.params → i < length f.params
param_counted f a b i view low = let long : length b.params ≡ length f.params = ap (λ (c : Fates). length c.params) (sym view) ∙ params_length f a in omega arith

pub keyword_given : (f : Formals) (a : Actuals) (b : Fates) (j : ℕ) (u : KeyFate) → fates_of f a ≡ b → j < length a.keywords → u ≡ key_fate_of f a j → slice_get b.keywords j ≡ Some u
keyword_given f a b j u view low e =
    let low' : j < length (fates_of f a).keywords = counted low in
    ap (λ (c : Fates). slice_get c.keywords j) (sym view) ∙ slice_get-get_or (fates_of f a).keywords j Unexpected low' ∙ ap Some (keyword_fate_at f a j low ∙ sym e)
  where
    counted : j < length a.keywords → j < length (fates_of f a).keywords
    counted low = let long = keywords_length f a in omega arith

pub keyword_counted : (f : Formals) (a : Actuals) (b : Fates) (j : ℕ) → fates_of f a ≡ b → j < length b.keywords → j < length a.keywords
keyword_counted f a b j view low = let long : length b.keywords ≡ length a.keywords = ap (λ (c : Fates). length c.keywords) (sym view) ∙ keywords_length f a in omega arith
