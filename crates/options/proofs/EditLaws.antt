-- What allowed edits give.
use Rattle.std.proofs.Common.{◌≡◌, ℕ, ◌≤◌, Bool, true, false, cond, ◌&&◌, ◌||◌, List, [], ◌∷◌, ◌++◌, Option, None, Some, option_map, find, reverse, refl, sym, ap, subst, ◌∙◌, arith, lit≤}
use Rattle.std.proofs.lemmas.Bool.{and_parts}
use Rattle.std.proofs.lemmas.Bool.Decides.{nat_tests}
use Rattle.std.proofs.lemmas.List.{reverse-append}
use Rattle.std.proofs.lemmas.List.Folds.{find-append}
use Rattle.std.proofs.lemmas.Slice.Eq.{bytes_eq-Decides}
use Rattle.std.specs.List.{list_all}
use Rattle.std.specs.Option.{option_or}
use Rattle.option_words.specs.declared.option_name.OptionName.{OptionName}
use Rattle.option_words.specs.declared.option_name.OptionName.TheVariants.{Disable, Enable, ErrorsOnly, Jobs, Score, Rcfile, Ignore, Recursive, FailUnder, FailOn, ExitZero, IgnoredClasses, AdditionalBuiltins, LimitInferenceResults, MaxLineLength, MaxModuleLines, MaxArgs, MaxLocals, MaxReturns, MaxBranches, MaxStatements, MaxAttributes, MaxPublicMethods, MinPublicMethods, MaxParents}
use Rattle.option_words.specs.declared.option_name.Kind.{Kind}
use Rattle.option_words.specs.declared.option_name.Kind.TheVariants.{Flag, MessageNames, YesOrNo, Number, Hundredths, Texts, Path}
use Rattle.option_words.specs.OptionNames.{kind, long_name, named_option}
use Rattle.option_words.specs.Values.{is_up_to_ten, number_of}
use Rattle.options.specs.declared.edits.Edit.{Edit}
use Rattle.options.specs.Edits.{allows, are_allowed, edit_of, given, is_allowed, is_edit_of, is_flag_value, last_value}
use Rattle.options.specs.Settings.{is_in_range}

-- each long name names its option
pub named_itself : (option : OptionName) → named_option (long_name option) ≡ Some option
named_itself Disable = refl
named_itself Enable = refl
named_itself ErrorsOnly = refl
named_itself Jobs = refl
named_itself Score = refl
named_itself Rcfile = refl
named_itself Ignore = refl
named_itself Recursive = refl
named_itself FailUnder = refl
named_itself FailOn = refl
named_itself ExitZero = refl
named_itself IgnoredClasses = refl
named_itself AdditionalBuiltins = refl
named_itself LimitInferenceResults = refl
named_itself MaxLineLength = refl
named_itself MaxModuleLines = refl
named_itself MaxArgs = refl
named_itself MaxLocals = refl
named_itself MaxReturns = refl
named_itself MaxBranches = refl
named_itself MaxStatements = refl
named_itself MaxAttributes = refl
named_itself MaxPublicMethods = refl
named_itself MinPublicMethods = refl
named_itself MaxParents = refl

-- the edit that gives an option a value which it may have
pub edit_of_allowed : (option : OptionName) (value : List ℕ) → allows (kind option) value ≡ true → is_allowed (edit_of option value) ≡ true
edit_of_allowed option value allowed = rw (named_itself option) allowed

-- one edit more
pub are_allowed-push : (edits : List Edit) (edit : Edit) → are_allowed edits ≡ true → is_allowed edit ≡ true → are_allowed (edits ++ edit ∷ []) ≡ true
are_allowed-push [] edit all one = rw one refl
are_allowed-push (e ∷ es) edit all one =
    let parts = and_parts (is_allowed e) (are_allowed es) all in
    rw (parts.0) (are_allowed-push es edit parts.1 one)

module _ {X : Type 0} (p q : X → Bool) where
  by_test : (y x : X) → q y ≡ true → find p (y ∷ []) ≡ Some x → (q x ≡ true) × (p x ≡ true)
  by_test y x passes is = by (p y) refl is
    where
      by : (b : Bool) → p y ≡ b → cond b (Some y) None ≡ Some x → (q x ≡ true) × (p x ≡ true)
      by true e is = (cc, cc)
      by false e is = cc

  by_found : (found : Option X) (y x : X) → q y ≡ true → ((z : X) → found ≡ Some z → (q z ≡ true) × (p z ≡ true)) → option_or found (find p (y ∷ [])) ≡ Some x → (q x ≡ true) × (p x ≡ true)
  by_found None y x passes before is = by_test y x passes is
  by_found (Some z) y x passes before is = before x is

  -- what is found passes both tests
  found_last : (xs : List X) (x : X) → list_all q xs ≡ true → find p (reverse xs) ≡ Some x → (q x ≡ true) × (p x ≡ true)
  found_last [] x all is = cc
  found_last (y ∷ ys) x all is =
      let parts : (q y ≡ true) × (list_all q ys ≡ true) = and_parts (q y) (list_all q ys) all in
      let turned : find p (reverse (y ∷ ys)) ≡ option_or (find p (reverse ys)) (find p (y ∷ [])) = ap (find p) (reverse-append (y ∷ []) ys) ∙ find-append p (reverse ys) (y ∷ []) in
      by_found (find p (reverse ys)) y x parts.0 (λ z e. found_last ys z parts.1 e) (sym turned ∙ is)

allowed_by_name : (option : OptionName) (edit : Edit) → is_allowed edit ≡ true → is_edit_of option edit ≡ true → allows (kind option) edit.value ≡ true
allowed_by_name option edit allowed named =
    let name : edit.name ≡ long_name option = (bytes_eq-Decides edit.name (long_name option)).0 named in
    let found : named_option edit.name ≡ Some option = ap named_option name ∙ named_itself option in
    rw found at allowed

last_allowed : (option : OptionName) (edits : List Edit) (value : List ℕ) → are_allowed edits ≡ true → last_value option edits ≡ Some value → allows (kind option) value ≡ true
last_allowed option edits value all is = by (find (is_edit_of option) (reverse edits)) refl is
  where
    by : (found : Option Edit) → find (is_edit_of option) (reverse edits) ≡ found → option_map (λ e. e.value) found ≡ Some value → allows (kind option) value ≡ true
    by None e is = cc
    by (Some edit) e is =
        let both = found_last (is_edit_of option) is_allowed edits edit all e in
        let same : edit.value ≡ value = cc in
        subst (λ v. allows (kind option) v ≡ true) same (allowed_by_name option edit both.0 both.1)

-- the value that is given is one that the option may have
pub given_allowed : (option : OptionName) (file line : List Edit) (value : List ℕ) → are_allowed file ≡ true → are_allowed line ≡ true → given option file line ≡ Some value → allows (kind option) value ≡ true
given_allowed option file line value files lines is = by (last_value option line) refl is
  where
    by : (found : Option (List ℕ)) → last_value option line ≡ found → option_or found (last_value option file) ≡ Some value → allows (kind option) value ≡ true
    by None e is = last_allowed option file value files is
    by (Some v) e is = last_allowed option line value lines (e ∙ is)

number_within : (low high : ℕ) (value : List ℕ) → allows (Number low high) value ≡ true → is_in_range (Number low high) (number_of value) ≡ true
number_within low high value allowed = grind (arith, nat_tests)

-- a number that is given is one that the option may have
pub number_allowed : (k : Kind) (n : ℕ) (value : List ℕ) → is_in_range k n ≡ true → (k ≡ Hundredths → ⊥) → allows k value ≡ true → is_in_range k (number_of value) ≡ true
number_allowed Flag n value range other allowed = cc
number_allowed MessageNames n value range other allowed = cc
number_allowed YesOrNo n value range other allowed = cc
number_allowed (Number low high) n value range other allowed = number_within low high value allowed
number_allowed Hundredths n value range other allowed = absurd (other refl)
number_allowed Texts n value range other allowed = cc
number_allowed Path n value range other allowed = cc

below_high : (low high n : ℕ) → high ≤ 1000000 → is_in_range (Number low high) n ≡ true → n ≤ 1000000
below_high low high n bound range = grind (arith, nat_tests)

-- no option has a larger number
pub range_bound : (option : OptionName) (n : ℕ) → is_in_range (kind option) n ≡ true → n ≤ 1000000
range_bound Disable n range = cc
range_bound Enable n range = cc
range_bound ErrorsOnly n range = cc
range_bound Jobs n range = below_high 0 64 n (lit≤ tt) range
range_bound Score n range = cc
range_bound Rcfile n range = cc
range_bound Ignore n range = cc
range_bound Recursive n range = cc
range_bound FailUnder n range = grind (arith, nat_tests)
range_bound FailOn n range = cc
range_bound ExitZero n range = cc
range_bound IgnoredClasses n range = cc
range_bound AdditionalBuiltins n range = cc
range_bound LimitInferenceResults n range = below_high 1 1000 n (lit≤ tt) range
range_bound MaxLineLength n range = below_high 0 1000000 n (lit≤ tt) range
range_bound MaxModuleLines n range = below_high 0 1000000 n (lit≤ tt) range
range_bound MaxArgs n range = below_high 0 1000000 n (lit≤ tt) range
range_bound MaxLocals n range = below_high 0 1000000 n (lit≤ tt) range
range_bound MaxReturns n range = below_high 0 1000000 n (lit≤ tt) range
range_bound MaxBranches n range = below_high 0 1000000 n (lit≤ tt) range
range_bound MaxStatements n range = below_high 0 1000000 n (lit≤ tt) range
range_bound MaxAttributes n range = below_high 0 1000000 n (lit≤ tt) range
range_bound MaxPublicMethods n range = below_high 0 1000000 n (lit≤ tt) range
range_bound MinPublicMethods n range = below_high 0 1000000 n (lit≤ tt) range
range_bound MaxParents n range = below_high 0 1000000 n (lit≤ tt) range

or_false : (a b : Bool) → (a || (false && b)) ≡ true → a ≡ true
or_false true b e = refl
or_false false b e = e

-- hundredths that are given are up to ten
pub hundredths_allowed : (value : List ℕ) → allows Hundredths value ≡ true → is_up_to_ten value ≡ true
hundredths_allowed value allowed = or_false (is_up_to_ten value) (is_flag_value value) allowed
