-- What a view shows, by the numbers that it keeps.
use Rattle.std.proofs.Common.{◌≡◌, ℕ, ◌<◌, List, [], ◌∷◌, ◌++◌, length, refl, sym, ◌∙◌, ap, subst}
use Rattle.std.specs.Prelude.{Option, Some, None, Result, Ok, Err, IfOk, OnOk, OnErr, IfSome, IsSome, is_some, option_map}
use Rattle.std.specs.List.{Contains}
use Rattle.std.proofs.lemmas.Result.{IfOk-weaker}
use Rattle.std.specs.FinMap.{get, insert, empty}
use Rattle.infer_sets.specs.Sets.{Set}
use Rattle.infer_sets.specs.Numbers.{set_at, IsNumber, Grew}
use Rattle.infer_equations.specs.Assignment.{Assignment, Map, assignment_of, or_none, overlaid}
use Rattle.infer_equations.specs.Valued.{Ids, AreGiven, valued}
use Rattle.infer_equations.specs.Seen.{Seen, sets, solved, Keeps, Stays}
use Rattle.infer_equations.specs.Reading.{Gives}
use Rattle.infer_equations.proofs.Reading.{reads-get, reads-pure}
use Rattle.infer_equations.proofs.Valued.{get-valued, valued-grew, given-grew, valued-insert, given-insert, valued-overlaid, given-overlaid, valued-empty, given-empty}

abbrev pub shown : List Set → Ids → Ids → Ids → List ℕ → Seen
shown xs base own work noted = record { base = valued xs base; own = valued xs own; work = valued xs work; numbers = xs; noted = noted }

abbrev pub AllGiven : List Set → Ids → Ids → Ids → Type 0
AllGiven xs base own work = AreGiven xs base × AreGiven xs own × AreGiven xs work

pub all-given-grew : (xs ys : List Set) (base own work : Ids) → Grew xs ys → AllGiven xs base own work → AllGiven ys base own work
all-given-grew xs ys base own work g a = (given-grew xs ys base g a.0, given-grew xs ys own g a.1, given-grew xs ys work g a.2)

-- the sets of all three, by their numbers
pub sets-valued : (xs : List Set) (base own work : Ids) → valued xs (overlaid (overlaid base own) work) ≡ overlaid (overlaid (valued xs base) (valued xs own)) (valued xs work)
sets-valued xs base own work = valued-overlaid xs (overlaid base own) work ∙ ap (λ m. overlaid m (valued xs work)) (valued-overlaid xs base own)

module _ (u : Seen) (xs ys : List Set) (base own work : Ids) (noted : List ℕ) (is : shown xs base own work noted ≡ u) (grew : Grew xs ys) (are : AllGiven xs base own work) where
  -- numbers were added, and more was noted
  pub stays-grown : (more : List ℕ) → Stays u (shown ys base own work more)
  stays-grown more = subst (λ (w : Seen). Stays w (shown ys base own work more)) is (record {
    keeps = record { base = valued-grew xs ys base grew are.0; own = valued-grew xs ys own grew are.1; numbers = grew };
    work = valued-grew xs ys work grew are.2;
  })

  -- numbers were added, and others are in progress
  pub keeps-grown : (new : Ids) (more : List ℕ) → Keeps u (shown ys base own new more)
  keeps-grown new more = subst (λ (w : Seen). Keeps w (shown ys base own new more)) is (record { base = valued-grew xs ys base grew are.0; own = valued-grew xs ys own grew are.1; numbers = grew })

  -- a number that was asked for
  pub gives-number : {F : Type 0} (s : Set) (ids : Result ℕ F) → IfOk ids (λ id. IsNumber ys id s) → IfOk ids (λ id. Gives (λ _. s) (λ _. []) u (shown ys base own work noted) id)
  gives-number s ids ok = IfOk-weaker ids (λ id. IsNumber ys id s) _ (λ id n. record { set = s; numbered = n; reads = reads-pure s (λ _. []) u (shown ys base own work noted) (stays-grown noted) (ap (λ (w : Seen). w.noted) is) }) ok

  -- what is found is the variable's set
  found_set : (var : ℕ) (found : Option ℕ) → found ≡ get (overlaid (overlaid base own) work) var → or_none (option_map (set_at xs) found) ≡ assignment_of (sets u) var
  unfolding assignment_of
  found_set var found e =
      ap (λ o. or_none (option_map (set_at xs) o)) e ∙ ap or_none (sym (get-valued xs (overlaid (overlaid base own) work) var))
      ∙ ap (λ m. or_none (get m var)) (sets-valued xs base own work) ∙ ap (λ (w : Seen). or_none (get (sets w) var)) is

  pub gives-get : (var id : ℕ) (found : Option ℕ) (more : List ℕ) → found ≡ get (overlaid (overlaid base own) work) var → more ≡ noted ++ var ∷ [] → IsNumber ys id (or_none (option_map (set_at xs) found)) → Gives (λ a. a var) (λ _. var ∷ []) u (shown ys base own work more) id
  gives-get var id found more f e n = record {
    set = or_none (option_map (set_at xs) found);
    numbered = n;
    reads = reads-get var u (shown ys base own work more) _ (stays-grown more) (e ∙ ap (λ (w : Seen). w.noted ++ var ∷ []) is) (found_set var found f);
  }

if_given : (xs : List Set) (m : Ids) (v : ℕ) (o : Option ℕ) → AreGiven xs m → o ≡ get m v → IfSome o (λ id. id < length xs)
if_given xs m v None a e = tt
if_given xs m v (Some id) a e = a.at v id (sym e)

pub all-found : (xs : List Set) (base own work : Ids) (v : ℕ) (o : Option ℕ) → AllGiven xs base own work → o ≡ get (overlaid (overlaid base own) work) v → IfSome o (λ id. id < length xs)
all-found xs base own work v o a e = if_given xs (overlaid (overlaid base own) work) v o (given-overlaid xs (overlaid base own) work (given-overlaid xs base own a.0 a.1) a.2) e

pub found-given : (xs : List Set) (m : Ids) (v : ℕ) (o : Option ℕ) → AreGiven xs m → o ≡ get m v → IfSome o (λ id. id < length xs)
found-given xs m v o a e = if_given xs m v o a e

-- a variable is given a number in progress, or it is refused
pub put-given : {T F : Type 0} (r : Result T F) (xs : List Set) (base own work new : Ids) (v id : ℕ) → id < length xs → OnOk r (new ≡ insert work v id) → OnErr r (new ≡ work) → AllGiven xs base own work → AllGiven xs base own new
put-given (Ok x) xs base own work new v id l ok err a = (a.0, a.1, subst (AreGiven xs) (sym ok) (given-insert xs work v id l a.2))
put-given (Err x) xs base own work new v id l ok err a = (a.0, a.1, subst (AreGiven xs) (sym err) a.2)

module _ {T F : Type 0} (r : Result T F) (u : Seen) (xs ys : List Set) (base own work new : Ids) (noted : List ℕ) (is : shown xs base own work noted ≡ u) (grew : Grew xs ys) (are : AllGiven xs base own work) (v id : ℕ) where
  pub put-ok : (s : Set) → s ≡ set_at ys id → OnOk r (new ≡ insert work v id) → OnOk r (valued ys new ≡ insert u.work v s)
  put-ok s e ok = ok_by r ok
    where
      ok_by : (r : Result T F) → OnOk r (new ≡ insert work v id) → OnOk r (valued ys new ≡ insert u.work v s)
      ok_by (Err x) h = tt
      ok_by (Ok x) h =
          ap (valued ys) h ∙ valued-insert ys work v id ∙ ap (λ m. insert m v (set_at ys id)) (valued-grew xs ys work grew are.2)
          ∙ ap (λ (w : Seen). insert w.work v (set_at ys id)) is ∙ ap (λ t. insert u.work v t) (sym e)

  pub put-err : OnErr r (new ≡ work) → OnErr r (valued ys new ≡ u.work)
  put-err err = err_by r err
    where
      err_by : (r : Result T F) → OnErr r (new ≡ work) → OnErr r (valued ys new ≡ u.work)
      err_by (Ok x) h = tt
      err_by (Err x) h = ap (valued ys) h ∙ valued-grew xs ys work grew are.2 ∙ ap (λ (w : Seen). w.work) is

-- sets in progress became solved, or it was refused
module _ {T F : Type 0} (r : Result T F) (xs : List Set) (base own work moved new none : Ids) (is_work : moved ≡ work) where
  pub settled-given : OnOk r (new ≡ overlaid own moved) → OnErr r (new ≡ own) → none ≡ empty → AllGiven xs base own work → AllGiven xs base new none
  settled-given ok err e a = by_cases r ok err
    where
      by_cases : (r : Result T F) → OnOk r (new ≡ overlaid own moved) → OnErr r (new ≡ own) → AllGiven xs base new none
      by_cases (Ok x) ok err = (a.0, subst (AreGiven xs) (sym (ok ∙ ap (overlaid own) is_work)) (given-overlaid xs own work a.1 a.2), given-empty xs none e)
      by_cases (Err x) ok err = (a.0, subst (AreGiven xs) (sym err) a.1, given-empty xs none e)

  pub settled-ok : (u : Seen) (noted : List ℕ) → shown xs base own work noted ≡ u → OnOk r (new ≡ overlaid own moved) → OnOk r (valued xs new ≡ overlaid u.own u.work)
  settled-ok u noted is ok = by_cases r ok
    where
      by_cases : (r : Result T F) → OnOk r (new ≡ overlaid own moved) → OnOk r (valued xs new ≡ overlaid u.own u.work)
      by_cases (Err x) h = tt
      by_cases (Ok x) h = ap (valued xs) (h ∙ ap (overlaid own) is_work) ∙ valued-overlaid xs own work ∙ ap (λ (w : Seen). overlaid w.own w.work) is

  pub settled-err : (u : Seen) (noted : List ℕ) → shown xs base own work noted ≡ u → OnErr r (new ≡ own) → OnErr r (valued xs new ≡ u.own)
  settled-err u noted is err = by_cases r err
    where
      by_cases : (r : Result T F) → OnErr r (new ≡ own) → OnErr r (valued xs new ≡ u.own)
      by_cases (Ok x) h = tt
      by_cases (Err x) h = ap (valued xs) h ∙ ap (λ (w : Seen). w.own) is
