-- Languages whose trees are each of some sorts: one law for each way to build a language.
use Rattle.std.proofs.Common.{ℕ, zero, suc, Bool, List, inl, inr}
use Rattle.tree_nodes.specs.declared.kind.Kind.{Kind}
use Rattle.tree_nodes.specs.Trees.{Tree, pack}
use Rattle.tree_nodes.specs.Sorts.{Sort, IsOf}
use Rattle.tree_nodes.specs.Shapes.{one, maybe, many}
use Rattle.tree_nodes.specs.Shaped.{kinds_of}
use Rattle.py_language.specs.Languages.{Language, Then, Nothing, Either, Maybe, Times, Many, Some, Preferred, Skipped, Where, Separated, Bracketed, Steps, Stepwise}
use Rattle.py_language.specs.Forms.{Forms, AreOfSorts}
use Rattle.py_language.proofs.KindLaws.{kinds_append, shaped_append, of_append, of_wider, row_fits, fits_row, fits_single, fits_possible}

-- ---- forms of one part, and sorts

-- trees each of some sorts are a row of them
pub form_row_of : {T : Type 0} {sorts : List Sort} {a : Language T} → AreOfSorts sorts a → Forms (many sorts) a
form_row_of {sorts = sorts} A = record { shaped = A.shaped; fits = λ ts out h. row_fits sorts (kinds_of (pack out)) (A.each ts out h) }

pub sorts_row : {T : Type 0} {sorts : List Sort} {a : Language T} → Forms (many sorts) a → AreOfSorts sorts a
sorts_row {sorts = sorts} A = record { shaped = A.shaped; each = λ ts out h. fits_row sorts (kinds_of (pack out)) (A.fits ts out h) }

pub sorts_single : {T : Type 0} {sorts : List Sort} {a : Language T} → Forms (one sorts) a → AreOfSorts sorts a
sorts_single {sorts = sorts} A = record { shaped = A.shaped; each = λ ts out h. fits_single sorts (kinds_of (pack out)) (A.fits ts out h) }

pub sorts_possible : {T : Type 0} {sorts : List Sort} {a : Language T} → Forms (maybe sorts) a → AreOfSorts sorts a
sorts_possible {sorts = sorts} A = record { shaped = A.shaped; each = λ ts out h. fits_possible sorts (kinds_of (pack out)) (A.fits ts out h) }

-- each of these sorts is one of those
pub sorts_wider : {T : Type 0} {sorts more : List Sort} {a : Language T} → ((kind : Kind) → IsOf sorts kind → IsOf more kind) → AreOfSorts sorts a → AreOfSorts more a
sorts_wider {sorts = sorts} {more = more} w A = record { shaped = A.shaped; each = λ ts out h. of_wider sorts more w (kinds_of (pack out)) (A.each ts out h) }

module _ {T : Type 0} (sorts : List Sort) where
  -- no trees at all
  pub sorts_nothing : AreOfSorts {T = T} sorts Nothing
  sorts_nothing = record { shaped = λ ts out h. rw h.1 tt; each = λ ts out h. rw h.1 tt }

  pub sorts_skipped : (code : T → ℕ) (set : List ℕ) → AreOfSorts sorts (Skipped code set)
  sorts_skipped code set = record { shaped = λ ts out h. rw h.trees tt; each = λ ts out h. rw h.trees tt }

  pub sorts_then : {a b : Language T} → AreOfSorts sorts a → AreOfSorts sorts b → AreOfSorts sorts (Then a b)
  sorts_then A B = record {
    shaped = λ ts out h. rw h.trees (shaped_append h.front_out h.back_out (A.shaped h.front h.front_out h.first) (B.shaped h.back h.back_out h.second));
    each = λ ts out h.
        rw (h.trees, kinds_append h.front_out h.back_out) (of_append sorts (kinds_of (pack h.front_out)) (kinds_of (pack h.back_out)) (A.each h.front h.front_out h.first) (B.each h.back h.back_out h.second));
  }

  pub sorts_either : {a b : Language T} → AreOfSorts sorts a → AreOfSorts sorts b → AreOfSorts sorts (Either a b)
  sorts_either A B = record {
    shaped = λ ts out h. elim h [ inl g ↦ A.shaped ts out g | inr g ↦ B.shaped ts out g ];
    each = λ ts out h. elim h [ inl g ↦ A.each ts out g | inr g ↦ B.each ts out g ];
  }

  pub sorts_preferred : {a b : Language T} → AreOfSorts sorts a → AreOfSorts sorts b → AreOfSorts sorts (Preferred a b)
  sorts_preferred A B = record {
    shaped = λ ts out h. elim h [ inl g ↦ A.shaped ts out g | inr g ↦ B.shaped ts out g.0 ];
    each = λ ts out h. elim h [ inl g ↦ A.each ts out g | inr g ↦ B.each ts out g.0 ];
  }

  pub sorts_maybe : {a : Language T} → AreOfSorts sorts a → AreOfSorts sorts (Maybe a)
  sorts_maybe A = sorts_either A sorts_nothing

  sorts_times : {a : Language T} → AreOfSorts sorts a → (n : ℕ) → AreOfSorts sorts (Times a n)
  sorts_times A zero = sorts_nothing
  sorts_times A (suc n) = sorts_then A (sorts_times A n)

  pub sorts_many : {a : Language T} → AreOfSorts sorts a → AreOfSorts sorts (Many a)
  sorts_many A = record { shaped = λ ts out h. (sorts_times A h.0).shaped ts out h.1; each = λ ts out h. (sorts_times A h.0).each ts out h.1 }

  pub sorts_some : {a : Language T} → AreOfSorts sorts a → AreOfSorts sorts (Some a)
  sorts_some A = sorts_then A (sorts_many A)

  pub sorts_where : {a : Language T} (test : List Tree → Bool) → AreOfSorts sorts a → AreOfSorts sorts (Where test a)
  sorts_where test A = record { shaped = λ ts out h. A.shaped ts out h.0; each = λ ts out h. A.each ts out h.0 }

  pub sorts_separated : {a : Language T} (code : T → ℕ) (separator : List ℕ) → AreOfSorts sorts a → AreOfSorts sorts (Separated (Skipped code separator) a)
  sorts_separated code separator A = sorts_then A (sorts_then (sorts_many (sorts_then (sorts_skipped code separator) A)) (sorts_maybe (sorts_skipped code separator)))

  pub sorts_bracketed : {a : Language T} (code : T → ℕ) (opening closing : List ℕ) → AreOfSorts sorts a → AreOfSorts sorts (Bracketed code opening closing a)
  sorts_bracketed code opening closing A = sorts_then (sorts_skipped code opening) (sorts_then A (sorts_skipped code closing))

  pub sorts_steps : {a : Language T} (step : Language T → Language T) → ((b : Language T) → AreOfSorts sorts b → AreOfSorts sorts (step b)) → AreOfSorts sorts a → AreOfSorts sorts (Stepwise step a)
  sorts_steps {a} step S A = record { shaped = λ ts out h. (go h.0).shaped ts out h.1; each = λ ts out h. (go h.0).each ts out h.1 }
    where
      go : (n : ℕ) → AreOfSorts sorts (Steps step a n)
      go zero = A
      go (suc n) = S (Steps step a n) (go n)
