-- The forms of languages: one law for each way to build a language.
use Rattle.std.proofs.Common.{◌≡◌, ℕ, zero, suc, Bool, true, List, [], ◌∷◌, ◌++◌, inl, inr, refl, sym, subst, is_some}
use Rattle.std.proofs.lemmas.List.{append-nil}
use Rattle.tree_nodes.specs.declared.kind.Kind.{Kind}
use Rattle.tree_nodes.specs.Trees.{Node, Tree, pack}
use Rattle.tree_nodes.specs.Sorts.{Sort, is_named, IsOf}
use Rattle.tree_nodes.specs.Shapes.{Part, a_row_of_pairs, ArePairs, Fits, FitsOneOf, one, maybe, many, some, shape, before_each}
use Rattle.tree_nodes.specs.Shaped.{kinds_of, HasShape, AreShaped}
use Rattle.py_language.specs.Sets.{mem}
use Rattle.py_language.specs.Languages.{Language, Then, Nothing, Either, Maybe, Times, Many, Some, Preferred, Shown, Skipped, Made, Where, Separated, Bracketed, Steps, Stepwise, whole, row}
use Rattle.py_language.specs.Forms.{Forms, FormsOneOf, AreOfSorts}
use Rattle.py_language.proofs.KindLaws.{kinds_append, shaped_append, fits_append, fits_left, fits_right, fits_before, each_before, fits_behind, single_possible, single_wider, pairs_append, pairs_fit}
use Rattle.py_language.proofs.SortLaws.{form_row_of, sorts_single, sorts_many, sorts_then, sorts_maybe, sorts_skipped}

module _ {T : Type 0} where
  -- ---- parts

  -- the parts of one form are those of another
  pub form_as : {parts others : List Part} {a : Language T} → ((kinds : List Kind) → Fits parts kinds → Fits others kinds) → Forms parts a → Forms others a
  form_as w A = record { shaped = A.shaped; fits = λ ts out h. w (kinds_of (pack out)) (A.fits ts out h) }

  -- a tree of one of these sorts is one of those
  pub form_wider : {sorts more : List Sort} {a : Language T} → ((kind : Kind) → IsOf sorts kind → IsOf more kind) → Forms (one sorts) a → Forms (one more) a
  form_wider {sorts} {more} w A = form_as (single_wider sorts more w) A

  pub form_nothing : Forms {T = T} [] Nothing
  form_nothing = record { shaped = λ ts out h. rw h.1 tt; fits = λ ts out h. rw h.1 refl }

  pub form_nowhere : (parts : List Part) → Forms {T = T} parts (λ ts out. ⊥)
  form_nowhere parts = record { shaped = λ ts out h. absurd h; fits = λ ts out h. absurd h }

  pub form_skipped : (code : T → ℕ) (set : List ℕ) → Forms [] (Skipped code set)
  form_skipped code set = record { shaped = λ ts out h. rw h.trees tt; fits = λ ts out h. rw h.trees refl }

  -- a token that is a node of one of these sorts: it has no kids, and a name where its kind has one
  pub form_shown : (sorts : List Sort) (code : T → ℕ) (node_of : T → Node) (set : List ℕ) → ((t : T) → mem (code t) set ≡ true → HasShape (node_of t) []) → ((t : T) → mem (code t) set ≡ true → IsOf sorts (node_of t).kind)
      → Forms (one sorts) (Shown code node_of set)
  form_shown sorts code node_of set leaf sort = record { shaped = λ ts out h. rw h.trees (leaf h.token h.is_in, tt, tt); fits = λ ts out h. rw h.trees (sort h.token h.is_in, refl) }

  pub form_then : {parts others : List Part} {a b : Language T} → Forms parts a → Forms others b → Forms (parts ++ others) (Then a b)
  form_then {parts} {others} A B = record {
    shaped = λ ts out h. rw h.trees (shaped_append h.front_out h.back_out (A.shaped h.front h.front_out h.first) (B.shaped h.back h.back_out h.second));
    fits = λ ts out h.
        rw (h.trees, kinds_append h.front_out h.back_out) (fits_append parts others (kinds_of (pack h.front_out)) (kinds_of (pack h.back_out)) (A.fits h.front h.front_out h.first) (B.fits h.back h.back_out h.second));
  }

  pub form_either : {parts : List Part} {a b : Language T} → Forms parts a → Forms parts b → Forms parts (Either a b)
  form_either A B = record {
    shaped = λ ts out h. elim h [ inl g ↦ A.shaped ts out g | inr g ↦ B.shaped ts out g ];
    fits = λ ts out h. elim h [ inl g ↦ A.fits ts out g | inr g ↦ B.fits ts out g ];
  }

  pub form_preferred : {parts : List Part} {a b : Language T} → Forms parts a → Forms parts b → Forms parts (Preferred a b)
  form_preferred A B = record {
    shaped = λ ts out h. elim h [ inl g ↦ A.shaped ts out g | inr g ↦ B.shaped ts out g.0 ];
    fits = λ ts out h. elim h [ inl g ↦ A.fits ts out g | inr g ↦ B.fits ts out g.0 ];
  }

  pub form_maybe : {sorts : List Sort} {a : Language T} → Forms (one sorts) a → Forms (maybe sorts) (Maybe a)
  form_maybe {sorts} {a} A = form_either (form_as (single_possible sorts) A) (form_as none_possible form_nothing)
    where
      none_possible : (kinds : List Kind) → Fits [] kinds → Fits (maybe sorts) kinds
      none_possible [] h = h
      none_possible (kind ∷ kinds) h = inl h

  pub form_many : {sorts : List Sort} {a : Language T} → AreOfSorts sorts a → Forms (many sorts) (Many a)
  form_many {sorts} A = form_row_of (sorts_many sorts A)

  pub form_some : {sorts : List Sort} {a : Language T} → Forms (one sorts) a → Forms (some sorts) (Some a)
  form_some A = form_then A (form_many (sorts_single A))

  -- pairs one behind another
  pub form_pairs : {firsts seconds : List Sort} {a b : Language T} → Forms (one firsts) a → Forms (one seconds) b → Forms (a_row_of_pairs firsts seconds ∷ []) (Many (Then a b))
  form_pairs {firsts} {seconds} {a} {b} A B = record { shaped = λ ts out h. shaped_times h.0 ts out h.1; fits = λ ts out h. pairs_fit firsts seconds (kinds_of (pack out)) (pairs_times h.0 ts out h.1) }
    where
      pair : Forms (one firsts ++ one seconds) (Then a b)
      pair = form_then A B

      are_pairs : (kinds : List Kind) → Fits (one firsts ++ one seconds) kinds → ArePairs firsts seconds kinds
      are_pairs [] h = absurd h
      are_pairs (x ∷ []) h = absurd h.1
      are_pairs (x ∷ y ∷ kinds) h = (h.0, h.1.0, subst (λ (ks : List Kind). ArePairs firsts seconds ks) (sym h.1.1) tt)

      shaped_times : (n : ℕ) (ts : List T) (out : List Tree) → Times (Then a b) n ts out → AreShaped (pack out)
      shaped_times zero ts out h = rw h.1 tt
      shaped_times (suc n) ts out h = rw h.trees (shaped_append h.front_out h.back_out (pair.shaped h.front h.front_out h.first) (shaped_times n h.back h.back_out h.second))

      pairs_times : (n : ℕ) (ts : List T) (out : List Tree) → Times (Then a b) n ts out → ArePairs firsts seconds (kinds_of (pack out))
      pairs_times zero ts out h = rw h.1 tt
      pairs_times (suc n) ts out h =
          let first = are_pairs (kinds_of (pack h.front_out)) (pair.fits h.front h.front_out h.first) in
          rw (h.trees, kinds_append h.front_out h.back_out) (pairs_append firsts seconds (kinds_of (pack h.front_out)) (kinds_of (pack h.back_out)) first (pairs_times n h.back h.back_out h.second))

  -- ---- separators, brackets and tests

  pub form_separated : {sorts : List Sort} {a : Language T} (code : T → ℕ) (separator : List ℕ) → Forms (one sorts) a → Forms (some sorts) (Separated (Skipped code separator) a)
  form_separated {sorts} code separator A =
      form_then A (form_row_of (sorts_then sorts (sorts_many sorts (sorts_then sorts (sorts_skipped sorts code separator) (sorts_single A))) (sorts_maybe sorts (sorts_skipped sorts code separator))))

  -- the same with no separator behind the last
  pub form_joined : {sorts : List Sort} {a : Language T} (code : T → ℕ) (separator : List ℕ) → Forms (one sorts) a → Forms (some sorts) (Then a (Many (Then (Skipped code separator) a)))
  form_joined {sorts} code separator A = form_then A (form_many (sorts_then sorts (sorts_skipped sorts code separator) (sorts_single A)))

  pub form_bracketed : {parts : List Part} {a : Language T} (code : T → ℕ) (opening closing : List ℕ) → Forms parts a → Forms parts (Bracketed code opening closing a)
  form_bracketed {parts} {a} code opening closing A = form_as nothing_behind (form_then (form_skipped code opening) (form_then A (form_skipped code closing)))
    where
      nothing_behind : (kinds : List Kind) → Fits (parts ++ []) kinds → Fits parts kinds
      nothing_behind kinds h = rw append-nil at h

  pub form_where : {parts : List Part} {a : Language T} (test : List Tree → Bool) → Forms parts a → Forms parts (Where test a)
  form_where test A = record { shaped = λ ts out h. A.shaped ts out h.0; fits = λ ts out h. A.fits ts out h.0 }

  -- where the test says that trees of some sorts fit the parts
  pub form_tested : {parts : List Part} {sorts : List Sort} {a : Language T} (test : List Tree → Bool) → AreOfSorts sorts a → ((ts : List T) (out : List Tree) → a ts out → test out ≡ true → Fits parts (kinds_of (pack out)))
      → Forms parts (Where test a)
  form_tested test A fits = record { shaped = λ ts out h. A.shaped ts out h.0; fits = λ ts out h. fits ts out h.0 h.1 }

  pub form_steps : {parts : List Part} {a : Language T} (step : Language T → Language T) → ((b : Language T) → Forms parts b → Forms parts (step b)) → Forms parts a → Forms parts (Stepwise step a)
  form_steps {parts} {a} step S A = record { shaped = λ ts out h. (go h.0).shaped ts out h.1; fits = λ ts out h. (go h.0).fits ts out h.1 }
    where
      go : (n : ℕ) → Forms parts (Steps step a n)
      go zero = A
      go (suc n) = S (Steps step a n) (go n)

  -- ---- one of some forms

  pub forms_sole : {parts : List Part} {a : Language T} → Forms parts a → FormsOneOf (parts ∷ []) a
  forms_sole A = record { shaped = A.shaped; fits = λ ts out h. inl (A.fits ts out h) }

  pub form_sole : {parts : List Part} {a : Language T} → FormsOneOf (parts ∷ []) a → Forms parts a
  form_sole {parts} A = record { shaped = A.shaped; fits = λ ts out h. sole (kinds_of (pack out)) (A.fits ts out h) }
    where
      sole : (kinds : List Kind) → FitsOneOf (parts ∷ []) kinds → Fits parts kinds
      sole kinds h = elim h [ inl g ↦ g | inr g ↦ absurd g ]

  pub forms_as : {forms others : List (List Part)} {a : Language T} → ((kinds : List Kind) → FitsOneOf forms kinds → FitsOneOf others kinds) → FormsOneOf forms a → FormsOneOf others a
  forms_as w A = record { shaped = A.shaped; fits = λ ts out h. w (kinds_of (pack out)) (A.fits ts out h) }

  pub forms_either : {forms others : List (List Part)} {a b : Language T} → FormsOneOf forms a → FormsOneOf others b → FormsOneOf (forms ++ others) (Either a b)
  forms_either {forms} {others} A B = record {
    shaped = λ ts out h. elim h [ inl g ↦ A.shaped ts out g | inr g ↦ B.shaped ts out g ];
    fits = λ ts out h. elim h [ inl g ↦ fits_left forms others (kinds_of (pack out)) (A.fits ts out g) | inr g ↦ fits_right forms others (kinds_of (pack out)) (B.fits ts out g) ];
  }

  -- or no trees
  pub forms_maybe : {forms : List (List Part)} {a : Language T} → FormsOneOf forms a → FormsOneOf (forms ++ [] ∷ []) (Maybe a)
  forms_maybe A = forms_either A (forms_sole form_nothing)

  -- the same parts before each form
  pub forms_then : {parts : List Part} {forms : List (List Part)} {a b : Language T} → Forms parts a → FormsOneOf forms b → FormsOneOf (before_each parts forms) (Then a b)
  forms_then {parts} {forms} A B = record {
    shaped = λ ts out h. rw h.trees (shaped_append h.front_out h.back_out (A.shaped h.front h.front_out h.first) (B.shaped h.back h.back_out h.second));
    fits = λ ts out h.
        rw (h.trees, kinds_append h.front_out h.back_out) (fits_before parts forms (kinds_of (pack h.front_out)) (kinds_of (pack h.back_out)) (A.fits h.front h.front_out h.first) (B.fits h.back h.back_out h.second));
  }

  -- each form before the same parts
  pub forms_behind : {forms : List (List Part)} {parts : List Part} {a b : Language T} → FormsOneOf forms a → Forms parts b → FormsOneOf (each_before forms parts) (Then a b)
  forms_behind {forms} {parts} A B = record {
    shaped = λ ts out h. rw h.trees (shaped_append h.front_out h.back_out (A.shaped h.front h.front_out h.first) (B.shaped h.back h.back_out h.second));
    fits = λ ts out h.
        rw (h.trees, kinds_append h.front_out h.back_out) (fits_behind forms parts (kinds_of (pack h.front_out)) (kinds_of (pack h.back_out)) (A.fits h.front h.front_out h.first) (B.fits h.back h.back_out h.second));
  }

  -- ---- nodes

  -- a function of the tokens and of the trees
  pub form_made : {a : Language T} (parts : List Part) (over : List T → List Tree → List Tree) → ((ts : List T) (u : List Tree) → a ts u → AreShaped (pack (over ts u))) → ((ts : List T) (u : List Tree) → a ts u → Fits parts (kinds_of (pack (over ts u))))
      → Forms parts (Made over a)
  form_made parts over shaped fits = record { shaped = λ ts out h. rw h.trees (shaped ts h.parts h.spelled); fits = λ ts out h. rw h.trees (fits ts h.parts h.spelled) }

  -- a node whose kind is of one of the sorts and has these forms, over parts of one of the forms; it has a name where its
  -- kind has one
  pub form_whole : {forms : List (List Part)} {a : Language T} (sorts : List Sort) (node_over : List T → Node) → FormsOneOf forms a
      → ((ts : List T) (parts : List Tree) → a ts parts → FitsOneOf forms (kinds_of (pack parts)) → FitsOneOf (shape (node_over ts).kind) (kinds_of (pack parts)))
      → ((ts : List T) (parts : List Tree) → a ts parts → is_some (node_over ts).name ≡ is_named (node_over ts).kind) → ((ts : List T) (parts : List Tree) → a ts parts → IsOf sorts (node_over ts).kind)
      → Forms (one sorts) (Made (whole node_over) a)
  form_whole sorts node_over A shapes named sort = record {
    shaped = λ ts out h. rw h.trees (record { fits = shapes ts h.parts h.spelled (A.fits ts h.parts h.spelled); named = named ts h.parts h.spelled }, A.shaped ts h.parts h.spelled, tt);
    fits = λ ts out h. rw h.trees (sort ts h.parts h.spelled, refl);
  }

  -- the same where the kind has one form
  pub form_node : {parts : List Part} {a : Language T} (sorts : List Sort) (node_over : List T → Node) → Forms parts a
      → ((ts : List T) (kinds : List Kind) → Fits parts kinds → FitsOneOf (shape (node_over ts).kind) kinds) → ((ts : List T) (parts : List Tree) → a ts parts → is_some (node_over ts).name ≡ is_named (node_over ts).kind)
      → ((ts : List T) → IsOf sorts (node_over ts).kind) → Forms (one sorts) (Made (whole node_over) a)
  form_node {parts} sorts node_over A shapes named sort =
      form_whole sorts node_over (forms_sole A) (λ ts u h fit. shapes ts (kinds_of (pack u)) (sole parts (kinds_of (pack u)) fit)) named (λ ts u h. sort ts)
    where
      sole : (form : List Part) (kinds : List Kind) → FitsOneOf (form ∷ []) kinds → Fits form kinds
      sole form kinds h = elim h [ inl g ↦ g | inr g ↦ absurd g ]

  -- one part alone, or a node over two or more
  pub form_row : {parts : List Part} {a : Language T} (sorts : List Sort) (node_over : List T → Node) → Forms parts a → (Fits parts [] → ⊥) → ((kind : Kind) → Fits parts (kind ∷ []) → IsOf sorts kind)
      → ((ts : List T) (x y : Kind) (kinds : List Kind) → Fits parts (x ∷ y ∷ kinds) → FitsOneOf (shape (node_over ts).kind) (x ∷ y ∷ kinds)) → ((ts : List T) → is_some (node_over ts).name ≡ is_named (node_over ts).kind)
      → ((ts : List T) → IsOf sorts (node_over ts).kind) → Forms (one sorts) (Made (row node_over) a)
  form_row {parts} {a} sorts node_over A some_part single shapes named sort =
      record { shaped = λ ts out h. rw h.trees (shaped_row ts h.parts (A.shaped ts h.parts h.spelled) (A.fits ts h.parts h.spelled)); fits = λ ts out h. rw h.trees (fits_row_of ts h.parts (A.fits ts h.parts h.spelled)) }
    where
      shaped_row : (ts : List T) (u : List Tree) → AreShaped (pack u) → Fits parts (kinds_of (pack u)) → AreShaped (pack (row node_over ts u))
      shaped_row ts [] shaped fit = tt
      shaped_row ts (t ∷ []) shaped fit = shaped
      shaped_row ts (t ∷ v ∷ u) shaped fit = (record { fits = shapes ts t.node.kind v.node.kind (kinds_of (pack u)) fit; named = named ts }, shaped, tt)

      fits_row_of : (ts : List T) (u : List Tree) → Fits parts (kinds_of (pack u)) → Fits (one sorts) (kinds_of (pack (row node_over ts u)))
      fits_row_of ts [] fit = absurd (some_part fit)
      fits_row_of ts (t ∷ []) fit = (single t.node.kind fit, refl)
      fits_row_of ts (t ∷ v ∷ u) fit = (sort ts, refl)
