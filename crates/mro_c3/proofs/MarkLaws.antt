-- Laws of marks, and of the classes that are reached.
use Rattle.std.proofs.Common.{◌≡◌, ℕ, ◌+◌, ◌≤◌, ◌<◌, List, [], ◌∷◌, ◌++◌, Bool, true, false, zero, suc, set, get_or, replicate, ap, subst, sym, ◌∙◌, arith, length, inl, inr}
use Rattle.std.specs.List.{Contains, All}
use Rattle.std.proofs.lemmas.Bool.{cases_lt}
use Rattle.std.proofs.lemmas.List.{get_or-set_same, get_or-set_other, get_or_past, length-set, length-replicate, get_or-replicate}
use Rattle.std.proofs.lemmas.List.Elements.{All-same, All-weaker, Contains-append_left, Contains-append_right, Contains-append_cases}
use Rattle.mro_c3.specs.Order.{bases, BasesAreBelow, Reaches, itself, by_base}
use Rattle.mro_c3.specs.Table.{IsMarked, Marks, MarksFrom, MarksReached}
use Rattle.mro_c3.proofs.OrderLaws.{below_row}
use Rattle.mro_c3.proofs.Occurrences.{Contains-none, Contains-cases, Contains-here, same_or_other}

pub Marks-nil : (marks : List Bool) → Marks [] marks marks
Marks-nil marks = record { kept = λ n is. is; added = λ n none. absurd (Contains-none n none); only = λ n is. inl is }

pub Marks-then : (xs ys : List ℕ) (a b c : List Bool) → Marks xs a b → Marks ys b c → Marks (xs ++ ys) a c
Marks-then xs ys a b c first second = record {
  kept = λ n is. second.kept n (first.kept n is);
  added = λ n among.
      elim (Contains-append_cases xs ys n among) [ inl left ↦ second.kept n (first.added n left) | inr right ↦ second.added n right ];
  only = λ n is.
      elim (second.only n is) [
        | inl before ↦ elim (first.only n before) [ inl old ↦ inl old | inr left ↦ inr (Contains-append_left xs ys n left) ]
        | inr right ↦ inr (Contains-append_right xs ys n right)
      ];
}

pub Marks-set : (marks : List Bool) (class : ℕ) → class < length marks → Marks (class ∷ []) marks (set marks class true)
Marks-set marks class below =
    let here : IsMarked (set marks class true) class = get_or-set_same marks class true false below in
    record {
      kept = λ n is.
          elim (same_or_other class n) [
            | inl same ↦ subst (λ m. IsMarked (set marks class true) m) same here
            | inr differs ↦ get_or-set_other marks class n true false (λ same. differs (sym same)) ∙ is
          ];
      added = λ n among.
          elim (Contains-cases n class [] among) [
            | inl same ↦ subst (λ m. IsMarked (set marks class true) m) same here
            | inr none ↦ absurd (Contains-none n none)
          ];
      only = λ n is.
          elim (same_or_other class n) [
            | inl same ↦ inr (subst (λ m. Contains (class ∷ []) m) same (Contains-here class []))
            | inr differs ↦ inl (sym (get_or-set_other marks class n true false (λ same. differs (sym same))) ∙ is)
          ];
    }

-- what a base of a reached class is
Reaches-base : (rows : List (List ℕ)) {k n : ℕ} (base : ℕ) → Reaches rows k n → Contains (bases rows n) base → Reaches rows k base
Reaches-base rows base itself among = by_base among itself
Reaches-base rows base (by_base there further) among = by_base there (Reaches-base rows base further among)

pub marked_below : (marks : List Bool) (n : ℕ) → IsMarked marks n → n < length marks
marked_below marks n is =
    elim (cases_lt n (length marks)) [
      | inl below ↦ below
      | inr past ↦ let h : false ≡ true = sym (get_or_past marks n false past) ∙ is in absurd (cc)
    ]

no_mark : (n k : ℕ) → get_or (replicate k false) n false ≡ false
no_mark n k =
    elim (cases_lt n k) [
      | inl below ↦ get_or-replicate k n false false below
      | inr past ↦ get_or_past (replicate k false) n false (omega (arith, past, length-replicate k false))
    ]

-- at the start no class but the first is marked
pub MarksFrom-start : (rows : List (List ℕ)) → BasesAreBelow rows → (k : ℕ) (empty : List Bool) → empty ≡ replicate (k + 1) false → MarksFrom rows k (k + 1) (set empty k true)
MarksFrom-start rows below k empty is =
    let size : length empty ≡ k + 1 = ap length is ∙ length-replicate (k + 1) false in
    let none : (n : ℕ) → get_or empty n false ≡ false = λ n. ap (λ xs. get_or xs n false) is ∙ no_mark n (k + 1) in
    record {
      size = length-set empty k true ∙ size;
      start = get_or-set_same empty k true false (omega (arith, size));
      reached = λ n marked.
          elim (same_or_other k n) [
            | inl same ↦ subst (λ m. Reaches rows k m) same itself
            | inr differs ↦ let h : false ≡ true = sym (none n) ∙ sym (get_or-set_other empty k n true false (λ same. differs (sym same))) ∙ marked in absurd (cc)
          ];
      closed = λ n base past marked among. absurd (omega (arith, past, size, length-set empty k true, marked_below (set empty k true) n marked));
    }

-- a class that is not marked
pub MarksFrom-unmarked : (rows : List (List ℕ)) (k class : ℕ) (marks : List Bool) → get_or marks class false ≡ false → MarksFrom rows k (class + 1) marks → MarksFrom rows k class marks
MarksFrom-unmarked rows k class marks unmarked so_far = record {
  size = so_far.size;
  start = so_far.start;
  reached = so_far.reached;
  closed = λ n base past is among.
      elim (same_or_other class n) [
        | inl same ↦ let h : false ≡ true = sym unmarked ∙ subst (λ m. IsMarked marks m) (sym same) is in absurd (cc)
        | inr differs ↦ so_far.closed n base (omega (arith, past, differs)) is among
      ];
}

-- a class whose bases are marked
pub MarksFrom-marked : (rows : List (List ℕ)) → BasesAreBelow rows → (k class : ℕ) (marks later : List Bool) → length later ≡ length marks → IsMarked marks class → Marks (bases rows class) marks later → MarksFrom rows k (class + 1) marks → MarksFrom rows k class later
MarksFrom-marked rows below k class marks later same_size marked more so_far = record {
  size = same_size ∙ so_far.size;
  start = more.kept k so_far.start;
  reached = λ n is.
      elim (more.only n is) [
        | inl before ↦ so_far.reached n before
        | inr base ↦ Reaches-base rows n (so_far.reached class marked) base
      ];
  closed = λ n base past is among.
      elim (same_or_other class n) [
        | inl same ↦ more.added base (subst (λ m. Contains (bases rows m) base) (sym same) among)
        | inr differs ↦
            elim (more.only n is) [
              | inl before ↦ more.kept base (so_far.closed n base (omega (arith, past, differs)) before among)
              | inr row ↦ absurd (omega (arith, past, below_row rows below class n row))
            ]
      ];
}

pub MarksReached-from : (rows : List (List ℕ)) (k : ℕ) (marks : List Bool) → MarksFrom rows k 0 marks → MarksReached rows k marks
MarksReached-from rows k marks all = record {
  size = all.size;
  start = all.start;
  reached = all.reached;
  closed = λ n base is among. all.closed n base (omega arith) is among;
}

-- what is read of a row
pub row_is : (rows : List (List ℕ)) (class : ℕ) (row : List ℕ) → class < length rows → row ≡ get_or rows class row → row ≡ bases rows class
row_is [] class row known is = absurd (omega (arith, known))
row_is (r ∷ rows) zero row known is = is
row_is (r ∷ rows) (suc class) row known is = row_is rows class row (omega (arith, known)) is

-- the bases of a class have marks
pub row_below : (rows : List (List ℕ)) → BasesAreBelow rows → (k class : ℕ) (marks : List Bool) (row : List ℕ) → class ≤ k → k < length rows → length marks ≡ k + 1 → row ≡ bases rows class → All (λ n. n < length marks) row
row_below rows below k class marks row within known size is =
    All-same (λ n. n < length marks) row (bases rows class) is
    (All-weaker (λ n. n < class) (λ n. n < length marks) (λ n less. omega (arith, less, within, size)) (bases rows class) (below class (omega (arith, within, known))))
