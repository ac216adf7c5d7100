-- The lines that still stand tell what a line has around it.
use Rattle.std.proofs.Common.{◌≡◌, ◌⊎◌, ℕ, suc, ◌<◌, ◌≤◌, List, [], ◌∷◌, Bool, true, false, nat_lt, nat_eq, ◌||◌, Option, Some, None, refl, sym, ap, subst, ◌∙◌, arith}
use Rattle.std.proofs.lemmas.Bool.Decides.{nat_tests}
use Rattle.py_grammar.specs.declared.head.Head.{Head}
use Rattle.py_blocks.specs.declared.line.Line.{Line}
use Rattle.py_blocks.specs.declared.standing.Standing.{Standing}
use Rattle.py_blocks.specs.declared.standing.Around.{Around}
use Rattle.py_blocks.specs.Heads.{is_try}
use Rattle.py_blocks.specs.Rules.{elders, first, second, under, leaves_try, nearest, level_of, around}
use Rattle.py_blocks.specs.Standing.{left, tries, top_head, elder_at, behind_at, below, surroundings, stand, standing_of}

-- ---- how two levels compare

pub data Compared (a b : ℕ) : Type 0 where
  lower : a < b → nat_lt a b ≡ true → nat_lt b a ≡ false → nat_eq a b ≡ false → nat_eq b a ≡ false → Compared a b
  same : a ≡ b → nat_lt a b ≡ false → nat_lt b a ≡ false → nat_eq a b ≡ true → nat_eq b a ≡ true → Compared a b
  higher : b < a → nat_lt a b ≡ false → nat_lt b a ≡ true → nat_eq a b ≡ false → nat_eq b a ≡ false → Compared a b

by_tests : (a b : ℕ) (below above : Bool) → nat_lt a b ≡ below → nat_lt b a ≡ above → Compared a b
by_tests a b true above e f = lower (grind (arith, nat_tests)) e (grind (arith, nat_tests)) (grind (arith, nat_tests)) (grind (arith, nat_tests))
by_tests a b false true e f = higher (grind (arith, nat_tests)) e f (grind (arith, nat_tests)) (grind (arith, nat_tests))
by_tests a b false false e f = same (grind (arith, nat_tests)) e f (grind (arith, nat_tests)) (grind (arith, nat_tests))

pub compared : (a b : ℕ) → Compared a b
compared a b = by_tests a b (nat_lt a b) (nat_lt b a) refl refl

-- ---- what is left standing

-- those that a line leaves are left by each line of a lower level
left-below : (level m : ℕ) (s : List Standing) → level < m → left level (below m (left m s)) ≡ left level s
left-below level m [] l = refl
left-below level m (t ∷ s) l =
    elim (compared m t.level) [
      | lower h e1 e2 e3 e4 ↦ let f : nat_lt level t.level ≡ true = grind (arith, nat_tests) in rw (e1, f) (left-below level m s l)
      | same h e1 e2 e3 e4 ↦ let f : nat_lt level t.level ≡ true = grind (arith, nat_tests) in rw (e1, e4, f) refl
      | higher h e1 e2 e3 e4 ↦ rw (e1, e4) refl
    ]

-- what stands of a level, and below it
record Stands (level : ℕ) (before : List Line) : Type 0 where
  elder : elder_at level (left level (standing_of before)) ≡ first (elders level before)
  behind : behind_at level (left level (standing_of before)) ≡ second (elders level before)
  under_it : top_head (below level (left level (standing_of before))) ≡ under level before

stands-same : (line : Line) (before : List Line) → Stands line.level before → Stands line.level (line ∷ before)
stands-same line before others =
    let e1 : nat_lt line.level line.level ≡ false = grind (arith, nat_tests) in
    let e2 : nat_eq line.level line.level ≡ true = grind (arith, nat_tests) in
    record {
      elder = rw (e1, e2) refl;
      behind = rw (e1, e2) others.elder;
      under_it = rw (e1, e2) others.under_it;
    }

stands : (before : List Line) (level : ℕ) → Stands level before
stands [] level = record { elder = refl; behind = refl; under_it = refl }
stands (line ∷ before) level =
    let s = standing_of before in
    elim (compared level line.level) [
      | lower h e1 e2 e3 e4 ↦
          let e = left-below level line.level s h in
          let others = stands before level in
          record {
            elder = rw (e1, e2, e) others.elder;
            behind = rw (e1, e2, e) others.behind;
            under_it = rw (e1, e2, e) others.under_it;
          }
      | same h e1 e2 e3 e4 ↦ subst (λ (k : ℕ). Stands k (line ∷ before)) (sym h) (stands-same line before (stands before line.level))
      | higher h e1 e2 e3 e4 ↦ record { elder = rw (e1, e2, e4) refl; behind = rw (e1, e2, e4) refl; under_it = rw (e1, e2, e4) refl }
    ]

-- a `try` among those that stand below a level
tried : (before : List Line) (level limit : ℕ) → level < limit → tries level (below limit (left limit (standing_of before))) ≡ leaves_try level limit before
tried [] level limit l = refl
tried (line ∷ before) level limit l =
    let s = standing_of before in
    elim (compared limit line.level) [
      | lower h e1 e2 e3 e4 ↦
          let f : nat_lt level line.level ≡ true = grind (arith, nat_tests) in
          rw (e1, e2, f, left-below limit line.level s h) (tried before level limit l)
      | same h e1 e2 e3 e4 ↦
          let f : nat_lt level line.level ≡ true = grind (arith, nat_tests) in
          rw (e1, e2, e4, f) (subst (λ (k : ℕ). tries level (below line.level (left line.level s)) ≡ leaves_try level k before) (sym h) (tried before level line.level (omega arith)))
      | higher h e1 e2 e3 e4 ↦
          elim (compared level line.level) [
            | lower k f1 f2 f3 f4 ↦ rw (e1, e2, e4, f1) (ap (λ (b : Bool). is_try line.head || b) (tried before level line.level k))
            | same k f1 f2 f3 f4 ↦ rw (e1, e4, f1) refl
            | higher k f1 f2 f3 f4 ↦ rw (e1, e4, f1) refl
          ]
    ]

tried-before : (before : List Line) (level : ℕ) → tries level (standing_of before) ≡ leaves_try level (suc (level_of (nearest before))) before
tried-before [] level = refl
tried-before (line ∷ before) level =
    let up : nat_lt line.level (suc line.level) ≡ true = grind (arith, nat_tests) in
    elim (compared level line.level) [
      | lower h e1 e2 e3 e4 ↦ rw (e1, up) (ap (λ (b : Bool). is_try line.head || b) (tried before level line.level h))
      | same h e1 e2 e3 e4 ↦ rw e1 refl
      | higher h e1 e2 e3 e4 ↦ rw e1 refl
    ]

pub surroundings-are : (before : List Line) (level : ℕ) → surroundings (nearest before) level (standing_of before) ≡ around level before
surroundings-are before level =
    let s = stands before level in
    let t = tried-before before level in
    rw (s.elder, s.behind, s.under_it, t) refl
