-- What a view shows: the sets of the variables, all sets that have a number, and the variables that were read, in order.
use Rattle.std.specs.Prelude.{◌≡◌, ℕ, List, refl}
use Rattle.std.specs.Coded.{Coded, code_by, coded×, coded_ℕ, coded_list}
use Rattle.infer_sets.specs.Sets.{Set}
use Rattle.infer_sets.specs.Numbers.{numbers_code, Grew}
use Rattle.infer_equations.specs.Assignment.{Map, overlaid}
use Rattle.infer_equations.specs.Valued.{map_code}

-- the sets of the base, those that were solved over it, and those in progress; all sets that have a number; and the variables that were noted
pub record Seen : Type 0 where
  pub base : Map
  pub own : Map
  pub work : Map
  pub numbers : List Set
  pub noted : List ℕ

abbrev pub seen_code : Coded Seen
seen_code =
    code_by (Map × (Map × (Map × (List Set × List ℕ)))) (coded× map_code (coded× map_code (coded× map_code (coded× numbers_code (coded_list coded_ℕ)))))
    (λ s. (s.base, (s.own, (s.work, (s.numbers, s.noted))))) (λ p. record { base = p.0; own = p.1.0; work = p.1.1.0; numbers = p.1.1.1.0; noted = p.1.1.1.1 }) (λ _. refl)

-- the solved sets
abbrev pub solved : Seen → Map
solved s = overlaid s.base s.own

-- the variables' sets: the solved ones, and behind them those in progress
abbrev pub sets : Seen → Map
sets s = overlaid (solved s) s.work

-- the solved sets stay, and what had a number keeps it
pub record Keeps (before after : Seen) : Type 0 where
  pub base : after.base ≡ before.base
  pub own : after.own ≡ before.own
  pub numbers : Grew before.numbers after.numbers

-- all variables keep their sets, and what had a number keeps it
pub record Stays (before after : Seen) : Type 0 where
  pub keeps : Keeps before after
  pub work : after.work ≡ before.work
