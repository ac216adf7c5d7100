-- What the rules of a small system say: the right side of each, and the variables that it takes.
use Rattle.std.specs.Prelude.{ℕ, zero, suc, ◌+◌, ◌%◌, cond, List, [], ◌∷◌, ◌++◌, Some, None, slice_index_or}
use Rattle.std.specs.FinSet as set
use Rattle.infer_sets.specs.declared.abs_val.AbsVal.TheVariants.{Module}
use Rattle.infer_sets.specs.Sets.{Set, none, joined, is_below}
use Rattle.infer_equations.specs.Assignment.{Assignment}
use Rattle.infer_systems.specs.declared.rule.Rule.{Rule}
use Rattle.infer_systems.specs.declared.rule.Rule.TheVariants.{Nothing, Unknown, Value, Copy, More, Both, When, Row}

-- the set of the value of a number
abbrev pub value_of : ℕ → Set
value_of n = Some (set.insert set.empty (Module (record { 0 = n })))

abbrev pub no_reads : Assignment → List ℕ
no_reads a = []

abbrev pub with_reads : ℕ → List ℕ
with_reads v = v ∷ []

-- the sets of two variables together
abbrev pub both_right : ℕ → ℕ → ℕ → Assignment → Set
both_right limit v w a = joined limit (a v) (a w)

abbrev pub both_reads : ℕ → ℕ → Assignment → List ℕ
both_reads v w a = (v ∷ []) ++ (w ∷ [])

-- the second where the first is not empty
abbrev pub gated : ℕ → ℕ → Set → Assignment → Set
gated limit w s a = cond (is_below s none) none (joined limit (a w) none)

abbrev pub when_right : ℕ → ℕ → ℕ → Assignment → Set
when_right limit v w a = gated limit w (a v) a

abbrev pub gated_reads : ℕ → Set → Assignment → List ℕ
gated_reads w s a = cond (is_below s none) [] (w ∷ [])

abbrev pub when_reads : ℕ → ℕ → Assignment → List ℕ
when_reads v w a = (v ∷ []) ++ gated_reads w (a v) a

-- the sets of n variables together, from v on and from the last of all `count` to the first
abbrev pub row_right : ℕ → ℕ → ℕ → ℕ → Assignment → Set
row_right count limit v zero a = none
row_right count limit v (suc n) a = joined limit (row_right count limit v n a) (a ((v % count + n) % count))

abbrev pub row_reads : ℕ → ℕ → ℕ → Assignment → List ℕ
row_reads count v zero a = []
row_reads count v (suc n) a = row_reads count v n a ++ ((v % count + n) % count ∷ [])

-- the right side of a rule over `count` variables
abbrev pub rule_right : ℕ → ℕ → Rule → Assignment → Set
rule_right count limit Nothing a = none
rule_right count limit Unknown a = None
rule_right count limit (Value n) a = joined limit (value_of n) (value_of n)
rule_right count limit (Copy v) a = joined limit (a (v % count)) none
rule_right count limit (More v n) a = joined limit (a (v % count)) (value_of n)
rule_right count limit (Both v w) a = both_right limit (v % count) (w % count) a
rule_right count limit (When v w) a = when_right limit (v % count) (w % count) a
rule_right count limit (Row v n) a = row_right count limit v n a

-- the variables that it takes
abbrev pub rule_reads : ℕ → Rule → Assignment → List ℕ
rule_reads count Nothing a = []
rule_reads count Unknown a = []
rule_reads count (Value n) a = []
rule_reads count (Copy v) a = with_reads (v % count)
rule_reads count (More v n) a = with_reads (v % count)
rule_reads count (Both v w) a = both_reads (v % count) (w % count) a
rule_reads count (When v w) a = when_reads (v % count) (w % count) a
rule_reads count (Row v n) a = row_reads count v n a

-- the rule of a variable
abbrev pub rule_at : List Rule → ℕ → Rule
rule_at rules v = slice_index_or rules v Nothing
