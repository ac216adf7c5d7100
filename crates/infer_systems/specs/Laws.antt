-- The rules of a small system are lawful: they rise, they keep within the limit, and they take variables of the system.
use Rattle.std.proofs.Common.{◌≡◌, ℕ, zero, suc, ◌+◌, ◌<◌, ◌%◌, Bool, true, false, cond, [], ◌∷◌, refl, arith}
use Rattle.std.specs.Prelude.{None}
use Rattle.std.specs.List.{All}
use Rattle.std.proofs.lemmas.List.Elements.{All-append, All-nil, All-cons}
use Rattle.infer_sets.specs.Sets.{Set, none, joined, is_below, Below, Fits}
use Rattle.infer_sets.proofs.SetOrder.{below-refl, below-trans, below-none, fits-none, fits-None}
use Rattle.infer_sets.proofs.Join.{joined-least, fits-joined, below-joined_left, below-joined_right, joined-rises}
use Rattle.infer_equations.specs.Assignment.{Assignment, Within, AllFit}
use Rattle.infer_systems.specs.declared.rule.Rule.{Rule}
use Rattle.infer_systems.specs.declared.rule.Rule.TheVariants.{Nothing, Unknown, Value, Copy, More, Both, When, Row}
use Rattle.infer_systems.specs.Rules.{value_of, row_right, row_reads, rule_right, rule_reads}

both-rise : (limit : ℕ) (s t u v : Set) → Below s t → Below u v → Below (joined limit s u) (joined limit t v)
both-rise limit s t u v h k =
    joined-least limit s u (joined limit t v) (fits-joined limit t v) (below-trans s t _ h (below-joined_left limit t v)) (below-trans u v _ k (below-joined_right limit t v))

gated-rises : (limit w : ℕ) (a b : Assignment) (s t : Set) → Within a b → Below s t → (c d : Bool) → is_below s none ≡ c → is_below t none ≡ d → Below (cond c none (joined limit (a w) none)) (cond d none (joined limit (b w) none))
gated-rises limit w a b s t h k true d e f = below-none _
gated-rises limit w a b s t h k false false e f = joined-rises limit (a w) (b w) none (h.at w)
gated-rises limit w a b s t h k false true e f = absurd (let is = (below-trans s t none k (record { is = f })).is in cc)

row-rises : (count limit v n : ℕ) (a b : Assignment) → Within a b → Below (row_right count limit v n a) (row_right count limit v n b)
row-rises count limit v zero a b h = below-refl none
row-rises count limit v (suc n) a b h = both-rise limit _ _ _ _ (row-rises count limit v n a b h) (h.at ((v % count + n) % count))

pub rule-rises : (count limit : ℕ) (rule : Rule) (a b : Assignment) → Within a b → Below (rule_right count limit rule a) (rule_right count limit rule b)
rule-rises count limit Nothing a b h = below-refl none
rule-rises count limit Unknown a b h = below-refl None
rule-rises count limit (Value n) a b h = below-refl _
rule-rises count limit (Copy v) a b h = joined-rises limit _ _ none (h.at (v % count))
rule-rises count limit (More v n) a b h = joined-rises limit _ _ (value_of n) (h.at (v % count))
rule-rises count limit (Both v w) a b h = both-rise limit _ _ _ _ (h.at (v % count)) (h.at (w % count))
rule-rises count limit (When v w) a b h = gated-rises limit (w % count) a b (a (v % count)) (b (v % count)) h (h.at (v % count)) _ _ refl refl
rule-rises count limit (Row v n) a b h = row-rises count limit v n a b h

gated-fits : (limit : ℕ) (s : Set) (c : Bool) → Fits limit (cond c none (joined limit s none))
gated-fits limit s true = fits-none limit
gated-fits limit s false = fits-joined limit s none

row-fits : (count limit v n : ℕ) (a : Assignment) → Fits limit (row_right count limit v n a)
row-fits count limit v zero a = fits-none limit
row-fits count limit v (suc n) a = fits-joined limit _ _

pub rule-fits : (count limit : ℕ) (rule : Rule) (a : Assignment) → AllFit limit a → Fits limit (rule_right count limit rule a)
rule-fits count limit Nothing a f = fits-none limit
rule-fits count limit Unknown a f = fits-None limit
rule-fits count limit (Value n) a f = fits-joined limit _ _
rule-fits count limit (Copy v) a f = fits-joined limit _ _
rule-fits count limit (More v n) a f = fits-joined limit _ _
rule-fits count limit (Both v w) a f = fits-joined limit _ _
rule-fits count limit (When v w) a f = gated-fits limit (a (w % count)) _
rule-fits count limit (Row v n) a f = row-fits count limit v n a

left_over : (v u count : ℕ) → u < count → v % count < count
left_over v u count h = let some : 0 < count = omega arith in omega arith

one_in : (count v : ℕ) → v < count → All (λ w. w < count) (v ∷ [])
one_in count v h = All-cons (λ w. w < count) v [] h (All-nil (λ w. w < count))

gated-in_range : (count w : ℕ) → w < count → (c : Bool) → All (λ w. w < count) (cond c [] (w ∷ []))
gated-in_range count w h true = All-nil (λ w. w < count)
gated-in_range count w h false = one_in count w h

row-in_range : (count u v n : ℕ) (a : Assignment) → u < count → All (λ w. w < count) (row_reads count v n a)
row-in_range count u v zero a h = All-nil (λ w. w < count)
row-in_range count u v (suc n) a h = All-append (λ w. w < count) (row_reads count v n a) _ (row-in_range count u v n a h) (one_in count _ (left_over (v % count + n) u count h))

pub rule-in_range : (count v : ℕ) (rule : Rule) (a : Assignment) → v < count → All (λ w. w < count) (rule_reads count rule a)
rule-in_range count v Nothing a h = All-nil (λ w. w < count)
rule-in_range count v Unknown a h = All-nil (λ w. w < count)
rule-in_range count v (Value n) a h = All-nil (λ w. w < count)
rule-in_range count v (Copy w) a h = one_in count (w % count) (left_over w v count h)
rule-in_range count v (More w n) a h = one_in count (w % count) (left_over w v count h)
rule-in_range count v (Both w u) a h = All-append (λ w. w < count) (w % count ∷ []) (u % count ∷ []) (one_in count (w % count) (left_over w v count h)) (one_in count (u % count) (left_over u v count h))
rule-in_range count v (When w u) a h = All-append (λ w. w < count) (w % count ∷ []) _ (one_in count (w % count) (left_over w v count h)) (gated-in_range count (u % count) (left_over u v count h) _)
rule-in_range count v (Row w n) a h = row-in_range count v w n a h
