-- Lines that step by one level nest in one way, and the stack has what they make.
use Rattle.std.proofs.Common.{◌≡◌, ℕ, zero, suc, ◌+◌, ◌-◌, ◌<◌, ◌≤◌, List, [], ◌∷◌, ◌++◌, Bool, if◌then◌else◌, length, refl, sym, ap, subst, ◌∙◌, arith, append_assoc, length-append}
use Rattle.std.specs.Prelude.{replicate}
use Rattle.std.proofs.lemmas.List.{append-nil, length-replicate}
use Rattle.tree_nodes.specs.Trees.{Tree}
use Rattle.py_blocks.specs.Rows.{Row}
use Rattle.py_blocks.specs.Statements.{Lines, none, line, flat, AreAt, Level, nothing, gathered, decorated, all_decorated, with_line, made_by}
use Rattle.py_blocks.specs.Stack.{first_or, others, deepened, joined, taken, stack}

-- a line that is deeper than the line before, of that level, is one level deeper
abbrev pub StepByOne : ℕ → List (Row Tree) → Type 0
StepByOne level [] = Unit {0}
StepByOne level (row ∷ rows) = (row.level ≤ level + 1) × StepByOne row.level rows

-- ---- levels that are opened

deepened-enough : {P : Type 0} (p : P) (count : ℕ) (ps : List P) → count ≤ length ps → deepened p count ps ≡ ps
deepened-enough p count ps l = let e : count - length ps ≡ 0 = omega arith in rw e refl

length-deepened : {P : Type 0} (p : P) (count : ℕ) (ps : List P) → length ps ≤ count → length (deepened p count ps) ≡ count
length-deepened p count ps l = omega (arith, length-append (replicate (count - length ps) p) ps, length-replicate (count - length ps) p)

deepened-one : {P : Type 0} (p : P) (count : ℕ) (ps : List P) → length ps ≤ count → deepened p (count + 1) ps ≡ p ∷ deepened p count ps
deepened-one p count ps l = let e : (count + 1) - length ps ≡ suc (count - length ps) = omega arith in rw e refl

-- ---- what lines make stands on the stack

abbrev stack_of : List (Row Tree) → List (Level Tree)
stack_of rows = stack nothing with_line rows

record Stands (level : ℕ) (lines : Lines) (rows : List (Row Tree)) : Type 0 where
  made : deepened nothing (level + 1) (stack_of (flat lines ++ rows)) ≡ made_by lines ∷ deepened nothing level (stack_of rows)
  low : length (stack_of (flat lines ++ rows)) ≤ level + 1

joined-three : (row : Row Tree) (block behind : Level Tree) (rest levels : List (Level Tree)) → levels ≡ block ∷ behind ∷ rest → joined nothing with_line row levels ≡ with_line row block behind ∷ rest
joined-three row block behind rest levels e = rw e refl

stands : (level : ℕ) (lines : Lines) (rows : List (Row Tree)) → AreAt level lines → length (stack_of rows) ≤ level → Stands level lines rows
stands level none rows a l = record { made = deepened-one nothing level (stack_of rows) l; low = omega arith }
stands level (line row block behind) rows a l =
    let after = flat behind ++ rows in
    let one = stands level behind rows a.2 l in
    let two = stands (level + 1) block after a.1 one.low in
    let rest = deepened nothing level (stack_of rows) in
    let order : (flat block ++ flat behind) ++ rows ≡ flat block ++ after = append_assoc (flat block) (flat behind) rows in
    let count : row.level + 2 ≡ (level + 1) + 1 = omega (arith, a.0) in
    let three : deepened nothing (row.level + 2) (stack_of ((flat block ++ flat behind) ++ rows)) ≡ made_by block ∷ made_by behind ∷ rest =
    ap (λ (rs : List (Row Tree)). deepened nothing (row.level + 2) (stack_of rs)) order ∙ ap (λ (n : ℕ). deepened nothing n (stack_of (flat block ++ after))) count ∙ two.made
    ∙ ap (λ (ls : List (Level Tree)). made_by block ∷ ls) one.made in
    let all : stack_of (flat (line row block behind) ++ rows) ≡ made_by (line row block behind) ∷ rest = joined-three row (made_by block) (made_by behind) rest (deepened nothing (row.level + 2) (stack_of ((flat block ++ flat behind) ++ rows))) three in
    let long : length rest ≡ level = length-deepened nothing level (stack_of rows) l in
    let many : length (made_by (line row block behind) ∷ rest) ≡ level + 1 = omega arith in
    record {
      made = ap (deepened nothing (level + 1)) all ∙ deepened-enough nothing (level + 1) (made_by (line row block behind) ∷ rest) (omega arith);
      low = subst (λ (ls : List (Level Tree)). length ls ≤ level + 1) (sym all) (omega arith);
    }

first-deepened : {P : Type 0} (p : P) (ps : List P) → first_or p ps ≡ first_or p (deepened p 1 ps)
first-deepened p [] = refl
first-deepened p (q ∷ ps) = ap (first_or p) (sym (deepened-enough p 1 (q ∷ ps) (omega arith)))

-- what the lines of a file make is on top
pub made-on-top : (lines : Lines) → AreAt 0 lines → first_or nothing (stack_of (flat lines)) ≡ made_by lines
made-on-top lines a =
    let h = stands 0 lines [] a (omega arith) in
    first-deepened nothing (stack_of (flat lines)) ∙ ap (λ (rs : List (Row Tree)). first_or nothing (deepened nothing 1 (stack_of rs))) (sym (append-nil (flat lines))) ∙ ap (first_or nothing) h.made

-- ---- lines nest

abbrev lines_of : List (Row Tree) → List Lines
lines_of rows = stack none line rows

-- all lines on a stack
abbrev flats : List Lines → List (Row Tree)
flats [] = []
flats (lines ∷ stacked) = flat lines ++ flats stacked

-- each at its level
abbrev AllAt : List Lines → Type 0
AllAt [] = Unit {0}
AllAt (lines ∷ stacked) = AreAt (length stacked) lines × AllAt stacked

flats-opened : (k : ℕ) (stacked : List Lines) → flats (replicate k none ++ stacked) ≡ flats stacked
flats-opened zero stacked = refl
flats-opened (suc k) stacked = flats-opened k stacked

at-opened : (k : ℕ) (stacked : List Lines) → AllAt stacked → AllAt (replicate k none ++ stacked)
at-opened zero stacked a = a
at-opened (suc k) stacked a = (tt, at-opened k stacked a)

-- the height of the stack behind rows whose first has this level
abbrev pub height : List (Row Tree) → ℕ
height [] = 0
height (row ∷ rows) = row.level + 1

record Nests (rows : List (Row Tree)) : Type 0 where
  order : flats (lines_of rows) ≡ rows
  levels : AllAt (lines_of rows)
  long : length (lines_of rows) ≡ height rows

join : (row : Row Tree) (rows : List (Row Tree)) (stacked : List Lines) → flats stacked ≡ rows → AllAt stacked → length stacked ≡ row.level + 2 → (new : List Lines) → new ≡ joined none line row stacked
    → (flats new ≡ row ∷ rows) × AllAt new × (length new ≡ row.level + 1)
join row rows [] o a l new e = absurd (omega arith)
join row rows (one ∷ []) o a l new e = absurd (omega arith)
join row rows (block ∷ behind ∷ stacked) o a l new e =
    let long : length stacked ≡ row.level = omega arith in
    let up : suc (length stacked) ≡ length stacked + 1 = omega arith in
    subst (λ (ls : List Lines). (flats ls ≡ row ∷ rows) × AllAt ls × (length ls ≡ row.level + 1)) (sym e) (
      ap (λ (rs : List (Row Tree)). row ∷ rs) (append_assoc (flat block) (flat behind) (flats stacked) ∙ o),
      ((sym long, subst (λ (n : ℕ). AreAt n block) up a.0, a.1.0), a.1.1),
      omega arith,
    )

step-height : (row : Row Tree) (rows : List (Row Tree)) → StepByOne row.level rows → height rows ≤ row.level + 2
step-height row [] h = omega arith
step-height row (next ∷ rows) h = omega (arith, h.0)

nests : (rows : List (Row Tree)) (level : ℕ) → StepByOne level rows → Nests rows
nests [] level h = record { order = refl; levels = tt; long = refl }
nests (row ∷ rows) level h =
    let t = nests rows row.level h.1 in
    let stacked = lines_of rows in
    let k = (row.level + 2) - length stacked in
    let short : length stacked ≤ row.level + 2 = omega (arith, t.long, step-height row rows h.1) in
    let j = join row rows (deepened none (row.level + 2) stacked) (flats-opened k stacked ∙ t.order) (at-opened k stacked t.levels) (length-deepened none (row.level + 2) stacked short) (lines_of (row ∷ rows)) refl in
    record { order = j.0; levels = j.1; long = j.2 }

-- the lines of a file whose first stands at the margin
pub record Nested (rows : List (Row Tree)) : Type 0 where
  pub lines : Lines
  pub in_order : rows ≡ flat lines
  pub at_levels : AreAt 0 lines

one-level : (rows : List (Row Tree)) (stacked : List Lines) → flats stacked ≡ rows → AllAt stacked → length stacked ≤ 1 → Nested rows
one-level rows [] o a l = record { lines = none; in_order = sym o; at_levels = tt }
one-level rows (lines ∷ []) o a l = record { lines = lines; in_order = sym o ∙ append-nil (flat lines); at_levels = a.0 }
one-level rows (one ∷ two ∷ stacked) o a l = absurd (omega arith)

pub nested : (rows : List (Row Tree)) → StepByOne 0 rows → height rows ≤ 1 → Nested rows
nested rows h l = let t = nests rows 0 h in one-level rows (lines_of rows) t.order t.levels (omega (arith, t.long))

-- ---- decorators change no level

pub steps-decorated : (before rows : List (Row Tree)) (level : ℕ) → StepByOne level rows → StepByOne level (all_decorated before rows)
steps-decorated before [] level h = tt
steps-decorated before (row ∷ rows) level h = (h.0, steps-decorated (row ∷ before) rows row.level h.1)

pub height-decorated : (rows : List (Row Tree)) → height (all_decorated [] rows) ≡ height rows
height-decorated [] = refl
height-decorated (row ∷ rows) = refl
