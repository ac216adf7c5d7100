-- Items have one first fault, or one layout and no fault.
use Rattle.std.proofs.Common.{◌≡◌, ℕ, ◌≤◌, ◌<◌, List, [], ◌∷◌, ◌++◌, length, refl, sym, ap, ◌∙◌, arith, Result, Ok, Err, IfOk, IfErr, reverse, nat_lt, get_or}
use Rattle.std.specs.Global.{Vec}
use Rattle.std.proofs.lemmas.Grind.{reverse_onto}
use Rattle.std.proofs.lemmas.List.{same_from_push, length-append}
use Rattle.std.proofs.lemmas.Bool.{cond_both, ltb-true, ltb-false}
use Rattle.py_layout.specs.declared.item.Item.{Item}
use Rattle.py_layout.specs.declared.bracket.Opened.{Opened}
use Rattle.py_layout.specs.declared.bracket.BracketFault.{BracketFault}
use Rattle.py_layout.specs.declared.bracket.BracketFault.TheVariants as bracket_fault
use Rattle.py_layout.specs.declared.logical.Logical.{Logical}
use Rattle.py_layout.specs.declared.fault.IndentationCause.{IndentationCause}
use Rattle.py_layout.specs.declared.fault.ItemCause.{ItemCause}
use Rattle.py_layout.specs.declared.fault.LayoutCause.{LayoutCause}
use Rattle.py_layout.specs.declared.fault.LayoutCause.TheVariants.{AtLine, AtItem, OpenBracket}
use Rattle.py_layout.specs.declared.fault.LayoutFault.{LayoutFault}
use Rattle.py_layout.specs.declared.fault.LayoutFault.TheVariants.{At, Memory}
use Rattle.py_layout.specs.Brackets.{left_open}
use Rattle.py_layout.specs.LogicalLines.{lines_of}
use Rattle.py_layout.specs.Indentation.{ground, levelled}
use Rattle.py_layout.specs.FirstFault.{IsLineFault, IsItemFault, IsFirstFault, IsLaidOut, OnFault, GivesOnly, FaultsOnly}
use Rattle.py_layout.specs.Answers.{IsBracketFault, IsBracketWithin, item_fault, earlier}

line_fault_unique : (items : List Item) (n m : ℕ) (c d : IndentationCause) → IsLineFault items n c → IsLineFault items m d → (n ≡ m) × (c ≡ d)
line_fault_unique items n m c d a b =
    let both : ◌≡◌ {A = ℕ × IndentationCause} (n, c) (m, d) = cc (a, b) in
    (ap (λ p. p.0) both, ap (λ p. p.1) both)

item_fault_unique : (items : List Item) (n m : ℕ) (c d : ItemCause) → IsItemFault items n c → IsItemFault items m d → (n ≡ m) × (c ≡ d)
item_fault_unique items n m c d a b =
    let both : ◌≡◌ {A = ℕ × ItemCause} (n, c) (m, d) = cc (a, b) in
    (ap (λ p. p.0) both, ap (λ p. p.1) both)

pub first_fault_unique : (items : List Item) (n m : ℕ) (c d : LayoutCause) → IsFirstFault items n c → IsFirstFault items m d → (n ≡ m) × (c ≡ d)
first_fault_unique items n m (AtLine c) (AtLine d) a b = let same = line_fault_unique items n m c d a.0 b.0 in (same.0, ap AtLine same.1)
first_fault_unique items n m (AtLine c) (AtItem d) a b = let le : n ≤ m = a.1 m d b.0 in let lt : m < n = b.1 n c a.0 in absurd (omega arith)
first_fault_unique items n m (AtLine c) OpenBracket a b = absurd (b.1 n c a.0)
first_fault_unique items n m (AtItem c) (AtLine d) a b = let lt : n < m = a.1 m d b.0 in let le : m ≤ n = b.1 n c a.0 in absurd (omega arith)
first_fault_unique items n m (AtItem c) (AtItem d) a b = let same = item_fault_unique items n m c d a.0 b.0 in (same.0, ap AtItem same.1)
first_fault_unique items n m (AtItem c) OpenBracket a b = let x = a.0 in let y = b.0.stays in absurd (cc (x, y))
first_fault_unique items n m OpenBracket (AtLine d) a b = absurd (a.1 m d b.0)
first_fault_unique items n m OpenBracket (AtItem d) a b = let x = a.0.stays in let y = b.0 in absurd (cc (x, y))
first_fault_unique items n m OpenBracket OpenBracket a b =
    let x = a.0.stays in
    let y = b.0.stays in
    let same : a.0.inner ++ a.0.outermost ∷ [] ≡ b.0.inner ++ b.0.outermost ∷ [] = cc (x, y) in
    let last : a.0.outermost ≡ b.0.outermost = (same_from_push _ _ _ _ same).1 in
    (a.0.here ∙ ap (λ o. o.place) last ∙ sym b.0.here, refl)

-- where there is a layout there is no fault
pub laid_out_faultless : (items : List Item) (lines : List Logical) (n : ℕ) (c : LayoutCause) → IsLaidOut items lines → IsFirstFault items n c → ⊥
laid_out_faultless items lines n (AtLine c) laid fault = let x = laid.levels in let y = fault.0 in cc (x, y)
laid_out_faultless items lines n (AtItem c) laid fault = let x = laid.closed in let y = fault.0 in cc (x, y)
laid_out_faultless items lines n OpenBracket laid fault =
    let x = laid.closed in
    let y = fault.0.stays in
    let same : [] ≡ fault.0.inner ++ fault.0.outermost ∷ [] = cc (x, y) in
    absurd (omega (arith, ap length same, length-append fault.0.inner (fault.0.outermost ∷ [])))

pub laid_out_unique : (items : List Item) (xs ys : List Logical) → IsLaidOut items xs → IsLaidOut items ys → xs ≡ ys
laid_out_unique items xs ys a b = let x = a.levels in let y = b.levels in cc (x, y)

-- each line has a level, and an item may not stand where it does
pub item_first : (items : List Item) (lines : List Logical) (fault : BracketFault) → levelled ground (lines_of items) ≡ Ok lines → IsBracketFault fault (left_open items) → OnFault (IsFirstFault items) (item_fault fault)
item_first items lines (bracket_fault.At n cause) levels stops = (stops, λ m other none. let x = levels in let y = none in absurd (cc (x, y)))
item_first items lines bracket_fault.Memory levels stops = tt

-- each line has a level, and a bracket stays open
pub open_first : (items : List Item) (lines : List Logical) (opened : List Opened) (d : Opened) → levelled ground (lines_of items) ≡ Ok lines → 0 < length opened → left_open items ≡ Ok (reverse opened) → IsFirstFault items (get_or opened 0 d).place OpenBracket
open_first items lines [] d levels some stays = absurd (omega arith)
open_first items lines (outermost ∷ inner) d levels some stays =
    (record { inner = reverse inner; outermost = outermost; stays = stays ∙ ap Ok (reverse_onto inner outermost []); here = refl }, λ m other none. let x = levels in let y = none in cc (x, y))

-- a line has no level, and each item may stand where it does
pub line_first : (items : List Item) (place : ℕ) (cause : IndentationCause) (opened : List Opened) → levelled ground (lines_of items) ≡ Err (place, cause) → left_open items ≡ Ok opened → IsFirstFault items place (AtLine cause)
line_first items place cause opened none right = (none, λ m other wrong. let x = right in let y = wrong in absurd (cc (x, y)))

-- a line has no level, and an item may not stand where it does
pub earlier_first : (items : List Item) (place : ℕ) (cause : IndentationCause) (fault : BracketFault) → levelled ground (lines_of items) ≡ Err (place, cause) → IsBracketFault fault (left_open items) → OnFault (IsFirstFault items) (earlier place cause (item_fault fault))
earlier_first items place cause bracket_fault.Memory none stops = tt
earlier_first items place cause (bracket_fault.At n wrong) none stops =
    cond_both (nat_lt n place) (At n (AtItem wrong)) (At place (AtLine cause)) (OnFault (IsFirstFault items))
    (λ before. (
      stops,
      λ m other later.
          let same : place ≡ m = (line_fault_unique items place m cause other none later).0 in
          let lt : n < place = ltb-true n place before in
          omega arith,
    ))
    (λ behind. (
      none,
      λ m other later.
          let same : n ≡ m = (item_fault_unique items n m wrong other stops later).0 in
          let le : place ≤ n = ltb-false n place behind in
          omega arith,
    ))

-- an answer that is right is the only one
pub every_from : (items : List Item) (answer : Result (Vec Logical) LayoutFault) → IfOk answer (λ found. IsLaidOut items found.items) → IfErr answer (OnFault (IsFirstFault items)) → (lines : List Logical) → IsLaidOut items lines → GivesOnly answer lines
every_from items (Ok found) laid fault lines are = laid_out_unique items found.items lines laid are
every_from items (Err (At n cause)) laid fault lines are = laid_out_faultless items lines n cause are fault
every_from items (Err Memory) laid fault lines are = tt

pub every_fault_from : (items : List Item) (answer : Result (Vec Logical) LayoutFault) → IfOk answer (λ found. IsLaidOut items found.items) → IfErr answer (OnFault (IsFirstFault items)) → (n : ℕ) (cause : LayoutCause) → IsFirstFault items n cause → FaultsOnly answer n cause
every_fault_from items (Ok found) laid fault n cause first = laid_out_faultless items found.items n cause laid first
every_fault_from items (Err (At m other)) laid fault n cause first = first_fault_unique items m n other cause fault first
every_fault_from items (Err Memory) laid fault n cause first = tt

-- the earlier fault stands at an item where both do
pub earlier_within : (n place : ℕ) (cause : IndentationCause) (fault : BracketFault) → place < n → IsBracketWithin n fault → OnFault (λ m _. m < n) (earlier place cause (item_fault fault))
earlier_within n place cause (bracket_fault.At m wrong) here there =
    cond_both (nat_lt m place) (At m (AtItem wrong)) (At place (AtLine cause)) (OnFault (λ k _. k < n)) (λ _. there) (λ _. here)
earlier_within n place cause bracket_fault.Memory here there = tt

pub item_fault_within : (n : ℕ) (fault : BracketFault) → IsBracketWithin n fault → OnFault (λ m _. m < n) (item_fault fault)
item_fault_within n (bracket_fault.At m wrong) there = there
item_fault_within n bracket_fault.Memory there = tt
