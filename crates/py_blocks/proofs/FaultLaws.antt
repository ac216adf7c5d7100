-- The first fault is found where one stands first.
use Rattle.std.proofs.Common.{◌≡◌, ◌⊎◌, ℕ, zero, suc, ◌+◌, ◌<◌, ◌≤◌, List, [], ◌∷◌, ◌++◌, Bool, true, false, if◌then◌else◌, length, reverse, Option, Some, None, inl, inr, refl, sym, ap, subst, ◌∙◌, arith, append_assoc}
use Rattle.std.specs.Prelude.{IfSome}
use Rattle.std.proofs.lemmas.List.{reverse-append, append-nil}
use Rattle.py_blocks.specs.declared.line.Line.{Line}
use Rattle.py_blocks.specs.declared.standing.Around.{Around}
use Rattle.py_blocks.specs.declared.fault.BlockCause.{BlockCause}
use Rattle.py_blocks.specs.declared.fault.BlockCause.TheVariants as causes
use Rattle.py_blocks.specs.declared.fault.BlockFault.{BlockFault}
use Rattle.py_blocks.specs.Rules.{breaks, cause_at, or_later, fault_behind, first_fault, around, rank, IsFault, IsFirstFault, AreRight}

-- ---- the causes at one line

-- which of three hold, in their order
abbrev pick : (BlockCause → Bool) → Option BlockCause
pick holds = if holds causes.Unexpected then Some causes.Unexpected else (if holds causes.NeedsBlock then Some causes.NeedsBlock else (if holds causes.Follows then Some causes.Follows else None))

-- what was picked holds, and each that holds has no lower rank
record IsLeast (holds : BlockCause → Bool) (cause : BlockCause) : Type 0 where
  holds_it : holds cause ≡ true
  least : (other : BlockCause) → holds other ≡ true → rank cause ≤ rank other

abbrev IsPick : (BlockCause → Bool) → Option BlockCause → Type 0
IsPick holds None = (other : BlockCause) → holds other ≡ true → ⊥
IsPick holds (Some cause) = IsLeast holds cause

pick-is : (holds : BlockCause → Bool) (u n f : Bool) → holds causes.Unexpected ≡ u → holds causes.NeedsBlock ≡ n → holds causes.Follows ≡ f
    → IsPick holds (if u then Some causes.Unexpected else (if n then Some causes.NeedsBlock else (if f then Some causes.Follows else None)))
pick-is holds true n f e1 e2 e3 = record { holds_it = e1; least = least }
  where
    least : (other : BlockCause) → holds other ≡ true → rank causes.Unexpected ≤ rank other
    least other h = omega arith
pick-is holds false true f e1 e2 e3 = record { holds_it = e2; least = least }
  where
    least : (other : BlockCause) → holds other ≡ true → rank causes.NeedsBlock ≤ rank other
    least causes.Unexpected h = absurd (cc)
    least causes.NeedsBlock h = omega arith
    least causes.Follows h = omega arith
pick-is holds false false true e1 e2 e3 = record { holds_it = e3; least = least }
  where
    least : (other : BlockCause) → holds other ≡ true → rank causes.Follows ≤ rank other
    least causes.Unexpected h = absurd (cc)
    least causes.NeedsBlock h = absurd (cc)
    least causes.Follows h = omega arith
pick-is holds false false false e1 e2 e3 = none
  where
    none : (other : BlockCause) → holds other ≡ true → ⊥
    none causes.Unexpected h = cc
    none causes.NeedsBlock h = cc
    none causes.Follows h = cc

cause-is : (w : Bool) (a : Around) (line : Line) (later : List Line) → IsPick (λ cause. breaks w cause a line later) (cause_at w a line later)
cause-is w a line later =
    pick-is (λ cause. breaks w cause a line later) (breaks w causes.Unexpected a line later) (breaks w causes.NeedsBlock a line later) (breaks w causes.Follows a line later) refl refl refl

-- ---- faults of lines behind others

record FaultBehind (w : Bool) (before lines : List Line) (fault : BlockFault) : Type 0 where
  front : List Line
  line : Line
  later : List Line
  lines_are : lines ≡ front ++ line ∷ later
  place_is : length before + length front ≡ fault.place
  breaks_it : breaks w fault.cause (around line.level (reverse front ++ before)) line later ≡ true

-- no fault comes before this one
abbrev NotBefore : BlockFault → BlockFault → Type 0
NotBefore fault other = (fault.place < other.place) ⊎ ((fault.place ≡ other.place) × (rank fault.cause ≤ rank other.cause))

record IsFirstBehind (w : Bool) (before lines : List Line) (fault : BlockFault) : Type 0 where
  is_fault : FaultBehind w before lines fault
  no_other : (other : BlockFault) → FaultBehind w before lines other → NotBefore fault other

abbrev IsAnswer : Bool → List Line → List Line → Option BlockFault → Type 0
IsAnswer w before lines None = (other : BlockFault) → FaultBehind w before lines other → ⊥
IsAnswer w before lines (Some fault) = IsFirstBehind w before lines fault

-- a fault stands at the first line, or behind it
data Stands (w : Bool) (before : List Line) (line : Line) (later : List Line) (fault : BlockFault) : Type 0 where
  here : length before ≡ fault.place → breaks w fault.cause (around line.level before) line later ≡ true → Stands w before line later fault
  behind : length before < fault.place → FaultBehind w (line ∷ before) later fault → Stands w before line later fault

where-it-stands : (w : Bool) (before : List Line) (line : Line) (later : List Line) (fault : BlockFault) (front : List Line) (at : Line) (rest : List Line) → line ∷ later ≡ front ++ at ∷ rest
    → length before + length front ≡ fault.place → breaks w fault.cause (around at.level (reverse front ++ before)) at rest ≡ true → Stands w before line later fault
where-it-stands w before line later fault [] at rest e p b =
    let e1 : at ≡ line = cc in
    let e2 : rest ≡ later = cc in
    here (omega (arith, p)) (subst (λ (l : Line). breaks w fault.cause (around l.level before) l later ≡ true) e1 (subst (λ (ls : List Line). breaks w fault.cause (around at.level before) at ls ≡ true) e2 b))
where-it-stands w before line later fault (first ∷ front) at rest e p b =
    let e1 : first ≡ line = cc in
    let e2 : later ≡ front ++ at ∷ rest = cc in
    let r : reverse (first ∷ front) ++ before ≡ reverse front ++ line ∷ before = ap (λ (ls : List Line). ls ++ before) (reverse-append (first ∷ []) front) ∙ append_assoc (reverse front) (first ∷ []) before ∙ ap (λ (l : Line). reverse front ++ l ∷ before) e1 in
    behind (omega (arith, p)) (record {
      front = front;
      line = at;
      later = rest;
      lines_are = e2;
      place_is = omega (arith, p);
      breaks_it = subst (λ (ls : List Line). breaks w fault.cause (around at.level ls) at rest ≡ true) r b;
    })

stands : (w : Bool) (before : List Line) (line : Line) (later : List Line) (fault : BlockFault) → FaultBehind w before (line ∷ later) fault → Stands w before line later fault
stands w before line later fault h = where-it-stands w before line later fault h.front h.line h.later h.lines_are h.place_is h.breaks_it

further : (w : Bool) (before : List Line) (line : Line) (later : List Line) (fault : BlockFault) → FaultBehind w (line ∷ before) later fault → FaultBehind w before (line ∷ later) fault
further w before line later fault h =
    let r : reverse (line ∷ h.front) ++ before ≡ reverse h.front ++ line ∷ before = ap (λ (ls : List Line). ls ++ before) (reverse-append (line ∷ []) h.front) ∙ append_assoc (reverse h.front) (line ∷ []) before in
    record {
      front = line ∷ h.front;
      line = h.line;
      later = h.later;
      lines_are = ap (λ (ls : List Line). line ∷ ls) h.lines_are;
      place_is = omega (arith, h.place_is);
      breaks_it = subst (λ (ls : List Line). breaks w fault.cause (around h.line.level ls) h.line h.later ≡ true) (sym r) h.breaks_it;
    }

after-none : (w : Bool) (before : List Line) (line : Line) (later : List Line) (found : Option BlockFault) → ((other : BlockCause) → breaks w other (around line.level before) line later ≡ true → ⊥)
    → IsAnswer w (line ∷ before) later found → IsAnswer w before (line ∷ later) found
after-none w before line later None none h = λ other k. elim (stands w before line later other k) [ here e b ↦ none other.cause b | behind l g ↦ h other g ]
after-none w before line later (Some fault) none h = record { is_fault = further w before line later fault h.is_fault; no_other = others }
  where
    others : (other : BlockFault) → FaultBehind w before (line ∷ later) other → NotBefore fault other
    others other k = elim (stands w before line later other k) [ here e b ↦ absurd (none other.cause b) | behind l g ↦ h.no_other other g ]

at-once : (w : Bool) (before : List Line) (line : Line) (later : List Line) (cause : BlockCause) → IsLeast (λ c. breaks w c (around line.level before) line later) cause
    → IsFirstBehind w before (line ∷ later) (record { place = length before; cause = cause })
at-once w before line later cause h = record {
  is_fault = record { front = []; line = line; later = later; lines_are = refl; place_is = omega arith; breaks_it = h.holds_it };
  no_other = others;
}
  where
    others : (other : BlockFault) → FaultBehind w before (line ∷ later) other → NotBefore (record { place = length before; cause = cause }) other
    others other k = elim (stands w before line later other k) [ here e b ↦ inr (e, h.least other.cause b) | behind l g ↦ inl l ]

either-way : (w : Bool) (before : List Line) (line : Line) (later : List Line) (cause : Option BlockCause) (rest : Option BlockFault) → IsPick (λ c. breaks w c (around line.level before) line later) cause
    → IsAnswer w (line ∷ before) later rest → IsAnswer w before (line ∷ later) (or_later cause (length before) rest)
either-way w before line later None rest p h = after-none w before line later rest p h
either-way w before line later (Some cause) rest p h = at-once w before line later cause p

answer : (w : Bool) (lines before : List Line) → IsAnswer w before lines (fault_behind w before lines)
answer w [] before = λ other h. nothing h.front h.line h.later h.lines_are
  where
    nothing : (front : List Line) (at : Line) (rest : List Line) → [] ≡ front ++ at ∷ rest → ⊥
    nothing [] at rest e = cc
    nothing (f ∷ front) at rest e = cc
answer w (line ∷ later) before =
    either-way w before line later (cause_at w (around line.level before) line later) (fault_behind w (line ∷ before) later) (cause-is w (around line.level before) line later) (answer w later (line ∷ before))

-- ---- of a file

to-behind : (w : Bool) (lines : List Line) (fault : BlockFault) → IsFault w lines fault → FaultBehind w [] lines fault
to-behind w lines fault h = record {
  front = h.front;
  line = h.line;
  later = h.later;
  lines_are = h.lines_are;
  place_is = omega (arith, h.place_is);
  breaks_it = subst (λ (ls : List Line). breaks w fault.cause (around h.line.level ls) h.line h.later ≡ true) (sym (append-nil (reverse h.front))) h.breaks_it;
}

from-behind : (w : Bool) (lines : List Line) (fault : BlockFault) → FaultBehind w [] lines fault → IsFault w lines fault
from-behind w lines fault h = record {
  front = h.front;
  line = h.line;
  later = h.later;
  lines_are = h.lines_are;
  place_is = omega (arith, h.place_is);
  breaks_it = subst (λ (ls : List Line). breaks w fault.cause (around h.line.level ls) h.line h.later ≡ true) (append-nil (reverse h.front)) h.breaks_it;
}

not-lower : (fault other : BlockFault) → NotBefore fault other → other.place < fault.place → ⊥
not-lower fault other (inl l) k = absurd (omega arith)
not-lower fault other (inr e) k = absurd (omega (arith, e.0))

not-other : (fault other : BlockFault) → NotBefore fault other → other.place ≡ fault.place → rank other.cause < rank fault.cause → ⊥
not-other fault other (inl l) e k = absurd (omega arith)
not-other fault other (inr h) e k = absurd (omega (arith, h.1))

first-of : (w : Bool) (lines : List Line) (found : Option BlockFault) → IsAnswer w [] lines found → (fault : BlockFault) → found ≡ Some fault → IsFirstFault w lines fault
first-of w lines None h fault e = absurd (cc)
first-of w lines (Some found) h fault e =
    let same : found ≡ fault = cc in
    subst (λ (f : BlockFault). IsFirstFault w lines f) same (record {
      is_fault = from-behind w lines found h.is_fault;
      no_earlier = λ other k l. not-lower found other (h.no_other other (to-behind w lines other k)) l;
      no_other = λ other k e l. not-other found other (h.no_other other (to-behind w lines other k)) e l;
    })

-- what is found stands first
pub is-first : (w : Bool) (lines : List Line) (fault : BlockFault) → first_fault w lines ≡ Some fault → IsFirstFault w lines fault
is-first w lines fault e = first-of w lines (first_fault w lines) (answer w lines []) fault e

none-of : (w : Bool) (lines : List Line) (found : Option BlockFault) → IsAnswer w [] lines found → found ≡ None → AreRight w lines
none-of w lines None h e = λ fault k. h fault (to-behind w lines fault k)
none-of w lines (Some found) h e = absurd (cc)

-- where none is found, none stands
pub are-right : (w : Bool) (lines : List Line) → first_fault w lines ≡ None → AreRight w lines
are-right w lines e = none-of w lines (first_fault w lines) (answer w lines []) e

same-cause : (a b : BlockCause) → rank a ≡ rank b → a ≡ b
same-cause causes.Unexpected causes.Unexpected e = refl
same-cause causes.NeedsBlock causes.NeedsBlock e = refl
same-cause causes.Follows causes.Follows e = refl
same-cause causes.Unexpected causes.NeedsBlock e = absurd (omega arith)
same-cause causes.Unexpected causes.Follows e = absurd (omega arith)
same-cause causes.NeedsBlock causes.Unexpected e = absurd (omega arith)
same-cause causes.NeedsBlock causes.Follows e = absurd (omega arith)
same-cause causes.Follows causes.Unexpected e = absurd (omega arith)
same-cause causes.Follows causes.NeedsBlock e = absurd (omega arith)

same-fault : (a b : BlockFault) → a.place ≡ b.place → a.cause ≡ b.cause → a ≡ b
same-fault a b e f = ap (λ (p : ℕ). record { place = p; cause = a.cause }) e ∙ ap (λ (c : BlockCause). record { place = b.place; cause = c }) f

both-least : (fault found : BlockFault) → NotBefore found fault → (found.place < fault.place → ⊥) → (found.place ≡ fault.place → rank found.cause < rank fault.cause → ⊥) → found ≡ fault
both-least fault found (inl l) h k = absurd (h l)
both-least fault found (inr e) h k = same-fault found fault e.0 (same-cause found.cause fault.cause (ranks (rank found.cause) (rank fault.cause) e.1 (k e.0)))
  where
    ranks : (m n : ℕ) → m ≤ n → (m < n → ⊥) → m ≡ n
    ranks m n l h = omega (arith, h)

found-first : (w : Bool) (lines : List Line) (found : Option BlockFault) → IsAnswer w [] lines found → (fault : BlockFault) → IsFirstFault w lines fault → found ≡ Some fault
found-first w lines None h fault k = absurd (h fault (to-behind w lines fault k.is_fault))
found-first w lines (Some found) h fault k =
    let f = from-behind w lines found h.is_fault in
    ap (λ (x : BlockFault). Some x) (both-least fault found (h.no_other fault (to-behind w lines fault k.is_fault)) (k.no_earlier found f) (k.no_other found f))

-- where one stands first, it is found
pub is-found : (w : Bool) (lines : List Line) (fault : BlockFault) → IsFirstFault w lines fault → first_fault w lines ≡ Some fault
is-found w lines fault h = found-first w lines (first_fault w lines) (answer w lines []) fault h

not-right : (w : Bool) (lines : List Line) (found : Option BlockFault) → IsAnswer w [] lines found → AreRight w lines → found ≡ None
not-right w lines None h k = refl
not-right w lines (Some found) h k = absurd (k found (from-behind w lines found h.is_fault))

-- where none stands, none is found
pub none-found : (w : Bool) (lines : List Line) → AreRight w lines → first_fault w lines ≡ None
none-found w lines h = not-right w lines (first_fault w lines) (answer w lines []) h
