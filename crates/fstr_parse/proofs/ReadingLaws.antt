-- A text has one reading: its pieces, or its first fault.
use Rattle.std.proofs.Common.{◌≡◌, ℕ, zero, suc, ◌-◌, ◌≤◌, Bool, List, [], ◌∷◌, length, drop, refl, sym, ap, ◌∙◌, subst, arith, ⊎_elim}
use Rattle.std.proofs.lemmas.List.{length-drop}
use Rattle.fstr_parse.specs.Bytes.{Text}
use Rattle.fstr_parse.specs.Scan.{Leads}
use Rattle.fstr_parse.specs.Expressions.{IsHalted, brackets_behind, equals_len}
use Rattle.fstr_parse.specs.Scan.{step_len, opened_len}
use Rattle.fstr_parse.specs.Fields.{IsBadField, IsMisconverted, behind_equals, right_len}
use Rattle.fstr_parse.specs.Parts.{IsPart, IsFaultAt, IsOver, Cuts, part_len, depth_behind}
use Rattle.fstr_parse.specs.Pieces.{pieces_of, IsCut, IsFirstFault}
use Rattle.fstr_parse.specs.declared.part.Part.{Part}
use Rattle.fstr_parse.specs.declared.piece.Piece.{Piece}
use Rattle.fstr_parse.specs.declared.fault.FieldFault.{FieldFault}
use Rattle.fstr_parse.specs.declared.fault.FieldFault.TheVariants.{Backslash, Comment, Unclosed, EmptyField, BadConversion, LoneBrace, TooNested, Memory}
use Rattle.fstr_parse.proofs.StepLaws.{row_of_halted}
use Rattle.fstr_parse.proofs.Outcomes.{Outcome, Over, Stands, Faulty, Gives, Gives-unique}

-- no part
abbrev pub IsLast : Outcome → Type 0
IsLast Over = Unit {0}
IsLast (Stands part) = ⊥
IsLast (Faulty stop fault) = Unit {0}

-- the text is parts, and behind them stands the end or a fault
pub record IsReading (raw : Bool) (depth : ℕ) (text : Text) (parts : List Part) (outcome : Outcome) : Type 0 where
  pub depth' : ℕ
  pub rest : Text
  pub cut : Cuts raw depth text parts depth' rest
  pub gives : Gives raw depth' rest outcome
  pub last : IsLast outcome

stands_on : (raw : Bool) (depth depth' : ℕ) (text rest : Text) (outcome : Outcome) (part : Part) → depth ≡ depth' → text ≡ rest → Gives raw depth' rest outcome → IsLast outcome → IsPart raw depth text part → ⊥
stands_on raw depth depth' text rest outcome part e f gives last is =
    let there : Gives raw depth' rest (Stands part) = subst (λ t. IsPart raw depth' t part) f (subst (λ d. IsPart raw d text part) e is) in
    subst IsLast (Gives-unique raw depth' rest outcome (Stands part) gives there) last

-- two rows of parts, behind each of which no part stands, are one, and end in one place
pub Cuts-unique : (raw : Bool) (depth : ℕ) (text : Text) (ps qs : List Part) (depthA : ℕ) (a : Text) (one : Outcome) (depthB : ℕ) (b : Text) (other : Outcome) → Cuts raw depth text ps depthA a → Cuts raw depth text qs depthB b → Gives raw depthA a one → IsLast one → Gives raw depthB b other → IsLast other → (ps ≡ qs) × (depthA ≡ depthB) × (a ≡ b)
Cuts-unique raw depth text [] [] depthA a one depthB b other x y gives_a last_a gives_b last_b = (refl, sym x.0 ∙ y.0, sym x.1 ∙ y.1)
Cuts-unique raw depth text [] (q ∷ qs) depthA a one depthB b other x y gives_a last_a gives_b last_b =
    absurd (stands_on raw depth depthA text a one q x.0 x.1 gives_a last_a y.0)
Cuts-unique raw depth text (p ∷ ps) [] depthA a one depthB b other x y gives_a last_a gives_b last_b =
    absurd (stands_on raw depth depthB text b other p y.0 y.1 gives_b last_b x.0)
Cuts-unique raw depth text (p ∷ ps) (q ∷ qs) depthA a one depthB b other x y gives_a last_a gives_b last_b =
    let outcomes : Stands p ≡ Stands q = Gives-unique raw depth text (Stands p) (Stands q) x.0 y.0 in
    let same : p ≡ q = cc in
    let rest = Cuts-unique raw (depth_behind depth p) (drop (part_len p) text) ps qs depthA a one depthB b other x.1
    (subst (λ r. Cuts raw (depth_behind depth r) (drop (part_len r) text) qs depthB b) (sym same) y.1) gives_a last_a gives_b last_b in
    (λ i. same i ∷ rest.0 i, rest.1, rest.2)

-- a text has one reading
pub IsReading-unique : (raw : Bool) (depth : ℕ) (text : Text) (ps qs : List Part) (one other : Outcome) → IsReading raw depth text ps one → IsReading raw depth text qs other → (ps ≡ qs) × (one ≡ other)
IsReading-unique raw depth text ps qs one other a b =
    let same = Cuts-unique raw depth text ps qs a.depth' a.rest one b.depth' b.rest other a.cut b.cut a.gives a.last b.gives b.last in
    let there : Gives raw b.depth' b.rest one = subst (λ t. Gives raw b.depth' t one) same.2 (subst (λ d. Gives raw d a.rest one) same.1 a.gives) in
    (same.0, Gives-unique raw b.depth' b.rest one other there b.gives)

pub reading_of_cut : (raw : Bool) (text : Text) (pieces : List Piece) → (is : IsCut raw text pieces) → IsReading raw 0 text is.parts Over
reading_of_cut raw text pieces is = record {
  depth' = 0;
  rest = [];
  cut = is.cut;
  gives = (refl, refl);
  last = tt;
}

pub reading_of_fault : (raw : Bool) (text : Text) (place : ℕ) (fault : FieldFault) → (is : IsFirstFault raw text place fault) → IsReading raw 0 text is.front (Faulty is.stop fault)
reading_of_fault raw text place fault is = record {
  depth' = is.depth;
  rest = is.rest;
  cut = is.cut;
  gives = is.stands;
  last = tt;
}

-- a text that has pieces has these alone
pub IsCut-unique : (raw : Bool) (text : Text) (one other : List Piece) → IsCut raw text one → IsCut raw text other → one ≡ other
IsCut-unique raw text one other a b =
    let same = IsReading-unique raw 0 text a.parts b.parts Over Over (reading_of_cut raw text one a) (reading_of_cut raw text other b) in
    a.are ∙ (ap (pieces_of 0 0) same.0 ∙ sym b.are)

-- and no fault
pub IsCut-no_fault : (raw : Bool) (text : Text) (pieces : List Piece) (place : ℕ) (fault : FieldFault) → IsCut raw text pieces → IsFirstFault raw text place fault → ⊥
IsCut-no_fault raw text pieces place fault a b =
    let same = IsReading-unique raw 0 text a.parts b.front Over (Faulty b.stop fault) (reading_of_cut raw text pieces a) (reading_of_fault raw text place fault b) in
    let outcomes : Over ≡ Faulty b.stop fault = same.1 in
    cc

-- the first fault of a text is one, at one place
pub IsFirstFault-unique : (raw : Bool) (text : Text) (place place' : ℕ) (fault fault' : FieldFault) → IsFirstFault raw text place fault → IsFirstFault raw text place' fault' → (place ≡ place') × (fault ≡ fault')
IsFirstFault-unique raw text place place' fault fault' a b =
    let same = IsReading-unique raw 0 text a.front b.front (Faulty a.stop fault) (Faulty b.stop fault') (reading_of_fault raw text place fault a) (reading_of_fault raw text place' fault' b) in
    let outcomes : Faulty a.stop fault ≡ Faulty b.stop fault' = same.1 in
    let stops : a.stop ≡ b.stop = cc in
    let faults : fault ≡ fault' = cc in
    (omega (arith, ap length stops, a.here, b.here), faults)

-- ---- what the code comes to

leads_shorter : (len behind : ℕ → Text → ℕ) (steps level : ℕ) (text : Text) (level' : ℕ) (rest : Text) → Leads len behind steps level text level' rest → length rest ≤ length text
leads_shorter len behind zero level text level' rest row = omega (arith, ap length row.1)
leads_shorter len behind (suc steps) level text level' rest row =
    let after = leads_shorter len behind steps (behind level text) (drop (len level text) text) level' rest row.1 in
    omega (arith, length-drop (len level text) text)

halted_shorter : (text stop : Text) → IsHalted text stop → length stop ≤ length text
halted_shorter text stop halted =
    let row = row_of_halted text stop halted in
    let shorter = leads_shorter step_len brackets_behind row.steps 0 text row.brackets row.rest row.row in
    omega (arith, ap length row.here, length-drop (opened_len row.rest) row.rest)

misconverted_shorter : (text stop : Text) → IsMisconverted text stop → length stop ≤ length text
misconverted_shorter text stop bad =
    let after = drop bad.len text in
    let behind = behind_equals bad.len text in
    omega (arith, ap length bad.here, length-drop (right_len behind) behind, length-drop (equals_len after) after, length-drop bad.len text)

bad_shorter : (text stop : Text) (fault : FieldFault) → IsBadField text stop fault → length stop ≤ length text
bad_shorter text stop Backslash bad = halted_shorter text stop bad.0
bad_shorter text stop Comment bad = halted_shorter text stop bad.0
bad_shorter text stop Unclosed bad = omega (arith, ap length bad.1)
bad_shorter text stop EmptyField bad = omega (arith, ap length bad.here, length-drop bad.len text)
bad_shorter text stop BadConversion bad = misconverted_shorter text stop bad.0
bad_shorter text stop LoneBrace bad = absurd bad
bad_shorter text stop TooNested bad = absurd bad
bad_shorter text stop Memory bad = absurd bad

field_shorter : (text stop : Text) (fault : FieldFault) → IsBadField (drop 1 text) stop fault → length stop ≤ length text
field_shorter text stop fault bad = omega (arith, bad_shorter (drop 1 text) stop fault bad, length-drop 1 text)

-- a fault stands in what is left of the text
fault_shorter : (depth : ℕ) (text stop : Text) (fault : FieldFault) → IsFaultAt depth text stop fault → length stop ≤ length text
fault_shorter depth text stop Backslash is = field_shorter text stop Backslash is.1
fault_shorter depth text stop Comment is = field_shorter text stop Comment is.1
fault_shorter depth text stop Unclosed is =
    ⊎_elim (λ ended. omega (arith, ap length ended.2)) (λ inner. field_shorter text stop Unclosed inner.1) is
fault_shorter depth text stop EmptyField is = field_shorter text stop EmptyField is.1
fault_shorter depth text stop BadConversion is = field_shorter text stop BadConversion is.1
fault_shorter depth text stop LoneBrace is = omega (arith, ap length is.3)
fault_shorter depth text stop TooNested is = omega (arith, ap length is.2)
fault_shorter depth text stop Memory is = absurd is

-- parts as far as the end
pub whole_cut : (raw : Bool) (literal text : Text) (front : List Part) (depth : ℕ) (rest : Text) (pieces : List Piece) → text ≡ literal → Cuts raw 0 text front depth rest → IsOver depth rest → pieces ≡ pieces_of 0 0 front → IsCut raw literal pieces
whole_cut raw literal text front depth rest pieces same cut over are = record {
  parts = front;
  cut = subst (λ t. Cuts raw 0 t front 0 []) same (subst (λ t. Cuts raw 0 text front 0 t) over.1 (subst (λ d. Cuts raw 0 text front d rest) over.0 cut));
  are = are;
}

-- parts as far as a fault
pub first_fault : (raw : Bool) (literal text : Text) (front : List Part) (depth : ℕ) (rest stop : Text) (fault : FieldFault) → text ≡ literal → Cuts raw 0 text front depth rest → length rest ≤ length text → IsFaultAt depth rest stop fault → IsFirstFault raw literal (length literal - length stop) fault
first_fault raw literal text front depth rest stop fault same cut within stands =
    let shorter = fault_shorter depth rest stop fault stands in
    record {
      front = front;
      depth = depth;
      rest = rest;
      stop = stop;
      cut = subst (λ t. Cuts raw 0 t front depth rest) same cut;
      stands = stands;
      here = omega (arith, ap length same);
    }
