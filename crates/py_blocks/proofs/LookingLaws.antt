-- The search for the first fault goes on line by line.
use Rattle.std.proofs.Common.{◌≡◌, ℕ, ◌+◌, ◌-◌, ◌<◌, ◌≤◌, List, [], ◌∷◌, Bool, length, get_or, take, drop, Option, Some, None, refl, sym, ap, subst, ◌∙◌, arith}
use Rattle.std.proofs.Math.Seq.{take-length}
use Rattle.py_grammar.specs.declared.head.Head.{Head}
use Rattle.py_blocks.specs.declared.line.Line.{Line}
use Rattle.py_blocks.specs.declared.standing.Standing.{Standing}
use Rattle.py_blocks.specs.declared.standing.Around.{Around}
use Rattle.py_blocks.specs.declared.fault.BlockCause.{BlockCause}
use Rattle.py_blocks.specs.declared.fault.BlockFault.{BlockFault}
use Rattle.py_blocks.specs.Rules.{cause_at, or_later, fault_behind, first_fault, nearest, around}
use Rattle.py_blocks.specs.Standing.{left, elder_at, below, surroundings, standing_of}
use Rattle.py_blocks.specs.Looking.{IsLooking}
use Rattle.py_blocks.proofs.StandingLaws.{surroundings-are}

-- the lines behind the first
behind-first : (line : Line) (later : List Line) → take (length (line ∷ later) - 1) (drop 1 (line ∷ later)) ≡ later
behind-first line later = let e : length (line ∷ later) - 1 ≡ length later = omega arith in rw e (take-length later)

module _ (is_whole : Bool) (lines : List Line) (place : ℕ) (previous : Option Line) (standing : List Standing) where
  cause-is : (line : Line) (later : List Line) (a : Around) (h : IsLooking is_whole lines place previous standing (line ∷ later)) → a ≡ surroundings previous line.level standing
      → cause_at is_whole a line later ≡ cause_at is_whole (around line.level h.before) line later
  cause-is line later a h e =
      ap (λ (x : Around). cause_at is_whole x line later) (e ∙ ap (λ (p : Option Line). surroundings p line.level standing) h.previous_is ∙ ap (surroundings (nearest h.before) line.level) h.standing_is ∙ surroundings-are h.before line.level)

  -- a cause was found
  pub found : (rest : List Line) (d : Line) (a : Around) (cause : BlockCause) → IsLooking is_whole lines place previous standing rest → 1 ≤ length rest
      → a ≡ surroundings previous (get_or rest 0 d).level standing → cause_at is_whole a (get_or rest 0 d) (take (length rest - 1) (drop 1 rest)) ≡ Some cause
      → Some (record { place = place; cause = cause }) ≡ first_fault is_whole lines
  found [] d a cause h l e f = absurd (omega arith)
  found (line ∷ later) d a cause h l e f =
      let here : cause_at is_whole (around line.level h.before) line later ≡ Some cause = sym (cause-is line later a h e) ∙ ap (cause_at is_whole a line) (sym (behind-first line later)) ∙ f in
      let all : or_later (cause_at is_whole (around line.level h.before) line later) (length h.before) (fault_behind is_whole (line ∷ h.before) later) ≡ fault_behind is_whole [] lines = h.rest_is in
      rw h.place_is (rw here at all)

  -- the place is one of a line
  pub within : (rest : List Line) → IsLooking is_whole lines place previous standing rest → 1 ≤ length rest → place < length lines
  within rest h l = omega (arith, h.long)

  -- no line is left
  pub none-left : (rest : List Line) → IsLooking is_whole lines place previous standing rest → length rest < 1 → first_fault is_whole lines ≡ None
  none-left [] h l = sym h.rest_is
  none-left (line ∷ rest) h l = absurd (omega arith)

  -- no cause was found at this line
  pub passed : (rest : List Line) (d : Line) (a : Around) (new mid : List Standing) → IsLooking is_whole lines place previous standing rest → 1 ≤ length rest
      → a ≡ surroundings previous (get_or rest 0 d).level standing → cause_at is_whole a (get_or rest 0 d) (take (length rest - 1) (drop 1 rest)) ≡ None
      → new ≡ record { level = (get_or rest 0 d).level; head = (get_or rest 0 d).head; elder = a.elder } ∷ mid → mid ≡ below (get_or rest 0 d).level (left (get_or rest 0 d).level standing)
      → IsLooking is_whole lines (place + 1) (Some (get_or rest 0 d)) new (take (length rest - 1) (drop 1 rest))
  passed [] d a new mid h l e f g k = absurd (omega arith)
  passed (line ∷ later) d a new mid h l e f g k =
      let behind = behind-first line later in
      let here : cause_at is_whole (around line.level h.before) line later ≡ None = sym (cause-is line later a h e) ∙ ap (cause_at is_whole a line) (sym behind) ∙ f in
      let all : or_later (cause_at is_whole (around line.level h.before) line later) (length h.before) (fault_behind is_whole (line ∷ h.before) later) ≡ fault_behind is_whole [] lines = h.rest_is in
      record {
        before = line ∷ h.before;
        place_is = omega (arith, h.place_is);
        previous_is = refl;
        standing_is = g ∙ ap (λ (s : List Standing). record { level = line.level; head = line.head; elder = a.elder } ∷ s) k ∙ ap (λ (x : Around). record { level = line.level; head = line.head; elder = x.elder } ∷ below line.level (left line.level standing)) e
            ∙ ap (λ (s : List Standing). record { level = line.level; head = line.head; elder = elder_at line.level (left line.level s) } ∷ below line.level (left line.level s)) h.standing_is;
        rest_is = rw behind (rw here at all);
        long = rw behind (omega (arith, h.long));
      }
