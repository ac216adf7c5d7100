-- Loops of the parser's functions: what is read again and again.
use Rattle.std.proofs.Common.{◌≡◌, ℕ, zero, suc, ◌+◌, ◌≤◌, ◌<◌, Bool, true, false, List, [], ◌∷◌, ◌++◌, length, take, drop, refl, sym, ap, ◌∙◌, length-append, arith}
use Rattle.std.proofs.lemmas.List.{append-nil}
use Rattle.tree_nodes.specs.Trees.{Tree}
use Rattle.py_language.specs.Sets.{at}
use Rattle.py_language.specs.Readers.{Read, got, fails, before, make, behind, after, both, nothing, times, many, skipped, more_items, separated, Cont, continue, turns, in_turns}
use Rattle.py_grammar.specs.Terminals.{Terminal, code}
use Rattle.py_grammar.specs.Reading.{LineReader}
use Rattle.py_forest.specs.declared.fault.Fault.{Fault}
use Rattle.py_forest.specs.declared.fault.Fault.TheVariants as faults
use Rattle.parse_steps.specs.Runs.{Failed}
use Rattle.parse_steps.proofs.Runs.{behind_after_is, behind_make}

pub behind_grows : (b m : List Tree) (r : Read Terminal) (ts : List Terminal) → behind b r ≡ got m ts → length b ≤ length m
behind_grows b m fails ts e = absurd cc
behind_grows b m (got u rest) ts e = let m_is : m ≡ b ++ u = cc in omega (arith, length-append b u, ap length m_is)

pub behind_after : (b m : List Tree) (r : Read Terminal) (q : LineReader) (ts : List Terminal) → behind b r ≡ got m ts → behind b (after r q) ≡ behind m (q ts)
behind_after b m r q ts e = rw (behind_after_is b r q, e) refl

behind_fails : (b : List Tree) (r : Read Terminal) → behind b r ≡ fails → r ≡ fails
behind_fails b fails e = refl
behind_fails b (got u rest) e = absurd cc

pub at_long : (first : List ℕ) (ts : List Terminal) → at code first ts ≡ true → 1 ≤ length ts
at_long first [] e = absurd cc
at_long first (t ∷ ts) e = omega arith

pub failed_same : (e : Fault) (a b : Read Terminal) → a ≡ b → Failed e b → Failed e a
failed_same faults.Memory a b g h = tt
failed_same faults.NoForm a b g h = g ∙ h

-- ---- as often as the front token is in a set

pub record Loop (first : List ℕ) (step : LineReader) (all : Read Terminal) (b : List Tree) (rest : List Terminal) : Type 0 where
  pub fuel : ℕ
  pub room : length rest ≤ fuel
  pub same : all ≡ behind b (times code first step fuel rest)

pub loop_begin : (first : List ℕ) (step : LineReader) (b : List Tree) (rest : List Terminal) → Loop first step (behind b (many code first step rest)) b rest
loop_begin first step b rest = record { fuel = length rest; room = omega arith; same = refl }

pub loop_enter : (first : List ℕ) (p step : LineReader) (b m : List Tree) (ts rest : List Terminal) → behind b (p ts) ≡ got m rest → Loop first step (behind b (both p (many code first step) ts)) m rest
loop_enter first p step b m ts rest e = record { fuel = length rest; room = omega arith; same = behind_after b m (p ts) (many code first step) rest e }

pub loop_turn : (first : List ℕ) (step : LineReader) (all : Read Terminal) (b m : List Tree) (ts rest : List Terminal) → Loop first step all b ts → at code first ts ≡ true → behind b (step ts) ≡ got m rest → length rest < length ts → Loop first step all m rest
loop_turn first step all b m ts rest l a e shorter = go l.fuel l.room l.same
  where
    go : (fuel : ℕ) → length ts ≤ fuel → all ≡ behind b (times code first step fuel ts) → Loop first step all m rest
    go zero r s = absurd (omega arith)
    go (suc k) r s = record { fuel = k; room = omega arith; same = s ∙ rw a (behind_after b m (step ts) (times code first step k) rest e) }

pub loop_end : (first : List ℕ) (step : LineReader) (all : Read Terminal) (b : List Tree) (ts : List Terminal) → Loop first step all b ts → at code first ts ≡ false → all ≡ got b ts
loop_end first step all b ts l a = l.same ∙ go l.fuel
  where
    go : (fuel : ℕ) → behind b (times code first step fuel ts) ≡ got b ts
    go zero = ap (λ (w : List Tree). got w ts) (append-nil b)
    go (suc k) = rw a (ap (λ (w : List Tree). got w ts) (append-nil b))

-- a turn gave nothing
pub loop_failed : (e : Fault) (first : List ℕ) (step : LineReader) (all : Read Terminal) (b : List Tree) (ts : List Terminal) → Loop first step all b ts → at code first ts ≡ true → Failed e (behind b (step ts)) → Failed e all
loop_failed faults.Memory first step all b ts l a h = tt
loop_failed faults.NoForm first step all b ts l a h = l.same ∙ go l.fuel l.room
  where
    go : (fuel : ℕ) → length ts ≤ fuel → behind b (times code first step fuel ts) ≡ fails
    go zero r = absurd (omega (arith, at_long first ts a))
    go (suc k) r = let h' = behind_fails b (step ts) h in rw (a, h') refl

-- ---- items with separators

pub record CommaLoop (separator first : List ℕ) (p : LineReader) (all : Read Terminal) (b : List Tree) (rest : List Terminal) : Type 0 where
  pub fuel : ℕ
  pub room : length rest ≤ fuel
  pub same : all ≡ behind b (more_items code separator first p fuel rest)

pub comma_enter : (separator first : List ℕ) (p : LineReader) (b m : List Tree) (ts rest : List Terminal) → behind b (p ts) ≡ got m rest → CommaLoop separator first p (behind b (separated code separator first p ts)) m rest
comma_enter separator first p b m ts rest e = record { fuel = length rest; room = omega arith; same = behind_after b m (p ts) (λ w. more_items code separator first p (length w) w) rest e }

nil_behind : (r : Read Terminal) → behind [] r ≡ r
nil_behind fails = refl
nil_behind (got u w) = refl

pub comma_turn : (separator first : List ℕ) (p : LineReader) (all : Read Terminal) (b m : List Tree) (ts rest : List Terminal) → CommaLoop separator first p all b ts → at code separator ts ≡ true → at code first (drop 1 ts) ≡ true → behind b (p (drop 1 ts)) ≡ got m rest → length rest < length ts → CommaLoop separator first p all m rest
comma_turn separator first p all b m [] rest l a f e shorter = absurd cc
comma_turn separator first p all b m (t ∷ ts) rest l a f e shorter = go l.fuel l.room l.same
  where
    go : (fuel : ℕ) → length (t ∷ ts) ≤ fuel → all ≡ behind b (more_items code separator first p fuel (t ∷ ts)) → CommaLoop separator first p all m rest
    go zero r s = absurd (omega arith)
    go (suc k) r s = record { fuel = k; room = omega arith; same = s ∙ rw (a, f) (ap (behind b) (nil_behind (after (p ts) (more_items code separator first p k))) ∙ behind_after b m (p ts) (more_items code separator first p k) rest e) }

pub comma_end : (separator first : List ℕ) (p : LineReader) (all : Read Terminal) (b : List Tree) (ts : List Terminal) → CommaLoop separator first p all b ts → at code separator ts ≡ false → all ≡ got b ts
comma_end separator first p all b ts l a = l.same ∙ go l.fuel
  where
    go : (fuel : ℕ) → behind b (more_items code separator first p fuel ts) ≡ got b ts
    go zero = ap (λ (w : List Tree). got w ts) (append-nil b)
    go (suc k) = rw a (ap (λ (w : List Tree). got w ts) (append-nil b))

pub comma_last : (separator first : List ℕ) (p : LineReader) (all : Read Terminal) (b : List Tree) (ts : List Terminal) → CommaLoop separator first p all b ts → at code separator ts ≡ true → at code first (drop 1 ts) ≡ false → all ≡ got b (drop 1 ts)
comma_last separator first p all b [] l a f = absurd cc
comma_last separator first p all b (t ∷ ts) l a f = l.same ∙ go l.fuel l.room
  where
    go : (fuel : ℕ) → length (t ∷ ts) ≤ fuel → behind b (more_items code separator first p fuel (t ∷ ts)) ≡ got b ts
    go zero r = absurd (omega arith)
    go (suc k) r = rw (a, f) (ap (λ (w : List Tree). got w ts) (append-nil b))

pub comma_failed : (e : Fault) (separator first : List ℕ) (p : LineReader) (all : Read Terminal) (b : List Tree) (ts : List Terminal) → CommaLoop separator first p all b ts → at code separator ts ≡ true → at code first (drop 1 ts) ≡ true → Failed e (behind b (p (drop 1 ts))) → Failed e all
comma_failed faults.Memory separator first p all b ts l a f h = tt
comma_failed faults.NoForm separator first p all b [] l a f h = absurd cc
comma_failed faults.NoForm separator first p all b (t ∷ ts) l a f h = l.same ∙ go l.fuel l.room
  where
    go : (fuel : ℕ) → length (t ∷ ts) ≤ fuel → behind b (more_items code separator first p fuel (t ∷ ts)) ≡ fails
    go zero r = absurd (omega arith)
    go (suc k) r = let h' = behind_fails b (p ts) h in rw (a, f, h') refl

-- ---- steps behind what stands from a mark on

pub record TurnLoop (first : List ℕ) (k : Cont Terminal) (start : List Terminal) (all : Read Terminal) (below b : List Tree) (rest : List Terminal) : Type 0 where
  pub fuel : ℕ
  pub room : length rest ≤ fuel
  pub tops : List Tree
  pub stands : b ≡ below ++ tops
  pub same : all ≡ behind below (turns code first k fuel start tops rest)

pub turns_enter : (first : List ℕ) (k : Cont Terminal) (p : LineReader) (below m : List Tree) (ts rest : List Terminal) → behind below (p ts) ≡ got m rest → length rest ≤ length ts → TurnLoop first k ts (behind below (in_turns code p first k ts)) below m rest
turns_enter first k p below m ts rest e shorter = go (p ts) e
  where
    go : (r : Read Terminal) → behind below r ≡ got m rest → TurnLoop first k ts (behind below (continue ts r (turns code first k (length ts)))) below m rest
    go fails h = absurd cc
    go (got u mid) h =
        let mid_is : mid ≡ rest = cc in
        record { fuel = length ts; room = omega arith; tops = u; stands = cc; same = ap (λ (w : List Terminal). behind below (turns code first k (length ts) ts u w)) mid_is }

pub turns_turn : (first : List ℕ) (k : Cont Terminal) (start : List Terminal) (all : Read Terminal) (below b m : List Tree) (mark : ℕ) (ts rest : List Terminal) → TurnLoop first k start all below b ts → at code first ts ≡ true → mark ≡ length below
    → ((l u : List Tree) → b ≡ l ++ u → length l ≡ mark → behind l (k start u ts) ≡ got m rest) → length rest < length ts → TurnLoop first k start all below m rest
turns_turn first k start all below b m mark ts rest l a em step shorter = go l.fuel l.room l.same (k start l.tops ts) refl (step below l.tops l.stands (omega arith))
  where
    go : (fuel : ℕ) → length ts ≤ fuel → all ≡ behind below (turns code first k fuel start l.tops ts) → (r : Read Terminal) → k start l.tops ts ≡ r → behind below r ≡ got m rest → TurnLoop first k start all below m rest
    go zero r s q f h = absurd (omega arith)
    go (suc n) r s fails f h = absurd cc
    go (suc n) r s (got v mid) f h =
        let mid_is : mid ≡ rest = cc in
        record { fuel = n; room = omega arith; tops = v; stands = cc; same = s ∙ rw (a, f) (ap (λ (w : List Terminal). behind below (turns code first k n start v w)) mid_is) }

pub turns_end : (first : List ℕ) (k : Cont Terminal) (start : List Terminal) (all : Read Terminal) (below b : List Tree) (ts : List Terminal) → TurnLoop first k start all below b ts → at code first ts ≡ false → all ≡ got b ts
turns_end first k start all below b ts l a = l.same ∙ go l.fuel
  where
    go : (fuel : ℕ) → behind below (turns code first k fuel start l.tops ts) ≡ got b ts
    go zero = ap (λ (w : List Tree). got w ts) (sym l.stands)
    go (suc n) = rw a (ap (λ (w : List Tree). got w ts) (sym l.stands))

pub turns_failed : (e : Fault) (first : List ℕ) (k : Cont Terminal) (start : List Terminal) (all : Read Terminal) (below b : List Tree) (mark : ℕ) (ts : List Terminal) → TurnLoop first k start all below b ts → at code first ts ≡ true → mark ≡ length below
    → ((l u : List Tree) → b ≡ l ++ u → length l ≡ mark → Failed e (behind l (k start u ts))) → Failed e all
turns_failed faults.Memory first k start all below b mark ts l a em step = tt
turns_failed faults.NoForm first k start all below b mark ts l a em step = l.same ∙ go l.fuel l.room
  where
    none : k start l.tops ts ≡ fails
    none = behind_fails below (k start l.tops ts) (step below l.tops l.stands (sym em))

    go : (fuel : ℕ) → length ts ≤ fuel → behind below (turns code first k fuel start l.tops ts) ≡ fails
    go zero r = absurd (omega (arith, at_long first ts a))
    go (suc n) r = let h = none in rw (a, h) refl

-- ---- nodes over what was read

-- the trees from mark on become others
pub made_done : (over : List Terminal → List Tree → List Tree) (all : List Terminal) (b m n : List Tree) (mark : ℕ) (r : Read Terminal) (rest : List Terminal) → behind b r ≡ got m rest → mark ≡ length b
    → n ≡ take mark m ++ over (before all rest) (drop mark m) → behind b (make over all r) ≡ got n rest
made_done over all b m n mark r rest e l g = behind_make b over all r ∙ rw (e, g, l) refl

pub failed_make : (e : Fault) (b : List Tree) (over : List Terminal → List Tree → List Tree) (all : List Terminal) (r : Read Terminal) → Failed e (behind b r) → Failed e (behind b (make over all r))
failed_make faults.Memory b over all r h = tt
failed_make faults.NoForm b over all r h = rw (behind_make b over all r, h) refl

pub failed_after : (e : Fault) (b : List Tree) (r : Read Terminal) (q : LineReader) → Failed e (behind b r) → Failed e (behind b (after r q))
failed_after faults.Memory b r q h = tt
failed_after faults.NoForm b r q h = rw (behind_after_is b r q, h) refl

-- where the first is read and the second fails, so do both
pub failed_behind : (e : Fault) (b m : List Tree) (r : Read Terminal) (q : LineReader) (ts : List Terminal) → behind b r ≡ got m ts → Failed e (behind m (q ts)) → Failed e (behind b (after r q))
failed_behind e b m r q ts g h = failed_same e _ _ (behind_after b m r q ts g) h
