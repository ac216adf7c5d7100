-- What stands behind an expression, and makes a statement with it.
use Rattle.std.proofs.Common.{◌≡◌, ℕ, Bool, true, false, List, ◌++◌, length, take, drop, Result, Ok, Err, refl, sym, ap, ◌≤◌, ◌∙◌, append_assoc, length-append, arith}
use Rattle.std.proofs.lemmas.List.{take_at, drop_at, length-take}
use Rattle.tree_nodes.specs.Trees.{Tree}
use Rattle.py_language.specs.Readers.{Read, got, fails, behind, before, after, make, filter, Cont, continue}
use Rattle.py_grammar.specs.Reading.{LineReader}
use Rattle.py_grammar.specs.Terminals.{Terminal}
use Rattle.py_forest.specs.declared.fault.Fault.{Fault}
use Rattle.py_forest.specs.declared.fault.Fault.TheVariants as faults
use Rattle.parse_steps.specs.Runs.{Failed, Reads}
use Rattle.parse_steps.proofs.Runs.{behind_filter}
use Rattle.parse_steps.proofs.Loops.{behind_after, behind_grows}

-- what goes on behind what was read
pub followed_reads : (line : List Terminal) (b m n : List Tree) (r : Read Terminal) (k : Cont Terminal) (all mid : List Terminal) (res : Result ℕ Fault) → behind b r ≡ got m mid
    → ((u : List Tree) → m ≡ b ++ u → Reads line b n res (k all u mid)) → Reads line b n res (continue all r k)
followed_reads line b m n fails k all mid res e h = absurd cc
followed_reads line b m n (got u x) k all mid res e h =
    let x_is : mid ≡ x = cc in
    let m_is : m ≡ b ++ u = cc in
    rw x_is at h u m_is

-- all trees are tested and made into something
pub tested_done : (test : List Tree → Bool) (over : List Terminal → List Tree → List Tree) (below u b m out : List Tree) (all : List Terminal) (mark : ℕ) (r : Read Terminal) (rest : List Terminal)
    → b ≡ below ++ u → length below ≡ mark → behind b r ≡ got m rest → test (drop mark m) ≡ true → out ≡ take mark m ++ over (before all rest) (drop mark m)
    → behind below (make (λ front v. over front (u ++ v)) all (filter (λ v. test (u ++ v)) r)) ≡ got out rest
tested_done test over below u b m out all mark fails rest eb el e t g = absurd cc
tested_done test over below u b m out all mark (got v mid) rest eb el e t g =
    let m_b : m ≡ b ++ v = cc in
    let m_is : m ≡ below ++ (u ++ v) = m_b ∙ rw eb (append_assoc below u v) in
    let mid_is : mid ≡ rest = cc in
    let tk : take mark m ≡ below = rw m_is (take_at below (u ++ v) mark el) in
    let d : drop mark m ≡ u ++ v = rw m_is (drop_at below (u ++ v) mark el) in
    let t' = rw d at t in
    rw (t', mid_is, g, tk, d) refl

-- the test refuses them
pub tested_fails : (test : List Tree → Bool) (over : List Terminal → List Tree → List Tree) (below u b m : List Tree) (all : List Terminal) (mark : ℕ) (r : Read Terminal) (rest : List Terminal)
    → b ≡ below ++ u → length below ≡ mark → behind b r ≡ got m rest → test (drop mark m) ≡ false → behind below (make (λ front v. over front (u ++ v)) all (filter (λ v. test (u ++ v)) r)) ≡ fails
tested_fails test over below u b m all mark fails rest eb el e t = absurd cc
tested_fails test over below u b m all mark (got v mid) rest eb el e t =
    let m_b : m ≡ b ++ v = cc in
    let m_is : m ≡ below ++ (u ++ v) = m_b ∙ rw eb (append_assoc below u v) in
    let d : drop mark m ≡ u ++ v = rw m_is (drop_at below (u ++ v) mark el) in
    let t' = rw d at t in
    rw t' refl

-- nothing was read behind
pub tested_failed : (e : Fault) (test : List Tree → Bool) (over : List Terminal → List Tree → List Tree) (below u b : List Tree) (all : List Terminal) (r : Read Terminal)
    → Failed e (behind b r) → Failed e (behind below (make (λ front v. over front (u ++ v)) all (filter (λ v. test (u ++ v)) r)))
tested_failed faults.Memory test over below u b all r h = tt
tested_failed faults.NoForm test over below u b all fails h = refl
tested_failed faults.NoForm test over below u b all (got v mid) h = absurd cc

-- trees from a mark on that become others, and then one node
pub changed_done : (over : List Terminal → List Tree → List Tree) (change : List Tree → List Tree) (m m' out : List Tree) (ts : List Terminal) (mark : ℕ) → mark ≤ length m → m' ≡ take mark m ++ change (drop mark m)
    → out ≡ take mark m' ++ over ts (drop mark m') → out ≡ take mark m ++ over ts (change (drop mark m))
changed_done over change m m' out ts mark l e g =
    let long : length (take mark m) ≡ mark = omega (arith, length-take mark m) in
    let t : take mark m' ≡ take mark m = rw e (take_at (take mark m) (change (drop mark m)) mark long) in
    let d : drop mark m' ≡ change (drop mark m) = rw e (drop_at (take mark m) (change (drop mark m)) mark long) in
    g ∙ rw (t, d) refl

-- what was there before stays
pub mark_within : (below u b m : List Tree) (mark : ℕ) (r : Read Terminal) (rest : List Terminal) → b ≡ below ++ u → length below ≡ mark → behind b r ≡ got m rest → mark ≤ length m
mark_within below u b m mark r rest e l h = omega (arith, behind_grows b m r rest h, ap length e, length-append below u, l)

-- the second gave nothing
pub failed_second : (e : Fault) (b m : List Tree) (r : Read Terminal) (q : LineReader) (ts : List Terminal) → behind b r ≡ got m ts → Failed e (behind m (q ts)) → Failed e (behind b (after r q))
failed_second faults.Memory b m r q ts g h = tt
failed_second faults.NoForm b m r q ts g h = behind_after b m r q ts g ∙ h

-- a test holds of the trees from a mark on
pub filtered : (test : List Tree → Bool) (b m : List Tree) (r : Read Terminal) (rest : List Terminal) (mark : ℕ) → behind b r ≡ got m rest → mark ≡ length b → test (drop mark m) ≡ true → behind b (filter test r) ≡ got m rest
filtered test b m r rest mark e l t =
    let t' : test (drop (length b) m) ≡ true = ap (λ (k : ℕ). test (drop k m)) (sym l) ∙ t in
    behind_filter b test r ∙ rw (e, t') refl

-- a call that reads what is left, behind what was read
pub reads_last : (line : List Terminal) (b m n : List Tree) (res : Result ℕ Fault) (r : Read Terminal) (q : LineReader) (mid : List Terminal) → behind b r ≡ got m mid → Reads line m n res (q mid) → Reads line b n res (after r q)
reads_last line b m n (Ok rest) r q mid e h = behind_after b m r q mid e ∙ h
reads_last line b m n (Err fault) r q mid e h = failed_second fault b m r q mid e h
