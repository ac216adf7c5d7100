-- Lines from what was read of them.
use Rattle.std.proofs.Common.{◌≡◌, ℕ, ◌-◌, ◌<◌, ◌≤◌, nat_le, true, false, Option, Some, None, List, [], ◌∷◌, ◌++◌, length, drop, Err, refl, sym, ap, ◌∙◌, append_assoc, length-append, arith}
use Rattle.std.specs.Prelude.{is_some}
use Rattle.std.proofs.lemmas.List.{drop_at, drop_all, append-nil, length-drop}
use Rattle.tree_nodes.specs.Trees.{Tree}
use Rattle.py_language.specs.Nesting.{nesting_of}
use Rattle.py_language.specs.Readers.{Read, got, fails, behind, both}
use Rattle.py_grammar.specs.declared.entry.Entry.{Entry}
use Rattle.py_grammar.specs.declared.head.Head.{Head}
use Rattle.py_grammar.specs.declared.head.Head.TheVariants as heads
use Rattle.py_grammar.specs.Terminals.{Terminal}
use Rattle.py_grammar.specs.Words.{colon}
use Rattle.py_grammar.specs.Weights.{weight}
use Rattle.py_grammar.specs.Lines.{LineForm}
use Rattle.py_grammar.specs.Reading.{LineReader, token}
use Rattle.py_grammar.specs.ReadingStatements.{statements_at}
use Rattle.py_grammar.specs.ReadingLines.{shallow, or_line, with_body, without_body, behind_header, headed_at, simple_at}
use Rattle.py_forest.specs.declared.fault.Fault.{Fault}
use Rattle.py_forest.specs.declared.fault.Fault.TheVariants as faults
use Rattle.parse_steps.specs.Runs.{Failed}
use Rattle.parse_line.specs.declared.found.Found.{Found}
use Rattle.parse_line.specs.Headers.{body_at}
use Rattle.parse_line.specs.Found.{IsFound, Finds}

-- ---- the first, and where it is none the second

pub or_first : (a b : Option LineForm) → true ≡ is_some a → or_line a b ≡ a
or_first None b e = absurd cc
or_first (Some x) b e = refl

pub or_second : (a b : Option LineForm) → false ≡ is_some a → or_line a b ≡ b
or_second None b e = refl
or_second (Some x) b e = absurd cc

-- ---- what was read

got_behind : (b m : List Tree) (r : Read Terminal) (rest : List Terminal) → behind b r ≡ got m rest → (u : List Tree) × (r ≡ got u rest) × (m ≡ b ++ u)
got_behind b m fails rest e = absurd cc
got_behind b m (got u mid) rest e = let mid_is : mid ≡ rest = cc in (u, ap (λ (w : List Terminal). got u w) mid_is, cc)

behind_fails : (b : List Tree) (r : Read Terminal) → behind b r ≡ fails → r ≡ fails
behind_fails b fails e = refl
behind_fails b (got u rest) e = absurd cc

-- nothing was read
failed_none : (e : Fault) (b new : List Tree) (r : Read Terminal) (f : Read Terminal → Option LineForm) → f fails ≡ None → Failed e (behind b r) → Finds b new (Err e) (f r)
failed_none faults.Memory b new r f z h = tt
failed_none faults.NoForm b new r f z h = ap f (behind_fails b r h) ∙ z

behind_is : (self : Entry → LineReader) (head : Head) (u : List Tree) (rest : List Terminal) → behind_header self head (got u rest) ≡ with_body head u (body_at self rest)
unfolding body_at
behind_is self head u [] = refl
behind_is self head u (t ∷ ts) = refl

-- trees that were read to the line's end, and are not nested too deep
found_is : (head : Head) (b u v m : List Tree) (n : ℕ) → m ≡ b ++ (u ++ v) → nat_le (nesting_of weight (drop (length b) m)) 200 ≡ true → n ≡ length u → IsFound b m (record { head = head; nodes = n }) (shallow (Some (record { head = head; nodes = u; body = v })))
found_is head b u v m n e t l =
    let d : drop (length b) m ≡ u ++ v = rw e (drop_at b (u ++ v) (length b) refl) in
    let t' : nat_le (nesting_of weight (u ++ v)) 200 ≡ true = ap (λ (ts : List Tree). nat_le (nesting_of weight ts) 200) (sym d) ∙ t in
    record { nodes = u; body = v; form_is = rw t' refl; trees = e; count = l }

deep_is : (head : Head) (b u v m : List Tree) → m ≡ b ++ (u ++ v) → nat_le (nesting_of weight (drop (length b) m)) 200 ≡ false → shallow (Some (record { head = head; nodes = u; body = v })) ≡ None
deep_is head b u v m e t =
    let d : drop (length b) m ≡ u ++ v = rw e (drop_at b (u ++ v) (length b) refl) in
    let t' : nat_le (nesting_of weight (u ++ v)) 200 ≡ false = ap (λ (ts : List Tree). nat_le (nesting_of weight ts) 200) (sym d) ∙ t in
    rw t' refl

found_by : {x y : Option LineForm} (b m : List Tree) (found : Found) → y ≡ x → IsFound b m found x → IsFound b m found y
found_by b m found e f = record { nodes = f.nodes; body = f.body; form_is = e ∙ f.form_is; trees = f.trees; count = f.count }

grown : (b m n u v : List Tree) → m ≡ b ++ u → n ≡ m ++ v → n ≡ b ++ (u ++ v)
grown b m n u v e f = f ∙ ap (λ (ts : List Tree). ts ++ v) e ∙ append_assoc b u v

counted : (b m u : List Tree) (n mark : ℕ) → m ≡ b ++ u → mark ≡ length b → n ≡ length m - mark → n ≡ length u
counted b m u n mark e l f = omega (arith, l, f, ap length e, length-append b u)

-- ---- headers with statements

-- what a header and statements behind it come to
headed_is : (self : Entry → LineReader) (head : Head) (header : LineReader) (ts r1 r2 : List Terminal) (u v : List Tree) → both header (token colon) ts ≡ got u r1 → body_at self r1 ≡ got v r2 → headed_at self head header ts ≡ shallow (with_body head u (got v r2))
unfolding headed_at
headed_is self head header ts r1 r2 u v e f = ap (λ (r : Read Terminal). shallow (behind_header self head r)) e ∙ ap shallow (behind_is self head u r1) ∙ ap (λ (r : Read Terminal). shallow (with_body head u r)) f

pub headed_found : (self : Entry → LineReader) (head : Head) (header : LineReader) (b m m2 : List Tree) (ts r1 r2 : List Terminal) (n mark : ℕ) → behind b (both header (token colon) ts) ≡ got m r1 → behind m (body_at self r1) ≡ got m2 r2 → r2 ≡ []
    → mark ≡ length b → nat_le (nesting_of weight (drop mark m2)) 200 ≡ true → n ≡ length m - mark → IsFound b m2 (record { head = head; nodes = n }) (headed_at self head header ts)
headed_found self head header b m m2 ts r1 r2 n mark e1 e2 e3 l t c =
    let (u, f, m_is) = got_behind b m (both header (token colon) ts) r1 e1 in
    let (v, g, m2_is) = got_behind m m2 (body_at self r1) r2 e2 in
    let whole_is = grown b m m2 u v m_is m2_is in
    let t' : nat_le (nesting_of weight (drop (length b) m2)) 200 ≡ true = ap (λ (k : ℕ). nat_le (nesting_of weight (drop k m2)) 200) (sym l) ∙ t in
    found_by b m2 (record { head = head; nodes = n }) (headed_is self head header ts r1 r2 u v f g ∙ ap (λ (w : List Terminal). shallow (with_body head u (got v w))) e3) (found_is head b u v m2 n whole_is t' (counted b m u n mark m_is l c))

pub headed_deep : (self : Entry → LineReader) (head : Head) (header : LineReader) (b m m2 : List Tree) (ts r1 r2 : List Terminal) (mark : ℕ) → behind b (both header (token colon) ts) ≡ got m r1 → behind m (body_at self r1) ≡ got m2 r2 → r2 ≡ []
    → mark ≡ length b → nat_le (nesting_of weight (drop mark m2)) 200 ≡ false → headed_at self head header ts ≡ None
headed_deep self head header b m m2 ts r1 r2 mark e1 e2 e3 l t =
    let (u, f, m_is) = got_behind b m (both header (token colon) ts) r1 e1 in
    let (v, g, m2_is) = got_behind m m2 (body_at self r1) r2 e2 in
    let t' : nat_le (nesting_of weight (drop (length b) m2)) 200 ≡ false = ap (λ (k : ℕ). nat_le (nesting_of weight (drop k m2)) 200) (sym l) ∙ t in
    headed_is self head header ts r1 r2 u v f g ∙ ap (λ (w : List Terminal). shallow (with_body head u (got v w))) e3 ∙ deep_is head b u v m2 (grown b m m2 u v m_is m2_is) t'

with_more : (head : Head) (u v : List Tree) (r : List Terminal) → 1 ≤ length r → with_body head u (got v r) ≡ None
with_more head u v [] l = absurd (omega arith)
with_more head u v (t ∷ ts) l = refl

pub headed_more : (self : Entry → LineReader) (head : Head) (header : LineReader) (b m m2 : List Tree) (ts r1 r2 : List Terminal) → behind b (both header (token colon) ts) ≡ got m r1 → behind m (body_at self r1) ≡ got m2 r2 → 1 ≤ length r2 → headed_at self head header ts ≡ None
headed_more self head header b m m2 ts r1 r2 e1 e2 l =
    let (u, f, m_is) = got_behind b m (both header (token colon) ts) r1 e1 in
    let (v, g, m2_is) = got_behind m m2 (body_at self r1) r2 e2 in
    headed_is self head header ts r1 r2 u v f g ∙ ap shallow (with_more head u v r2 l)

pub headed_failed : (e : Fault) (self : Entry → LineReader) (head : Head) (header : LineReader) (b new : List Tree) (ts : List Terminal) → Failed e (behind b (both header (token colon) ts)) → Finds b new (Err e) (headed_at self head header ts)
unfolding headed_at
headed_failed e self head header b new ts h = failed_none e b new (both header (token colon) ts) (λ r. shallow (behind_header self head r)) refl h

pub body_failed : (e : Fault) (self : Entry → LineReader) (head : Head) (header : LineReader) (b m new : List Tree) (ts r1 : List Terminal) → behind b (both header (token colon) ts) ≡ got m r1 → Failed e (behind m (body_at self r1)) → Finds b new (Err e) (headed_at self head header ts)
unfolding headed_at
body_failed faults.Memory self head header b m new ts r1 e1 h = tt
body_failed faults.NoForm self head header b m new ts r1 e1 h =
    let (u, f, m_is) = got_behind b m (both header (token colon) ts) r1 e1 in
    none u f
  where
    none : (u : List Tree) → both header (token colon) ts ≡ got u r1 → headed_at self head header ts ≡ None
    none u f = ap (λ (r : Read Terminal). shallow (behind_header self head r)) f ∙ ap shallow (behind_is self head u r1) ∙ ap (λ (r : Read Terminal). shallow (with_body head u r)) (behind_fails m (body_at self r1) h)

-- ---- lines without statements

without_more : (head : Head) (u : List Tree) (r : List Terminal) → 1 ≤ length r → without_body head (got u r) ≡ None
without_more head u [] l = absurd (omega arith)
without_more head u (t ∷ ts) l = refl

pub nodes_found : (head : Head) (b m : List Tree) (r : Read Terminal) (rest : List Terminal) (n mark : ℕ) → behind b r ≡ got m rest → rest ≡ [] → mark ≡ length b → nat_le (nesting_of weight (drop mark m)) 200 ≡ true → n ≡ length m - mark
    → IsFound b m (record { head = head; nodes = n }) (shallow (without_body head r))
nodes_found head b m r rest n mark e e2 l t c =
    let (u, f, m_is) = got_behind b m r rest e in
    let t' : nat_le (nesting_of weight (drop (length b) m)) 200 ≡ true = ap (λ (k : ℕ). nat_le (nesting_of weight (drop k m)) 200) (sym l) ∙ t in
    found_by b m (record { head = head; nodes = n }) (ap (λ (x : Read Terminal). shallow (without_body head x)) f ∙ ap (λ (w : List Terminal). shallow (without_body head (got u w))) e2)
    (found_is head b u [] m n (m_is ∙ ap (λ (ts : List Tree). b ++ ts) (sym (append-nil u))) t' (counted b m u n mark m_is l c))

pub nodes_deep : (head : Head) (b m : List Tree) (r : Read Terminal) (rest : List Terminal) (mark : ℕ) → behind b r ≡ got m rest → rest ≡ [] → mark ≡ length b → nat_le (nesting_of weight (drop mark m)) 200 ≡ false → shallow (without_body head r) ≡ None
nodes_deep head b m r rest mark e e2 l t =
    let (u, f, m_is) = got_behind b m r rest e in
    let t' : nat_le (nesting_of weight (drop (length b) m)) 200 ≡ false = ap (λ (k : ℕ). nat_le (nesting_of weight (drop k m)) 200) (sym l) ∙ t in
    ap (λ (x : Read Terminal). shallow (without_body head x)) f ∙ ap (λ (w : List Terminal). shallow (without_body head (got u w))) e2 ∙ deep_is head b u [] m (m_is ∙ ap (λ (ts : List Tree). b ++ ts) (sym (append-nil u))) t'

pub nodes_more : (head : Head) (b m : List Tree) (r : Read Terminal) (rest : List Terminal) → behind b r ≡ got m rest → 1 ≤ length rest → shallow (without_body head r) ≡ None
nodes_more head b m r rest e l =
    let (u, f, m_is) = got_behind b m r rest e in
    ap (λ (x : Read Terminal). shallow (without_body head x)) f ∙ ap shallow (without_more head u rest l)

pub nodes_failed : (e : Fault) (head : Head) (b new : List Tree) (r : Read Terminal) → Failed e (behind b r) → Finds b new (Err e) (shallow (without_body head r))
nodes_failed e head b new r h = failed_none e b new r (λ x. shallow (without_body head x)) refl h

-- ---- simple statements

pub simple_found : (self : Entry → LineReader) (b m : List Tree) (ts rest : List Terminal) (mark : ℕ) → behind b (statements_at self ts) ≡ got m rest → rest ≡ [] → mark ≡ length b → nat_le (nesting_of weight (drop mark m)) 200 ≡ true
    → IsFound b m (record { head = heads.Simple; nodes = 0 }) (simple_at self ts)
unfolding simple_at
simple_found self b m ts rest mark e e2 l t =
    let (v, f, m_is) = got_behind b m (statements_at self ts) rest e in
    let t' : nat_le (nesting_of weight (drop (length b) m)) 200 ≡ true = ap (λ (k : ℕ). nat_le (nesting_of weight (drop k m)) 200) (sym l) ∙ t in
    found_by b m (record { head = heads.Simple; nodes = 0 }) (ap (λ (x : Read Terminal). shallow (with_body heads.Simple [] x)) f ∙ ap (λ (w : List Terminal). shallow (with_body heads.Simple [] (got v w))) e2) (found_is heads.Simple b [] v m 0 m_is t' refl)

pub simple_deep : (self : Entry → LineReader) (b m : List Tree) (ts rest : List Terminal) (mark : ℕ) → behind b (statements_at self ts) ≡ got m rest → rest ≡ [] → mark ≡ length b → nat_le (nesting_of weight (drop mark m)) 200 ≡ false → simple_at self ts ≡ None
unfolding simple_at
simple_deep self b m ts rest mark e e2 l t =
    let (v, f, m_is) = got_behind b m (statements_at self ts) rest e in
    let t' : nat_le (nesting_of weight (drop (length b) m)) 200 ≡ false = ap (λ (k : ℕ). nat_le (nesting_of weight (drop k m)) 200) (sym l) ∙ t in
    ap (λ (x : Read Terminal). shallow (with_body heads.Simple [] x)) f ∙ ap (λ (w : List Terminal). shallow (with_body heads.Simple [] (got v w))) e2 ∙ deep_is heads.Simple b [] v m m_is t'

pub simple_more : (self : Entry → LineReader) (b m : List Tree) (ts rest : List Terminal) → behind b (statements_at self ts) ≡ got m rest → 1 ≤ length rest → simple_at self ts ≡ None
unfolding simple_at
simple_more self b m ts rest e l =
    let (v, f, m_is) = got_behind b m (statements_at self ts) rest e in
    ap (λ (x : Read Terminal). shallow (with_body heads.Simple [] x)) f ∙ ap shallow (with_more heads.Simple [] v rest l)

pub simple_failed : (e : Fault) (self : Entry → LineReader) (b new : List Tree) (ts : List Terminal) → Failed e (behind b (statements_at self ts)) → Finds b new (Err e) (simple_at self ts)
unfolding simple_at
simple_failed e self b new ts h = failed_none e b new (statements_at self ts) (λ x. shallow (with_body heads.Simple [] x)) refl h

-- ---- the same, for places of a line

some_left : (rest : ℕ) (line : List Terminal) → rest < length line → 1 ≤ length (drop rest line)
some_left rest line l = omega (arith, length-drop rest line)

pub headed_ends : (self : Entry → LineReader) (head : Head) (header : LineReader) (b m m2 : List Tree) (line r1 : List Terminal) (rest n mark : ℕ) → behind b (both header (token colon) line) ≡ got m r1 → behind m (body_at self r1) ≡ got m2 (drop rest line) → length line ≤ rest
    → mark ≡ length b → nat_le (nesting_of weight (drop mark m2)) 200 ≡ true → n ≡ length m - mark → IsFound b m2 (record { head = head; nodes = n }) (headed_at self head header line)
headed_ends self head header b m m2 line r1 rest n mark e1 e2 e3 l t c = headed_found self head header b m m2 line r1 (drop rest line) n mark e1 e2 (drop_all rest line e3) l t c

pub headed_too_deep : (self : Entry → LineReader) (head : Head) (header : LineReader) (b m m2 : List Tree) (line r1 : List Terminal) (rest mark : ℕ) → behind b (both header (token colon) line) ≡ got m r1 → behind m (body_at self r1) ≡ got m2 (drop rest line) → length line ≤ rest
    → mark ≡ length b → nat_le (nesting_of weight (drop mark m2)) 200 ≡ false → headed_at self head header line ≡ None
headed_too_deep self head header b m m2 line r1 rest mark e1 e2 e3 l t = headed_deep self head header b m m2 line r1 (drop rest line) mark e1 e2 (drop_all rest line e3) l t

pub headed_goes_on : (self : Entry → LineReader) (head : Head) (header : LineReader) (b m m2 : List Tree) (line r1 : List Terminal) (rest : ℕ) → behind b (both header (token colon) line) ≡ got m r1 → behind m (body_at self r1) ≡ got m2 (drop rest line) → rest < length line → headed_at self head header line ≡ None
headed_goes_on self head header b m m2 line r1 rest e1 e2 l = headed_more self head header b m m2 line r1 (drop rest line) e1 e2 (some_left rest line l)

pub nodes_end : (head : Head) (b m : List Tree) (r : Read Terminal) (line : List Terminal) (rest n mark : ℕ) → behind b r ≡ got m (drop rest line) → length line ≤ rest → mark ≡ length b → nat_le (nesting_of weight (drop mark m)) 200 ≡ true → n ≡ length m - mark
    → IsFound b m (record { head = head; nodes = n }) (shallow (without_body head r))
nodes_end head b m r line rest n mark e e2 l t c = nodes_found head b m r (drop rest line) n mark e (drop_all rest line e2) l t c

pub nodes_too_deep : (head : Head) (b m : List Tree) (r : Read Terminal) (line : List Terminal) (rest mark : ℕ) → behind b r ≡ got m (drop rest line) → length line ≤ rest → mark ≡ length b → nat_le (nesting_of weight (drop mark m)) 200 ≡ false → shallow (without_body head r) ≡ None
nodes_too_deep head b m r line rest mark e e2 l t = nodes_deep head b m r (drop rest line) mark e (drop_all rest line e2) l t

pub nodes_go_on : (head : Head) (b m : List Tree) (r : Read Terminal) (line : List Terminal) (rest : ℕ) → behind b r ≡ got m (drop rest line) → rest < length line → shallow (without_body head r) ≡ None
nodes_go_on head b m r line rest e l = nodes_more head b m r (drop rest line) e (some_left rest line l)

pub simple_ends : (self : Entry → LineReader) (b m : List Tree) (line : List Terminal) (rest mark : ℕ) → behind b (statements_at self line) ≡ got m (drop rest line) → length line ≤ rest → mark ≡ length b → nat_le (nesting_of weight (drop mark m)) 200 ≡ true
    → IsFound b m (record { head = heads.Simple; nodes = 0 }) (simple_at self line)
simple_ends self b m line rest mark e e2 l t = simple_found self b m line (drop rest line) mark e (drop_all rest line e2) l t

pub simple_too_deep : (self : Entry → LineReader) (b m : List Tree) (line : List Terminal) (rest mark : ℕ) → behind b (statements_at self line) ≡ got m (drop rest line) → length line ≤ rest → mark ≡ length b → nat_le (nesting_of weight (drop mark m)) 200 ≡ false → simple_at self line ≡ None
simple_too_deep self b m line rest mark e e2 l t = simple_deep self b m line (drop rest line) mark e (drop_all rest line e2) l t

pub simple_goes_on : (self : Entry → LineReader) (b m : List Tree) (line : List Terminal) (rest : ℕ) → behind b (statements_at self line) ≡ got m (drop rest line) → rest < length line → simple_at self line ≡ None
simple_goes_on self b m line rest e l = simple_more self b m line (drop rest line) e (some_left rest line l)
