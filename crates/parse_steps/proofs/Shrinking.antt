-- What is left behind a reader is no longer than what was there, and shorter where a token was passed.
use Rattle.std.proofs.Common.{◌≡◌, ℕ, zero, suc, ◌≤◌, ◌<◌, Bool, true, false, if◌then◌else◌, List, [], ◌∷◌, ◌++◌, length, refl, ap, arith}
use Rattle.tree_nodes.specs.Trees.{Node, none, Tree}
use Rattle.py_language.specs.Sets.{mem, at}
use Rattle.py_language.specs.Readers.{Read, got, fails, behind, after, make, filter, both, nothing, choose, optional, shown, skipped, made, where_, times, many, some, more_items, separated, bracketed, at_two, choose_by_two, Cont, continue, followed, extended, extended_where, finished, nothing_more, pick, maybe_more, turns, in_turns}
use Rattle.py_grammar.specs.Terminals.{Terminal, code}
use Rattle.py_grammar.specs.Reading.{LineReader}

-- what is left is no longer
pub record Keeps (p : LineReader) : Type 0 where
  pub left : (ts : List Terminal) (u : List Tree) (rest : List Terminal) → p ts ≡ got u rest → length rest ≤ length ts

-- what is left is shorter
pub record Shrinks (p : LineReader) : Type 0 where
  pub left : (ts : List Terminal) (u : List Tree) (rest : List Terminal) → p ts ≡ got u rest → length rest < length ts

-- the same behind what was read
pub record KeepsOn (k : Cont Terminal) : Type 0 where
  pub left : (all : List Terminal) (u : List Tree) (ts : List Terminal) (v : List Tree) (rest : List Terminal) → k all u ts ≡ got v rest → length rest ≤ length ts

pub record ShrinksOn (k : Cont Terminal) : Type 0 where
  pub left : (all : List Terminal) (u : List Tree) (ts : List Terminal) (v : List Tree) (rest : List Terminal) → k all u ts ≡ got v rest → length rest < length ts

pub keeps : {p : LineReader} → Shrinks p → Keeps p
keeps s = record { left = λ ts u rest e. omega (arith, s.left ts u rest e) }

-- ---- what was read

got_behind : (b m : List Tree) (r : Read Terminal) (rest : List Terminal) → behind b r ≡ got m rest → (u : List Tree) × (r ≡ got u rest)
got_behind b m fails rest e = absurd cc
got_behind b m (got u mid) rest e = let mid_is : mid ≡ rest = cc in (u, ap (λ (w : List Terminal). got u w) mid_is)

got_after : (r : Read Terminal) (q : LineReader) (out : List Tree) (rest : List Terminal) → after r q ≡ got out rest → (u : List Tree) × (mid : List Terminal) × (v : List Tree) × (r ≡ got u mid) × (q mid ≡ got v rest)
got_after fails q out rest e = absurd cc
got_after (got u mid) q out rest e = let (v, f) = got_behind u out (q mid) rest e in (u, mid, v, refl, f)

got_make : (over : List Terminal → List Tree → List Tree) (all : List Terminal) (r : Read Terminal) (out : List Tree) (rest : List Terminal) → make over all r ≡ got out rest → (u : List Tree) × (r ≡ got u rest)
got_make over all fails out rest e = absurd cc
got_make over all (got u mid) out rest e = let mid_is : mid ≡ rest = cc in (u, ap (λ (w : List Terminal). got u w) mid_is)

got_filter : (test : List Tree → Bool) (r : Read Terminal) (out : List Tree) (rest : List Terminal) → filter test r ≡ got out rest → r ≡ got out rest
got_filter test fails out rest e = e
got_filter test (got u mid) out rest e = go (test u) e
  where
    go : (c : Bool) → (if c then got u mid else fails) ≡ got out rest → got u mid ≡ got out rest
    go true h = h
    go false h = absurd cc

got_continue : (all : List Terminal) (r : Read Terminal) (k : Cont Terminal) (out : List Tree) (rest : List Terminal) → continue all r k ≡ got out rest → (u : List Tree) × (mid : List Terminal) × (r ≡ got u mid) × (k all u mid ≡ got out rest)
got_continue all fails k out rest e = absurd cc
got_continue all (got u mid) k out rest e = (u, mid, refl, e)

-- ---- by the combinators

shrinks_skipped_left : (set : List ℕ) (ts : List Terminal) (u : List Tree) (rest : List Terminal) → skipped code set ts ≡ got u rest → length rest < length ts
shrinks_skipped_left set [] u rest e = absurd cc
shrinks_skipped_left set (t ∷ ts) u rest e = go (mem (code t) set) e
  where
    go : (c : Bool) → (if c then got [] ts else fails) ≡ got u rest → length rest < length (t ∷ ts)
    go true h = let same : ts ≡ rest = cc in omega (arith, ap length same)
    go false h = absurd cc

pub shrinks_skipped : (set : List ℕ) → Shrinks (skipped code set)
shrinks_skipped set = record { left = shrinks_skipped_left set }

shrinks_shown_left : (node_of : Terminal → Node) (set : List ℕ) (ts : List Terminal) (u : List Tree) (rest : List Terminal) → shown code node_of set ts ≡ got u rest → length rest < length ts
shrinks_shown_left node_of set [] u rest e = absurd cc
shrinks_shown_left node_of set (t ∷ ts) u rest e = go (mem (code t) set) e
  where
    go : (c : Bool) → (if c then got (record { node = node_of t; kids = none } ∷ []) ts else fails) ≡ got u rest → length rest < length (t ∷ ts)
    go true h = let same : ts ≡ rest = cc in omega (arith, ap length same)
    go false h = absurd cc

pub shrinks_shown : (node_of : Terminal → Node) (set : List ℕ) → Shrinks (shown code node_of set)
shrinks_shown node_of set = record { left = shrinks_shown_left node_of set }

pub keeps_nothing : Keeps nothing
keeps_nothing = record { left = λ ts u rest e. let same : ts ≡ rest = cc in omega (arith, ap length same) }

pub keeps_both : {p q : LineReader} → Keeps p → Keeps q → Keeps (both p q)
keeps_both {p} {q} A B = record {
  left = λ ts u rest e.
      let (x, mid, v, f, g) = got_after (p ts) q u rest e in
      omega (arith, A.left ts x mid f, B.left mid v rest g);
}

pub shrinks_both : {p q : LineReader} → Shrinks p → Keeps q → Shrinks (both p q)
shrinks_both {p} {q} A B = record {
  left = λ ts u rest e.
      let (x, mid, v, f, g) = got_after (p ts) q u rest e in
      omega (arith, A.left ts x mid f, B.left mid v rest g);
}

pub keeps_choose : {p q : LineReader} (set : List ℕ) → Keeps p → Keeps q → Keeps (choose code set p q)
keeps_choose {p} {q} set A B = record { left = λ ts u rest e. go ts u rest (at code set ts) e }
  where
    go : (ts : List Terminal) (u : List Tree) (rest : List Terminal) (c : Bool) → (if c then p ts else q ts) ≡ got u rest → length rest ≤ length ts
    go ts u rest true h = A.left ts u rest h
    go ts u rest false h = B.left ts u rest h

pub shrinks_choose : {p q : LineReader} (set : List ℕ) → Shrinks p → Shrinks q → Shrinks (choose code set p q)
shrinks_choose {p} {q} set A B = record { left = λ ts u rest e. go ts u rest (at code set ts) e }
  where
    go : (ts : List Terminal) (u : List Tree) (rest : List Terminal) (c : Bool) → (if c then p ts else q ts) ≡ got u rest → length rest < length ts
    go ts u rest true h = A.left ts u rest h
    go ts u rest false h = B.left ts u rest h

pub keeps_by_two : {p q : LineReader} (one two : List ℕ) → Keeps p → Keeps q → Keeps (choose_by_two code one two p q)
keeps_by_two {p} {q} one two A B = record { left = λ ts u rest e. go ts u rest (at_two code one two ts) e }
  where
    go : (ts : List Terminal) (u : List Tree) (rest : List Terminal) (c : Bool) → (if c then p ts else q ts) ≡ got u rest → length rest ≤ length ts
    go ts u rest true h = A.left ts u rest h
    go ts u rest false h = B.left ts u rest h

pub shrinks_by_two : {p q : LineReader} (one two : List ℕ) → Shrinks p → Shrinks q → Shrinks (choose_by_two code one two p q)
shrinks_by_two {p} {q} one two A B = record { left = λ ts u rest e. go ts u rest (at_two code one two ts) e }
  where
    go : (ts : List Terminal) (u : List Tree) (rest : List Terminal) (c : Bool) → (if c then p ts else q ts) ≡ got u rest → length rest < length ts
    go ts u rest true h = A.left ts u rest h
    go ts u rest false h = B.left ts u rest h

pub keeps_optional : {p : LineReader} (set : List ℕ) → Keeps p → Keeps (optional code set p)
keeps_optional set A = keeps_choose set A keeps_nothing

pub keeps_made : {p : LineReader} (over : List Terminal → List Tree → List Tree) → Keeps p → Keeps (made over p)
keeps_made {p} over A = record { left = λ ts u rest e. let (v, f) = got_make over ts (p ts) u rest e in A.left ts v rest f }

pub shrinks_made : {p : LineReader} (over : List Terminal → List Tree → List Tree) → Shrinks p → Shrinks (made over p)
shrinks_made {p} over A = record { left = λ ts u rest e. let (v, f) = got_make over ts (p ts) u rest e in A.left ts v rest f }

pub keeps_where : {p : LineReader} (test : List Tree → Bool) → Keeps p → Keeps (where_ test p)
keeps_where {p} test A = record { left = λ ts u rest e. A.left ts u rest (got_filter test (p ts) u rest e) }

pub shrinks_where : {p : LineReader} (test : List Tree → Bool) → Shrinks p → Shrinks (where_ test p)
shrinks_where {p} test A = record { left = λ ts u rest e. A.left ts u rest (got_filter test (p ts) u rest e) }

keeps_times : {p : LineReader} (set : List ℕ) → Keeps p → (n : ℕ) → Keeps (times code set p n)
keeps_times set A zero = keeps_nothing
keeps_times set A (suc n) = keeps_choose set (keeps_both A (keeps_times set A n)) keeps_nothing

pub keeps_many : {p : LineReader} (set : List ℕ) → Keeps p → Keeps (many code set p)
keeps_many set A = record { left = λ ts. (keeps_times set A (length ts)).left ts }

pub keeps_some : {p : LineReader} (set : List ℕ) → Keeps p → Keeps (some code set p)
keeps_some set A = keeps_both A (keeps_many set A)

pub shrinks_some : {p : LineReader} (set : List ℕ) → Shrinks p → Shrinks (some code set p)
shrinks_some set A = shrinks_both A (keeps_many set (keeps A))

keeps_more : {p : LineReader} (separator set : List ℕ) → Keeps p → (n : ℕ) → Keeps (more_items code separator set p n)
keeps_more separator set A zero = keeps_nothing
keeps_more separator set A (suc n) =
    keeps_choose separator (keeps_both (keeps (shrinks_skipped separator)) (keeps_choose set (keeps_both A (keeps_more separator set A n)) keeps_nothing)) keeps_nothing

pub keeps_separated : {p : LineReader} (separator set : List ℕ) → Keeps p → Keeps (separated code separator set p)
keeps_separated separator set A = keeps_both A (record { left = λ ts. (keeps_more separator set A (length ts)).left ts })

pub shrinks_bracketed : {p : LineReader} (opening closing : List ℕ) → Keeps p → Shrinks (bracketed code opening closing p)
shrinks_bracketed opening closing A = shrinks_both (shrinks_skipped opening) (keeps_both A (keeps (shrinks_skipped closing)))

-- ---- behind what was read

pub keeps_followed : {p : LineReader} {k : Cont Terminal} → Keeps p → KeepsOn k → Keeps (followed p k)
keeps_followed {p} {k} A K = record {
  left = λ ts u rest e.
      let (v, mid, f, g) = got_continue ts (p ts) k u rest e in
      omega (arith, A.left ts v mid f, K.left ts v mid u rest g);
}

pub keeps_extended : {q : LineReader} (over : List Terminal → List Tree → List Tree) → Keeps q → KeepsOn (extended over q)
keeps_extended {q} over A = record { left = λ all u ts v rest e. let (w, f) = got_make (λ front x. over front (u ++ x)) all (q ts) v rest e in A.left ts w rest f }

pub shrinks_extended : {q : LineReader} (over : List Terminal → List Tree → List Tree) → Shrinks q → ShrinksOn (extended over q)
shrinks_extended {q} over A = record { left = λ all u ts v rest e. let (w, f) = got_make (λ front x. over front (u ++ x)) all (q ts) v rest e in A.left ts w rest f }

pub keeps_extended_where : {q : LineReader} (test : List Tree → Bool) (over : List Terminal → List Tree → List Tree) → Keeps q → KeepsOn (extended_where test over q)
keeps_extended_where {q} test over A = record {
  left = λ all u ts v rest e.
      let (w, f) = got_make (λ front x. over front (u ++ x)) all (filter (λ x. test (u ++ x)) (q ts)) v rest e in
      A.left ts w rest (got_filter (λ x. test (u ++ x)) (q ts) w rest f);
}

pub keeps_nothing_more : KeepsOn nothing_more
keeps_nothing_more = record { left = λ all u ts v rest e. let same : ts ≡ rest = cc in omega (arith, ap length same) }

pub keeps_finished : (over : List Terminal → List Tree → List Tree) → KeepsOn (finished over)
keeps_finished over = record { left = λ all u ts v rest e. let same : ts ≡ rest = cc in omega (arith, ap length same) }

pub keeps_pick : {k l : Cont Terminal} (set : List ℕ) → KeepsOn k → KeepsOn l → KeepsOn (pick code set k l)
keeps_pick {k} {l} set A B = record { left = λ all u ts v rest e. go all u ts v rest (at code set ts) e }
  where
    go : (all : List Terminal) (u : List Tree) (ts : List Terminal) (v : List Tree) (rest : List Terminal) (c : Bool) → (if c then k all u ts else l all u ts) ≡ got v rest → length rest ≤ length ts
    go all u ts v rest true h = A.left all u ts v rest h
    go all u ts v rest false h = B.left all u ts v rest h

pub shrinks_pick : {k l : Cont Terminal} (set : List ℕ) → ShrinksOn k → ShrinksOn l → ShrinksOn (pick code set k l)
shrinks_pick {k} {l} set A B = record { left = λ all u ts v rest e. go all u ts v rest (at code set ts) e }
  where
    go : (all : List Terminal) (u : List Tree) (ts : List Terminal) (v : List Tree) (rest : List Terminal) (c : Bool) → (if c then k all u ts else l all u ts) ≡ got v rest → length rest < length ts
    go all u ts v rest true h = A.left all u ts v rest h
    go all u ts v rest false h = B.left all u ts v rest h

pub keeps_maybe : {k : Cont Terminal} (set : List ℕ) → KeepsOn k → KeepsOn (maybe_more code set k)
keeps_maybe set A = keeps_pick set A keeps_nothing_more

pub keeps_on : {k : Cont Terminal} → ShrinksOn k → KeepsOn k
keeps_on s = record { left = λ all u ts v rest e. omega (arith, s.left all u ts v rest e) }

keeps_then : {k l : Cont Terminal} → KeepsOn k → KeepsOn l → KeepsOn (λ all u ts. continue all (k all u ts) l)
keeps_then {k} {l} A B = record {
  left = λ all u ts v rest e.
      let (w, mid, f, g) = got_continue all (k all u ts) l v rest e in
      omega (arith, A.left all u ts w mid f, B.left all w mid v rest g);
}

keeps_turns : {k : Cont Terminal} (set : List ℕ) → KeepsOn k → (n : ℕ) → KeepsOn (turns code set k n)
keeps_turns set A zero = keeps_nothing_more
keeps_turns set A (suc n) = keeps_maybe set (keeps_then A (keeps_turns set A n))

pub keeps_in_turns : {p : LineReader} {k : Cont Terminal} (set : List ℕ) → Keeps p → KeepsOn k → Keeps (in_turns code p set k)
keeps_in_turns {p} {k} set A K = record {
  left = λ ts u rest e.
      let (v, mid, f, g) = got_continue ts (p ts) (turns code set k (length ts)) u rest e in
      omega (arith, A.left ts v mid f, (keeps_turns set K (length ts)).left ts v mid u rest g);
}

-- ---- for what the code has at hand

pub is_kept : {p : LineReader} → Keeps p → (b m : List Tree) (ts rest : List Terminal) → behind b (p ts) ≡ got m rest → length rest ≤ length ts
is_kept {p} A b m ts rest e = let (u, f) = got_behind b m (p ts) rest e in A.left ts u rest f

pub is_shorter : {p : LineReader} → Shrinks p → (b m : List Tree) (ts rest : List Terminal) → behind b (p ts) ≡ got m rest → length rest < length ts
is_shorter {p} A b m ts rest e = let (u, f) = got_behind b m (p ts) rest e in A.left ts u rest f

pub goes_shorter : {k : Cont Terminal} → ShrinksOn k → (below m : List Tree) (all : List Terminal) (u : List Tree) (ts rest : List Terminal) → behind below (k all u ts) ≡ got m rest → length rest < length ts
goes_shorter {k} A below m all u ts rest e = let (v, f) = got_behind below m (k all u ts) rest e in A.left all u ts v rest f
