-- Steps of the parser's functions, over a forest that grows.
use Rattle.std.proofs.Common.{◌≡◌, ℕ, Bool, true, false, if◌then◌else◌, List, [], ◌++◌, length, take, drop, refl, sym, ap, append_assoc}
use Rattle.std.proofs.lemmas.List.{take_at, drop_at}
use Rattle.tree_nodes.specs.Trees.{Tree}
use Rattle.py_language.specs.Sets.{at}
use Rattle.py_language.specs.Readers.{Read, got, fails, behind, after, before, make, filter, continue, extended, maybe_more}
use Rattle.py_grammar.specs.Terminals.{Terminal, code}
use Rattle.py_grammar.specs.Reading.{LineReader}

-- ---- equations with no premise: what was read behind other trees

abbrev pub resumed : Read Terminal → LineReader → Read Terminal
resumed fails q = fails
resumed (got m ts) q = behind m (q ts)

pub behind_after_is : (b : List Tree) (r : Read Terminal) (q : LineReader) → behind b (after r q) ≡ resumed (behind b r) q
behind_after_is b fails q = refl
behind_after_is b (got u ts) q = go (q ts)
  where
    go : (r : Read Terminal) → behind b (behind u r) ≡ behind (b ++ u) r
    go fails = refl
    go (got v rest) = ap (λ (w : List Tree). got w rest) (sym (append_assoc b u v))

abbrev pub remade : (List Terminal → List Tree → List Tree) → List Terminal → ℕ → Read Terminal → Read Terminal
remade over all k fails = fails
remade over all k (got m rest) = got (take k m ++ over (before all rest) (drop k m)) rest

pub behind_make : (b : List Tree) (over : List Terminal → List Tree → List Tree) (all : List Terminal) (r : Read Terminal) → behind b (make over all r) ≡ remade over all (length b) (behind b r)
behind_make b over all fails = refl
behind_make b over all (got u rest) = let t = take_at b u (length b) refl in let d = drop_at b u (length b) refl in rw (t, d) refl

abbrev pub sifted : (List Tree → Bool) → ℕ → Read Terminal → Read Terminal
sifted test k fails = fails
sifted test k (got m rest) = if test (drop k m) then got m rest else fails

pub behind_filter : (b : List Tree) (test : List Tree → Bool) (r : Read Terminal) → behind b (filter test r) ≡ sifted test (length b) (behind b r)
behind_filter b test fails = refl
behind_filter b test (got u rest) = let d = drop_at b u (length b) refl in rw d (go (test u))
  where
    go : (c : Bool) → behind b (if c then got u rest else fails) ≡ (if c then got (b ++ u) rest else fails)
    go true = refl
    go false = refl

-- a phrase, and maybe more behind it
abbrev pub gone_on : List ℕ → (List Terminal → List Tree → List Tree) → LineReader → List Terminal → ℕ → Read Terminal → Read Terminal
gone_on set over q all k fails = fails
gone_on set over q all k (got m mid) = if at code set mid then remade over all k (behind m (q mid)) else got m mid

pub behind_extended : (b u : List Tree) (over : List Terminal → List Tree → List Tree) (all : List Terminal) (r : Read Terminal)
    → behind b (make (λ front v. over front (u ++ v)) all r) ≡ remade over all (length b) (behind (b ++ u) r)
behind_extended b u over all fails = refl
behind_extended b u over all (got v rest) =
    let e = append_assoc b u v in
    let t = take_at b (u ++ v) (length b) refl in
    let d = drop_at b (u ++ v) (length b) refl in
    rw (e, t, d) refl

pub behind_maybe_more : (b : List Tree) (set : List ℕ) (over : List Terminal → List Tree → List Tree) (q : LineReader) (all : List Terminal) (r : Read Terminal)
    → behind b (continue all r (maybe_more code set (extended over q))) ≡ gone_on set over q all (length b) (behind b r)
behind_maybe_more b set over q all fails = refl
behind_maybe_more b set over q all (got u mid) = go (at code set mid)
  where
    go : (c : Bool) → behind b (if c then make (λ front v. over front (u ++ v)) all (q mid) else got u mid) ≡ (if c then remade over all (length b) (behind (b ++ u) (q mid)) else got (b ++ u) mid)
    go true = behind_extended b u over all (q mid)
    go false = refl

-- nothing before
pub behind_none : (r : Read Terminal) → behind [] r ≡ r
behind_none fails = refl
behind_none (got u rest) = refl
