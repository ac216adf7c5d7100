-- What follows a name with dots.
use Rattle.std.proofs.Common.{◌≡◌, ℕ, Bool, true, false, if◌then◌else◌, List, ◌++◌, length, take, drop, refl, append_assoc}
use Rattle.std.proofs.lemmas.List.{take_at, drop_at}
use Rattle.tree_nodes.specs.Trees.{Tree}
use Rattle.py_language.specs.Sets.{at}
use Rattle.py_language.specs.Readers.{Read, got, fails, behind, before, make, continue, extended, finished, pick}
use Rattle.py_grammar.specs.Terminals.{Terminal, code}
use Rattle.py_grammar.specs.Reading.{LineReader}
use Rattle.parse_steps.proofs.Runs.{remade}

-- more where the front token is in the set, and else a function of what there is
abbrev pub picked : List ℕ → (List Terminal → List Tree → List Tree) → (List Terminal → List Tree → List Tree) → LineReader → List Terminal → ℕ → Read Terminal → Read Terminal
picked set over last q all k fails = fails
picked set over last q all k (got m mid) = if at code set mid then remade over all k (behind m (q mid)) else got (take k m ++ last (before all mid) (drop k m)) mid

behind_extended : (b u : List Tree) (over : List Terminal → List Tree → List Tree) (all : List Terminal) (r : Read Terminal)
    → behind b (make (λ front v. over front (u ++ v)) all r) ≡ remade over all (length b) (behind (b ++ u) r)
behind_extended b u over all fails = refl
behind_extended b u over all (got v rest) =
    let e = append_assoc b u v in
    let t = take_at b (u ++ v) (length b) refl in
    let d = drop_at b (u ++ v) (length b) refl in
    rw (e, t, d) refl

pub behind_pick : (b : List Tree) (set : List ℕ) (over last : List Terminal → List Tree → List Tree) (q : LineReader) (all : List Terminal) (r : Read Terminal)
    → behind b (continue all r (pick code set (extended over q) (finished last))) ≡ picked set over last q all (length b) (behind b r)
behind_pick b set over last q all fails = refl
behind_pick b set over last q all (got u mid) = go (at code set mid)
  where
    go : (c : Bool)
        → behind b (if c then make (λ front v. over front (u ++ v)) all (q mid) else got (last (before all mid) u) mid)
        ≡ (if c then remade over all (length b) (behind (b ++ u) (q mid)) else got (take (length b) (b ++ u) ++ last (before all mid) (drop (length b) (b ++ u))) mid)
    go true = behind_extended b u over all (q mid)
    go false = let t = take_at b u (length b) refl in let d = drop_at b u (length b) refl in rw (t, d) refl
