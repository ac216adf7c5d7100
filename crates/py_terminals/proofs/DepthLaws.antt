-- How deep brackets go, symbol by symbol.
use Rattle.std.proofs.Common.{◌≡◌, ℕ, ◌+◌, ◌<◌, ◌≤◌, max, List, [], ◌∷◌, length, drop, slice_index_or, ap, arith}
use Rattle.std.proofs.lemmas.List.{drop_more}
use Rattle.py_grammar.specs.Terminals.{Terminal, code, no_terminal}
use Rattle.py_grammar.specs.Words.{closes, opens}
use Rattle.py_language.specs.Brackets.{peak, turned}

at_least : (d : ℕ) (line : List Terminal) → d ≤ peak code opens closes d line
at_least d [] = omega arith
at_least d (t ∷ line) = omega arith

-- one symbol more
pub deeper : (line : List Terminal) (place level next most : ℕ) → place < length line → level ≤ most → next ≡ turned opens closes (code (slice_index_or line place no_terminal)) level → max (max next most) (peak code opens closes next (drop (place + 1) line)) ≡ max most (peak code opens closes level (drop place line))
deeper line place level next most within le is_next =
    let rest = drop (place + 1) line in
    let front : peak code opens closes level (drop place line) ≡ max level (peak code opens closes (turned opens closes (code (slice_index_or line place no_terminal)) level) rest) = ap (peak code opens closes level) (drop_more line place no_terminal within) in
    let same : peak code opens closes next rest ≡ peak code opens closes (turned opens closes (code (slice_index_or line place no_terminal)) level) rest = ap (λ d. peak code opens closes d rest) is_next in
    let least : next ≤ peak code opens closes next rest = at_least next rest in
    omega (arith, front, same, least)
