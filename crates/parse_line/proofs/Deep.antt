-- A phrase at one descent more.
use Rattle.std.proofs.Common.{◌≡◌, ℕ, zero, suc, ◌-◌, ◌<◌, List, refl, arith}
use Rattle.py_language.specs.Readers.{fails}
use Rattle.py_grammar.specs.declared.entry.Entry.{Entry}
use Rattle.py_grammar.specs.Terminals.{Terminal}
use Rattle.py_grammar.specs.ReadingLines.{phrase_at, reader_of}

pub phrase_deep : (n : ℕ) (x : Entry) (ts : List Terminal) → 0 < n → phrase_at n x ts ≡ reader_of (phrase_at (n - 1)) x ts
unfolding phrase_at
phrase_deep zero x ts h = absurd (omega arith)
phrase_deep (suc n) x ts h = let e : suc n - 1 ≡ n = omega arith in rw e refl

pub phrase_none : (x : Entry) (ts : List Terminal) → phrase_at 0 x ts ≡ fails
unfolding phrase_at
phrase_none x ts = refl
