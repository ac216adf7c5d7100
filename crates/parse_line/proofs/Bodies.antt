-- The statements behind a header.
use Rattle.std.proofs.Common.{◌≡◌, ℕ, zero, suc, ◌<◌, ◌≤◌, List, [], ◌∷◌, length, drop, refl, ap, arith}
use Rattle.std.proofs.lemmas.List.{append-nil, drop_all}
use Rattle.tree_nodes.specs.Trees.{Tree}
use Rattle.py_language.specs.Readers.{got, behind}
use Rattle.py_grammar.specs.declared.entry.Entry.{Entry}
use Rattle.py_grammar.specs.Terminals.{Terminal}
use Rattle.py_grammar.specs.Reading.{LineReader}
use Rattle.py_grammar.specs.ReadingStatements.{statements_at}
use Rattle.parse_line.specs.Headers.{body_at}

pub body_some : (self : Entry → LineReader) (rest : ℕ) (ts : List Terminal) → rest < length ts → body_at self (drop rest ts) ≡ statements_at self (drop rest ts)
unfolding body_at
body_some self rest [] l = absurd (omega arith)
body_some self zero (t ∷ ts) l = refl
body_some self (suc n) (t ∷ ts) l = body_some self n ts (omega arith)

pub body_none : (self : Entry → LineReader) (b : List Tree) (rest : ℕ) (ts : List Terminal) → length ts ≤ rest → behind b (body_at self (drop rest ts)) ≡ got b (drop rest ts)
unfolding body_at
body_none self b rest ts l = let e = drop_all rest ts l in rw e (ap (λ (w : List Tree). got w []) (append-nil b))
