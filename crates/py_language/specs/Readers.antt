-- Readers: what reads a list of tokens from the front, and chooses by the token there. They only serve the laws on
-- languages, as the plain meaning of a parser.
use Rattle.std.specs.Prelude.{ℕ, zero, suc, ◌-◌, Bool, false, List, [], ◌∷◌, ◌++◌, length, take, if◌then◌else◌}
use Rattle.tree_nodes.specs.Trees.{Node, none, Tree}
use Rattle.py_language.specs.Sets.{mem, at}

-- the trees that were read and the tokens behind them
pub data Read (T : Type 0) : Type 0 where
  got : List Tree → List T → Read T
  fails : Read T

abbrev pub Reader : Type 0 → Type 0
Reader T = List T → Read T

-- behind trees that were read before
abbrev pub behind : {T : Type 0} → List Tree → Read T → Read T
behind u fails = fails
behind u (got v rest) = got (u ++ v) rest

-- then the other reader
abbrev pub after : {T : Type 0} → Read T → Reader T → Read T
after fails q = fails
after (got u rest) q = behind u (q rest)

abbrev pub both : {T : Type 0} → Reader T → Reader T → Reader T
both p q ts = after (p ts) q

abbrev pub nothing : {T : Type 0} → Reader T
nothing ts = got [] ts

-- the first where the front token is in the set, and else the second
abbrev pub choose : {T : Type 0} → (T → ℕ) → List ℕ → Reader T → Reader T → Reader T
choose code set p q ts = if at code set ts then p ts else q ts

abbrev pub optional : {T : Type 0} → (T → ℕ) → List ℕ → Reader T → Reader T
optional code set p = choose code set p nothing

abbrev pub shown : {T : Type 0} → (T → ℕ) → (T → Node) → List ℕ → Reader T
shown code node_of set [] = fails
shown code node_of set (t ∷ ts) = if mem (code t) set then got (record { node = node_of t; kids = none } ∷ []) ts else fails

abbrev pub skipped : {T : Type 0} → (T → ℕ) → List ℕ → Reader T
skipped code set [] = fails
skipped code set (t ∷ ts) = if mem (code t) set then got [] ts else fails

-- the tokens that stand before a rest
abbrev pub before : {T : Type 0} → List T → List T → List T
before ts rest = take (length ts - length rest) ts

abbrev pub make : {T : Type 0} → (List T → List Tree → List Tree) → List T → Read T → Read T
make over ts fails = fails
make over ts (got u rest) = got (over (before ts rest) u) rest

abbrev pub made : {T : Type 0} → (List T → List Tree → List Tree) → Reader T → Reader T
made over p ts = make over ts (p ts)

abbrev pub filter : {T : Type 0} → (List Tree → Bool) → Read T → Read T
filter test fails = fails
filter test (got u rest) = if test u then got u rest else fails

abbrev pub where_ : {T : Type 0} → (List Tree → Bool) → Reader T → Reader T
where_ test p ts = filter test (p ts)

-- ---- again and again

-- as often as the front token is in the set, at most so many times
abbrev pub times : {T : Type 0} → (T → ℕ) → List ℕ → Reader T → ℕ → Reader T
times code set p zero = nothing
times code set p (suc n) = choose code set (both p (times code set p n)) nothing

-- as often as the front token is in the set
abbrev pub many : {T : Type 0} → (T → ℕ) → List ℕ → Reader T → Reader T
many code set p ts = times code set p (length ts) ts

-- once, and then as often as the front token is in the set
abbrev pub some : {T : Type 0} → (T → ℕ) → List ℕ → Reader T → Reader T
some code set p = both p (many code set p)

-- the items behind a separator, at most so many; an item begins in the set
abbrev pub more_items : {T : Type 0} → (T → ℕ) → List ℕ → List ℕ → Reader T → ℕ → Reader T
more_items code separator set p zero = nothing
more_items code separator set p (suc n) =
    choose code separator (both (skipped code separator) (choose code set (both p (more_items code separator set p n)) nothing)) nothing

-- an item, and those behind separators, with maybe one behind the last
abbrev pub separated : {T : Type 0} → (T → ℕ) → List ℕ → List ℕ → Reader T → Reader T
separated code separator set p = both p (λ ts. more_items code separator set p (length ts) ts)

-- between a token that opens and one that closes
abbrev pub bracketed : {T : Type 0} → (T → ℕ) → List ℕ → List ℕ → Reader T → Reader T
bracketed code opening closing p = both (skipped code opening) (both p (skipped code closing))

-- ---- a choice by two tokens

-- the front token is in the one set and the next in the other
abbrev pub at_two : {T : Type 0} → (T → ℕ) → List ℕ → List ℕ → List T → Bool
at_two code one two [] = false
at_two code one two (t ∷ ts) = if mem (code t) one then at code two ts else false

-- the first where the two tokens at the front are in these sets, and else the second
abbrev pub choose_by_two : {T : Type 0} → (T → ℕ) → List ℕ → List ℕ → Reader T → Reader T → Reader T
choose_by_two code one two p q ts = if at_two code one two ts then p ts else q ts

-- ---- what goes on behind trees that were read

-- of all tokens from the phrase's start, and the trees so far
abbrev pub Cont : Type 0 → Type 0
Cont T = List T → List Tree → Reader T

-- what goes on behind a reading, where all tokens from its start are these
abbrev pub continue : {T : Type 0} → List T → Read T → Cont T → Read T
continue all fails k = fails
continue all (got u rest) k = k all u rest

-- a reader, and what goes on behind it
abbrev pub followed : {T : Type 0} → Reader T → Cont T → Reader T
followed p k ts = continue ts (p ts) k

-- a function of all that the phrase has come to
abbrev pub extended : {T : Type 0} → (List T → List Tree → List Tree) → Reader T → Cont T
extended over q all u ts = make (λ front v. over front (u ++ v)) all (q ts)

abbrev pub nothing_more : {T : Type 0} → Cont T
nothing_more all u ts = got u ts

-- the same, where a test of all trees holds
abbrev pub extended_where : {T : Type 0} → (List Tree → Bool) → (List T → List Tree → List Tree) → Reader T → Cont T
extended_where test over q all u ts = make (λ front v. over front (u ++ v)) all (filter (λ v. test (u ++ v)) (q ts))

-- nothing more, but a function of all that the phrase has come to
abbrev pub finished : {T : Type 0} → (List T → List Tree → List Tree) → Cont T
finished over all u ts = got (over (before all ts) u) ts

-- the first where the front token is in the set, and else the second
abbrev pub pick : {T : Type 0} → (T → ℕ) → List ℕ → Cont T → Cont T → Cont T
pick code set k l all u ts = if at code set ts then k all u ts else l all u ts

-- where the front token is in the set, and else nothing more
abbrev pub maybe_more : {T : Type 0} → (T → ℕ) → List ℕ → Cont T → Cont T
maybe_more code set k = pick code set k nothing_more

-- as often as the front token is in the set, at most so many times
abbrev pub turns : {T : Type 0} → (T → ℕ) → List ℕ → Cont T → ℕ → Cont T
turns code set k zero = nothing_more
turns code set k (suc n) = maybe_more code set (λ all u ts. continue all (k all u ts) (turns code set k n))

-- a reader, and then turns as often as the front token is in the set
abbrev pub in_turns : {T : Type 0} → (T → ℕ) → Reader T → List ℕ → Cont T → Reader T
in_turns code p set k ts = continue ts (p ts) (turns code set k (length ts))

-- ---- whole lists

-- the first reading, and where it failed the second
abbrev pub else_ : {T : Type 0} → Read T → Read T → Read T
else_ fails s = s
else_ (got u rest) s = got u rest

-- the first, and where that fails the second
abbrev pub or_else : {T : Type 0} → Reader T → Reader T → Reader T
or_else p q ts = else_ (p ts) (q ts)

-- a reading that left nothing
abbrev pub to_the_end : {T : Type 0} → Read T → Read T
to_the_end fails = fails
to_the_end (got u []) = got u []
to_the_end (got u (t ∷ rest)) = fails

-- what is read, where nothing is left
abbrev pub all_of : {T : Type 0} → Reader T → Reader T
all_of p ts = to_the_end (p ts)
