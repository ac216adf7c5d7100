-- The first tokens of a line and the symbols that they are.
use Rattle.std.proofs.Common.{◌≡◌, ℕ, true, false, ◌==◌, ◌||◌, List, [], ◌∷◌, ◌++◌, slice_index_or, refl, sym, ap, ◌∙◌, arith}
use Rattle.py_language.specs.Sets.{mem}
use Rattle.py_language.proofs.Beginnings.{Begins}
use Rattle.py_grammar.specs.declared.symbol.Symbol.{Symbol}
use Rattle.py_grammar.specs.declared.symbol.Symbol.TheVariants as s
use Rattle.py_grammar.specs.Symbols.{number_of}
use Rattle.py_grammar.specs.Terminals.{Terminal, code, first_of, second_of}

-- ---- symbols by their numbers

all_symbols : List Symbol
all_symbols =
    s.Name ∷ s.MatchWord ∷ s.CaseWord ∷ s.Underscore ∷ s.Number ∷ s.Str ∷ s.Bytes ∷ s.FStr ∷ s.FStrEnd ∷ s.FieldOpen ∷ s.FieldClose ∷ s.BadField ∷
    s.FalseWord ∷ s.NoneWord ∷ s.TrueWord ∷ s.AndWord ∷ s.AsWord ∷ s.AssertWord ∷ s.AsyncWord ∷ s.AwaitWord ∷ s.BreakWord ∷ s.ClassWord ∷
    s.ContinueWord ∷ s.DefWord ∷ s.DelWord ∷ s.ElifWord ∷ s.ElseWord ∷ s.ExceptWord ∷ s.FinallyWord ∷ s.ForWord ∷ s.FromWord ∷ s.GlobalWord ∷
    s.IfWord ∷ s.ImportWord ∷ s.InWord ∷ s.IsWord ∷ s.LambdaWord ∷ s.NonlocalWord ∷ s.NotWord ∷ s.OrWord ∷ s.PassWord ∷ s.RaiseWord ∷ s.ReturnWord ∷
    s.TryWord ∷ s.WhileWord ∷ s.WithWord ∷ s.YieldWord ∷ s.Plus ∷ s.Minus ∷ s.Star ∷ s.DoubleStar ∷ s.Slash ∷ s.DoubleSlash ∷ s.Percent ∷ s.AtSign ∷
    s.LeftShift ∷ s.RightShift ∷ s.Ampersand ∷ s.Bar ∷ s.Caret ∷ s.Tilde ∷ s.Walrus ∷ s.Less ∷ s.Greater ∷ s.LessEqual ∷ s.GreaterEqual ∷ s.Equal ∷
    s.NotEqual ∷ s.LeftParen ∷ s.RightParen ∷ s.LeftBracket ∷ s.RightBracket ∷ s.LeftBrace ∷ s.RightBrace ∷ s.Comma ∷ s.Colon ∷ s.Dot ∷ s.Semicolon ∷
    s.Assign ∷ s.Arrow ∷ s.PlusAssign ∷ s.MinusAssign ∷ s.StarAssign ∷ s.SlashAssign ∷ s.DoubleSlashAssign ∷ s.PercentAssign ∷ s.AtAssign ∷
    s.AmpersandAssign ∷ s.BarAssign ∷ s.CaretAssign ∷ s.RightShiftAssign ∷ s.LeftShiftAssign ∷ s.DoubleStarAssign ∷ s.Ellipsis ∷ []

symbol_of : ℕ → Symbol
symbol_of n = slice_index_or all_symbols n s.Name

back_again : (x : Symbol) → symbol_of (number_of x) ≡ x
unfolding symbol_of all_symbols
back_again s.Name = refl
back_again x = refl

same_number : (m n : ℕ) → ((m == n) || false) ≡ true → m ≡ n
same_number m n h = grind arith

-- a symbol of a set of one symbol is that one
pub only_symbol : (x y : Symbol) → mem (number_of x) (number_of y ∷ []) ≡ true → x ≡ y
only_symbol x y h = sym (back_again x) ∙ ap symbol_of (same_number (number_of x) (number_of y) h) ∙ back_again y

-- ---- the first and the second token

pub first_in : (f : List ℕ) (ts x rest : List Terminal) → Begins code false f x → ts ≡ x ++ rest → mem (code (first_of ts)) f ≡ true
first_in f ts x rest b e = rw e (go x b)
  where
    go : (x : List Terminal) → Begins code false f x → mem (code (first_of (x ++ rest))) f ≡ true
    go [] b = absurd cc
    go (t ∷ x) b = b

-- the token behind a first one
pub second_in : (f : List ℕ) (ts : List Terminal) (t : Terminal) (x rest : List Terminal) → Begins code false f x → ts ≡ t ∷ (x ++ rest) → mem (code (second_of ts)) f ≡ true
second_in f ts t x rest b e = rw e (go x b)
  where
    go : (x : List Terminal) → Begins code false f x → mem (code (second_of (t ∷ (x ++ rest)))) f ≡ true
    go [] b = absurd cc
    go (u ∷ x) b = b
