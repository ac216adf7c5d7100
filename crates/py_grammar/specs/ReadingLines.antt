-- Reading phrases of a depth, and whole lines.
use Rattle.std.specs.Prelude.{ℕ, zero, suc, nat_le, List, [], ◌∷◌, ◌++◌, Option, Some, None, if◌then◌else◌}
use Rattle.tree_nodes.specs.Trees.{Tree}
use Rattle.py_language.specs.Nesting.{nesting_of}
use Rattle.py_language.specs.Readers.{Read, got, fails, both}
use Rattle.py_grammar.specs.declared.entry.Entry.{Entry}
use Rattle.py_grammar.specs.declared.entry.Entry.TheVariants as e
use Rattle.py_grammar.specs.declared.head.Head.{Head}
use Rattle.py_grammar.specs.declared.head.Head.TheVariants as heads
use Rattle.py_grammar.specs.declared.symbol.Symbol.{Symbol}
use Rattle.py_grammar.specs.declared.symbol.Symbol.TheVariants as s
use Rattle.py_grammar.specs.Terminals.{Terminal, first_of, second_of}
use Rattle.py_grammar.specs.Words.{async_word, colon, elif_word, else_word, finally_word, if_word, try_word, while_word}
use Rattle.py_grammar.specs.Weights.{weight}
use Rattle.py_grammar.specs.Lines.{LineForm}
use Rattle.py_grammar.specs.Reading.{LineReader, token, named_at, test_at, or_at, not_at, bit_or_at, factor_at}
use Rattle.py_grammar.specs.ReadingPatterns.{pattern_at}
use Rattle.py_grammar.specs.ReadingStatements.{statements_at}
use Rattle.py_grammar.specs.ReadingHeaders.{for_header_at, except_header_at, except_star_header_at, plain_with_at, parenthesized_with_at, function_header_at, class_header_at, match_header_at, case_header_at, decorator_line_at}

-- the reader of an entry, over the readers of the entries to which it leads back
unfoldable pub reader_of : (Entry → LineReader) → Entry → LineReader
reader_of self e.Test = test_at self
reader_of self e.Or = or_at self
reader_of self e.Not = not_at self
reader_of self e.BitOr = bit_or_at self
reader_of self e.Factor = factor_at self
reader_of self e.Pattern = pattern_at self

-- a phrase that leads back at most so many times, one within the other
unfoldable pub phrase_at : ℕ → Entry → LineReader
phrase_at zero entry = λ ts. fails
phrase_at (suc depth) entry = reader_of (phrase_at depth) entry

-- ---- parts of a line

-- only trees that are not nested too deep
abbrev pub shallow : Option LineForm → Option LineForm
shallow None = None
shallow (Some line) = if nat_le (nesting_of weight (line.nodes ++ line.body)) 200 then Some line else None

-- the first, and where it is none the second
abbrev pub or_line : Option LineForm → Option LineForm → Option LineForm
or_line None line = line
or_line (Some line) other = Some line

-- what was read to the line's end behind these nodes
abbrev pub with_body : Head → List Tree → Read Terminal → Option LineForm
with_body head nodes fails = None
with_body head nodes (got body []) = Some (record { head = head; nodes = nodes; body = body })
with_body head nodes (got body (t ∷ ts)) = None

-- the nodes that were read to the line's end
abbrev pub without_body : Head → Read Terminal → Option LineForm
without_body head fails = None
without_body head (got nodes []) = Some (record { head = head; nodes = nodes; body = [] })
without_body head (got nodes (t ∷ ts)) = None

module _ (self : Entry → LineReader) where
  -- behind a header and its `:`
  abbrev pub behind_header : Head → Read Terminal → Option LineForm
  behind_header head fails = None
  behind_header head (got nodes []) = Some (record { head = head; nodes = nodes; body = [] })
  behind_header head (got nodes (t ∷ ts)) = with_body head nodes (statements_at self (t ∷ ts))

  -- a header, its `:`, and maybe simple statements
  unfoldable pub headed_at : Head → LineReader → List Terminal → Option LineForm
  headed_at head header ts = shallow (behind_header head (both header (token colon) ts))

  -- a header with its `:` alone
  unfoldable pub bare_at : Head → LineReader → List Terminal → Option LineForm
  bare_at head header ts = shallow (without_body head (both header (token colon) ts))

  -- simple statements
  unfoldable pub simple_at : List Terminal → Option LineForm
  simple_at ts = shallow (with_body heads.Simple [] (statements_at self ts))

  -- `with` items, maybe behind `async`
  unfoldable pub with_at : Head → (LineReader → LineReader) → List Terminal → Option LineForm
  with_at head behind ts = or_line (headed_at head (behind (parenthesized_with_at self)) ts) (headed_at head (behind (plain_with_at self)) ts)

  -- behind `async`, by the second token
  unfoldable pub async_line_at : Symbol → List Terminal → Option LineForm
  async_line_at s.ForWord ts = headed_at heads.AsyncFor (both (token async_word) (for_header_at self)) ts
  async_line_at s.WithWord ts = with_at heads.AsyncWith (both (token async_word)) ts
  async_line_at symbol ts = headed_at heads.AsyncFunctionDef (both (token async_word) (function_header_at self)) ts

  -- behind `except`, by the second token
  unfoldable pub except_line_at : Symbol → List Terminal → Option LineForm
  except_line_at s.Star ts = headed_at heads.ExceptStar (except_star_header_at self) ts
  except_line_at symbol ts = headed_at heads.Except (except_header_at self) ts

  -- a line by its first token
  unfoldable pub line_by : Symbol → List Terminal → Option LineForm
  line_by s.AtSign ts = shallow (without_body heads.Decorator (decorator_line_at self ts))
  line_by s.IfWord ts = headed_at heads.If (both (token if_word) (named_at self)) ts
  line_by s.ElifWord ts = headed_at heads.Elif (both (token elif_word) (named_at self)) ts
  line_by s.ElseWord ts = headed_at heads.Else (token else_word) ts
  line_by s.WhileWord ts = headed_at heads.While (both (token while_word) (named_at self)) ts
  line_by s.ForWord ts = headed_at heads.For (for_header_at self) ts
  line_by s.TryWord ts = headed_at heads.Try (token try_word) ts
  line_by s.ExceptWord ts = except_line_at (second_of ts).symbol ts
  line_by s.FinallyWord ts = headed_at heads.Finally (token finally_word) ts
  line_by s.WithWord ts = with_at heads.With (λ p. p) ts
  line_by s.DefWord ts = headed_at heads.FunctionDef (function_header_at self) ts
  line_by s.ClassWord ts = headed_at heads.ClassDef (class_header_at self) ts
  line_by s.AsyncWord ts = async_line_at (second_of ts).symbol ts
  line_by s.MatchWord ts = or_line (bare_at heads.Match (match_header_at self) ts) (simple_at ts)
  line_by s.CaseWord ts = or_line (headed_at heads.Case (case_header_at self) ts) (simple_at ts)
  line_by symbol ts = simple_at ts

  -- a line
  unfoldable pub line_at : List Terminal → Option LineForm
  line_at ts = line_by (first_of ts).symbol ts
