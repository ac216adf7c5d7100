-- Each kind of line with phrases of one depth: the reader of its row gives exactly what the row says.
use Rattle.std.proofs.Common.{false, [], ◌++◌, ◌⊎◌, refl}
use Rattle.py_language.specs.Readers.{both}
use Rattle.py_language.proofs.Looking.{ReadsAlone}
use Rattle.py_grammar.specs.declared.entry.Entry.{Entry}
use Rattle.py_grammar.specs.declared.entry.Entry.TheVariants as e
use Rattle.py_grammar.specs.declared.head.Head.{Head}
use Rattle.py_grammar.specs.declared.head.Head.TheVariants as heads
use Rattle.py_grammar.specs.Terminals.{Form, code}
use Rattle.py_grammar.specs.Words.{name, async_word, elif_word, else_word, finally_word, if_word, try_word, while_word, arrow}
use Rattle.py_grammar.specs.Firsts.{statement_first, entry_first}
use Rattle.py_grammar.specs.Statements.{Statements}
use Rattle.py_grammar.specs.Headers.{ForHeader, ExceptHeader, ExceptStarHeader, PlainWith, ParenthesizedWith, FunctionHeader, ClassHeader, MatchHeader, CaseHeader}
use Rattle.py_grammar.specs.Lines.{IsShallow, Row, headed, bare, decorator, simple, alone, with_test, async}
use Rattle.py_grammar.specs.Reading.{LineReader, token, named_at}
use Rattle.py_grammar.specs.ReadingStatements.{statements_at}
use Rattle.py_grammar.specs.ReadingHeaders.{for_header_at, except_header_at, except_star_header_at, plain_with_at, parenthesized_with_at, function_header_at, class_header_at, match_header_at, case_header_at, decorator_line_at}
use Rattle.py_grammar.specs.ReadingLines.{shallow, without_body, headed_at, bare_at, simple_at, with_at}
use Rattle.py_grammar.proofs.FollowSets.{test_more, named_more, sx_more, with_more, pattern_more, statements_more, entry_more}
use Rattle.py_grammar.proofs.Building.{Reads, as_sets, a_token, behind_token}
use Rattle.py_grammar.proofs.Expressions.{reads_named}
use Rattle.py_grammar.proofs.Statements.{reads_statements}
use Rattle.py_grammar.proofs.Headers.{reads_for_header, reads_except_header, reads_except_star_header, reads_plain_with, reads_parenthesized_with, reads_function_header, reads_class_header, reads_match_header, reads_case_header, reads_decorator_line}
use Rattle.py_grammar.proofs.LineParts.{Parts, Nowhere, Gives, gives_or, gives_headed, gives_bare, gives_nodes, gives_simple}

-- ---- lines with the phrases of one depth

-- read by a row, and not nested too deep
abbrev pub FitsWith : (Entry → Form) → Row → Parts
FitsWith L reading ts nodes body = reading L ts nodes body × IsShallow nodes body

abbrev pub with_items_of : (Entry → Form) → (((Entry → Form) → Form) → (Entry → Form) → Form) → Parts
with_items_of L behind ts nodes body =
    FitsWith L (headed (behind ParenthesizedWith)) ts nodes body ⊎ (FitsWith L (headed (behind PlainWith)) ts nodes body × Nowhere (FitsWith L (headed (behind ParenthesizedWith))) ts)

abbrev pub statements_of : (Entry → Form) → Parts
statements_of L ts nodes body = FitsWith L simple ts nodes body × Nowhere (FitsWith L (bare MatchHeader)) ts × Nowhere (FitsWith L (headed CaseHeader)) ts

-- a line of each kind
unfoldable pub IsSpelled : (Entry → Form) → Head → Parts
IsSpelled L heads.Simple = statements_of L
IsSpelled L heads.Decorator = FitsWith L decorator
IsSpelled L heads.If = FitsWith L (headed (with_test if_word))
IsSpelled L heads.Elif = FitsWith L (headed (with_test elif_word))
IsSpelled L heads.Else = FitsWith L (headed (alone else_word))
IsSpelled L heads.While = FitsWith L (headed (with_test while_word))
IsSpelled L heads.For = FitsWith L (headed ForHeader)
IsSpelled L heads.AsyncFor = FitsWith L (headed (async ForHeader))
IsSpelled L heads.Try = FitsWith L (headed (alone try_word))
IsSpelled L heads.Except = FitsWith L (headed ExceptHeader)
IsSpelled L heads.ExceptStar = FitsWith L (headed ExceptStarHeader)
IsSpelled L heads.Finally = FitsWith L (headed (alone finally_word))
IsSpelled L heads.With = with_items_of L (λ header. header)
IsSpelled L heads.AsyncWith = with_items_of L async
IsSpelled L heads.FunctionDef = FitsWith L (headed FunctionHeader)
IsSpelled L heads.AsyncFunctionDef = FitsWith L (headed (async FunctionHeader))
IsSpelled L heads.ClassDef = FitsWith L (headed ClassHeader)
IsSpelled L heads.Match = FitsWith L (bare MatchHeader)
IsSpelled L heads.Case = FitsWith L (headed CaseHeader)

-- ---- what gives them

module _ (P : Entry → LineReader) (L : Entry → Form) (known : (x : Entry) → Reads false (entry_first x) (entry_more x) (P x) (L x)) (alone_test : ReadsAlone code name test_more (P e.Test)) (alone_pattern : ReadsAlone code name pattern_more (P e.Pattern)) where
  pub reads_body : Reads false statement_first statements_more (statements_at P) (Statements L)
  reads_body = reads_statements P L known alone_test

  pub reads_if : Reads false if_word named_more (both (token if_word) (named_at P)) (with_test if_word L)
  reads_if = as_sets if_word named_more (behind_token if_word refl refl (reads_named P L known alone_test)) refl refl

  pub reads_elif : Reads false elif_word named_more (both (token elif_word) (named_at P)) (with_test elif_word L)
  reads_elif = as_sets elif_word named_more (behind_token elif_word refl refl (reads_named P L known alone_test)) refl refl

  pub reads_while : Reads false while_word named_more (both (token while_word) (named_at P)) (with_test while_word L)
  reads_while = as_sets while_word named_more (behind_token while_word refl refl (reads_named P L known alone_test)) refl refl

  pub reads_async_for : Reads false async_word sx_more (both (token async_word) (for_header_at P)) (async ForHeader L)
  reads_async_for = as_sets async_word sx_more (behind_token async_word refl refl (reads_for_header P L known alone_test alone_pattern)) refl refl

  pub reads_async_function : Reads false async_word (arrow ++ test_more) (both (token async_word) (function_header_at P)) (async FunctionHeader L)
  reads_async_function = as_sets async_word (arrow ++ test_more) (behind_token async_word refl refl (reads_function_header P L known alone_test alone_pattern)) refl refl

  pub reads_async_items : Reads false async_word [] (both (token async_word) (parenthesized_with_at P)) (async ParenthesizedWith L)
  reads_async_items = as_sets async_word [] (behind_token async_word refl refl (reads_parenthesized_with P L known alone_test alone_pattern)) refl refl

  pub reads_async_with : Reads false async_word with_more (both (token async_word) (plain_with_at P)) (async PlainWith L)
  reads_async_with = as_sets async_word with_more (behind_token async_word refl refl (reads_plain_with P L known alone_test alone_pattern)) refl refl

  pub gives_decorator : Gives (λ ts. shallow (without_body heads.Decorator (decorator_line_at P ts))) heads.Decorator (IsSpelled L heads.Decorator)
  unfolding IsSpelled
  gives_decorator = gives_nodes heads.Decorator (reads_decorator_line P L known alone_test alone_pattern)

  pub gives_if : Gives (headed_at P heads.If (both (token if_word) (named_at P))) heads.If (IsSpelled L heads.If)
  unfolding IsSpelled
  gives_if = gives_headed P L reads_body reads_if refl heads.If

  pub gives_elif : Gives (headed_at P heads.Elif (both (token elif_word) (named_at P))) heads.Elif (IsSpelled L heads.Elif)
  unfolding IsSpelled
  gives_elif = gives_headed P L reads_body reads_elif refl heads.Elif

  pub gives_else : Gives (headed_at P heads.Else (token else_word)) heads.Else (IsSpelled L heads.Else)
  unfolding IsSpelled
  gives_else = gives_headed P L reads_body (a_token else_word refl refl) refl heads.Else

  pub gives_while : Gives (headed_at P heads.While (both (token while_word) (named_at P))) heads.While (IsSpelled L heads.While)
  unfolding IsSpelled
  gives_while = gives_headed P L reads_body reads_while refl heads.While

  pub gives_for : Gives (headed_at P heads.For (for_header_at P)) heads.For (IsSpelled L heads.For)
  unfolding IsSpelled
  gives_for = gives_headed P L reads_body (reads_for_header P L known alone_test alone_pattern) refl heads.For

  pub gives_async_for : Gives (headed_at P heads.AsyncFor (both (token async_word) (for_header_at P))) heads.AsyncFor (IsSpelled L heads.AsyncFor)
  unfolding IsSpelled
  gives_async_for = gives_headed P L reads_body reads_async_for refl heads.AsyncFor

  pub gives_try : Gives (headed_at P heads.Try (token try_word)) heads.Try (IsSpelled L heads.Try)
  unfolding IsSpelled
  gives_try = gives_headed P L reads_body (a_token try_word refl refl) refl heads.Try

  pub gives_except : Gives (headed_at P heads.Except (except_header_at P)) heads.Except (IsSpelled L heads.Except)
  unfolding IsSpelled
  gives_except = gives_headed P L reads_body (reads_except_header P L known alone_test alone_pattern) refl heads.Except

  pub gives_except_star : Gives (headed_at P heads.ExceptStar (except_star_header_at P)) heads.ExceptStar (IsSpelled L heads.ExceptStar)
  unfolding IsSpelled
  gives_except_star = gives_headed P L reads_body (reads_except_star_header P L known alone_test alone_pattern) refl heads.ExceptStar

  pub gives_finally : Gives (headed_at P heads.Finally (token finally_word)) heads.Finally (IsSpelled L heads.Finally)
  unfolding IsSpelled
  gives_finally = gives_headed P L reads_body (a_token finally_word refl refl) refl heads.Finally

  pub gives_with : Gives (with_at P heads.With (λ p. p)) heads.With (IsSpelled L heads.With)
  unfolding IsSpelled with_at
  gives_with =
      gives_or (gives_headed P L reads_body (reads_parenthesized_with P L known alone_test alone_pattern) refl heads.With) (gives_headed P L reads_body (reads_plain_with P L known alone_test alone_pattern) refl heads.With)

  pub gives_async_with : Gives (with_at P heads.AsyncWith (both (token async_word))) heads.AsyncWith (IsSpelled L heads.AsyncWith)
  unfolding IsSpelled with_at
  gives_async_with = gives_or (gives_headed P L reads_body reads_async_items refl heads.AsyncWith) (gives_headed P L reads_body reads_async_with refl heads.AsyncWith)

  pub gives_function : Gives (headed_at P heads.FunctionDef (function_header_at P)) heads.FunctionDef (IsSpelled L heads.FunctionDef)
  unfolding IsSpelled
  gives_function = gives_headed P L reads_body (reads_function_header P L known alone_test alone_pattern) refl heads.FunctionDef

  pub gives_async_function : Gives (headed_at P heads.AsyncFunctionDef (both (token async_word) (function_header_at P))) heads.AsyncFunctionDef (IsSpelled L heads.AsyncFunctionDef)
  unfolding IsSpelled
  gives_async_function = gives_headed P L reads_body reads_async_function refl heads.AsyncFunctionDef

  pub gives_class : Gives (headed_at P heads.ClassDef (class_header_at P)) heads.ClassDef (IsSpelled L heads.ClassDef)
  unfolding IsSpelled
  gives_class = gives_headed P L reads_body (reads_class_header P L known alone_test alone_pattern) refl heads.ClassDef

  pub gives_match : Gives (bare_at P heads.Match (match_header_at P)) heads.Match (IsSpelled L heads.Match)
  unfolding IsSpelled
  gives_match = gives_bare (reads_match_header P L known alone_test alone_pattern) refl P heads.Match

  pub gives_case : Gives (headed_at P heads.Case (case_header_at P)) heads.Case (IsSpelled L heads.Case)
  unfolding IsSpelled
  gives_case = gives_headed P L reads_body (reads_case_header P L known alone_test alone_pattern) refl heads.Case

  pub gives_statements : Gives (simple_at P) heads.Simple (FitsWith L simple)
  gives_statements = gives_simple P L reads_body
