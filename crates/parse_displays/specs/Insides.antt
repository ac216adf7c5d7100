-- What brackets hold where they are not empty.
use Rattle.py_language.specs.Readers.{both, choose, optional}
use Rattle.py_grammar.specs.declared.entry.Entry.{Entry}
use Rattle.py_grammar.specs.Terminals.{code}
use Rattle.py_grammar.specs.Words.{yield_word, star, comma}
use Rattle.py_grammar.specs.Firsts.{element_first, unpacked_first, brace_first, starred_first, argument_first, clause_or_comma}
use Rattle.py_grammar.specs.Reading.{LineReader, comma_rest, star_at, named_at, element_at, yield_at, more_elements_at, unpacked_at, item_or_named_at, brace_entry_at, more_entries_at, starred_argument_at, plain_argument_at, argument_at, more_arguments_at}

module _ (self : Entry → LineReader) where
  -- in round brackets
  abbrev pub in_round_at : LineReader
  in_round_at =
      choose code yield_word (yield_at self)
      (choose code star (both (star_at self) (comma_rest element_first (element_at self))) (both (named_at self) (optional code clause_or_comma (more_elements_at self))))

  -- in square brackets
  abbrev pub in_square_at : LineReader
  in_square_at =
      choose code star (both (star_at self) (optional code comma (comma_rest element_first (element_at self)))) (both (named_at self) (optional code clause_or_comma (more_elements_at self)))

  -- in braces
  abbrev pub in_brace_at : LineReader
  in_brace_at =
      choose code unpacked_first (both (unpacked_at self) (optional code comma (comma_rest brace_first (brace_entry_at self))))
      (both (item_or_named_at self) (optional code clause_or_comma (more_entries_at self)))

  -- in the brackets of a call
  abbrev pub in_call_at : LineReader
  in_call_at =
      choose code starred_first (both (starred_argument_at self) (optional code comma (comma_rest argument_first (argument_at self))))
      (both (plain_argument_at self) (optional code clause_or_comma (more_arguments_at self)))
