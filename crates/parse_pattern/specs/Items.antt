-- What stands between the commas of a pattern.
use Rattle.std.specs.Prelude.{ℕ, List}
use Rattle.tree_nodes.specs.declared.kind.Kind.TheVariants as kinds
use Rattle.py_language.specs.Readers.{both, choose, optional, where_}
use Rattle.py_grammar.specs.declared.entry.Entry.{Entry}
use Rattle.py_grammar.specs.declared.entry.Entry.TheVariants as e
use Rattle.py_grammar.specs.Terminals.{code}
use Rattle.py_grammar.specs.Words.{capture, comma, double_star, star}
use Rattle.py_grammar.specs.Firsts.{literal_first, pattern_first, sequence_first, mapping_first}
use Rattle.py_grammar.specs.Nodes.{second_text}
use Rattle.py_grammar.specs.Patterns.{is_dotted}
use Rattle.py_grammar.specs.Reading.{LineReader, token, called_, comma_rest}
use Rattle.py_grammar.specs.ReadingPatterns.{class_argument_at, sequence_item_at, mapping_item_at, star_pattern_at, literal_at, dotted_name_at}
use Rattle.parse_pattern.specs.declared.item.Item.{Item}
use Rattle.parse_pattern.specs.declared.item.Item.TheVariants as items

-- with what an item begins
abbrev pub item_first : Item → List ℕ
item_first items.ClassArgument = pattern_first
item_first items.OfSequence = sequence_first
item_first items.OfMapping = mapping_first

-- an item
abbrev pub item_at : (Entry → LineReader) → Item → LineReader
item_at self items.ClassArgument = class_argument_at self
item_at self items.OfSequence = sequence_item_at self
item_at self items.OfMapping = mapping_item_at self

module _ (self : Entry → LineReader) where
  -- a comma and more items of a sequence, or nothing
  unfoldable pub more_items_at : LineReader
  more_items_at = optional code comma (comma_rest sequence_first (sequence_item_at self))

  -- what stands in round brackets
  unfoldable pub inside_at : LineReader
  inside_at = choose code star (both (star_pattern_at self) (comma_rest sequence_first (sequence_item_at self))) (both (self e.Pattern) more_items_at)

  -- what takes the rest of a mapping
  unfoldable pub mapping_rest_at : LineReader
  mapping_rest_at = called_ kinds.MatchRest second_text (both (token double_star) (token capture))

  -- what stands before the colon of a mapping's item
  unfoldable pub mapping_key_at : LineReader
  mapping_key_at = choose code literal_first (literal_at self) (where_ is_dotted (dotted_name_at self))
