-- No item of a list within a pattern leaves more than was there.
use Rattle.std.proofs.Common.{◌≡◌, ℕ, ◌≤◌, true, List, [], ◌∷◌, length, arith}
use Rattle.py_language.specs.Sets.{at}
use Rattle.py_grammar.specs.Terminals.{Terminal, code}
use Rattle.py_grammar.specs.ReadingLines.{phrase_at}
use Rattle.parse_steps.proofs.Shrinking.{Keeps}
use Rattle.parse_steps.proofs.Keeping.{keeps_phrase, keeps_class_argument, keeps_sequence_item, keeps_mapping_item}
use Rattle.parse_pattern.specs.declared.item.Item.{Item}
use Rattle.parse_pattern.specs.declared.item.Item.TheVariants as items
use Rattle.parse_pattern.specs.Items.{item_at}

pub keeps_item : (depth : ℕ) (kind : Item) → Keeps (item_at (phrase_at depth) kind)
keeps_item depth items.ClassArgument = keeps_class_argument (phrase_at depth) (keeps_phrase depth)
keeps_item depth items.OfSequence = keeps_sequence_item (phrase_at depth) (keeps_phrase depth)
keeps_item depth items.OfMapping = keeps_mapping_item (phrase_at depth) (keeps_phrase depth)

-- where a token of the set stands there is one
pub at_long : (set : List ℕ) (ts : List Terminal) → at code set ts ≡ true → 1 ≤ length ts
at_long set [] e = absurd cc
at_long set (t ∷ ts) e = omega arith
