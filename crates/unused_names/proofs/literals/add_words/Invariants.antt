use Rattle.std.proofs.Common.{◌≡◌, ◌≤◌, ◌++◌, List, length}
use Rattle.std.specs.List.{prefix_len}
use Rattle.scope_rules.specs.Nodes.{Name}
use Rattle.unused_names.specs.Literals.{is_name_byte, words_of}
use Rattle.unused_names.specs.Sets.{HasNames}
use Rattle.unused_names.proofs.literals.add_words.Given as goal

abbrev pub invariant-words : goal.invariant-words
invariant-words l = record {
  len : l.len ≡ prefix_len is_name_byte l.rest;
  bound : l.len ≤ length l.rest;
  all : (ns : List Name) → HasNames l.fn.names ns → (ms : List Name) × HasNames l.names ms × (ms ++ words_of l.rest ≡ ns ++ words_of l.text);
}

abbrev pub decreases-words : goal.decreases-words
decreases-words l = length l.rest
