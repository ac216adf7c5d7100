-- A bound on how often a phrase leads back is no restriction: a phrase within any depth is one within each depth that is
-- greater than its nesting and its open brackets together.
use Rattle.std.proofs.Common.{ℕ, zero, suc}
use Rattle.py_language.specs.Brackets.{Even}
use Rattle.py_language.proofs.Carrying.{carried_none, carried_same}
use Rattle.py_grammar.specs.declared.entry.Entry.{Entry}
use Rattle.py_grammar.specs.declared.entry.Entry.TheVariants as e
use Rattle.py_grammar.specs.Terminals.{Form, code}
use Rattle.py_grammar.specs.Words.{opens, closes}
use Rattle.py_grammar.specs.Weights.{weight}
use Rattle.py_grammar.specs.Lines.{FormOf, PhraseWithin}
use Rattle.py_grammar.proofs.DepthBuilding.{Leads}
use Rattle.py_grammar.proofs.DepthOperators.{carries_factor, carries_bit_or, carries_not, carries_or, carries_test}
use Rattle.py_grammar.proofs.DepthPatterns.{carries_pattern}

-- each form carries one more than the forms in which it leads back
pub form_carries : (L M : Entry → Form) (k : ℕ) → Leads k L M → Leads (suc k) (FormOf L) (FormOf M)
unfolding FormOf
form_carries L M k known e.Test = carries_test L M k known
form_carries L M k known e.Or = carries_or L M k known
form_carries L M k known e.Not = carries_not L M k known
form_carries L M k known e.BitOr = carries_bit_or L M k known
form_carries L M k known e.Factor = carries_factor L M k known
form_carries L M k known e.Pattern = carries_pattern L M k known

-- brackets are even in each phrase
pub even_phrase : (n : ℕ) (x : Entry) → Even code opens closes (PhraseWithin n x)
unfolding PhraseWithin
even_phrase zero x = λ ts out h. absurd h
even_phrase (suc n) x = (form_carries (PhraseWithin n) (PhraseWithin n) 0 (λ y. carried_same code opens closes weight 0 (even_phrase n y)) x).even

pub phrase_carries : (n k : ℕ) → Leads k (PhraseWithin n) (PhraseWithin k)
unfolding PhraseWithin
phrase_carries n zero x = carried_none code opens closes weight (even_phrase n x)
phrase_carries zero (suc k) x = record { even = even_phrase zero x; carries = λ ts out h l. absurd h }
phrase_carries (suc n) (suc k) x = form_carries (PhraseWithin n) (PhraseWithin k) k (phrase_carries n k) x
