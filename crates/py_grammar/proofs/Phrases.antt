-- Phrases at every depth are read as the forms say. A name alone is an expression and a pattern, which the choices by two
-- tokens rest on.
use Rattle.std.proofs.Common.{◌≡◌, ℕ, zero, suc, true, false, List, [], ◌∷◌, ◌++◌, inl, inr, refl}
use Rattle.tree_nodes.specs.Trees.{none, Tree}
use Rattle.tree_nodes.specs.declared.kind.Kind.{Kind}
use Rattle.py_language.specs.Sets.{mem}
use Rattle.py_language.specs.Languages.{Then, Many, row}
use Rattle.py_language.proofs.SetLaws.{within_mem}
use Rattle.py_language.proofs.Agreement.{then_of}
use Rattle.py_language.proofs.Looking.{ReadsAlone, alone_by}
use Rattle.py_grammar.specs.declared.entry.Entry.{Entry}
use Rattle.py_grammar.specs.declared.entry.Entry.TheVariants as e
use Rattle.py_grammar.specs.Terminals.{Terminal, Form, code}
use Rattle.py_grammar.specs.Words.{opens, closes, name, simple_atom}
use Rattle.py_grammar.specs.Firsts.{entry_first}
use Rattle.py_grammar.specs.Nodes.{spanning, atom_leaf, Row}
use Rattle.py_grammar.specs.Expressions.{Atom, Primary, Awaited, Power, Factor, Term, Arith, Shift, BitAnd, BitXor, BitOr, Comparison, Not, And, Or, Test}
use Rattle.py_grammar.specs.Patterns.{name_pattern, DottedName, NamePattern, ClosedPattern, OrPattern, Pattern}
use Rattle.py_grammar.specs.Lines.{FormOf, PhraseWithin}
use Rattle.py_grammar.specs.Reading.{LineReader}
use Rattle.py_grammar.specs.ReadingLines.{reader_of, phrase_at}
use Rattle.py_grammar.proofs.FollowSets.{test_more, pattern_more, entry_more}
use Rattle.py_grammar.proofs.Building.{Reads}
use Rattle.py_grammar.proofs.Operators.{reads_test, reads_or, reads_not, reads_bit_or, reads_factor}
use Rattle.py_grammar.proofs.Patterns.{reads_pattern}

-- ---- a token alone

-- the token alone spells trees
abbrev pub IsAlone : Form → Terminal → Type 0
IsAlone a t = (out : List Tree) × a (t ∷ []) out

row_alone : (kind : Kind) (op a : Form) (t : Terminal) → IsAlone a t → IsAlone (Row kind op a) t
row_alone kind op a t h = (
  row (spanning kind) (t ∷ []) (h.0 ++ []),
  record { parts = h.0 ++ []; spelled = then_of a (Many (Then op a)) (t ∷ []) [] h.0 [] (h.0 ++ []) h.1 (0, (refl, refl)) refl; trees = refl },
)

factor_alone : (L : Entry → Form) (t : Terminal) → mem (code t) name ≡ true → IsAlone (Factor L) t
unfolding Factor Power Awaited Primary Atom
factor_alone L t h =
    let is_atom : mem (code t) simple_atom ≡ true = within_mem (code t) name simple_atom refl h in
    (record { node = atom_leaf t; kids = none } ∷ [], inr (inl (inr (0, inl (record { token = t; is_in = is_atom; tokens = refl; trees = refl })))))

pub test_alone : (L : Entry → Form) (t : Terminal) → mem (code t) name ≡ true → IsAlone (Test L) t
unfolding Term Arith Shift BitAnd BitXor BitOr Comparison Not And Or Test
test_alone L t h =
    let term : IsAlone (Term L) t = row_alone _ _ _ t (factor_alone L t h) in
    let arith : IsAlone (Arith L) t = row_alone _ _ _ t term in
    let shift : IsAlone (Shift L) t = row_alone _ _ _ t arith in
    let bit_and : IsAlone (BitAnd L) t = row_alone _ _ _ t shift in
    let bit_xor : IsAlone (BitXor L) t = row_alone _ _ _ t bit_and in
    let bit_or : IsAlone (BitOr L) t = row_alone _ _ _ t bit_xor in
    let comparison : IsAlone (Comparison L) t = row_alone _ _ _ t bit_or in
    let negation : IsAlone (Not L) t = (comparison.0, inr comparison.1) in
    let conjunction : IsAlone (And L) t = row_alone _ _ _ t negation in
    let disjunction : IsAlone (Or L) t = row_alone _ _ _ t conjunction in
    (disjunction.0, inr (inl disjunction.1))

closed_alone : (L : Entry → Form) (t : Terminal) → mem (code t) name ≡ true → IsAlone (ClosedPattern L) t
unfolding DottedName NamePattern ClosedPattern
closed_alone L t h =
    let leaf = record { node = atom_leaf t; kids = none } ∷ [] in
    (name_pattern (t ∷ []) leaf, inr (inl (inl (record { parts = leaf; spelled = (0, record { token = t; is_in = h; tokens = refl; trees = refl }); trees = refl }))))

pub pattern_alone : (L : Entry → Form) (t : Terminal) → mem (code t) name ≡ true → IsAlone (Pattern L) t
unfolding OrPattern Pattern
pattern_alone L t h =
    let alternatives : IsAlone (OrPattern L) t = row_alone _ _ _ t (closed_alone L t h) in
    (alternatives.0, inl alternatives.1)

-- ---- phrases

agree_entry : (P : Entry → LineReader) (L : Entry → Form) (known : (x : Entry) → Reads false (entry_first x) (entry_more x) (P x) (L x)) (alone : ReadsAlone code name test_more (P e.Test)) (alone_pattern : ReadsAlone code name pattern_more (P e.Pattern))
    → (x : Entry) → Reads false (entry_first x) (entry_more x) (reader_of P x) (FormOf L x)
unfolding reader_of FormOf
agree_entry P L known alone alone_pattern e.Test = reads_test P L known alone
agree_entry P L known alone alone_pattern e.Or = reads_or P L known alone
agree_entry P L known alone alone_pattern e.Not = reads_not P L known alone
agree_entry P L known alone alone_pattern e.BitOr = reads_bit_or P L known alone
agree_entry P L known alone alone_pattern e.Factor = reads_factor P L known alone
agree_entry P L known alone alone_pattern e.Pattern = reads_pattern P L known alone alone_pattern

-- phrases of a depth are read so
abbrev pub AgreesAt : ℕ → Type 0
AgreesAt depth = (x : Entry) → Reads false (entry_first x) (entry_more x) (phrase_at depth x) (PhraseWithin depth x)

pub name_is_test : (depth : ℕ) → AgreesAt depth → ReadsAlone code name test_more (phrase_at depth e.Test)
unfolding phrase_at PhraseWithin FormOf
name_is_test zero known = λ t ts out rest h s g. absurd cc
name_is_test (suc depth) known = alone_by code opens closes (known e.Test) name (λ t h. test_alone (PhraseWithin depth) t h)

pub name_is_pattern : (depth : ℕ) → AgreesAt depth → ReadsAlone code name pattern_more (phrase_at depth e.Pattern)
unfolding phrase_at PhraseWithin FormOf
name_is_pattern zero known = λ t ts out rest h s g. absurd cc
name_is_pattern (suc depth) known = alone_by code opens closes (known e.Pattern) name (λ t h. pattern_alone (PhraseWithin depth) t h)

-- a phrase of any depth is read exactly as its form says
pub agree_phrase : (depth : ℕ) → AgreesAt depth
unfolding phrase_at PhraseWithin
agree_phrase zero x = record { sound = λ ts out rest g. absurd cc; complete = λ front out rest h s. elim h [ ]; starts = λ front out h. elim h [ ]; even = λ front out h. elim h [ ] }
agree_phrase (suc depth) x =
    let known = agree_phrase depth in
    agree_entry (phrase_at depth) (PhraseWithin depth) known (name_is_test depth known) (name_is_pattern depth known) x
