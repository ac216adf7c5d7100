-- Tokens that are nodes are in shape, of the sorts that their sets say.
use Rattle.std.proofs.Common.{◌≡◌, ℕ, true, false, List, [], inl, inr, refl}
use Rattle.lint_values.specs.declared.place.Pos.{Pos}
use Rattle.tree_nodes.specs.declared.kind.Kind.{Kind}
use Rattle.tree_nodes.specs.Sorts.{Sort, constant, name_read, comparison_operator, shift_operator, sum_operator, product_operator, sort_of, is_named, IsOf, only, expression, augmented_operator}
use Rattle.tree_nodes.specs.Shapes.{FitsOneOf, shape}
use Rattle.tree_nodes.specs.Shaped.{HasShape}
use Rattle.py_language.specs.Sets.{mem}
use Rattle.py_language.proofs.FormLaws.{form_shown}
use Rattle.py_grammar.specs.declared.symbol.Symbol.{Symbol}
use Rattle.py_grammar.specs.declared.symbol.Symbol.TheVariants as s
use Rattle.py_grammar.specs.Symbols.{number_of}
use Rattle.py_grammar.specs.Terminals.{Terminal, code}
use Rattle.py_grammar.specs.Words as words
use Rattle.py_grammar.specs.Nodes.{atom_leaf, operator_kind, operator_leaf, plain_leaf, named_leaf, Leaf}
use Rattle.py_grammar.proofs.ShapeBasics.{IsA, never}

-- ---- a kind without kids

pub a_plain_leaf : (kind : Kind) (sorts : List Sort) (set : List ℕ) → FitsOneOf (shape kind) [] → false ≡ is_named kind → IsOf sorts kind → IsA sorts (Leaf (plain_leaf kind) set)
a_plain_leaf kind sorts set fits named sort = form_shown sorts code (plain_leaf kind) set (λ t is. record { fits = fits; named = named }) (λ t is. sort)

pub a_named_leaf : (kind : Kind) (sorts : List Sort) (set : List ℕ) → FitsOneOf (shape kind) [] → true ≡ is_named kind → IsOf sorts kind → IsA sorts (Leaf (named_leaf kind) set)
a_named_leaf kind sorts set fits named sort = form_shown sorts code (named_leaf kind) set (λ t is. record { fits = fits; named = named }) (λ t is. sort)

-- ---- atoms of one token

-- a token of a symbol
abbrev token_of : Symbol → Pos → ℕ → List ℕ → Terminal
token_of symbol pos end_line text = record { symbol = symbol; pos = pos; end_line = end_line; text = text }

atom_shape : (symbol : Symbol) (pos : Pos) (end_line : ℕ) (text : List ℕ) → HasShape (atom_leaf (token_of symbol pos end_line text)) []
unfolding shape is_named
atom_shape s.Number pos end_line text = record { fits = inl refl; named = refl }
atom_shape s.NoneWord pos end_line text = record { fits = inl refl; named = refl }
atom_shape s.TrueWord pos end_line text = record { fits = inl refl; named = refl }
atom_shape s.FalseWord pos end_line text = record { fits = inl refl; named = refl }
atom_shape s.Ellipsis pos end_line text = record { fits = inl refl; named = refl }
atom_shape symbol pos end_line text = record { fits = inl refl; named = refl }

-- an atom's token of a set, where its symbols say the sorts
an_atom : (sorts : List Sort) (set : List ℕ) → ((symbol : Symbol) (pos : Pos) (end_line : ℕ) (text : List ℕ) → mem (number_of symbol) set ≡ true → IsOf sorts (atom_leaf (token_of symbol pos end_line text)).kind) → IsA sorts (Leaf atom_leaf set)
an_atom sorts set of = form_shown sorts code atom_leaf set (λ t is. atom_shape t.symbol t.pos t.end_line t.text) (λ t is. of t.symbol t.pos t.end_line t.text is)

atom_sort : (symbol : Symbol) (pos : Pos) (end_line : ℕ) (text : List ℕ) → mem (number_of symbol) words.simple_atom ≡ true → IsOf expression (atom_leaf (token_of symbol pos end_line text)).kind
unfolding sort_of
atom_sort s.Number pos end_line text h = inl refl
atom_sort s.NoneWord pos end_line text h = inl refl
atom_sort s.TrueWord pos end_line text h = inl refl
atom_sort s.FalseWord pos end_line text h = inl refl
atom_sort s.Ellipsis pos end_line text h = inr (inr (inr (inr (inr (inl refl)))))
atom_sort symbol pos end_line text h = inr (inl refl)

pub is_simple_atom : IsA expression (Leaf atom_leaf words.simple_atom)
is_simple_atom = an_atom expression words.simple_atom atom_sort

number_sort : (symbol : Symbol) (pos : Pos) (end_line : ℕ) (text : List ℕ) → mem (number_of symbol) words.number ≡ true → IsOf (only constant) (atom_leaf (token_of symbol pos end_line text)).kind
unfolding sort_of
number_sort s.Number pos end_line text h = inl refl
number_sort symbol pos end_line text h = never h

pub is_number : IsA (only constant) (Leaf atom_leaf words.number)
is_number = an_atom (only constant) words.number number_sort

constant_sort : (symbol : Symbol) (pos : Pos) (end_line : ℕ) (text : List ℕ) → mem (number_of symbol) words.constant_word ≡ true → IsOf (only constant) (atom_leaf (token_of symbol pos end_line text)).kind
unfolding sort_of
constant_sort s.NoneWord pos end_line text h = inl refl
constant_sort s.TrueWord pos end_line text h = inl refl
constant_sort s.FalseWord pos end_line text h = inl refl
constant_sort symbol pos end_line text h = never h

pub is_constant_word : IsA (only constant) (Leaf atom_leaf words.constant_word)
is_constant_word = an_atom (only constant) words.constant_word constant_sort

name_sort : (symbol : Symbol) (pos : Pos) (end_line : ℕ) (text : List ℕ) → mem (number_of symbol) words.name ≡ true → IsOf (only name_read) (atom_leaf (token_of symbol pos end_line text)).kind
unfolding sort_of
name_sort s.Name pos end_line text h = inl refl
name_sort s.MatchWord pos end_line text h = inl refl
name_sort s.CaseWord pos end_line text h = inl refl
name_sort s.Underscore pos end_line text h = inl refl
name_sort symbol pos end_line text h = never h

pub is_name : IsA (only name_read) (Leaf atom_leaf words.name)
is_name = an_atom (only name_read) words.name name_sort

-- ---- operators

operator_shape : (symbol : Symbol) → FitsOneOf (shape (operator_kind symbol)) []
unfolding shape
operator_shape s.Less = inl refl
operator_shape symbol = inl refl

operator_named : (symbol : Symbol) → false ≡ is_named (operator_kind symbol)
unfolding is_named
operator_named s.Less = refl
operator_named symbol = refl

an_operator : (sorts : List Sort) (set : List ℕ) → ((symbol : Symbol) → mem (number_of symbol) set ≡ true → IsOf sorts (operator_kind symbol)) → IsA sorts (Leaf operator_leaf set)
an_operator sorts set of = form_shown sorts code operator_leaf set (λ t is. record { fits = operator_shape t.symbol; named = operator_named t.symbol }) (λ t is. of t.symbol is)

comparison_sort : (symbol : Symbol) → mem (number_of symbol) words.comparison_operator ≡ true → IsOf (only comparison_operator) (operator_kind symbol)
unfolding sort_of
comparison_sort s.Less h = inl refl
comparison_sort s.Greater h = inl refl
comparison_sort s.Equal h = inl refl
comparison_sort s.LessEqual h = inl refl
comparison_sort s.GreaterEqual h = inl refl
comparison_sort s.NotEqual h = inl refl
comparison_sort s.InWord h = inl refl
comparison_sort symbol h = never h

pub is_comparison_operator : IsA (only comparison_operator) (Leaf operator_leaf words.comparison_operator)
is_comparison_operator = an_operator (only comparison_operator) words.comparison_operator comparison_sort

shift_sort : (symbol : Symbol) → mem (number_of symbol) words.shift_operator ≡ true → IsOf (only shift_operator) (operator_kind symbol)
unfolding sort_of
shift_sort s.LeftShift h = inl refl
shift_sort s.RightShift h = inl refl
shift_sort symbol h = never h

pub is_shift_operator : IsA (only shift_operator) (Leaf operator_leaf words.shift_operator)
is_shift_operator = an_operator (only shift_operator) words.shift_operator shift_sort

sum_sort : (symbol : Symbol) → mem (number_of symbol) words.sum_operator ≡ true → IsOf (only sum_operator) (operator_kind symbol)
unfolding sort_of
sum_sort s.Plus h = inl refl
sum_sort s.Minus h = inl refl
sum_sort symbol h = never h

pub is_sum_operator : IsA (only sum_operator) (Leaf operator_leaf words.sum_operator)
is_sum_operator = an_operator (only sum_operator) words.sum_operator sum_sort

product_sort : (symbol : Symbol) → mem (number_of symbol) words.product_operator ≡ true → IsOf (only product_operator) (operator_kind symbol)
unfolding sort_of
product_sort s.Star h = inl refl
product_sort s.Slash h = inl refl
product_sort s.DoubleSlash h = inl refl
product_sort s.Percent h = inl refl
product_sort s.AtSign h = inl refl
product_sort symbol h = never h

pub is_product_operator : IsA (only product_operator) (Leaf operator_leaf words.product_operator)
is_product_operator = an_operator (only product_operator) words.product_operator product_sort

augmented_sort : (symbol : Symbol) → mem (number_of symbol) words.augmented_operator ≡ true → IsOf augmented_operator (operator_kind symbol)
unfolding sort_of
augmented_sort s.PlusAssign h = inl refl
augmented_sort s.MinusAssign h = inl refl
augmented_sort s.StarAssign h = inr (inl refl)
augmented_sort s.SlashAssign h = inr (inl refl)
augmented_sort s.DoubleSlashAssign h = inr (inl refl)
augmented_sort s.PercentAssign h = inr (inl refl)
augmented_sort s.AtAssign h = inr (inl refl)
augmented_sort s.LeftShiftAssign h = inr (inr (inl refl))
augmented_sort s.RightShiftAssign h = inr (inr (inl refl))
augmented_sort s.AmpersandAssign h = inr (inr (inr (inl refl)))
augmented_sort s.BarAssign h = inr (inr (inr (inl refl)))
augmented_sort s.CaretAssign h = inr (inr (inr (inl refl)))
augmented_sort s.DoubleStarAssign h = inr (inr (inr (inl refl)))
augmented_sort symbol h = never h

pub is_augmented_operator : IsA augmented_operator (Leaf operator_leaf words.augmented_operator)
is_augmented_operator = an_operator augmented_operator words.augmented_operator augmented_sort
