-- The symbols that may go on behind the forms: where one of them stands behind a phrase, the phrase may be longer.
use Rattle.std.specs.Prelude.{ℕ, List, ◌++◌}
use Rattle.py_grammar.specs.declared.entry.Entry.{Entry}
use Rattle.py_grammar.specs.declared.entry.Entry.TheVariants as e
use Rattle.py_grammar.specs.Words.{dots, augmented_operator, semicolon, name, and_word, as_word, assign, ampersand, bar, caret, colon, comma, dot, double_star, from_word, if_word, left_paren, or_word, product_operator, shift_operator, sum_operator, walrus}
use Rattle.py_grammar.specs.Firsts.{statement_first, strings_first, element_first, target_first, brace_first, argument_first, slices_first, trailer_first, clause_first, comparison_first, parameter_first, test_first, sequence_first}

-- ---- expressions

abbrev pub primary_more : List ℕ
primary_more = trailer_first ++ strings_first

abbrev pub factor_more : List ℕ
factor_more = double_star ++ primary_more

abbrev pub term_more : List ℕ
term_more = product_operator ++ factor_more

abbrev pub arith_more : List ℕ
arith_more = sum_operator ++ term_more

abbrev pub shift_more : List ℕ
shift_more = shift_operator ++ arith_more

abbrev pub bit_and_more : List ℕ
bit_and_more = ampersand ++ shift_more

abbrev pub bit_xor_more : List ℕ
bit_xor_more = caret ++ bit_and_more

abbrev pub bit_or_more : List ℕ
bit_or_more = bar ++ bit_xor_more

abbrev pub not_more : List ℕ
not_more = comparison_first ++ bit_or_more

abbrev pub and_more : List ℕ
and_more = and_word ++ not_more

abbrev pub or_more : List ℕ
or_more = or_word ++ and_more

abbrev pub test_more : List ℕ
test_more = if_word ++ or_more

abbrev pub named_more : List ℕ
named_more = walrus ++ test_more

-- elements with commas
abbrev pub sx_more : List ℕ
sx_more = element_first ++ comma ++ test_more

abbrev pub value_more : List ℕ
value_more = from_word ++ sx_more

abbrev pub targets_more : List ℕ
targets_more = target_first ++ comma ++ bit_or_more

abbrev pub clauses_more : List ℕ
clauses_more = clause_first ++ test_more

abbrev pub elements_more : List ℕ
elements_more = element_first ++ comma ++ named_more

-- behind a first element within brackets
abbrev pub behind_element_more : List ℕ
behind_element_more = clause_first ++ elements_more

abbrev pub item_more : List ℕ
item_more = colon ++ named_more

abbrev pub items_more : List ℕ
items_more = clause_first ++ brace_first ++ comma ++ item_more

abbrev pub argument_more : List ℕ
argument_more = assign ++ named_more

abbrev pub arguments_more : List ℕ
arguments_more = argument_first ++ comma ++ argument_more

abbrev pub call_more : List ℕ
call_more = clause_first ++ arguments_more

abbrev pub slice_rest_more : List ℕ
slice_rest_more = colon ++ test_first ++ test_more

abbrev pub slice_more : List ℕ
slice_more = walrus ++ slice_rest_more

abbrev pub slices_more : List ℕ
slices_more = slices_first ++ comma ++ slice_more

abbrev pub lambda_parameter_more : List ℕ
lambda_parameter_more = name ++ assign ++ test_more

abbrev pub lambda_parameters_more : List ℕ
lambda_parameters_more = parameter_first ++ comma ++ lambda_parameter_more

-- ---- patterns

abbrev pub literal_more : List ℕ
literal_more = sum_operator ++ strings_first

abbrev pub closed_pattern_more : List ℕ
closed_pattern_more = literal_more ++ dot ++ left_paren

abbrev pub or_pattern_more : List ℕ
or_pattern_more = bar ++ closed_pattern_more

abbrev pub pattern_more : List ℕ
pattern_more = as_word ++ or_pattern_more

abbrev pub class_argument_more : List ℕ
class_argument_more = assign ++ pattern_more

abbrev pub sequence_more : List ℕ
sequence_more = sequence_first ++ comma ++ pattern_more

-- ---- statements

-- names and expressions with commas
abbrev pub alias_more : List ℕ
alias_more = as_word ++ dot

abbrev pub aliases_more : List ℕ
aliases_more = comma ++ alias_more

abbrev pub source_more : List ℕ
source_more = dots ++ name

abbrev pub annotated_more : List ℕ
annotated_more = assign ++ value_more

abbrev pub value_statement_more : List ℕ
value_statement_more = augmented_operator ++ colon ++ annotated_more

abbrev pub statement_more : List ℕ
statement_more = name ++ aliases_more ++ left_paren ++ value_statement_more

abbrev pub statements_more : List ℕ
statements_more = statement_first ++ semicolon ++ statement_more

-- ---- headers

abbrev pub parameter_more : List ℕ
parameter_more = colon ++ lambda_parameter_more

abbrev pub parameters_more : List ℕ
parameters_more = parameter_first ++ comma ++ parameter_more

-- behind an expression that may have a name or a target
abbrev pub as_more : List ℕ
as_more = as_word ++ test_more

abbrev pub with_more : List ℕ
with_more = comma ++ as_more

abbrev pub case_more : List ℕ
case_more = sequence_more ++ named_more

-- ---- entries

-- what may go on behind a phrase of an entry
abbrev pub entry_more : Entry → List ℕ
entry_more e.Test = test_more
entry_more e.Or = or_more
entry_more e.Not = not_more
entry_more e.BitOr = bit_or_more
entry_more e.Factor = factor_more
entry_more e.Pattern = pattern_more
