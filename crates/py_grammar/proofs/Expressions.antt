-- Each reader of an expression agrees with its form: what brackets and commas hold.
use Rattle.std.proofs.Common.{true, false, [], ◌∷◌, ◌++◌, inr, refl}
use Rattle.tree_nodes.specs.declared.kind.Kind.TheVariants as kinds
use Rattle.py_language.specs.Languages.{Then, Either, Maybe, Many, whole}
use Rattle.py_language.specs.Readers.{both, many, choose, optional, followed, extended, maybe_more}
use Rattle.py_language.proofs.Agreement.{then_of}
use Rattle.py_language.proofs.Looking.{ReadsAlone, looks_two, alone_by, alone_choose_two, alone_once, alone_wider}
use Rattle.py_grammar.specs.declared.entry.Entry.{Entry}
use Rattle.py_grammar.specs.declared.entry.Entry.TheVariants as e
use Rattle.py_grammar.specs.Terminals.{Form, code}
use Rattle.py_grammar.specs.Words.{opens, closes, name, async_word, for_word, from_word, if_word, in_word, yield_word, comma, colon, assign, walrus, star, double_star, left_paren, left_bracket, left_brace}
use Rattle.py_grammar.specs.Firsts.{element_first, target_first, value_first, unpacked_first, brace_first, starred_first, argument_first, slice_first, slices_first, clause_first, clause_or_comma, test_first, entry_first}
use Rattle.py_grammar.specs.Nodes.{spanning, called, first_text, plain_leaf, Token, Leaf, As, CommaRest}
use Rattle.py_grammar.specs.Tests.{in_order}
use Rattle.py_grammar.specs.Expressions.{in_parentheses, in_brackets, in_braces, are_alike, call_arguments, are_arguments, Star, Named, Element, SxItem, Sx, Yield, TargetItem, Targets, ForClause, Clause, Clauses, Parenthesized, ListDisplay, ItemOrNamed, Unpacked, BraceEntry, BraceDisplay, StarredArgument, PlainArgument, Argument, Arguments, CallArguments, SliceRest, Slice, StarredSlice, Slices}
use Rattle.py_grammar.specs.Reading.{LineReader, token, leaf, as_, pair, comma_rest, star_at, named_at, element_at, sx_item_at, sx_at, yield_at, target_item_at, targets_at, for_clause_at, clause_at, clauses_at, more_elements_at, parenthesized_at, list_display_at, item_or_named_at, unpacked_at, brace_entry_at, more_entries_at, brace_display_at, starred_argument_at, plain_argument_at, argument_at, arguments_at, more_arguments_at, call_arguments_at, slice_rest_at, slice_at, slices_item_at, slices_at}
use Rattle.py_grammar.proofs.FollowSets.{bit_or_more, or_more, test_more, named_more, sx_more, value_more, targets_more, clauses_more, elements_more, behind_element_more, item_more, items_more, argument_more, arguments_more, call_more, slice_rest_more, slice_more, slices_more, entry_more}
use Rattle.py_grammar.proofs.Building.{Reads, as_sets, a_leaf, in_a_row, behind_token, one_of, perhaps, any_number, one_or_more, by_two, over_it, under, a_node, a_node_behind, with_commas, behind_comma, a_tuple, between_parentheses, between_brackets, between_braces, a_node_from, maybe_one, a_target, a_pair}

module _ (P : Entry → LineReader) (L : Entry → Form) (known : (x : Entry) → Reads false (entry_first x) (entry_more x) (P x) (L x)) (alone : ReadsAlone code name test_more (P e.Test)) where
  -- ---- stars, walruses, tuples

  pub reads_star : Reads false star bit_or_more (star_at P) (Star L)
  unfolding star_at Star
  reads_star = as_sets star bit_or_more (a_node_behind kinds.Starred star refl refl (known e.BitOr)) refl refl

  pub reads_named : Reads false test_first named_more (named_at P) (Named L)
  unfolding named_at Named
  reads_named = as_sets test_first named_more
      (by_two name walrus (a_pair kinds.NamedExpression walrus refl refl refl (known e.Test)) (looks_two code name walrus (whole (called kinds.NamedExpression first_text)) (L e.Test)) (known e.Test) alone refl) refl refl

  pub alone_named : ReadsAlone code name named_more (named_at P)
  unfolding named_at
  alone_named = alone_choose_two code name walrus name test_more (pair kinds.NamedExpression walrus (P e.Test)) (P e.Test) alone

  pub reads_element : Reads false element_first named_more (element_at P) (Element L)
  unfolding element_at Element
  reads_element = as_sets element_first named_more (one_of reads_star reads_named refl) refl refl

  pub reads_sx_item : Reads false element_first test_more (sx_item_at P) (SxItem L)
  unfolding sx_item_at SxItem
  reads_sx_item = as_sets element_first test_more (one_of reads_star (known e.Test) refl) refl refl

  pub reads_sx : Reads false element_first sx_more (sx_at P) (Sx L)
  unfolding sx_at Sx
  reads_sx = a_tuple kinds.Tuple sx_more sx_more reads_sx_item reads_sx_item refl refl refl refl refl

  pub reads_behind_yield : Reads true element_first sx_more (optional code element_first (sx_at P)) (Maybe (Sx L))
  reads_behind_yield = as_sets element_first sx_more (perhaps reads_sx) refl refl

  -- ---- yield

  plain_yield : Reads false yield_word sx_more (as_ kinds.Yield (both (token yield_word) (optional code element_first (sx_at P)))) (As kinds.Yield (Then (Token yield_word) (Maybe (Sx L))))
  plain_yield = as_sets yield_word sx_more (a_node_behind kinds.Yield yield_word refl refl reads_behind_yield) refl refl

  -- the word alone is a phrase
  alone_yield : ReadsAlone code yield_word sx_more (as_ kinds.Yield (both (token yield_word) (optional code element_first (sx_at P))))
  alone_yield = alone_by code opens closes plain_yield yield_word (λ t h. (
    whole (spanning kinds.Yield) (t ∷ []) [],
    record { parts = []; spelled = then_of (Token yield_word) (Maybe (Sx L)) (t ∷ []) [] [] [] [] (record { token = t; is_in = h; tokens = refl; trees = refl }) (inr (refl, refl)) refl; trees = refl },
  ))

  pub reads_yield : Reads false yield_word value_more (yield_at P) (Yield L)
  unfolding yield_at Yield
  reads_yield = as_sets yield_word value_more
      (by_two yield_word from_word (as_sets yield_word test_more (a_node_behind kinds.YieldFrom yield_word refl refl (behind_token from_word refl refl (known e.Test))) refl refl)
      (looks_two code yield_word from_word (whole (spanning kinds.YieldFrom)) (L e.Test)) plain_yield alone_yield refl) refl refl

  -- ---- targets and clauses of comprehensions

  pub reads_target_item : Reads false target_first bit_or_more (target_item_at P) (TargetItem L)
  unfolding target_item_at TargetItem
  reads_target_item = as_sets target_first bit_or_more (one_of reads_star (known e.BitOr) refl) refl refl

  pub reads_targets : Reads false target_first targets_more (targets_at P) (Targets L)
  unfolding targets_at Targets
  reads_targets = a_target (a_tuple kinds.Tuple targets_more targets_more reads_target_item reads_target_item refl refl refl refl refl)

  reads_conditions : Reads true if_word test_more (many code if_word (both (token if_word) (P e.Or))) (Many (Then (Token if_word) (L e.Or)))
  reads_conditions = as_sets if_word test_more (any_number (as_sets if_word or_more (behind_token if_word refl refl (known e.Or)) refl refl) refl) refl refl

  pub reads_for_clause : Reads false for_word test_more (for_clause_at P) (ForClause L)
  unfolding for_clause_at ForClause
  reads_for_clause = as_sets for_word test_more
      (behind_token for_word refl refl (in_a_row reads_targets (behind_token in_word refl refl (in_a_row (known e.Or) reads_conditions refl)) refl)) refl refl

  pub reads_clause : Reads false clause_first test_more (clause_at P) (Clause L)
  unfolding clause_at Clause
  reads_clause = as_sets clause_first test_more
      (one_of (as_sets async_word test_more (a_node_behind kinds.AsyncComprehensionFor async_word refl refl reads_for_clause) refl refl) (a_node kinds.ComprehensionFor reads_for_clause) refl) refl refl

  pub reads_clauses : Reads false clause_first clauses_more (clauses_at P) (Clauses L)
  unfolding clauses_at Clauses
  reads_clauses = as_sets clause_first clauses_more (one_or_more reads_clause refl) refl refl

  -- ---- round and square brackets

  reads_comma_rest : Reads false comma elements_more (comma_rest element_first (element_at P)) (CommaRest (Element L))
  reads_comma_rest = behind_comma elements_more reads_element refl refl

  reads_more_elements : Reads false clause_or_comma behind_element_more (more_elements_at P) (Either (Clauses L) (CommaRest (Element L)))
  unfolding more_elements_at
  reads_more_elements = as_sets clause_or_comma behind_element_more (one_of reads_clauses reads_comma_rest refl) refl refl

  reads_named_first : Reads false test_first behind_element_more (both (named_at P) (optional code clause_or_comma (more_elements_at P))) (Then (Named L) (Maybe (Either (Clauses L) (CommaRest (Element L)))))
  reads_named_first = as_sets test_first behind_element_more (in_a_row reads_named (as_sets clause_or_comma behind_element_more (perhaps reads_more_elements) refl refl) refl) refl refl

  pub reads_parenthesized : Reads false left_paren [] (parenthesized_at P) (Parenthesized L)
  unfolding parenthesized_at Parenthesized
  reads_parenthesized =
      over_it in_parentheses (between_parentheses (perhaps (as_sets value_first (from_word ++ behind_element_more)
      (one_of reads_yield (one_of (as_sets star elements_more (in_a_row reads_star reads_comma_rest refl) refl refl) reads_named_first refl) refl) refl refl)) refl)

  pub reads_list_display : Reads false left_bracket [] (list_display_at P) (ListDisplay L)
  unfolding list_display_at ListDisplay
  reads_list_display =
      over_it in_brackets (between_brackets (perhaps (as_sets element_first behind_element_more
      (one_of (as_sets star elements_more (in_a_row reads_star (perhaps reads_comma_rest) refl) refl refl) reads_named_first refl) refl refl)) refl)

  -- ---- braces

  item_alone : Reads false test_first (colon ++ test_more) (followed (P e.Test) (maybe_more code colon (extended (whole (spanning kinds.DictItem)) (both (token colon) (P e.Test)))))
      (Either (L e.Test) (As kinds.DictItem (Then (L e.Test) (Then (Token colon) (L e.Test)))))
  item_alone = as_sets test_first (colon ++ test_more) (maybe_one (known e.Test) (a_node_from kinds.DictItem (as_sets colon test_more (behind_token colon refl refl (known e.Test)) refl refl)) refl) refl refl

  pub reads_item_or_named : Reads false test_first item_more (item_or_named_at P) (ItemOrNamed L)
  unfolding item_or_named_at ItemOrNamed
  reads_item_or_named = as_sets test_first item_more
      (by_two name walrus (a_pair kinds.NamedExpression walrus refl refl refl (known e.Test)) (looks_two code name walrus (whole (called kinds.NamedExpression first_text)) (L e.Test)) item_alone
      (alone_once code name test_more colon (P e.Test) (extended (whole (spanning kinds.DictItem)) (both (token colon) (P e.Test))) alone) refl) refl refl

  pub reads_unpacked : Reads false unpacked_first bit_or_more (unpacked_at P) (Unpacked L)
  unfolding unpacked_at Unpacked
  reads_unpacked = as_sets unpacked_first bit_or_more (one_of (as_sets double_star bit_or_more (a_node_behind kinds.DictUnpack double_star refl refl (known e.BitOr)) refl refl) reads_star refl) refl refl

  pub reads_brace_entry : Reads false brace_first item_more (brace_entry_at P) (BraceEntry L)
  unfolding brace_entry_at BraceEntry
  reads_brace_entry = as_sets brace_first item_more (one_of reads_unpacked reads_item_or_named refl) refl refl

  reads_more_entries : Reads false clause_or_comma items_more (more_entries_at P) (Either (Clauses L) (CommaRest (BraceEntry L)))
  unfolding more_entries_at
  reads_more_entries = as_sets clause_or_comma items_more (one_of reads_clauses (behind_comma items_more reads_brace_entry refl refl) refl) refl refl

  reads_inside_braces : Reads false brace_first items_more
      (choose code unpacked_first (both (unpacked_at P) (optional code comma (comma_rest brace_first (brace_entry_at P)))) (both (item_or_named_at P) (optional code clause_or_comma (more_entries_at P))))
      (Either (Then (Unpacked L) (Maybe (CommaRest (BraceEntry L)))) (Then (ItemOrNamed L) (Maybe (Either (Clauses L) (CommaRest (BraceEntry L))))))
  reads_inside_braces = as_sets brace_first items_more
      (one_of (as_sets unpacked_first items_more (in_a_row reads_unpacked (perhaps (behind_comma items_more reads_brace_entry refl refl)) refl) refl refl)
      (as_sets test_first items_more (in_a_row reads_item_or_named (as_sets clause_or_comma items_more (perhaps reads_more_entries) refl refl) refl) refl refl) refl) refl refl

  pub reads_brace_display : Reads false left_brace [] (brace_display_at P) (BraceDisplay L)
  unfolding brace_display_at BraceDisplay
  reads_brace_display = over_it in_braces (under are_alike (between_braces (as_sets brace_first items_more (perhaps reads_inside_braces) refl refl) refl))

  -- ---- arguments

  pub reads_starred_argument : Reads false starred_first test_more (starred_argument_at P) (StarredArgument L)
  unfolding starred_argument_at StarredArgument
  reads_starred_argument = as_sets starred_first test_more
      (one_of (as_sets star test_more (a_node_behind kinds.StarArgument star refl refl (known e.Test)) refl refl) (a_node_behind kinds.DoubleStarArgument double_star refl refl (known e.Test)) refl) refl refl

  pub reads_plain_argument : Reads false test_first argument_more (plain_argument_at P) (PlainArgument L)
  unfolding plain_argument_at PlainArgument
  reads_plain_argument = as_sets test_first argument_more
      (by_two name assign (a_pair kinds.KeywordArgument assign refl refl refl (known e.Test)) (looks_two code name assign (whole (called kinds.KeywordArgument first_text)) (L e.Test)) reads_named alone_named refl) refl refl

  pub reads_argument : Reads false argument_first argument_more (argument_at P) (Argument L)
  unfolding argument_at Argument
  reads_argument = as_sets argument_first argument_more (one_of reads_starred_argument reads_plain_argument refl) refl refl

  pub reads_arguments : Reads false argument_first arguments_more (arguments_at P) (Arguments L)
  unfolding arguments_at Arguments
  reads_arguments = under in_order (with_commas arguments_more reads_argument refl refl refl)

  reads_more_arguments : Reads false clause_or_comma call_more (more_arguments_at P) (Either (Clauses L) (CommaRest (Argument L)))
  unfolding more_arguments_at
  reads_more_arguments = as_sets clause_or_comma call_more (one_of reads_clauses (behind_comma arguments_more reads_argument refl refl) refl) refl refl

  reads_inside_call : Reads false argument_first call_more
      (choose code starred_first (both (starred_argument_at P) (optional code comma (comma_rest argument_first (argument_at P)))) (both (plain_argument_at P) (optional code clause_or_comma (more_arguments_at P))))
      (Either (Then (StarredArgument L) (Maybe (CommaRest (Argument L)))) (Then (PlainArgument L) (Maybe (Either (Clauses L) (CommaRest (Argument L))))))
  reads_inside_call = as_sets argument_first call_more
      (one_of (as_sets starred_first call_more (in_a_row reads_starred_argument (perhaps (behind_comma arguments_more reads_argument refl refl)) refl) refl refl)
      (as_sets test_first call_more (in_a_row reads_plain_argument (as_sets clause_or_comma call_more (perhaps reads_more_arguments) refl refl) refl) refl refl) refl) refl refl

  pub reads_call_arguments : Reads false left_paren [] (call_arguments_at P) (CallArguments L)
  unfolding call_arguments_at CallArguments
  reads_call_arguments = over_it call_arguments (under are_arguments (between_parentheses (as_sets argument_first call_more (perhaps reads_inside_call) refl refl) refl))

  -- ---- subscriptions

  reads_maybe_test : Reads true test_first (test_first ++ test_more) (optional code test_first (P e.Test)) (Maybe (L e.Test))
  reads_maybe_test = as_sets test_first (test_first ++ test_more) (perhaps (known e.Test)) refl refl

  reads_step : Reads false colon (test_first ++ test_more) (both (leaf (plain_leaf kinds.SliceColon) colon) (optional code test_first (P e.Test))) (Then (Leaf (plain_leaf kinds.SliceColon) colon) (Maybe (L e.Test)))
  reads_step = as_sets colon (test_first ++ test_more) (in_a_row (a_leaf (plain_leaf kinds.SliceColon) colon refl refl) reads_maybe_test refl) refl refl

  pub reads_slice_rest : Reads false colon slice_rest_more (slice_rest_at P) (SliceRest L)
  unfolding slice_rest_at SliceRest
  reads_slice_rest = as_sets colon slice_rest_more (in_a_row (a_leaf (plain_leaf kinds.SliceColon) colon refl refl) (in_a_row reads_maybe_test (perhaps reads_step) refl) refl) refl refl

  slice_alone : Reads false test_first slice_rest_more (followed (P e.Test) (maybe_more code colon (extended (whole (spanning kinds.Slice)) (slice_rest_at P)))) (Either (L e.Test) (As kinds.Slice (Then (L e.Test) (SliceRest L))))
  slice_alone = as_sets test_first slice_rest_more (maybe_one (known e.Test) (a_node_from kinds.Slice reads_slice_rest) refl) refl refl

  alone_slice : ReadsAlone code name slice_rest_more (followed (P e.Test) (maybe_more code colon (extended (whole (spanning kinds.Slice)) (slice_rest_at P))))
  alone_slice = alone_wider code name (colon ++ test_more) slice_rest_more (followed (P e.Test) (maybe_more code colon (extended (whole (spanning kinds.Slice)) (slice_rest_at P)))) refl
      (alone_once code name test_more colon (P e.Test) (extended (whole (spanning kinds.Slice)) (slice_rest_at P)) alone)

  pub reads_slice : Reads false slice_first slice_more (slice_at P) (Slice L)
  unfolding slice_at Slice
  reads_slice = as_sets slice_first slice_more
      (one_of (a_node kinds.Slice reads_slice_rest)
      (by_two name walrus (a_pair kinds.NamedExpression walrus refl refl refl (known e.Test)) (looks_two code name walrus (whole (called kinds.NamedExpression first_text)) (L e.Test)) slice_alone alone_slice refl) refl) refl refl

  reads_slices_item : Reads false slices_first slice_more (slices_item_at P) (Either (StarredSlice L) (Slice L))
  unfolding slices_item_at StarredSlice
  reads_slices_item = as_sets slices_first slice_more (one_of (as_sets star test_more (a_node_behind kinds.Starred star refl refl (known e.Test)) refl refl) reads_slice refl) refl refl

  pub reads_slices : Reads false slices_first slices_more (slices_at P) (Slices L)
  unfolding slices_at Slices
  reads_slices = a_tuple kinds.Slices slices_more slices_more reads_slices_item reads_slices_item refl refl refl refl refl
