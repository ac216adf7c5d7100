-- Each reader of a simple statement agrees with its form.
use Rattle.std.proofs.Common.{false, [], ◌++◌, refl}
use Rattle.tree_nodes.specs.declared.kind.Kind.TheVariants as kinds
use Rattle.py_language.specs.Languages.{Then, Maybe, Made, Where, Some as OneOrMore, whole}
use Rattle.py_language.specs.Readers.{both, some, optional, extended_where}
use Rattle.py_language.proofs.Finishing.{continues_where, agree_finished_three}
use Rattle.py_language.proofs.Looking.{ReadsAlone}
use Rattle.py_language.proofs.Separation.{agree_separated}
use Rattle.py_grammar.specs.declared.entry.Entry.{Entry}
use Rattle.py_grammar.specs.declared.entry.Entry.TheVariants as e
use Rattle.py_grammar.specs.Terminals.{Form, code}
use Rattle.py_grammar.specs.Words.{opens, closes, name, as_word, assert_word, del_word, from_word, global_word, import_word, nonlocal_word, raise_word, return_word, lone_word, left_paren, comma, colon, dot, dots, semicolon, assign, star, augmented_operator}
use Rattle.py_grammar.specs.Firsts.{test_first, value_first, keyword_statement_first, statement_first, entry_first}
use Rattle.py_grammar.specs.Nodes.{spanning, first_text, dotted_name, module_text, named_leaf, plain_leaf, operator_leaf, Token, Leaf, As}
use Rattle.py_grammar.specs.Statements.{targets_before_last, is_single_first, are_deletable, assigned, augmented, annotated, deleted, lone_leaf, Value, Assign, AugAssign, AnnAssign, Return, Raise, Declaration, Delete, Assert, AsName, ModuleName, Import, ImportedName, ImportedNames, Source, ImportFrom, KeywordStatement, ValueStatement, Statement, Statements}
use Rattle.py_grammar.specs.Reading.{LineReader, token, leaf, as_}
use Rattle.py_grammar.specs.ReadingStatements.{value_at, assigned_value_at, return_at, raise_at, declaration_at, delete_at, assert_at, as_name_at, module_name_at, import_at, imported_name_at, imported_names_at, source_at, import_from_at, keyword_statement_at, value_statement_at, statement_at, statements_at}
use Rattle.py_grammar.proofs.FollowSets.{test_more, sx_more, value_more, alias_more, aliases_more, source_more, annotated_more, value_statement_more, statement_more, statements_more, entry_more}
use Rattle.py_grammar.proofs.Building.{Reads, GoesOn, as_sets, a_token, a_leaf, in_a_row, behind_token, one_of, perhaps, any_number, one_or_more, over_it, under, a_node, a_named_node, a_node_behind, with_commas, joined_by_commas, between_parentheses}
use Rattle.py_grammar.proofs.Expressions.{reads_sx, reads_behind_yield, reads_yield}

module _ (P : Entry → LineReader) (L : Entry → Form) (known : (x : Entry) → Reads false (entry_first x) (entry_more x) (P x) (L x)) (alone : ReadsAlone code name test_more (P e.Test)) where
  -- ---- values

  pub reads_value : Reads false value_first value_more (value_at P) (Value L)
  unfolding value_at Value
  reads_value = as_sets value_first value_more (one_of (reads_yield P L known alone) (reads_sx P L known alone) refl) refl refl

  reads_assigned_value : Reads false assign value_more (assigned_value_at P) (Then (Token assign) (Value L))
  unfolding assigned_value_at
  reads_assigned_value = as_sets assign value_more (behind_token assign refl refl reads_value) refl refl

  -- ---- statements that begin with a keyword

  pub reads_return : Reads false return_word sx_more (return_at P) (Return L)
  unfolding return_at Return
  reads_return = as_sets return_word sx_more (a_node_behind kinds.Return return_word refl refl (reads_behind_yield P L known alone)) refl refl

  pub reads_raise : Reads false raise_word value_more (raise_at P) (Raise L)
  unfolding raise_at Raise
  reads_raise = as_sets raise_word value_more
      (a_node_behind kinds.Raise raise_word refl refl (perhaps (as_sets test_first value_more (in_a_row (known e.Test)
      (perhaps (as_sets from_word test_more (behind_token from_word refl refl (known e.Test)) refl refl)) refl) refl refl))) refl refl

  pub reads_declaration : Reads false (global_word ++ nonlocal_word) comma (declaration_at P) (Declaration L)
  unfolding declaration_at Declaration
  reads_declaration = as_sets (global_word ++ nonlocal_word) comma
      (one_of (as_sets global_word comma (a_node_behind kinds.Global global_word refl refl (joined_by_commas comma (a_leaf (named_leaf kinds.DeclaredName) name refl refl) refl refl refl refl)) refl refl)
      (a_node_behind kinds.Nonlocal nonlocal_word refl refl (joined_by_commas comma (a_leaf (named_leaf kinds.DeclaredName) name refl refl) refl refl refl refl)) refl) refl refl

  pub reads_delete : Reads false del_word sx_more (delete_at P) (Delete L)
  unfolding delete_at Delete
  reads_delete = as_sets del_word sx_more (over_it deleted (under are_deletable (behind_token del_word refl refl (with_commas sx_more (known e.BitOr) refl refl refl)))) refl refl

  pub reads_assert : Reads false assert_word sx_more (assert_at P) (Assert L)
  unfolding assert_at Assert
  reads_assert = as_sets assert_word sx_more
      (a_node_behind kinds.Assert assert_word refl refl (in_a_row (known e.Test) (perhaps (as_sets comma test_more (behind_token comma refl refl (known e.Test)) refl refl)) refl)) refl refl

  -- ---- imports

  pub reads_as_name : Reads false as_word [] (as_name_at P) (AsName L)
  unfolding as_name_at AsName
  reads_as_name = as_sets as_word [] (behind_token as_word refl refl (a_leaf (named_leaf kinds.AsName) name refl refl)) refl refl

  pub reads_module_name : Reads false name dot (module_name_at P) (ModuleName L)
  unfolding module_name_at ModuleName
  reads_module_name = as_sets name dot (behind_token name refl refl (any_number (as_sets dot [] (behind_token dot refl refl (a_token name refl refl)) refl refl) refl)) refl refl

  pub reads_import : Reads false import_word aliases_more (import_at P) (Import L)
  unfolding import_at Import
  reads_import = as_sets import_word aliases_more
      (a_node_behind kinds.Import import_word refl refl
      (joined_by_commas aliases_more (as_sets name alias_more (a_named_node kinds.Alias dotted_name (in_a_row reads_module_name (perhaps reads_as_name) refl)) refl refl) refl refl refl refl)) refl refl

  pub reads_imported_name : Reads false name as_word (imported_name_at P) (ImportedName L)
  unfolding imported_name_at ImportedName
  reads_imported_name = as_sets name as_word (a_named_node kinds.Alias first_text (behind_token name refl refl (perhaps reads_as_name))) refl refl

  pub reads_imported_names : Reads false (star ++ name ++ left_paren) aliases_more (imported_names_at P) (ImportedNames L)
  unfolding imported_names_at ImportedNames
  reads_imported_names = as_sets (star ++ name ++ left_paren) aliases_more
      (one_of (a_leaf (plain_leaf kinds.ImportWildcard) star refl refl)
      (one_of (joined_by_commas aliases_more reads_imported_name refl refl refl refl) (between_parentheses (with_commas (name ++ aliases_more) reads_imported_name refl refl refl) refl) refl) refl) refl refl

  pub reads_source : Reads false source_more source_more (source_at P) (Source L)
  unfolding source_at Source
  reads_source = as_sets source_more source_more
      (one_of reads_module_name (in_a_row (one_or_more (a_token dots refl refl) refl) (perhaps reads_module_name) refl) refl) refl refl

  pub reads_import_from : Reads false from_word aliases_more (import_from_at P) (ImportFrom L)
  unfolding import_from_at ImportFrom
  reads_import_from = as_sets from_word aliases_more
      (a_named_node kinds.ImportFrom module_text (behind_token from_word refl refl (in_a_row reads_source (behind_token import_word refl refl reads_imported_names) refl))) refl refl

  -- ---- statements

  pub reads_keyword_statement : Reads false keyword_statement_first statement_more (keyword_statement_at P) (KeywordStatement L)
  unfolding keyword_statement_at KeywordStatement
  reads_keyword_statement = as_sets keyword_statement_first statement_more
      (one_of (a_leaf lone_leaf lone_word refl refl)
      (one_of reads_return (one_of reads_raise (one_of reads_declaration (one_of reads_delete (one_of reads_assert (one_of reads_import reads_import_from refl) refl) refl) refl) refl) refl) refl) refl refl

  goes_on_assign : GoesOn assign annotated_more (extended_where targets_before_last assigned (some code assign (assigned_value_at P))) (λ a. Made assigned (Where targets_before_last (Then a (OneOrMore (Then (Token assign) (Value L))))))
  goes_on_assign = continues_where code opens closes targets_before_last assigned (as_sets assign annotated_more (one_or_more reads_assigned_value refl) refl refl)

  goes_on_augmented : GoesOn augmented_operator value_more (extended_where is_single_first augmented (both (leaf operator_leaf augmented_operator) (value_at P)))
      (λ a. Made augmented (Where is_single_first (Then a (Then (Leaf operator_leaf augmented_operator) (Value L)))))
  goes_on_augmented = continues_where code opens closes is_single_first augmented (as_sets augmented_operator value_more (in_a_row (a_leaf operator_leaf augmented_operator refl refl) reads_value refl) refl refl)

  goes_on_annotated : GoesOn colon annotated_more (extended_where is_single_first annotated (both (token colon) (both (as_ kinds.Annotation (P e.Test)) (optional code assign (assigned_value_at P)))))
      (λ a. Made annotated (Where is_single_first (Then a (Then (Token colon) (Then (As kinds.Annotation (L e.Test)) (Maybe (Then (Token assign) (Value L))))))))
  goes_on_annotated = continues_where code opens closes is_single_first annotated
      (as_sets colon annotated_more (behind_token colon refl refl (in_a_row (a_node kinds.Annotation (known e.Test)) (perhaps reads_assigned_value) refl)) refl refl)

  pub reads_value_statement : Reads false value_first value_statement_more (value_statement_at P) (ValueStatement L)
  unfolding value_statement_at ValueStatement Assign AugAssign AnnAssign
  reads_value_statement = as_sets value_first value_statement_more
      (one_of (a_node kinds.ExpressionStatement (reads_yield P L known alone))
      (agree_finished_three code opens closes (whole (spanning kinds.ExpressionStatement)) (reads_sx P L known alone) goes_on_assign goes_on_augmented goes_on_annotated refl refl refl) refl) refl refl

  pub reads_statement : Reads false statement_first statement_more (statement_at P) (Statement L)
  unfolding statement_at Statement
  reads_statement = as_sets statement_first statement_more (one_of reads_keyword_statement reads_value_statement refl) refl refl

  pub reads_statements : Reads false statement_first statements_more (statements_at P) (Statements L)
  unfolding statements_at Statements
  reads_statements = as_sets statement_first statements_more (agree_separated code opens closes semicolon reads_statement refl refl refl) refl refl
