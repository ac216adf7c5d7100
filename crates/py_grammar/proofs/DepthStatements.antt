-- How deep simple statements lead back: no deeper than their expressions do.
use Rattle.std.proofs.Common.{ℕ, refl}
use Rattle.tree_nodes.specs.declared.kind.Kind.TheVariants as kinds
use Rattle.py_grammar.specs.declared.entry.Entry.{Entry}
use Rattle.py_grammar.specs.declared.entry.Entry.TheVariants as e
use Rattle.py_language.proofs.Carrying.{carried_separated}
use Rattle.py_grammar.specs.Terminals.{Form, code}
use Rattle.py_grammar.specs.Words.{name, opens, closes, as_word, assert_word, del_word, from_word, global_word, import_word, nonlocal_word, raise_word, return_word, lone_word, comma, colon, dot, dots, semicolon, assign, star, augmented_operator}
use Rattle.py_grammar.specs.Nodes.{first_text, dotted_name, module_text, named_leaf, plain_leaf, operator_leaf}
use Rattle.py_grammar.specs.Weights.{weight}
use Rattle.py_grammar.specs.Statements.{targets_before_last, is_single_first, are_deletable, assigned, augmented, annotated, deleted, lone_leaf, Value, Assign, AugAssign, AnnAssign, Return, Raise, Declaration, Delete, Assert, AsName, ModuleName, Import, ImportedName, ImportedNames, Source, ImportFrom, KeywordStatement, ValueStatement, Statement, Statements}
use Rattle.py_grammar.proofs.DepthBuilding.{Carries, Leads, one_less, carry_token, carry_leaf, carry_then, carry_behind, carry_either, carry_maybe, carry_many, carry_some, carry_where, carry_over, carry_node, carry_named_node, carry_joined, carry_commas, carry_parentheses}
use Rattle.py_grammar.proofs.Weighing.{assigned_keeps, augmented_keeps, annotated_keeps, deleted_keeps}
use Rattle.py_grammar.proofs.DepthExpressions.{carries_sx, carries_yield}

module _ (L M : Entry → Form) (k : ℕ) (known : Leads k L M) where
  -- ---- values and what is assigned

  carries_value : Carries k (Value L) (Value M)
  unfolding Value
  carries_value = carry_either (carries_yield L M k known) (carries_sx L M k known)

  carries_assign : Carries k (Assign L) (Assign M)
  unfolding Assign
  carries_assign = carry_over assigned assigned_keeps (carry_where targets_before_last (carry_then (carries_sx L M k known) (carry_some (carry_behind assign refl refl carries_value))))

  carries_augmented : Carries k (AugAssign L) (AugAssign M)
  unfolding AugAssign
  carries_augmented =
      carry_over augmented augmented_keeps (carry_where is_single_first (carry_then (carries_sx L M k known) (carry_then (carry_leaf operator_leaf augmented_operator refl refl) carries_value)))

  carries_annotated : Carries k (AnnAssign L) (AnnAssign M)
  unfolding AnnAssign
  carries_annotated =
      carry_over annotated annotated_keeps (carry_where is_single_first (carry_then (carries_sx L M k known)
      (carry_behind colon refl refl (carry_then (carry_node kinds.Annotation (known e.Test)) (carry_maybe (carry_behind assign refl refl carries_value))))))

  -- ---- statements that begin with a keyword

  carries_return : Carries k (Return L) (Return M)
  unfolding Return
  carries_return = carry_node kinds.Return (carry_behind return_word refl refl (carry_maybe (carries_sx L M k known)))

  carries_raise : Carries k (Raise L) (Raise M)
  unfolding Raise
  carries_raise = carry_node kinds.Raise (carry_behind raise_word refl refl (carry_maybe (carry_then (known e.Test) (carry_maybe (carry_behind from_word refl refl (known e.Test))))))

  carries_declaration : Carries k (Declaration L) (Declaration M)
  unfolding Declaration
  carries_declaration =
      let names = carry_joined (carry_leaf (named_leaf kinds.DeclaredName) name refl refl) in
      carry_either (carry_node kinds.Global (carry_behind global_word refl refl names)) (carry_node kinds.Nonlocal (carry_behind nonlocal_word refl refl names))

  carries_delete : Carries k (Delete L) (Delete M)
  unfolding Delete
  carries_delete = carry_over deleted deleted_keeps (carry_where are_deletable (carry_behind del_word refl refl (carry_commas (known e.BitOr))))

  carries_assert : Carries k (Assert L) (Assert M)
  unfolding Assert
  carries_assert = carry_node kinds.Assert (carry_behind assert_word refl refl (carry_then (known e.Test) (carry_maybe (carry_behind comma refl refl (known e.Test)))))

  -- ---- imports

  pub carries_as_name : {j : ℕ} → Carries j (AsName L) (AsName M)
  unfolding AsName
  carries_as_name = carry_behind as_word refl refl (carry_leaf (named_leaf kinds.AsName) name refl refl)

  carries_module_name : Carries k (ModuleName L) (ModuleName M)
  unfolding ModuleName
  carries_module_name = carry_behind name refl refl (carry_many (carry_behind dot refl refl (carry_token name refl refl)))

  carries_import : Carries k (Import L) (Import M)
  unfolding Import
  carries_import = carry_node kinds.Import (carry_behind import_word refl refl (carry_joined (carry_named_node kinds.Alias dotted_name (carry_then carries_module_name (carry_maybe carries_as_name)))))

  carries_imported_name : {j : ℕ} → Carries j (ImportedName L) (ImportedName M)
  unfolding ImportedName
  carries_imported_name = carry_named_node kinds.Alias first_text (carry_behind name refl refl (carry_maybe carries_as_name))

  carries_imported_names : Carries k (ImportedNames L) (ImportedNames M)
  unfolding ImportedNames
  carries_imported_names = carry_either (carry_leaf (plain_leaf kinds.ImportWildcard) star refl refl) (carry_either (carry_joined carries_imported_name) (one_less (carry_parentheses (carry_commas carries_imported_name))))

  carries_source : Carries k (Source L) (Source M)
  unfolding Source
  carries_source = carry_either carries_module_name (carry_then (carry_some (carry_token dots refl refl)) (carry_maybe carries_module_name))

  carries_import_from : Carries k (ImportFrom L) (ImportFrom M)
  unfolding ImportFrom
  carries_import_from = carry_named_node kinds.ImportFrom module_text (carry_behind from_word refl refl (carry_then carries_source (carry_behind import_word refl refl carries_imported_names)))

  -- ---- statements

  carries_keyword_statement : Carries k (KeywordStatement L) (KeywordStatement M)
  unfolding KeywordStatement
  carries_keyword_statement =
      carry_either (carry_leaf lone_leaf lone_word refl refl)
      (carry_either carries_return (carry_either carries_raise (carry_either carries_declaration (carry_either carries_delete (carry_either carries_assert (carry_either carries_import carries_import_from))))))

  carries_value_statement : Carries k (ValueStatement L) (ValueStatement M)
  unfolding ValueStatement
  carries_value_statement =
      carry_either (carry_node kinds.ExpressionStatement (carries_yield L M k known))
      (carry_either (carry_node kinds.ExpressionStatement (carries_sx L M k known)) (carry_either carries_assign (carry_either carries_augmented carries_annotated)))

  carries_statement : Carries k (Statement L) (Statement M)
  unfolding Statement
  carries_statement = carry_either carries_keyword_statement carries_value_statement

  pub carries_statements : Carries k (Statements L) (Statements M)
  unfolding Statements
  carries_statements = carried_separated code opens closes weight semicolon refl refl carries_statement
