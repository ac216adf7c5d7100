-- What is left behind one of what stands again and again is shorter, and behind a part no longer.
use Rattle.std.proofs.Common.{ℕ, List, ◌++◌}
use Rattle.tree_nodes.specs.declared.kind.Kind.TheVariants as kinds
use Rattle.py_language.specs.Languages.{whole}
use Rattle.py_language.specs.Readers.{both}
use Rattle.py_grammar.specs.declared.entry.Entry.{Entry}
use Rattle.py_grammar.specs.declared.entry.Entry.TheVariants as e
use Rattle.py_grammar.specs.Words as w
use Rattle.py_grammar.specs.Firsts as f
use Rattle.py_grammar.specs.Nodes.{spanning, called, first_text, dotted_name, module_text, named_leaf, plain_leaf, operator_leaf}
use Rattle.py_grammar.specs.Statements.{targets_before_last, is_single_first, are_deletable, assigned, augmented, annotated, deleted, lone_leaf}
use Rattle.py_grammar.specs.Reading.{LineReader, token, joined_}
use Rattle.py_grammar.specs.ReadingStatements.{value_at, assigned_value_at, return_at, raise_at, declaration_at, delete_at, assert_at, as_name_at, module_name_at, import_at, imported_name_at, imported_names_at, source_at, import_from_at, keyword_statement_at, value_statement_at, statement_at}
use Rattle.py_grammar.specs.ReadingLines.{phrase_at}
use Rattle.parse_steps.proofs.Shrinking.{Keeps, Shrinks, keeps, shrinks_skipped, shrinks_shown, keeps_both, shrinks_both, keeps_choose, keeps_optional, keeps_made, keeps_where, keeps_many, keeps_some, keeps_separated, shrinks_bracketed, keeps_followed, keeps_extended_where, keeps_finished, keeps_pick}
use Rattle.parse_steps.proofs.Keeping.{AllKeep, keeps_phrase, keeps_sx, keeps_yield}
use Rattle.parse_statement.specs.declared.round.Round.{Round}
use Rattle.parse_statement.specs.declared.round.Round.TheVariants as rounds
use Rattle.parse_statement.specs.declared.part.Part.{Part}
use Rattle.parse_statement.specs.declared.part.Part.TheVariants as parts
use Rattle.parse_statement.specs.Rounds.{alias_at, round_at}
use Rattle.parse_statement.specs.Parts.{part_at}

keeps_token : (set : List ℕ) → Keeps (token set)
keeps_token set = keeps (shrinks_skipped set)

keeps_behind : {p : LineReader} (set : List ℕ) → Keeps p → Keeps (both (token set) p)
keeps_behind set A = keeps_both (keeps_token set) A

keeps_joined : {p : LineReader} → Keeps p → Keeps (joined_ p)
keeps_joined A = keeps_both A (keeps_many w.comma (keeps_behind w.comma A))

module _ (self : Entry → LineReader) (k : AllKeep self) where
  keeps_value : Keeps (value_at self)
  unfolding value_at
  keeps_value = keeps_choose w.yield_word (keeps_yield self k) (keeps_sx self k)

  shrinks_assigned_value : Shrinks (assigned_value_at self)
  unfolding assigned_value_at
  shrinks_assigned_value = shrinks_both (shrinks_skipped w.assign) keeps_value

  keeps_as_name : Keeps (as_name_at self)
  unfolding as_name_at
  keeps_as_name = keeps_behind w.as_word (keeps (shrinks_shown (named_leaf kinds.AsName) w.name))

  keeps_module_name : Keeps (module_name_at self)
  unfolding module_name_at
  keeps_module_name = keeps_behind w.name (keeps_many w.dot (keeps_behind w.dot (keeps_token w.name)))

  keeps_alias : Keeps (alias_at self)
  unfolding alias_at
  keeps_alias = keeps_made (whole (called kinds.Alias dotted_name)) (keeps_both keeps_module_name (keeps_optional w.as_word keeps_as_name))

  keeps_imported_name : Keeps (imported_name_at self)
  unfolding imported_name_at
  keeps_imported_name = keeps_made (whole (called kinds.Alias first_text)) (keeps_behind w.name (keeps_optional w.as_word keeps_as_name))

  keeps_return : Keeps (return_at self)
  unfolding return_at
  keeps_return = keeps_made (whole (spanning kinds.Return)) (keeps_behind w.return_word (keeps_optional f.element_first (keeps_sx self k)))

  keeps_raise : Keeps (raise_at self)
  unfolding raise_at
  keeps_raise = keeps_made (whole (spanning kinds.Raise)) (keeps_behind w.raise_word (keeps_optional f.test_first (keeps_both (k e.Test) (keeps_optional w.from_word (keeps_behind w.from_word (k e.Test))))))

  keeps_declaration : Keeps (declaration_at self)
  unfolding declaration_at
  keeps_declaration =
      keeps_choose w.global_word (keeps_made (whole (spanning kinds.Global)) (keeps_behind w.global_word (keeps_joined (keeps (shrinks_shown (named_leaf kinds.DeclaredName) w.name)))))
      (keeps_made (whole (spanning kinds.Nonlocal)) (keeps_behind w.nonlocal_word (keeps_joined (keeps (shrinks_shown (named_leaf kinds.DeclaredName) w.name)))))

  keeps_delete : Keeps (delete_at self)
  unfolding delete_at
  keeps_delete = keeps_made deleted (keeps_where are_deletable (keeps_behind w.del_word (keeps_separated w.comma f.factor_first (k e.BitOr))))

  keeps_assert : Keeps (assert_at self)
  unfolding assert_at
  keeps_assert = keeps_made (whole (spanning kinds.Assert)) (keeps_behind w.assert_word (keeps_both (k e.Test) (keeps_optional w.comma (keeps_behind w.comma (k e.Test)))))

  keeps_import : Keeps (import_at self)
  unfolding import_at alias_at
  keeps_import = keeps_made (whole (spanning kinds.Import)) (keeps_behind w.import_word (keeps_joined keeps_alias))

  keeps_imported_names : Keeps (imported_names_at self)
  unfolding imported_names_at
  keeps_imported_names =
      keeps_choose w.star (keeps (shrinks_shown (plain_leaf kinds.ImportWildcard) w.star))
      (keeps_choose w.name (keeps_joined keeps_imported_name) (keeps (shrinks_bracketed w.left_paren w.right_paren (keeps_separated w.comma w.name keeps_imported_name))))

  keeps_source : Keeps (source_at self)
  unfolding source_at
  keeps_source = keeps_choose w.name keeps_module_name (keeps_both (keeps_some w.dots (keeps_token w.dots)) (keeps_optional w.name keeps_module_name))

  keeps_import_from : Keeps (import_from_at self)
  unfolding import_from_at
  keeps_import_from = keeps_made (whole (called kinds.ImportFrom module_text)) (keeps_behind w.from_word (keeps_both keeps_source (keeps_behind w.import_word keeps_imported_names)))

  keeps_keyword_statement : Keeps (keyword_statement_at self)
  unfolding keyword_statement_at
  keeps_keyword_statement =
      keeps_choose w.lone_word (keeps (shrinks_shown lone_leaf w.lone_word))
      (keeps_choose w.return_word keeps_return
      (keeps_choose w.raise_word keeps_raise
      (keeps_choose (w.global_word ++ w.nonlocal_word) keeps_declaration
      (keeps_choose w.del_word keeps_delete (keeps_choose w.assert_word keeps_assert (keeps_choose w.import_word keeps_import keeps_import_from))))))

  keeps_value_statement : Keeps (value_statement_at self)
  unfolding value_statement_at
  keeps_value_statement =
      keeps_choose w.yield_word (keeps_made (whole (spanning kinds.ExpressionStatement)) (keeps_yield self k))
      (keeps_followed (keeps_sx self k)
      (keeps_pick w.assign (keeps_extended_where targets_before_last assigned (keeps_some w.assign (keeps shrinks_assigned_value)))
      (keeps_pick w.augmented_operator (keeps_extended_where is_single_first augmented (keeps_both (keeps (shrinks_shown operator_leaf w.augmented_operator)) keeps_value))
      (keeps_pick w.colon (keeps_extended_where is_single_first annotated (keeps_behind w.colon (keeps_both (keeps_made (whole (spanning kinds.Annotation)) (k e.Test)) (keeps_optional w.assign (keeps shrinks_assigned_value)))))
      (keeps_finished (whole (spanning kinds.ExpressionStatement)))))))

  keeps_statement : Keeps (statement_at self)
  unfolding statement_at
  keeps_statement = keeps_choose f.keyword_statement_first keeps_keyword_statement keeps_value_statement

pub shrinks_round : (n : ℕ) (r : Round) → Shrinks (round_at (phrase_at n) r)
shrinks_round n rounds.Name = shrinks_both (shrinks_skipped w.dot) (keeps_token w.name)
shrinks_round n rounds.Dots = shrinks_skipped w.dots
shrinks_round n rounds.AssignedValue = shrinks_assigned_value (phrase_at n) (keeps_phrase n)
shrinks_round n rounds.DeclaredName = shrinks_both (shrinks_skipped w.comma) (keeps (shrinks_shown (named_leaf kinds.DeclaredName) w.name))
shrinks_round n rounds.Alias = shrinks_both (shrinks_skipped w.comma) (keeps_alias (phrase_at n) (keeps_phrase n))
shrinks_round n rounds.ImportedName = shrinks_both (shrinks_skipped w.comma) (keeps_imported_name (phrase_at n) (keeps_phrase n))

pub keeps_part : (n : ℕ) (p : Part) → Keeps (part_at (phrase_at n) p)
keeps_part n parts.Deleted = keeps_phrase n e.BitOr
keeps_part n parts.ImportedName = keeps_imported_name (phrase_at n) (keeps_phrase n)
keeps_part n parts.Statement = keeps_statement (phrase_at n) (keeps_phrase n)
