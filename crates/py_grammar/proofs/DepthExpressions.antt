-- How deep an expression leads back. Where each form in which it leads back carries at k, what brackets hold carries at
-- k + 1, and what stands beside other things at k.
use Rattle.std.proofs.Common.{ℕ, suc, refl}
use Rattle.tree_nodes.specs.declared.kind.Kind.TheVariants as kinds
use Rattle.py_grammar.specs.declared.entry.Entry.{Entry}
use Rattle.py_grammar.specs.declared.entry.Entry.TheVariants as e
use Rattle.py_grammar.specs.Terminals.{Form}
use Rattle.py_grammar.specs.Words.{name, async_word, for_word, from_word, if_word, in_word, yield_word, colon, assign, walrus, star, double_star}
use Rattle.py_grammar.specs.Nodes.{first_text, plain_leaf}
use Rattle.py_grammar.specs.Tests.{in_order}
use Rattle.py_grammar.specs.Expressions.{in_parentheses, in_brackets, in_braces, call_arguments, are_alike, are_arguments, bound, is_one_target, Target, Star, Named, Element, SxItem, Sx, Yield, TargetItem, Targets, ForClause, Clause, Clauses, Parenthesized, ListDisplay, ItemOrNamed, Unpacked, BraceEntry, BraceDisplay, StarredArgument, PlainArgument, Argument, Arguments, CallArguments, SliceRest, Slice, StarredSlice, Slices}
use Rattle.py_grammar.proofs.DepthBuilding.{Carries, Leads, carry_leaf, carry_then, carry_behind, carry_either, carry_maybe, carry_many, carry_some, carry_where, carry_over, carry_node, carry_named_node, carry_commas, carry_comma_rest, carry_tupled, carry_parentheses, carry_brackets, carry_braces}
use Rattle.py_grammar.proofs.Weighing.{parentheses_keep, brackets_keep, braces_keep, call_keeps, bound_keeps}

-- a target is carried as the expression is
pub carries_target : {k : ℕ} {a b : Form} → Carries k a b → Carries k (Target a) (Target b)
carries_target C = carry_over bound bound_keeps (carry_where is_one_target C)

module _ (L M : Entry → Form) (k : ℕ) (known : Leads k L M) where
  -- ---- elements

  pub carries_star : Carries k (Star L) (Star M)
  unfolding Star
  carries_star = carry_node kinds.Starred (carry_behind star refl refl (known e.BitOr))

  pub carries_named : Carries k (Named L) (Named M)
  unfolding Named
  carries_named = carry_either (carry_named_node kinds.NamedExpression first_text (carry_behind name refl refl (carry_behind walrus refl refl (known e.Test)))) (known e.Test)

  pub carries_element : Carries k (Element L) (Element M)
  unfolding Element
  carries_element = carry_either carries_star carries_named

  carries_sx_item : Carries k (SxItem L) (SxItem M)
  unfolding SxItem
  carries_sx_item = carry_either carries_star (known e.Test)

  pub carries_sx : Carries k (Sx L) (Sx M)
  unfolding Sx
  carries_sx = carry_tupled kinds.Tuple carries_sx_item carries_sx_item

  pub carries_yield : Carries k (Yield L) (Yield M)
  unfolding Yield
  carries_yield =
      carry_either (carry_node kinds.YieldFrom (carry_behind yield_word refl refl (carry_behind from_word refl refl (known e.Test))))
      (carry_node kinds.Yield (carry_behind yield_word refl refl (carry_maybe carries_sx)))

  -- ---- targets and clauses

  pub carries_target_item : Carries k (TargetItem L) (TargetItem M)
  unfolding TargetItem
  carries_target_item = carry_either carries_star (known e.BitOr)

  pub carries_targets : Carries k (Targets L) (Targets M)
  unfolding Targets
  carries_targets = carries_target (carry_tupled kinds.Tuple carries_target_item carries_target_item)

  carries_for_clause : Carries k (ForClause L) (ForClause M)
  unfolding ForClause
  carries_for_clause = carry_behind for_word refl refl (carry_then carries_targets (carry_behind in_word refl refl (carry_then (known e.Or) (carry_many (carry_behind if_word refl refl (known e.Or))))))

  carries_clause : Carries k (Clause L) (Clause M)
  unfolding Clause
  carries_clause = carry_either (carry_node kinds.AsyncComprehensionFor (carry_behind async_word refl refl carries_for_clause)) (carry_node kinds.ComprehensionFor carries_for_clause)

  carries_clauses : Carries k (Clauses L) (Clauses M)
  unfolding Clauses
  carries_clauses = carry_some carries_clause

  -- ---- displays

  pub carries_parenthesized : Carries (suc k) (Parenthesized L) (Parenthesized M)
  unfolding Parenthesized
  carries_parenthesized =
      carry_over in_parentheses parentheses_keep (carry_parentheses (carry_maybe (carry_either carries_yield
      (carry_either (carry_then carries_star (carry_comma_rest carries_element)) (carry_then carries_named (carry_maybe (carry_either carries_clauses (carry_comma_rest carries_element))))))))

  pub carries_list_display : Carries (suc k) (ListDisplay L) (ListDisplay M)
  unfolding ListDisplay
  carries_list_display =
      carry_over in_brackets brackets_keep (carry_brackets (carry_maybe
      (carry_either (carry_then carries_star (carry_maybe (carry_comma_rest carries_element))) (carry_then carries_named (carry_maybe (carry_either carries_clauses (carry_comma_rest carries_element)))))))

  carries_item_or_named : Carries k (ItemOrNamed L) (ItemOrNamed M)
  unfolding ItemOrNamed
  carries_item_or_named =
      carry_either (carry_named_node kinds.NamedExpression first_text (carry_behind name refl refl (carry_behind walrus refl refl (known e.Test))))
      (carry_either (known e.Test) (carry_node kinds.DictItem (carry_then (known e.Test) (carry_behind colon refl refl (known e.Test)))))

  carries_unpacked : Carries k (Unpacked L) (Unpacked M)
  unfolding Unpacked
  carries_unpacked = carry_either (carry_node kinds.DictUnpack (carry_behind double_star refl refl (known e.BitOr))) carries_star

  carries_brace_entry : Carries k (BraceEntry L) (BraceEntry M)
  unfolding BraceEntry
  carries_brace_entry = carry_either carries_unpacked carries_item_or_named

  pub carries_brace_display : Carries (suc k) (BraceDisplay L) (BraceDisplay M)
  unfolding BraceDisplay
  carries_brace_display =
      carry_over in_braces braces_keep (carry_where are_alike (carry_braces (carry_maybe
      (carry_either (carry_then carries_unpacked (carry_maybe (carry_comma_rest carries_brace_entry)))
      (carry_then carries_item_or_named (carry_maybe (carry_either carries_clauses (carry_comma_rest carries_brace_entry))))))))

  -- ---- arguments

  carries_starred_argument : Carries k (StarredArgument L) (StarredArgument M)
  unfolding StarredArgument
  carries_starred_argument =
      carry_either (carry_node kinds.StarArgument (carry_behind star refl refl (known e.Test))) (carry_node kinds.DoubleStarArgument (carry_behind double_star refl refl (known e.Test)))

  carries_plain_argument : Carries k (PlainArgument L) (PlainArgument M)
  unfolding PlainArgument
  carries_plain_argument = carry_either (carry_named_node kinds.KeywordArgument first_text (carry_behind name refl refl (carry_behind assign refl refl (known e.Test)))) carries_named

  carries_argument : Carries k (Argument L) (Argument M)
  unfolding Argument
  carries_argument = carry_either carries_starred_argument carries_plain_argument

  pub carries_arguments : Carries k (Arguments L) (Arguments M)
  unfolding Arguments
  carries_arguments = carry_where in_order (carry_commas carries_argument)

  pub carries_call_arguments : Carries (suc k) (CallArguments L) (CallArguments M)
  unfolding CallArguments
  carries_call_arguments =
      carry_over call_arguments call_keeps (carry_where are_arguments (carry_parentheses (carry_maybe
      (carry_either (carry_then carries_starred_argument (carry_maybe (carry_comma_rest carries_argument)))
      (carry_then carries_plain_argument (carry_maybe (carry_either carries_clauses (carry_comma_rest carries_argument))))))))

  -- ---- slices

  carries_slice_rest : Carries k (SliceRest L) (SliceRest M)
  unfolding SliceRest
  carries_slice_rest =
      let mark = carry_leaf (plain_leaf kinds.SliceColon) colon refl refl in carry_then mark (carry_then (carry_maybe (known e.Test)) (carry_maybe (carry_then mark (carry_maybe (known e.Test)))))

  carries_slice : Carries k (Slice L) (Slice M)
  unfolding Slice
  carries_slice =
      carry_either (carry_node kinds.Slice carries_slice_rest)
      (carry_either (carry_named_node kinds.NamedExpression first_text (carry_behind name refl refl (carry_behind walrus refl refl (known e.Test))))
      (carry_either (known e.Test) (carry_node kinds.Slice (carry_then (known e.Test) carries_slice_rest))))

  carries_starred_slice : Carries k (StarredSlice L) (StarredSlice M)
  unfolding StarredSlice
  carries_starred_slice = carry_node kinds.Starred (carry_behind star refl refl (known e.Test))

  pub carries_slices : Carries k (Slices L) (Slices M)
  unfolding Slices
  carries_slices = carry_tupled kinds.Slices (carry_either carries_starred_slice carries_slice) (carry_either carries_starred_slice carries_slice)
