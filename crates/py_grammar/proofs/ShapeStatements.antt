-- Each form of a simple statement spells one statement in shape.
use Rattle.std.proofs.Common.{◌≡◌, ℕ, ◌&&◌, Bool, true, false, if◌then◌else◌, List, [], ◌∷◌, ◌++◌, inl, inr, refl}
use Rattle.lint_values.specs.declared.place.Pos.{Pos}
use Rattle.tree_nodes.specs.declared.kind.Kind.{Kind}
use Rattle.tree_nodes.specs.declared.kind.Kind.TheVariants as kinds
use Rattle.tree_nodes.specs.Trees.{Tree, pack}
use Rattle.tree_nodes.specs.Sorts.{statement, annotation, alias, import_wildcard, as_name, declared_name, single_target, sort_of, is_named, IsOf, AreOf, only, expression, value, target, any_target, augmented_operator}
use Rattle.tree_nodes.specs.Shapes.{Part, Fits, FitsOneOf, one, maybe, many, some, shape}
use Rattle.tree_nodes.specs.Shaped.{kinds_of, HasShape, AreShaped}
use Rattle.py_language.specs.Languages.{Made, Where, whole}
use Rattle.py_language.specs.Forms.{Forms, FormsOneOf, AreOfSorts}
use Rattle.py_language.proofs.KindLaws.{row_fits, fits_row}
use Rattle.py_language.proofs.SortLaws.{sorts_skipped, sorts_then, sorts_either, sorts_maybe, sorts_many, sorts_some}
use Rattle.py_language.proofs.FormLaws.{form_wider, form_skipped, form_shown, form_then, form_either, form_maybe, form_some, form_separated, form_bracketed, form_made, forms_sole, forms_either, forms_maybe, forms_then}
use Rattle.py_grammar.specs.declared.symbol.Symbol.{Symbol}
use Rattle.py_grammar.specs.declared.symbol.Symbol.TheVariants as s
use Rattle.py_grammar.specs.declared.entry.Entry.{Entry}
use Rattle.py_grammar.specs.declared.entry.Entry.TheVariants as e
use Rattle.py_grammar.specs.Terminals.{Terminal, Form, code}
use Rattle.py_grammar.specs.Words as words
use Rattle.py_grammar.specs.Nodes.{spanning, first_text, dotted_name, module_text, named_leaf, Leaf, As, Joined}
use Rattle.py_grammar.specs.Tests.{is_bindable, is_group, are_targets, is_target, as_target, is_single, are_unstarred}
use Rattle.py_grammar.specs.Statements.{targets_before_last, bound_before_last, is_single_first, bound_first, are_deletable, all_bound, lone_leaf, Value, Assign, AugAssign, AnnAssign, Return, Raise, Declaration, Delete, Assert, AsName, ModuleName, Import, ImportedName, ImportedNames, Source, ImportFrom, KeywordStatement, ValueStatement, Statement, Statements}
use Rattle.py_grammar.specs.HeaderParts.{sorts_of}
use Rattle.py_grammar.proofs.ShapeBasics.{IsA, never, expression_is_value, behind, a_node, a_node_of, a_named_node, a_named_node_of, with_commas, joined_by_commas, no_trees}
use Rattle.py_grammar.proofs.ShapeTargets.{both_true, one_bound}
use Rattle.py_grammar.proofs.ShapeBrackets.{AreGood, good_node, row_none, row_more}
use Rattle.py_grammar.proofs.ShapeLeaves.{a_plain_leaf, a_named_leaf, is_augmented_operator}
use Rattle.py_grammar.proofs.ShapeExpressions as forms

-- ---- what is bound

-- targets, and what is assigned to them
assigned_good : (u : List Tree) → AreShaped (pack u) → Fits (one value ++ many value) (kinds_of (pack u)) → targets_before_last u ≡ true → AreGood (many any_target ++ one value) (bound_before_last u)
assigned_good [] s fit h = absurd fit
assigned_good (t ∷ []) s fit h = (s, row_none any_target (one value) (t.node.kind ∷ []) (fit.0, refl))
assigned_good (t ∷ v ∷ u) s fit h =
    let (first, others) = both_true (is_target t) (targets_before_last (v ∷ u)) h in
    let bound = one_bound t first (s.0, s.1, tt) in
    let of = fits_row value (kinds_of (pack (v ∷ u))) fit.1 in
    let more = assigned_good (v ∷ u) s.2 (of.0, row_fits value (kinds_of (pack u)) of.1) others in
    ((bound.shaped.0, bound.shaped.1, more.0), row_more any_target (one value) (as_target t).node.kind (kinds_of (pack (bound_before_last (v ∷ u)))) bound.sort more.1)

several_assigned : (u : List Tree) → AreShaped (pack u) → Fits (one value ++ some value) (kinds_of (pack u)) → targets_before_last u ≡ true → AreGood (some any_target ++ one value) (bound_before_last u)
several_assigned [] s fit h = absurd fit
several_assigned (t ∷ []) s fit h = absurd fit.1
several_assigned (t ∷ v ∷ u) s fit h =
    let (first, others) = both_true (is_target t) (targets_before_last (v ∷ u)) h in
    let bound = one_bound t first (s.0, s.1, tt) in
    let more = assigned_good (v ∷ u) s.2 fit.1 others in
    ((bound.shaped.0, bound.shaped.1, more.0), (bound.sort, more.1))

-- a name, an attribute or a subscription can be bound
single_is_target : (kind : Kind) (b : Bool) → is_single kind ≡ true → (is_bindable kind && (if is_group kind then b else true)) ≡ true
single_is_target kinds.Name b h = refl
single_is_target kinds.Attribute b h = refl
single_is_target kinds.Subscript b h = refl
single_is_target kind b h = never h

-- a first target that is no group, before other parts
first_good : (rest : List Part) (u : List Tree) → AreShaped (pack u) → Fits (one value ++ rest) (kinds_of (pack u)) → is_single_first u ≡ true → AreGood (one (only single_target) ++ rest) (bound_first u)
first_good rest [] s fit h = absurd fit
first_good rest (t ∷ u) s fit h =
    let bound = one_bound t (single_is_target t.node.kind (are_targets t.kids) h) (s.0, s.1, tt) in
    ((bound.shaped.0, bound.shaped.1, s.2), (bound.single h, fit.1))

-- targets without stars
deleted_good : (u : List Tree) → AreShaped (pack u) → AreOf expression (kinds_of (pack u)) → are_deletable u ≡ true → AreGood (many target) (all_bound u)
deleted_good [] s of h = (tt, ([], [], refl, tt, refl))
deleted_good (t ∷ u) s of h =
    let (both, others) = both_true (is_target t && are_unstarred (pack (t ∷ []))) (are_deletable u) h in
    let (first, unstarred) = both_true (is_target t) (are_unstarred (pack (t ∷ []))) both in
    let bound = one_bound t first (s.0, s.1, tt) in
    let more = deleted_good u s.2 of.1 others in
    ((bound.shaped.0, bound.shaped.1, more.0), row_more target [] (as_target t).node.kind (kinds_of (pack (all_bound u))) (bound.plain of.0) more.1)

some_deleted : (u : List Tree) → AreShaped (pack u) → Fits (some expression) (kinds_of (pack u)) → are_deletable u ≡ true → AreGood (some target) (all_bound u)
some_deleted [] s fit h = absurd fit
some_deleted (t ∷ u) s fit h =
    let (both, others) = both_true (is_target t && are_unstarred (pack (t ∷ []))) (are_deletable u) h in
    let (first, unstarred) = both_true (is_target t) (are_unstarred (pack (t ∷ []))) both in
    let bound = one_bound t first (s.0, s.1, tt) in
    let more = deleted_good u s.2 (fits_row expression (kinds_of (pack u)) fit.1) others in
    ((bound.shaped.0, bound.shaped.1, more.0), (bound.plain fit.0, more.1))

-- a statement over parts that a change and a test make good
a_changed_statement : {parts : List Part} {a : Form} (kind : Kind) (test : List Tree → Bool) (change : List Tree → List Tree) (others : List Part) → Forms parts a
    → ((u : List Tree) → AreShaped (pack u) → Fits parts (kinds_of (pack u)) → test u ≡ true → AreGood others (change u)) → ((ks : List Kind) → Fits others ks → FitsOneOf (shape kind) ks) → false ≡ is_named kind → IsOf (only statement) kind
    → IsA (only statement) (Made (λ ts u. whole (spanning kind) ts (change u)) (Where test a))
a_changed_statement {parts} kind test change others A changed fits named sort = form_made (one (only statement)) (λ ts u. whole (spanning kind) ts (change u)) (λ ts u h. (go ts u h.1 (A.shaped ts u h.0) (A.fits ts u h.0)).0) (λ ts u h. (go ts u h.1 (A.shaped ts u h.0) (A.fits ts u h.0)).1)
  where
    go : (ts : List Terminal) (u : List Tree) → test u ≡ true → AreShaped (pack u) → Fits parts (kinds_of (pack u)) → AreGood (one (only statement)) (whole (spanning kind) ts (change u))
    go ts u h s fit = let good = changed u s fit h in good_node kind (only statement) ts (change u) (fits (kinds_of (pack (change u))) good.1) named sort good.0

-- ---- `pass`, `break`, `continue`

lone_shape : (symbol : Symbol) (pos : Pos) (end_line : ℕ) (text : List ℕ) → HasShape (lone_leaf (record { symbol = symbol; pos = pos; end_line = end_line; text = text })) []
unfolding shape is_named
lone_shape s.BreakWord pos end_line text = record { fits = inl refl; named = refl }
lone_shape s.ContinueWord pos end_line text = record { fits = inl refl; named = refl }
lone_shape symbol pos end_line text = record { fits = inl refl; named = refl }

lone_sort : (symbol : Symbol) (pos : Pos) (end_line : ℕ) (text : List ℕ) → IsOf (only statement) (lone_leaf (record { symbol = symbol; pos = pos; end_line = end_line; text = text })).kind
unfolding sort_of
lone_sort s.BreakWord pos end_line text = inl refl
lone_sort s.ContinueWord pos end_line text = inl refl
lone_sort symbol pos end_line text = inl refl

is_lone : IsA (only statement) (Leaf lone_leaf words.lone_word)
is_lone = form_shown (only statement) code lone_leaf words.lone_word (λ t is. lone_shape t.symbol t.pos t.end_line t.text) (λ t is. lone_sort t.symbol t.pos t.end_line t.text)

module _ (L : Entry → Form) (known : (entry : Entry) → IsA (sorts_of entry) (L entry)) where
  -- ---- values and what they are assigned to

  pub is_value : IsA value (Value L)
  unfolding Value
  is_value = form_either (form_wider expression_is_value (forms.is_yield L known)) (forms.is_sx L known)

  is_assign : IsA (only statement) (Assign L)
  unfolding Assign shape sort_of is_named
  is_assign =
      a_changed_statement kinds.Assign targets_before_last bound_before_last (some any_target ++ one value) (form_then (forms.is_sx L known) (form_some (behind words.assign is_value))) several_assigned (λ ks h. inl h) refl (inl refl)

  is_aug_assign : IsA (only statement) (AugAssign L)
  unfolding AugAssign shape sort_of is_named
  is_aug_assign =
      a_changed_statement kinds.AugAssign is_single_first bound_first (one (only single_target) ++ one augmented_operator ++ one value) (form_then (forms.is_sx L known) (form_then is_augmented_operator is_value))
      (first_good (one augmented_operator ++ one value)) (λ ks h. inl h) refl (inl refl)

  pub is_annotation : IsA (only annotation) (As kinds.Annotation (L e.Test))
  unfolding shape sort_of is_named
  is_annotation = a_node kinds.Annotation (only annotation) (known e.Test) (λ ks h. inl h) refl (inl refl)

  is_ann_assign : IsA (only statement) (AnnAssign L)
  unfolding AnnAssign shape sort_of is_named
  is_ann_assign =
      a_changed_statement kinds.AnnAssign is_single_first bound_first (one (only single_target) ++ one (only annotation) ++ maybe value)
      (form_then (forms.is_sx L known) (behind words.colon (form_then is_annotation (form_maybe (behind words.assign is_value))))) (first_good (one (only annotation) ++ maybe value)) (λ ks h. inl h) refl (inl refl)

  is_delete : IsA (only statement) (Delete L)
  unfolding Delete shape sort_of is_named
  is_delete = a_changed_statement kinds.Delete are_deletable all_bound (some target) (behind words.del_word (with_commas expression (known e.BitOr))) some_deleted (λ ks h. inl h) refl (inl refl)

  -- ---- statements that begin with a keyword

  is_return : IsA (only statement) (Return L)
  unfolding Return shape sort_of is_named
  is_return = a_node kinds.Return (only statement) (behind words.return_word (form_maybe (forms.is_sx L known))) (λ ks h. inl h) refl (inl refl)

  is_raise : IsA (only statement) (Raise L)
  unfolding Raise shape sort_of is_named
  is_raise =
      a_node_of kinds.Raise (only statement) (forms_then (form_skipped code words.raise_word) (forms_maybe (forms_sole (form_then (known e.Test) (form_maybe (behind words.from_word (known e.Test))))))) turned refl (inl refl)
    where
      turned : (ks : List Kind) → FitsOneOf ((one expression ++ maybe expression) ∷ [] ∷ []) ks → FitsOneOf ([] ∷ (one expression ++ maybe expression) ∷ []) ks
      turned ks h = elim h [ inl g ↦ inr (inl g) | inr g ↦ elim g [ inl k ↦ inl k | inr k ↦ absurd k ] ]

  are_declared : Forms (some (only declared_name)) (Joined (Leaf (named_leaf kinds.DeclaredName) words.name))
  unfolding shape sort_of is_named
  are_declared = joined_by_commas (only declared_name) (a_named_leaf kinds.DeclaredName (only declared_name) words.name (inl refl) refl (inl refl))

  is_declaration : IsA (only statement) (Declaration L)
  unfolding Declaration shape sort_of is_named
  is_declaration =
      form_either (a_node kinds.Global (only statement) (behind words.global_word are_declared) (λ ks h. inl h) refl (inl refl)) (a_node kinds.Nonlocal (only statement) (behind words.nonlocal_word are_declared) (λ ks h. inl h) refl (inl refl))

  is_assert : IsA (only statement) (Assert L)
  unfolding Assert shape sort_of is_named
  is_assert = a_node kinds.Assert (only statement) (behind words.assert_word (form_then (known e.Test) (form_maybe (behind words.comma (known e.Test))))) (λ ks h. inl h) refl (inl refl)

  -- ---- imports

  pub is_as_name : IsA (only as_name) (AsName L)
  unfolding AsName shape sort_of is_named
  is_as_name = behind words.as_word (a_named_leaf kinds.AsName (only as_name) words.name (inl refl) refl (inl refl))

  -- the tokens of a module's name are no nodes
  dotted_tokens : AreOfSorts [] (ModuleName L)
  unfolding ModuleName
  dotted_tokens = sorts_then [] (sorts_skipped [] code words.name) (sorts_many [] (sorts_then [] (sorts_skipped [] code words.dot) (sorts_skipped [] code words.name)))

  source_tokens : AreOfSorts [] (Source L)
  unfolding Source
  source_tokens = sorts_either [] dotted_tokens (sorts_then [] (sorts_some [] (sorts_skipped [] code words.dots)) (sorts_maybe [] dotted_tokens))

  is_import : IsA (only statement) (Import L)
  unfolding Import shape sort_of is_named
  is_import =
      a_node kinds.Import (only statement)
      (behind words.import_word (joined_by_commas (only alias) (a_named_node kinds.Alias dotted_name (only alias) (form_then (no_trees dotted_tokens) (form_maybe is_as_name)) (λ ks h. inl h) refl (inl refl)))) (λ ks h. inl h) refl (inl refl)

  is_imported_name : IsA (only alias) (ImportedName L)
  unfolding ImportedName shape sort_of is_named
  is_imported_name = a_named_node kinds.Alias first_text (only alias) (behind words.name (form_maybe is_as_name)) (λ ks h. inl h) refl (inl refl)

  are_imported_names : FormsOneOf (one (only import_wildcard) ∷ some (only alias) ∷ []) (ImportedNames L)
  unfolding ImportedNames shape sort_of is_named
  are_imported_names =
      forms_either (forms_sole (a_plain_leaf kinds.ImportWildcard (only import_wildcard) words.star (inl refl) refl (inl refl)))
      (forms_sole (form_either (joined_by_commas (only alias) is_imported_name) (form_bracketed code words.left_paren words.right_paren (with_commas (only alias) is_imported_name))))

  is_import_from : IsA (only statement) (ImportFrom L)
  unfolding ImportFrom shape sort_of is_named
  is_import_from =
      a_named_node_of kinds.ImportFrom module_text (only statement) (forms_then (form_skipped code words.from_word) (forms_then (no_trees source_tokens) (forms_then (form_skipped code words.import_word) are_imported_names))) turned refl (inl refl)
    where
      turned : (ks : List Kind) → FitsOneOf (one (only import_wildcard) ∷ some (only alias) ∷ []) ks → FitsOneOf (some (only alias) ∷ one (only import_wildcard) ∷ []) ks
      turned ks h = elim h [ inl g ↦ inr (inl g) | inr g ↦ elim g [ inl k ↦ inl k | inr k ↦ absurd k ] ]

  -- ---- statements

  is_keyword_statement : IsA (only statement) (KeywordStatement L)
  unfolding KeywordStatement
  is_keyword_statement = form_either is_lone (form_either is_return (form_either is_raise (form_either is_declaration (form_either is_delete (form_either is_assert (form_either is_import is_import_from))))))

  is_value_statement : IsA (only statement) (ValueStatement L)
  unfolding ValueStatement shape sort_of is_named
  is_value_statement =
      form_either (a_node kinds.ExpressionStatement (only statement) (form_wider {more = value} expression_is_value (forms.is_yield L known)) (λ ks h. inl h) refl (inl refl))
      (form_either (a_node kinds.ExpressionStatement (only statement) (forms.is_sx L known) (λ ks h. inl h) refl (inl refl)) (form_either is_assign (form_either is_aug_assign is_ann_assign)))

  pub is_statement : IsA (only statement) (Statement L)
  unfolding Statement
  is_statement = form_either is_keyword_statement is_value_statement

  pub are_statements : Forms (some (only statement)) (Statements L)
  unfolding Statements
  are_statements = form_separated code words.semicolon is_statement
