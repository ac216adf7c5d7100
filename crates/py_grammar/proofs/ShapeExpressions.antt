-- Each form of an expression spells trees in shape, of the sorts that stand in its place.
use Rattle.std.proofs.Common.{◌≡◌, true, false, List, [], ◌∷◌, ◌++◌, inl, inr, refl, sym, ap, ◌∙◌}
use Rattle.tree_nodes.specs.declared.kind.Kind.{Kind}
use Rattle.tree_nodes.specs.declared.kind.Kind.TheVariants as kinds
use Rattle.tree_nodes.specs.Trees.{Tree}
use Rattle.tree_nodes.specs.Sorts.{starred, dict_item, comprehension_clause, sort_of, is_named, IsOf, only, expression, value, any_target}
use Rattle.tree_nodes.specs.Shapes.{one, many, some, shape}
use Rattle.py_language.specs.Sets.{mem}
use Rattle.py_language.specs.Languages.{Then, Either, Maybe}
use Rattle.py_language.specs.Forms.{Forms, FormsOneOf, AreOfSorts}
use Rattle.py_language.proofs.SortLaws.{sorts_single, sorts_wider, sorts_then, sorts_maybe}
use Rattle.py_language.proofs.FormLaws.{form_wider, form_then, form_either, form_maybe, form_many, form_some}
use Rattle.py_grammar.specs.declared.symbol.Symbol.{Symbol}
use Rattle.py_grammar.specs.declared.symbol.Symbol.TheVariants as s
use Rattle.py_grammar.specs.declared.entry.Entry.{Entry}
use Rattle.py_grammar.specs.declared.entry.Entry.TheVariants as e
use Rattle.py_grammar.specs.Symbols.{number_of, set_of}
use Rattle.py_grammar.specs.Terminals.{Terminal, Form, is_one_of}
use Rattle.py_grammar.specs.Words.{name, async_word, for_word, from_word, if_word, in_word, yield_word, colon, walrus, star, double_star, left_bracket, right_bracket, left_brace, right_brace}
use Rattle.py_grammar.specs.Nodes.{first_text, Token, Called, CommaRest}
use Rattle.py_grammar.specs.Expressions.{ends_with_comma, has_own_comma, Star, Named, Element, SxItem, Sx, Yield, TargetItem, Targets, ForClause, Clause, Clauses, Parenthesized, ListDisplay, ItemOrNamed, Unpacked, BraceEntry, BraceDisplay}
use Rattle.py_grammar.specs.HeaderParts.{sorts_of}
use Rattle.py_grammar.proofs.ShapeBasics.{IsA, never, expression_is_value, other, behind, a_node, a_named_node, with_commas, behind_comma, first_and_rest, forms_same}
use Rattle.py_grammar.proofs.ShapeTargets.{a_target}
use Rattle.py_grammar.proofs.ShapeBrackets.{held, held_row, held_in, held_maybe, first_and_more, a_list, braced, a_brace}
use Rattle.py_grammar.proofs.ShapeParentheses.{lone_either, lone_maybe, lone_of, lone_first, lone_with_comma, a_parenthesis}

-- a star is no `yield`
star_no_yield : (symbol : Symbol) → mem (number_of symbol) star ≡ true → mem (number_of symbol) (set_of (s.YieldWord ∷ [])) ≡ false
star_no_yield s.Star h = refl
star_no_yield symbol h = never h

module _ (L : Entry → Form) (known : (entry : Entry) → IsA (sorts_of entry) (L entry)) where
  -- ---- stars, names with `:=`, elements, yields

  pub is_star : IsA (only starred) (Star L)
  unfolding Star shape sort_of is_named
  is_star = a_node kinds.Starred (only starred) (behind star (known e.BitOr)) (λ ks h. inl h) refl (inl refl)

  pub is_walrus : IsA expression (Called kinds.NamedExpression first_text (Then (Token name) (Then (Token walrus) (L e.Test))))
  unfolding shape sort_of is_named
  is_walrus = a_named_node kinds.NamedExpression first_text expression (behind name (behind walrus (known e.Test))) (λ ks h. inl h) refl (other kinds.NamedExpression refl)

  pub is_named_expression : IsA expression (Named L)
  unfolding Named
  is_named_expression = form_either is_walrus (known e.Test)

  pub is_starred_value : IsA value (Star L)
  is_starred_value = form_wider (λ k h. elim h [ inl g ↦ inl g | inr g ↦ absurd g ]) is_star

  pub is_element : IsA value (Element L)
  unfolding Element
  is_element = form_either is_starred_value (form_wider expression_is_value is_named_expression)

  pub is_sx_item : IsA value (SxItem L)
  unfolding SxItem
  is_sx_item = form_either is_starred_value (form_wider expression_is_value (known e.Test))

  pub is_sx : IsA value (Sx L)
  unfolding Sx shape sort_of is_named
  is_sx = form_either is_sx_item (a_node kinds.Tuple value (first_and_rest value (sorts_single is_sx_item) (sorts_single is_sx_item)) (λ ks h. inl h) refl (inr (other kinds.Tuple refl)))

  pub is_yield : IsA expression (Yield L)
  unfolding Yield shape sort_of is_named
  is_yield =
      form_either (a_node kinds.YieldFrom expression (behind yield_word (behind from_word (known e.Test))) (λ ks h. inl h) refl (other kinds.YieldFrom refl))
      (a_node kinds.Yield expression (behind yield_word (form_maybe is_sx)) (λ ks h. inl h) refl (other kinds.Yield refl))

  -- ---- targets and clauses

  pub is_target_item : IsA value (TargetItem L)
  unfolding TargetItem
  is_target_item = form_either is_starred_value (form_wider expression_is_value (known e.BitOr))

  pub is_targets : IsA any_target (Targets L)
  unfolding Targets shape sort_of is_named
  is_targets =
      a_target value
      (form_either is_target_item (a_node kinds.Tuple value (first_and_rest value (sorts_single is_target_item) (sorts_single is_target_item)) (λ ks h. inl h) refl (inr (other kinds.Tuple refl))))

  is_for_clause : Forms (one any_target ++ one expression ++ many expression) (ForClause L)
  unfolding ForClause
  is_for_clause = behind for_word (form_then is_targets (behind in_word (form_then (known e.Or) (form_many (sorts_single (behind if_word (known e.Or)))))))

  is_clause : IsA (only comprehension_clause) (Clause L)
  unfolding Clause shape sort_of is_named
  is_clause =
      form_either (a_node kinds.AsyncComprehensionFor (only comprehension_clause) (behind async_word is_for_clause) (λ ks h. inl h) refl (inl refl))
      (a_node kinds.ComprehensionFor (only comprehension_clause) is_for_clause (λ ks h. inl h) refl (inl refl))

  pub are_clauses : Forms (some (only comprehension_clause)) (Clauses L)
  unfolding Clauses
  are_clauses = form_some is_clause

  -- ---- displays

  -- what stands behind the comma of a first element
  more_elements : AreOfSorts value (CommaRest (Element L))
  more_elements = behind_comma value (sorts_single is_element)

  named_and_more : FormsOneOf (held value expression) (Then (Named L) (Maybe (Either (Clauses L) (CommaRest (Element L)))))
  named_and_more = first_and_more value expression is_named_expression expression_is_value are_clauses more_elements

  -- a comma behind a star is one of its own
  own_comma : (opening : Terminal) (front back : List Terminal) (u : List Tree) → Star L front u → ends_with_comma (opening ∷ (front ++ back)) ≡ true → has_own_comma (opening ∷ (front ++ back)) ≡ true
  unfolding Star
  own_comma o front back u h e = go front h.spelled.front h.spelled.back h.spelled.first.token h.spelled.tokens h.spelled.first.tokens (star_no_yield h.spelled.first.token.symbol h.spelled.first.is_in) e
    where
      go : (xs f b : List Terminal) (t : Terminal) → xs ≡ f ++ b → f ≡ t ∷ [] → is_one_of (s.YieldWord ∷ []) t ≡ false → ends_with_comma (o ∷ (xs ++ back)) ≡ true → has_own_comma (o ∷ (xs ++ back)) ≡ true
      go xs f b t e1 e2 not ends = let same : o ∷ (xs ++ back) ≡ o ∷ t ∷ (b ++ back) = rw (e1, e2) refl in ap has_own_comma same ∙ at_star t (b ++ back) not (ap ends_with_comma (sym same) ∙ ends)
        where
          at_star : (k : Terminal) (more : List Terminal) → is_one_of (s.YieldWord ∷ []) k ≡ false → ends_with_comma (o ∷ k ∷ more) ≡ true → has_own_comma (o ∷ k ∷ more) ≡ true
          at_star k more no_yield comma_last = rw no_yield comma_last

  pub is_parenthesized : IsA expression (Parenthesized L)
  unfolding Parenthesized
  is_parenthesized = a_parenthesis (held_maybe value expression (forms_same yields (forms_same stars named_and_more)))
      (lone_maybe has_own_comma expression
      (lone_either has_own_comma expression (lone_of has_own_comma expression is_yield)
      (lone_either has_own_comma expression (lone_with_comma has_own_comma (only starred) value expression own_comma is_star (with_commas value is_element)) (lone_first has_own_comma expression is_named_expression))))
    where
      yields : FormsOneOf (held value expression) (Yield L)
      yields = held_row value expression (sorts_wider expression_is_value (sorts_single is_yield))

      stars : FormsOneOf (held value expression) (Then (Star L) (CommaRest (Element L)))
      stars = held_row value expression (sorts_then value (sorts_single is_starred_value) more_elements)

  pub is_list_display : IsA expression (ListDisplay L)
  unfolding ListDisplay
  is_list_display = a_list (held_in value expression left_bracket right_bracket (held_maybe value expression (forms_same stars named_and_more)))
    where
      stars : FormsOneOf (held value expression) (Then (Star L) (Maybe (CommaRest (Element L))))
      stars = held_row value expression (sorts_then value (sorts_single is_starred_value) (sorts_maybe value more_elements))

  is_item_or_named : IsA (dict_item ∷ expression) (ItemOrNamed L)
  unfolding ItemOrNamed shape sort_of is_named
  is_item_or_named =
      form_either (form_wider (λ k h. inr h) is_walrus)
      (form_either (form_wider (λ k h. inr h) (known e.Test)) (a_node kinds.DictItem (dict_item ∷ expression) (form_then (known e.Test) (behind colon (known e.Test))) (λ ks h. inl h) refl (inl refl)))

  is_unpacked : IsA braced (Unpacked L)
  unfolding Unpacked shape sort_of is_named
  is_unpacked = form_either (a_node kinds.DictUnpack braced (behind double_star (known e.BitOr)) (λ ks h. inl h) refl (inr (inl refl))) (form_wider (λ k h. inr (inr h)) is_starred_value)

  item_is_braced : (kind : Kind) → IsOf (dict_item ∷ expression) kind → IsOf braced kind
  item_is_braced kind h = elim h [ inl g ↦ inl g | inr g ↦ inr (inr (inr g)) ]

  is_brace_entry : IsA braced (BraceEntry L)
  unfolding BraceEntry
  is_brace_entry = form_either is_unpacked (form_wider item_is_braced is_item_or_named)

  pub is_brace_display : IsA expression (BraceDisplay L)
  unfolding BraceDisplay
  is_brace_display =
      a_brace
      (held_in braced (dict_item ∷ expression) left_brace right_brace
      (held_maybe braced (dict_item ∷ expression)
      (forms_same (held_row braced (dict_item ∷ expression) (sorts_then braced (sorts_single is_unpacked) (sorts_maybe braced more)))
      (first_and_more braced (dict_item ∷ expression) is_item_or_named item_is_braced are_clauses more))))
    where
      more : AreOfSorts braced (CommaRest (BraceEntry L))
      more = behind_comma braced (sorts_single is_brace_entry)
