-- Each form of a pattern spells trees in shape, of the sorts that stand in its place.
use Rattle.std.proofs.Common.{◌≡◌, ℕ, Bool, true, false, List, [], ◌∷◌, ◌++◌, inl, inr, refl, sym, ap, Option}
use Rattle.std.proofs.lemmas.List.{append-nil}
use Rattle.lint_values.specs.declared.place.Pos.{Pos}
use Rattle.tree_nodes.specs.declared.kind.Kind.{Kind}
use Rattle.tree_nodes.specs.declared.kind.Kind.TheVariants as kinds
use Rattle.tree_nodes.specs.Trees.{Trees, Tree, pack}
use Rattle.tree_nodes.specs.Sorts.{Sort, constant, minus, name_read, attribute_read, sum_operator, pattern, star_pattern, match_item, match_rest, match_keyword, sort_of, is_named, IsOf, only, expression, compared}
use Rattle.tree_nodes.specs.Shapes.{a_row_of_pairs, Fits, one, maybe, many, shape}
use Rattle.tree_nodes.specs.Shaped.{kinds_of, AreShaped}
use Rattle.py_language.specs.Languages.{Then, Either, Maybe, Many, Where, Bracketed, whole}
use Rattle.py_language.specs.Forms.{Forms, AreOfSorts}
use Rattle.py_language.proofs.KindLaws.{two_between}
use Rattle.py_language.proofs.SortLaws.{sorts_single, sorts_then, sorts_either, sorts_maybe, sorts_separated, sorts_bracketed}
use Rattle.py_language.proofs.FormLaws.{form_wider, form_skipped, form_then, form_either, form_pairs, form_where, form_tested, form_steps, form_made, form_row}
use Rattle.py_grammar.specs.declared.entry.Entry.{Entry}
use Rattle.py_grammar.specs.declared.entry.Entry.TheVariants as e
use Rattle.py_grammar.specs.declared.symbol.Symbol.TheVariants as symbols
use Rattle.py_grammar.specs.Terminals.{Terminal, Form, code, is_one_of, first_of, second_of}
use Rattle.py_grammar.specs.Words as words
use Rattle.py_grammar.specs.Nodes.{spanning, called, first_text, second_text, last_text, Commas, CommaRest, InParentheses}
use Rattle.py_grammar.specs.Expressions.{ends_with_comma}
use Rattle.py_grammar.specs.Patterns.{is_complex, name_pattern, star_pattern as star_node, sequence_has_one_star, rest_is_last, keywords_behind_patterns, is_dotted, SignedNumber, NumberPattern, Literal, Dotted, DottedName, ClassArgument, ClassArguments, NamePattern, StarPattern, SequenceItem, ParenthesizedPattern, BracketedPattern, MappingItem, MappingPattern, ClosedPattern, OrPattern, Pattern, OpenPatterns}
use Rattle.py_grammar.specs.HeaderParts.{sorts_of}
use Rattle.py_grammar.proofs.ShapeBasics.{IsA, never, behind, a_node, a_named_node, operands, behind_comma, IsWithin, form_within, with_commas}
use Rattle.py_grammar.proofs.ShapeBrackets.{AreGood, good_node, good_if}
use Rattle.py_grammar.proofs.ShapeLeaves.{is_number, is_constant_word, is_name, is_sum_operator}
use Rattle.py_grammar.proofs.ShapeParentheses.{lone_either, lone_maybe, lone_first, lone_with_comma}
use Rattle.py_grammar.proofs.ShapeSequences.{items, a_sequence, an_open_sequence, a_pattern_parenthesis, mapping_items, rest_fits, class_items, class_fits}
use Rattle.py_grammar.proofs.ShapeOperators as operators

-- ---- one pair, or none

pub perhaps_a_pair : {firsts seconds : List Sort} {a b : Form} → IsA firsts a → IsA seconds b → Forms (a_row_of_pairs firsts seconds ∷ []) (Maybe (Then a b))
perhaps_a_pair {firsts} {seconds} {a} {b} A B = form_within once (form_pairs A B)
  where
    once : IsWithin (Maybe (Then a b)) (Many (Then a b))
    once ts out h =
        elim h [
          | inl g ↦ (1, record { front = ts; back = []; front_out = out; back_out = []; first = g; second = (refl, refl); tokens = sym (append-nil ts); trees = sym (append-nil out) })
          | inr g ↦ (0, g)
        ]

-- ---- names

-- a name, or a name with dots
abbrev names : List Sort
names = name_read ∷ attribute_read ∷ []

abbrev is_name_sort : Sort → Bool
is_name_sort name_read = true
is_name_sort sort = false

-- a name alone is captured or stands for anything, and one with dots is compared
name_shape : (ts : List Terminal) (kind : Kind) (pos : Pos) (end_line : ℕ) (name : Option (List ℕ)) (kids : Trees) (u : List Tree) → IsOf names kind → kinds_of (pack u) ≡ []
    → AreShaped (pack (record { node = record { kind = kind; pos = pos; end_line = end_line; name = name }; kids = kids } ∷ u))
    → AreGood (one (only pattern)) (name_pattern ts (record { node = record { kind = kind; pos = pos; end_line = end_line; name = name }; kids = kids } ∷ u))
unfolding shape sort_of is_named
name_shape ts kinds.Name pos end_line name kids u of none s =
    good_if (one (only pattern)) (is_one_of (symbols.Underscore ∷ []) (first_of ts)) (whole (spanning kinds.MatchWildcard) ts []) (whole (called kinds.MatchCapture first_text) ts []) (λ e. good_node kinds.MatchWildcard (only pattern) ts [] (inl refl) refl (inl refl) tt)
    (λ e. ((record { fits = inl refl; named = refl }, tt, tt), (inl refl, refl)))
name_shape ts kind pos end_line name kids u of none s = good_node kinds.MatchValue (only pattern) ts (record { node = record { kind = kind; pos = pos; end_line = end_line; name = name }; kids = kids } ∷ u) (inl (dotted, none)) refl (inl refl) s
  where
    dotted : IsOf compared kind
    dotted = elim of [ inl e ↦ never (ap is_name_sort e) | inr g ↦ elim g [ inl e ↦ inr (inl e) | inr k ↦ absurd k ] ]

names_shape : (ts : List Terminal) (u : List Tree) → AreShaped (pack u) → Fits (one names) (kinds_of (pack u)) → AreGood (one (only pattern)) (name_pattern ts u)
names_shape ts [] s fit = absurd fit
names_shape ts (t ∷ u) s fit = name_shape ts t.node.kind t.node.pos t.node.end_line t.node.name t.kids u fit.0 fit.1 s

-- a name with dots
dotted_sort : (kind : Kind) (pos : Pos) (end_line : ℕ) (name : Option (List ℕ)) (kids : Trees) (u : List Tree) → is_dotted (record { node = record { kind = kind; pos = pos; end_line = end_line; name = name }; kids = kids } ∷ u) ≡ true → IsOf compared kind
unfolding sort_of
dotted_sort kinds.Attribute pos end_line name kids u h = inr (inl refl)
dotted_sort kind pos end_line name kids u h = never h

dotted_fits : (u : List Tree) → Fits (one names) (kinds_of (pack u)) → is_dotted u ≡ true → Fits (one compared) (kinds_of (pack u))
dotted_fits [] fit h = absurd fit
dotted_fits (t ∷ u) fit h = (dotted_sort t.node.kind t.node.pos t.node.end_line t.node.name t.kids u h, fit.1)

module _ (L : Entry → Form) (known : (entry : Entry) → IsA (sorts_of entry) (L entry)) where
  -- ---- literals

  -- a number, maybe behind a minus
  abbrev signed : List Sort
  signed = constant ∷ minus ∷ []

  number_is_expression : (kind : Kind) → IsOf (only constant) kind → IsOf expression kind
  number_is_expression kind h = elim h [ inl g ↦ inl g | inr g ↦ absurd g ]

  signed_is_expression : (kind : Kind) → IsOf signed kind → IsOf expression kind
  signed_is_expression kind h = elim h [ inl g ↦ inl g | inr g ↦ elim g [ inl q ↦ inr (inr (inr (inl q))) | inr q ↦ absurd q ] ]

  signed_is_compared : (kind : Kind) → IsOf signed kind → IsOf compared kind
  signed_is_compared kind h = elim h [ inl g ↦ inl g | inr g ↦ elim g [ inl q ↦ inr (inr (inl q)) | inr q ↦ absurd q ] ]

  is_signed_number : IsA signed (SignedNumber L)
  unfolding SignedNumber shape sort_of is_named
  is_signed_number =
      form_either (form_wider (λ k h. elim h [ inl g ↦ inl g | inr g ↦ absurd g ]) is_number)
      (a_node kinds.UnaryMinus signed (behind words.minus (form_wider {more = expression} number_is_expression is_number)) (λ ks h. inl h) refl (inr (inl refl)))

  is_number_pattern : IsA compared (NumberPattern L)
  unfolding NumberPattern shape sort_of is_named
  is_number_pattern =
      form_row compared (spanning kinds.Sum) (form_where is_complex (form_then is_signed_number (perhaps_a_pair is_sum_operator (form_wider {more = expression} number_is_expression is_number)))) (λ h. h) (λ k h. signed_is_compared k h.0)
      (λ ts x y ks h. inl (two_between (only sum_operator) expression x y ks (signed_is_expression x h.0, h.1))) (λ ts. refl) (λ ts. inr (inr (inr (inl refl))))

  constant_is_compared : (kind : Kind) → IsOf (only constant) kind → IsOf compared kind
  constant_is_compared kind h = elim h [ inl g ↦ inl g | inr g ↦ absurd g ]

  is_literal : IsA compared (Literal L)
  unfolding Literal
  is_literal = form_either is_number_pattern (form_either (form_wider constant_is_compared (operators.are_plain_strings L known)) (form_wider constant_is_compared is_constant_word))

  -- ---- names, classes, stars

  dotted_step : (a : Form) → IsA names a → IsA names (Dotted L a)
  unfolding shape sort_of is_named
  dotted_step a A =
      a_named_node kinds.Attribute last_text names (form_then (form_wider {more = expression} name_is_expression A) (behind words.dot (form_skipped code words.name))) (λ ks h. inl h) refl (inr (inl refl))
    where
      name_is_expression : (kind : Kind) → IsOf names kind → IsOf expression kind
      name_is_expression kind h = elim h [ inl g ↦ inr (inl g) | inr g ↦ elim g [ inl q ↦ inr (inr (inl q)) | inr q ↦ absurd q ] ]

  is_dotted_name : IsA names (DottedName L)
  unfolding DottedName
  is_dotted_name = form_steps (Dotted L) dotted_step (form_wider (λ k h. elim h [ inl g ↦ inl g | inr g ↦ absurd g ]) is_name)

  pattern_first : (sort : Sort) (kind : Kind) → IsOf (only pattern) kind → IsOf (pattern ∷ sort ∷ []) kind
  pattern_first sort kind h = elim h [ inl g ↦ inl g | inr g ↦ absurd g ]

  is_class_argument : IsA class_items (ClassArgument L)
  unfolding ClassArgument shape sort_of is_named
  is_class_argument =
      form_either (a_named_node kinds.MatchKeyword first_text class_items (behind words.name (behind words.assign (known e.Pattern))) (λ ks h. inl h) refl (inr (inl refl))) (form_wider (pattern_first match_keyword) (known e.Pattern))

  are_class_arguments : Forms (many (only pattern) ++ many (only match_keyword)) (ClassArguments L)
  unfolding ClassArguments
  are_class_arguments = form_tested keywords_behind_patterns all (λ ts out h test. class_fits out (all.each ts out h) test)
    where
      all : AreOfSorts class_items (InParentheses (Maybe (Commas (ClassArgument L))))
      all = sorts_bracketed class_items code words.left_paren words.right_paren (sorts_maybe class_items (sorts_separated class_items code words.comma (sorts_single is_class_argument)))

  is_name_pattern : IsA (only pattern) (NamePattern L)
  unfolding NamePattern shape sort_of is_named
  is_name_pattern =
      form_either (form_made (one (only pattern)) name_pattern (λ ts u h. (names_shape ts u (is_dotted_name.shaped ts u h) (is_dotted_name.fits ts u h)).0) (λ ts u h. (names_shape ts u (is_dotted_name.shaped ts u h) (is_dotted_name.fits ts u h)).1))
      (a_node kinds.MatchClass (only pattern) (form_then is_dotted_name are_class_arguments) (λ ks h. inl h) refl (inl refl))

  pub is_star_pattern : IsA (only star_pattern) (StarPattern L)
  unfolding StarPattern shape sort_of is_named
  is_star_pattern = form_made (one (only star_pattern)) star_node (λ ts u h. (good ts u).0) (λ ts u h. (good ts u).1)
    where
      good : (ts : List Terminal) (u : List Tree) → AreGood (one (only star_pattern)) (star_node ts u)
      good ts u =
          good_if (one (only star_pattern)) (is_one_of (symbols.Underscore ∷ []) (second_of ts)) (whole (spanning kinds.MatchStarWildcard) ts []) (whole (called kinds.MatchStar second_text) ts [])
          (λ c. good_node kinds.MatchStarWildcard (only star_pattern) ts [] (inl refl) refl (inl refl) tt) (λ c. ((record { fits = inl refl; named = refl }, tt, tt), (inl refl, refl)))

  -- ---- sequences and mappings

  is_item : IsA items (SequenceItem L)
  unfolding SequenceItem
  is_item = form_either (form_wider (λ k h. inr h) is_star_pattern) (form_wider (pattern_first star_pattern) (known e.Pattern))

  more_items : AreOfSorts items (CommaRest (SequenceItem L))
  more_items = behind_comma items (sorts_single is_item)

  star_and_more : AreOfSorts items (Then (StarPattern L) (CommaRest (SequenceItem L)))
  star_and_more = sorts_then items (sorts_single {sorts = items} (form_wider (λ k h. inr h) is_star_pattern)) more_items

  is_parenthesized_pattern : IsA (only pattern) (ParenthesizedPattern L)
  unfolding ParenthesizedPattern
  is_parenthesized_pattern =
      a_pattern_parenthesis
      (sorts_bracketed items code words.left_paren words.right_paren (sorts_maybe items (sorts_either items star_and_more (sorts_then items (sorts_single {sorts = items} (form_wider (pattern_first star_pattern) (known e.Pattern))) (sorts_maybe items more_items)))))
      (lone_maybe ends_with_comma (only pattern)
      (lone_either ends_with_comma (only pattern) (lone_with_comma ends_with_comma (only star_pattern) items (only pattern) (λ o front back u h c. c) is_star_pattern (with_commas items is_item)) (lone_first ends_with_comma (only pattern) (known e.Pattern))))

  is_bracketed_pattern : IsA (only pattern) (BracketedPattern L)
  unfolding BracketedPattern
  is_bracketed_pattern = a_sequence (sorts_bracketed items code words.left_bracket words.right_bracket (sorts_maybe items (sorts_separated items code words.comma (sorts_single is_item))))

  is_mapping_item : IsA mapping_items (MappingItem L)
  unfolding MappingItem shape sort_of is_named
  is_mapping_item =
      form_either (a_named_node kinds.MatchRest second_text mapping_items (behind words.double_star (form_skipped code words.capture)) (λ ks h. inl h) refl (inr (inl refl)))
      (a_node kinds.MatchItem mapping_items (form_then (form_either is_literal (form_tested is_dotted (sorts_single is_dotted_name) (λ ts out h test. dotted_fits out (is_dotted_name.fits ts out h) test))) (behind words.colon (known e.Pattern))) (λ ks h. inl h)
      refl (inl refl))

  is_mapping_pattern : IsA (only pattern) (MappingPattern L)
  unfolding MappingPattern shape sort_of is_named
  is_mapping_pattern = a_node kinds.MatchMapping (only pattern) (form_tested {parts = many (only match_item) ++ maybe (only match_rest)} rest_is_last all (λ ts out h test. rest_fits out (all.each ts out h) test)) (λ ks h. inl h) refl (inl refl)
    where
      all : AreOfSorts mapping_items (Bracketed code words.left_brace words.right_brace (Maybe (Commas (MappingItem L))))
      all = sorts_bracketed mapping_items code words.left_brace words.right_brace (sorts_maybe mapping_items (sorts_separated mapping_items code words.comma (sorts_single is_mapping_item)))

  -- ---- patterns

  is_closed_pattern : IsA (only pattern) (ClosedPattern L)
  unfolding ClosedPattern shape sort_of is_named
  is_closed_pattern = form_either (a_node kinds.MatchValue (only pattern) is_literal (λ ks h. inl h) refl (inl refl)) (form_either is_name_pattern (form_either is_parenthesized_pattern (form_either is_bracketed_pattern is_mapping_pattern)))

  is_or_pattern : IsA (only pattern) (OrPattern L)
  unfolding OrPattern shape sort_of is_named
  is_or_pattern = operands kinds.MatchOr words.bar (only pattern) is_closed_pattern (λ ks h. inl h) refl (inl refl)

  pub is_pattern : IsA (only pattern) (Pattern L)
  unfolding Pattern shape sort_of is_named
  is_pattern = form_either is_or_pattern (a_named_node kinds.MatchAs last_text (only pattern) (form_then is_or_pattern (behind words.as_word (form_skipped code words.capture))) (λ ks h. inl h) refl (inl refl))

  pub are_open_patterns : IsA (only pattern) (OpenPatterns L)
  unfolding OpenPatterns
  are_open_patterns =
      form_within (apart _ _ _)
      (form_either (an_open_sequence star_and_more)
      (form_either (known e.Pattern) (an_open_sequence (sorts_then items (sorts_single {sorts = items} (form_wider (pattern_first star_pattern) (known e.Pattern))) more_items))))
    where
      apart : (a b c : Form) → IsWithin (Where sequence_has_one_star (Either a (Either b c))) (Either (Where sequence_has_one_star a) (Either b (Where sequence_has_one_star c)))
      apart a b c ts out h = elim h.0 [ inl g ↦ inl (g, h.1) | inr g ↦ elim g [ inl k ↦ inr (inl k) | inr k ↦ inr (inr (k, h.1)) ] ]
