-- Literals of strings are in shape: a string with no f has no fields.
use Rattle.std.proofs.Common.{◌≡◌, ℕ, zero, suc, ◌||◌, Bool, true, false, if◌then◌else◌, List, [], ◌∷◌, ◌++◌, inl, inr, refl, sym, ap, subst, ◌∙◌, Option}
use Rattle.lint_values.specs.declared.place.Pos.{Pos}
use Rattle.tree_nodes.specs.declared.kind.Kind.TheVariants as kinds
use Rattle.tree_nodes.specs.Trees.{Trees, Tree, pack}
use Rattle.tree_nodes.specs.Sorts.{constant, other_expression, field, sort_of, is_named, IsOf, only}
use Rattle.tree_nodes.specs.Shapes.{Fits, FitsOneOf, one, many, shape}
use Rattle.tree_nodes.specs.Shaped.{kinds_of}
use Rattle.py_language.specs.Sets.{mem}
use Rattle.py_language.specs.Languages.{Then, Either, Times, Many, Some as OneOrMore, Made, Where, whole}
use Rattle.py_language.specs.Forms.{AreOfSorts}
use Rattle.py_language.proofs.SortLaws.{form_row_of, sorts_skipped, sorts_then, sorts_either, sorts_many, sorts_some}
use Rattle.py_language.proofs.FormLaws.{form_either, form_wider, form_whole, forms_sole}
use Rattle.py_grammar.specs.declared.symbol.Symbol.TheVariants as s
use Rattle.py_grammar.specs.Terminals.{Terminal, Form, code, is_one_of}
use Rattle.py_grammar.specs.Words.{plain_string, byte_string, format_string, format_string_end}
use Rattle.py_grammar.specs.Nodes.{strings_text, Token, Called}
use Rattle.py_grammar.specs.Expressions.{has_format, string_node}
use Rattle.py_grammar.specs.Patterns.{is_unformatted}
use Rattle.py_grammar.proofs.ShapeBasics.{IsA, never, a_named_node, no_trees}

-- ---- strings without f

-- without an f no trees stand among the strings
abbrev IsBare : Form → Type 0
IsBare a = (ts : List Terminal) (out : List Tree) → a ts out → has_format ts ≡ false → out ≡ []

either_false : (a b : Bool) → (a || b) ≡ false → (a ≡ false) × (b ≡ false)
either_false true b h = never (sym h)
either_false false b h = (refl, h)

format_in : (xs ys : List Terminal) → has_format (xs ++ ys) ≡ false → (has_format xs ≡ false) × (has_format ys ≡ false)
format_in [] ys h = (refl, h)
format_in (x ∷ xs) ys h =
    let (first, more) = either_false (is_one_of (s.FStr ∷ []) x) (has_format (xs ++ ys)) h in
    let (left, right) = format_in xs ys more in
    (rw (first, left) refl, right)

bare_then : (a b : Form) → IsBare a → IsBare b → IsBare (Then a b)
bare_then a b A B ts out h bare =
    let (left, right) = format_in h.front h.back (ap has_format (sym h.tokens) ∙ bare) in
    h.trees ∙ ap (λ (u : List Tree). u ++ h.back_out) (A h.front h.front_out h.first left) ∙ B h.back h.back_out h.second right

bare_times : (a : Form) → IsBare a → (n : ℕ) → IsBare (Times a n)
bare_times a A zero ts out h bare = h.1
bare_times a A (suc n) ts out h bare = bare_then a (Times a n) A (bare_times a A n) ts out h bare

bare_some : (a : Form) → IsBare a → IsBare (OneOrMore a)
bare_some a A ts out h bare = bare_then a (Many a) A (λ xs u g. bare_times a A g.0 xs u g.1) ts out h bare

module _ (fields : Form) where
  -- a string, with its fields where it has an f
  abbrev Part : Form
  Part = Either (Token plain_string) (Then (Token format_string) (Then (Many fields) (Token format_string_end)))

  part_bare : IsBare Part
  part_bare ts out h bare =
      elim h [
        | inl g ↦ g.trees
        | inr g ↦ never (sym (format_in g.front g.back (ap has_format (sym g.tokens) ∙ bare)).0 ∙ starts g.front g.first.token g.first.tokens g.first.is_in)
      ]
    where
      starts : (xs : List Terminal) (t : Terminal) → xs ≡ t ∷ [] → mem (code t) format_string ≡ true → has_format xs ≡ true
      starts xs t e is = rw (e, is) refl

  string_fits : (b : Bool) (u : List Tree) → (b ≡ false → u ≡ []) → Fits (many (only field)) (kinds_of (pack u)) → FitsOneOf (shape (if b then kinds.FString else kinds.StringLiteral)) (kinds_of (pack u))
  unfolding shape
  string_fits true u none fit = inl fit
  string_fits false u none fit = inl (ap (λ (v : List Tree). kinds_of (pack v)) (none refl))

  string_named : (b : Bool) → true ≡ is_named (if b then kinds.FString else kinds.StringLiteral)
  unfolding is_named
  string_named true = refl
  string_named false = refl

  string_sort : (b : Bool) → IsOf (constant ∷ other_expression ∷ []) (if b then kinds.FString else kinds.StringLiteral)
  unfolding sort_of
  string_sort true = inr (inl refl)
  string_sort false = inl refl

  -- a literal of bytes, or of strings with their fields
  abbrev pub Literals : Form
  Literals = Either (Called kinds.BytesLiteral strings_text (OneOrMore (Token byte_string))) (Made (whole string_node) (OneOrMore Part))

  are_fields : AreOfSorts (only field) fields → AreOfSorts (only field) (OneOrMore Part)
  are_fields A =
      sorts_some (only field)
      (sorts_either (only field) (sorts_skipped (only field) code plain_string)
      (sorts_then (only field) (sorts_skipped (only field) code format_string) (sorts_then (only field) (sorts_many (only field) A) (sorts_skipped (only field) code format_string_end))))

  is_bytes : IsA (only constant) (Called kinds.BytesLiteral strings_text (OneOrMore (Token byte_string)))
  unfolding shape sort_of is_named
  is_bytes = a_named_node kinds.BytesLiteral strings_text (only constant) (no_trees (sorts_some [] (sorts_skipped [] code byte_string))) (λ ks h. inl h) refl (inl refl)

  is_string : AreOfSorts (only field) fields → IsA (constant ∷ other_expression ∷ []) (Made (whole string_node) (OneOrMore Part))
  is_string A =
      form_whole (constant ∷ other_expression ∷ []) string_node (forms_sole (form_row_of (are_fields A)))
      (λ ts u h fit. string_fits (has_format ts) u (λ bare. bare_some Part part_bare ts u h bare) (elim fit [ inl g ↦ g | inr g ↦ absurd g ])) (λ ts u h. string_named (has_format ts)) (λ ts u h. string_sort (has_format ts))

  pub are_literals : AreOfSorts (only field) fields → IsA (constant ∷ other_expression ∷ []) Literals
  are_literals A = form_either (form_wider (λ k h. elim h [ inl e ↦ inl e | inr g ↦ absurd g ]) is_bytes) (is_string A)

  -- without an f it is a constant
  pub are_unformatted : AreOfSorts (only field) fields → IsA (only constant) (Where is_unformatted Literals)
  unfolding sort_of
  are_unformatted A = record {
    shaped = λ ts out h. (are_literals A).shaped ts out h.0;
    fits = λ ts out h. elim h.0 [ inl g ↦ is_bytes.fits ts out g | inr g ↦ subst (λ (u : List Tree). Fits (one (only constant)) (kinds_of (pack u))) (sym g.trees) (plain (has_format ts) (unformatted ts g.parts (ap is_unformatted (sym g.trees) ∙ h.1))) ];
  }
    where
      plain : (b : Bool) → b ≡ false → Fits (one (only constant)) ((if b then kinds.FString else kinds.StringLiteral) ∷ [])
      plain true e = never (sym e)
      plain false e = (inl refl, refl)

      shown : (b : Bool) (pos : Pos) (end_line : ℕ) (name : Option (List ℕ)) (kids : Trees)
          → is_unformatted (record { node = record { kind = if b then kinds.FString else kinds.StringLiteral; pos = pos; end_line = end_line; name = name }; kids = kids } ∷ []) ≡ true → b ≡ false
      shown true pos end_line name kids h = never h
      shown false pos end_line name kids h = refl

      unformatted : (ts : List Terminal) (u : List Tree) → is_unformatted (whole string_node ts u) ≡ true → has_format ts ≡ false
      unformatted ts u h = let node = string_node ts in shown (has_format ts) node.pos node.end_line node.name (pack u) h
