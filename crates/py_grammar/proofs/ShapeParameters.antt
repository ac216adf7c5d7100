-- Parameters in order have the form of parameters, where those behind a star are given by keyword alone.
use Rattle.std.proofs.Common.{◌≡◌, ℕ, ◌||◌, Bool, true, false, if◌then◌else◌, List, [], ◌∷◌, ◌++◌, inl, inr, refl, ap, subst, ◌∙◌, Option, Some, None}
use Rattle.lint_values.specs.declared.place.Pos.{Pos}
use Rattle.tree_nodes.specs.declared.kind.Kind.{Kind}
use Rattle.tree_nodes.specs.declared.kind.Kind.TheVariants as kinds
use Rattle.tree_nodes.specs.Trees.{Trees, Tree, pack}
use Rattle.tree_nodes.specs.Sorts.{Sort, annotation, star_annotation, parameter, positional_only_mark, keyword_only_mark, star_parameter, keyword_only_parameter, double_star_parameter, sort_of, is_named, IsOf, AreOf, only}
use Rattle.tree_nodes.specs.Shapes.{Part, Fits, FitsOneOf, one, maybe, many, shape, behind_parameters}
use Rattle.tree_nodes.specs.Shaped.{kinds_of, HasShape, AreShaped}
use Rattle.py_language.specs.Languages.{Then, Maybe, Made, Where}
use Rattle.py_language.specs.Forms.{Forms, FormsOneOf, AreOfSorts}
use Rattle.py_language.proofs.FormLaws.{form_made}
use Rattle.py_grammar.specs.declared.stage.Stage.{Stage}
use Rattle.py_grammar.specs.declared.stage.Stage.TheVariants as stages
use Rattle.py_grammar.specs.Terminals.{Terminal, Form}
use Rattle.py_grammar.specs.Tests.{ends_with_default, next_stage, may_end, parameters_from, parameters_in_order, keyword_only, is_star, with_keyword_only}
use Rattle.py_grammar.specs.Words.{star as star_mark}
use Rattle.py_grammar.specs.Nodes.{Token}
use Rattle.py_grammar.specs.Expressions.{keyword_only_behind_star, star_parameter as star_node}
use Rattle.py_grammar.proofs.ShapeBasics.{IsA, never, sorts_say, behind, form_perhaps, forms_same}
use Rattle.py_grammar.proofs.ShapeBrackets.{AreGood, good_node, row_none, row_more}

-- what a list of parameters has
abbrev pub parameters : List Sort
parameters = parameter ∷ positional_only_mark ∷ keyword_only_mark ∷ star_parameter ∷ double_star_parameter ∷ []

-- ---- what may stand behind each stage

-- behind a star, and behind `/`
abbrev keywords : List Part
keywords = many (only keyword_only_parameter) ++ maybe (only double_star_parameter)

abbrev behind_mark : List Part
behind_mark = many (only parameter) ++ maybe (star_parameter ∷ keyword_only_mark ∷ []) ++ keywords

-- a row of parameters in which the mark may still stand
abbrev before_mark : List (List Part)
before_mark = (many (only parameter) ++ one (only positional_only_mark) ++ behind_mark) ∷ behind_mark ∷ []

abbrev forms_behind : Stage → List (List Part)
forms_behind stages.Start = behind_parameters []
forms_behind stages.Plain = before_mark
forms_behind stages.Defaulted = before_mark
forms_behind stages.PlainBehindSlash = behind_mark ∷ []
forms_behind stages.DefaultedBehindSlash = behind_mark ∷ []
forms_behind stages.BareStar = keywords ∷ []
forms_behind stages.Keywords = keywords ∷ []
forms_behind stages.End = [] ∷ []

-- behind a star
abbrev is_behind_star : Stage → Bool
is_behind_star stages.BareStar = true
is_behind_star stages.Keywords = true
is_behind_star stage = false

-- ---- the kinds of parameters

data IsParameter : Kind → Type 0 where
  plain : IsParameter kinds.Parameter
  slash_mark : IsParameter kinds.PositionalOnlyMark
  bare_star : IsParameter kinds.KeywordOnlyMark
  star : IsParameter kinds.StarParameter
  double_star : IsParameter kinds.DoubleStarParameter

abbrev is_parameter_sort : Sort → Bool
is_parameter_sort parameter = true
is_parameter_sort positional_only_mark = true
is_parameter_sort keyword_only_mark = true
is_parameter_sort star_parameter = true
is_parameter_sort double_star_parameter = true
is_parameter_sort sort = false

is_parameter : (kind : Kind) → IsOf parameters kind → IsParameter kind
unfolding sort_of
is_parameter kind h = go kind (sorts_say is_parameter_sort parameters kind h refl)
  where
    go : (k : Kind) → is_parameter_sort (sort_of k) ≡ true → IsParameter k
    go kinds.Parameter e = plain
    go kinds.PositionalOnlyMark e = slash_mark
    go kinds.KeywordOnlyMark e = bare_star
    go kinds.StarParameter e = star
    go kinds.DoubleStarParameter e = double_star
    go k e = never e

-- ---- a list of parameters

-- none stands behind `**`
none_behind_last : (u : List Tree) → parameters_from (Some stages.End) u ≡ true → u ≡ []
none_behind_last [] h = refl
none_behind_last (t ∷ u) h = go t.node.kind t.node.pos t.node.end_line t.node.name t.kids h
  where
    go : (kind : Kind) (pos : Pos) (end_line : ℕ) (name : Option (List ℕ)) (kids : Trees)
        → parameters_from (next_stage stages.End (record { node = record { kind = kind; pos = pos; end_line = end_line; name = name }; kids = kids })) u ≡ true → t ∷ u ≡ []
    go kinds.PositionalOnlyMark pos end_line name kids e = never e
    go kinds.KeywordOnlyMark pos end_line name kids e = never e
    go kinds.StarParameter pos end_line name kids e = never e
    go kinds.DoubleStarParameter pos end_line name kids e = never e
    go kind pos end_line name kids e = never e

-- the kinds of a list behind a stage
abbrev kinds_behind : Stage → List Tree → List Kind
kinds_behind stage u = kinds_of (pack (with_keyword_only (is_behind_star stage) u))

-- a parameter before a rest that has the parameters' forms
more_before_mark : (ks : List Kind) → FitsOneOf before_mark ks → FitsOneOf before_mark (kinds.Parameter ∷ ks)
unfolding sort_of
more_before_mark ks h =
    elim h [
      | inl g ↦ inl (row_more (only parameter) (one (only positional_only_mark) ++ behind_mark) kinds.Parameter ks (inl refl) g)
      | inr g ↦ elim g [ inl k ↦ inr (inl (row_more (only parameter) (maybe (star_parameter ∷ keyword_only_mark ∷ []) ++ keywords) kinds.Parameter ks (inl refl) k)) | inr k ↦ absurd k ]
    ]

first_before_mark : (ks : List Kind) → FitsOneOf before_mark ks → FitsOneOf (behind_parameters []) (kinds.Parameter ∷ ks)
unfolding sort_of
first_before_mark ks h =
    elim h [
      | inl g ↦ inl (inl refl, g)
      | inr g ↦ elim g [ inl k ↦ inr (inl (row_more (only parameter) (maybe (star_parameter ∷ keyword_only_mark ∷ []) ++ keywords) kinds.Parameter ks (inl refl) k)) | inr k ↦ absurd k ]
    ]

more_behind_mark : (ks : List Kind) → FitsOneOf (behind_mark ∷ []) ks → FitsOneOf (behind_mark ∷ []) (kinds.Parameter ∷ ks)
unfolding sort_of
more_behind_mark ks h = elim h [ inl k ↦ inl (row_more (only parameter) (maybe (star_parameter ∷ keyword_only_mark ∷ []) ++ keywords) kinds.Parameter ks (inl refl) k) | inr k ↦ absurd k ]

more_keywords : (ks : List Kind) → FitsOneOf (keywords ∷ []) ks → FitsOneOf (keywords ∷ []) (kinds.KeywordOnlyParameter ∷ ks)
unfolding sort_of
more_keywords ks h = elim h [ inl k ↦ inl (row_more (only keyword_only_parameter) (maybe (only double_star_parameter)) kinds.KeywordOnlyParameter ks (inl refl) k) | inr k ↦ absurd k ]

-- a star before keywords
star_before : (kind : Kind) (ks : List Kind) → IsOf (star_parameter ∷ keyword_only_mark ∷ []) kind → FitsOneOf (keywords ∷ []) ks → Fits behind_mark (kind ∷ ks)
star_before kind ks of h = row_none (only parameter) (maybe (star_parameter ∷ keyword_only_mark ∷ []) ++ keywords) (kind ∷ ks) (elim h [ inl k ↦ inr (of, k) | inr k ↦ absurd k ])

-- `/` before a rest
mark_before : (ks : List Kind) → FitsOneOf (behind_mark ∷ []) ks → FitsOneOf before_mark (kinds.PositionalOnlyMark ∷ ks)
unfolding sort_of
mark_before ks h = inl (row_none (only parameter) (one (only positional_only_mark) ++ behind_mark) (kinds.PositionalOnlyMark ∷ ks) (elim h [ inl k ↦ (inl refl, k) | inr k ↦ absurd k ]))

-- `**` last
last_in_keywords : (ks : List Kind) → ks ≡ [] → Fits keywords (kinds.DoubleStarParameter ∷ ks)
unfolding sort_of
last_in_keywords ks e = rw e (row_none (only keyword_only_parameter) (maybe (only double_star_parameter)) (kinds.DoubleStarParameter ∷ []) (inr (inl refl, refl)))

last_behind_mark : (ks : List Kind) → ks ≡ [] → Fits behind_mark (kinds.DoubleStarParameter ∷ ks)
last_behind_mark ks e = row_none (only parameter) (maybe (star_parameter ∷ keyword_only_mark ∷ []) ++ keywords) (kinds.DoubleStarParameter ∷ ks) (inl (last_in_keywords ks e))

no_kinds : (b : Bool) (u : List Tree) → u ≡ [] → kinds_of (pack (with_keyword_only b u)) ≡ []
no_kinds b [] e = refl
no_kinds b (t ∷ u) e = absurd cc

step : {kind : Kind} → IsParameter kind → (stage : Stage) (pos : Pos) (end_line : ℕ) (name : Option (List ℕ)) (kids : Trees) (u : List Tree)
    → ((s : Stage) → parameters_from (Some s) u ≡ true → FitsOneOf (forms_behind s) (kinds_behind s u))
    → parameters_from (next_stage stage (record { node = record { kind = kind; pos = pos; end_line = end_line; name = name }; kids = kids })) u ≡ true
    → FitsOneOf (forms_behind stage) (kinds_behind stage (record { node = record { kind = kind; pos = pos; end_line = end_line; name = name }; kids = kids } ∷ u))
unfolding sort_of
step plain stages.Start pos end_line name kids u more h = first_before_mark (kinds_behind stages.Plain u) (either (ends_with_default kids) h)
  where
    either : (d : Bool) → parameters_from (if d then Some stages.Defaulted else Some stages.Plain) u ≡ true → FitsOneOf before_mark (kinds_behind stages.Plain u)
    either true e = more stages.Defaulted e
    either false e = more stages.Plain e
step plain stages.Plain pos end_line name kids u more h = more_before_mark (kinds_behind stages.Plain u) (either (ends_with_default kids) h)
  where
    either : (d : Bool) → parameters_from (if d then Some stages.Defaulted else Some stages.Plain) u ≡ true → FitsOneOf before_mark (kinds_behind stages.Plain u)
    either true e = more stages.Defaulted e
    either false e = more stages.Plain e
step plain stages.Defaulted pos end_line name kids u more h = more_before_mark (kinds_behind stages.Plain u) (defaulted (ends_with_default kids) h)
  where
    defaulted : (d : Bool) → parameters_from (if d then Some stages.Defaulted else None) u ≡ true → FitsOneOf before_mark (kinds_behind stages.Plain u)
    defaulted true e = more stages.Defaulted e
    defaulted false e = never e
step plain stages.PlainBehindSlash pos end_line name kids u more h = more_behind_mark (kinds_behind stages.Plain u) (either (ends_with_default kids) h)
  where
    either : (d : Bool) → parameters_from (if d then Some stages.DefaultedBehindSlash else Some stages.PlainBehindSlash) u ≡ true → FitsOneOf (behind_mark ∷ []) (kinds_behind stages.Plain u)
    either true e = more stages.DefaultedBehindSlash e
    either false e = more stages.PlainBehindSlash e
step plain stages.DefaultedBehindSlash pos end_line name kids u more h = more_behind_mark (kinds_behind stages.Plain u) (defaulted (ends_with_default kids) h)
  where
    defaulted : (d : Bool) → parameters_from (if d then Some stages.DefaultedBehindSlash else None) u ≡ true → FitsOneOf (behind_mark ∷ []) (kinds_behind stages.Plain u)
    defaulted true e = more stages.DefaultedBehindSlash e
    defaulted false e = never e
step plain stages.BareStar pos end_line name kids u more h = more_keywords (kinds_behind stages.Keywords u) (more stages.Keywords h)
step plain stages.Keywords pos end_line name kids u more h = more_keywords (kinds_behind stages.Keywords u) (more stages.Keywords h)
step plain stages.End pos end_line name kids u more h = never h
step slash_mark stages.Plain pos end_line name kids u more h = mark_before (kinds_behind stages.Plain u) (more stages.PlainBehindSlash h)
step slash_mark stages.Defaulted pos end_line name kids u more h = mark_before (kinds_behind stages.Plain u) (more stages.DefaultedBehindSlash h)
step slash_mark stage pos end_line name kids u more h = never h
step bare_star stages.Start pos end_line name kids u more h = inr (inl (star_before kinds.KeywordOnlyMark (kinds_behind stages.BareStar u) (inr (inl refl)) (more stages.BareStar h)))
step bare_star stages.Plain pos end_line name kids u more h = inr (inl (star_before kinds.KeywordOnlyMark (kinds_behind stages.BareStar u) (inr (inl refl)) (more stages.BareStar h)))
step bare_star stages.Defaulted pos end_line name kids u more h = inr (inl (star_before kinds.KeywordOnlyMark (kinds_behind stages.BareStar u) (inr (inl refl)) (more stages.BareStar h)))
step bare_star stages.PlainBehindSlash pos end_line name kids u more h = inl (star_before kinds.KeywordOnlyMark (kinds_behind stages.BareStar u) (inr (inl refl)) (more stages.BareStar h))
step bare_star stages.DefaultedBehindSlash pos end_line name kids u more h = inl (star_before kinds.KeywordOnlyMark (kinds_behind stages.BareStar u) (inr (inl refl)) (more stages.BareStar h))
step bare_star stage pos end_line name kids u more h = never h
step star stages.Start pos end_line name kids u more h = inr (inl (star_before kinds.StarParameter (kinds_behind stages.Keywords u) (inl refl) (more stages.Keywords h)))
step star stages.Plain pos end_line name kids u more h = inr (inl (star_before kinds.StarParameter (kinds_behind stages.Keywords u) (inl refl) (more stages.Keywords h)))
step star stages.Defaulted pos end_line name kids u more h = inr (inl (star_before kinds.StarParameter (kinds_behind stages.Keywords u) (inl refl) (more stages.Keywords h)))
step star stages.PlainBehindSlash pos end_line name kids u more h = inl (star_before kinds.StarParameter (kinds_behind stages.Keywords u) (inl refl) (more stages.Keywords h))
step star stages.DefaultedBehindSlash pos end_line name kids u more h = inl (star_before kinds.StarParameter (kinds_behind stages.Keywords u) (inl refl) (more stages.Keywords h))
step star stage pos end_line name kids u more h = never h
step double_star stages.Start pos end_line name kids u more h = inr (inl (last_behind_mark (kinds_behind stages.Plain u) (no_kinds false u (none_behind_last u h))))
step double_star stages.Plain pos end_line name kids u more h = inr (inl (last_behind_mark (kinds_behind stages.Plain u) (no_kinds false u (none_behind_last u h))))
step double_star stages.Defaulted pos end_line name kids u more h = inr (inl (last_behind_mark (kinds_behind stages.Plain u) (no_kinds false u (none_behind_last u h))))
step double_star stages.PlainBehindSlash pos end_line name kids u more h = inl (last_behind_mark (kinds_behind stages.Plain u) (no_kinds false u (none_behind_last u h)))
step double_star stages.DefaultedBehindSlash pos end_line name kids u more h = inl (last_behind_mark (kinds_behind stages.Plain u) (no_kinds false u (none_behind_last u h)))
step double_star stages.Keywords pos end_line name kids u more h = inl (last_in_keywords (kinds_behind stages.Keywords u) (no_kinds true u (none_behind_last u h)))
step double_star stage pos end_line name kids u more h = never h

nothing_behind : (stage : Stage) → may_end stage ≡ true → FitsOneOf (forms_behind stage) []
nothing_behind stages.Start h = inr (inl ([], [], refl, tt, ([], [], refl, tt, refl)))
nothing_behind stages.Plain h = inr (inl ([], [], refl, tt, ([], [], refl, tt, refl)))
nothing_behind stages.Defaulted h = inr (inl ([], [], refl, tt, ([], [], refl, tt, refl)))
nothing_behind stages.PlainBehindSlash h = inl ([], [], refl, tt, ([], [], refl, tt, refl))
nothing_behind stages.DefaultedBehindSlash h = inl ([], [], refl, tt, ([], [], refl, tt, refl))
nothing_behind stages.BareStar h = never h
nothing_behind stages.Keywords h = inl ([], [], refl, tt, refl)
nothing_behind stages.End h = inl refl

in_order_fits : (u : List Tree) (stage : Stage) → AreOf parameters (kinds_of (pack u)) → parameters_from (Some stage) u ≡ true → FitsOneOf (forms_behind stage) (kinds_behind stage u)
in_order_fits [] stage of h = nothing_behind stage h
in_order_fits (t ∷ u) stage of h = step (is_parameter t.node.kind of.0) stage t.node.pos t.node.end_line t.node.name t.kids u (λ s e. in_order_fits u s of.1 e) h

-- ---- in shape

keyword_shaped : (kind : Kind) (pos : Pos) (end_line : ℕ) (name : Option (List ℕ)) (kids : Trees) → HasShape (record { kind = kind; pos = pos; end_line = end_line; name = name }) (kinds_of kids) → AreShaped kids
    → AreShaped (pack (keyword_only (record { node = record { kind = kind; pos = pos; end_line = end_line; name = name }; kids = kids }) ∷ []))
unfolding shape is_named
keyword_shaped kinds.Parameter pos end_line name kids h s = (record { fits = h.fits; named = h.named }, s, tt)
keyword_shaped kind pos end_line name kids h s = (h, s, tt)

with_keywords_shaped : (b : Bool) (u : List Tree) → AreShaped (pack u) → AreShaped (pack (with_keyword_only b u))
with_keywords_shaped b [] s = tt
with_keywords_shaped b (t ∷ u) s = let first = one b in (first.0, first.1, with_keywords_shaped (b || is_star t.node.kind) u s.2)
  where
    one : (c : Bool) → AreShaped (pack ((if c then keyword_only t else t) ∷ []))
    one true = keyword_shaped t.node.kind t.node.pos t.node.end_line t.node.name t.kids s.0 s.1
    one false = (s.0, s.1, tt)

-- parameters in order
pub are_parameters : {a : Form} → AreOfSorts parameters a → FormsOneOf (behind_parameters []) (Made keyword_only_behind_star (Where parameters_in_order a))
are_parameters A = record {
  shaped = λ ts out h. rw h.trees (with_keywords_shaped false h.parts (A.shaped ts h.parts h.spelled.0));
  fits = λ ts out h. rw h.trees (in_order_fits h.parts stages.Start (A.each ts h.parts h.spelled.0) h.spelled.1);
}

-- `*`, or `*` and a name with maybe an annotation
pub a_star : {a : Form} → Forms (maybe (annotation ∷ star_annotation ∷ [])) a → ((out : List Tree) → a [] out → ⊥) → IsA parameters (Made star_node (Then (Token star_mark) (Maybe a)))
unfolding shape sort_of is_named
a_star {a} A begins = form_made (one parameters) star_node (λ ts u h. (go ts u h (all.shaped ts u h) (all.fits ts u h)).0) (λ ts u h. (go ts u h (all.shaped ts u h) (all.fits ts u h)).1)
  where
    all : Forms (maybe (annotation ∷ star_annotation ∷ [])) (Then (Token star_mark) (Maybe a))
    all = behind star_mark (form_perhaps A refl)

    no_tokens : (f b : List Terminal) (k : Terminal) → [] ≡ f ++ b → f ≡ k ∷ [] → ⊥
    no_tokens [] b k e f_is = absurd cc
    no_tokens (x ∷ f) b k e f_is = absurd cc

    one_token : (t k : Terminal) (f b : List Terminal) → t ∷ [] ≡ f ++ b → f ≡ k ∷ [] → b ≡ []
    one_token t k [] b e f_is = absurd cc
    one_token t k (x ∷ []) b e f_is = cc
    one_token t k (x ∷ y ∷ f) b e f_is = absurd cc

    nothing : (xs : List Terminal) (v : List Tree) → xs ≡ [] → Maybe a xs v → v ≡ []
    nothing xs v e h = elim h [ inl g ↦ absurd (begins v (subst (λ (ys : List Terminal). a ys v) e g)) | inr g ↦ g.1 ]

    go : (ts : List Terminal) (u : List Tree) → Then (Token star_mark) (Maybe a) ts u → AreShaped (pack u) → Fits (maybe (annotation ∷ star_annotation ∷ [])) (kinds_of (pack u)) → AreGood (one parameters) (star_node ts u)
    go [] u h s fit = absurd (no_tokens h.front h.back h.first.token h.tokens h.first.tokens)
    go (t ∷ []) u h s fit =
        let none : u ≡ [] = h.trees ∙ ap (λ (v : List Tree). v ++ h.back_out) h.first.trees ∙ nothing h.back h.back_out (one_token t h.first.token h.front h.back h.tokens h.first.tokens) h.second in
        good_node kinds.KeywordOnlyMark parameters (t ∷ []) u (inl (ap (λ (v : List Tree). kinds_of (pack v)) none)) refl (inr (inr (inl refl))) s
    go (t ∷ k ∷ ts) u h s fit = ((record { fits = inl fit; named = refl }, s, tt), (inr (inr (inr (inl refl))), refl))

-- or no parameters
pub perhaps_parameters : {a : Form} → FormsOneOf (behind_parameters []) a → FormsOneOf (behind_parameters []) (Maybe a)
perhaps_parameters A = forms_same A (record { shaped = λ ts out h. rw h.1 tt; fits = λ ts out h. rw h.1 (inr (inl ([], [], refl, tt, ([], [], refl, tt, refl)))) })
