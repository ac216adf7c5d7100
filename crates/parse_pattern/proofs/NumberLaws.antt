-- Numbers as patterns: the letter at their end tells whether they are imaginary.
use Rattle.std.proofs.Common.{◌≡◌, ℕ, ◌-◌, Bool, true, false, if◌then◌else◌, ◌&&◌, List, [], ◌∷◌, ◌++◌, length, take, drop, refl, sym, ap, ◌∙◌, append_assoc, arith}
use Rattle.std.proofs.lemmas.List.{drop_at}
use Rattle.tree_nodes.specs.Trees.{Node, Tree, none, tree}
use Rattle.tree_nodes.specs.declared.kind.Kind.TheVariants as kinds
use Rattle.py_language.specs.Sets.{mem, at}
use Rattle.py_language.specs.Readers.{Read, got, fails, behind, before, after, both, shown, optional, make, filter}
use Rattle.py_language.specs.Languages.{whole, row}
use Rattle.py_grammar.specs.declared.entry.Entry.{Entry}
use Rattle.py_grammar.specs.declared.symbol.Symbol.{Symbol}
use Rattle.py_grammar.specs.declared.symbol.Symbol.TheVariants as s
use Rattle.py_grammar.specs.Symbols.{number_of}
use Rattle.py_grammar.specs.Terminals.{Terminal, code}
use Rattle.py_grammar.specs.Words.{number, minus, sum_operator}
use Rattle.py_grammar.specs.Nodes.{spanning, last_text, atom_leaf, operator_leaf}
use Rattle.py_grammar.specs.Patterns.{is_imaginary, is_imaginary_text, is_complex}
use Rattle.py_grammar.specs.Reading.{LineReader, token, leaf, as_}
use Rattle.py_forest.specs.declared.fault.Fault.TheVariants as faults
use Rattle.parse_steps.proofs.Runs.{behind_filter}
use Rattle.parse_steps.proofs.Loops.{behind_after, made_done, failed_make}
use Rattle.py_grammar.specs.ReadingPatterns.{signed_number_at, number_pattern_at}

-- a number alone says it itself
number_says : (t : Terminal) → mem (code t) number ≡ true → is_imaginary (record { node = atom_leaf t; kids = none }) ≡ is_imaginary_text t.text
number_says t h = go t.symbol h
  where
    go : (x : Symbol) → mem (number_of x) number ≡ true → is_imaginary (record { node = atom_leaf (record { symbol = x; pos = t.pos; end_line = t.end_line; text = t.text }); kids = none }) ≡ is_imaginary_text t.text
    go s.NoneWord h = absurd cc
    go s.TrueWord h = absurd cc
    go s.FalseWord h = absurd cc
    go s.Ellipsis h = absurd cc
    go x h = refl

-- what was read is one tree
pub record IsNumber (u : List Tree) (ts rest : List Terminal) : Type 0 where
  pub number : Tree
  pub alone : u ≡ number ∷ []
  pub says : is_imaginary number ≡ is_imaginary_text (last_text (before ts rest))

before-one : (t : Terminal) (ts : List Terminal) → before (t ∷ ts) ts ≡ t ∷ []
before-one t ts = let e : length (t ∷ ts) - length ts ≡ 1 = omega arith in rw e refl

before-two : (t u : Terminal) (ts : List Terminal) → before (t ∷ u ∷ ts) ts ≡ t ∷ u ∷ []
before-two t u ts = let e : length (t ∷ u ∷ ts) - length ts ≡ 2 = omega arith in rw e refl

pub plain_number : (ts : List Terminal) (u : List Tree) (rest : List Terminal) → shown code atom_leaf number ts ≡ got u rest → IsNumber u ts rest
plain_number [] u rest e = absurd cc
plain_number (t ∷ ts) u rest e = go (mem (code t) number) refl e
  where
    go : (c : Bool) → mem (code t) number ≡ c → (if c then got (record { node = atom_leaf t; kids = none } ∷ []) ts else fails) ≡ got u rest → IsNumber u (t ∷ ts) rest
    go true h g =
        let same : ts ≡ rest = cc in
        let u_is : u ≡ record { node = atom_leaf t; kids = none } ∷ [] = cc in
        let one = before-one t ts in
        record { number = record { node = atom_leaf t; kids = none }; alone = u_is; says = number_says t h ∙ rw (sym same, one) refl }
    go false h g = absurd cc

minus_says : (t : Terminal) (ts : List Terminal) → mem (code t) number ≡ true → is_imaginary (record { node = spanning kinds.UnaryMinus ts; kids = tree (atom_leaf t) none none }) ≡ is_imaginary_text t.text
minus_says t ts h = go t.symbol h
  where
    go : (x : Symbol) → mem (number_of x) number ≡ true
        → is_imaginary (record { node = spanning kinds.UnaryMinus ts; kids = tree (atom_leaf (record { symbol = x; pos = t.pos; end_line = t.end_line; text = t.text })) none none }) ≡ is_imaginary_text t.text
    go s.NoneWord h = absurd cc
    go s.TrueWord h = absurd cc
    go s.FalseWord h = absurd cc
    go s.Ellipsis h = absurd cc
    go x h = refl

abbrev pub behind_minus : LineReader
behind_minus = as_ kinds.UnaryMinus (both (token minus) (leaf atom_leaf number))

minus_number : (ts : List Terminal) (u : List Tree) (rest : List Terminal) → behind_minus ts ≡ got u rest → IsNumber u ts rest
minus_number [] u rest e = absurd cc
minus_number (t ∷ ts) u rest e = go (mem (code t) minus) ts e
  where
    last : (c : Bool) (v : Terminal) (vs : List Terminal) → mem (code v) number ≡ c
        → make (whole (spanning kinds.UnaryMinus)) (t ∷ v ∷ vs) (behind [] (if c then got (record { node = atom_leaf v; kids = none } ∷ []) vs else fails)) ≡ got u rest → IsNumber u (t ∷ v ∷ vs) rest
    last true v vs h g =
        let same : vs ≡ rest = cc in
        let two = before-two t v vs in
        let made : whole (spanning kinds.UnaryMinus) (before (t ∷ v ∷ vs) vs) (record { node = atom_leaf v; kids = none } ∷ []) ≡ u = cc in
        record { number = record { node = spanning kinds.UnaryMinus (t ∷ v ∷ []); kids = tree (atom_leaf v) none none }; alone = sym made ∙ rw two refl; says = minus_says v (t ∷ v ∷ []) h ∙ rw (sym same, two) refl }
    last false v vs h g = absurd cc

    go : (c : Bool) (vs : List Terminal) → make (whole (spanning kinds.UnaryMinus)) (t ∷ vs) (after (if c then got [] vs else fails) (leaf atom_leaf number)) ≡ got u rest → IsNumber u (t ∷ vs) rest
    go true [] g = absurd cc
    go true (v ∷ vs) g = last (mem (code v) number) v vs refl g
    go false vs g = absurd cc

pub signed_number : (self : Entry → LineReader) (ts : List Terminal) (u : List Tree) (rest : List Terminal) → signed_number_at self ts ≡ got u rest → IsNumber u ts rest
unfolding signed_number_at
signed_number self ts u rest e = go (at code number ts) e
  where
    go : (c : Bool) → (if c then shown code atom_leaf number ts else behind_minus ts) ≡ got u rest → IsNumber u ts rest
    go true h = plain_number ts u rest h
    go false h = minus_number ts u rest h

-- ---- what was read behind other trees

got_behind : (b m : List Tree) (r : Read Terminal) (rest : List Terminal) → behind b r ≡ got m rest → (u : List Tree) × (r ≡ got u rest) × (m ≡ b ++ u)
got_behind b m fails rest e = absurd cc
got_behind b m (got u mid) rest e = let mid_is : mid ≡ rest = cc in (u, ap (λ (w : List Terminal). got u w) mid_is, cc)

abbrev pub behind_sign : LineReader
behind_sign = both (leaf operator_leaf sum_operator) (leaf atom_leaf number)

alone_is : (b : List Tree) (ts rest : List Terminal) (t : Tree) → at code sum_operator rest ≡ false
    → behind b (make (row (spanning kinds.Sum)) ts (filter is_complex (behind (t ∷ []) (if at code sum_operator rest then behind_sign rest else got [] rest)))) ≡ got (b ++ t ∷ []) rest
alone_is b ts rest t a = rw a refl

number_of_one : (self : Entry → LineReader) (b u : List Tree) (ts rest : List Terminal) (t : Tree) → signed_number_at self ts ≡ got u rest → u ≡ t ∷ [] → at code sum_operator rest ≡ false → behind b (number_pattern_at self ts) ≡ got (b ++ u) rest
unfolding number_pattern_at
number_of_one self b u ts rest t f one a = rw (f, one) (alone_is b ts rest t a)

-- a number alone
pub number_alone : (self : Entry → LineReader) (b m : List Tree) (ts rest : List Terminal) → behind b (signed_number_at self ts) ≡ got m rest → at code sum_operator rest ≡ false → behind b (number_pattern_at self ts) ≡ got m rest
number_alone self b m ts rest e a =
    let (u, f, m_is) = got_behind b m (signed_number_at self ts) rest e in
    let one = signed_number self ts u rest f in
    number_of_one self b u ts rest one.number f one.alone a ∙ ap (λ (w : List Tree). got w rest) (sym m_is)

shown_one : (node_of : Terminal → Node) (set : List ℕ) (ts : List Terminal) (u : List Tree) (rest : List Terminal) → shown code node_of set ts ≡ got u rest → (t : Tree) × (u ≡ t ∷ [])
shown_one node_of set [] u rest e = absurd cc
shown_one node_of set (t ∷ ts) u rest e = go (mem (code t) set) e
  where
    go : (c : Bool) → (if c then got (record { node = node_of t; kids = none } ∷ []) ts else fails) ≡ got u rest → (t : Tree) × (u ≡ t ∷ [])
    go true h = (record { node = node_of t; kids = none }, cc)
    go false h = absurd cc

parts_say : (b m1 m2 m3 u1 u2 u3 : List Tree) (x y z : Tree) (c d : Bool) → m1 ≡ b ++ u1 → m2 ≡ m1 ++ u2 → m3 ≡ m2 ++ u3 → u1 ≡ x ∷ [] → u2 ≡ y ∷ [] → u3 ≡ z ∷ [] → is_imaginary x ≡ c → is_imaginary z ≡ d → is_complex (drop (length b) m3) ≡ ((if c then false else true) && d)
parts_say b m1 m2 m3 u1 u2 u3 x y z c d i1 i2 i3 s1 s2 s3 h h' =
    let parts : m3 ≡ b ++ (x ∷ y ∷ z ∷ []) = rw (i3, i2, i1, s1, s2, s3, append_assoc b (x ∷ []) (y ∷ []), append_assoc b (x ∷ y ∷ []) (z ∷ [])) refl in
    let e = drop_at b (x ∷ y ∷ z ∷ []) (length b) refl in
    rw (parts, e) (says h h')
  where
    says : is_imaginary x ≡ c → is_imaginary z ≡ d → is_complex (x ∷ y ∷ z ∷ []) ≡ ((if c then false else true) && d)
    says g g' = rw (g, g') refl

-- the letters tell whether a number, a sign and a number are a complex one
pub complex_is : (self : Entry → LineReader) (b m1 m2 m3 : List Tree) (ts r1 r2 r3 : List Terminal) → behind b (signed_number_at self ts) ≡ got m1 r1 → behind m1 (leaf operator_leaf sum_operator r1) ≡ got m2 r2 → behind m2 (leaf atom_leaf number r2) ≡ got m3 r3
    → is_complex (drop (length b) m3) ≡ ((if is_imaginary_text (last_text (before ts r1)) then false else true) && is_imaginary_text (last_text (before r2 r3)))
complex_is self b m1 m2 m3 ts r1 r2 r3 e1 e2 e3 =
    let (u1, f1, i1) = got_behind b m1 (signed_number_at self ts) r1 e1 in
    let (u2, f2, i2) = got_behind m1 m2 (leaf operator_leaf sum_operator r1) r2 e2 in
    let (u3, f3, i3) = got_behind m2 m3 (leaf atom_leaf number r2) r3 e3 in
    let real = signed_number self ts u1 r1 f1 in
    let (sign, s1) = shown_one operator_leaf sum_operator r1 u2 r2 f2 in
    let imaginary = plain_number r2 u3 r3 f3 in
    parts_say b m1 m2 m3 u1 u2 u3 real.number sign imaginary.number (is_imaginary_text (last_text (before ts r1))) (is_imaginary_text (last_text (before r2 r3))) i1 i2 i3 real.alone s1 imaginary.alone real.says imaginary.says

pub number_filtered : (self : Entry → LineReader) (b m1 m2 m3 : List Tree) (ts r1 r2 r3 : List Terminal) → behind b (signed_number_at self ts) ≡ got m1 r1 → at code sum_operator r1 ≡ true → behind m1 (leaf operator_leaf sum_operator r1) ≡ got m2 r2 → behind m2 (leaf atom_leaf number r2) ≡ got m3 r3
    → behind b (filter is_complex (both (signed_number_at self) (optional code sum_operator behind_sign) ts))
    ≡ (if (if is_imaginary_text (last_text (before ts r1)) then false else true) && is_imaginary_text (last_text (before r2 r3)) then got m3 r3 else fails)
number_filtered self b m1 m2 m3 ts r1 r2 r3 e1 a e2 e3 =
    let q = optional code sum_operator behind_sign in
    let here : q r1 ≡ behind_sign r1 = rw a refl in
    let read : behind b (both (signed_number_at self) q ts) ≡ got m3 r3 = behind_after b m1 (signed_number_at self ts) q r1 e1 ∙ ap (behind m1) here ∙ behind_after m1 m2 (leaf operator_leaf sum_operator r1) (leaf atom_leaf number) r2 e2 ∙ e3 in
    let is = complex_is self b m1 m2 m3 ts r1 r2 r3 e1 e2 e3 in
    behind_filter b is_complex (both (signed_number_at self) q ts) ∙ rw (read, is) refl

pub number_done : (self : Entry → LineReader) (b m1 m2 m3 out : List Tree) (ts r1 r2 r3 : List Terminal) (mark : ℕ) → behind b (signed_number_at self ts) ≡ got m1 r1 → at code sum_operator r1 ≡ true → behind m1 (leaf operator_leaf sum_operator r1) ≡ got m2 r2 → behind m2 (leaf atom_leaf number r2) ≡ got m3 r3
    → ((if is_imaginary_text (last_text (before ts r1)) then false else true) && is_imaginary_text (last_text (before r2 r3))) ≡ true → mark ≡ length b → out ≡ take mark m3 ++ row (spanning kinds.Sum) (before ts r3) (drop mark m3)
    → behind b (number_pattern_at self ts) ≡ got out r3
unfolding number_pattern_at
number_done self b m1 m2 m3 out ts r1 r2 r3 mark e1 a e2 e3 yes' l g =
    made_done (row (spanning kinds.Sum)) ts b m3 out mark (filter is_complex (both (signed_number_at self) (optional code sum_operator behind_sign) ts)) r3 (number_filtered self b m1 m2 m3 ts r1 r2 r3 e1 a e2 e3 ∙ rw yes' refl) l g

pub number_fails : (self : Entry → LineReader) (b m1 m2 m3 : List Tree) (ts r1 r2 r3 : List Terminal) → behind b (signed_number_at self ts) ≡ got m1 r1 → at code sum_operator r1 ≡ true → behind m1 (leaf operator_leaf sum_operator r1) ≡ got m2 r2 → behind m2 (leaf atom_leaf number r2) ≡ got m3 r3
    → ((if is_imaginary_text (last_text (before ts r1)) then false else true) && is_imaginary_text (last_text (before r2 r3))) ≡ false → behind b (number_pattern_at self ts) ≡ fails
unfolding number_pattern_at
number_fails self b m1 m2 m3 ts r1 r2 r3 e1 a e2 e3 no' =
    failed_make faults.NoForm b (row (spanning kinds.Sum)) ts (filter is_complex (both (signed_number_at self) (optional code sum_operator behind_sign) ts)) (number_filtered self b m1 m2 m3 ts r1 r2 r3 e1 a e2 e3 ∙ rw no' refl)
