-- An expression that can be bound is in shape as a target too: with the kind, the name and the kids of one.
use Rattle.std.proofs.Common.{◌≡◌, ℕ, Bool, true, false, ◌&&◌, if◌then◌else◌, List, [], ◌∷◌, inl, inr, refl, Option}
use Rattle.lint_values.specs.declared.place.Pos.{Pos}
use Rattle.tree_nodes.specs.declared.kind.Kind.{Kind}
use Rattle.tree_nodes.specs.declared.kind.Kind.TheVariants as kinds
use Rattle.tree_nodes.specs.Trees.{Node, Trees, none, tree, Tree, pack}
use Rattle.tree_nodes.specs.Sorts.{Sort, single_target, starred, sort_of, is_named, IsOf, AreOf, only, expression, target, any_target}
use Rattle.tree_nodes.specs.Shapes.{Part, Fits, FitsOneOf, one, shape}
use Rattle.tree_nodes.specs.Shaped.{kinds_of, HasShape, AreShaped}
use Rattle.py_language.proofs.KindLaws.{row_fits}
use Rattle.py_language.proofs.FormLaws.{form_made}
use Rattle.py_grammar.specs.Terminals.{Terminal, Form}
use Rattle.py_grammar.specs.Expressions.{bound, is_one_target, Target}
use Rattle.py_grammar.specs.Tests.{is_group, is_bindable, are_targets, is_target, target_node, as_targets, as_target, is_single}
use Rattle.py_grammar.proofs.ShapeBasics.{IsA, never, sorts_say}

-- both of two truths
pub both_true : (a b : Bool) → (a && b) ≡ true → (a ≡ true) × (b ≡ true)
both_true true b h = (refl, h)
both_true false b h = never h

-- ---- nodes as targets

-- trees as targets are in shape, each a target; and one expression makes one target without a star at its top
record AreBound (kids : Trees) : Type 0 where
  shaped : AreShaped (as_targets kids)
  each : AreOf any_target (kinds_of (as_targets kids))
  sole : Fits (one expression) (kinds_of kids) → Fits (one target) (kinds_of (as_targets kids))

-- the kids of a target
abbrev kids_bound : Kind → Trees → Trees
kids_bound kind kids = if is_group kind then as_targets kids else kids

-- a node and its kids as a target
record IsBound (node : Node) (kids : Trees) : Type 0 where
  shape : HasShape (target_node node) (kinds_of (kids_bound node.kind kids))
  shaped : AreShaped (kids_bound node.kind kids)
  sort : IsOf any_target (target_node node).kind
  plain : IsOf expression node.kind → IsOf target (target_node node).kind
  single : is_single node.kind ≡ true → IsOf (only single_target) (target_node node).kind

only_form : (form : List Part) (kids : List Kind) → FitsOneOf (form ∷ []) kids → Fits form kids
only_form form kids h = elim h [ inl g ↦ g | inr g ↦ absurd g ]

-- the sort is that of no star
abbrev is_no_star : Sort → Bool
is_no_star starred = false
is_no_star sort = true

node_bound : (kind : Kind) (pos : Pos) (end_line : ℕ) (name : Option (List ℕ)) (kids : Trees) → is_bindable kind ≡ true → HasShape (record { kind = kind; pos = pos; end_line = end_line; name = name }) (kinds_of kids) → AreShaped kids
    → (is_group kind ≡ true → AreBound kids) → IsBound (record { kind = kind; pos = pos; end_line = end_line; name = name }) kids
unfolding shape is_named sort_of
node_bound kinds.Name pos end_line name kids can h s inner = record { shape = record { fits = h.fits; named = h.named }; shaped = s; sort = inr (inl refl); plain = λ e. inl refl; single = λ e. inl refl }
node_bound kinds.Attribute pos end_line name kids can h s inner = record { shape = record { fits = h.fits; named = h.named }; shaped = s; sort = inr (inl refl); plain = λ e. inl refl; single = λ e. inl refl }
node_bound kinds.Subscript pos end_line name kids can h s inner = record { shape = record { fits = h.fits; named = h.named }; shaped = s; sort = inr (inl refl); plain = λ e. inl refl; single = λ e. inl refl }
node_bound kinds.Tuple pos end_line name kids can h s inner =
    let bound = inner refl in
    record { shape = record { fits = inl (row_fits any_target (kinds_of (as_targets kids)) bound.each); named = h.named }; shaped = bound.shaped; sort = inr (inr (inl refl)); plain = λ e. inr (inl refl); single = λ e. never e }
node_bound kinds.List pos end_line name kids can h s inner =
    let bound = inner refl in
    record { shape = record { fits = inl (row_fits any_target (kinds_of (as_targets kids)) bound.each); named = h.named }; shaped = bound.shaped; sort = inr (inr (inl refl)); plain = λ e. inr (inl refl); single = λ e. never e }
node_bound kinds.Starred pos end_line name kids can h s inner =
    let bound = inner refl in
    record {
      shape = record { fits = inl (bound.sole (only_form (one expression) (kinds_of kids) h.fits)); named = h.named };
      shaped = bound.shaped;
      sort = inl refl;
      plain = λ e. never (sorts_say is_no_star expression kinds.Starred e refl);
      single = λ e. never e;
    }
node_bound kind pos end_line name kids can h s inner = never can

group_bound : (b : Bool) (kids : Trees) → (if b then are_targets kids else true) ≡ true → b ≡ true → are_targets kids ≡ true
group_bound true kids h e = h
group_bound false kids h e = never e

all_bound : (ts : Trees) → are_targets ts ≡ true → AreShaped ts → AreBound ts
all_bound none h s = record { shaped = tt; each = tt; sole = λ e. e }
all_bound (tree node kids rest) h s =
    let (first, behind) = both_true (is_bindable node.kind && (if is_group node.kind then are_targets kids else true)) (are_targets rest) h in
    let (can, inside) = both_true (is_bindable node.kind) (if is_group node.kind then are_targets kids else true) first in
    let bound = node_bound node.kind node.pos node.end_line node.name kids can s.0 s.1 (λ e. all_bound kids (group_bound (is_group node.kind) kids inside e) s.1) in
    let more = all_bound rest behind s.2 in
    record {
      shaped = (bound.shape, bound.shaped, more.shaped);
      each = (bound.sort, more.each);
      sole = λ e. (bound.plain e.0, no_more rest e.1);
    }
  where
    no_more : (others : Trees) → kinds_of others ≡ [] → kinds_of (as_targets others) ≡ []
    no_more none e = refl
    no_more (tree n k r) e = absurd cc

-- ---- what is bound

-- an expression that can be bound, as a target
pub record IsTarget (t : Tree) : Type 0 where
  pub shaped : AreShaped (pack (as_target t ∷ []))
  pub sort : IsOf any_target (as_target t).node.kind
  pub plain : IsOf expression t.node.kind → IsOf target (as_target t).node.kind
  pub single : is_single t.node.kind ≡ true → IsOf (only single_target) (as_target t).node.kind

pub one_bound : (t : Tree) → is_target t ≡ true → AreShaped (pack (t ∷ [])) → IsTarget t
one_bound t h s =
    let (can, inside) = both_true (is_bindable t.node.kind) (if is_group t.node.kind then are_targets t.kids else true) h in
    let bound = node_bound t.node.kind t.node.pos t.node.end_line t.node.name t.kids can s.0 s.1 (λ e. all_bound t.kids (group_bound (is_group t.node.kind) t.kids inside e) s.1) in
    record { shaped = (bound.shape, bound.shaped, tt); sort = bound.sort; plain = bound.plain; single = bound.single }

pub a_target : {a : Form} (sorts : List Sort) → IsA sorts a → IsA any_target (Target a)
a_target {a} sorts A = form_made (one any_target) bound (λ ts u h. (go ts u h.1 (A.shaped ts u h.0)).0) (λ ts u h. (go ts u h.1 (A.shaped ts u h.0)).1)
  where
    go : (ts : List Terminal) (u : List Tree) → is_one_target u ≡ true → AreShaped (pack u) → AreShaped (pack (bound ts u)) × Fits (one any_target) (kinds_of (pack (bound ts u)))
    go ts [] h s = never h
    go ts (t ∷ []) h s = let b = one_bound t h s in (b.shaped, (b.sort, refl))
    go ts (t ∷ v ∷ u) h s = never h
