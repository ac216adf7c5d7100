-- In a tree in shape, each numbered node has a form of its kind over the kinds of its numbered kids.
use Rattle.std.proofs.Common.{◌≡◌, ℕ, ◌+◌, ◌<◌, List, [], ◌∷◌, map, refl, sym, ap, subst, ◌∙◌, Option, Some, None, inl}
use Rattle.tree_nodes.specs.declared.kind.Kind.{Kind}
use Rattle.tree_nodes.specs.Trees.{Node, Trees, none, tree, Tree, size, count_of, numbers, Entry, entry_of, entries_from, entry_at, node_at, kids_at}
use Rattle.tree_nodes.specs.Shaped.{kinds_of, HasShape, AreShaped, IsShaped}
use Rattle.tree_nodes.proofs.EntryLaws.{IsAt, at-kids, at-rest, at-cases, alone, at-entry, entry-at}

-- the entries of some numbers have these kinds
abbrev KindsAt : ℕ → List Entry → List ℕ → List Kind → Type 0
KindsAt n es [] [] = Unit {0}
KindsAt n es [] (kind ∷ kinds) = ⊥
KindsAt n es (j ∷ js) [] = ⊥
KindsAt n es (j ∷ js) (kind ∷ kinds) = ((e : Entry) × IsAt n es j e × (e.node.kind ≡ kind)) × KindsAt n es js kinds

kinds-moved : (n m : ℕ) (es fs : List Entry) → ((k : ℕ) (e : Entry) → IsAt n es k e → IsAt m fs k e) → (js : List ℕ) (kinds : List Kind) → KindsAt n es js kinds → KindsAt m fs js kinds
kinds-moved n m es fs move [] [] h = tt
kinds-moved n m es fs move [] (kind ∷ kinds) h = absurd h
kinds-moved n m es fs move (j ∷ js) [] h = absurd h
kinds-moved n m es fs move (j ∷ js) (kind ∷ kinds) h = ((h.0.0, move j h.0.0 h.0.1, h.0.2), kinds-moved n m es fs move js kinds h.1)

kinds-top : (ts : Trees) (n : ℕ) (p : Option ℕ) → KindsAt n (entries_from n p ts) (numbers n ts) (kinds_of ts)
kinds-top none n p = tt
kinds-top (tree node kids rest) n p = (
  (entry_of n p node kids, inl (refl, refl), refl),
  kinds-moved (n + (1 + size kids)) n (entries_from (n + (1 + size kids)) p rest) (entries_from n p (tree node kids rest)) (λ k e h. at-rest node kids rest n p k e h) (numbers (n + (1 + size kids)) rest) (kinds_of rest) (kinds-top rest (n + (1 + size kids)) p),
)

-- a node in shape, and the kinds of its kids among the entries
record ShapedAt (n : ℕ) (es : List Entry) (e : Entry) : Type 0 where
  kinds : List Kind
  shaped : HasShape e.node kinds
  kids : KindsAt n es e.kids kinds

shaped-moved : (n m : ℕ) (es fs : List Entry) (e : Entry) → ((k : ℕ) (f : Entry) → IsAt n es k f → IsAt m fs k f) → ShapedAt n es e → ShapedAt m fs e
shaped-moved n m es fs e move h = record { kinds = h.kinds; shaped = h.shaped; kids = kinds-moved n m es fs move e.kids h.kinds h.kids }

shaped-here : (node : Node) (kids rest : Trees) (n : ℕ) (p : Option ℕ) (e : Entry) → HasShape node (kinds_of kids) → entry_of n p node kids ≡ e → ShapedAt n (entries_from n p (tree node kids rest)) e
shaped-here node kids rest n p e shaped same =
    subst (λ (f : Entry). ShapedAt n (entries_from n p (tree node kids rest)) f) same
    (record { kinds = kinds_of kids; shaped = shaped; kids = kinds-moved (n + 1) n (entries_from (n + 1) (Some n) kids) (entries_from n p (tree node kids rest)) (λ k f h. at-kids node kids rest n p k f h) (numbers (n + 1) kids) (kinds_of kids) (kinds-top kids (n + 1) (Some n)) })

shaped-entry : (ts : Trees) (n : ℕ) (p : Option ℕ) (k : ℕ) (e : Entry) → AreShaped ts → IsAt n (entries_from n p ts) k e → ShapedAt n (entries_from n p ts) e
shaped-entry none n p k e shaped h = absurd h
shaped-entry (tree node kids rest) n p k e shaped h =
    at-cases node kids rest n p k e (λ here. shaped-here node kids rest n p e shaped.0 here.1)
    (λ there. shaped-moved (n + 1) n (entries_from (n + 1) (Some n) kids) (entries_from n p (tree node kids rest)) e (λ j f i. at-kids node kids rest n p j f i) (shaped-entry kids (n + 1) (Some n) k e shaped.1 there))
    (λ there. shaped-moved (n + (1 + size kids)) n (entries_from (n + (1 + size kids)) p rest) (entries_from n p (tree node kids rest)) e (λ j f i. at-rest node kids rest n p j f i) (shaped-entry rest (n + (1 + size kids)) p k e shaped.2 there)) h

kinds-are : (t : Tree) (js : List ℕ) (kinds : List Kind) → KindsAt 0 (entries_from 0 None (alone t)) js kinds → map (λ j. (node_at t j).kind) js ≡ kinds
kinds-are t [] [] h = refl
kinds-are t [] (kind ∷ kinds) h = absurd h
kinds-are t (j ∷ js) [] h = absurd h
kinds-are t (j ∷ js) (kind ∷ kinds) h =
    let first : (node_at t j).kind ≡ kind = ap (λ (e : Entry). e.node.kind) (entry-at t j h.0.0 h.0.1) ∙ h.0.2 in
    let others = kinds-are t js kinds h.1 in
    rw (first, others) refl

-- each node of a tree in shape has one of its kind's forms, over the kinds of its kids
pub shaped-at : (t : Tree) (n : ℕ) → IsShaped t → n < count_of t → HasShape (node_at t n) (map (λ k. (node_at t k).kind) (kids_at t n))
shaped-at t n shaped l =
    let here = shaped-entry (alone t) 0 None n (entry_at t n) (shaped.node, shaped.below, tt) (at-entry t n l) in
    subst (λ (ks : List Kind). HasShape (node_at t n) ks) (sym (kinds-are t (kids_at t n) here.kinds here.kids)) here.shaped
