-- One more node, and one node fewer of those that are left.
use Rattle.std.proofs.Common.{◌≡◌, ℕ, suc, ◌+◌, ◌<◌, Bool, true, false, cond, List, [], ◌∷◌, ◌++◌, map, refl, sym, ap, ◌∙◌, append_assoc, arith}
use Rattle.std.specs.Prelude.{All}
use Rattle.std.proofs.lemmas.List.Sums.{sum_by-cons}
use Rattle.lint_values.specs.declared.place.FileId.{FileId}
use Rattle.lint_values.specs.declared.place.NodeId.{NodeId}
use Rattle.lint_messages.specs.declared.message.Message.{Message}
use Rattle.tree_nodes.specs.Trees.{Tree, count_of}
use Rattle.tree_nodes.specs.Kept.{number_of}
use Rattle.scope_rules.specs.Nodes.{kind_of}
use Rattle.rule_nodes.specs.Kinds.{is_statement}
use Rattle.flow_rules.specs.Nodes.{statements_in}
use Rattle.flow_rules.specs.Sizes.{is_counted_parameter, parameters_among}
use Rattle.flow_rules.specs.Unreachable.{unreachable_at, unreachable_behind}

-- what the first of some things adds, of which the others add more, joins what was found
pub rest_on : {X Y : Type 0} (g : List Y → List X) (here : List X) (rest tail : List Y) (y : Y) (old new whole : List X) → rest ≡ y ∷ tail → g (y ∷ tail) ≡ here ++ g tail → new ≡ old ++ here → old ++ g rest ≡ whole
    → new ++ g tail ≡ whole
rest_on {X} {Y} g here rest tail y old new whole is split e told =
    ap (λ (xs : List X). xs ++ g tail) e ∙ append_assoc old here (g tail) ∙ ap (λ (xs : List X). old ++ xs) (sym split) ∙ ap (λ (ys : List Y). old ++ g ys) (sym is) ∙ told

-- a statement stands before the statements among the other nodes
pub statements_split : (t : Tree) (k : ℕ) (ks : List ℕ) → statements_in t (k ∷ ks) ≡ statements_in t (k ∷ []) ++ statements_in t ks
statements_split t k ks = by_test (is_statement (kind_of t k))
  where
    by_test : (b : Bool) → cond b (k ∷ statements_in t ks) (statements_in t ks) ≡ cond b (k ∷ []) [] ++ statements_in t ks
    by_test true = refl
    by_test false = refl

-- one more of the nodes
pub statements_on : (t : Tree) (rest tail : List NodeId) (n : NodeId) (old new whole : List ℕ) → rest ≡ n ∷ tail → new ≡ old ++ statements_in t (n.0 ∷ []) → old ++ statements_in t (map number_of rest) ≡ whole
    → new ++ statements_in t (map number_of tail) ≡ whole
statements_on t rest tail n old new whole is e told =
    rest_on (λ ns. statements_in t (map number_of ns)) (statements_in t (n.0 ∷ [])) rest tail n old new whole is (statements_split t n.0 (map number_of tail)) e told

-- the statement behind the last one
pub behind_on : (file : FileId) (t : Tree) (before : ℕ) (rest tail : List NodeId) (n : NodeId) (old new whole : List Message) → rest ≡ n ∷ tail → new ≡ old ++ unreachable_at file t before n.0
    → old ++ unreachable_behind file t before (map number_of rest) ≡ whole → new ++ unreachable_behind file t n.0 (map number_of tail) ≡ whole
behind_on file t before rest tail n old new whole is e told =
    ap (λ (ms : List Message). ms ++ unreachable_behind file t n.0 (map number_of tail)) e ∙ append_assoc old (unreachable_at file t before n.0) (unreachable_behind file t n.0 (map number_of tail))
    ∙ ap (λ (ns : List NodeId). old ++ unreachable_behind file t before (map number_of ns)) (sym is) ∙ told

-- what the first of some nodes adds to a count of parameters joins what was counted
pub parameters_on : (t : Tree) (rest tail : List NodeId) (k : NodeId) (len n whole : ℕ) → rest ≡ k ∷ tail → n ≡ cond (is_counted_parameter t k.0) 1 0 → len + parameters_among t (map number_of rest) ≡ whole → len + n + parameters_among t (map number_of tail) ≡ whole
parameters_on t rest tail k len n whole is e told =
    let all = rw is at told in
    omega (arith, all, e, sum_by-cons (λ j. cond (is_counted_parameter t j) 1 0) k.0 (map number_of tail))

-- what holds of all holds of those behind the first
pub made_on : (t : Tree) (rest tail : List NodeId) (n : NodeId) → rest ≡ n ∷ tail → All (λ k. k.0 < count_of t) rest → All (λ k. k.0 < count_of t) tail
made_on t rest tail n is made = λ k d lt. let all = rw is at made in all (suc k) d (omega arith)

pub made_first : (t : Tree) (rest tail : List NodeId) (n : NodeId) → rest ≡ n ∷ tail → All (λ k. k.0 < count_of t) rest → n.0 < count_of t
made_first t rest tail n is made = let all = rw is at made in all 0 n (omega arith)
