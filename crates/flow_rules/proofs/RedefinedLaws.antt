-- The lines that are kept are those of the last definitions.
use Rattle.std.proofs.Common.{◌≡◌, ℕ, Bool, true, false, cond, ◌&&◌, List, [], ◌∷◌, ◌++◌, map, refl, sym, ap, ◌∙◌, append_assoc, Option, Some}
use Rattle.std.specs.BTreeMap.{BTreeMap, is_at}
use Rattle.std.specs.Cmp.Lexicographic.{slice_cmp}
use Rattle.std.specs.Map.{update, lookup}
use Rattle.std.specs.Ordering.{nat_cmp}
use Rattle.std.specs.Str.{bytes_eq}
use Rattle.std.proofs.lemmas.List.{append-nil}
use Rattle.std.proofs.lemmas.Map.Text.{is_eq-slice_cmp}
use Rattle.lint_values.specs.declared.place.FileId.{FileId}
use Rattle.lint_values.specs.declared.place.NodeId.{NodeId}
use Rattle.lint_messages.specs.declared.message.Message.{Message}
use Rattle.tree_nodes.specs.Trees.{Tree}
use Rattle.tree_nodes.specs.Kept.{number_of}
use Rattle.scope_rules.specs.Nodes.{Name}
use Rattle.flow_rules.specs.declared.definition.Definition.{Definition}
use Rattle.rule_nodes.specs.Nodes.{written}
use Rattle.flow_rules.specs.Redefined.{is_plain, last_of, line_at, line_of, redefined_by, redefined_at, redefined_behind}
use Rattle.flow_rules.specs.Tables.{line_in, HasLines, IsOver}

-- a change of a map at a name, as the map's order says it
pub line_after : (old new : BTreeMap Name ℕ) (key name : Name) (line : Option ℕ) → ((q : Name) → line_in new q ≡ cond (is_at (slice_cmp nat_cmp key) q) line (line_in old q)) → key ≡ name → (q : Name) → line_in new q ≡ update bytes_eq (line_in old) name line q
line_after old new key name line changed same q =
    changed q ∙ ap (λ (b : Bool). cond b line (line_in old q)) (is_eq-slice_cmp key q) ∙ ap (λ (k : Name). cond (bytes_eq k q) line (line_in old q)) same

last-plain : (sort : Definition) (t : Tree) (n : ℕ) (before : List ℕ) (q : Name) → is_plain sort t n ≡ true → line_of t (last_of sort t q (n ∷ before)) ≡ cond (bytes_eq (written t n) q) (Some (line_at t n)) (line_of t (last_of sort t q before))
last-plain sort t n before q plain = whole
  where
    choose : (b : Bool) → line_of t (cond b (Some n) (last_of sort t q before)) ≡ cond b (Some (line_at t n)) (line_of t (last_of sort t q before))
    choose true = refl
    choose false = refl

    whole : line_of t (cond (is_plain sort t n && bytes_eq (written t n) q) (Some n) (last_of sort t q before)) ≡ cond (bytes_eq (written t n) q) (Some (line_at t n)) (line_of t (last_of sort t q before))
    whole = ap (λ (c : Bool). line_of t (cond (c && bytes_eq (written t n) q) (Some n) (last_of sort t q before))) plain ∙ choose (bytes_eq (written t n) q)

-- the line of a definition that takes part is kept
pub kept_plain : (sort : Definition) (t : Tree) (n : ℕ) (before : List ℕ) (old new : BTreeMap Name ℕ) (name : Name) (line : ℕ) → is_plain sort t n ≡ true → name ≡ written t n → line ≡ line_at t n
    → ((q : Name) → line_in new q ≡ update bytes_eq (line_in old) name (Some line) q) → HasLines sort t before old → HasLines sort t (n ∷ before) new
kept_plain sort t n before old new name line plain same at changed h = record {
  has = λ q.
      changed q ∙ ap (λ (x : Name). cond (bytes_eq x q) (Some line) (line_in old q)) same ∙ ap (λ (k : ℕ). cond (bytes_eq (written t n) q) (Some k) (line_in old q)) at
      ∙ ap (λ (o : Option ℕ). cond (bytes_eq (written t n) q) (Some (line_at t n)) o) (h.has q) ∙ sym (last-plain sort t n before q plain);
}

-- the step over a definition that takes part
pub over_plain : (sort : Definition) (file : FileId) (t : Tree) (n : ℕ) (before : List ℕ) (old new : BTreeMap Name ℕ) (name : Name) (line : ℕ) (last : Option ℕ) (found found' : List Message)
    → is_plain sort t n ≡ true → name ≡ written t n → line ≡ line_at t n → last ≡ line_in old name → ((q : Name) → line_in new q ≡ update bytes_eq (line_in old) name (Some line) q)
    → found' ≡ found ++ redefined_by sort file t n last → HasLines sort t before old → IsOver sort file t before n new found found'
over_plain sort file t n before old new name line last found found' plain same at is changed told h = record {
  kept = kept_plain sort t n before old new name line plain same at changed h;
  told =
      told ∙ ap (λ (o : Option ℕ). found ++ redefined_by sort file t n o) (is ∙ ap (line_in old) same ∙ h.has (written t n))
      ∙ ap (λ (b : Bool). found ++ cond b (redefined_by sort file t n (line_of t (last_of sort t (written t n) before))) []) (sym plain);
}

-- a statement that takes no part
pub over_other : (sort : Definition) (file : FileId) (t : Tree) (n : ℕ) (before : List ℕ) (lines : BTreeMap Name ℕ) (found : List Message) → is_plain sort t n ≡ false → HasLines sort t before lines → IsOver sort file t before n lines found found
over_other sort file t n before lines found other h = record {
  kept = record { has = λ q. h.has q ∙ ap (λ (b : Bool). line_of t (cond (b && bytes_eq (written t n) q) (Some n) (last_of sort t q before))) (sym other) };
  told = sym (append-nil found) ∙ ap (λ (b : Bool). found ++ cond b (redefined_by sort file t n (line_of t (last_of sort t (written t n) before))) []) (sym other);
}

-- nothing was kept yet
pub lines_none : (sort : Definition) (t : Tree) (lines : BTreeMap Name ℕ) → lines.entries ≡ [] → HasLines sort t [] lines
lines_none sort t lines none = record { has = λ q. ap (lookup (is_at (slice_cmp nat_cmp q))) none }

-- the messages of some statements of a block were added, and others are left
pub record IsTelling (sort : Definition) (file : FileId) (t : Tree) (lines : BTreeMap Name ℕ) (rest : List ℕ) (found whole : List Message) : Type 0 where
  pub before : List ℕ
  pub kept : HasLines sort t before lines
  pub told : found ++ redefined_behind sort file t before rest ≡ whole

pub telling_none : (sort : Definition) (file : FileId) (t : Tree) (lines : BTreeMap Name ℕ) (rest : List ℕ) (found whole : List Message) → lines.entries ≡ [] → found ++ redefined_behind sort file t [] rest ≡ whole → IsTelling sort file t lines rest found whole
telling_none sort file t lines rest found whole none told = record { before = []; kept = lines_none sort t lines none; told = told }

-- one more statement
pub telling_on : (sort : Definition) (file : FileId) (t : Tree) (old new : BTreeMap Name ℕ) (rest tail : List NodeId) (n : NodeId) (found found' whole : List Message) → rest ≡ n ∷ tail
    → ((before : List ℕ) → HasLines sort t before old → IsOver sort file t before n.0 new found found') → IsTelling sort file t old (map number_of rest) found whole → IsTelling sort file t new (map number_of tail) found' whole
telling_on sort file t old new rest tail n found found' whole is over h =
    let step = over h.before h.kept in
    record {
      before = n.0 ∷ h.before;
      kept = step.kept;
      told =
          ap (λ (ms : List Message). ms ++ redefined_behind sort file t (n.0 ∷ h.before) (map number_of tail)) step.told
          ∙ append_assoc found (redefined_at sort file t h.before n.0) (redefined_behind sort file t (n.0 ∷ h.before) (map number_of tail))
          ∙ ap (λ (ns : List NodeId). found ++ redefined_behind sort file t h.before (map number_of ns)) (sym is) ∙ h.told;
    }

-- no statement is left
pub telling_all : (sort : Definition) (file : FileId) (t : Tree) (lines : BTreeMap Name ℕ) (rest : List ℕ) (found whole : List Message) → rest ≡ [] → IsTelling sort file t lines rest found whole → found ≡ whole
telling_all sort file t lines rest found whole none h = sym (append-nil found) ∙ ap (λ (ns : List ℕ). found ++ redefined_behind sort file t h.before ns) (sym none) ∙ h.told
