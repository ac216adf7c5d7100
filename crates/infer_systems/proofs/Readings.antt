-- What the rules read, one reading after another.
use Rattle.std.proofs.Common.{◌≡◌, ℕ, suc, ◌+◌, ◌%◌, ◌<◌, true, false, cond, List, [], ◌∷◌, ◌++◌, IfOk, length, refl, sym, ◌∙◌, ap, subst, arith}
use Rattle.std.specs.Prelude.{Result}
use Rattle.std.proofs.lemmas.Result.{IfOk-weaker}
use Rattle.infer_sets.specs.Sets.{Set, none, joined, is_below}
use Rattle.infer_sets.specs.Numbers.{set_at, IsNumber}
use Rattle.infer_sets.proofs.Layers.{set-kept, below-kept}
use Rattle.infer_equations.specs.Assignment.{Assignment}
use Rattle.infer_equations.specs.Seen.{Seen, Stays}
use Rattle.infer_equations.specs.Reading.{Reads, Gives}
use Rattle.infer_equations.proofs.Reading.{stays-refl, stays-trans, reads-then}
use Rattle.infer_systems.specs.Rules.{with_reads, both_right, both_reads, gated, gated_reads, when_right, when_reads, row_right, row_reads, rule_right, rule_reads}
use Rattle.infer_systems.specs.declared.rule.Rule.{Rule}

-- the join of two sets, one after another
pub join-gives : (limit : ℕ) (f g : Assignment → Set) (r q : Assignment → List ℕ) (u v w x : Seen) (a b id : ℕ) → Gives f r u v a → Gives g q v w b
    → Gives (λ _. joined limit (set_at w.numbers a) (set_at w.numbers b)) (λ _. []) w x id → Gives (λ z. joined limit (f z) (g z)) (λ z. r z ++ (q z ++ [])) u x id
join-gives limit f g r q u v w x a b id h k j =
    let first : set_at w.numbers a ≡ h.set = set-kept v.numbers w.numbers a k.reads.stays.keeps.numbers h.numbered.below ∙ h.numbered.is in
    let both : joined limit (set_at w.numbers a) (set_at w.numbers b) ≡ joined limit h.set k.set = ap (λ s. joined limit s (set_at w.numbers b)) first ∙ ap (λ s. joined limit h.set s) k.numbered.is in
    let last : Reads (λ _. joined limit h.set k.set) (λ _. []) w x j.set = subst (λ s. Reads (λ _. s) (λ _. []) w x j.set) both j.reads in
    record {
      set = j.set;
      numbered = j.numbered;
      reads = reads-then f (λ s z. joined limit s (g z)) r (λ _ z. q z ++ []) u v x h.set j.set h.reads (reads-then g (λ t _. joined limit h.set t) q (λ _ _. []) v w x k.set j.set k.reads last);
    }

pub first-below : (f g : Assignment → Set) (r q : Assignment → List ℕ) (u v w : Seen) (a b : ℕ) → Gives f r u v a → Gives g q v w b → a < length w.numbers
first-below f g r q u v w a b h k = below-kept v.numbers w.numbers a k.reads.stays.keeps.numbers h.numbered.below

pub joins-give : {F : Type 0} (limit : ℕ) (f g : Assignment → Set) (r q : Assignment → List ℕ) (u v w x : Seen) (a b : ℕ) (ids : Result ℕ F) → Gives f r u v a → Gives g q v w b
    → IfOk ids (λ id. Gives (λ _. joined limit (set_at w.numbers a) (set_at w.numbers b)) (λ _. []) w x id) → IfOk ids (λ id. Gives (λ z. joined limit (f z) (g z)) (λ z. r z ++ (q z ++ [])) u x id)
joins-give limit f g r q u v w x a b ids h k ok = IfOk-weaker ids _ _ (λ id j. join-gives limit f g r q u v w x a b id h k j) ok

-- a set that is number `id` of a constant
pub gives-as : {F : Type 0} (s t : Set) (r : Assignment → List ℕ) (u v : Seen) (ids : Result ℕ F) → s ≡ t → IfOk ids (λ id. Gives (λ _. s) r u v id) → IfOk ids (λ id. Gives (λ _. t) r u v id)
gives-as s t r u v ids e ok = subst (λ x. IfOk ids (λ id. Gives (λ _. x) r u v id)) e ok

module _ (limit : ℕ) where
  -- the gate is shut where the first set is empty, and else the second one passes
  shut : {F : Type 0} (first second : ℕ) (u v w : Seen) (a : ℕ) (none' : Set) (ids : Result ℕ F) → (h : Gives (λ z. z first) (λ _. first ∷ []) u v a) → is_below h.set none ≡ true → none' ≡ none
      → IfOk ids (λ id. Gives (λ _. none') (λ _. []) v w id) → IfOk ids (λ id. Gives (when_right limit first second) (when_reads first second) u w id)
  shut first second u v w a none' ids h e is ok =
      IfOk-weaker ids (λ id. Gives (λ _. none') (λ _. []) v w id) _ (λ id k.
      let here : Reads (λ z. gated limit second h.set z) (λ z. gated_reads second h.set z) v w k.set =
      subst (λ b. Reads (λ z. cond b none (joined limit (z second) none)) (λ z. cond b [] (second ∷ [])) v w k.set) (sym e) (subst (λ s. Reads (λ _. s) (λ _. []) v w k.set) is k.reads) in
      record { set = k.set; numbered = k.numbered; reads = reads-then (λ z. z first) (λ s z. gated limit second s z) (λ _. first ∷ []) (λ s z. gated_reads second s z) u v w h.set k.set h.reads here })
      ok

  open_by : {F : Type 0} (first second : ℕ) (u v w : Seen) (a : ℕ) (more : Set) (ids : Result ℕ F) → (h : Gives (λ z. z first) (λ _. first ∷ []) u v a) → is_below h.set none ≡ false → more ≡ none
      → IfOk ids (λ id. Gives (λ z. joined limit (z second) more) (λ _. with_reads second) v w id) → IfOk ids (λ id. Gives (when_right limit first second) (when_reads first second) u w id)
  open_by first second u v w a more ids h e is ok =
      IfOk-weaker ids (λ id. Gives (λ z. joined limit (z second) more) (λ _. with_reads second) v w id) _ (λ id k.
      let here : Reads (λ z. gated limit second h.set z) (λ z. gated_reads second h.set z) v w k.set =
      subst (λ b. Reads (λ z. cond b none (joined limit (z second) none)) (λ z. cond b [] (second ∷ [])) v w k.set) (sym e) (subst (λ m. Reads (λ z. joined limit (z second) m) (λ _. with_reads second) v w k.set) is k.reads) in
      record { set = k.set; numbered = k.numbered; reads = reads-then (λ z. z first) (λ s z. gated limit second s z) (λ _. first ∷ []) (λ s z. gated_reads second s z) u v w h.set k.set h.reads here })
      ok

  pub when-empty : {F : Type 0} (first second : ℕ) (u v w : Seen) (a : ℕ) (s none' : Set) (ids : Result ℕ F) → Gives (λ z. z first) (λ _. first ∷ []) u v a → s ≡ set_at v.numbers a → is_below s none ≡ true → none' ≡ none
      → IfOk ids (λ id. Gives (λ _. none') (λ _. []) v w id) → IfOk ids (λ id. Gives (when_right limit first second) (when_reads first second) u w id)
  when-empty first second u v w a s none' ids h at e is ok = shut first second u v w a none' ids h (ap (λ t. is_below t none) (sym (at ∙ h.numbered.is)) ∙ e) is ok

  pub when-some : {F : Type 0} (first second : ℕ) (u v w : Seen) (a : ℕ) (s more : Set) (ids : Result ℕ F) → Gives (λ z. z first) (λ _. first ∷ []) u v a → s ≡ set_at v.numbers a → is_below s none ≡ false → more ≡ none
      → IfOk ids (λ id. Gives (λ z. joined limit (z second) more) (λ _. with_reads second) v w id) → IfOk ids (λ id. Gives (when_right limit first second) (when_reads first second) u w id)
  when-some first second u v w a s more ids h at e is ok = open_by first second u v w a more ids h (ap (λ t. is_below t none) (sym (at ∙ h.numbered.is)) ∙ e) is ok

  -- what a row keeps, and one variable more
  pub record InRow (count v n : ℕ) (before after : Seen) (id : ℕ) : Type 0 where
    pub stays : Stays before after
    pub gives : Gives (row_right count limit v n) (row_reads count v n) before after id

  pub row-none : (count v : ℕ) (before after : Seen) (id : ℕ) (s : Set) → s ≡ none → Gives (λ _. s) (λ _. []) before after id → InRow count v 0 before after id
  row-none count v before after id s e h = record { stays = h.reads.stays; gives = subst (λ x. Gives (λ _. x) (λ _. []) before after id) e h }

  pub row-more : (count v n w m : ℕ) → w ≡ (v % count + n) % count → m ≡ n + 1 → (before middle read after : Seen) (id other next : ℕ) → InRow count v n before middle id → Gives (λ z. z w) (λ _. w ∷ []) middle read other → Stays read after
      → Gives (λ _. joined limit (set_at read.numbers id) (set_at read.numbers other)) (λ _. []) read after next → InRow count v m before after next
  row-more count v n w m we me before middle read after id other next h k t j =
      let one : Gives (λ z. z ((v % count + n) % count)) (λ _. (v % count + n) % count ∷ []) middle read other = subst (λ x. Gives (λ z. z x) (λ _. x ∷ []) middle read other) we k in
      let more : m ≡ suc n = omega arith in
      record {
        stays = stays-trans before read after (stays-trans before middle read h.stays k.reads.stays) t;
        gives = subst (λ i. Gives (row_right count limit v i) (row_reads count v i) before after next) (sym more)
            (join-gives limit (row_right count limit v n) (λ z. z ((v % count + n) % count)) (row_reads count v n) (λ _. (v % count + n) % count ∷ []) before middle read after id other next h.gives one j);
      }

-- the right side of the same rule
pub as_rule : {F : Type 0} (count limit : ℕ) (r s : Rule) (u v : Seen) (ids : Result ℕ F) → r ≡ s → IfOk ids (λ id. Gives (rule_right count limit s) (rule_reads count s) u v id) → IfOk ids (λ id. Gives (rule_right count limit r) (rule_reads count r) u v id)
as_rule count limit r s u v ids e ok = subst (λ (x : Rule). IfOk ids (λ id. Gives (rule_right count limit x) (rule_reads count x) u v id)) (sym e) ok
