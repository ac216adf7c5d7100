-- What one look adds to what is known.
use Rattle.std.proofs.Common.{◌≡◌, ◌≢◌, ℕ, ◌+◌, ◌-◌, ◌^◌, ◌≤◌, min, Bool, true, false, cond, List, [], ◌∷◌, ◌++◌, length, Option, None, Some, Result, Ok, Err, inl, inr, refl, sym, ap, subst, ◌∙◌, arith, append_assoc, append-nil, length-append, Contains, rules}
use Rattle.std.specs.Prelude.{IfOk, IsErrOf}
use Rattle.std.specs.List.{list_any}
use Rattle.std.specs.Option.{ForSome}
use Rattle.std.specs.Str.{bytes_eq}
use Rattle.std.specs.FinMap.{get}
use Rattle.std.proofs.lemmas.List.Elements.{Contains-append_left, Contains-append_right}
use Rattle.lint_outside.specs.Causes.{Rose, RoseBy, HasCause, failed_after}
use Rattle.lint_outside.specs.FileTree.{FileTree}
use Rattle.lint_outside.specs.Held.{kind_of, listing_of}
use Rattle.lint_outside.specs.declared.outside.FilesFault.{FilesFault}
use Rattle.lint_outside.specs.declared.outside.FilesFault.TheVariants.{Failed, Memory}
use Rattle.lint_outside.specs.declared.outside.Kind.{Kind}
use Rattle.lint_outside.specs.declared.outside.Listing.{Listing}
use Rattle.lint_outside.specs.declared.outside.Question.{Question}
use Rattle.lint_outside.specs.declared.outside.Question.TheVariants as question
use Rattle.lint_messages.specs.Order.{text_cmp}
use Rattle.std.specs.BTreeMap as tree
use Rattle.file_list.specs.declared.known.Known.{Known}
use Rattle.file_list.specs.Entries.{is_look_at, is_read_of}
use Rattle.file_list.specs.Answers.{Answers, answers_of, is_listing_of, most_entries, unless}
use Rattle.file_list.specs.Asked.{kept_look, kept_names, failed_paths, if_failed, IsReply, Agrees, IsRight, IsCounted, Asks, KeepsLook}
use Rattle.file_list.proofs.Kept.{after_update, stays, there, is_new_or_old, still_none, text_itself, text_turned}
use Rattle.file_list.proofs.Rose.{rose_once}
use Rattle.file_list.proofs.Fails.{last_there, other_behind}

module _ (k0 k1 : Known) (path : List ℕ) (found : Option Kind) (absent : kept_look k0 path ≡ None) (keeps : KeepsLook k0 k1 path found) where
  look_after : (q : List ℕ) → kept_look k1 q ≡ cond (bytes_eq path q) (Some found) (kept_look k0 q)
  look_after = after_update k0.looks k1.looks path found keeps.looks

  names_same : (q : List ℕ) → kept_names k1 q ≡ kept_names k0 q
  names_same q = ap (λ m. tree.get text_cmp m q) keeps.names

  look_learns : (answers : Answers) → Agrees k1 answers → Agrees k0 answers
  look_learns answers agrees = record {
    looks = λ q kept e. agrees.looks q kept (stays (kept_look k0) (kept_look k1) path found absent look_after q kept e);
    names = λ q kept e. agrees.names q kept (names_same q ∙ e);
  }

  look_is : (answers : Answers) → Agrees k1 answers → found ≡ answers.look path
  look_is answers agrees = sym (agrees.looks path found (there (kept_look k0) (kept_look k1) path found absent look_after))

  -- where the fails have the look exactly if it failed, and no other question more
  look_right : (tree : FileTree) (first f0 f1 fails : List Question) → f1 ≡ first ++ fails
      → (right : IsRight tree first f0 k0)
      → found ≡ (answers_of tree fails).look path
      → ((q : List ℕ) → bytes_eq path q ≡ false → list_any (is_look_at q) fails ≡ list_any (is_look_at q) right.fails)
      → ((q : List ℕ) → list_any (is_listing_of q) fails ≡ list_any (is_listing_of q) right.fails)
      → ((q : List ℕ) → list_any (is_read_of q) fails ≡ list_any (is_read_of q) right.fails)
      → length fails ≤ length (failed_paths k1)
      → IsRight tree first f1 k1
  look_right tree first f0 f1 fails grown right is looks names reads many = record {
    fails = fails;
    grown = grown;
    agrees = record {
      looks = λ q kept e. elim (is_new_or_old (kept_look k0) (kept_look k1) path found absent look_after q kept e) [
        | inl new ↦ ap (answers_of tree fails).look (sym new.0) ∙ sym is ∙ sym new.1
        | inr old ↦ ap (λ b. unless b (kind_of (get tree q))) (looks q old.0) ∙ right.agrees.looks q kept old.1
      ];
      names = λ q kept e. ap (λ b. unless b (listing_of most_entries (get tree q))) (names q) ∙ right.agrees.names q kept (sym (names_same q) ∙ e);
    };
    looks = λ q e. let old = still_none (kept_look k0) (kept_look k1) path found absent look_after q e in looks q old.1 ∙ right.looks q old.0;
    names = λ q e. names q ∙ right.names q (sym (names_same q) ∙ e);
    reads = λ q. reads q ∙ right.reads q;
    many = many;
  }

look_right_by : (k0 k1 : Known) (path : List ℕ) (result : Result Kind FilesFault) (found : Option Kind) → kept_look k0 path ≡ None → KeepsLook k0 k1 path found
    → (tree : FileTree) (first f0 f1 : List Question) → IfOk result (λ kind. kind ≡ kind_of (get tree path)) → f1 ≡ failed_after f0 (question.Look path) result → IsReply result found
    → IsRight tree first f0 k0 → IsRight tree first f1 k1
look_right_by k0 k1 path (Ok kind) None absent keeps tree first f0 f1 answer failed reply right = cc
look_right_by k0 k1 path (Ok kind) (Some a) absent keeps tree first f0 f1 answer failed reply right =
    let same : a ≡ kind = cc in
    look_right k0 k1 path (Some a) absent keeps tree first f0 f1 right.fails (failed ∙ right.grown) right
    (ap Some (same ∙ answer) ∙ sym (ap (λ b. unless b (kind_of (get tree path))) (right.looks path absent)))
    (λ q e. refl) (λ q. refl) (λ q. refl)
    (let long : length (failed_paths k1) ≡ length (failed_paths k0) + 0 = ap length keeps.failed ∙ length-append (failed_paths k0) [] in let old = right.many in omega arith)
look_right_by k0 k1 path (Err Memory) None absent keeps tree first f0 f1 answer failed reply right = cc
look_right_by k0 k1 path (Err Failed) None absent keeps tree first f0 f1 answer failed reply right =
    let asked : Question = question.Look path in
    look_right k0 k1 path None absent keeps tree first f0 f1 (right.fails ++ asked ∷ [])
    (failed ∙ ap (λ f. f ++ asked ∷ []) right.grown ∙ append_assoc first right.fails (asked ∷ [])) right
    (sym (ap (λ b. unless b (kind_of (get tree path))) (last_there (is_look_at path) right.fails asked (text_itself path))))
    (λ q e. other_behind (is_look_at q) right.fails asked (text_turned path q e))
    (λ q. other_behind (is_listing_of q) right.fails asked refl)
    (λ q. other_behind (is_read_of q) right.fails asked refl)
    (let long : length (failed_paths k1) ≡ length (failed_paths k0) + 1 = ap length keeps.failed ∙ length-append (failed_paths k0) (path ∷ []) in let more : length (right.fails ++ asked ∷ []) ≡ length right.fails + 1 = length-append right.fails (asked ∷ []) in let old = right.many in omega arith)
look_right_by k0 k1 path (Err fault) (Some a) absent keeps tree first f0 f1 answer failed reply right = cc

look_counted : (k0 k1 : Known) (path : List ℕ) (result : Result Kind FilesFault) (found : Option Kind) → kept_look k0 path ≡ None → KeepsLook k0 k1 path found
    → (c0 c1 : ℕ) → HasCause c0 c1 result → IsReply result found → (start : ℕ) → IsCounted start c0 k0 → IsCounted start c1 k1
look_counted k0 k1 path result None absent keeps c0 c1 cause reply start counted =
    let risen : Rose c0 c1 = cause.failed (subst (λ r. IsErrOf r Failed) (sym reply) refl) in
    record {
      rose = let risen_by = counted.rose in
          let long : length (failed_paths k1) ≡ length (failed_paths k0) + 1 = ap length keeps.failed ∙ length-append (failed_paths k0) (path ∷ []) in
          subst (λ n. RoseBy n start c1) (sym long) (rose_once (length (failed_paths k0)) start c0 c1 risen_by risen);
      looks = λ q e. subst (λ ps. Contains ps q) (sym keeps.failed) (elim (is_new_or_old (kept_look k0) (kept_look k1) path None absent (look_after k0 k1 path None absent keeps) q None e) [
        | inl new ↦ subst (λ p. Contains (failed_paths k0 ++ path ∷ []) p) new.0 (Contains-append_right (failed_paths k0) (path ∷ []) path (search rules))
        | inr old ↦ Contains-append_left (failed_paths k0) (path ∷ []) q (counted.looks q old.1)
      ]);
      names = λ q e. subst (λ ps. Contains ps q) (sym keeps.failed) (Contains-append_left (failed_paths k0) (path ∷ []) q (counted.names q (sym (names_same k0 k1 path None absent keeps q) ∙ e)));
    }
look_counted k0 k1 path result (Some a) absent keeps c0 c1 cause reply start counted =
    let same : failed_paths k1 ≡ failed_paths k0 = keeps.failed ∙ append-nil (failed_paths k0) in
    record {
      rose = let risen_by = counted.rose in let on = cause.later in subst (λ ps. RoseBy (length ps) start c1) (sym same) (omega arith);
      looks = λ q e. subst (λ ps. Contains ps q) (sym same) (elim (is_new_or_old (kept_look k0) (kept_look k1) path (Some a) absent (look_after k0 k1 path (Some a) absent keeps) q None e) [
        | inl new ↦ absurd (let h = new.1 in cc)
        | inr old ↦ counted.looks q old.1
      ]);
      names = λ q e. subst (λ ps. Contains ps q) (sym same) (counted.names q (sym (names_same k0 k1 path (Some a) absent keeps q) ∙ e));
    }

-- one look at a path that was not looked at
pub asked_look : (held : Option FileTree) (c0 c1 : ℕ) (f0 f1 : List Question) (k0 k1 : Known) (path : List ℕ) (result : Result Kind FilesFault) (found : Option Kind)
    → kept_look k0 path ≡ None → HasCause c0 c1 result
    → ForSome held (λ tree. IfOk result (λ kind. kind ≡ kind_of (get tree path)))
    → ForSome held (λ tree. f1 ≡ failed_after f0 (question.Look path) result)
    → IsReply result found → KeepsLook k0 k1 path found
    → Asks held c0 c1 f0 f1 k0 k1 (λ answers. answers.look path) found
asked_look held c0 c1 f0 f1 k0 k1 path result found absent cause answer failed reply keeps = record {
  learns = look_learns k0 k1 path found absent keeps;
  is = look_is k0 k1 path found absent keeps;
  right = λ tree told first. look_right_by k0 k1 path result found absent keeps tree first f0 f1 (answer tree told) (failed tree told) reply;
  counted = look_counted k0 k1 path result found absent keeps c0 c1 cause reply;
  later = cause.later;
}

-- an answer that was kept
pub asked_before : (held : Option FileTree) (c : ℕ) (f : List Question) (k : Known) (path : List ℕ) (found : Option Kind) → kept_look k path ≡ Some found → Asks held c c f f k k (λ answers. answers.look path) found
asked_before held c f k path found kept = record {
  learns = λ answers agrees. agrees;
  is = λ answers agrees. sym (agrees.looks path found kept);
  right = λ tree told first right. right;
  counted = λ start counted. counted;
  later = omega arith;
}
