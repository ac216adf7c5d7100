-- What one listing adds to what is known.
use Rattle.std.proofs.Common.{◌≡◌, ◌≢◌, ℕ, ◌+◌, ◌-◌, ◌^◌, ◌≤◌, min, Bool, true, false, cond, List, [], ◌∷◌, ◌++◌, length, Option, None, Some, Result, Ok, Err, inl, inr, refl, sym, ap, subst, ◌∙◌, arith, append_assoc, append-nil, length-append, Contains, rules}
use Rattle.std.specs.Prelude.{IfOk, IsErrOf}
use Rattle.std.specs.List.{list_any}
use Rattle.std.specs.Option.{ForSome}
use Rattle.std.specs.Str.{bytes_eq}
use Rattle.std.specs.FinMap.{get}
use Rattle.std.proofs.lemmas.List.Elements.{Contains-append_left, Contains-append_right}
use Rattle.lint_outside.specs.Causes.{Rose, RoseBy, HasCause, failed_after}
use Rattle.lint_outside.specs.FileTree.{FileTree}
use Rattle.lint_outside.specs.Held.{kind_of, listing_of}
use Rattle.lint_outside.specs.declared.outside.FilesFault.{FilesFault}
use Rattle.lint_outside.specs.declared.outside.FilesFault.TheVariants.{Failed, Memory}
use Rattle.lint_outside.specs.declared.outside.Kind.{Kind}
use Rattle.lint_outside.specs.declared.outside.Listing.{Listing}
use Rattle.lint_outside.specs.declared.outside.Question.{Question}
use Rattle.lint_outside.specs.declared.outside.Question.TheVariants as question
use Rattle.lint_messages.specs.Order.{text_cmp}
use Rattle.std.specs.BTreeMap as tree
use Rattle.file_list.specs.declared.known.Known.{Known}
use Rattle.file_list.specs.Entries.{is_look_at, is_read_of}
use Rattle.file_list.specs.Answers.{Answers, answers_of, is_listing_of, most_entries, unless}
use Rattle.file_list.specs.Asked.{kept_names, kept_look, failed_paths, if_failed, IsReply, Agrees, IsRight, IsCounted, Asks, KeepsNames}
use Rattle.file_list.proofs.Kept.{after_update, stays, there, is_new_or_old, still_none, text_itself, text_turned}
use Rattle.file_list.proofs.Rose.{rose_once}
use Rattle.file_list.proofs.Fails.{last_there, other_behind}

module _ (k0 k1 : Known) (path : List ℕ) (found : Option Listing) (absent : kept_names k0 path ≡ None) (keeps : KeepsNames k0 k1 path found) where
  names_after : (q : List ℕ) → kept_names k1 q ≡ cond (bytes_eq path q) (Some found) (kept_names k0 q)
  names_after = after_update k0.listings k1.listings path found keeps.names

  looks_same : (q : List ℕ) → kept_look k1 q ≡ kept_look k0 q
  looks_same q = ap (λ m. tree.get text_cmp m q) keeps.looks

  names_learns : (answers : Answers) → Agrees k1 answers → Agrees k0 answers
  names_learns answers agrees = record {
    names = λ q kept e. agrees.names q kept (stays (kept_names k0) (kept_names k1) path found absent names_after q kept e);
    looks = λ q kept e. agrees.looks q kept (looks_same q ∙ e);
  }

  names_is : (answers : Answers) → Agrees k1 answers → found ≡ answers.names path
  names_is answers agrees = sym (agrees.names path found (there (kept_names k0) (kept_names k1) path found absent names_after))

  -- where the fails have the listing exactly if it failed, and no other question more
  names_right : (tree : FileTree) (first f0 f1 fails : List Question) → f1 ≡ first ++ fails
      → (right : IsRight tree first f0 k0)
      → found ≡ (answers_of tree fails).names path
      → ((q : List ℕ) → bytes_eq path q ≡ false → list_any (is_listing_of q) fails ≡ list_any (is_listing_of q) right.fails)
      → ((q : List ℕ) → list_any (is_look_at q) fails ≡ list_any (is_look_at q) right.fails)
      → ((q : List ℕ) → list_any (is_read_of q) fails ≡ list_any (is_read_of q) right.fails)
      → length fails ≤ length (failed_paths k1)
      → IsRight tree first f1 k1
  names_right tree first f0 f1 fails grown right is names looks reads many = record {
    fails = fails;
    grown = grown;
    agrees = record {
      names = λ q kept e. elim (is_new_or_old (kept_names k0) (kept_names k1) path found absent names_after q kept e) [
        | inl new ↦ ap (answers_of tree fails).names (sym new.0) ∙ sym is ∙ sym new.1
        | inr old ↦ ap (λ b. unless b (listing_of most_entries (get tree q))) (names q old.0) ∙ right.agrees.names q kept old.1
      ];
      looks = λ q kept e. ap (λ b. unless b (kind_of (get tree q))) (looks q) ∙ right.agrees.looks q kept (sym (looks_same q) ∙ e);
    };
    names = λ q e. let old = still_none (kept_names k0) (kept_names k1) path found absent names_after q e in names q old.1 ∙ right.names q old.0;
    looks = λ q e. looks q ∙ right.looks q (sym (looks_same q) ∙ e);
    reads = λ q. reads q ∙ right.reads q;
    many = many;
  }

names_right_by : (k0 k1 : Known) (path : List ℕ) (result : Result Listing FilesFault) (found : Option Listing) → kept_names k0 path ≡ None → KeepsNames k0 k1 path found
    → (tree : FileTree) (first f0 f1 : List Question) → IfOk result (λ kind. kind ≡ listing_of most_entries (get tree path)) → f1 ≡ failed_after f0 (question.Names path) result → IsReply result found
    → IsRight tree first f0 k0 → IsRight tree first f1 k1
names_right_by k0 k1 path (Ok kind) None absent keeps tree first f0 f1 answer failed reply right = cc
names_right_by k0 k1 path (Ok kind) (Some a) absent keeps tree first f0 f1 answer failed reply right =
    let same : a ≡ kind = cc in
    names_right k0 k1 path (Some a) absent keeps tree first f0 f1 right.fails (failed ∙ right.grown) right
    (ap Some (same ∙ answer) ∙ sym (ap (λ b. unless b (listing_of most_entries (get tree path))) (right.names path absent)))
    (λ q e. refl) (λ q. refl) (λ q. refl)
    (let long : length (failed_paths k1) ≡ length (failed_paths k0) + 0 = ap length keeps.failed ∙ length-append (failed_paths k0) [] in let old = right.many in omega arith)
names_right_by k0 k1 path (Err Memory) None absent keeps tree first f0 f1 answer failed reply right = cc
names_right_by k0 k1 path (Err Failed) None absent keeps tree first f0 f1 answer failed reply right =
    let asked : Question = question.Names path in
    names_right k0 k1 path None absent keeps tree first f0 f1 (right.fails ++ asked ∷ [])
    (failed ∙ ap (λ f. f ++ asked ∷ []) right.grown ∙ append_assoc first right.fails (asked ∷ [])) right
    (sym (ap (λ b. unless b (listing_of most_entries (get tree path))) (last_there (is_listing_of path) right.fails asked (text_itself path))))
    (λ q e. other_behind (is_listing_of q) right.fails asked (text_turned path q e))
    (λ q. other_behind (is_look_at q) right.fails asked refl)
    (λ q. other_behind (is_read_of q) right.fails asked refl)
    (let long : length (failed_paths k1) ≡ length (failed_paths k0) + 1 = ap length keeps.failed ∙ length-append (failed_paths k0) (path ∷ []) in let more : length (right.fails ++ asked ∷ []) ≡ length right.fails + 1 = length-append right.fails (asked ∷ []) in let old = right.many in omega arith)
names_right_by k0 k1 path (Err fault) (Some a) absent keeps tree first f0 f1 answer failed reply right = cc

names_counted : (k0 k1 : Known) (path : List ℕ) (result : Result Listing FilesFault) (found : Option Listing) → kept_names k0 path ≡ None → KeepsNames k0 k1 path found
    → (c0 c1 : ℕ) → HasCause c0 c1 result → IsReply result found → (start : ℕ) → IsCounted start c0 k0 → IsCounted start c1 k1
names_counted k0 k1 path result None absent keeps c0 c1 cause reply start counted =
    let risen : Rose c0 c1 = cause.failed (subst (λ r. IsErrOf r Failed) (sym reply) refl) in
    record {
      rose = let risen_by = counted.rose in
          let long : length (failed_paths k1) ≡ length (failed_paths k0) + 1 = ap length keeps.failed ∙ length-append (failed_paths k0) (path ∷ []) in
          subst (λ n. RoseBy n start c1) (sym long) (rose_once (length (failed_paths k0)) start c0 c1 risen_by risen);
      names = λ q e. subst (λ ps. Contains ps q) (sym keeps.failed) (elim (is_new_or_old (kept_names k0) (kept_names k1) path None absent (names_after k0 k1 path None absent keeps) q None e) [
        | inl new ↦ subst (λ p. Contains (failed_paths k0 ++ path ∷ []) p) new.0 (Contains-append_right (failed_paths k0) (path ∷ []) path (search rules))
        | inr old ↦ Contains-append_left (failed_paths k0) (path ∷ []) q (counted.names q old.1)
      ]);
      looks = λ q e. subst (λ ps. Contains ps q) (sym keeps.failed) (Contains-append_left (failed_paths k0) (path ∷ []) q (counted.looks q (sym (looks_same k0 k1 path None absent keeps q) ∙ e)));
    }
names_counted k0 k1 path result (Some a) absent keeps c0 c1 cause reply start counted =
    let same : failed_paths k1 ≡ failed_paths k0 = keeps.failed ∙ append-nil (failed_paths k0) in
    record {
      rose = let risen_by = counted.rose in let on = cause.later in subst (λ ps. RoseBy (length ps) start c1) (sym same) (omega arith);
      names = λ q e. subst (λ ps. Contains ps q) (sym same) (elim (is_new_or_old (kept_names k0) (kept_names k1) path (Some a) absent (names_after k0 k1 path (Some a) absent keeps) q None e) [
        | inl new ↦ absurd (let h = new.1 in cc)
        | inr old ↦ counted.names q old.1
      ]);
      looks = λ q e. subst (λ ps. Contains ps q) (sym same) (counted.looks q (sym (looks_same k0 k1 path (Some a) absent keeps q) ∙ e));
    }

-- one listing of a folder that was not listed
pub asked_names : (held : Option FileTree) (c0 c1 : ℕ) (f0 f1 : List Question) (k0 k1 : Known) (path : List ℕ) (result : Result Listing FilesFault) (found : Option Listing)
    → kept_names k0 path ≡ None → HasCause c0 c1 result
    → ForSome held (λ tree. IfOk result (λ kind. kind ≡ listing_of most_entries (get tree path)))
    → ForSome held (λ tree. f1 ≡ failed_after f0 (question.Names path) result)
    → IsReply result found → KeepsNames k0 k1 path found
    → Asks held c0 c1 f0 f1 k0 k1 (λ answers. answers.names path) found
asked_names held c0 c1 f0 f1 k0 k1 path result found absent cause answer failed reply keeps = record {
  learns = names_learns k0 k1 path found absent keeps;
  is = names_is k0 k1 path found absent keeps;
  right = λ tree told first. names_right_by k0 k1 path result found absent keeps tree first f0 f1 (answer tree told) (failed tree told) reply;
  counted = names_counted k0 k1 path result found absent keeps c0 c1 cause reply;
  later = cause.later;
}

-- an answer that was kept
pub listed_before : (held : Option FileTree) (c : ℕ) (f : List Question) (k : Known) (path : List ℕ) (found : Option Listing) → kept_names k path ≡ Some found → Asks held c c f f k k (λ answers. answers.names path) found
listed_before held c f k path found kept = record {
  learns = λ answers agrees. agrees;
  is = λ answers agrees. sym (agrees.names path found kept);
  right = λ tree told first right. right;
  counted = λ start counted. counted;
  later = omega arith;
}
