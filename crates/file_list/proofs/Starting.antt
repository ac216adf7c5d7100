-- What is known before anything was asked.
use Rattle.std.proofs.Common.{◌≡◌, ℕ, ◌≤◌, Bool, true, false, List, [], ◌∷◌, ◌++◌, length, Option, None, Some, refl, sym, ap, subst, ◌∙◌, arith, append-nil}
use Rattle.std.specs.Prelude.{count_by}
use Rattle.std.specs.List.{list_any, AllByRecursion}
use Rattle.std.specs.Option.{ForSome}
use Rattle.std.specs.FinMap.{get}
use Rattle.lint_outside.specs.Causes.{RoseBy}
use Rattle.lint_outside.specs.FileTree.{FileTree}
use Rattle.lint_outside.specs.Held.{kind_of, listing_of}
use Rattle.lint_outside.specs.declared.outside.Kind.{Kind}
use Rattle.lint_outside.specs.declared.outside.Kind.TheVariants as kind
use Rattle.lint_outside.specs.declared.outside.Question.{Question}
use Rattle.options.specs.Settings.{Settings}
use Rattle.file_list.specs.declared.found.Found.{Found}
use Rattle.file_list.specs.declared.found.Finding.{Finding}
use Rattle.file_list.specs.declared.found.Finding.TheVariants as finding
use Rattle.file_list.specs.declared.known.Known.{Known}
use Rattle.file_list.specs.Answers.{Answers, answers_of, is_listing_of, most_entries, unless}
use Rattle.file_list.specs.Asked.{kept_look, kept_names, failed_paths, Agrees, IsRight, IsCounted, Asks}
use Rattle.file_list.specs.Walked.{found_of}
use Rattle.file_list.specs.Contents.{Finds, IsFileAt, has_failed, is_file_finding}
use Rattle.file_list.specs.Entries.{is_look_at}
use Rattle.file_list.proofs.Failures.{answers_by, agrees_by, few_failed}
use Rattle.file_list.proofs.Fails.{same_behind}
use Rattle.file_list.proofs.Orderly.{HasReason, IsReasoned, IsOrderly, found_orderly}

module _ (known : Known) (looks : (path : List ℕ) → kept_look known path ≡ None) (names : (path : List ℕ) → kept_names known path ≡ None) (failed : failed_paths known ≡ []) where
  pub right_at_start : (tree : FileTree) (first : List Question) → IsRight tree first first known
  right_at_start tree first = record {
    fails = [];
    grown = sym (append-nil first);
    agrees = record {
      looks = λ path kept e. absurd (let h = sym (looks path) ∙ e in cc);
      names = λ path kept e. absurd (let h = sym (names path) ∙ e in cc);
    };
    looks = λ path e. refl;
    names = λ path e. refl;
    reads = λ path. refl;
    many = omega arith;
  }

  pub counted_at_start : (start : ℕ) → IsCounted start start known
  counted_at_start start = record {
    rose = let none : length (failed_paths known) ≡ 0 = ap length failed in omega arith;
    looks = λ path e. absurd (let h = sym (looks path) ∙ e in cc);
    names = λ path e. absurd (let h = sym (names path) ∙ e in cc);
  }

more_rises : (few many start now : ℕ) → few ≤ many → RoseBy many start now → RoseBy few start now
more_rises few many start now le rose = omega arith

-- what is known agrees with answers where reads fail too
agrees_later : (tree : FileTree) (known : Known) (fails unread : List Question) → Agrees known (answers_of tree fails) → ((path : List ℕ) → list_any (is_look_at path) unread ≡ false) → ((path : List ℕ) → list_any (is_listing_of path) unread ≡ false) → Agrees known (answers_of tree (fails ++ unread))
agrees_later tree known fails unread agrees looks names = record {
  looks = λ path kept e. ap (λ b. unless b (kind_of (get tree path))) (same_behind (is_look_at path) fails unread (looks path)) ∙ agrees.looks path kept e;
  names = λ path kept e. ap (λ b. unless b (listing_of most_entries (get tree path))) (same_behind (is_listing_of path) fails unread (names path)) ∙ agrees.names path kept e;
}

-- where a look answered a file one is held
file_held : (tree : FileTree) (fails : List Question) (path : List ℕ) (next : Finding) → HasReason (answers_of tree fails) path next → is_file_finding next ≡ true → kind_of (get tree path) ≡ kind.File
file_held tree fails path finding.File reason is_file = sym (answered (list_any (is_look_at path) fails) kind.File (kind_of (get tree path)) reason)
  where
    answered : (b : Bool) (a held : Kind) → unless b held ≡ Some a → a ≡ held
    answered true a held e = absurd cc
    answered false a held e = cc
file_held tree fails path finding.Missing reason is_file = absurd cc
file_held tree fails path finding.NoPackage reason is_file = absurd cc
file_held tree fails path finding.Failed reason is_file = absurd cc
file_held tree fails path finding.TooMany reason is_file = absurd cc
file_held tree fails path finding.TooDeep reason is_file = absurd cc

files_held : (tree : FileTree) (fails : List Question) (found : List Found) → AllByRecursion (IsReasoned (answers_of tree fails)) found → AllByRecursion (IsFileAt tree) found
files_held tree fails [] reasons = tt
files_held tree fails (f ∷ found) reasons = (file_held tree fails f.path f.finding reasons.0, files_held tree fails found reasons.1)

-- what was found by asking from the start
pub finds_from : (held : Option FileTree) (c0 c1 : ℕ) (f0 f1 : List Question) (known now : Known) (options : Settings) (arguments : List (List ℕ)) (found : List Found)
    → ((tree : FileTree) (first : List Question) → IsRight tree first first known) → IsCounted c0 c0 known
    → Asks held c0 c1 f0 f1 known now (λ answers. found_of answers options.ignore options.recursive arguments) found
    → Finds held c0 c1 f0 f1 options arguments found
finds_from held c0 c1 f0 f1 known now options arguments found right counted asked =
    let at_end = asked.counted c0 counted in
    let law : (answers : Answers) → Agrees now answers → IsOrderly answers found = λ answers agrees. subst (IsOrderly answers) (sym (asked.is answers agrees)) (found_orderly answers options.ignore options.recursive arguments) in
    let orderly = law (answers_by now) (agrees_by now) in
    record {
      distinct = orderly.distinct;
      few = orderly.few;
      failed = more_rises (count_by has_failed found) (length (failed_paths now)) c0 c1 (few_failed c0 c1 now found at_end orderly) at_end.rose;
      told = λ tree told.
          let is_right = asked.right tree told f0 (right tree f0) in
          record {
            fails = is_right.fails;
            grown = is_right.grown;
            rose = more_rises (length is_right.fails) (length (failed_paths now)) c0 c1 is_right.many at_end.rose;
            no_read = is_right.reads;
            is = λ unread looks names. asked.is (answers_of tree (is_right.fails ++ unread)) (agrees_later tree now is_right.fails unread is_right.agrees looks names);
            files = files_held tree is_right.fails found (law (answers_of tree is_right.fails) is_right.agrees).reasons;
          };
    }
