-- The reading of what was found, by what each read answered.
use Rattle.std.proofs.Common.{◌≡◌, ℕ, ◌+◌, ◌≤◌, ◌<◌, Bool, true, false, cond, List, [], ◌∷◌, ◌++◌, length, map, fold, take, drop, get_or, Option, None, Some, refl, sym, ap, subst, ◌∙◌, arith, length-append, append_assoc, append-nil}
use Rattle.std.specs.Prelude.{◌||◌, count_by, IfSome, nat_le}
use Rattle.std.specs.List.{list_any, IsDistinct, AllByRecursion}
use Rattle.std.specs.Option.{ForSome}
use Rattle.std.specs.Str.{bytes_eq}
use Rattle.std.specs.FinMap.{get}
use Rattle.std.proofs.lemmas.Bool.Decides.{nat_tests}
use Rattle.std.proofs.lemmas.List.{take-append-drop, drop_more}
use Rattle.std.proofs.lemmas.List.Folds.{list_any-append}
use Rattle.std.proofs.lemmas.List.Sums.{fold-append, sum_by_push}
use Rattle.std.proofs.lemmas.Map.Keys.{IsDistinct-head, IsDistinct-tail}
use Rattle.lint_outside.specs.Causes.{RoseBy}
use Rattle.lint_outside.specs.FileTree.{FileTree}
use Rattle.lint_outside.specs.Held.{content_of}
use Rattle.lint_outside.specs.declared.outside.Content.{Content}
use Rattle.lint_outside.specs.declared.outside.Content.TheVariants as content
use Rattle.lint_outside.specs.declared.outside.Question.{Question}
use Rattle.lint_outside.specs.declared.outside.Question.TheVariants as question
use Rattle.file_list.specs.declared.entry.Entry.{Entry}
use Rattle.file_list.specs.declared.entry.Entry.TheVariants as entry
use Rattle.file_list.specs.declared.entry.Listed.{Listed}
use Rattle.file_list.specs.declared.found.Finding.{Finding}
use Rattle.file_list.specs.declared.found.Finding.TheVariants as finding
use Rattle.file_list.specs.declared.found.Found.{Found}
use Rattle.file_list.specs.Entries.{is_failed, is_failed_entry, is_look_at, is_read_of, most_bytes}
use Rattle.file_list.specs.Answers.{Answers, answers_of, is_listing_of, unless}
use Rattle.file_list.specs.Walked.{is_taken}
use Rattle.file_list.specs.Gathered.{bytes_in_all, entry_of, file_entry, most_bytes_in_all, read_all, settled, source_length, with_read}
use Rattle.file_list.specs.Contents.{HasAnswered, HasNoRead, IsFileAt, ReadsNext, Reads, entry_by, has_failed, is_failed_finding, is_file_finding, listed_by, paths_of, read_fails}
use Rattle.file_list.proofs.Kept.{text_itself, text_turned}

or_split : (a b : Bool) → (a || b) ≡ false → (a ≡ false) × (b ≡ false)
or_split true b e = absurd cc
or_split false b e = (refl, e)

or_false : (b : Bool) → (b || false) ≡ b
or_false true = refl
or_false false = refl

or_none : (a b : Bool) → a ≡ false → b ≡ false → (a || b) ≡ false
or_none true b e f = e
or_none false b e f = f

-- a question that is in neither list
pub in_neither : (p : Question → Bool) (xs ys : List Question) → list_any p xs ≡ false → list_any p ys ≡ false → list_any p (xs ++ ys) ≡ false
in_neither p xs ys e f = list_any-append p xs ys ∙ or_none (list_any p xs) (list_any p ys) e f

-- what holds of all holds in the middle
pub in_middle : {X : Type 0} (P : X → Type 0) (xs : List X) (y : X) (zs : List X) → AllByRecursion P (xs ++ y ∷ zs) → P y
in_middle P [] y zs all = all.0
in_middle P (x ∷ xs) y zs all = in_middle P xs y zs all.1

path_in_middle : (P : List ℕ → Type 0) (xs : List Found) (f : Found) (zs : List Found) → AllByRecursion P (paths_of (xs ++ f ∷ zs)) → P f.path
path_in_middle P [] f zs all = all.0
path_in_middle P (x ∷ xs) f zs all = path_in_middle P xs f zs all.1

-- a path that comes later was not taken before
apart_before : (xs : List Found) (f : Found) (zs : List Found) → IsDistinct bytes_eq (paths_of (xs ++ f ∷ zs)) → is_taken xs f.path ≡ false
apart_before [] f zs distinct = refl
apart_before (x ∷ xs) f zs distinct =
    or_none (bytes_eq f.path x.path) (is_taken xs f.path)
    (text_turned x.path f.path (path_in_middle (λ p. bytes_eq x.path p ≡ false) xs f zs (IsDistinct-head bytes_eq x.path (paths_of (xs ++ f ∷ zs)) distinct)))
    (apart_before xs f zs (IsDistinct-tail bytes_eq x.path (paths_of (xs ++ f ∷ zs)) distinct))

-- what was found, with its element at a place in the middle
pub split_at : {X : Type 0} (xs : List X) (i : ℕ) (x : X) → i < length xs → x ≡ get_or xs i x → xs ≡ take i xs ++ x ∷ drop (i + 1) xs
split_at xs i x low at = sym (take-append-drop i xs) ∙ ap (λ ys. take i xs ++ ys) (drop_more xs i x low ∙ ap (λ y. y ∷ drop (i + 1) xs) (sym at))

pub not_taken : (found : List Found) (i : ℕ) (f : Found) → i < length found → f ≡ get_or found i f → IsDistinct bytes_eq (paths_of found) → is_taken (take i found) f.path ≡ false
not_taken found i f low at distinct = apart_before (take i found) f (drop (i + 1) found) (subst (λ xs. IsDistinct bytes_eq (paths_of xs)) (split_at found i f low at) distinct)

pub file_at : (tree : FileTree) (found : List Found) (i : ℕ) (f : Found) → i < length found → f ≡ get_or found i f → AllByRecursion (IsFileAt tree) found → IsFileAt tree f
file_at tree found i f low at all = in_middle (IsFileAt tree) (take i found) f (drop (i + 1) found) (subst (AllByRecursion (IsFileAt tree)) (split_at found i f low at) all)

-- other reads leave what was read
read_same : (one other : Answers) (path : List ℕ) → ((q : List ℕ) → bytes_eq path q ≡ false → one.read q ≡ other.read q) → (found : List Found) → is_taken found path ≡ false → (reading : List Listed) → fold (with_read one) reading found ≡ fold (with_read other) reading found
read_same one other path same [] apart reading = refl
read_same one other path same (f ∷ found) apart reading =
    let parts = or_split (bytes_eq path f.path) (is_taken found path) apart in
    let with_entry : Entry → List Listed = λ e. reading ++ record { path = f.path; module_name = f.module_name; is_package = f.is_package; entry = e } ∷ [] in
    let here : with_read one reading f ≡ with_read other reading f = ap (λ a. with_entry (settled (file_entry (bytes_in_all reading) a) f.finding)) (same f.path parts.0) in
    ap (λ r. fold (with_read one) r found) here ∙ read_same one other path same found parts.1 (with_read other reading f)

-- the reads of one finding that failed
module _ (path : List ℕ) where
  fails_no_look : (next : Finding) (answer : Option Content) (q : List ℕ) → list_any (is_look_at q) (read_fails path next answer) ≡ false
  fails_no_look next (Some c) q = refl
  fails_no_look next None q = by_flag (is_file_finding next)
    where
      by_flag : (b : Bool) → list_any (is_look_at q) (cond b (question.Read path ∷ []) []) ≡ false
      by_flag true = refl
      by_flag false = refl

  fails_no_names : (next : Finding) (answer : Option Content) (q : List ℕ) → list_any (is_listing_of q) (read_fails path next answer) ≡ false
  fails_no_names next (Some c) q = refl
  fails_no_names next None q = by_flag (is_file_finding next)
    where
      by_flag : (b : Bool) → list_any (is_listing_of q) (cond b (question.Read path ∷ []) []) ≡ false
      by_flag true = refl
      by_flag false = refl

  fails_elsewhere : (next : Finding) (answer : Option Content) (q : List ℕ) → bytes_eq q path ≡ false → list_any (is_read_of q) (read_fails path next answer) ≡ false
  fails_elsewhere next (Some c) q apart = refl
  fails_elsewhere next None q apart = by_flag (is_file_finding next)
    where
      by_flag : (b : Bool) → list_any (is_read_of q) (cond b (question.Read path ∷ []) []) ≡ false
      by_flag true = or_none (bytes_eq q path) false apart refl
      by_flag false = refl

-- the entry of a finding is by what its read answers, where it is a file
settled_same : (one other : Entry) (next : Finding) → (is_file_finding next ≡ true → one ≡ other) → settled one next ≡ settled other next
settled_same one other finding.File same = same refl
settled_same one other finding.Missing same = refl
settled_same one other finding.NoPackage same = refl
settled_same one other finding.Failed same = refl
settled_same one other finding.TooMany same = refl
settled_same one other finding.TooDeep same = refl

-- the read of a file answers what was read
read_again : (tree : FileTree) (path : List ℕ) (next : Finding) (answer : Option Content) (before : List Question) → list_any (is_read_of path) before ≡ false → IfSome answer (λ content. content ≡ content_of most_bytes (get tree path)) → is_file_finding next ≡ true → answer ≡ (answers_of tree (before ++ read_fails path next answer)).read path
read_again tree path next None before clean content is_file =
    let asked : list_any (is_read_of path) (read_fails path next None) ≡ true = ap (λ b. list_any (is_read_of path) (cond b (question.Read path ∷ []) [])) is_file ∙ ap (λ b. b || false) (text_itself path) in
    sym (ap (λ b. unless b (content_of most_bytes (get tree path))) (list_any-append (is_read_of path) before (read_fails path next None) ∙ ap (λ b. b || list_any (is_read_of path) (read_fails path next None)) clean ∙ asked))
read_again tree path next (Some c) before clean content is_file =
    ap Some content ∙ sym (ap (λ b. unless b (content_of most_bytes (get tree path))) (in_neither (is_read_of path) before [] clean refl))

-- a failed entry is a failed finding, or a read that failed
one_failed : (so_far : ℕ) (path : List ℕ) (next : Finding) (answer : Option Content) → cond (is_failed_entry (settled (file_entry so_far answer) next)) 1 0 ≤ cond (is_failed_finding next) 1 0 + length (read_fails path next answer)
one_failed so_far path finding.File None = omega arith
one_failed so_far path finding.File (Some content.TooLarge) = omega arith
one_failed so_far path finding.File (Some (content.Whole bytes)) = by_space (nat_le (so_far + length bytes) most_bytes_in_all)
  where
    by_space : (b : Bool) → cond (is_failed_entry (cond b (entry.Source bytes) entry.TooMuch)) 1 0 ≤ 0
    by_space true = omega arith
    by_space false = omega arith
one_failed so_far path finding.Missing answer = omega arith
one_failed so_far path finding.NoPackage answer = omega arith
one_failed so_far path finding.Failed answer = omega arith
one_failed so_far path finding.TooMany answer = omega arith
one_failed so_far path finding.TooDeep answer = omega arith

-- the bytes of all sources stay within the limit
source_fits : (so_far : ℕ) (next : Finding) (answer : Option Content) → so_far ≤ most_bytes_in_all → so_far + source_length (settled (file_entry so_far answer) next) ≤ most_bytes_in_all
source_fits so_far finding.File None low = omega arith
source_fits so_far finding.File (Some content.TooLarge) low = omega arith
source_fits so_far finding.File (Some (content.Whole bytes)) low = by_space (nat_le (so_far + length bytes) most_bytes_in_all) refl
  where
    by_space : (b : Bool) → nat_le (so_far + length bytes) most_bytes_in_all ≡ b → so_far + source_length (cond b (entry.Source bytes) entry.TooMuch) ≤ most_bytes_in_all
    by_space true t = grind (arith, nat_tests)
    by_space false t = omega arith
source_fits so_far finding.Missing answer low = omega arith
source_fits so_far finding.NoPackage answer low = omega arith
source_fits so_far finding.Failed answer low = omega arith
source_fits so_far finding.TooMany answer low = omega arith
source_fits so_far finding.TooDeep answer low = omega arith

pub fits_more : (so_far sum : ℕ) (next : Finding) (answer : Option Content) → so_far ≤ most_bytes_in_all → sum ≡ so_far + source_length (settled (file_entry so_far answer) next) → sum ≤ most_bytes_in_all
fits_more so_far sum next answer low total = subst (λ n. n ≤ most_bytes_in_all) (sym total) (source_fits so_far next answer low)

pub more_rise : (few more first second c0 c1 c2 : ℕ) → first ≡ few → second ≡ more → RoseBy few c0 c1 → RoseBy more c1 c2 → (all : ℕ) → all ≡ first + second → RoseBy all c0 c2
more_rise few more first second c0 c1 c2 e f one two all g = omega arith

-- nothing was read
pub reads_none : (held : Option FileTree) (c : ℕ) (f : List Question) → Reads held c c f f [] []
reads_none held c f = record {
  unread = [];
  rose = omega arith;
  few = omega arith;
  many = refl;
  within = omega arith;
  grown = λ tree told. sym (append-nil f);
  looks = λ q. refl;
  names = λ q. refl;
  reads = λ q apart. refl;
  is = λ tree told fails clean. refl;
}

-- the bytes of all sources with one more entry
pub bytes_next : (held : Option FileTree) (c1 c2 : ℕ) (f1 f2 : List Question) (f : Found) (reading more : List Listed) (so_far sum : ℕ) → so_far ≡ bytes_in_all reading → ReadsNext held c1 c2 f1 f2 so_far reading more f sum → sum ≡ bytes_in_all more
bytes_next held c1 c2 f1 f2 f reading more so_far sum bytes next =
    next.total ∙ ap (λ n. n + source_length (entry_by so_far f next.answer)) bytes
    ∙ sym (ap bytes_in_all next.is ∙ sum_by_push (λ l. source_length l.entry) reading (listed_by so_far f next.answer))

-- one more finding was read, whose path was not taken
pub reads_next : (held held_now : Option FileTree) (c0 c1 c2 : ℕ) (f0 f1 f2 : List Question) (found : List Found) (f : Found) (reading more : List Listed) (so_far sum : ℕ)
    → held_now ≡ held → is_taken found f.path ≡ false → so_far ≡ bytes_in_all reading
    → Reads held c0 c1 f0 f1 found reading → ReadsNext held_now c1 c2 f1 f2 so_far reading more f sum → Reads held c0 c2 f0 f2 (found ++ f ∷ []) more
reads_next held held_now c0 c1 c2 f0 f1 f2 found f reading more so_far sum same apart bytes before next =
    let answered = next.answered in
    let here : List Question = read_fails f.path f.finding next.answer in
    let listed : Listed = listed_by so_far f next.answer in
    let long : length (before.unread ++ here) ≡ length before.unread + length here = length-append before.unread here in
    let failed_more : count_by is_failed more ≡ count_by is_failed reading + cond (is_failed listed) 1 0 = ap (count_by is_failed) next.is ∙ sum_by_push (λ l. cond (is_failed l) 1 0) reading listed in
    let found_more : count_by has_failed (found ++ f ∷ []) ≡ count_by has_failed found + cond (has_failed f) 1 0 = sum_by_push (λ g. cond (has_failed g) 1 0) found f in
    let one = one_failed so_far f.path f.finding next.answer in
    let few_before = before.few in
    let all_bytes : bytes_in_all more ≡ sum = ap bytes_in_all next.is ∙ sum_by_push (λ l. source_length l.entry) reading listed ∙ ap (λ n. n + source_length (entry_by so_far f next.answer)) (sym bytes) ∙ sym next.total in
    record {
      unread = before.unread ++ here;
      rose = more_rise (length before.unread) (length here) (length before.unread) (length here) c0 c1 c2 refl refl before.rose answered.rose (length (before.unread ++ here)) long;
      few = omega arith;
      many = ap length next.is ∙ length-append reading (listed ∷ []) ∙ ap (λ n. n + 1) before.many ∙ sym (length-append found (f ∷ []));
      within = subst (λ n. n ≤ most_bytes_in_all) (sym all_bytes) next.within;
      grown = λ tree told. answered.grown tree (same ∙ told) ∙ ap (λ q. q ++ here) (before.grown tree told) ∙ append_assoc f0 before.unread here;
      looks = λ q. in_neither (is_look_at q) before.unread here (before.looks q) (fails_no_look f.path f.finding next.answer q);
      names = λ q. in_neither (is_listing_of q) before.unread here (before.names q) (fails_no_names f.path f.finding next.answer q);
      reads = λ q out.
          let parts = or_split (is_taken found q) (bytes_eq q f.path || false) (sym (list_any-append (λ g. bytes_eq q g.path) found (f ∷ [])) ∙ out) in
          let other = or_split (bytes_eq q f.path) false parts.1 in
          in_neither (is_read_of q) before.unread here (before.reads q parts.0) (fails_elsewhere f.path f.finding next.answer q other.0);
      is = λ tree told fails clean.
          let asked : List Question = fails ++ before.unread in
          let all : List Question = fails ++ (before.unread ++ here) in
          let joined : all ≡ asked ++ here = sym (append_assoc fails before.unread here) in
          let clean_here : list_any (is_read_of f.path) asked ≡ false = in_neither (is_read_of f.path) fails before.unread (clean f.path) (before.reads f.path apart) in
          let old : read_all (answers_of tree all) found ≡ reading =
          read_same (answers_of tree all) (answers_of tree asked) f.path (λ q e. ap (λ b. unless b (content_of most_bytes (get tree q))) (ap (list_any (is_read_of q)) joined ∙ list_any-append (is_read_of q) asked here ∙ ap (λ b. list_any (is_read_of q) asked || b) (fails_elsewhere f.path f.finding next.answer q (text_turned f.path q e)) ∙ or_false (list_any (is_read_of q) asked))) found apart []
          ∙ sym (before.is tree told fails clean) in
          let entry_is : entry_by so_far f next.answer ≡ entry_of (answers_of tree all) (bytes_in_all reading) f =
          settled_same (file_entry so_far next.answer) (file_entry (bytes_in_all reading) ((answers_of tree all).read f.path)) f.finding
          (λ is_file. ap (λ n. file_entry n next.answer) bytes ∙ ap (file_entry (bytes_in_all reading)) (read_again tree f.path f.finding next.answer asked clean_here (answered.content tree (same ∙ told)) is_file ∙ ap (λ qs. (answers_of tree qs).read f.path) (sym joined))) in
          next.is
          ∙ ap (λ e. reading ++ record { path = f.path; module_name = f.module_name; is_package = f.is_package; entry = e } ∷ []) entry_is
          ∙ ap (λ r. with_read (answers_of tree all) r f) (sym old)
          ∙ sym (fold-append (with_read (answers_of tree all)) [] found (f ∷ []));
    }
