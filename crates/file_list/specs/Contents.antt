-- How the files that were found are read, one after another. Each path is taken once, so each file is read once.
use Rattle.std.specs.Prelude.{◌≡◌, ℕ, ◌+◌, ◌≤◌, Bool, true, false, List, [], ◌∷◌, ◌++◌, length, map, count_by, Option, None, Some, IfSome, if◌then◌else◌}
use Rattle.std.specs.List.{list_any, AllByRecursion, IsDistinct}
use Rattle.std.specs.Option.{ForSome}
use Rattle.std.specs.Str.{bytes_eq}
use Rattle.std.specs.FinMap.{get}
use Rattle.lint_outside.specs.Causes.{RoseBy}
use Rattle.lint_outside.specs.FileTree.{FileTree}
use Rattle.lint_outside.specs.Held.{kind_of, content_of, HasAtMostBytes}
use Rattle.lint_outside.specs.declared.outside.Content.{Content}
use Rattle.lint_outside.specs.declared.outside.Kind.TheVariants as kind
use Rattle.lint_outside.specs.declared.outside.Question.{Question}
use Rattle.lint_outside.specs.declared.outside.Question.TheVariants as question
use Rattle.options.specs.Settings.{Settings}
use Rattle.file_list.specs.declared.entry.Entry.{Entry}
use Rattle.file_list.specs.declared.entry.Listed.{Listed}
use Rattle.file_list.specs.declared.found.Finding.{Finding}
use Rattle.file_list.specs.declared.found.Finding.TheVariants as finding
use Rattle.file_list.specs.declared.found.Found.{Found}
use Rattle.file_list.specs.Entries.{is_failed, is_look_at, is_read_of, most_bytes}
use Rattle.file_list.specs.Answers.{answers_of, is_listing_of, most_entries}
use Rattle.file_list.specs.Walked.{found_of, is_taken}
use Rattle.file_list.specs.Gathered.{bytes_in_all, file_entry, most_bytes_in_all, read_all, settled, source_length}

-- a file that is still to be read
abbrev pub is_file_finding : Finding → Bool
is_file_finding finding.File = true
is_file_finding finding.Missing = false
is_file_finding finding.NoPackage = false
is_file_finding finding.Failed = false
is_file_finding finding.TooMany = false
is_file_finding finding.TooDeep = false

-- a look or a listing failed
abbrev pub is_failed_finding : Finding → Bool
is_failed_finding finding.File = false
is_failed_finding finding.Missing = false
is_failed_finding finding.NoPackage = false
is_failed_finding finding.Failed = true
is_failed_finding finding.TooMany = false
is_failed_finding finding.TooDeep = false

abbrev pub has_failed : Found → Bool
has_failed found = is_failed_finding found.finding

-- the question that failed, where a file has no answer
abbrev pub read_fails : List ℕ → Finding → Option Content → List Question
read_fails path next None = if is_file_finding next then question.Read path ∷ [] else []
read_fails path next (Some content) = []

-- what a read of the path answered: a failure stands last in the list
abbrev pub IsReadOf : FileTree → List Question → List Question → List ℕ → Option Content → Type 0
IsReadOf tree before now path None = now ≡ before ++ question.Read path ∷ []
IsReadOf tree before now path (Some content) = (now ≡ before) × (content ≡ content_of most_bytes (get tree path))

-- where a file was found one is held
abbrev pub IsFileAt : FileTree → Found → Type 0
IsFileAt tree found = is_file_finding found.finding ≡ true → kind_of (get tree found.path) ≡ kind.File

-- the paths of what was found
abbrev pub paths_of : List Found → List (List ℕ)
paths_of found = map (λ f. f.path) found

-- A file was read, or what is no file was passed over.
pub record HasAnswered (held : Option FileTree) (count_before count_now : ℕ) (before now : List Question) (found : Found) (answer : Option Content) : Type 0 where
  pub rose : RoseBy (length (read_fails found.path found.finding answer)) count_before count_now
  pub grown : ForSome held (λ tree. now ≡ before ++ read_fails found.path found.finding answer)
  pub content : ForSome held (λ tree. IfSome answer (λ content. content ≡ content_of most_bytes (get tree found.path)))
  pub most : IfSome answer (HasAtMostBytes most_bytes)

-- the entry of a finding, by what its read answered
abbrev pub entry_by : ℕ → Found → Option Content → Entry
entry_by so_far found answer = settled (file_entry so_far answer) found.finding

-- the same with its path and its name
abbrev pub listed_by : ℕ → Found → Option Content → Listed
listed_by so_far found answer = record { path = found.path; module_name = found.module_name; is_package = found.is_package; entry = entry_by so_far found answer }

-- One more entry, and the bytes of all sources with it.
pub record ReadsNext (held : Option FileTree) (count_before count_now : ℕ) (before now : List Question) (so_far : ℕ) (reading more : List Listed) (found : Found) (sum : ℕ) : Type 0 where
  pub answer : Option Content
  pub answered : HasAnswered held count_before count_now before now found answer
  pub is : more ≡ reading ++ listed_by so_far found answer ∷ []
  pub total : sum ≡ so_far + source_length (entry_by so_far found answer)
  pub within : sum ≤ most_bytes_in_all

-- no read is among the questions
abbrev pub HasNoRead : List Question → Type 0
HasNoRead fails = (path : List ℕ) → list_any (is_read_of path) fails ≡ false

-- What was found was read: whichever looks and listings failed before, it is the reading where these reads failed too.
pub record Reads (held : Option FileTree) (count_before count_now : ℕ) (before now : List Question) (found : List Found) (reading : List Listed) : Type 0 where
  pub unread : List Question
  pub rose : RoseBy (length unread) count_before count_now
  pub few : count_by is_failed reading ≤ count_by has_failed found + length unread
  pub many : length reading ≡ length found
  pub within : bytes_in_all reading ≤ most_bytes_in_all
  pub grown : ForSome held (λ tree. now ≡ before ++ unread)
  pub looks : (path : List ℕ) → list_any (is_look_at path) unread ≡ false
  pub names : (path : List ℕ) → list_any (is_listing_of path) unread ≡ false
  pub reads : (path : List ℕ) → is_taken found path ≡ false → list_any (is_read_of path) unread ≡ false
  pub is : ForSome held (λ tree. (fails : List Question) → HasNoRead fails → reading ≡ read_all (answers_of tree (fails ++ unread)) found)

-- What was found is that of what the files hold and of the questions that failed meanwhile, whichever reads fail later.
pub record IsFoundIn (tree : FileTree) (before now : List Question) (count_before count_now : ℕ) (options : Settings) (arguments : List (List ℕ)) (found : List Found) : Type 0 where
  pub fails : List Question
  pub grown : now ≡ before ++ fails
  pub rose : RoseBy (length fails) count_before count_now
  pub no_read : HasNoRead fails
  pub is : (unread : List Question) → ((path : List ℕ) → list_any (is_look_at path) unread ≡ false) → ((path : List ℕ) → list_any (is_listing_of path) unread ≡ false)
      → found ≡ found_of (answers_of tree (fails ++ unread)) options.ignore options.recursive arguments
  pub files : AllByRecursion (IsFileAt tree) found

-- What was found, each path once, and on every device no more failures than the rise of the count.
pub record Finds (held : Option FileTree) (count_before count_now : ℕ) (before now : List Question) (options : Settings) (arguments : List (List ℕ)) (found : List Found) : Type 0 where
  pub distinct : IsDistinct bytes_eq (paths_of found)
  pub few : length found ≤ most_entries + 1
  pub failed : RoseBy (count_by has_failed found) count_before count_now
  pub told : ForSome held (λ tree. IsFoundIn tree before now count_before count_now options arguments found)
