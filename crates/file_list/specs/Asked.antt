-- What is known of the answers of a device of files, and how it comes to be known. Each question is asked once.
use Rattle.std.specs.Prelude.{◌≡◌, ℕ, ◌≤◌, Bool, true, false, List, [], ◌∷◌, ◌++◌, length, Option, None, Some, Result, Ok, Err, Contains}
use Rattle.std.specs.List.{list_any}
use Rattle.std.specs.Option.{ForSome}
use Rattle.std.specs.BTreeMap as tree
use Rattle.lint_outside.specs.Causes.{RoseBy}
use Rattle.lint_outside.specs.FileTree.{FileTree}
use Rattle.lint_outside.specs.declared.outside.FilesFault.{FilesFault}
use Rattle.lint_outside.specs.declared.outside.FilesFault.TheVariants.{Failed, Memory}
use Rattle.lint_outside.specs.declared.outside.Kind.{Kind}
use Rattle.lint_outside.specs.declared.outside.Listing.{Listing}
use Rattle.lint_outside.specs.declared.outside.Question.{Question}
use Rattle.lint_messages.specs.Order.{text_cmp}
use Rattle.file_list.specs.declared.known.Known.{Known}
use Rattle.file_list.specs.Entries.{is_look_at, is_read_of}
use Rattle.file_list.specs.Answers.{Answers, answers_of, is_listing_of}

-- the answer of a look that was kept
abbrev pub kept_look : Known → List ℕ → Option (Option Kind)
kept_look known path = tree.get text_cmp known.looks path

-- the answer of a listing that was kept
abbrev pub kept_names : Known → List ℕ → Option (Option Listing)
kept_names known path = tree.get text_cmp known.listings path

-- the paths of the questions that failed
abbrev pub failed_paths : Known → List (List ℕ)
failed_paths known = known.failed.items

-- what is kept of an answer: none of a failure
abbrev pub IsReply : {T : Type 0} → Result T FilesFault → Option T → Type 0
IsReply result None = result ≡ Err Failed
IsReply result (Some answer) = result ≡ Ok answer

-- the path of a question that failed
abbrev pub if_failed : {T : Type 0} → List ℕ → Option T → List (List ℕ)
if_failed path None = path ∷ []
if_failed path (Some answer) = []

-- each kept answer is one of these
pub record Agrees (known : Known) (answers : Answers) : Type 0 where
  pub looks : (path : List ℕ) (kept : Option Kind) → kept_look known path ≡ Some kept → answers.look path ≡ kept
  pub names : (path : List ℕ) (kept : Option Listing) → kept_names known path ≡ Some kept → answers.names path ≡ kept

-- What is kept is right where these questions failed behind the first ones: looks and listings that are kept.
pub record IsRight (tree : FileTree) (first failed : List Question) (known : Known) : Type 0 where
  pub fails : List Question
  pub grown : failed ≡ first ++ fails
  pub agrees : Agrees known (answers_of tree fails)
  pub looks : (path : List ℕ) → kept_look known path ≡ None → list_any (is_look_at path) fails ≡ false
  pub names : (path : List ℕ) → kept_names known path ≡ None → list_any (is_listing_of path) fails ≡ false
  pub reads : (path : List ℕ) → list_any (is_read_of path) fails ≡ false
  pub many : length fails ≤ length (failed_paths known)

-- The failures that are kept are no more than the rise of the count.
pub record IsCounted (start count : ℕ) (known : Known) : Type 0 where
  pub rose : RoseBy (length (failed_paths known)) start count
  pub looks : (path : List ℕ) → kept_look known path ≡ Some None → Contains (failed_paths known) path
  pub names : (path : List ℕ) → kept_names known path ≡ Some None → Contains (failed_paths known) path

-- A value that was made by asking: it is what these answers make of it, whichever answers agree with all that is known.
pub record Asks {X : Type 0} (held : Option FileTree) (count_before count_now : ℕ) (failed_before failed_now : List Question) (before now : Known) (meaning : Answers → X) (value : X) : Type 0 where
  pub learns : (answers : Answers) → Agrees now answers → Agrees before answers
  pub is : (answers : Answers) → Agrees now answers → value ≡ meaning answers
  pub right : ForSome held (λ tree. (first : List Question) → IsRight tree first failed_before before → IsRight tree first failed_now now)
  pub counted : (start : ℕ) → IsCounted start count_before before → IsCounted start count_now now
  pub later : count_before ≤ count_now

-- One more look is kept.
pub record KeepsLook (before now : Known) (path : List ℕ) (found : Option Kind) : Type 0 where
  pub looks : tree.Updates text_cmp before.looks now.looks path (Some found)
  pub names : now.listings ≡ before.listings
  pub failed : failed_paths now ≡ failed_paths before ++ if_failed path found

-- One more listing is kept.
pub record KeepsNames (before now : Known) (path : List ℕ) (found : Option Listing) : Type 0 where
  pub names : tree.Updates text_cmp before.listings now.listings path (Some found)
  pub looks : now.looks ≡ before.looks
  pub failed : failed_paths now ≡ failed_paths before ++ if_failed path found

-- What is known is right so far.
abbrev pub IsRightSoFar : FileTree → List Question → Known → Type 0
IsRightSoFar tree failed known = (first : List Question) × IsRight tree first failed known
