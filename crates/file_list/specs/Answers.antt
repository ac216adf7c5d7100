-- What a device of files answers to each question: none where the question fails.
use Rattle.std.specs.Prelude.{ℕ, Bool, true, false, List, Option, None, Some, if◌then◌else◌}
use Rattle.std.specs.List.{list_any}
use Rattle.std.specs.Str.{bytes_eq}
use Rattle.std.specs.FinMap.{get}
use Rattle.lint_outside.specs.FileTree.{FileTree}
use Rattle.lint_outside.specs.Held.{kind_of, content_of, listing_of}
use Rattle.lint_outside.specs.declared.outside.Kind.{Kind}
use Rattle.lint_outside.specs.declared.outside.Kind.TheVariants as kind
use Rattle.lint_outside.specs.declared.outside.Content.{Content}
use Rattle.lint_outside.specs.declared.outside.Listing.{Listing}
use Rattle.lint_outside.specs.declared.outside.Question.{Question}
use Rattle.lint_outside.specs.declared.outside.Question.TheVariants as question
use Rattle.file_list.specs.Entries.{is_look_at, is_read_of, most_bytes}

-- the most names that are listed of a folder, and the most entries of a reading before gathering ends
abbrev pub most_entries : ℕ
most_entries = 20000

-- a listing of the folder
abbrev pub is_listing_of : List ℕ → Question → Bool
is_listing_of path (question.Look asked) = false
is_listing_of path (question.Names asked) = bytes_eq path asked
is_listing_of path (question.Read asked) = false

pub record Answers : Type 0 where
  pub look : List ℕ → Option Kind
  pub names : List ℕ → Option Listing
  pub read : List ℕ → Option Content

-- the answer, but for a question that fails
abbrev pub unless : {X : Type 0} → Bool → X → Option X
unless fails answer = if fails then None else Some answer

-- what is answered by what is held, where these questions fail
abbrev pub answers_of : FileTree → List Question → Answers
answers_of tree fails = record {
  look = λ path. unless (list_any (is_look_at path) fails) (kind_of (get tree path));
  names = λ path. unless (list_any (is_listing_of path) fails) (listing_of most_entries (get tree path));
  read = λ path. unless (list_any (is_read_of path) fails) (content_of most_bytes (get tree path));
}

-- there is a file: a look that fails counts as none
abbrev pub is_file : Option Kind → Bool
is_file None = false
is_file (Some kind.File) = true
is_file (Some kind.Folder) = false
is_file (Some kind.Missing) = false
