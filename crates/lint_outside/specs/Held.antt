-- What a device of files answers to a question, by what is held at the path.
use Rattle.std.specs.Prelude.{ℕ, ◌≤◌, List, [], length, Option, None, Some, if◌then◌else◌, nat_le}
use Rattle.lint_outside.specs.FileTree.{Held, HeldFile, HeldFolder}
use Rattle.lint_outside.specs.declared.outside.Kind.{Kind}
use Rattle.lint_outside.specs.declared.outside.Kind.TheVariants as kind
use Rattle.lint_outside.specs.declared.outside.Content.{Content}
use Rattle.lint_outside.specs.declared.outside.Content.TheVariants as content
use Rattle.lint_outside.specs.declared.outside.Listing.{Listing}
use Rattle.lint_outside.specs.declared.outside.Listing.TheVariants as listing

-- what a look answers
abbrev pub kind_of : Option Held → Kind
kind_of None = kind.Missing
kind_of (Some (HeldFile bytes)) = kind.File
kind_of (Some (HeldFolder names)) = kind.Folder

-- what a read of a file answers, where at most so many bytes are wanted
abbrev pub content_of : ℕ → Option Held → Content
content_of most None = content.Whole []
content_of most (Some (HeldFile bytes)) = if nat_le (length bytes) most then content.Whole bytes else content.TooLarge
content_of most (Some (HeldFolder names)) = content.Whole []

-- what a listing of a folder answers, where at most so many names are wanted
abbrev pub listing_of : ℕ → Option Held → Listing
listing_of most None = listing.Names []
listing_of most (Some (HeldFile bytes)) = listing.Names []
listing_of most (Some (HeldFolder names)) = if nat_le (length names) most then listing.Names names else listing.TooMany

-- no more bytes than were asked for
abbrev pub HasAtMostBytes : ℕ → Content → Type 0
HasAtMostBytes most (content.Whole bytes) = length bytes ≤ most
HasAtMostBytes most content.TooLarge = Unit {0}

-- no more names than were asked for
abbrev pub HasAtMostNames : ℕ → Listing → Type 0
HasAtMostNames most (listing.Names names) = length names ≤ most
HasAtMostNames most listing.TooMany = Unit {0}
