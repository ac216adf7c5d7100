-- What is handed back as read, at any answer.
use Rattle.std.proofs.Common.{◌≡◌, ℕ, List, [], Option, None, sym, ap, ◌∙◌}
use Rattle.std.specs.Prelude.{Ok}
use Rattle.lint_outside.specs.FileTree.{FileTree}
use Rattle.lint_outside.specs.declared.outside.Question.{Question}
use Rattle.options.specs.declared.line.Line.{Line}
use Rattle.options.specs.Settings.{Settings}
use Rattle.file_list.specs.declared.entry.Listed.{Listed}
use Rattle.file_list.specs.Gathered.{IsReadingOf, reading_of}
use Rattle.options_file.specs.Reading.{IsOptionsReadOf, options_at, options_path}
use Rattle.options_file.specs.Settings.{settings_by}
use Rattle.lint_report.specs.declared.outcome.OptionsRead.TheVariants.{NotLooked}
use Rattle.lint_report.specs.declared.outcome.Whole.{Whole}
use Rattle.lint_engine.specs.Command.{Said, IsPartOf, unread, whole_read, IsPartRead, list_by, options_for}

-- nothing was asked
pub nothing_part : (said : Said) (read : Whole) → read.options ≡ NotLooked → read.list ≡ [] → (tree : FileTree) → IsPartRead said tree read
nothing_part said read options list tree = record { options = unread options; list = unread list }

-- what was gathered
pub gathered_part : (tree : FileTree) (before now : List Question) (count_before count_now : ℕ) (options : Settings) (args : List (List ℕ)) (list : List Listed) → IsReadingOf tree before now count_before count_now options args list → IsPartOf [] (λ fails. reading_of tree fails options args) list
gathered_part tree before now count_before count_now options args list h = whole_read h.fails h.is

module _ (line : Line) (plain : line.generate ≡ None) (read : Whole) (tree : FileTree) (before now : List Question) (count_before count_now : ℕ) (h : IsOptionsReadOf tree before now count_before count_now (options_path line.rcfile) read.options) where
  options_are : read.options ≡ options_for line.generate (options_at tree h.fails (options_path line.rcfile))
  options_are = h.is ∙ sym (ap (λ g. options_for g (options_at tree h.fails (options_path line.rcfile))) plain)

  -- the options file was read, and no file
  pub options_part : read.list ≡ [] → IsPartRead (Ok line) tree read
  options_part list = record { options = whole_read h.fails options_are; list = unread list }

  list_part : (options : Settings) → settings_by line read.options ≡ Ok options → IsPartOf [] (λ fails. reading_of tree fails options line.files) read.list → IsPartOf [] (λ fails. list_by line.generate (settings_by line read.options) tree fails line.files) read.list
  list_part options is (unread e) = unread e
  list_part options is (whole_read fails e) =
      whole_read fails (e ∙ sym (ap (λ g. list_by g (settings_by line read.options) tree fails line.files) plain ∙ ap (λ s. list_by None s tree fails line.files) is))

  -- both were read, or the list was begun
  pub both_part : (options : Settings) → settings_by line read.options ≡ Ok options → IsPartOf [] (λ fails. reading_of tree fails options line.files) read.list → IsPartRead (Ok line) tree read
  both_part options is list = record { options = whole_read h.fails options_are; list = list_part options is list }
