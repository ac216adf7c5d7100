-- The reading of all arguments: what was found, and what was read of it.
use Rattle.std.proofs.Common.{◌≡◌, ℕ, ◌+◌, ◌≤◌, List, ◌++◌, length, Option, refl, sym, ap, subst, ◌∙◌, arith, length-append, append_assoc}
use Rattle.std.specs.Prelude.{count_by}
use Rattle.std.specs.Option.{ForSome}
use Rattle.lint_outside.specs.Causes.{RoseBy}
use Rattle.lint_outside.specs.FileTree.{FileTree}
use Rattle.lint_outside.specs.declared.outside.Question.{Question}
use Rattle.options.specs.Settings.{Settings}
use Rattle.file_list.specs.declared.entry.Listed.{Listed}
use Rattle.file_list.specs.declared.found.Found.{Found}
use Rattle.file_list.specs.Answers.{answers_of, most_entries}
use Rattle.file_list.specs.Contents.{Finds, Reads, has_failed}
use Rattle.file_list.specs.Entries.{is_failed}
use Rattle.file_list.specs.Gathered.{IsReadingOf, read_all}
use Rattle.file_list.proofs.Readings.{more_rise}

module _ (held held_now : Option FileTree) (c0 c1 c2 : ℕ) (f0 f1 f2 : List Question) (options : Settings) (arguments : List (List ℕ)) (found : List Found) (reading : List Listed)
    (same : held_now ≡ held) (finds : Finds held c0 c1 f0 f1 options arguments found) (reads : Reads held_now c1 c2 f1 f2 found reading) where
  pub gathers : ForSome held (λ tree. IsReadingOf tree f0 f2 c0 c2 options arguments reading)
  gathers = λ tree told.
      let first = finds.told tree told in
      let long : length (first.fails ++ reads.unread) ≡ length first.fails + length reads.unread = length-append first.fails reads.unread in
      record {
        fails = first.fails ++ reads.unread;
        grown = reads.grown tree (same ∙ told) ∙ ap (λ q. q ++ reads.unread) first.grown ∙ append_assoc f0 first.fails reads.unread;
        rose = more_rise (length first.fails) (length reads.unread) (length first.fails) (length reads.unread) c0 c1 c2 refl refl first.rose reads.rose (length (first.fails ++ reads.unread)) long;
        is = reads.is tree (same ∙ told) first.fails first.no_read ∙ ap (read_all (answers_of tree (first.fails ++ reads.unread))) (first.is reads.unread reads.looks reads.names);
      }

  fewer_rise : (failed found_failed unread : ℕ) → failed ≤ found_failed + unread → RoseBy found_failed c0 c1 → RoseBy unread c1 c2 → RoseBy failed c0 c2
  fewer_rise failed found_failed unread few one two = omega arith

  pub gathers_failed : RoseBy (count_by is_failed reading) c0 c2
  gathers_failed = fewer_rise (count_by is_failed reading) (count_by has_failed found) (length reads.unread) reads.few finds.failed reads.rose

  pub gathers_few : length reading ≤ most_entries + 1
  gathers_few = subst (λ n. n ≤ most_entries + 1) (sym reads.many) finds.few
