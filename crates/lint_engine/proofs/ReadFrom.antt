-- What was read: the options file and then the files.
use Rattle.std.proofs.Common.{◌≡◌, ℕ, true, false, ◌||◌, List, [], ◌++◌, Option, None, Some, refl, sym, ap, subst, ◌∙◌, append_assoc, append-nil, arith}
use Rattle.std.specs.Prelude.{Ok, Err, is_err, is_some}
use Rattle.lint_outside.specs.FileTree.{FileTree}
use Rattle.lint_outside.specs.declared.outside.Question.{Question}
use Rattle.options.specs.declared.line.Line.{Line}
use Rattle.options.specs.declared.usage.UsageFault.{UsageFault}
use Rattle.options.specs.Settings.{Settings}
use Rattle.file_list.specs.Gathered.{IsReadingOf}
use Rattle.options_file.specs.Reading.{IsOptionsReadOf, options_at, options_path}
use Rattle.options_file.specs.Settings.{settings_by, settings_of}
use Rattle.lint_report.specs.declared.outcome.OptionsRead.TheVariants.{NotLooked}
use Rattle.lint_report.specs.declared.outcome.Whole.{Whole}
use Rattle.lint_engine.specs.Command.{Said, IsReadFrom, IsInOrder, files_of, generate_of, is_unlisted, is_unlooked, list_by, options_by, options_for}

no_error : false ≡ true → ⊥
no_error e = cc

-- the words are refused: nothing is asked
module _ (said : Said) (fault : UsageFault) (is : said ≡ Err fault) (read : Whole) (options : read.options ≡ NotLooked) (list : read.list ≡ []) where
  pub nothing_read : (tree : FileTree) (failed : List Question) (count : ℕ) → IsReadFrom said tree failed failed count count read
  nothing_read tree failed count = record {
    options_fails = [];
    list_fails = [];
    grown = sym (append-nil failed);
    rose = omega arith;
    options = options ∙ sym (ap (λ s. options_by s tree []) is);
    list = subst (λ s. read.list ≡ list_by (generate_of s) (settings_of s read.options) tree [] (files_of s)) (sym is) list;
    not_looked = λ e. refl;
    not_listed = λ e. refl;
  }

  pub nothing_in_order : IsInOrder said read
  nothing_in_order = record { looked = (λ e. options, λ e. subst (λ s. is_unlooked s ≡ true) (sym is) refl); listed = λ e. list }

-- the words ask for a made text: nothing is asked
module _ (said : Said) (line : Line) (classes : ℕ) (is : said ≡ Ok line) (made : line.generate ≡ Some classes) (read : Whole) (options : read.options ≡ NotLooked) (list : read.list ≡ []) where
  generated : generate_of said ≡ Some classes
  generated = ap generate_of is ∙ made

  pub made_read : (tree : FileTree) (failed : List Question) (count : ℕ) → IsReadFrom said tree failed failed count count read
  made_read tree failed count = record {
    options_fails = [];
    list_fails = [];
    grown = sym (append-nil failed);
    rose = omega arith;
    options = options ∙ sym (ap (λ s. options_by s tree []) is ∙ ap (λ g. options_for g (options_at tree [] (options_path line.rcfile))) made);
    list = list ∙ sym (ap (λ g. list_by g (settings_of said read.options) tree [] (files_of said)) generated);
    not_looked = λ e. refl;
    not_listed = λ e. refl;
  }

  pub made_in_order : IsInOrder said read
  made_in_order = record { looked = (λ e. options, λ e. ap is_unlooked is ∙ ap is_some made); listed = λ e. list }

no_text : (generate : Option ℕ) → generate ≡ None → is_some generate ≡ true → ⊥
no_text generate plain e = no_error (sym (ap is_some plain) ∙ e)

-- the options file is refused: no file is asked
module _ (line : Line) (plain : line.generate ≡ None) (fault : UsageFault) (read : Whole) (is : settings_by line read.options ≡ Err fault) (list : read.list ≡ []) where
  pub options_alone : (tree : FileTree) (before now : List Question) (count_before count_now : ℕ) → IsOptionsReadOf tree before now count_before count_now (options_path line.rcfile) read.options → IsReadFrom (Ok line) tree before now count_before count_now read
  options_alone tree before now count_before count_now h = record {
    options_fails = h.fails;
    list_fails = [];
    grown = h.grown ∙ ap (λ q. before ++ q) (sym (append-nil h.fails));
    rose = let r = h.rose in omega arith;
    options = h.is ∙ sym (ap (λ g. options_for g (options_at tree h.fails (options_path line.rcfile))) plain);
    list = list ∙ sym (ap (λ g. list_by g (settings_by line read.options) tree [] line.files) plain ∙ ap (λ s. list_by None s tree [] line.files) is);
    not_looked = λ e. absurd (no_text line.generate plain e);
    not_listed = λ e. refl;
  }

  pub alone_in_order : (read.options ≡ NotLooked → ⊥) → IsInOrder (Ok line) read
  alone_in_order looked = record { looked = (λ e. absurd (no_text line.generate plain e), λ e. absurd (looked e)); listed = λ e. list }

-- both are read
module _ (line : Line) (plain : line.generate ≡ None) (options : Settings) (read : Whole) (is : settings_by line read.options ≡ Ok options) where
  listed : is_unlisted (Ok line) (settings_by line read.options) ≡ true → ⊥
  listed e = no_error (sym (ap (λ g. is_some g || is_err (settings_by line read.options)) plain ∙ ap is_err is) ∙ e)

  pub both_read : (tree : FileTree) (before between now : List Question) (count_before count_between count_now : ℕ) → IsOptionsReadOf tree before between count_before count_between (options_path line.rcfile) read.options
      → IsReadingOf tree between now count_between count_now options line.files read.list → IsReadFrom (Ok line) tree before now count_before count_now read
  both_read tree before between now count_before count_between count_now h l = record {
    options_fails = h.fails;
    list_fails = l.fails;
    grown = l.grown ∙ ap (λ q. q ++ l.fails) h.grown ∙ append_assoc before h.fails l.fails;
    rose = let r = h.rose in let s = l.rose in omega arith;
    options = h.is ∙ sym (ap (λ g. options_for g (options_at tree h.fails (options_path line.rcfile))) plain);
    list = l.is ∙ sym (ap (λ g. list_by g (settings_by line read.options) tree l.fails line.files) plain ∙ ap (λ s. list_by None s tree l.fails line.files) is);
    not_looked = λ e. absurd (no_text line.generate plain e);
    not_listed = λ e. absurd (listed e);
  }

  pub both_in_order : (read.options ≡ NotLooked → ⊥) → IsInOrder (Ok line) read
  both_in_order looked = record { looked = (λ e. absurd (no_text line.generate plain e), λ e. absurd (looked e)); listed = λ e. absurd (listed e) }
