-- The options that edits give, over pylint's defaults.
use Rattle.std.specs.Prelude.{◌≡◌, ℕ, List, [], ◌++◌, ◌≤◌, ◌==◌, Bool, true, false, not, ◌&&◌, Option, None, Some, codes, nat_le, if◌then◌else◌}
use Rattle.option_words.specs.declared.option_name.OptionName.TheVariants.{ErrorsOnly, Jobs, Score, Ignore, Recursive, FailUnder, FailOn, ExitZero, IgnoredClasses, AdditionalBuiltins, LimitInferenceResults, MaxLineLength, MaxModuleLines, MaxArgs, MaxLocals, MaxReturns, MaxBranches, MaxStatements, MaxAttributes, MaxPublicMethods, MinPublicMethods, MaxParents}
use Rattle.option_words.specs.declared.option_name.Kind.{Kind}
use Rattle.option_words.specs.declared.option_name.Kind.TheVariants.{Flag, MessageNames, YesOrNo, Number, Hundredths, Texts, Path}
use Rattle.option_words.specs.OptionNames.{kind}
use Rattle.option_words.specs.Values.{hundredths_of, is_no, number_of, parts_of}
use Rattle.options.specs.declared.edits.Edit.{Edit}
use Rattle.options.specs.declared.switches.Switch.{Switch}
use Rattle.options.specs.Edits.{given}
use Rattle.options.specs.Switches.{switches_in}

-- what the options are
pub record Settings : Type 0 where
  pub errors_only : Bool
  pub jobs : ℕ
  pub score : Bool
  pub ignore : List (List ℕ)
  pub recursive : Bool
  pub fail_under : ℕ
  pub fail_on : List (List ℕ)
  pub exit_zero : Bool
  pub ignored_classes : List (List ℕ)
  pub additional_builtins : List (List ℕ)
  pub limit_inference_results : ℕ
  pub max_line_length : ℕ
  pub max_module_lines : ℕ
  pub max_args : ℕ
  pub max_locals : ℕ
  pub max_returns : ℕ
  pub max_branches : ℕ
  pub max_statements : ℕ
  pub max_attributes : ℕ
  pub max_public_methods : ℕ
  pub min_public_methods : ℕ
  pub max_parents : ℕ
  pub switches : List Switch

-- a number is one that the option may have
abbrev pub is_in_range : Kind → ℕ → Bool
is_in_range Flag n = false
is_in_range MessageNames n = false
is_in_range YesOrNo n = false
is_in_range (Number low high) n = nat_le low n && nat_le n high
is_in_range Hundredths n = nat_le n 1000
is_in_range Texts n = false
is_in_range Path n = false

-- each number is within the range of its option, and there is at least one worker
pub record IsInRange (s : Settings) : Type 0 where
  pub some_worker : 1 ≤ s.jobs
  pub jobs : is_in_range (kind Jobs) s.jobs ≡ true
  pub fail_under : is_in_range (kind FailUnder) s.fail_under ≡ true
  pub limit_inference_results : is_in_range (kind LimitInferenceResults) s.limit_inference_results ≡ true
  pub max_line_length : is_in_range (kind MaxLineLength) s.max_line_length ≡ true
  pub max_module_lines : is_in_range (kind MaxModuleLines) s.max_module_lines ≡ true
  pub max_args : is_in_range (kind MaxArgs) s.max_args ≡ true
  pub max_locals : is_in_range (kind MaxLocals) s.max_locals ≡ true
  pub max_returns : is_in_range (kind MaxReturns) s.max_returns ≡ true
  pub max_branches : is_in_range (kind MaxBranches) s.max_branches ≡ true
  pub max_statements : is_in_range (kind MaxStatements) s.max_statements ≡ true
  pub max_attributes : is_in_range (kind MaxAttributes) s.max_attributes ≡ true
  pub max_public_methods : is_in_range (kind MaxPublicMethods) s.max_public_methods ≡ true
  pub min_public_methods : is_in_range (kind MinPublicMethods) s.min_public_methods ≡ true
  pub max_parents : is_in_range (kind MaxParents) s.max_parents ≡ true

-- what a value says, or the default where there is none
abbrev pub number_or : ℕ → Option (List ℕ) → ℕ
number_or default None = default
number_or default (Some value) = number_of value

abbrev pub hundredths_or : ℕ → Option (List ℕ) → ℕ
hundredths_or default None = default
hundredths_or default (Some value) = hundredths_of value

-- a flag that is given is on, unless the options file says no
abbrev pub truth_or : Bool → Option (List ℕ) → Bool
truth_or default None = default
truth_or default (Some value) = not (is_no value)

-- the default is written as a value is
abbrev pub texts_or : List ℕ → Option (List ℕ) → List (List ℕ)
texts_or default None = parts_of default
texts_or default (Some value) = parts_of value

-- no number of workers is four
abbrev pub workers : ℕ → ℕ
workers n = if n == 0 then 4 else n

-- the options of the file's edits and the line's, of which the line's count before the file's
abbrev pub options_of : List Edit → List Edit → Settings
options_of file line = record {
  errors_only = truth_or false (given ErrorsOnly file line);
  jobs = workers (number_or 1 (given Jobs file line));
  score = truth_or true (given Score file line);
  ignore = texts_or (codes "CVS") (given Ignore file line);
  recursive = truth_or false (given Recursive file line);
  fail_under = hundredths_or 1000 (given FailUnder file line);
  fail_on = texts_or [] (given FailOn file line);
  exit_zero = truth_or false (given ExitZero file line);
  ignored_classes = texts_or (codes "optparse.Values,thread._local,_thread._local,argparse.Namespace") (given IgnoredClasses file line);
  additional_builtins = texts_or [] (given AdditionalBuiltins file line);
  limit_inference_results = number_or 100 (given LimitInferenceResults file line);
  max_line_length = number_or 100 (given MaxLineLength file line);
  max_module_lines = number_or 1000 (given MaxModuleLines file line);
  max_args = number_or 5 (given MaxArgs file line);
  max_locals = number_or 15 (given MaxLocals file line);
  max_returns = number_or 6 (given MaxReturns file line);
  max_branches = number_or 12 (given MaxBranches file line);
  max_statements = number_or 50 (given MaxStatements file line);
  max_attributes = number_or 7 (given MaxAttributes file line);
  max_public_methods = number_or 20 (given MaxPublicMethods file line);
  min_public_methods = number_or 2 (given MinPublicMethods file line);
  max_parents = number_or 7 (given MaxParents file line);
  switches = switches_in file ++ switches_in line;
}
