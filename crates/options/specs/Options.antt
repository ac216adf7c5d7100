-- The fields of the options, as contracts see them.
use Rattle.options.specs.declared.settings.Options.TheInside.{Inside}
use Rattle.options.specs.Settings.{IsInRange, Settings}

abbrev pub settings_in : Inside → Settings
settings_in o = record {
  errors_only = o.errors_only;
  jobs = o.jobs;
  score = o.score;
  ignore = o.ignore;
  recursive = o.recursive;
  fail_under = o.fail_under;
  fail_on = o.fail_on;
  exit_zero = o.exit_zero;
  ignored_classes = o.ignored_classes;
  additional_builtins = o.additional_builtins;
  limit_inference_results = o.limit_inference_results;
  max_line_length = o.max_line_length;
  max_module_lines = o.max_module_lines;
  max_args = o.max_args;
  max_locals = o.max_locals;
  max_returns = o.max_returns;
  max_branches = o.max_branches;
  max_statements = o.max_statements;
  max_attributes = o.max_attributes;
  max_public_methods = o.max_public_methods;
  min_public_methods = o.min_public_methods;
  max_parents = o.max_parents;
  switches = o.switches.items;
}

abbrev pub are_in_range : Inside → Type 0
are_in_range o = IsInRange (settings_in o)
