use Rattle.std.proofs.Common.{◌≡◌, ◌++◌, map, drop, string_bytes}
use Rattle.lint_messages.specs.Templates.{behind_arguments}
use Rattle.lint_messages.proofs.template.push_behind_arguments.Given as goal

abbrev pub invariant-loop-word : goal.invariant-loop-word
invariant-loop-word l =
    string_bytes l.text ++ behind_arguments (map (λ w. w.now) (drop l.word-index l.words)) l.args
    ≡ string_bytes l.initial.text ++ behind_arguments (map (λ w. w.now) l.words) l.initial.args
