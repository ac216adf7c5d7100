use Rattle.std.proofs.Common.{◌≡◌, ◌∷◌, ◌++◌, take, string_bytes}
use Rattle.std.specs.List.{flat_map}
use Rattle.options.proofs.file.push_behind_commas.Given as goal

abbrev pub invariant-loop-text : goal.invariant-loop-text
invariant-loop-text l = string_bytes l.out ≡ string_bytes l.initial.out ++ flat_map (λ t. 44 ∷ t) (take l.text-index l.texts)
