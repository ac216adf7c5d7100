use Rattle.std.proofs.Common.{◌≡◌, ◌++◌, take}
use Rattle.options.proofs.words.take_files.Given as goal

abbrev pub invariant-loop-word : goal.invariant-loop-word
invariant-loop-word l = record { edits : l.said.edits ≡ l.initial.said.edits; files : l.said.files ≡ l.initial.said.files ++ take l.word-index l.words }
