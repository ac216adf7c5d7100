use Rattle.std.proofs.Common.{◌≡◌, ◌≤◌, ◌+◌, ◌*◌, length}
use Rattle.std.specs.Prelude.{string_bytes}
use Rattle.made_text.specs.MadeText.{made_text}
use Rattle.made_text.proofs.text.made_text.Given as goal

abbrev pub invariant-loop-i : goal.invariant-loop-i
invariant-loop-i l = record {
  text : string_bytes l.text ≡ made_text l.i;
  short : length (string_bytes l.text) ≤ 16 + l.i * 128;
}
