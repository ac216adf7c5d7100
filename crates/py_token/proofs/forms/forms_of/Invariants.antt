use Rattle.std.proofs.Common.{◌≡◌, ◌≤◌, ℕ, None}
use Rattle.std.specs.Ordering.{nat_cmp}
use Rattle.std.specs.BTreeMap.{get}
use Rattle.py_token.specs.Forms.{HasFormsUpTo}
use Rattle.py_token.proofs.forms.forms_of.Given as goal

abbrev pub invariant-loop-i : goal.invariant-loop-i
invariant-loop-i l = record {
  made : HasFormsUpTo l.i l.text l.tokens l.forms;
  fresh : (q : ℕ) → l.i ≤ q → get nat_cmp l.forms q ≡ None;
}
