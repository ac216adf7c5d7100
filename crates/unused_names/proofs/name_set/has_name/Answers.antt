use Rattle.std.proofs.Common.{ℕ, List, ap, ◌∙◌}
use Rattle.std.specs.BTreeSet.{contains_by}
use Rattle.std.specs.Ordering.{nat_cmp}
use Rattle.std.specs.Cmp.Lexicographic.{slice_cmp}
use Rattle.unused_names.proofs.name_set.has_name.Goals as goal

pub returns : goal.returns
returns c = λ ns h. c.contains.ensures ∙ ap (λ (x : List ℕ). contains_by (λ k. slice_cmp nat_cmp x k.items) c.args.names.now) c.as_bytes.ensures.value ∙ h.has c.args.name.now
