use Rattle.std.proofs.Common.{ℕ, ◌<◌}
use Rattle.std.proofs.lemmas.Map.Views.{All-insert_key}
use Rattle.infer_lazy.specs.Pairs.{pair_cmp}
use Rattle.infer_lazy.proofs.pairs.Pairs.add.Goals as goal

pub invariant_of-self-2 : goal.invariant_of-self-2
invariant_of-self-2 c =
    rw c.in_ok-insert.ensures.keys (All-insert_key pair_cmp (c.args.read, c.args.reader) (λ (q : ℕ × ℕ). q.1 < 18446744073709551616) c.self.inside.pairs.keys c.self.invariant c.ranges.reader.fits)
