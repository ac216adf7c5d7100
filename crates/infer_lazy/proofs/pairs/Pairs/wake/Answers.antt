use Rattle.std.proofs.Common.{rules, ◌≡◌, [], ℕ, List, map, sym, ◌∙◌, ap}
use Rattle.std.specs.List.{filter}
use Rattle.std.specs.declared.ops.Bound.TheVariants.{Included}
use Rattle.std.specs.BTreeMap.Range.{range_contains}
use Rattle.infer_lazy.specs.Pairs.{pair_cmp, readers}
use Rattle.infer_lazy.specs.Waiting.{with_places}
use Rattle.infer_lazy.proofs.Readers.{of_var, readers-are}
use Rattle.infer_lazy.proofs.pairs.Pairs.wake.Goals as goal

pub returns : goal.returns
returns c =
    let none : c.loop-pair.pair-iterator ≡ [] = search rules in
    let all : c.range-pair-items.result ≡ filter (of_var c.args.var) c.self.inside.pairs.keys =
    c.range-pair-items.ensures.between (search rules)
    ∙ (λ i. filter (range_contains pair_cmp (Included (c.new.ensures.start i)) (Included (c.new.ensures.end i))) c.self.inside.pairs.keys) in
    ap (λ (ps : List (ℕ × ℕ)). with_places c.loop-pair.waiting (map (λ (p : ℕ × ℕ). p.1) ps)) (sym none)
    ∙ c.loop-pair.invariant
    ∙ ap (λ (ps : List (ℕ × ℕ)). with_places c.args.waiting.now (map (λ (p : ℕ × ℕ). p.1) ps)) (c.into_iter-pair-iterator.ensures.into_iter_gives ∙ all)
    ∙ ap (λ xs. with_places c.args.waiting.now xs) (readers-are c.args.var c.self.inside.pairs.keys c.self.invariant)
    ∙ ap (λ ps. with_places c.args.waiting.now (readers c.args.var ps)) c.self.view_is
