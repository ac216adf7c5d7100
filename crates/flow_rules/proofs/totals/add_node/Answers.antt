use Rattle.std.proofs.Common.{sym, ap, ◌∙◌, arith}
use Rattle.flow_rules.specs.Sizes.{part_of}
use Rattle.rule_nodes.proofs.Above.{owner_made}
use Rattle.flow_rules.proofs.TotalLaws.{total_few, totalled_more}
use Rattle.flow_rules.proofs.totals.add_node.Goals as goal

pub add_part-requires-clause-within : goal.add_part-requires-clause-within
add_part-requires-clause-within c = λ d e. omega (arith, c.requires.so_far.all, owner_made c.args.tree.now c.args.n.0 d c.requires.made (sym c.owner_in-owner.ensures ∙ e))

pub add_part-requires-clause-few : goal.add_part-requires-clause-few
add_part-requires-clause-few c = λ d e.
    omega (
      arith,
      total_few c.args.size c.args.tree.now c.args.n.0 d c.args.totals.now (owner_made c.args.tree.now c.args.n.0 d c.requires.made (sym c.owner_in-owner.ensures ∙ e)) c.requires.few c.requires.so_far,
      c.part_of-part.ensures ∙ ap (part_of c.args.size) c.kind.ensures,
    )

pub returns : goal.returns
returns c =
    totalled_more c.args.size c.args.tree.now c.args.n.0 c.owner_in-owner.result c.part_of-part.result c.args.totals.now c.add_part.new.totals c.owner_in-owner.ensures
    (λ d e. owner_made c.args.tree.now c.args.n.0 d c.requires.made (sym c.owner_in-owner.ensures ∙ e)) (c.part_of-part.ensures ∙ ap (part_of c.args.size) c.kind.ensures) c.add_part.ensures c.requires.so_far
