use Rattle.std.proofs.Common.{rules, ◌≡◌, IfOk, length, subst}
use Rattle.std.proofs.lemmas.List.{get_or_read}
use Rattle.infer_equations.specs.Reading.{Gives}
use Rattle.infer_systems.specs.declared.rule.Rule.TheVariants.{Nothing}
use Rattle.infer_systems.specs.Rules.{rule_right, rule_reads, rule_at}
use Rattle.infer_systems.proofs.system.SystemEquations.eval.Goals as goal

pub returns-clause-gives : goal.returns-clause-gives
returns-clause-gives g c =
    let e = c.args.self.now in
    let rule : c.index-rule.result.now ≡ rule_at e.rules.items c.args.var = get_or_read e.rules.items c.args.var c.index-rule.result.now c.requires c.index-rule.ensures Nothing in
    let n : c.len.result ≡ length e.rules.items = search rules in
    subst (λ r. IfOk c.right_side.result (λ id. Gives (rule_right (length e.rules.items) e.limit r) (rule_reads (length e.rules.items) r) c.args.view.now c.right_side.new.view id)) rule
    (subst (λ k. IfOk c.right_side.result (λ id. Gives (rule_right k e.limit c.index-rule.result.now) (rule_reads k c.index-rule.result.now) c.args.view.now c.right_side.new.view id)) n c.right_side.ensures.gives)
