use Rattle.std.proofs.Common.{◌≡◌, IfOk, ◌%◌, sym, subst}
use Rattle.infer_sets.specs.Sets.{joined}
use Rattle.infer_equations.specs.Reading.{Gives}
use Rattle.infer_systems.specs.Rules.{with_reads}
use Rattle.infer_systems.proofs.Readings.{as_rule}
use Rattle.infer_systems.proofs.system.right_side.Goals as goal

pub returns-in-Copy-clause-gives : goal.returns-in-Copy-clause-gives
returns-in-Copy-clause-gives c =
    as_rule c.args.count c.args.limit _ _ _ _ c.with.result c.in-Copy.is
    (subst (λ m. IfOk c.with.result (λ id. Gives (λ a. joined c.args.limit (a (c.in-Copy.var % c.args.count)) m) (λ _. with_reads (c.in-Copy.var % c.args.count)) c.args.view.now c.with.new.view id)) c.empty-in-Copy.ensures c.with.ensures.gives)

pub returns-in_ok-one-in-More-clause-gives : goal.returns-in_ok-one-in-More-clause-gives
returns-in_ok-one-in-More-clause-gives c =
    as_rule c.args.count c.args.limit _ _ _ _ c.with-in-More.result c.in-More.is
    (subst (λ m. IfOk c.with-in-More.result (λ id. Gives (λ a. joined c.args.limit (a (c.in-More.var % c.args.count)) m) (λ _. with_reads (c.in-More.var % c.args.count)) c.args.view.now c.with-in-More.new.view id)) c.in_ok-one-in-More.ensures c.with-in-More.ensures.gives)

pub returns-in-Both-clause-gives : goal.returns-in-Both-clause-gives
returns-in-Both-clause-gives c = as_rule c.args.count c.args.limit _ _ _ _ c.both.result c.in-Both.is c.both.ensures.gives

pub returns-in-When-clause-gives : goal.returns-in-When-clause-gives
returns-in-When-clause-gives c = as_rule c.args.count c.args.limit _ _ _ _ c.when.result c.in-When.is c.when.ensures.gives

pub returns-in-Row-clause-gives : goal.returns-in-Row-clause-gives
returns-in-Row-clause-gives c = as_rule c.args.count c.args.limit _ _ _ _ c.row.result c.in-Row.is c.row.ensures.gives
