use Rattle.std.proofs.Common.{◌≡◌, ◌++◌, List, subst}
use Rattle.std.specs.Prelude.{OnOk}
use Rattle.lint_messages.specs.declared.message.Message.{Message}
use Rattle.scope_rules.specs.Binding.{binds}
use Rattle.unused_names.proofs.FirstBinders.{plain_is}
use Rattle.unused_names.proofs.Names.{node_some, node_later}
use Rattle.unused_names.proofs.unused.check_bound.Goals as goal

pub first_home-requires-clause-bound : goal.first_home-requires-clause-bound
first_home-requires-clause-bound c = plain_is (binds c.args.tree.now c.args.n.0) c.args.name.now c.requires.bound

pub returns-in-Some : goal.returns-in-Some
returns-in-Some c =
    let is = node_some c.args.file c.args.is_package c.args.tree.now c.args.n.0 c.in-Some.scope c.args.name.now c.requires.bound c.in-Some.ensures.value in
    subst (λ (ms : List Message). OnOk c.check_name.result (c.check_name.new.found ≡ c.args.found.now ++ ms)) is c.check_name.ensures

pub returns-in-None : goal.returns-in-None
returns-in-None c = node_later c.args.file c.args.is_package c.args.tree.now c.args.n.0 c.args.name.now c.args.found.now c.requires.bound c.in-None.ensures.value
