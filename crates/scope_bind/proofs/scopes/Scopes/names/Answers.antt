use Rattle.std.proofs.Common.{◌≡◌, sym, subst}
use Rattle.scope_rules.specs.Answers.{AreNamesOf}
use Rattle.scope_bind.proofs.NameLaws.{names_of_scope}
use Rattle.scope_bind.proofs.scopes.Scopes.names.Goals as goal

pub returns : goal.returns
returns c = λ t h. subst (AreNamesOf t c.args.s.0) (sym c.names.ensures) (names_of_scope t c.args.self.now.local_names c.args.s.0 h.local_names)
