use Rattle.std.proofs.Common.{subst}
use Rattle.lint_values.specs.declared.place.Pos.{Pos}
use Rattle.py_token.specs.FirstFault.{IsTextFault}
use Rattle.py_token.specs.Tokenized.{FaultsOnly, GivesOnly, IsRead, Tokenized}
use Rattle.py_token.specs.declared.fault.TokenCause.{TokenCause}
use Rattle.py_token.proofs.OneAnswer.{every_in_field, every_fault_in_field}
use Rattle.py_token.proofs.whole.tokenize_field.Goals as goal

pub returns-clause-every : goal.returns-clause-every
returns-clause-every c =
    subst (λ setting. (read : Tokenized) → IsRead setting c.args.text.now read → GivesOnly c.read.result read) c.inside_at.ensures (every_in_field _ _ _ c.read.ensures.read c.read.ensures.fault)

pub returns-clause-every_fault : goal.returns-clause-every_fault
returns-clause-every_fault c =
    subst (λ setting. (pos : Pos) (cause : TokenCause) → IsTextFault setting c.args.text.now pos cause → FaultsOnly c.read.result pos cause) c.inside_at.ensures (every_fault_in_field _ _ _ c.read.ensures.read c.read.ensures.fault)
