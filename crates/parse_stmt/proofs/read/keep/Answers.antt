use Rattle.std.proofs.Common.{ℕ, List, subst}
use Rattle.parse_stmt.specs.Reading.{IsDocstringMade}
use Rattle.parse_stmt.proofs.KeptLaws.{is-kept}
use Rattle.parse_stmt.proofs.read.keep.Goals as goal

pub returns-clause-found : goal.returns-clause-found
returns-clause-found c =
    is-kept c.args.tokens.now c.args.n c.args.builder.now c.push_docstring.new.builder _ c.in_ok-docstring.docstring c.requires.form c.requires.nodes c.requires.body
    (subst (λ (body : List ℕ). IsDocstringMade c.args.builder.now c.push_docstring.new.builder body c.in_ok-docstring.docstring) c.as_slice.ensures.value c.in_ok-docstring.ensures)
