use Rattle.std.proofs.Common.{◌≡◌, true, false, arith, drop}
use Rattle.std.proofs.lemmas.Result.{err_from_is_err_and}
use Rattle.py_language.specs.Sets.{at}
use Rattle.py_language.specs.Readers.{behind, many}
use Rattle.py_grammar.specs.Terminals.{code}
use Rattle.py_grammar.specs.ReadingLines.{phrase_at}
use Rattle.py_forest.specs.Forests.{trees}
use Rattle.parse_steps.proofs.Shrinking.{is_shorter}
use Rattle.parse_steps.proofs.Loops.{loop_begin, loop_turn, loop_end, loop_failed}
use Rattle.parse_statement.specs.Rounds.{round_first, round_at}
use Rattle.parse_statement.proofs.Repeated.{shrinks_round}
use Rattle.parse_statement.proofs.round.again.Goals as goal

pub rounds-init : goal.rounds-init
rounds-init g c = loop_begin (round_first c.args.round) (round_at (phrase_at c.args.depth) c.args.round) (trees c.args.forest.now) (drop c.args.rest c.args.line.now)

pub rounds-smaller : goal.rounds-smaller
rounds-smaller g c = is_shorter (shrinks_round c.args.depth c.args.round) _ _ (drop c.rounds.rest c.args.line.now) (drop c.in_ok-rest.rest c.args.line.now) c.in_ok-rest.ensures

pub rounds-preserved : goal.rounds-preserved
rounds-preserved g c =
    let test : at code (round_first c.args.round) (drop c.rounds.rest c.args.line.now) ≡ true = grind arith in
    loop_turn (round_first c.args.round) (round_at (phrase_at c.args.depth) c.args.round) _ _ _ (drop c.rounds.rest c.args.line.now) _ c.rounds.invariant test c.in_ok-rest.ensures
    (is_shorter (shrinks_round c.args.depth c.args.round) _ _ (drop c.rounds.rest c.args.line.now) (drop c.in_ok-rest.rest c.args.line.now) c.in_ok-rest.ensures)

pub returns : goal.returns
returns g c =
    let test : at code (round_first c.args.round) (drop c.rounds.rest c.args.line.now) ≡ false = grind arith in
    loop_end (round_first c.args.round) (round_at (phrase_at c.args.depth) c.args.round) _ _ (drop c.rounds.rest c.args.line.now) c.rounds.invariant test

pub returns-in_err-rest : goal.returns-in_err-rest
returns-in_err-rest g c =
    let step = round_at (phrase_at c.args.depth) c.args.round in
    let test : at code (round_first c.args.round) (drop c.rounds.rest c.args.line.now) ≡ true = grind arith in
    let same = err_from_is_err_and c.from_residual.result c.from_residual.ensures.1 in
    rw (same.1, same.2)
    (loop_failed _ (round_first c.args.round) step (behind (trees c.args.forest.now) (many code (round_first c.args.round) step (drop c.args.rest c.args.line.now))) _ (drop c.rounds.rest c.args.line.now) c.rounds.invariant test c.in_err-rest.ensures)
