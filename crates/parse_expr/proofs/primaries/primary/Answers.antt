use Rattle.std.proofs.Common.{◌≡◌, true, false, sym, arith, drop}
use Rattle.std.proofs.lemmas.Result.{err_from_is_err_and}
use Rattle.py_language.specs.Sets.{at}
use Rattle.py_grammar.specs.Terminals.{code}
use Rattle.py_grammar.specs.Firsts.{trailer_first}
use Rattle.py_grammar.specs.Reading.{atom_at, primary_at, trailer_at}
use Rattle.py_grammar.specs.ReadingLines.{phrase_at}
use Rattle.py_forest.specs.Forests.{trees}
use Rattle.parse_steps.proofs.Shrinking.{is_kept, goes_shorter}
use Rattle.parse_steps.proofs.Keeping.{keeps_phrase, keeps_atom, shrinks_trailer}
use Rattle.parse_steps.proofs.Loops.{turns_enter, turns_turn, turns_end, turns_failed}
use Rattle.parse_expr.proofs.primaries.primary.Goals as goal

pub trailers-init : goal.trailers-init
unfolding primary_at
trailers-init g c =
    turns_enter trailer_first (trailer_at (phrase_at c.args.depth)) (atom_at (phrase_at c.args.depth)) _ _ (drop c.args.rest c.args.line.now) _ c.in_ok-rest.ensures
    (is_kept (keeps_atom (phrase_at c.args.depth) (keeps_phrase c.args.depth)) _ _ (drop c.args.rest c.args.line.now) (drop c.in_ok-rest.rest c.args.line.now) c.in_ok-rest.ensures)

pub returns-in_err-rest-2 : goal.returns-in_err-rest-2
returns-in_err-rest-2 g c =
    let test : at code trailer_first (drop c.trailers.rest c.args.line.now) ≡ true = grind arith in
    let p = err_from_is_err_and c.from_residual-in_err-rest-2.result c.from_residual-in_err-rest-2.ensures.1 in
    rw (p.1, p.2)
    (turns_failed _ trailer_first (trailer_at (phrase_at c.args.depth)) (drop c.args.rest c.args.line.now) _ _ _ c.len-mark.result (drop c.trailers.rest c.args.line.now) c.trailers.invariant test c.len-mark.ensures (λ l u e1 e2. c.in_err-rest-2.ensures l u e1 e2))

pub trailers-smaller : goal.trailers-smaller
trailers-smaller g c =
    let i = c.trailers.invariant in
    goes_shorter (shrinks_trailer (phrase_at c.args.depth) (keeps_phrase c.args.depth)) (trees c.args.forest.now) _ (drop c.args.rest c.args.line.now) i.tops (drop c.trailers.rest c.args.line.now) (drop c.in_ok-rest-2.rest c.args.line.now)
    (c.in_ok-rest-2.ensures (trees c.args.forest.now) i.tops i.stands (sym c.len-mark.ensures))

pub trailers-preserved : goal.trailers-preserved
trailers-preserved g c =
    let test : at code trailer_first (drop c.trailers.rest c.args.line.now) ≡ true = grind arith in
    let i = c.trailers.invariant in
    turns_turn trailer_first (trailer_at (phrase_at c.args.depth)) (drop c.args.rest c.args.line.now) _ _ _ _ c.len-mark.result (drop c.trailers.rest c.args.line.now) _ c.trailers.invariant test c.len-mark.ensures (λ l u e1 e2. c.in_ok-rest-2.ensures l u e1 e2)
    (goes_shorter (shrinks_trailer (phrase_at c.args.depth) (keeps_phrase c.args.depth)) (trees c.args.forest.now) _ (drop c.args.rest c.args.line.now) i.tops (drop c.trailers.rest c.args.line.now) (drop c.in_ok-rest-2.rest c.args.line.now)
    (c.in_ok-rest-2.ensures (trees c.args.forest.now) i.tops i.stands (sym c.len-mark.ensures)))

pub returns : goal.returns
returns g c =
    let test : at code trailer_first (drop c.trailers.rest c.args.line.now) ≡ false = grind arith in
    turns_end trailer_first (trailer_at (phrase_at c.args.depth)) (drop c.args.rest c.args.line.now) _ _ _ _ c.trailers.invariant test
