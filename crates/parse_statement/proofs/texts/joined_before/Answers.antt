-- Each turn adds the text of a token.
use Rattle.std.proofs.Common.{◌≡◌, ◌<◌, ◌≤◌, min, ◌++◌, true, false, length, drop, get_or, arith, string_bytes}
use Rattle.py_language.specs.Sets.{at}
use Rattle.py_grammar.specs.Symbols.{set_of}
use Rattle.py_grammar.specs.Terminals.{code, no_terminal}
use Rattle.parse_statement.proofs.TextLaws.{joined_stop, joined_next, joined_end, joined_up, joined_on}
use Rattle.parse_statement.proofs.texts.joined_before.Goals as goal

pub returns-then-at : goal.returns-then-at
returns-then-at c =
    let line = c.args.line.now in
    let l : c.loop-place.place < c.args.rest = grind arith in
    let m : c.loop-place.place < length line = grind arith in
    let a : at code (set_of c.args.stops.now) (drop c.loop-place.place line) ≡ true = grind arith in
    joined_up _ _ _ c.loop-place.invariant (joined_stop c.args.stops.now c.loop-place.place c.args.rest line l m a)

pub loop-place-preserved : goal.loop-place-preserved
loop-place-preserved c =
    let line = c.args.line.now in
    let l : c.loop-place.place < c.args.rest = grind arith in
    let m : c.loop-place.place < length line = grind arith in
    let a : at code (set_of c.args.stops.now) (drop c.loop-place.place line) ≡ false = grind arith in
    let grown : string_bytes c.push_str.new.self ≡ string_bytes c.loop-place.texts ++ (get_or line c.loop-place.place no_terminal).text = grind arith in
    joined_on (string_bytes c.loop-place.texts) _ _ _ _ _ c.loop-place.invariant (joined_next c.args.stops.now c.loop-place.place c.args.rest line l m a) grown

pub returns : goal.returns
returns c =
    let line = c.args.line.now in
    let l : min c.args.rest (length line) ≤ c.loop-place.place = grind arith in
    joined_up _ _ _ c.loop-place.invariant (joined_end c.args.stops.now c.loop-place.place c.args.rest line l)
