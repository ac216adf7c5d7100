-- Each turn makes what stands there and a name into one node.
use Rattle.std.proofs.Common.{◌≡◌, true, false, drop, sym, arith}
use Rattle.std.proofs.lemmas.Result.{err_from_is_err_and}
use Rattle.tree_nodes.specs.declared.kind.Kind.TheVariants as kinds
use Rattle.py_language.specs.Languages.{whole}
use Rattle.py_language.specs.Sets.{at}
use Rattle.py_language.specs.Readers.{Cont, both, extended}
use Rattle.py_grammar.specs.Terminals.{Terminal, code}
use Rattle.py_grammar.specs.Words.{dot, name}
use Rattle.py_grammar.specs.Nodes.{called, last_text, atom_leaf}
use Rattle.py_grammar.specs.Reading.{token, leaf}
use Rattle.py_grammar.specs.ReadingPatterns.{dotted_name_at}
use Rattle.py_forest.specs.Forests.{trees}
use Rattle.parse_steps.proofs.Shrinking.{is_kept, goes_shorter}
use Rattle.parse_steps.proofs.Keeping.{keeps_name, shrinks_dotted}
use Rattle.parse_steps.proofs.Loops.{turns_enter, turns_turn, turns_end, turns_failed}
use Rattle.parse_pattern.proofs.names.dotted_name.Goals as goal

abbrev step : Cont Terminal
step = extended (whole (called kinds.Attribute last_text)) (both (token dot) (token name))

pub dots-init : goal.dots-init
dots-init c = turns_enter dot step (leaf atom_leaf name) _ _ (drop c.args.rest c.args.line.now) _ c.in_ok-rest.ensures (is_kept keeps_name _ _ (drop c.args.rest c.args.line.now) _ c.in_ok-rest.ensures)

pub returns-in_err-rest-2 : goal.returns-in_err-rest-2
unfolding dotted_name_at
returns-in_err-rest-2 c self =
    let test : at code dot (drop c.dots.rest c.args.line.now) ≡ true = grind arith in
    let p = err_from_is_err_and c.from_residual-in_err-rest-2.result c.from_residual-in_err-rest-2.ensures.1 in
    rw (p.1, p.2) (turns_failed _ dot step _ _ _ _ c.len-mark.result (drop c.dots.rest c.args.line.now) c.dots.invariant test c.len-mark.ensures (λ l u e1 e2. c.in_err-rest-2.ensures l u e1 e2))

pub dots-smaller : goal.dots-smaller
dots-smaller c =
    let i = c.dots.invariant in
    goes_shorter shrinks_dotted (trees c.args.forest.now) _ (drop c.args.rest c.args.line.now) i.tops (drop c.dots.rest c.args.line.now) (drop c.in_ok-rest-2.rest c.args.line.now) (c.in_ok-rest-2.ensures (trees c.args.forest.now) i.tops i.stands (sym c.len-mark.ensures))

pub dots-preserved : goal.dots-preserved
dots-preserved c =
    let test : at code dot (drop c.dots.rest c.args.line.now) ≡ true = grind arith in
    let i = c.dots.invariant in
    turns_turn dot step _ _ _ _ _ c.len-mark.result (drop c.dots.rest c.args.line.now) _ c.dots.invariant test c.len-mark.ensures (λ l u e1 e2. c.in_ok-rest-2.ensures l u e1 e2)
    (goes_shorter shrinks_dotted (trees c.args.forest.now) _ (drop c.args.rest c.args.line.now) i.tops (drop c.dots.rest c.args.line.now) (drop c.in_ok-rest-2.rest c.args.line.now) (c.in_ok-rest-2.ensures (trees c.args.forest.now) i.tops i.stands (sym c.len-mark.ensures)))

pub returns : goal.returns
unfolding dotted_name_at
returns c self =
    let test : at code dot (drop c.dots.rest c.args.line.now) ≡ false = grind arith in
    turns_end dot step _ _ _ _ _ c.dots.invariant test
